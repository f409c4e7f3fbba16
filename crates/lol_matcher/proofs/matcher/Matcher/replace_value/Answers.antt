use Rattle.std.proofs.Common.{rules, map, ap, ◌∙◌, refl, sym, subst}
use Rattle.lol_machine.specs.Views.{selectors}
use Rattle.lol_machine.specs.Vms.{data_in}
use Rattle.lol_matcher.specs.Last.{IsLast}
use Rattle.lol_matcher.specs.Told.{heard}
use Rattle.lol_matcher.specs.declared.open_element.OpenElement.{OpenElement}
use Rattle.lol_matcher.proofs.Charges.{charged_on}
use Rattle.lol_matcher.proofs.Opened.{change_last-map}
use Rattle.lol_matcher.proofs.Values.{runs_on, waits_on}
use Rattle.lol_matcher.proofs.matcher.Matcher.replace_value.Goals as goal

pub invariant_of-self : goal.invariant_of-self
invariant_of-self g c =
    let h = c.self.inside.past.history in
    let keeps = c.self.invariant in
    let vm = c.self.inside.vm in
    let call = c.replace_value in
    record {
      charged = charged_on vm call.new.vm c.self.inside.limiter call.ensures.running keeps.charged;
      has_open = call.ensures.running.has_open h.open_elements keeps.has_open;
      runs = λ ok. runs_on (selectors h.told.ast) h.told.esi (heard h.told) vm call.new.vm c.self.inside.limiter call.ensures.running (keeps.runs ok);
      waits = λ ok. waits_on (selectors h.told.ast) h.told.esi h.told.events h.told.asked vm call.new.vm c.self.inside.request call.ensures.pending (keeps.waits ok);
      told_open = keeps.told_open;
      room = keeps.room;
      numbered =
          ap (map (λ (e : OpenElement _). e.number)) call.ensures.changed
          ∙ (change_last-map (λ (e : OpenElement _). record e { value = c.args.value }) (λ (e : OpenElement _). e.number) (λ e. refl) (data_in vm) ∙ keeps.numbered);
      counted = keeps.counted;
      last = λ ok. subst (λ tries. IsLast (selectors h.told.ast) h.told c.self.inside.matches.items tries c.self.inside.opened) (sym call.ensures.running.tries) (keeps.last ok);
      silent = keeps.silent;
    }

pub returns-clause-before : goal.returns-clause-before
returns-clause-before c = search rules

pub returns-clause-changed : goal.returns-clause-changed
returns-clause-changed c = search rules
