use Rattle.std.proofs.lemmas.Grind.{common_steps}
use Rattle.std.proofs.Common.{arith, ◌≡◌, ◌++◌, List, take, sym, ap, ◌∙◌}
use Rattle.std.specs.Prelude.{ℕ}
use Rattle.std.specs.List.{flat_map}
use Rattle.lol_memory.specs.declared.match_info.MatchInfo.{MatchInfo}
use Rattle.lol_machine.specs.Views.{match_of}
use Rattle.zugrenja.specs.Lines.{name_line}
use Rattle.zugrenja.proofs.Numbers.{each_is}
use Rattle.zugrenja.proofs.lines.Style.push_names.Goals as goal

pub returns : goal.returns
returns c =
    let f = name_line c.args.self.now c.args.placed.now.line c.args.placed.now.column in
    let whole : take c.loop-found.found-index c.args.matches.now ≡ c.args.matches.now = grind (arith, common_steps) in
    c.loop-found.invariant
    ∙ ap (λ (l : List ℕ). c.args.lines.now.items ++ l)
    (ap (λ (ms : List MatchInfo). flat_map (λ (m : MatchInfo). f (match_of m)) ms) whole ∙ sym (each_is f c.args.matches.now))
