use Rattle.std.proofs.Common.{rules, ◌≡◌, ◌++◌, ◌∷◌, decimal, map, ℕ, List, sym, ap, ◌∙◌}
use Rattle.std.specs.List.{flat_map}
use Rattle.std.proofs.lemmas.List.{append_assoc}
use Rattle.std.proofs.lemmas.Result.{on_ok_weaker}
use Rattle.lol_memory.specs.declared.match_info.MatchInfo.{MatchInfo}
use Rattle.lol_machine.specs.Views.{match_of}
use Rattle.zugrenja.specs.Lines.{later_number, numbers}
use Rattle.zugrenja.proofs.Numbers.{numbers_are}
use Rattle.zugrenja.proofs.lines.push_numbers.Goals as goal

pub returns : goal.returns
returns c =
    let t0 = c.args.lines.now.items in
    let first = c.in-Some.first.now in
    let others = c.in-Some.others.now in
    let split : c.args.matches.now ≡ first ∷ others = search rules in
    let pushed : c.push_number.new.lines.items ≡ t0 ++ decimal first.match_id = c.in_ok-push_number.ensures ∙ ap (λ (n : ℕ). t0 ++ decimal n) c.from.ensures in
    on_ok_weaker c.push_others.result
    (λ more. more ∙ (ap (λ (l : List ℕ). l ++ flat_map later_number others) pushed ∙ (append_assoc t0 (decimal first.match_id) (flat_map later_number others)
    ∙ ap (λ (l : List ℕ). t0 ++ l) (sym (ap (λ (ms : List MatchInfo). numbers (map match_of ms)) split ∙ numbers_are first others)))))
    c.push_others.ensures
