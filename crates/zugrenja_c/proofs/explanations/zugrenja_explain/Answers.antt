-- what the table of the reasons has is written
use Rattle.std.proofs.Common.{arith, ◌≡◌, List, ℕ, Option, Some, length, map, sym, ap, ◌∙◌, subst}
use Rattle.std.specs.Prelude.{IfSome}
use Rattle.lol_reasons.specs.Numbered.{reason_shown}
use Rattle.zugrenja_c.specs.Numbers.{overwritten}
use Rattle.zugrenja_c.specs.Reasons.{AreReasons, HasReasons, WritesReasons}
use Rattle.zugrenja_c.specs.Sessions.{IsMatching}
use Rattle.zugrenja_c.specs.declared.reasons.ReasonPlace.{ReasonPlace}
use Rattle.zugrenja_c.specs.declared.session.Session.{Session}
use Rattle.zugrenja_c.specs.declared.session.Session.TheVariants as session
use Rattle.zugrenja_c.proofs.ReasonTables.{placed_length}
use Rattle.zugrenja_c.proofs.explanations.zugrenja_explain.Goals as goal
use Rattle.zugrenja_c.proofs.explanations.zugrenja_explain.Goals.{in-Adding, in-Matching+in-Ok-Some, in-Ok, in-Err-of, in-Matching+in-Ok-None, in-Matching+in-Err}

pub returns-clause-explained : goal.returns-clause-explained
returns-clause-explained c = λ done. elim c.match-deref.branch [
  | in-Adding w ↦ absurd (omega arith)
  | in-Matching+in-Ok-Some w ↦ elim w.match-of.branch [
    | in-Ok v ↦
        let running = w.in-Matching.running in
        let told = map reason_shown w.in-Ok-Some.told.items in
        let table = v.in-Ok.table in
        let has : HasReasons told table = subst (λ l. HasReasons (map reason_shown l) table) w.deref-in-Ok-Some.ensures.value v.in-Ok.ensures in
        let places : v.deref-in-Ok.result.now ≡ _ = v.deref-in-Ok.ensures.value ∙ has.places in
        let numbers : v.deref-in-Ok-2.result.now ≡ _ = v.deref-in-Ok-2.ensures.value ∙ has.numbers in
        let old_reasons = c.args.reasons.now in
        let old_numbers = c.args.numbers.now in
        let new = c.match-deref in
        let is : c.args.handle.now.slot.value ≡ Some (session.Matching running) = cc (c.in-Some.ensures.taken, c.deref.ensures, w.in-Matching.is) in
        subst (λ (s : Option Session). IsMatching s (λ r. WritesReasons r old_reasons new.reasons old_numbers new.numbers new.reasons_count new.numbers_count)) (sym is) (record {
          told = told;
          are = subst (λ o. IfSome o (λ reasons. AreReasons running (map reason_shown reasons.items))) w.in-Ok-Some.field-0-is w.in-Ok-Some.ensures.told;
          reasons = w.reasons-is ∙ (v.reasons-is ∙ (v.overwrite.ensures.written ∙ ap (λ (ps : List ReasonPlace). overwritten ps old_reasons) places));
          numbers = w.numbers-is ∙ (v.numbers-is ∙ (v.overwrite-in-Ok.ensures.written ∙ ap (λ (ns : List ℕ). overwritten ns old_numbers) numbers));
          counted = (
            w.reasons_count-is ∙ (v.reasons_count-is ∙ (v.overwrite.ensures.length ∙ (ap length places ∙ placed_length 0 told))),
            w.numbers_count-is ∙ (v.numbers_count-is ∙ (v.overwrite-in-Ok.ensures.length ∙ ap length numbers)),
          );
        })
    | in-Err-of v ↦ absurd (omega arith)
  ]
  | in-Matching+in-Ok-None w ↦ absurd (omega arith)
  | in-Matching+in-Err w ↦ absurd (omega arith)
]
