use Rattle.std.proofs.Common.{◌≡◌, Bool, true, false, sym, ap, ◌∙◌, if◌then◌else◌, Some, rules}
use Rattle.lol_instructions.specs.Compiled.{sight}
use Rattle.lol_instructions.specs.PredicateMarks.{head_holds, shape_value}
use Rattle.lol_instructions.specs.declared.name_value.NameValue.TheVariants.{False}
use Rattle.lol_instructions.proofs.predicate_marks.PredicateMarks.by_names.Goals as goal

pub returns-then-not-head_holds : goal.returns-then-not-head_holds
returns-then-not-head_holds c = λ marked.
    let s = sight c.args.state.now c.args.local_name.now in
    let fails : head_holds c.args.self.now.head s.name ≡ false = search rules in
    sym (marked.value s False (ap (λ (b : Bool). if b then shape_value c.args.self.now.shape s.position s.typed_position else Some False) fails))

pub returns-in-Some : goal.returns-in-Some
returns-in-Some c = λ marked.
    let s = sight c.args.state.now c.args.local_name.now in
    let holds : head_holds c.args.self.now.head s.name ≡ true = search rules in
    sym (marked.value s c.in-Some.value (ap (λ (b : Bool). if b then shape_value c.args.self.now.shape s.position s.typed_position else Some False) holds ∙ (sym c.value.ensures ∙ c.in-Some.is)))
