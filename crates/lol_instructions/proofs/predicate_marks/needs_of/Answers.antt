use Rattle.std.proofs.Common.{◌≡◌, ℕ, ap, ◌∙◌}
use Rattle.std.specs.Bool.{◌==◌}
use Rattle.lol_instructions.specs.Tests.{HasId, HasClass, HasAttribute}
use Rattle.lol_instructions.specs.Compiled.{attribute_expr_holds}
use Rattle.lol_instructions.specs.Marks.{mark_of, is_marked}
use Rattle.lol_instructions.specs.declared.compiled_expr.AttributeExprTest.{AttributeExprTest}
use Rattle.lol_instructions.proofs.PredicateMarkLemmas.{needed, absent_fails}
use Rattle.lol_instructions.proofs.predicate_marks.needs_of.Goals as goal

pub returns-in-Id : goal.returns-in-Id
returns-in-Id c bit marked s seen none =
    let of : (k : ℕ) → is_marked c.of_id.result k ≡ (k == mark_of (HasId c.in-Id.id.items)) = λ k. c.of_id.ensures k ∙ ap (λ bytes. k == mark_of (HasId bytes)) c.deref.ensures.value in
    ap (λ (test : AttributeExprTest). attribute_expr_holds test seen) c.in-Id.is ∙ needed (HasId c.in-Id.id.items) c.of_id.result of bit marked seen none

pub returns-in-Class : goal.returns-in-Class
returns-in-Class c bit marked s seen none =
    let of : (k : ℕ) → is_marked c.of_class.result k ≡ (k == mark_of (HasClass c.in-Class.name.items)) = λ k. c.of_class.ensures k ∙ ap (λ bytes. k == mark_of (HasClass bytes)) c.deref-in-Class.ensures.value in
    ap (λ (test : AttributeExprTest). attribute_expr_holds test seen) c.in-Class.is ∙ needed (HasClass c.in-Class.name.items) c.of_class.result of bit marked seen none

pub returns-in-Exists : goal.returns-in-Exists
returns-in-Exists c bit marked s seen none =
    let of : (k : ℕ) → is_marked c.of_name.result k ≡ (k == mark_of (HasAttribute c.in-Exists.name.items)) = λ k. c.of_name.ensures k ∙ ap (λ bytes. k == mark_of (HasAttribute bytes)) c.deref-in-Exists.ensures.value in
    ap (λ (test : AttributeExprTest). attribute_expr_holds test seen) c.in-Exists.is ∙ needed (HasAttribute c.in-Exists.name.items) c.of_name.result of bit marked seen none

pub returns-in-Equal : goal.returns-in-Equal
returns-in-Equal c bit marked s seen none =
    let name = c.in-Equal.operands.name.items in
    let of : (k : ℕ) → is_marked c.of_name-in-Equal.result k ≡ (k == mark_of (HasAttribute name)) = λ k. c.of_name-in-Equal.ensures k ∙ ap (λ bytes. k == mark_of (HasAttribute bytes)) c.deref-in-Equal.ensures.value in
    absent_fails c.args.test.now c.in-Equal.operands seen c.in-Equal.is (needed (HasAttribute name) c.of_name-in-Equal.result of bit marked seen none)
