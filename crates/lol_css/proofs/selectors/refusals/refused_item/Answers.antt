use Rattle.std.proofs.Common.{◌∙◌, sym, arith}
use Rattle.std.specs.Option.{option_map}
use Rattle.lol_css.specs.Tokens.{tokens_of}
use Rattle.lol_css.specs.Views.{judgement, numbers}
use Rattle.lol_css.specs.TreeViews.{item_of}
use Rattle.lol_css.proofs.LocatingLemmas.{told-starts, told-early, told-ends, told-goes_on, told-shorter}
use Rattle.lol_css.proofs.selectors.refusals.refused_item.Goals as goal

pub items-init : goal.items-init
items-init c = record {
  tells = rw c.new-parser.ensures (told-starts (tokens_of c.args.points.now));
  few = omega (arith, c.count-all.ensures);
}

pub returns-in_default : goal.returns-in_default
returns-in_default c =
    let v = c.items.invariant in
    let read = rw c.in_default.is at c.in_ok-item.ensures.read in
    let left = c.in_ok-item.ensures.left in
    rw (c.saturating_sub-token.ensures, c.count-all.ensures, c.count.ensures, c.new-parser.ensures, left)
    (sym (told-early (tokens_of c.args.points.now) c.items.number (option_map numbers c.items.late) c.items.parser.reader (sym read)) ∙ v.tells)

pub returns-then-is_at_end : goal.returns-then-is_at_end
returns-then-is_at_end c =
    let v = c.items.invariant in
    let read = rw c.in-Some.is at c.in_ok-item.ensures.read in
    let left = c.in_ok-item.ensures.left in
    rw (c.first_late-late.ensures, c.count-all.ensures, c.new-parser.ensures)
    (sym (told-ends (tokens_of c.args.points.now) c.items.number (option_map numbers c.items.late) c.items.parser.reader (judgement item_of c.in-Some.item) (sym read) (rw left at (sym c.if-is_at_end.ensures))) ∙ v.tells)

pub overflow_add-number : goal.overflow_add-number
overflow_add-number c =
    let v = c.items.invariant in
    let read = rw c.in-Some.is at c.in_ok-item.ensures.read in
    let left = c.in_ok-item.ensures.left in
    omega (arith, told-shorter c.items.parser.reader (judgement item_of c.in-Some.item) (sym read) (rw left at (sym c.if-is_at_end.ensures)), v.few, c.count-all.type_inv)

pub items-smaller-else-is_at_end : goal.items-smaller-else-is_at_end
items-smaller-else-is_at_end c =
    let v = c.items.invariant in
    let read = rw c.in-Some.is at c.in_ok-item.ensures.read in
    let left = c.in_ok-item.ensures.left in
    rw (c.advance.ensures, left) (told-shorter c.items.parser.reader (judgement item_of c.in-Some.item) (sym read) (rw left at (sym c.if-is_at_end.ensures)))

pub items-preserved-else-is_at_end : goal.items-preserved-else-is_at_end
items-preserved-else-is_at_end c =
    let v = c.items.invariant in
    let read = rw c.in-Some.is at c.in_ok-item.ensures.read in
    let left = c.in_ok-item.ensures.left in
    let end = rw left at (sym c.if-is_at_end.ensures) in
    let less = told-shorter c.items.parser.reader (judgement item_of c.in-Some.item) (sym read) end in
    record {
      tells =
          rw (c.first_late-late.ensures, c.count-all.ensures, c.new-parser.ensures, c.advance.ensures, left)
          (sym (told-goes_on (tokens_of c.args.points.now) c.items.number (option_map numbers c.items.late) c.items.parser.reader (judgement item_of c.in-Some.item) (sym read) end) ∙ v.tells);
      few = rw (c.advance.ensures, left) (omega (arith, less, v.few));
    }

pub items-smaller : goal.items-smaller
items-smaller c =
    let v = c.items.invariant in
    let read = rw c.in-Some.is at c.in_ok-item.ensures.read in
    let left = c.in_ok-item.ensures.left in
    rw (c.advance.ensures, left) (told-shorter c.items.parser.reader (judgement item_of c.in-Some.item) (sym read) (rw left at (sym c.if-is_at_end.ensures)))

pub items-preserved : goal.items-preserved
items-preserved c =
    let v = c.items.invariant in
    let read = rw c.in-Some.is at c.in_ok-item.ensures.read in
    let left = c.in_ok-item.ensures.left in
    let end = rw left at (sym c.if-is_at_end.ensures) in
    let less = told-shorter c.items.parser.reader (judgement item_of c.in-Some.item) (sym read) end in
    record {
      tells =
          rw (c.first_late-late.ensures, c.count-all.ensures, c.new-parser.ensures, c.advance.ensures, left)
          (sym (told-goes_on (tokens_of c.args.points.now) c.items.number (option_map numbers c.items.late) c.items.parser.reader (judgement item_of c.in-Some.item) (sym read) end) ∙ v.tells);
      few = rw (c.advance.ensures, left) (omega (arith, less, v.few));
    }
