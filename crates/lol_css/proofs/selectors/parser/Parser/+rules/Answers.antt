use Rattle.std.proofs.Common.{◌≡◌, ◌∷◌, ◌∙◌, ◌-◌, sym, refl, drop, true, false, Ok, Err}
use Rattle.std.proofs.lemmas.Result.{err_from_is_err_and}
use Rattle.std.specs.Str.{byte}
use Rattle.lol_css.specs.Tokens.{Delim}
use Rattle.lol_css.specs.Rules.{at_end, InFunction}
use Rattle.lol_css.specs.Reading.{inner_list, list}
use Rattle.lol_css.specs.Judging.{is_empty}
use Rattle.lol_css.specs.Views.{nesting_of, is_inside, judgement, step_judgement, refusal_of}
use Rattle.lol_css.specs.TreeViews.{compound_of, item_of, list_of, part_of}
use Rattle.lol_css.proofs.TreeRows.{list-none}
use Rattle.lol_css.proofs.Shorter.{inner_list-leaves}
use Rattle.lol_css.proofs.Spaces.{fails}
use Rattle.lol_css.proofs.Fusing.{part-read, parts-stop, parts-fail, compound-starts, compound-none, compound-fails, not_empty-fails, not_empty-refused, not_empty-kept, item-starts, item-fails, further-stops, further-fails, further-full, further-goes_on, further-compound-fails, step-read, list-from, items-stop, item-read, items-fail, inner_list-opens, logical-read, logical-fails, part-pseudo-fails, part-class-fails}
use Rattle.lol_css.proofs.selectors.parser.Parser.+rules.Goals as goal

-- ---- compounds

pub compound-returns-in_err-start : goal.compound-returns-in_err-start
compound-returns-in_err-start t c =
    let p = err_from_is_err_and c.from_residual.result c.from_residual.ensures.1 in
    rw (p.1, p.2) (compound-fails (inner_list c.args.context.depth_left) (nesting_of c.args.context.nesting) c.args.empty c.args.self.now.reader c.in_err-start.field-0.0 c.type_part.new.self.reader c.in_err-start.ensures)

pub compound-returns-in_default : goal.compound-returns-in_default
compound-returns-in_default t c =
    fails c.args.empty c.type_part.new.self.reader _ (compound-none (inner_list c.args.context.depth_left) (nesting_of c.args.context.nesting) c.args.empty c.args.self.now.reader c.type_part.new.self.reader (rw c.in_default.is at c.in_ok-start.ensures))

pub compound-returns-in_err-parts : goal.compound-returns-in_err-parts
compound-returns-in_err-parts t c =
    let p = err_from_is_err_and c.from_residual-in_err-parts.result c.from_residual-in_err-parts.ensures.1 in
    rw (p.1, p.2, compound-starts (inner_list c.args.context.depth_left) (nesting_of c.args.context.nesting) c.args.empty c.args.self.now.reader (compound_of c.in-Some.start) c.type_part.new.self.reader (rw c.in-Some.is at c.in_ok-start.ensures)) (not_empty-fails c.args.empty _ c.in_err-parts.field-0.0 c.more_parts.new.self.reader c.in_err-parts.ensures)

pub compound-returns-then-reads_nothing : goal.compound-returns-then-reads_nothing
compound-returns-then-reads_nothing t c =
    let e : is_empty (judgement compound_of c.in_ok-parts.parts) ≡ true = sym c.reads_nothing.ensures ∙ c.if-reads_nothing.true in
    fails c.args.empty c.more_parts.new.self.reader _
    (compound-starts (inner_list c.args.context.depth_left) (nesting_of c.args.context.nesting) c.args.empty c.args.self.now.reader (compound_of c.in-Some.start) c.type_part.new.self.reader (rw c.in-Some.is at c.in_ok-start.ensures)
    ∙ not_empty-refused c.args.empty _ (judgement compound_of c.in_ok-parts.parts) c.more_parts.new.self.reader c.in_ok-parts.ensures e)

pub compound-returns : goal.compound-returns
compound-returns t c =
    let e : is_empty (judgement compound_of c.in_ok-parts.parts) ≡ false = sym c.reads_nothing.ensures ∙ c.if-reads_nothing.false in
    compound-starts (inner_list c.args.context.depth_left) (nesting_of c.args.context.nesting) c.args.empty c.args.self.now.reader (compound_of c.in-Some.start) c.type_part.new.self.reader (rw c.in-Some.is at c.in_ok-start.ensures)
    ∙ not_empty-kept c.args.empty _ (judgement compound_of c.in_ok-parts.parts) c.more_parts.new.self.reader c.in_ok-parts.ensures e

-- ---- items

pub item-returns-in_err-first : goal.item-returns-in_err-first
item-returns-in_err-first t c =
    let p = err_from_is_err_and c.from_residual.result c.from_residual.ensures.1 in
    rw (p.1, p.2) (item-fails (inner_list c.args.context.depth_left) (nesting_of c.args.context.nesting) (is_inside c.args.context.nesting) c.args.self.now.reader c.in_err-first.field-0.0 c.compound.new.self.reader (rw c.skip_space.ensures at c.in_err-first.ensures))

pub item-steps-init : goal.item-steps-init
item-steps-init t c =
    rw c.alone-item.ensures
    (sym (item-starts (inner_list c.args.context.depth_left) (nesting_of c.args.context.nesting) (is_inside c.args.context.nesting) c.args.self.now.reader (judgement compound_of c.in_ok-first.first) c.compound.new.self.reader (rw c.skip_space.ensures at c.in_ok-first.ensures)))

pub item-returns-in_err-step : goal.item-returns-in_err-step
item-returns-in_err-step t c =
    let p = err_from_is_err_and c.from_residual-in_err-step.result c.from_residual-in_err-step.ensures.1 in
    rw (p.1, p.2, ← c.steps.invariant) (fails c.in_err-step.field-0.0 c.next_step.new.self.reader _ (further-fails c.steps.left (inner_list c.args.context.depth_left) (nesting_of c.args.context.nesting) (is_inside c.args.context.nesting) (judgement item_of c.steps.item) c.steps.self.reader c.in_err-step.field-0.0 c.next_step.new.self.reader c.in_err-step.ensures))

pub item-returns-then-left-eq0 : goal.item-returns-then-left-eq0
item-returns-then-left-eq0 t c =
    let s = step-read (nesting_of c.args.context.nesting) (is_inside c.args.context.nesting) c.steps.self.reader (step_judgement c.in-Some.step) c.next_step.new.self.reader (rw c.in-Some.is at c.in_ok-step.ensures) in
    sym c.steps.invariant ∙ rw c.if-left-eq0.true (further-full (inner_list c.args.context.depth_left) (nesting_of c.args.context.nesting) (is_inside c.args.context.nesting) (judgement item_of c.steps.item) c.steps.self.reader (step_judgement c.in-Some.step) c.next_step.new.self.reader s)

pub item-returns-in_err-next : goal.item-returns-in_err-next
item-returns-in_err-next t c =
    let p = err_from_is_err_and c.from_residual-in_err-next.result c.from_residual-in_err-next.ensures.1 in
    let s = step-read (nesting_of c.args.context.nesting) (is_inside c.args.context.nesting) c.steps.self.reader (step_judgement c.in-Some.step) c.next_step.new.self.reader (rw c.in-Some.is at c.in_ok-step.ensures) in
    rw (p.1, p.2, ← c.steps.invariant) (further-compound-fails c.steps.left (inner_list c.args.context.depth_left) (nesting_of c.args.context.nesting) (is_inside c.args.context.nesting) (judgement item_of c.steps.item) c.steps.self.reader (step_judgement c.in-Some.step) c.next_step.new.self.reader s c.in_err-next.field-0.0 c.compound-in-Some.new.self.reader c.if-left-eq0.false c.in_err-next.ensures)

pub item-steps-preserved : goal.item-steps-preserved
item-steps-preserved t c =
    let s = step-read (nesting_of c.args.context.nesting) (is_inside c.args.context.nesting) c.steps.self.reader (step_judgement c.in-Some.step) c.next_step.new.self.reader (rw c.in-Some.is at c.in_ok-step.ensures) in
    rw c.in_ok-add_compound.ensures
    (sym (further-goes_on c.steps.left (inner_list c.args.context.depth_left) (nesting_of c.args.context.nesting) (is_inside c.args.context.nesting) (judgement item_of c.steps.item) c.steps.self.reader (step_judgement c.in-Some.step) c.next_step.new.self.reader s (judgement compound_of c.in_ok-next.next) c.compound-in-Some.new.self.reader c.in_ok-next.ensures c.if-left-eq0.false) ∙ c.steps.invariant)

pub item-returns : goal.item-returns
item-returns t c =
    sym c.steps.invariant ∙ further-stops c.steps.left (inner_list c.args.context.depth_left) (nesting_of c.args.context.nesting) (is_inside c.args.context.nesting) (judgement item_of c.steps.item) c.steps.self.reader c.next_step.new.self.reader (rw c.in_default.is at c.in_ok-step.ensures)

-- ---- lists

pub list-items-init : goal.list-items-init
list-items-init t c =
    rw (list-none c.new.result c.new.ensures.items) (list-from (inner_list c.args.context.depth_left) (nesting_of c.args.context.nesting) (is_inside c.args.context.nesting) c.args.self.now.reader)

pub list-returns-in_err-item : goal.list-returns-in_err-item
list-returns-in_err-item t c =
    let p = err_from_is_err_and c.from_residual.result c.from_residual.ensures.1 in
    rw (p.1, p.2, ← c.items.invariant) (items-fail (inner_list c.args.context.depth_left) (nesting_of c.args.context.nesting) (is_inside c.args.context.nesting) (judgement list_of c.items.list) c.items.self.reader c.in_err-item.field-0.0 c.item.new.self.reader c.in_err-item.ensures)

pub list-returns-then-at_end : goal.list-returns-then-at_end
list-returns-then-at_end t c =
    let e : at_end (nesting_of c.args.context.nesting) c.item.new.self.reader ≡ true = sym c.is_at_end-at_end.ensures ∙ c.if-at_end.true in
    rw (c.in_ok-add_item.ensures, c.advance.ensures) (sym c.items.invariant ∙ items-stop (inner_list c.args.context.depth_left) (nesting_of c.args.context.nesting) (is_inside c.args.context.nesting) (judgement list_of c.items.list) c.items.self.reader (judgement item_of c.in_ok-item.item) c.item.new.self.reader c.in_ok-item.ensures e)

pub list-items-smaller : goal.list-items-smaller
list-items-smaller t c =
    let e : at_end (nesting_of c.args.context.nesting) c.item.new.self.reader ≡ false = sym c.is_at_end-at_end.ensures ∙ c.if-at_end.false in
    let r = item-read (inner_list c.args.context.depth_left) (inner_list-leaves c.args.context.depth_left) (nesting_of c.args.context.nesting) (is_inside c.args.context.nesting) (judgement list_of c.items.list) c.items.self.reader (judgement item_of c.in_ok-item.item) c.item.new.self.reader c.in_ok-item.ensures e in
    rw c.advance.ensures r.shorter

pub list-items-preserved : goal.list-items-preserved
list-items-preserved t c =
    let e : at_end (nesting_of c.args.context.nesting) c.item.new.self.reader ≡ false = sym c.is_at_end-at_end.ensures ∙ c.if-at_end.false in
    let r = item-read (inner_list c.args.context.depth_left) (inner_list-leaves c.args.context.depth_left) (nesting_of c.args.context.nesting) (is_inside c.args.context.nesting) (judgement list_of c.items.list) c.items.self.reader (judgement item_of c.in_ok-item.item) c.item.new.self.reader c.in_ok-item.ensures e in
    rw (c.in_ok-add_item.ensures, c.advance.ensures) (sym r.same ∙ c.items.invariant)

-- ---- parts

pub more_parts-returns-in_err-found : goal.more_parts-returns-in_err-found
more_parts-returns-in_err-found t c =
    let p = err_from_is_err_and c.from_residual.result c.from_residual.ensures.1 in
    rw (p.1, p.2, ← c.parts.invariant) (parts-fail (inner_list c.args.context.depth_left) (nesting_of c.args.context.nesting) (judgement compound_of c.parts.parts) c.parts.self.reader c.in_err-found.field-0.0 c.part.new.self.reader c.in_err-found.ensures)

pub more_parts-parts-smaller : goal.more_parts-parts-smaller
more_parts-parts-smaller t c =
    (part-read (inner_list c.args.context.depth_left) (inner_list-leaves c.args.context.depth_left) (nesting_of c.args.context.nesting) (judgement compound_of c.parts.parts) c.parts.self.reader (judgement part_of c.in-Some.found) c.part.new.self.reader (rw c.in-Some.is at c.in_ok-found.ensures)).shorter

pub more_parts-parts-preserved : goal.more_parts-parts-preserved
more_parts-parts-preserved t c =
    let r = part-read (inner_list c.args.context.depth_left) (inner_list-leaves c.args.context.depth_left) (nesting_of c.args.context.nesting) (judgement compound_of c.parts.parts) c.parts.self.reader (judgement part_of c.in-Some.found) c.part.new.self.reader (rw c.in-Some.is at c.in_ok-found.ensures) in
    rw c.in_ok-add_part.ensures (sym r.same ∙ c.parts.invariant)

pub more_parts-returns : goal.more_parts-returns
more_parts-returns t c =
    sym c.parts.invariant ∙ parts-stop (inner_list c.args.context.depth_left) (nesting_of c.args.context.nesting) (judgement compound_of c.parts.parts) c.parts.self.reader c.part.new.self.reader (rw c.in_default.is at c.in_ok-found.ensures)

-- ---- inside a logical combination

pub logical_part-returns-then-context-eq0 : goal.logical_part-returns-then-context-eq0
unfolding inner_list
logical_part-returns-then-context-eq0 t c = rw c.if-context-eq0.true refl

pub logical_part-returns-in_err-list : goal.logical_part-returns-in_err-list
logical_part-returns-in_err-list t c =
    let p = err_from_is_err_and c.from_residual.result c.from_residual.ensures.1 in
    rw (p.1, p.2, inner_list-opens c.args.context.depth_left c.args.self.now.reader c.if-context-eq0.false) (logical-fails c.args.combination _ c.in_err-list.field-0.0 c.list.new.self.reader c.in_err-list.ensures)

pub part-returns-in_err-pseudo-in-Some-Delim-eq58 : goal.part-returns-in_err-pseudo-in-Some-Delim-eq58
part-returns-in_err-pseudo-in-Some-Delim-eq58 t c =
    let p = err_from_is_err_and c.from_residual-in_err-pseudo-in-Some-Delim-eq58.result c.from_residual-in_err-pseudo-in-Some-Delim-eq58.ensures.1 in
    let first : c.args.self.now.reader ≡ Delim (byte ":") ∷ drop 1 c.args.self.now.reader = cc c.in-Some-Delim-eq58.ensures in
    rw (p.1, p.2) (part-pseudo-fails (inner_list c.args.context.depth_left) (nesting_of c.args.context.nesting) c.args.self.now.reader (drop 1 c.args.self.now.reader) c.in_err-pseudo-in-Some-Delim-eq58.field-0.0 c.pseudo.new.self.reader first (rw c.advance-in-Some-Delim-eq58.ensures at c.in_err-pseudo-in-Some-Delim-eq58.ensures))

pub logical_part-returns-in-Ok : goal.logical_part-returns-in-Ok
logical_part-returns-in-Ok t c =
    rw (c.of.ensures, inner_list-opens c.args.context.depth_left c.args.self.now.reader c.if-context-eq0.false)
    (logical-read c.args.combination (list (inner_list (c.args.context.depth_left - 1)) InFunction c.args.self.now.reader) (Ok (list_of c.in-Ok.list)) c.list.new.self.reader (rw c.in-Ok.is at c.in_ok-list.ensures))

pub logical_part-returns-in-Err : goal.logical_part-returns-in-Err
logical_part-returns-in-Err t c =
    rw (inner_list-opens c.args.context.depth_left c.args.self.now.reader c.if-context-eq0.false)
    (logical-read c.args.combination (list (inner_list (c.args.context.depth_left - 1)) InFunction c.args.self.now.reader) (Err (refusal_of c.in-Err.refusal)) c.list.new.self.reader (rw c.in-Err.is at c.in_ok-list.ensures))

pub part-returns-in_err-class_name-in-Some-Delim-eq46 : goal.part-returns-in_err-class_name-in-Some-Delim-eq46
part-returns-in_err-class_name-in-Some-Delim-eq46 t c =
    let p = err_from_is_err_and c.from_residual-in_err-class_name-in-Some-Delim-eq46.result c.from_residual-in_err-class_name-in-Some-Delim-eq46.ensures.1 in
    let first : c.args.self.now.reader ≡ Delim (byte ".") ∷ drop 1 c.args.self.now.reader = cc c.in-Some-Delim-eq46.ensures in
    rw (p.1, p.2) (part-class-fails (inner_list c.args.context.depth_left) (nesting_of c.args.context.nesting) c.args.self.now.reader (drop 1 c.args.self.now.reader) c.in_err-class_name-in-Some-Delim-eq46.field-0.0 c.class_name.new.self.reader first (rw c.advance-in-Some-Delim-eq46.ensures at c.in_err-class_name-in-Some-Delim-eq46.ensures))
