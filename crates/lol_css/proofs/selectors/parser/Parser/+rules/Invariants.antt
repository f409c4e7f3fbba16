use Rattle.std.proofs.Common.{◌≡◌, ◌+◌, ◌*◌, length, Ok}
use Rattle.lol_css.specs.Reading.{inner_list, item, list}
use Rattle.lol_css.specs.Rules.{giving}
use Rattle.lol_css.specs.Accepting.{judged, judged_item}
use Rattle.lol_css.specs.Judging.{judged_parts, judged_further}
use Rattle.lol_css.specs.Views.{nesting_of, is_inside, judgement}
use Rattle.lol_css.specs.TreeViews.{compound_of, item_of, list_of}
use Rattle.lol_css.proofs.Fusing.{items_from}
use Rattle.lol_css.proofs.selectors.parser.Parser.+rules.Given as goal

abbrev pub decreases-logical_part : goal.decreases-logical_part
decreases-logical_part l = 7 * l.context.depth_left

abbrev pub decreases-pseudo : goal.decreases-pseudo
decreases-pseudo l = 7 * l.context.depth_left + 1

abbrev pub decreases-part : goal.decreases-part
decreases-part l = 7 * l.context.depth_left + 2

abbrev pub decreases-more_parts : goal.decreases-more_parts
decreases-more_parts l = 7 * l.context.depth_left + 3

abbrev pub decreases-compound : goal.decreases-compound
decreases-compound l = 7 * l.context.depth_left + 4

abbrev pub decreases-item : goal.decreases-item
decreases-item l = 7 * l.context.depth_left + 5

abbrev pub decreases-list : goal.decreases-list
decreases-list l = 7 * l.context.depth_left + 6

-- what is read so far, and what the rest gives, are the whole
abbrev pub invariant-more_parts-parts : goal.invariant-more_parts-parts
invariant-more_parts-parts l = judged_parts (inner_list l.fn.context.depth_left) (nesting_of l.fn.context.nesting) (judgement compound_of l.parts) l.self.reader ≡ judged_parts (inner_list l.fn.context.depth_left) (nesting_of l.fn.context.nesting) (Ok (compound_of l.fn.start)) l.fn.self.reader

abbrev pub decreases-more_parts-parts : goal.decreases-more_parts-parts
decreases-more_parts-parts l = length l.self.reader

abbrev pub invariant-item-steps : goal.invariant-item-steps
invariant-item-steps l = judged_further l.left (inner_list l.fn.context.depth_left) (nesting_of l.fn.context.nesting) (is_inside l.fn.context.nesting) (judgement item_of l.item) l.self.reader ≡ giving (judged_item (is_inside l.fn.context.nesting)) (item (inner_list l.fn.context.depth_left) (nesting_of l.fn.context.nesting) l.fn.self.reader)

abbrev pub decreases-item-steps : goal.decreases-item-steps
decreases-item-steps l = l.left

abbrev pub invariant-list-items : goal.invariant-list-items
invariant-list-items l = items_from (inner_list l.fn.context.depth_left) (nesting_of l.fn.context.nesting) (is_inside l.fn.context.nesting) (judgement list_of l.list) l.self.reader ≡ giving (judged (is_inside l.fn.context.nesting)) (list (inner_list l.fn.context.depth_left) (nesting_of l.fn.context.nesting) l.fn.self.reader)

abbrev pub decreases-list-items : goal.decreases-list-items
decreases-list-items l = length l.self.reader
