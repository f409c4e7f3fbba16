use Rattle.std.proofs.Common.{List, ◌≡◌, ◌++◌, map, take}
use Rattle.lol_program.specs.Asts.{is_with_rows}
use Rattle.lol_reasons.specs.Explanations.{Added, added_items}
use Rattle.lol_reasons.specs.Numbered.{HoldsItems, item_path}
use Rattle.lol_reasons.proofs.texts.Numbering.add_text.Given as goal

-- the items before are added, to a tree that stays with rows or without
abbrev pub invariant-loop-item_number : goal.invariant-loop-item_number
invariant-loop-item_number l = record {
  added : (added : List Added) → HoldsItems added l.fn.self → HoldsItems (added ++ added_items l.text.id l.number 0 (map item_path (take l.item_number l.item-items))) l.self;
  rows : is_with_rows l.self.ast ≡ is_with_rows l.fn.self.ast;
}
