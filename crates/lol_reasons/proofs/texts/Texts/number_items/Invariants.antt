use Rattle.std.proofs.Common.{◌≡◌, false, map, take}
use Rattle.lol_program.specs.Asts.{is_with_rows}
use Rattle.lol_reasons.specs.Explanations.{added_by}
use Rattle.lol_reasons.specs.Numbered.{HoldsItems, text_shown}
use Rattle.lol_reasons.proofs.texts.Texts.number_items.Given as goal

-- the items of the texts before are added, to a tree without rows
abbrev pub invariant-loop-number : goal.invariant-loop-number
invariant-loop-number l = record {
  holds : HoldsItems (added_by (map text_shown (take l.number l.text-items))) l.numbering;
  rows : is_with_rows l.numbering.ast ≡ false;
}
