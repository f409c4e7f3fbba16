-- The `select` lines that the code keeps.
use Rattle.std.specs.Prelude.{ℕ, ◌≡◌, List, flat_map, length, map, Result, Ok}
use Rattle.lol_css.specs.Accepting.{accept}
use Rattle.lol_css.specs.Trees.{Items}
use Rattle.lol_css.specs.declared.error.SelectorError.{SelectorError}
use Rattle.lol_reasons.specs.Explanations.{Text}
use Rattle.lol_script.specs.Scripts.{SelectLine}
use Rattle.lol_script.specs.declared.select_lines.SelectLines.{SelectLines}
use Rattle.lol_script.specs.declared.select_lines.KeptLine as code

-- a line with its text, which was read before
pub record KeptLine : Type 0 where
  pub number : ℕ
  pub id : ℕ
  pub text : List ℕ

abbrev pub with_length : KeptLine → code.KeptLine
with_length kept = record { number = kept.number; id = kept.id; len = length kept.text }

-- The code keeps these lines, and their texts one after another.
pub record HoldsKept (lines : SelectLines) (kept : List KeptLine) : Type 0 where
  pub lengths : lines.lines.items ≡ map with_length kept
  pub texts : lines.texts.items ≡ flat_map (λ k. k.text) kept

-- a text under its id, as it is read
abbrev pub text_read : KeptLine → ℕ × Result Items SelectorError
text_read kept = (kept.id, accept kept.text)

abbrev pub text_accepted : Text → ℕ × Result Items SelectorError
text_accepted text = (text.id, Ok text.items)

-- The lines are these ones, under these numbers.
pub record AreLines (kept : List KeptLine) (lines : List SelectLine) : Type 0 where
  pub numbers : map (λ k. k.number) kept ≡ map (λ line. line.number) lines
  pub texts : map text_read kept ≡ map text_accepted (map (λ line. line.text) lines)

-- The code keeps the lines of a script.
abbrev pub KeepsLines : SelectLines → List SelectLine → Type 0
KeepsLines code lines = (kept : List KeptLine) × HoldsKept code kept × AreLines kept lines
