-- The late walk, and what is accepted.
use Rattle.std.specs.Prelude.{ℕ, Bool, true, false, List, Result, Ok, Err}
use Rattle.std.specs.Str.{chars, byte}
use Rattle.lol_css.specs.Tokens.{Token, tokens}
use Rattle.lol_css.specs.Trees as trees
use Rattle.lol_css.specs.Drafts.{Step, PlacedStep, By, NextSibling, SubsequentSibling, DraftPart, Plain, LatePseudoClass, LateNamespace, Logical, DraftCompound, Nothing, With, DraftItem, First, Then, DraftItems, NoItems, And}
use Rattle.lol_css.specs.Rules.{Refusal, ◌>>=◌}
use Rattle.lol_css.specs.Reading.{selector}
use Rattle.lol_css.specs.declared.selector.Combinator.{Combinator}
use Rattle.lol_css.specs.declared.selectors.logical.LogicalCombination.{LogicalCombination}
use Rattle.lol_css.specs.declared.selectors.logical.LogicalCombination.TheVariants as combinations
use Rattle.lol_css.specs.declared.error.SelectorError.{SelectorError}
use Rattle.lol_css.specs.declared.error.SelectorError.TheVariants.{UnsupportedPseudoClassOrElement, UnsupportedCombinator, NamespacedSelector}

-- What was read as a selector, or the first thing that is refused, with the tokens from where it stands on. Items are judged in written order, in an item the last compound first,
-- then the step on its left, then the compound before, and so on. The parts of a compound are judged in written order, and at a `:not`,
-- `:is` or `:where` its own list, inside which each step is refused.
abbrev pub refused_late : {A : Type 0} → SelectorError → List Token → Result A Refusal
refused_late cause tokens = Err (record { cause = cause; left = tokens })

abbrev pub outer_step : List Token → Step → Result Combinator Refusal
outer_step left (By combinator) = Ok combinator
outer_step left NextSibling = refused_late (UnsupportedCombinator (byte "+")) left
outer_step left SubsequentSibling = refused_late (UnsupportedCombinator (byte "~")) left

abbrev pub judged_step : Bool → PlacedStep → Result Combinator Refusal
judged_step true placed = refused_late UnsupportedPseudoClassOrElement placed.left
judged_step false placed = outer_step placed.left placed.step

-- what a combination of a list is kept as
abbrev pub combination_part : LogicalCombination → trees.Items → trees.Part
combination_part combinations.Not items = trees.Not items
combination_part combinations.Is items = trees.Is items
combination_part combinations.Where items = trees.Where items

unfoldable mutual
  pub judged_part : DraftPart → Result trees.Part Refusal
  judged_part (Plain part) = Ok (trees.Plain part)
  judged_part (LatePseudoClass left) = refused_late UnsupportedPseudoClassOrElement left
  judged_part (LateNamespace left) = refused_late NamespacedSelector left
  judged_part (Logical combination items) = judged true items >>= λ inner. Ok (combination_part combination inner)

  pub judged_compound : DraftCompound → Result trees.WrittenCompound Refusal
  judged_compound Nothing = Ok trees.Nothing
  judged_compound (With front part) = do
    parts ← judged_compound front
    last ← judged_part part
    Ok (trees.With parts last)

  pub judged_item : Bool → DraftItem → Result trees.Item Refusal
  judged_item inside (First compound) = judged_compound compound >>= λ first. Ok (trees.First first)
  judged_item inside (Then front step compound) = do
    last ← judged_compound compound
    combinator ← judged_step inside step
    before ← judged_item inside front
    Ok (trees.Then before combinator last)

  pub judged : Bool → DraftItems → Result trees.Items Refusal
  judged inside NoItems = Ok trees.NoItems
  judged inside (And front item) = do
    items ← judged inside front
    last ← judged_item inside item
    Ok (trees.And items last)

-- the cause of a refusal
abbrev pub with_cause : {A : Type 0} → Result A Refusal → Result A SelectorError
with_cause (Ok x) = Ok x
with_cause (Err refusal) = Err refusal.cause

-- what the bytes of a text stand for: a selector, or the one cause for which it is refused
unfoldable pub accept : List ℕ → Result trees.Items SelectorError
accept text = with_cause (selector (tokens (chars text)) >>= λ read. judged false read.0)
