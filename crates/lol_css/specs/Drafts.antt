-- What is read: the trees of selectors, and in them what is refused only after the whole list was read.
use Rattle.std.specs.Prelude.{List}
use Rattle.lol_css.specs.Tokens.{Token}
use Rattle.lol_css.specs.Trees.{Simple}
use Rattle.lol_css.specs.declared.selector.Combinator.{Combinator}
use Rattle.lol_css.specs.declared.selectors.logical.LogicalCombination.{LogicalCombination}

-- how a compound stands to the one before it; the two to siblings are refused late
pub data Step : Type 0 where
  By : Combinator → Step
  NextSibling : Step  -- `+`
  SubsequentSibling : Step  -- `~`

-- a step, and the tokens from its sign on, or for a descendant from what stands after the white space
pub record PlacedStep : Type 0 where
  pub step : Step
  pub left : List Token

mutual
  pub data DraftPart : Type 0 where
    Plain : Simple → DraftPart
    LatePseudoClass : List Token → DraftPart  -- `:root` and its like, with the tokens from the name on
    LateNamespace : List Token → DraftPart  -- `[*|a]`, with the tokens from the `*` on
    Logical : LogicalCombination → DraftItems → DraftPart  -- `:not(..)`, `:is(..)` and `:where(..)`

  pub data DraftCompound : Type 0 where
    Nothing : DraftCompound
    With : DraftCompound → DraftPart → DraftCompound

  pub data DraftItem : Type 0 where
    First : DraftCompound → DraftItem
    Then : DraftItem → PlacedStep → DraftCompound → DraftItem

  pub data DraftItems : Type 0 where
    NoItems : DraftItems
    And : DraftItems → DraftItem → DraftItems
