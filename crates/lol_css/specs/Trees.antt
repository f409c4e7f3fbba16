-- Selectors as trees (Selectors 4, sections 3 and 4). Rows are built at their right end: what stands last is on the outside.
-- Names and values are texts in UTF-8.
use Rattle.std.specs.Prelude.{ℕ, Bool, List, ℤ}
use Rattle.lol_base.specs.declared.comparison.AttrSelectorOperator.{AttrSelectorOperator}
use Rattle.lol_base.specs.declared.comparison.ParsedCaseSensitivity.{ParsedCaseSensitivity}
use Rattle.lol_css.specs.declared.selector.Combinator.{Combinator}

-- a part without parts of its own
pub data Simple : Type 0 where
  LocalName : List ℕ → Simple
  AnyName : Simple  -- `*`
  NoNamespace : Simple  -- the bar of `|a`
  Id : List ℕ → Simple
  Class : List ℕ → Simple
  Exists : List ℕ → Simple  -- `[a]`
  Compares : List ℕ → AttrSelectorOperator → List ℕ → ParsedCaseSensitivity → Simple
  Nth : Bool → ℤ → ℤ → Simple  -- whether by type, step and offset

-- a compound is a row of parts, an item a row of compounds with the step to each from the one before it, a list a row of items
mutual
  pub data Part : Type 0 where
    Plain : Simple → Part
    Not : Items → Part
    Is : Items → Part
    Where : Items → Part

  pub data WrittenCompound : Type 0 where
    Nothing : WrittenCompound
    With : WrittenCompound → Part → WrittenCompound

  pub data Item : Type 0 where
    First : WrittenCompound → Item
    Then : Item → Combinator → WrittenCompound → Item

  pub data Items : Type 0 where
    NoItems : Items
    And : Items → Item → Items
