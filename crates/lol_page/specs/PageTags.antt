-- What is known of a tag of a page.
use Rattle.std.specs.Prelude.{ℕ, List, Option}
use Rattle.lol_base.specs.declared.namespace.Namespace.{Namespace}
use Rattle.lol_tags.specs.declared.reader.Tag.{Tag}

-- Its places in the page, its own bytes, the namespace of a start tag, and the line and the column of its `<`.
pub record PageTag : Type 0 where
  pub tag : Tag
  pub text : List ℕ
  pub namespace : Option Namespace
  pub line : ℕ
  pub column : ℕ
