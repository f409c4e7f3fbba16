-- How rows are written: the tokens of a page, and its tree as a text: the elements' names in order, each behind a dot for each element around it.
use Rattle.std.specs.Prelude.{ℕ, ◌+◌, ◌-◌, true, false, if◌then◌else◌, List, [], ◌∷◌, ◌++◌, map, drop, replicate, Some, None, codes}
use Prim.Native.String.{String}
use Rattle.lol_base.specs.Names.{lowercased}
use Rattle.lol_base.specs.StartTags.{Attribute, StartTag}
use Rattle.lol_base.specs.declared.namespace.Namespace.{Namespace}
use Rattle.lol_base.specs.declared.namespace.Namespace.TheVariants.{Html, Svg, MathML}
use Rattle.lol_machine.specs.Events.{has_content}
use Rattle.lol_tree.specs.TreeStates.{TreeEvent, StartTold, EndTold}
use Rattle.lol_tree.specs.Told.{TreeToken, DoctypeToken, StartToken, EndToken, TextToken, EndOfPage, tree_events}

abbrev pub named_tag : String → StartTag
named_tag name = record { name = codes name; namespace = Html; attributes = []; self_closing = false; finish = true }

abbrev pub start : String → TreeToken
start name = StartToken (named_tag name)

abbrev pub closing : String → TreeToken
closing name = StartToken (record (named_tag name) { self_closing = true })

abbrev pub attribute : String → String → Attribute
attribute name value = record { name = codes name; value = Some (codes value) }

abbrev pub start_with : String → List Attribute → TreeToken
start_with name attributes = StartToken (record (named_tag name) { attributes = attributes })

abbrev pub end : String → TreeToken
end name = EndToken (codes name)

abbrev pub white_space : TreeToken
white_space = TextToken true

abbrev pub some_text : TreeToken
some_text = TextToken false

abbrev pub html_doctype : TreeToken
html_doctype = DoctypeToken (record { name = codes "html"; public_id = None; system_id = None; force_quirks = false })

abbrev pub prefix : Namespace → List ℕ
prefix Html = []
prefix Svg = codes "svg:"
prefix MathML = codes "math:"

-- 46 is the dot.
abbrev pub tree_line : ℕ → StartTag → List ℕ
tree_line depth tag = 32 ∷ replicate depth 46 ++ prefix tag.namespace ++ lowercased tag.name

abbrev pub tree_shape : ℕ → List TreeEvent → List ℕ
tree_shape depth [] = []
tree_shape depth (StartTold implied tag ∷ events) = tree_line depth tag ++ tree_shape (if has_content false tag then depth + 1 else depth) events
tree_shape depth (EndTold name ∷ events) = tree_shape (depth - 1) events

-- a page, and its tree
pub record TreeRow : Type 0 where
  pub tokens : List TreeToken
  pub tree : List ℕ

abbrev pub has_tree : List TreeToken → String → TreeRow
has_tree tokens tree = record { tokens = tokens; tree = codes tree }

abbrev pub tree_of : List TreeToken → List ℕ
tree_of tokens = drop 1 (tree_shape 0 (tree_events false (tokens ++ EndOfPage ∷ [])))

abbrev pub trees_told : List TreeRow → List (List ℕ)
trees_told rows = map (λ (row : TreeRow). tree_of row.tokens) rows

abbrev pub trees_said : List TreeRow → List (List ℕ)
trees_said rows = map (λ (row : TreeRow). row.tree) rows
