-- Worked rows: why some tags are reported, by selectors that are read from texts.
use Rattle.std.specs.Prelude.{ℕ, ◌≡◌, Bool, true, false, List, [], ◌∷◌, map, Some, Result, Ok, Err, codes}
use Rattle.lol_base.specs.StartTags.{StartTag, Attribute}
use Rattle.lol_base.specs.declared.namespace.Namespace.{Namespace}
use Rattle.lol_base.specs.declared.namespace.Namespace.TheVariants.{Html, Svg}
use Rattle.lol_css.specs.Accepting.{accept}
use Rattle.lol_css.specs.Trees.{Items, NoItems}
use Rattle.lol_css.specs.declared.error.SelectorError.{SelectorError}
use Rattle.lol_program.specs.Nodes.{selectors_of}
use Rattle.lol_machine.specs.Events.{Event, Start, End}
use Rattle.lol_machine.specs.Documents.{Document, element_of}
use Rattle.lol_machine.specs.Answers.{document}
use Rattle.lol_reasons.specs.Explanations.{Text, Reason, added_by, pairs_added, reasons}

-- texts under ids, the events before a tag, and the reasons for it
pub record WorkedReasons : Type 0 where
  pub texts : List (List ℕ × ℕ)
  pub before : List Event
  pub tag : StartTag
  pub reasons : List Reason

abbrev items_read : Result Items SelectorError → Items
items_read (Ok items) = items
items_read (Err cause) = NoItems

abbrev texts_read : List (List ℕ × ℕ) → List Text
texts_read rows = map (λ row. record { id = row.1; items = items_read (accept row.0) }) rows

abbrev reasons_in : List Text → Document → StartTag → List Reason
reasons_in texts d tag = reasons (added_by texts) (element_of d tag) d.open_elements

abbrev pub Explains : WorkedReasons → Type 0
Explains row =
    reasons_in (texts_read row.texts) (document (selectors_of (pairs_added (added_by (texts_read row.texts)))) false row.before) row.tag
    ≡ row.reasons

abbrev tag_in : Namespace → List ℕ → List Attribute → Bool → StartTag
tag_in namespace name attributes self_closing =
    record { name = name; namespace = namespace; attributes = attributes; self_closing = self_closing; finish = true }

abbrev tag : List ℕ → StartTag
tag name = tag_in Html name [] false

abbrev with_class : List ℕ → List ℕ → StartTag
with_class name class = tag_in Html name (record { name = codes "class"; value = Some class } ∷ []) false

abbrev starts : List (List ℕ) → List Event
starts names = map (λ name. Start (tag name)) names

abbrev reason : ℕ → ℕ → ℕ → List ℕ → Reason
reason id text item witness = record { id = id; text = text; item = item; witness = witness }

-- `div div p` inside html 0, div 1, div 2, section 3, div 4: the nearest div, then the nearest one above it
abbrev pub nested_divs : WorkedReasons
nested_divs = record {
  texts = (codes "div div p", 7) ∷ [];
  before = starts (codes "html" ∷ codes "div" ∷ codes "div" ∷ codes "section" ∷ codes "div" ∷ []);
  tag = tag (codes "p");
  reasons = reason 7 0 0 (5 ∷ 4 ∷ 2 ∷ []) ∷ [];
}

-- `main > div p` inside main 0, div 1, section 2, div 3: the nearest div isn't right under main, so it is the outer one
abbrev pub not_the_nearest : WorkedReasons
not_the_nearest = record {
  texts = (codes "main > div p", 0) ∷ [];
  before = starts (codes "main" ∷ codes "div" ∷ codes "section" ∷ codes "div" ∷ []);
  tag = tag (codes "p");
  reasons = reason 0 0 0 (4 ∷ 1 ∷ 0 ∷ []) ∷ [];
}

-- `div > p`, `div > div > p` and one `div >` more, inside div 0, div 1: the parent, of two elements of its name
abbrev pub two_parents : WorkedReasons
two_parents = record {
  texts = (codes "div > p", 0) ∷ (codes "div > div > p", 1) ∷ (codes "div > div > div > p", 2) ∷ [];
  before = starts (codes "div" ∷ codes "div" ∷ []);
  tag = tag (codes "p");
  reasons = reason 0 0 0 (2 ∷ 1 ∷ []) ∷ reason 1 1 0 (2 ∷ 1 ∷ 0 ∷ []) ∷ [];
}

-- `div > p` inside div 0, span 1 has no reason, though `div p` has one
abbrev pub no_parent : WorkedReasons
no_parent = record {
  texts = (codes "div > p", 0) ∷ (codes "div p", 0) ∷ [];
  before = starts (codes "div" ∷ codes "span" ∷ []);
  tag = tag (codes "p");
  reasons = reason 0 1 0 (2 ∷ 0 ∷ []) ∷ [];
}

-- `div > p` after a closed div and a void tag: numbers are those of events
abbrev pub after_an_end : WorkedReasons
after_an_end = record {
  texts = (codes "div > p", 0) ∷ [];
  before = Start (tag (codes "div")) ∷ Start (tag (codes "br")) ∷ End (codes "div") ∷ Start (tag (codes "div")) ∷ [];
  tag = tag (codes "P");
  reasons = reason 0 0 0 (4 ∷ 3 ∷ []) ∷ [];
}

-- `a, p` under 7 and `div p, p` under 3, then `p` under 7 again: each item that matches has a reason, in the order of adding
abbrev pub lists : WorkedReasons
lists = record {
  texts = (codes "a, p", 7) ∷ (codes "div p, p", 3) ∷ (codes "p", 7) ∷ [];
  before = starts (codes "div" ∷ []);
  tag = tag (codes "p");
  reasons = reason 7 0 1 (1 ∷ []) ∷ reason 3 1 0 (1 ∷ 0 ∷ []) ∷ reason 3 1 1 (1 ∷ []) ∷ reason 7 2 0 (1 ∷ []) ∷ [];
}

-- `div img` inside div 0: a void element has a reason, though it is never open; after it `img p` has none
abbrev pub void_element : WorkedReasons
void_element = record {
  texts = (codes "div img", 1) ∷ [];
  before = starts (codes "div" ∷ []);
  tag = tag (codes "img");
  reasons = reason 1 0 0 (1 ∷ 0 ∷ []) ∷ [];
}

abbrev pub inside_no_void : WorkedReasons
inside_no_void = record {
  texts = (codes "img p", 1) ∷ (codes "div p", 2) ∷ [];
  before = starts (codes "div" ∷ codes "img" ∷ []);
  tag = tag (codes "p");
  reasons = reason 2 1 0 (2 ∷ 0 ∷ []) ∷ [];
}

-- foreign elements: `svg g circle` inside svg 0, g 1, and a g 2 that closes itself and so has nothing inside it
abbrev pub foreign_elements : WorkedReasons
foreign_elements = record {
  texts = (codes "svg g circle", 4) ∷ (codes "g g circle", 5) ∷ [];
  before =
      Start (tag_in Svg (codes "svg") [] false) ∷ Start (tag_in Svg (codes "g") [] false)
      ∷ Start (tag_in Svg (codes "g") [] true) ∷ [];
  tag = tag_in Svg (codes "circle") [] true;
  reasons = reason 4 0 0 (3 ∷ 1 ∷ 0 ∷ []) ∷ [];
}

-- `div:not(.a) p` and `:is(main, .a) p` inside main 0, div 1, div.a 2: each has the nearest element that passes
abbrev pub functions : WorkedReasons
functions = record {
  texts = (codes "div:not(.a) p", 0) ∷ (codes ":is(main, .a) p", 1) ∷ (codes "main:not(div) > div :is(p, a)", 2) ∷ [];
  before = Start (tag (codes "main")) ∷ Start (tag (codes "div")) ∷ Start (with_class (codes "div") (codes "a")) ∷ [];
  tag = tag (codes "p");
  reasons = reason 0 0 0 (3 ∷ 1 ∷ []) ∷ reason 1 1 0 (3 ∷ 2 ∷ []) ∷ reason 2 2 0 (3 ∷ 1 ∷ 0 ∷ []) ∷ [];
}
