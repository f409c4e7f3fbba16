-- Worked rows: whole runs of selectors that are read from texts (Selectors 4, "Combinators", "Selector Lists" and "Child-indexed
-- Pseudo-classes"), counters and limits at their edges.
use Rattle.std.specs.Prelude.{ℕ, ◌≡◌, Bool, false, if◌then◌else◌, List, [], ◌∷◌, ◌++◌, map, replicate, length, max, Option, Some, None, codes}
use Rattle.lol_base.specs.declared.namespace.Namespace.TheVariants.{Html, Svg}
use Rattle.lol_program.specs.Paths.{Selectors}
use Rattle.lol_machine.specs.Events.{Event, Start, End}
use Rattle.lol_base.specs.StartTags.{StartTag}
use Rattle.lol_machine.specs.Documents.{Document, element_of}
use Rattle.lol_machine.specs.Answers.{after, answers}
use Rattle.lol_machine.specs.Refusals.{Allowance, Cause, Limit, Counter, exceeds, refusal, refused}
use Rattle.lol_vectors.specs.Runs.{looked_for, start, unfinished_in, was_asked, told}

abbrev pub tags : List (List ℕ) → List Event
tags [] = []
tags (name ∷ names) = start name ∷ tags names

-- `div p` and `section > p` under 7, `p` under 3: an id that two paths match is reported once, ascending
abbrev pub two_paths : List (List ℕ)
two_paths =
    told ((codes "div p", 7) ∷ (codes "section > p", 7) ∷ (codes "p", 3) ∷ []) (tags (codes "div" ∷ codes "section" ∷ codes "p" ∷ codes "p" ∷ []))

-- `p, div p, b` under 5: two items of a list match
abbrev pub two_items : List (List ℕ)
two_items = told ((codes "p, div p, b", 5) ∷ []) (tags (codes "div" ∷ codes "p" ∷ codes "b" ∷ codes "i" ∷ []))

-- `body p` under 0, `body > p` under 1: a `p` whose `body` is 1, 3 and 10 elements up
abbrev pub ancestors_up : List (List ℕ)
ancestors_up =
    told ((codes "body p", 0) ∷ (codes "body > p", 1) ∷ [])
    (tags (codes "body" ∷ codes "p" ∷ []) ++ End (codes "p") ∷ tags (codes "div" ∷ codes "div" ∷ codes "p" ∷ []) ++ End (codes "p")
    ∷ tags (replicate 7 (codes "div") ++ codes "p" ∷ []))

-- `a > b c` under 0, `a b > c` under 1 and `a > b > c` under 2, on `c` in `b` in `a`, and with a `d` between the two and above
abbrev pub steps : List (List ℕ)
steps =
    told ((codes "a > b c", 0) ∷ (codes "a b > c", 1) ∷ (codes "a > b > c", 2) ∷ [])
    (tags (codes "a" ∷ codes "b" ∷ codes "c" ∷ []) ++ End (codes "a") ∷ tags (codes "a" ∷ codes "b" ∷ codes "d" ∷ codes "c" ∷ []) ++ End (codes "a")
    ∷ tags (codes "a" ∷ codes "d" ∷ codes "b" ∷ codes "c" ∷ []) ++ End (codes "a") ∷ tags (codes "c" ∷ []))

-- ids are reported in ascending order, whatever the order in which they were added
abbrev pub ids_ascend : List (List ℕ)
ids_ascend = told ((codes "p", 9) ∷ (codes "*", 2) ∷ (codes ":first-child", 5) ∷ (codes "p", 300) ∷ (codes "*", 0) ∷ []) (tags (codes "p" ∷ []))

-- an end tag closes the innermost open element of its name, whatever its case, and all inside it; one that isn't open nothing
abbrev pub ends : List (List ℕ)
ends =
    told [] (tags (codes "div" ∷ codes "p" ∷ codes "DIV" ∷ codes "b" ∷ []) ++ End (codes "dIv") ∷ End (codes "b") ∷ End (codes "div") ∷ End (codes "div") ∷ [])

-- `p:nth-child(2)` under 0, `:nth-of-type(2)` under 1: a start tag that is dropped is a sibling, also of its name
abbrev pub dropped_siblings : List (List ℕ)
dropped_siblings = told ((codes "p:nth-child(2)", 0) ∷ (codes ":nth-of-type(2)", 1) ∷ []) (unfinished_in Svg (codes "P") ∷ start (codes "p") ∷ [])

-- `:nth-of-type(2)` under 0 and `:first-of-type` under 1: siblings of one name alone count, and children of another parent don't
abbrev pub by_type : List (List ℕ)
by_type =
    told ((codes ":nth-of-type(2)", 0) ∷ (codes ":first-of-type", 1) ∷ [])
    (start (codes "div") ∷ start (codes "p") ∷ End (codes "p") ∷ start (codes "b") ∷ End (codes "b") ∷ start (codes "p") ∷ start (codes "p") ∷ [])

-- `div .b` under 0 and `p` under 1: attributes are asked for where a node needs them whose left part matches, and a start tag whose
-- attributes aren't asked for isn't dropped
abbrev pub asking_texts : List (List ℕ × ℕ)
asking_texts = (codes "div .b", 0) ∷ (codes "p", 1) ∷ []

abbrev pub asking_tags : List Event
asking_tags = unfinished_in Html (codes "p") ∷ End (codes "p") ∷ start (codes "div") ∷ start (codes "p") ∷ unfinished_in Html (codes "p") ∷ []

abbrev pub asked : List Bool
asked = map was_asked (answers (looked_for asking_texts) false asking_tags)

-- Each step of An+B, and offsets on both sides of 0, on nine siblings without content
abbrev pub progressions : List (List ℕ)
progressions =
    told
    ((codes ":nth-child(3n)", 0) ∷ (codes ":nth-child(3n+1)", 1) ∷ (codes ":nth-child(3n-1)", 2) ∷ (codes ":nth-child(-2n+5)", 3) ∷ (codes ":nth-child(4)", 4)
    ∷ (codes ":nth-child(-n+2)", 5) ∷ (codes ":nth-child(n+8)", 6) ∷ (codes ":nth-child(0n)", 7) ∷ (codes ":nth-child(odd)", 8) ∷ (codes ":nth-child(even)", 9) ∷ [])
    (tags (replicate 9 (codes "br")))

-- `*` under 0 over so many nested `d`, with items of 64 bytes and 100 bytes in use before the run: what is refused
abbrev pub refused_in_use : ℕ → ℕ → Option (ℕ × Cause)
refused_in_use maximum depth =
    refused (looked_for ((codes "*", 0) ∷ [])) false (record { item_bytes = 64; maximum = maximum; usage = 100 }) (replicate depth (start (codes "d")))

-- eight elements, and eight again once they are closed, in the slots of eight
abbrev pub refused_again : Option (ℕ × Cause)
refused_again =
    refused (looked_for []) false (record { item_bytes = 64; maximum = 512; usage = 0 })
    (replicate 8 (start (codes "d")) ++ replicate 8 (End (codes "d")) ++ replicate 8 (start (codes "d")))

-- whether a start tag is refused for the limit alone
abbrev pub limit_alone : Selectors → Bool → Allowance → Document → ℕ → StartTag → Option Cause
limit_alone s esi a d most tag = if exceeds a (max most (length (after s esi d (Start tag)).open_elements)) then Some Limit else None

-- A start tag is counted at the greatest number of an `i32`, and refused one above it, whatever the limit says.
abbrev pub AtGreatest : Type 0
AtGreatest =
    (s : Selectors) (esi : Bool) (a : Allowance) (d : Document) (most : ℕ) (tag : StartTag) → (element_of d tag).position ≡ 2147483647
    → refusal s esi a d most (Start tag) ≡ limit_alone s esi a d most tag

abbrev pub AboveGreatest : Type 0
AboveGreatest =
    (s : Selectors) (esi : Bool) (a : Allowance) (d : Document) (most : ℕ) (tag : StartTag) → (element_of d tag).position ≡ 2147483648
    → refusal s esi a d most (Start tag) ≡ Some Counter
