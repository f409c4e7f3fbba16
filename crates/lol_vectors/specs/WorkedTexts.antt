-- Worked rows: texts of selectors, and what they stand for (CSS Syntax 3, sections 3.3, 4 and 6; Selectors 4, sections 4, 6 and 16).
use Rattle.std.specs.Prelude.{ℕ, Bool, true, false, List, [], ◌∷◌, ◌++◌, map, length, codes, Result, Ok, Err}
use Rattle.std.specs.Str.{byte}
use Rattle.lol_base.specs.declared.namespace.Namespace.TheVariants.{Html}
use Rattle.lol_css.specs.Accepting.{accept}
use Rattle.lol_css.specs.Trees.{Items}
use Rattle.lol_css.specs.declared.error.SelectorError.{SelectorError}
use Rattle.lol_css.specs.declared.error.SelectorError.TheVariants.{UnsupportedCombinator}
use Rattle.lol_vectors.specs.Runs.{looked_for, start_with, written, told}

-- pseudo-classes that are read, and refused once the whole list was read
abbrev pub refused_late : List (List ℕ)
refused_late =
    codes ":last-child" ∷ codes ":only-child" ∷ codes ":last-of-type" ∷ codes ":only-of-type" ∷ codes ":root" ∷ codes ":empty" ∷ codes ":scope"
    ∷ codes ":nth-last-child(1)" ∷ codes ":nth-last-of-type(2n)" ∷ []

-- those that are refused where they are read
abbrev pub refused_at_once : List (List ℕ)
refused_at_once = codes ":hover" ∷ codes ":first" ∷ codes ":last" ∷ codes ":child" ∷ codes ":lang(en)" ∷ codes ":nth-last-col(1)" ∷ codes "::before" ∷ []

-- what a text is refused with after `a + b`, which is refused late
abbrev pub after_a_sibling : List (List ℕ) → List (Result Items SelectorError)
after_a_sibling texts = map (λ text. accept (codes "a + b, " ++ text)) texts

abbrev pub all_refused : SelectorError → List (List ℕ) → List (Result Items SelectorError)
all_refused cause texts = map (λ text. Err cause) texts

abbrev pub sibling : SelectorError
sibling = UnsupportedCombinator (byte "+")

-- how many nodes texts have
abbrev pub node_count : List (List ℕ) → ℕ
node_count texts = length (looked_for (map (λ text. (text, 0)) texts)).nodes

-- the ids of an `a` with one attribute
abbrev pub told_of : List ℕ → List ℕ → List (List ℕ × ℕ) → List (List ℕ)
told_of name value rows = told rows (start_with Html (codes "a") (written name value ∷ []) ∷ [])

-- whether the class `b` is one of those of `a`, a byte and `b`
abbrev pub parted_by : ℕ → List (List ℕ)
parted_by between = told_of (codes "class") (97 ∷ between ∷ 98 ∷ []) ((codes ".b", 0) ∷ (codes "[class~=b]", 1) ∷ [])

-- the operators, each under a number, with an operand that stands at both ends, inside, and in full
abbrev pub with_operators : List ℕ → List (List ℕ × ℕ)
with_operators operand =
    (codes "[t=" ++ operand ++ codes "]", 0) ∷ (codes "[t~=" ++ operand ++ codes "]", 1) ∷ (codes "[t|=" ++ operand ++ codes "]", 2) ∷ (codes "[t^=" ++ operand ++ codes "]", 3)
    ∷ (codes "[t$=" ++ operand ++ codes "]", 4) ∷ (codes "[t*=" ++ operand ++ codes "]", 5) ∷ []

-- code points that stand in a name, at its beginning, and in neither place: what `.` and each of them before `a` is read as
abbrev pub reads_class : List ℕ → Bool
reads_class before = elim (accept (codes "." ++ before ++ codes "a")) [ Ok items ↦ true | Err cause ↦ false ]
