-- The selectors of a search, by their texts.
use Rattle.std.specs.Prelude.{ℕ, ◌≡◌, ◌+◌, List, [], ◌∷◌, ◌++◌, length, is_ok, true, Result, Ok, Err}
use Rattle.lol_css.specs.Accepting.{accept}
use Rattle.lol_css.specs.Trees.{Items}
use Rattle.lol_css.specs.declared.error.SelectorError.{SelectorError}
use Rattle.lol_matcher.specs.Building.{IsRefused}
use Rattle.lol_matcher.specs.declared.error.AddError.{AddError}
use Rattle.lol_matcher.specs.declared.error.AddError.TheVariants.{Refused, Memory}
use Rattle.lol_program.specs.Asts.{pairs_of}
use Rattle.lol_program.specs.Conditions.{pairs_under}
use Rattle.lol_program.specs.Paths.{Path}
use Rattle.lol_program.specs.Sets.{SameMembers}
use Rattle.lol_program.specs.declared.ast.Ast.{Ast}

-- the paths of a text's selectors, each under a number
abbrev pub pairs_in : ℕ → Result Items SelectorError → List (Path × ℕ)
pairs_in number (Ok items) = pairs_under number items
pairs_in number (Err cause) = []

-- those of texts, which have numbers from this one on
abbrev pub numbered_from : ℕ → List (List ℕ) → List (Path × ℕ)
numbered_from number [] = []
numbered_from number (text ∷ texts) = pairs_in number (accept text) ++ numbered_from (number + 1) texts

abbrev pub AreAccepted : List (List ℕ) → Type 0
AreAccepted [] = Unit {0}
AreAccepted (text ∷ texts) = (is_ok (accept text) ≡ true) × AreAccepted texts

-- The texts are accepted, and a tree has their selectors, each under the number of its text, from 1.
pub record HasSelectors (texts : List (List ℕ)) (ast : Ast) : Type 0 where
  pub accepted : AreAccepted texts
  pub pairs : SameMembers (numbered_from 1 texts) (pairs_of ast)

-- A text stands among texts, by its number from 1.
pub record StandsAt (texts : List (List ℕ)) (number : ℕ) (text : List ℕ) : Type 0 where
  pub before : List (List ℕ)
  pub behind : List (List ℕ)
  pub whole : texts ≡ before ++ text ∷ behind
  pub number_is : number ≡ length before + 1

-- The text of a number isn't accepted, for this cause in this place; or memory was refused.
abbrev pub IsRefusedAt : List (List ℕ) → ℕ → AddError → Type 0
IsRefusedAt texts number (Refused cause location) = (text : List ℕ) × StandsAt texts number text × IsRefused text (Refused cause location)
IsRefusedAt texts number Memory = Unit {0}
