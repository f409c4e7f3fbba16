-- What a handle stands for, and how a matcher is made.
use Rattle.std.specs.Prelude.{ℕ, ◌≡◌, ◌||◌, nat_le, length, max, Bool, true, false, List, [], ◌∷◌, ◌++◌, ◌↔◌, Option, Some, None, Result, Ok, Err, IsSomeAnd}
use Rattle.lol_css.specs.Accepting.{accept}
use Rattle.lol_css.specs.Trees.{Items}
use Rattle.lol_css.specs.declared.error.ErrorLocation.{ErrorLocation}
use Rattle.lol_css.specs.declared.error.SelectorError.{SelectorError}
use Rattle.lol_instructions.specs.Tries.{names_counted, attributes_counted}
use Rattle.lol_program.specs.Asts.{pairs_of, nodes_of, is_with_rows}
use Rattle.lol_reasons.specs.Numbered.{HasItemsOf, texts_in}
use Rattle.lol_reasons.specs.declared.texts.Texts.{Texts}
use Rattle.lol_machine.specs.Views.{selectors}
use Rattle.lol_matcher.specs.Building.{Adds, IsRefused, KeepsPairs, started_with}
use Rattle.lol_matcher.specs.declared.builder.MatcherBuilder.{MatcherBuilder}
use Rattle.lol_matcher.specs.Told.{Matching}
use Rattle.lol_matcher.specs.declared.error.AddError.{AddError}
use Rattle.lol_matcher.specs.declared.error.AddError.TheVariants.{Refused, Memory}
use Rattle.zugrenja_c.specs.Numbers.{cause_number, combinator_of}
use Rattle.zugrenja_c.specs.Runs.{Run}
use Rattle.zugrenja_c.specs.declared.adding.Adding.{Adding}
use Rattle.zugrenja_c.specs.declared.status.Refusal.{Refusal}
use Rattle.zugrenja_c.specs.declared.session.Session.{Session}
use Rattle.zugrenja_c.specs.declared.session.Session.TheVariants as session

-- 1. A handle

-- There is a matcher to which selectors are added, and this holds of it.
abbrev pub IsAdding : Option Session → (Adding → Type 0) → Type 0
IsAdding (Some (session.Adding b)) holds = holds b
IsAdding s holds = ⊥

-- There is a matcher which is told of tags, and this holds of it.
abbrev pub IsMatching : Option Session → (Run → Type 0) → Type 0
IsMatching (Some (session.Matching r)) holds = holds r
IsMatching s holds = ⊥

-- If there is one, this holds of it.
abbrev pub IfMatching : Option Session → (Run → Type 0) → Type 0
IfMatching (Some (session.Matching r)) holds = holds r
IfMatching s holds = Unit {0}

-- If selectors are added before a call, they are after it, and this holds of the two.
abbrev pub StaysAdding : Option Session → Option Session → (Adding → Adding → Type 0) → Type 0
StaysAdding (Some (session.Adding b)) new holds = IsAdding new (λ c. holds b c)
StaysAdding old new holds = Unit {0}

-- If a matcher is told of tags before a call, it is after it, with the same texts, and this holds of the two.
abbrev pub StaysMatching : Option Session → Option Session → (Run → Run → Type 0) → Type 0
StaysMatching old new holds = IfMatching old (λ r. IsMatching new (λ s. (s.texts ≡ r.texts) × holds r s))

-- There is a matcher to which selectors are added.
abbrev pub IsUnbuilt : Option Session → Type 0
IsUnbuilt s = IsAdding s (λ _. Unit {0})

-- There is a matcher which is told of tags.
abbrev pub IsBuilt : Option Session → Type 0
IsBuilt s = IsMatching s (λ _. Unit {0})

-- 2. Selectors

-- A matcher that explains has texts from the start; another has none.
abbrev pub HasNoTexts : Bool → Option Texts → Type 0
HasNoTexts explains None = explains ≡ false
HasNoTexts explains (Some texts) = (explains ≡ true) × (texts_in texts ≡ [])

-- There are no selectors yet, with these settings.
pub record IsFresh (explains : Bool) (max_memory element_bytes esi : ℕ) (b : Adding) : Type 0 where
  pub pairs : pairs_of b.settings.ast ≡ []
  pub nodes : nodes_of b.settings.ast ≡ []
  pub memory : b.settings.max_memory ≡ max_memory
  pub bytes : b.settings.element_bytes ≡ max element_bytes 1
  pub void : (b.settings.enable_esi_tags ≡ false) ↔ (esi ≡ 0)
  pub texts : HasNoTexts explains b.texts

-- settings with the selectors of others
abbrev pub with_tree : MatcherBuilder → MatcherBuilder → MatcherBuilder
with_tree settings other = record settings { ast = other.ast }

-- An accepted text comes: its selectors under its id or, where texts are kept, the text itself.
abbrev pub TextComes : ℕ → List ℕ → Option Texts → Adding → Adding → Type 0
TextComes id text None old new = Adds id text old.settings.ast new.settings.ast × (new ≡ record old { settings = with_tree old.settings new.settings })
TextComes id text (Some texts) old new =
    (items : Items)
    × (accept text ≡ Ok items)
    × IsSomeAnd new.texts (λ more. texts_in more ≡ texts_in texts ++ record { id = id; items = items } ∷ [])
    × (new.settings ≡ old.settings)

-- Out of memory it doesn't.
abbrev pub TextIsLeft : ℕ → List ℕ → Option Texts → Adding → Adding → Type 0
TextIsLeft id text None old new = KeepsPairs id text old.settings.ast new.settings.ast × (new ≡ record old { settings = with_tree old.settings new.settings })
TextIsLeft id text (Some texts) old new = IsSomeAnd new.texts (λ same. texts_in same ≡ texts_in texts) × (new.settings ≡ old.settings)

-- What adding a text under an id does, by its status.
pub record AddsText (status id : ℕ) (text : List ℕ) (old new : Adding) : Type 0 where
  pub added : status ≡ 0 → TextComes id text old.texts old new
  pub memory : status ≡ 4 → TextIsLeft id text old.texts old new

-- a refusal for a cause, in a place, as C gets it
abbrev pub refusal_written : SelectorError → ErrorLocation → Refusal
refusal_written cause location = record { cause = cause_number cause; combinator = combinator_of cause; item = location.item; offset = location.offset }

-- What an outcome of adding a text writes, with this status: the refusal of a text that isn't accepted.
abbrev pub IsAddedAs : Result (Unit {0}) AddError → ℕ → Refusal → Refusal → Type 0
IsAddedAs (Ok done) status old new = (status ≡ 0) × (new ≡ old)
IsAddedAs (Err (Refused cause location)) status old new = (status ≡ 10) × (new ≡ refusal_written cause location)
IsAddedAs (Err Memory) status old new = (status ≡ 4) × (new ≡ old)

-- A text isn't accepted, for this cause and in this place.
pub record IsNotAccepted (text : List ℕ) (refusal : Refusal) : Type 0 where
  pub cause : SelectorError
  pub location : ErrorLocation
  pub refused : IsRefused text (Refused cause location)
  pub written : refusal ≡ refusal_written cause location

-- 3. Rows, and what is built

-- A matcher that doesn't explain will have rows if so many nodes were added, or if it would have had them. Nothing else changes.
pub record HasRowsFrom (fewest : ℕ) (old new : Adding) : Type 0 where
  pub plain : old.texts ≡ None
  pub pairs : pairs_of new.settings.ast ≡ pairs_of old.settings.ast
  pub nodes : nodes_of new.settings.ast ≡ nodes_of old.settings.ast
  pub rows : is_with_rows new.settings.ast ≡ (is_with_rows old.settings.ast || nat_le fewest (length (nodes_of old.settings.ast)))
  pub rest : new ≡ record old { settings = with_tree old.settings new.settings }

-- A matcher has the selectors that were added or, where texts were, their items, each under its number.
abbrev pub HasSelectorsOf : Option Texts → MatcherBuilder → Matching ℕ → Type 0
HasSelectorsOf None settings m = m.told.ast ≡ settings.ast
HasSelectorsOf (Some texts) settings m = HasItemsOf (texts_in texts) (selectors m.told.ast)

-- A matcher was built, and told of nothing yet.
pub record IsBuiltFrom (b : Adding) (r : Run) : Type 0 where
  pub texts : r.texts ≡ b.texts
  pub has_selectors : HasSelectorsOf b.texts b.settings r.matcher
  pub told : r.matcher ≡ started_with r.matcher.told.ast b.settings.max_memory (max b.settings.element_bytes 1) b.settings.enable_esi_tags r.matcher.tries
  pub untried : (names_counted r.matcher.tries ≡ 0) × (attributes_counted r.matcher.tries ≡ 0)
