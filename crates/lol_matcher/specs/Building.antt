-- What a contract sees of a matcher that is being made.
use Rattle.std.specs.Prelude.{ℕ, ◌≡◌, Bool, false, [], List, Some, None, Ok, Err}
use Rattle.lol_css.specs.Accepting.{accept}
use Rattle.lol_css.specs.Trees.{Items}
use Rattle.lol_css.specs.Locating.{error_location}
use Rattle.lol_instructions.specs.declared.tries.Tries.{Tries}
use Rattle.lol_program.specs.Asts.{pairs_of, nodes_of}
use Rattle.lol_program.specs.Conditions.{pairs_under}
use Rattle.lol_program.specs.Paths.{all_beginnings}
use Rattle.lol_program.specs.Sets.{Joins, SameMembers, IsBetween}
use Rattle.lol_program.specs.declared.ast.Ast.{Ast}
use Rattle.lol_matcher.specs.Told.{Matching}
use Rattle.lol_matcher.specs.declared.error.AddError.{AddError}
use Rattle.lol_matcher.specs.declared.error.AddError.TheVariants.{Refused, Memory}

-- A text is accepted, and its selectors were added under an id.
pub record Adds (id : ℕ) (text : List ℕ) (old new : Ast) : Type 0 where
  pub items : Items
  pub accepted : accept text ≡ Ok items
  pub pairs : Joins (pairs_of old) (pairs_of new) (pairs_under id items)
  pub nodes : Joins (nodes_of old) (nodes_of new) (all_beginnings (pairs_under id items))

-- Memory was refused: no selector came or went, though nodes of the text's may stand in the tree.
pub record KeepsPairs (id : ℕ) (text : List ℕ) (old new : Ast) : Type 0 where
  pub pairs : SameMembers (pairs_of old) (pairs_of new)
  pub nodes : (items : Items) → accept text ≡ Ok items → IsBetween (nodes_of old) (nodes_of new) (all_beginnings (pairs_under id items))

-- A text isn't accepted: for this cause, in this place; or memory was refused.
abbrev pub IsRefused : List ℕ → AddError → Type 0
IsRefused text (Refused cause location) = (accept text ≡ Err cause) × (error_location text ≡ Some location)
IsRefused text Memory = Unit {0}

-- A text wasn't added: it isn't accepted, and the tree is as it was, or memory was refused.
abbrev pub Refuses : ℕ → List ℕ → AddError → Ast → Ast → Type 0
Refuses id text (Refused cause location) old new = IsRefused text (Refused cause location) × (new ≡ old)
Refuses id text Memory old new = KeepsPairs id text old new

-- a matcher that was told of nothing yet
abbrev pub started_with : {T : Type 0} → Ast → ℕ → ℕ → Bool → Tries → Matching T
started_with ast max_memory element_bytes esi tries =
    record {
      told = record { ast = ast; esi = esi; events = []; asked = None };
      max_memory = max_memory;
      element_bytes = element_bytes;
      failed = false;
      matched = [];
      tries = tries;
      opened = false;
      open_elements = [];
      kept = [];
    }
