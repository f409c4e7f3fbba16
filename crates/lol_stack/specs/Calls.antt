-- Handlers that are called at each member of a list, in order.
use Rattle.std.specs.Prelude.{ℕ, Bool, List, map}
use Rattle.std.specs.List.{FoldsTo}
use Rattle.lol_memory.specs.declared.match_info.MatchInfo.{MatchInfo}

-- calls that `step` describes, one at each item of xs in order, took the handler f to g
abbrev pub IsCalledAtEach : {F A : Type 0} → (F → A → Unit {0} → F → Type 0) → F → List A → F → Type 0
IsCalledAtEach step f xs g = FoldsTo (λ p x q. step p x tt q) f xs g

-- the reports of ids, all with one content mark
abbrev pub reports : Bool → List ℕ → List MatchInfo
reports with_content ids = map (λ id. record { match_id = id; with_content = with_content }) ids
