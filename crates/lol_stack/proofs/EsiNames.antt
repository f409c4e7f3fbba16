-- The two names that are void where ESI is on.
use Rattle.std.proofs.Common.{◌≡◌, ◌∙◌, sym, ap, refl, true≢false, ℕ, true, false, ◌||◌, List, codes}
use Rattle.std.specs.Str.{bytes_eq}
use Rattle.std.proofs.lemmas.Slice.Eq.{bytes_eq-Decides}
use Rattle.lol_base.specs.BoolLaws.{or-false}
use Rattle.lol_base.specs.Names.{is_esi, esi_names, lowercased}
use Rattle.lol_base.specs.LocalNames.{is_hash}

pub is_esi-either : (name : List ℕ) → is_esi name ≡ (bytes_eq name (codes "esi:include") || bytes_eq name (codes "esi:comment"))
unfolding esi_names
is_esi-either name = ap (λ b. bytes_eq name (codes "esi:include") || b) (or-false (bytes_eq name (codes "esi:comment")))

hash_differs : (name other : List ℕ) → is_hash (lowercased name) ≡ true → is_hash (lowercased other) ≡ false → bytes_eq name other ≡ false
hash_differs name other hash none =
    elim (bytes_eq name other) as (λ b. bytes_eq name other ≡ b → b ≡ false) [
      | true ↦ λ same. absurd (true≢false (sym hash ∙ (ap (λ bytes. is_hash (lowercased bytes)) ((bytes_eq-Decides name other).0 same) ∙ none)))
      | false ↦ λ differ. refl
    ] refl

-- a hash is neither of them
pub is_esi-hash : (name : List ℕ) → is_hash (lowercased name) ≡ true → is_esi name ≡ false
is_esi-hash name hash =
    is_esi-either name
    ∙ (ap (λ b. b || bytes_eq name (codes "esi:comment")) (hash_differs name (codes "esi:include") hash refl) ∙ hash_differs name (codes "esi:comment") hash refl)
