-- Start tags that waited, with attributes from places of a text.
use Rattle.std.proofs.Common.{refl, subst}
use Rattle.std.specs.Prelude.{ℕ, ◌≡◌, Bool, true, List, Option, None, Some, ◌++◌, map, IfSome, IsSomeAnd}
use Rattle.lol_base.specs.StartTags.{attribute_of, bytes_of}
use Rattle.lol_base.specs.declared.namespace.Namespace.{Namespace}
use Rattle.lol_base.specs.declared.start_tag.AuxStartTagInfo.{AuxStartTagInfo}
use Rattle.lol_matcher.specs.Answering.{IfWaits, IsFinishedAs, OpensFor, with_told}
use Rattle.lol_matcher.specs.Noted.{finished, finished_told, handed}
use Rattle.lol_matcher.specs.Refusing.{refusal_of}
use Rattle.lol_matcher.specs.Told.{Matching}
use Rattle.zugrenja_c.specs.Tags.{given_tag, given_told, outline_of}
use Rattle.zugrenja_c.specs.declared.attribute_places.AttributePlace.{AttributePlace}

-- what is so of a value that is there
pub weaker_of_some : {A : Type 0} {P Q : A → Type 0} (o : Option A) → ((a : A) → P a → Q a) → IsSomeAnd o P → IsSomeAnd o Q
weaker_of_some None weaker holds = holds
weaker_of_some (Some a) weaker holds = weaker a holds

module _ (old new : Matching ℕ) (aux : AuxStartTagInfo) (text : List ℕ) (places : List AttributePlace) (closes : Bool) where
  abbrev pub IsFinishedBy : List ℕ × Namespace → Type 0
  IsFinishedBy asked =
      IsFinishedAs old.told (given_tag asked text places closes) new
      × OpensFor old.told.events (given_tag asked text places closes) old new
      × (new ≡ with_told (given_told old.told (given_tag asked text places closes)) old new)
      × (refusal_of old old.told.events (given_tag asked text places closes) ≡ None)

  module _ (bytes : bytes_of aux.input ≡ text) (outlines : aux.attr_buffer.now.items ≡ map outline_of places) (closing : aux.self_closing ≡ closes) where
    pub finished_by : IfWaits old.told aux (λ tag. IsFinishedAs old.told tag new) → IfWaits old.told aux (λ tag. OpensFor old.told.events tag old new) → new ≡ with_told (finished_told old.told aux) old new
        → IfWaits old.told aux (λ tag. refusal_of old old.told.events tag ≡ None) → (old.told.asked ≡ None → ⊥) → IsSomeAnd old.told.asked IsFinishedBy
    finished_by = by_asked old.told.asked
      where
        by_asked : (asked : Option (List ℕ × Namespace)) → IfSome asked (λ a. IsFinishedAs old.told (handed a.0 a.1 aux) new) → IfSome asked (λ a. OpensFor old.told.events (handed a.0 a.1 aux) old new)
            → new ≡ with_told (record { ast = old.told.ast; esi = old.told.esi; events = old.told.events ++ finished asked aux; asked = None }) old new
            → IfSome asked (λ a. refusal_of old old.told.events (handed a.0 a.1 aux) ≡ None) → (asked ≡ None → ⊥) → IsSomeAnd asked IsFinishedBy
        by_asked None reported opens told fits waits = absurd (waits refl)
        by_asked (Some a) reported opens told fits waits =
            let same : handed a.0 a.1 aux ≡ given_tag a text places closes =
            (λ i. record { name = a.0; namespace = a.1; attributes = map (attribute_of (bytes i)) (outlines i); self_closing = closing i; finish = true }) in (
              subst (λ tag. IsFinishedAs old.told tag new) same reported,
              subst (λ tag. OpensFor old.told.events tag old new) same opens,
              subst (λ tag. new ≡ with_told (given_told old.told tag) old new) same told,
              subst (λ tag. refusal_of old old.told.events tag ≡ None) same fits,
            )
