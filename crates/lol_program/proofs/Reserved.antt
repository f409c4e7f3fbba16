-- Reserved ids while the forest takes the id.
use Rattle.std.proofs.Common.{ℕ, ◌≡◌, ◌⊎◌, inl, inr, List, [], ◌∷◌, length, Option, Some, refl, sym, ap, subst, ◌∙◌, arith}
use Rattle.std.proofs.lemmas.Option.{same_Some}
use Rattle.lol_memory.specs.Ids.{Ids, with_id}
use Rattle.lol_memory.specs.SetLaws.{held_has_room}
use Rattle.lol_css.specs.declared.selector.ComplexSelector.{ComplexSelector}
use Rattle.lol_css.specs.declared.selector.SimpleSelector.TheViews.{out-ComplexSelector}
use Rattle.lol_program.specs.AstPaths.{FitsPath, AllFit}
use Rattle.lol_program.specs.Forest.{Forest}
use Rattle.lol_program.specs.Growth.{IsWith}
use Rattle.lol_program.specs.IdSetLaws.{has_if_listed, set_of-IsWith, with_id-again}
use Rattle.lol_program.specs.IdsForNodes.{id_in, set_of, Fits}
use Rattle.lol_program.specs.Views.{tests_of_compound, steps_of}
use Rattle.lol_program.specs.declared.node_id.IdForNode.{IdForNode}
use Rattle.lol_program.specs.declared.node_id.IdForNode.TheVariants.{Nothing, Id, Reserved}
use Rattle.lol_program.proofs.Standing.{KeepsWith, Leaves}

-- what fits a node, fits it still when the node has the id
fits_with : (given : IdForNode) (id : ℕ) → id_in given ≡ Some id → (old new : List ℕ) → IsWith id old new → Fits given old → Fits given new
fits_with Nothing id is old new with h = tt
fits_with (Id k) id is old new with h = held_has_room (set_of new) k (has_if_listed new k ((with k).1 (inr (sym (same_Some k id is)))))
fits_with (Reserved k set) id is old new with h =
    h ∙ sym (ap (λ (s : Ids). with_id s k) (set_of-IsWith id old new with ∙ ap (with_id (set_of old)) (sym (same_Some k id is))) ∙ with_id-again (set_of old) k)

pub fits_stay : (given : IdForNode) (taken : Option ℕ) (id : ℕ) → id_in given ≡ Some id → taken ≡ Some id → Leaves taken (Fits given)
fits_stay given taken id is same x e old new with h = fits_with given x (is ∙ sym same ∙ e) old new with h

pub all_stay : (id : ℕ) (old new : Forest) → ((given : IdForNode) → id_in given ≡ Some id → KeepsWith (Fits given) old new)
    → (items : List ComplexSelector) (ids : List IdForNode) → AllFit id old items ids → AllFit id new items ids
all_stay id old new keeps [] [] h = tt
all_stay id old new keeps [] (x ∷ ids) h = absurd h
all_stay id old new keeps (item ∷ items) [] h = absurd h
all_stay id old new keeps (item ∷ items) (x ∷ ids) h =
    ((h.0.0, keeps x h.0.0 (tests_of_compound (out-ComplexSelector item).first) (steps_of (out-ComplexSelector item).rest.items) h.0.1), all_stay id old new keeps items ids h.1)

-- the first path with what was reserved for it, and the others with theirs
pub first_fits : (id : ℕ) (f : Forest) (items others : List ComplexSelector) (ids rest : List IdForNode) (item : ComplexSelector) (x : IdForNode) → items ≡ item ∷ others → ids ≡ x ∷ rest
    → AllFit id f items ids → FitsPath id f item x × AllFit id f others rest
first_fits id f items others ids rest item x is are h = subst (AllFit id f (item ∷ others)) are (subst (λ (l : List ComplexSelector). AllFit id f l ids) is h)

-- No paths are left where nothing that was reserved is.
pub none_left : (id : ℕ) (f : Forest) (items : List ComplexSelector) (ids : List IdForNode) → AllFit id f items ids → (length items ≡ 0) ⊎ (length ids ≡ 0) → items ≡ []
none_left id f [] ids h none = refl
none_left id f (item ∷ items) [] h none = absurd h
none_left id f (item ∷ items) (x ∷ ids) h (inl none) = absurd (omega (arith, none))
none_left id f (item ∷ items) (x ∷ ids) h (inr none) = absurd (omega (arith, none))
