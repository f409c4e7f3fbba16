-- Where each node stands at its address, the instructions are those of the layout.
use Rattle.std.proofs.Common.{◌≡◌, ℕ, suc, ◌+◌, List, [], ◌∷◌, ◌++◌, length, map, Some, inl, inr, refl, sym, ap, ◌∙◌, subst, arith}
use Rattle.std.proofs.lemmas.List.{length-map}
use Rattle.lol_css.specs.declared.selector.Combinator.TheVariants.{Child, Descendant}
use Rattle.lol_instructions.specs.Compounds.{Compound}
use Rattle.lol_program.specs.Paths.{Path, First, Then}
use Rattle.lol_program.specs.Forest.{Forest, none, more, size}
use Rattle.lol_program.specs.Programs.{Instruction, IsAt}
use Rattle.lol_program.specs.Layouts.{width, Entry, laid_tops, laid_below, laid, program_of}
use Rattle.lol_program.specs.Laying.{Laid}
use Rattle.lol_base.specs.MemberLaws.{Among, among_either}
use Rattle.lol_base.specs.PlaceLaws.{some_is, at_among}
use Rattle.lol_program.proofs.ListIndices.{at_map}
use Rattle.lol_program.proofs.Laid.{numbered_at, laid_from, below_numbered, length_laid}

abbrev HasAddress : List Instruction → Entry → Type 0
HasAddress instructions t = IsAt instructions t.address t.instruction

tops_placed : (make : Compound → Path) (f : Forest) (address free : ℕ) (instructions : List Instruction) → Laid instructions address free f → (t : Entry) → Among (laid_tops make f address free) t → HasAddress instructions t
tops_placed make none address free instructions l t a = absurd a
tops_placed make (more c ids children descendants rest) address free instructions l t (inl is) = subst (HasAddress instructions) is l.0
tops_placed make (more c ids children descendants rest) address free instructions l t (inr a) = tops_placed make rest (suc address) (free + (size children + size descendants)) instructions l.1.1.1 t a

below_placed : (make : Compound → Path) (f : Forest) (address free : ℕ) (instructions : List Instruction) → Laid instructions address free f → (t : Entry) → Among (laid_below make f free) t → HasAddress instructions t
below_placed make none address free instructions l t a = absurd a
below_placed make (more c ids children descendants rest) address free instructions l t a =
    let mc = Then (make c) Child in
    let md = Then (make c) Descendant in
    let inner = laid mc children free in
    let deeper = laid md descendants (free + size children) in
    let others = laid_below make rest (free + (size children + size descendants)) in
    elim (among_either inner (deeper ++ others) t a) [
      | inl x ↦ elim (among_either (laid_tops mc children free (free + width children)) (laid_below mc children (free + width children)) t x) [
        | inl top ↦ tops_placed mc children free (free + width children) instructions l.1.0 t top
        | inr deep ↦ below_placed mc children free (free + width children) instructions l.1.0 t deep
      ]
      | inr y ↦ elim (among_either deeper others t y) [
        | inl x ↦ elim (among_either (laid_tops md descendants (free + size children) ((free + size children) + width descendants)) (laid_below md descendants ((free + size children) + width descendants)) t x) [
          | inl top ↦ tops_placed md descendants (free + size children) ((free + size children) + width descendants) instructions l.1.1.0 t top
          | inr deep ↦ below_placed md descendants (free + size children) ((free + size children) + width descendants) instructions l.1.1.0 t deep
        ]
        | inr z ↦ below_placed make rest (suc address) (free + (size children + size descendants)) instructions l.1.1.1 t z
      ]
    ]

-- lists of one length, where each item of the second is that of the first
equal_at : {A : Type 0} (xs ys : List A) → length xs ≡ length ys → ((k : ℕ) (y : A) → IsAt ys k y → IsAt xs k y) → xs ≡ ys
equal_at [] [] e h = refl
equal_at [] (y ∷ ys) e h = absurd (omega (arith, e))
equal_at (x ∷ xs) [] e h = absurd (omega (arith, e))
equal_at (x ∷ xs) (y ∷ ys) e h =
    let first : x ≡ y = some_is (h 0 y refl) in
    λ i. first i ∷ equal_at xs ys (omega (arith, e)) (λ k z at. h (suc k) z at) i

pub filled : (f : Forest) (instructions : List Instruction) → length instructions ≡ size f → Laid instructions 0 (0 + width f) f → instructions ≡ (program_of f).instructions
filled f instructions count l =
    equal_at instructions (map (λ (t : Entry). t.instruction) (laid First f 0)) (count ∙ sym (length-map (laid First f 0) (λ (t : Entry). t.instruction) ∙ length_laid First f 0)) each
  where
    placed : (t : Entry) → Among (laid First f 0) t → HasAddress instructions t
    placed t a = elim (among_either (laid_tops First f 0 (0 + width f)) (laid_below First f (0 + width f)) t a) [
      | inl top ↦ tops_placed First f 0 (0 + width f) instructions l t top
      | inr deep ↦ below_placed First f 0 (0 + width f) instructions l t deep
    ]

    each : (k : ℕ) (y : Instruction) → IsAt (map (λ (t : Entry). t.instruction) (laid First f 0)) k y → IsAt instructions k y
    each k y at =
        let x = at_map (λ (t : Entry). t.instruction) (laid First f 0) k y at in
        let address = numbered_at 0 (laid First f 0) k x.0 (laid_from First f 0 (below_numbered First f (0 + width f))) x.1 in
        let here : x.0.address ≡ k = omega (arith, address) in
        subst (λ n. IsAt instructions n y) here (placed x.0 (at_among (laid First f 0) k x.0 x.1) ∙ ap Some x.2)
