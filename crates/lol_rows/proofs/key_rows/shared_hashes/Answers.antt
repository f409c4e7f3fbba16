use Rattle.std.proofs.Common.{arith, inl, inr, refl, sym, subst, List, ℕ, ◌-◌, ◌∷◌, [], get_or, Contains}
use Rattle.std.proofs.lemmas.List.Elements.{Contains-append_left, Contains-append_right}
use Rattle.lol_base.specs.MemberLaws.{contains_from_among}
use Rattle.lol_rows.specs.declared.key_table.Entry.{Entry}
use Rattle.lol_rows.proofs.Alike.{next_alike}
use Rattle.lol_rows.proofs.key_rows.shared_hashes.Goals as goal
use Rattle.lol_rows.proofs.key_rows.shared_hashes.Goals.{then-one-other+then-not-are_alike_at+in_ok-push, else-one-other, else-one-other-via-then-one-other+else-not-are_alike_at, else-one-other-via-else-one-other}

pub loop-index-preserved : goal.loop-index-preserved
loop-index-preserved c =
    let d : Entry = record { hash = 0; address = 0 } in
    let hash = (get_or c.args.entries.now (c.loop-index.index - 1) d).hash in
    elim c.if-one-other.branch [
      | then-one-other+then-not-are_alike_at+in_ok-push w ↦
          rw w.shared-is (next_alike c.args.kind c.args.instructions.now c.loop-index.shared.items w.push.new.self.items c.args.entries.now c.loop-index.index d (omega (arith, c.loop-index.auto.index)) c.loop-index-test.true c.loop-index.invariant
          (λ x h. subst (λ (l : List ℕ). Contains l x) (sym w.in_ok-push.ensures.items) (Contains-append_left c.loop-index.shared.items (hash ∷ []) x h))
          (λ same. inl (subst (λ (l : List ℕ). Contains l hash) (sym w.in_ok-push.ensures.items) (Contains-append_right c.loop-index.shared.items (hash ∷ []) hash (contains_from_among (hash ∷ []) hash (inl refl))))))
      | else-one-other w ↦
          elim w.else-one-other.branch [
            | else-one-other-via-then-one-other+else-not-are_alike_at w' ↦
                rw w.shared-is (next_alike c.args.kind c.args.instructions.now c.loop-index.shared.items c.loop-index.shared.items c.args.entries.now c.loop-index.index d (omega (arith, c.loop-index.auto.index)) c.loop-index-test.true c.loop-index.invariant (λ x h. h) (λ same. inr w'.if-not-are_alike_at.ensures))
            | else-one-other-via-else-one-other w' ↦
                rw w.shared-is (next_alike c.args.kind c.args.instructions.now c.loop-index.shared.items c.loop-index.shared.items c.args.entries.now c.loop-index.index d (omega (arith, c.loop-index.auto.index)) c.loop-index-test.true c.loop-index.invariant (λ x h. h) (λ same. absurd (w'.if-one-other.false same)))
          ]
    ]
