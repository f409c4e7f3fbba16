use Rattle.std.proofs.Common.{ℕ, ◌≤◌, ◌-◌, List, length, take, drop, subst, arith, not, nat_eq, inl, inr, refl}
use Rattle.std.specs.List.{filter}
use Rattle.std.proofs.lemmas.List.{length-take, length-drop}
use Rattle.std.proofs.lemmas.List.Sums.{length-filter, count_by-le-length}
use Rattle.lol_memory.specs.SparseWords.{IsScattered}
use Rattle.lol_memory.proofs.FormLemmas.{scattered_push, scattered_skip}
use Rattle.lol_memory.proofs.sparse_words.placed.Goals.{then-number-eq0+in_ok-push, then-number-eq0-via-then-number-eq0, then-number-eq0-via-else-number-eq0+then-bits-ne0, else-number-eq0+else-bits-ne0}
use Rattle.lol_memory.proofs.sparse_words.placed.Goals as goal

fewer : (words : List ℕ) → length (filter (λ word. not (nat_eq word 0)) words) ≤ length words
fewer words = omega (arith, length-filter (λ word. not (nat_eq word 0)) words, count_by-le-length (λ word. not (nat_eq word 0)) words)

pub overflow_add-count_held : goal.overflow_add-count_held
overflow_add-count_held c =
    let words = c.args.words.now in
    let rest : List ℕ = take (length words - 1) (drop 1 words) in
    omega (arith, c.count_held.ensures, fewer rest, length-take (length words - 1) (drop 1 words), length-drop 1 words, c.requires.few)

pub loop-number-preserved : goal.loop-number-preserved
loop-number-preserved c = elim c.if-number-eq0.branch [
  | then-number-eq0+in_ok-push w ↦ rw (w.sparse-is, w.in_ok-push.ensures.items)
      (scattered_push c.args.words.now c.loop-number.number c.loop-number.sparse.items _ c.loop-number.invariant refl refl
      (elim w.then-number-eq0.branch [ then-number-eq0-via-then-number-eq0 w' ↦ inr w'.if-number-eq0.true | then-number-eq0-via-else-number-eq0+then-bits-ne0 w' ↦ inl w'.if-bits-ne0.true ]))
  | else-number-eq0+else-bits-ne0 w ↦ rw w.sparse-is (scattered_skip c.args.words.now c.loop-number.number c.loop-number.sparse.items c.loop-number.invariant (omega (arith, w.if-number-eq0.false)) w.if-bits-ne0.false)
]

pub returns : goal.returns
returns c = subst (λ n. IsScattered c.args.words.now n c.loop-number.sparse.items) (omega (arith, c.loop-number-test.false)) c.loop-number.invariant
