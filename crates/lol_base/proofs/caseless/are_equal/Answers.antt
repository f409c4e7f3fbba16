use Rattle.std.proofs.Common.{◌≡◌, ◌∙◌, ◌↔◌, ◌&&◌, ◌++◌, ◌+◌, ◌<◌, ◌∷◌, [], Bool, true, false, IsTrue, List, ℕ, suc, ap, sym, refl, take, length, nat_eq, slice_index_or, arith}
use Rattle.std.specs.Char.{to_ascii_lowercase}
use Rattle.std.proofs.Math.Seq.{take-suc}
use Rattle.std.proofs.lemmas.List.{map-append, same_from_push, take_all}
use Rattle.std.specs.Cmp.{unsigned_Decides}
use Rattle.lol_base.specs.Names.{lowercased}
use Rattle.lol_base.proofs.caseless.are_equal.Goals as goal

pub loop-offset-init : goal.loop-offset-init
loop-offset-init c = (λ _. refl, λ _. refl)

one_more : (equal : Bool) (xs ys : List ℕ) (x y : ℕ) → IsTrue equal ↔ (xs ≡ ys) → IsTrue (equal && nat_eq x y) ↔ (xs ++ x ∷ [] ≡ ys ++ y ∷ [])
one_more true xs ys x y same = (
  λ e. ap (λ front. front ++ x ∷ []) (same.0 refl) ∙ ap (λ z. ys ++ z ∷ []) ((unsigned_Decides x y).0 e),
  λ e. (unsigned_Decides x y).1 (same_from_push xs ys x y e).1,
)
one_more false xs ys x y same = (λ e. absurd (cc), λ e. same.1 (same_from_push xs ys x y e).0)

lower_push : (bytes : List ℕ) (offset : ℕ) → offset < length bytes
    → lowercased (take (offset + 1) bytes) ≡ lowercased (take offset bytes) ++ to_ascii_lowercase (slice_index_or bytes offset 0) ∷ []
lower_push bytes offset within =
    ap (λ n. lowercased (take n bytes)) (let more : offset + 1 ≡ suc offset = omega arith in more)
    ∙ (ap lowercased (take-suc bytes offset 0 within) ∙ map-append to_ascii_lowercase (take offset bytes) _)

pub loop-offset-preserved : goal.loop-offset-preserved
loop-offset-preserved c =
    let offset = c.loop-offset.offset in
    let a = c.args.a.now in
    let b = c.args.b.now in
    let front : (bytes : List ℕ) → List ℕ = λ bytes. lowercased (take offset bytes) in
    let x = to_ascii_lowercase (slice_index_or a offset 0) in
    let y = to_ascii_lowercase (slice_index_or b offset 0) in
    let grown = one_more c.loop-offset.equal (front a) (front b) x y c.loop-offset.invariant in
    let first = lower_push a offset c.loop-offset-test.true in
    let second = lower_push b offset (omega (arith, c.loop-offset-test.true, c.requires)) in
    let bytes : nat_eq c.to_ascii_lowercase.result c.to_ascii_lowercase-in-loop-offset.result ≡ nat_eq x y =
    ap (λ z. nat_eq z c.to_ascii_lowercase-in-loop-offset.result) c.to_ascii_lowercase.ensures.value
    ∙ ap (nat_eq x) c.to_ascii_lowercase-in-loop-offset.ensures.value in
    let same = ap (λ e. c.loop-offset.equal && e) bytes in
    (λ e. first ∙ (grown.0 (sym same ∙ e) ∙ sym second), λ e. same ∙ grown.1 (sym first ∙ (e ∙ second)))

pub returns : goal.returns
returns c =
    let a = c.args.a.now in
    let b = c.args.b.now in
    let whole = take_all c.loop-offset.offset a c.loop-offset-test.false in
    let other = take_all c.loop-offset.offset b (omega (arith, c.loop-offset-test.false, c.requires)) in (
      λ e. ap lowercased (sym whole) ∙ (c.loop-offset.invariant.0 e ∙ ap lowercased other),
      λ e. c.loop-offset.invariant.1 (ap lowercased whole ∙ (e ∙ ap lowercased (sym other))),
    )
