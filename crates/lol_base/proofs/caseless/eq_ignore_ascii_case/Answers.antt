use Rattle.std.proofs.Common.{◌≡◌, ◌∙◌, ◌↔◌, ◌++◌, ◌-◌, List, ℕ, ap, sym, take, drop, length, length-drop, true≢false, arith}
use Rattle.std.specs.Char.{to_ascii_lowercase}
use Rattle.std.proofs.lemmas.List.{drop-map, length-take-le, map-append, take-append-drop, take-map, take_rest}
use Rattle.lol_base.specs.Names.{lowercased}
use Rattle.lol_base.proofs.caseless.eq_ignore_ascii_case.Goals as goal

pub slice_bounds-are_equal-end-in-loop-rest : goal.slice_bounds-are_equal-end-in-loop-rest
slice_bounds-are_equal-end-in-loop-rest c =
    sym (length-take-le 64 c.loop-rest.other.now (omega (arith, c.loop-rest-test.true, c.loop-rest.invariant.long)))

pub are_equal-requires : goal.are_equal-requires
are_equal-requires c =
    length-take-le 64 c.loop-rest.rest.now c.loop-rest-test.true
    ∙ sym (length-take-le 64 c.loop-rest.other.now (omega (arith, c.loop-rest-test.true, c.loop-rest.invariant.long)))

pub returns-then-not-are_equal : goal.returns-then-not-are_equal
returns-then-not-are_equal c =
    let front : (bytes : List ℕ) → take 64 (lowercased bytes) ≡ lowercased (take 64 bytes) = take-map to_ascii_lowercase 64 in
    let rest = c.loop-rest.rest.now in
    let other = c.loop-rest.other.now in (
      λ e. absurd (true≢false (sym e)),
      λ same. absurd (true≢false (sym (c.are_equal.ensures.1 (sym (front rest) ∙ (ap (take 64) (c.loop-rest.invariant.same.0 same) ∙ front other)))
          ∙ c.if-not-are_equal.true)),
    )

-- two texts that begin alike are the same exactly if what follows is
after_equal : (P : Type 0) (xs ys : List ℕ) → P ↔ (lowercased xs ≡ lowercased ys) → lowercased (take 64 xs) ≡ lowercased (take 64 ys)
    → P ↔ (lowercased (take (length xs - 64) (drop 64 xs)) ≡ lowercased (take (length ys - 64) (drop 64 ys)))
after_equal P xs ys same front =
    let rest : (bytes : List ℕ) → drop 64 (lowercased bytes) ≡ lowercased (take (length bytes - 64) (drop 64 bytes)) =
    λ bytes. drop-map to_ascii_lowercase 64 bytes ∙ ap lowercased (sym (take_rest bytes 64)) in
    let whole : (bytes : List ℕ) → lowercased bytes ≡ lowercased (take 64 bytes) ++ lowercased (take (length bytes - 64) (drop 64 bytes)) =
    λ bytes. ap lowercased (sym (take-append-drop 64 bytes)) ∙ (map-append to_ascii_lowercase (take 64 bytes) (drop 64 bytes)
    ∙ ap (λ end. lowercased (take 64 bytes) ++ lowercased end) (sym (take_rest bytes 64))) in (
      λ p. sym (rest xs) ∙ (ap (drop 64) (same.0 p) ∙ rest ys),
      λ e. same.1 (whole xs ∙ (ap (λ end. lowercased (take 64 xs) ++ end) e ∙ (ap (λ begin. begin ++ lowercased (take (length ys - 64) (drop 64 ys))) front ∙ sym (whole ys)))),
    )

as_long : (xs ys : List ℕ) → length xs ≡ length ys → length (take (length xs - 64) (drop 64 xs)) ≡ length (take (length ys - 64) (drop 64 ys))
as_long xs ys long =
    ap length (take_rest xs 64) ∙ (length-drop 64 xs ∙ (ap (λ n. n - 64) long ∙ (sym (length-drop 64 ys) ∙ sym (ap length (take_rest ys 64)))))

pub loop-rest-preserved : goal.loop-rest-preserved
loop-rest-preserved c =
    record {
      long = as_long c.loop-rest.rest.now c.loop-rest.other.now c.loop-rest.invariant.long;
      same = after_equal _ c.loop-rest.rest.now c.loop-rest.other.now c.loop-rest.invariant.same (c.are_equal.ensures.0 c.if-not-are_equal.false);
    }

pub returns : goal.returns
returns c = (
  λ e. c.loop-rest.invariant.same.1 (c.eq_ignore_ascii_case.ensures.test.0 e),
  λ same. c.eq_ignore_ascii_case.ensures.test.1 (c.loop-rest.invariant.same.0 same),
)
