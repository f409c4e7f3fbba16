-- Which numbers are answered.
use Rattle.std.proofs.Common.{arith, ◌≡◌, ℕ, Bool, true, false, List, [], ◌∷◌, refl}
use Rattle.lol_base.specs.declared.namespace.Namespace.{Namespace}
use Rattle.lol_matcher.specs.Refusing.{RefusesStart}
use Rattle.lol_matcher.specs.Told.{Matching}
use Rattle.lol_reasons.specs.AskedRuns.{bare_tag}
use Rattle.lol_matcher.specs.declared.error.MatcherError.{MatcherError}
use Rattle.lol_matcher.specs.declared.error.MatcherError.TheVariants.{MemoryLimitExceeded, Memory, CounterFull, Failed, NotAsked, OutsideInput}
use Rattle.zugrenja_c.specs.Numbers.{IsOneOf, error_number}

module _ (m : Matching ℕ) (name : List ℕ) (ns : Namespace) where
  -- the error of a start tag, which comes after a refusal or isn't `Failed`
  by_error : (error : MatcherError) (failed : Bool) → (failed ≡ true → error ≡ Failed) → (failed ≡ false → RefusesStart error m name ns) → IsOneOf (0 ∷ 1 ∷ 11 ∷ 12 ∷ 13 ∷ 14 ∷ 15 ∷ []) (error_number error)
  by_error MemoryLimitExceeded failed is refuses = grind arith
  by_error CounterFull failed is refuses = grind arith
  by_error Memory failed is refuses = grind arith
  by_error Failed failed is refuses = grind arith
  by_error NotAsked true is refuses = let e = is refl in cc
  by_error NotAsked false is refuses = absurd (refuses refl (bare_tag name ns) refl refl)
  by_error OutsideInput true is refuses = let e = is refl in cc
  by_error OutsideInput false is refuses = absurd (refuses refl (bare_tag name ns) refl refl)

  pub start_status : (error : MatcherError) → (m.failed ≡ true → error ≡ Failed) → (m.failed ≡ false → RefusesStart error m name ns) → IsOneOf (0 ∷ 1 ∷ 11 ∷ 12 ∷ 13 ∷ 14 ∷ 15 ∷ []) (error_number error)
  start_status error is refuses = by_error error m.failed is refuses
