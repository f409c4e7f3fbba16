-- Why a run stops, as events come.
use Rattle.std.proofs.Common.{◌≡◌, ℕ, ◌≤◌, ◌<◌, inl, inr, Bool, List, [], ◌∷◌, ◌++◌, length, Option, Some, None, refl, sym, ap, ◌∙◌, subst, arith, ◌⊎◌}
use Rattle.lol_base.specs.PlaceLaws.{head_is, tail_is}
use Rattle.lol_base.specs.StartTags.{StartTag}
use Rattle.lol_program.specs.Paths.{Selectors}
use Rattle.lol_machine.specs.Events.{Event, Start}
use Rattle.lol_machine.specs.FreeTags.{RunsWithoutMemory}
use Rattle.lol_machine.specs.RefusalLaws.{counter_comes_later, first_is, stops_at}
use Rattle.lol_machine.specs.Refusals.{Allowance, Cause, Limit, Counter, refused}
use Rattle.lol_matcher.specs.Refusing.{IsRefusedFor}
use Rattle.lol_matcher.specs.declared.error.MatcherError.{MatcherError}
use Rattle.lol_matcher.specs.declared.error.MatcherError.TheVariants as errors
use Rattle.lol_vm.specs.RunRefusals.{IsUntil, StopsBeforeLimit, StopsFor}
use Rattle.lol_vm.specs.ToldEvents.{IsCauseOf, IsWithoutMemory, refusal_at}
use Rattle.lol_vm.specs.declared.events.RunCause.{RunCause}
use Rattle.lol_vm.specs.declared.events.RunCause.TheVariants.{MemoryLimitExceeded, CounterFull, Memory}

-- lists that are parted after as many
parted : {A : Type 0} (xs ys us vs : List A) (x y : A) → length xs ≡ length ys → xs ++ x ∷ us ≡ ys ++ y ∷ vs → (xs ≡ ys) × (x ≡ y)
parted [] [] us vs x y many is = (refl, head_is x y us vs is)
parted [] (b ∷ ys) us vs x y many is = absurd (omega (arith, many))
parted (a ∷ xs) [] us vs x y many is = absurd (omega (arith, many))
parted (a ∷ xs) (b ∷ ys) us vs x y many is =
    let first = head_is a b (xs ++ x ∷ us) (ys ++ y ∷ vs) is in
    let rest = parted xs ys us vs x y (omega (arith, many)) (tail_is a b (xs ++ x ∷ us) (ys ++ y ∷ vs) is) in
    ((λ i. first i ∷ rest.0 i), rest.1)

-- memory that was refused before the first event
pub stops_at_once : (s : Selectors) (esi : Bool) (a : Allowance) (events : List Event) → StopsFor Memory 0 (refused s esi a events)
stops_at_once s esi a events = λ n cause first. by_cause n cause first
  where
    by_cause : (n : ℕ) (cause : Cause) → refused s esi a events ≡ Some (n, cause) → IsUntil cause n 0
    by_cause n Limit first = omega arith
    by_cause n Counter first = counter_comes_later s esi a events n first

-- Why an event stops a run, where none before is refused.
module _ (s : Selectors) (esi : Bool) (a : Allowance) (before later : List Event) (event : Event) (fits : refused s esi a before ≡ None) where
  abbrev own : Option Cause
  own = refusal_at s esi a before event

  abbrev IsRefused : MatcherError → Type 0
  IsRefused error = IsRefusedFor error (IsWithoutMemory s esi before event) own

  for_memory : ((own ≡ Some Counter → ⊥) × (IsWithoutMemory s esi before event → own ≡ Some Limit → ⊥)) → StopsFor Memory (length before) (refused s esi a (before ++ event ∷ later))
  for_memory is = λ n cause first. by_first n cause (first_is s esi a before fits event later n cause first)
    where
      by_first : (n : ℕ) (cause : Cause) → ((own ≡ Some cause) × (n ≡ length before)) ⊎ (length before < n) → IsUntil cause n (length before)
      by_first n Limit (inl at) = let same = at.1 in omega (arith, same)
      by_first n Limit (inr less) = omega (arith, less)
      by_first n Counter (inl at) = absurd (is.0 at.0)
      by_first n Counter (inr less) = less

  pub stops_for : (error : MatcherError) (cause : RunCause) → IsCauseOf error cause → IsRefused error → StopsFor cause (length before) (refused s esi a (before ++ event ∷ later))
  stops_for errors.MemoryLimitExceeded cause same is = subst (λ c. StopsFor c (length before) (refused s esi a (before ++ event ∷ later))) (sym same) (stops_at s esi a before fits event later Limit is)
  stops_for errors.CounterFull cause same is = subst (λ c. StopsFor c (length before) (refused s esi a (before ++ event ∷ later))) (sym same) (stops_at s esi a before fits event later Counter is)
  stops_for errors.Memory cause same is = subst (λ c. StopsFor c (length before) (refused s esi a (before ++ event ∷ later))) (sym same) (for_memory is)
  stops_for errors.Failed cause same is = absurd is
  stops_for errors.NotAsked cause same is = absurd is
  stops_for errors.OutsideInput cause same is = absurd is

  memory_before_limit : ((own ≡ Some Counter → ⊥) × (IsWithoutMemory s esi before event → own ≡ Some Limit → ⊥))
      → StopsBeforeLimit s esi (before ++ event ∷ later) Memory (length before) (refused s esi a (before ++ event ∷ later))
  memory_before_limit is = λ front back tag split runs first. by_first front back tag split runs (first_is s esi a before fits event later (length front) Limit first)
    where
      by_first : (front back : List Event) (tag : StartTag) → before ++ event ∷ later ≡ front ++ Start tag ∷ back → RunsWithoutMemory s esi front tag
          → ((own ≡ Some Limit) × (length front ≡ length before)) ⊎ (length before < length front)
          → (length before < length front) ⊎ (length before ≡ 0)
      by_first front back tag split runs (inl at) =
          let same = parted before front later back event (Start tag) (sym at.1) split in
          absurd (is.1 (subst (IsWithoutMemory s esi before) (sym same.1) (subst (λ es. RunsWithoutMemory s esi es tag) (sym same.0) runs)) at.0)
      by_first front back tag split runs (inr less) = inl less

  pub stops_before_limit : (error : MatcherError) (cause : RunCause) → IsCauseOf error cause → IsRefused error
      → StopsBeforeLimit s esi (before ++ event ∷ later) cause (length before) (refused s esi a (before ++ event ∷ later))
  stops_before_limit errors.MemoryLimitExceeded cause same is = subst (λ c. StopsBeforeLimit s esi (before ++ event ∷ later) c (length before) (refused s esi a (before ++ event ∷ later))) (sym same) tt
  stops_before_limit errors.CounterFull cause same is = subst (λ c. StopsBeforeLimit s esi (before ++ event ∷ later) c (length before) (refused s esi a (before ++ event ∷ later))) (sym same) tt
  stops_before_limit errors.Memory cause same is = subst (λ c. StopsBeforeLimit s esi (before ++ event ∷ later) c (length before) (refused s esi a (before ++ event ∷ later))) (sym same) (memory_before_limit is)
  stops_before_limit errors.Failed cause same is = absurd is
  stops_before_limit errors.NotAsked cause same is = absurd is
  stops_before_limit errors.OutsideInput cause same is = absurd is
