-- A matcher keeps the tree of its selectors.
use Rattle.std.proofs.Common.{◌≡◌, ℕ, Bool, true, false, List, Result, Ok, Err, refl, sym, ap, ◌∙◌, subst}
use Rattle.std.specs.Prelude.{IfErr, IfOk}
use Rattle.lol_base.specs.declared.namespace.Namespace.{Namespace}
use Rattle.lol_matcher.specs.Answering.{AnswersStart, OpensStart, refused_with, told_after, with_told}
use Rattle.lol_matcher.specs.Keeping.{IsRefusal}
use Rattle.lol_matcher.specs.Refusing.{Fits}
use Rattle.lol_matcher.specs.Told.{Matching}
use Rattle.lol_matcher.specs.declared.error.MatcherError.{MatcherError}
use Rattle.lol_matcher.specs.declared.error.MatcherError.TheVariants.{MemoryLimitExceeded, Memory, CounterFull, Failed, NotAsked, OutsideInput}
use Rattle.lol_matcher.specs.declared.matcher.Started.{Started}
use Rattle.lol_matcher.specs.declared.matcher.Started.TheVariants.{Reported, NeedsAttributes}
use Rattle.zugrenja_c.specs.Tags.{StartIsAnswered}

pub if_ok : {A E : Type 0} {P Q : A → Type 0} (r : Result A E) → ((x : A) → P x → Q x) → IfOk r P → IfOk r Q
if_ok (Ok x) f h = f x h
if_ok (Err e) f h = h

module _ (old new : Matching ℕ) where
  abbrev pub KeepsTree : Type 0
  KeepsTree = old.told.ast ≡ new.told.ast

  pub keeps : (m : Matching ℕ) → new ≡ m → m.told.ast ≡ old.told.ast → KeepsTree
  keeps m is same = sym (ap (λ (m : Matching ℕ). m.told.ast) is ∙ same)

  pub refused_keeps : (error : MatcherError) → (IsRefusal error → new ≡ refused_with old new) → ((IsRefusal error → ⊥) → new ≡ old) → KeepsTree
  refused_keeps MemoryLimitExceeded after unchanged = keeps (refused_with old new) (after tt) refl
  refused_keeps CounterFull after unchanged = keeps (refused_with old new) (after tt) refl
  refused_keeps Memory after unchanged = keeps (refused_with old new) (after tt) refl
  refused_keeps Failed after unchanged = keeps old (unchanged (λ h. h)) refl
  refused_keeps NotAsked after unchanged = keeps old (unchanged (λ h. h)) refl
  refused_keeps OutsideInput after unchanged = keeps old (unchanged (λ h. h)) refl

  module _ (name : List ℕ) (ns : Namespace) where
    after_start : (started : Started) → (told_after started old.told name ns).ast ≡ old.told.ast
    after_start Reported = refl
    after_start NeedsAttributes = refl

    pub started_keeps : (r : Result Started MatcherError) → IfOk r (λ started. new ≡ with_told (told_after started old.told name ns) old new) → (old.failed ≡ true → new ≡ old)
        → IfErr r (λ error. old.failed ≡ false → new ≡ refused_with old new) → KeepsTree
    started_keeps (Ok started) told stuck after = keeps (with_told (told_after started old.told name ns) old new) told (after_start started)
    started_keeps (Err error) told stuck after = by_failed old.failed refl
      where
        by_failed : (b : Bool) → old.failed ≡ b → KeepsTree
        by_failed true is = keeps old (stuck is) refl
        by_failed false is = keeps (refused_with old new) (after is) refl

    pub answered : (r : Result Started MatcherError) → IfOk r (λ started. AnswersStart started old.told name ns new.matched new.tries) → IfOk r (λ started. OpensStart started name ns old new)
        → IfOk r (λ started. new ≡ with_told (told_after started old.told name ns) old new) → IfOk r (λ started. (old.failed ≡ false) × Fits started old name ns) → (started : Started) → r ≡ Ok started → StartIsAnswered started old name ns new
    answered (Ok x) answers opens told fits started is =
        let same : x ≡ started = cc in
        subst (λ started. StartIsAnswered started old name ns new) same (record { running = fits.0; answers = answers; opens = opens; told = told; fits = fits.1 })
    answered (Err error) answers opens told fits started is = cc
