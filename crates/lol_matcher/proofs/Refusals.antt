-- Whether a start tag is refused, by what a machine has.
use Rattle.std.proofs.Common.{◌≡◌, ℕ, suc, ◌+◌, ◌*◌, ◌≤◌, ◌<◌, ◌^◌, Bool, true, false, true≢false, [], length, map, Option, Some, None, Result, Err, inl, refl, sym, ap, ◌∙◌, subst, arith}
use Rattle.std.specs.Prelude.{max, nat_lt, ◌&&◌, not, if◌then◌else◌, IfErr, ◌↔◌, Vec}
use Rattle.std.proofs.lemmas.Bool.{false≢true}
use Rattle.std.proofs.lemmas.Bool.Decides.{nat_tests}
use Rattle.std.specs.Global.{Global}
use Rattle.lol_base.specs.StartTags.{StartTag}
use Rattle.lol_memory.specs.LimitedVec.{LimitedVec, IsLimited}
use Rattle.lol_memory.specs.Limiter.{Limiter}
use Rattle.lol_memory.specs.Slots.{slots}
use Rattle.lol_memory.specs.declared.match_info.MatchInfo.{MatchInfo}
use Rattle.lol_program.specs.Paths.{Selectors}
use Rattle.lol_machine.specs.Answers.{is_dropped}
use Rattle.lol_machine.specs.Documents.{Document, element_of, after_start}
use Rattle.lol_machine.specs.Events.{Start, has_content}
use Rattle.lol_machine.specs.Refusals.{Allowance, Cause, Limit, Counter, exceeds, greatest_count, refusal}
use Rattle.lol_matcher.specs.Keeping.{IsCharged, IsRefusal, Keeps}
use Rattle.lol_matcher.specs.Refusing.{IsRefusedFor, allowance}
use Rattle.lol_matcher.specs.Told.{History, Matching, numbers_open}
use Rattle.lol_matcher.specs.declared.error.MatcherError.{MatcherError}
use Rattle.lol_matcher.specs.declared.error.MatcherError.TheVariants.{MemoryLimitExceeded, Memory, CounterFull, Failed, NotAsked, OutsideInput}
use Rattle.lol_matcher.specs.declared.open_element.OpenElement.{OpenElement}
use Rattle.lol_machine.specs.Vms.{Vm, HasOpen, data_in}
use Rattle.lol_machine.specs.declared.error.AuxStartTagInfoRequest.{AuxStartTagInfoRequest}
use Rattle.lol_machine.specs.ChargeLaws.{stays_within_alone, passes_maximum_alone}

-- what a start tag is refused for refuses all that come later
pub is_refusal : (error : MatcherError) (no_memory : Type 0) (refusal : Option Cause) → IsRefusedFor error no_memory refusal → IsRefusal error
is_refusal MemoryLimitExceeded no_memory refusal h = tt
is_refusal Memory no_memory refusal h = tt
is_refusal CounterFull no_memory refusal h = tt
is_refusal Failed no_memory refusal h = h
is_refusal NotAsked no_memory refusal h = h
is_refusal OutsideInput no_memory refusal h = h

-- so no other error was answered
pub still_refusal : {A : Type 0} {result other : Result A MatcherError} → IfErr result IsRefusal → result ≡ other → IfErr other IsRefusal
still_refusal {A} refusal is = subst (λ (r : Result A MatcherError). IfErr r IsRefusal) is refusal

-- nor was it answered for an earlier refusal
pub not_failed : {A T : Type 0} {result : Result A MatcherError} {shown old : Matching T} → shown ≡ old → shown.failed ≡ false → IfErr result IsRefusal → (result ≡ Err Failed) ↔ (old.failed ≡ true)
not_failed {A} {T} shows unfailed refusal = (
  λ is. absurd (still_refusal refusal is),
  λ failed. absurd (false≢true (sym (ap (λ (m : Matching T). m.failed) (sym shows) ∙ unfailed) ∙ failed)),
)

-- a matcher that has failed keeps its charge and its open elements, and reports nothing
pub keeps_failed : {T : Type 0} {history : History} {vm : Vm (OpenElement T)} {request : Option (AuxStartTagInfoRequest (OpenElement T))} {matches : Vec MatchInfo Global} {limiter : Limiter} {count : ℕ} {opened : Bool}
    → IsCharged vm limiter → HasOpen vm history.open_elements → map (λ (element : OpenElement T). element.number) (data_in vm) ≡ numbers_open history.open_elements → matches.items ≡ []
    → Keeps history true vm request matches limiter count opened
keeps_failed charged open_elements numbered silent = record {
  charged = charged;
  has_open = open_elements;
  numbered = numbered;
  runs = λ well. absurd (true≢false well);
  waits = λ well. absurd (true≢false well);
  told_open = λ well. absurd (true≢false well);
  room = λ well. absurd (true≢false well);
  counted = λ well. absurd (true≢false well);
  last = λ well. absurd (true≢false well);
  silent = λ failed. silent;
}

-- A list has as many elements as are open, and slots for the most that were, which a limiter is charged for.
pub record IsChargedFor {T : Type 0} (d : Document) (most : ℕ) (v : LimitedVec T) (now : Limiter) : Type 0 where
  pub enough : length d.open_elements ≤ most
  pub some : 1 ≤ v.item_bytes
  pub word : now.maximum < 2 ^ 64
  pub many : length v.items ≡ length d.open_elements
  pub charged : v.slots ≡ slots v.item_bytes most
  pub usage : now.usage ≡ v.slots * v.item_bytes
  pub within : now.usage ≤ now.maximum

abbrev pub refusal_by : Bool → Bool → Option Cause
refusal_by full over = if full then Some Counter else (if over then Some Limit else None)

abbrev pub opens_in : Selectors → Bool → Document → StartTag → Bool
opens_in s esi d tag = has_content esi tag && not (is_dropped s (element_of d tag) d.open_elements)

module _ {T : Type 0} (s : Selectors) (esi : Bool) {d : Document} {most : ℕ} {v : LimitedVec T} {now : Limiter} (is : IsChargedFor d most v now) where
  abbrev a : Allowance
  a = allowance v.item_bytes now.maximum

  usage : now.usage ≡ slots v.item_bytes most * v.item_bytes
  usage = is.usage ∙ ap (λ n. n * v.item_bytes) is.charged

  within : slots v.item_bytes most * v.item_bytes ≤ now.maximum
  within = subst (λ n. n ≤ now.maximum) usage is.within

  pub fits : (b : Bool) (tag : StartTag) → (b ≡ true → IsLimited v now → ⊥) → slots v.item_bytes (max most (length (after_start d tag b).open_elements)) * v.item_bytes ≤ now.maximum
  fits true tag unlimited =
      let many : suc (length d.open_elements) ≡ length d.open_elements + 1 = omega arith in
      subst (λ n. slots v.item_bytes (max most n) * v.item_bytes ≤ now.maximum) (sym many)
      (stays_within_alone v.item_bytes (length d.open_elements) most is.enough v now is.some is.word refl is.many is.charged usage within (unlimited refl))
  fits false tag unlimited =
      let e = is.enough in
      let same : most ≡ max most (length d.open_elements) = omega (arith, e) in
      subst (λ n. slots v.item_bytes n * v.item_bytes ≤ now.maximum) same within

  passes : (tag : StartTag) → IsLimited v now → now.maximum < slots v.item_bytes (max most (length (after_start d tag true).open_elements)) * v.item_bytes
  passes tag limited =
      let many : suc (length d.open_elements) ≡ length d.open_elements + 1 = omega arith in
      subst (λ n. now.maximum < slots v.item_bytes (max most n) * v.item_bytes) (sym many)
      (passes_maximum_alone v.item_bytes (length d.open_elements) most is.enough v now is.some is.word refl is.many is.charged usage limited)

  tests : (tag : StartTag) (full over : Bool) → nat_lt greatest_count (element_of d tag).position ≡ full
      → exceeds a (max most (length (after_start d tag (opens_in s esi d tag)).open_elements)) ≡ over
      → refusal s esi a d most (Start tag) ≡ refusal_by full over
  tests tag full over is_full is_over = λ i. refusal_by (is_full i) (is_over i)

  pub not_refused : (tag : StartTag) → (element_of d tag).position ≤ greatest_count → (opens_in s esi d tag ≡ true → IsLimited v now → ⊥) → refusal s esi a d most (Start tag) ≡ None
  not_refused tag position unlimited =
      let h = fits (opens_in s esi d tag) tag unlimited in
      tests tag false false (grind (arith, nat_tests, position)) (grind (arith, nat_tests, h))

  pub refused_for_limit : (tag : StartTag) → (element_of d tag).position ≤ greatest_count → opens_in s esi d tag ≡ true → IsLimited v now → refusal s esi a d most (Start tag) ≡ Some Limit
  refused_for_limit tag position opening limited =
      let over = subst (λ b. now.maximum < slots v.item_bytes (max most (length (after_start d tag b).open_elements)) * v.item_bytes) (sym opening) (passes tag limited) in
      tests tag false true (grind (arith, nat_tests, position)) (grind (arith, nat_tests, over))

  pub refused_for_counter : (tag : StartTag) → greatest_count < (element_of d tag).position → refusal s esi a d most (Start tag) ≡ Some Counter
  refused_for_counter tag full = tests tag true _ (grind (arith, nat_tests, full)) refl

  counter_has_room : (tag : StartTag) → (element_of d tag).position ≤ greatest_count → refusal s esi a d most (Start tag) ≡ Some Counter → ⊥
  counter_has_room tag position full =
      not_full (exceeds a (max most (length (after_start d tag (opens_in s esi d tag)).open_elements))) (sym (tests tag false _ (grind (arith, nat_tests, position)) refl) ∙ full)
    where
      not_full : (over : Bool) → refusal_by false over ≡ Some Counter → ⊥
      not_full true is = cc
      not_full false is = cc

  limit_isnt_due : (tag : StartTag) → (element_of d tag).position ≤ greatest_count → (opens_in s esi d tag ≡ true → IsLimited v now → ⊥) → refusal s esi a d most (Start tag) ≡ Some Limit → ⊥
  limit_isnt_due tag position unlimited over = not_over (not_refused tag position unlimited) over
    where
      not_over : {o : Option Cause} → o ≡ None → o ≡ Some Limit → ⊥
      not_over none over = cc

  -- memory may be refused where neither is due
  pub refused_for_memory : (tag : StartTag) {no_memory : Type 0} → (element_of d tag).position ≤ greatest_count → (no_memory → opens_in s esi d tag ≡ true → IsLimited v now → ⊥) → IsRefusedFor Memory no_memory (refusal s esi a d most (Start tag))
  refused_for_memory tag position unlimited = (counter_has_room tag position, λ is. limit_isnt_due tag position (unlimited is))
