-- The search for a word by its last byte.
use Rattle.std.proofs.Common.{◌≡◌, ℕ, zero, suc, ◌+◌, ◌-◌, ◌<◌, ◌≤◌, true, false, List, length, get_or, map, eq-eqb, refl, sym, ap, ◌∙◌, arith, subst, inl, inr, ⊎_elim}
use Rattle.std.specs.List.{list_any, slice_range}
use Rattle.std.specs.Char.{to_ascii_lowercase}
use Rattle.std.proofs.lemmas.Slice.Eq.{bytes_eq-Decides}
use Rattle.std.proofs.lemmas.Grind.{common_steps}
use Rattle.std.proofs.lemmas.List.{get_or-map}
use Rattle.std.proofs.lemmas.List.Folds.{list_any_at}
use Rattle.std.proofs.lemmas.Bool.{cases_eq, cases_lt, cases_Bool, false≢true}
use Rattle.lol_base.specs.declared.comparison.AttrSelectorOperator.TheVariants.{Equal, Includes}
use Rattle.lol_base.specs.declared.comparison.CaseSensitivity.{CaseSensitivity}
use Rattle.lol_base.specs.declared.comparison.CaseSensitivity.TheVariants.{CaseSensitive, AsciiCaseInsensitive}
use Rattle.lol_instructions.specs.Tests.{compared, is_white}
use Rattle.lol_instructions.specs.Attributes.{ignores, value_holds}
use Rattle.lol_instructions.specs.Words.{is_letter_of, IsWordStart, IsWordEnd, IsWordBefore, NoLetter, IsLetterEnd}
use Rattle.lol_instructions.proofs.AttributeValues.{NoWhite, SoFar, SoFar-init, SoFar-found, SoFar-next, SoFar-more, SoFar-end, white_stays, length-compared}

-- 1. Parts that are the operand

abbrev IsSameByte : CaseSensitivity → ℕ → ℕ → Type 0
IsSameByte CaseSensitive a b = a ≡ b
IsSameByte AsciiCaseInsensitive a b = to_ascii_lowercase a ≡ to_ascii_lowercase b

same_lengths : (case : CaseSensitivity) (part operand : List ℕ) → value_holds Equal case part operand ≡ true → length part ≡ length operand
same_lengths case part operand same =
    sym (length-compared (ignores case) part) ∙ ap length ((bytes_eq-Decides (compared (ignores case) part) (compared (ignores case) operand)).0 same) ∙ length-compared (ignores case) operand

same_at : (case : CaseSensitivity) (part operand : List ℕ) → value_holds Equal case part operand ≡ true → (k : ℕ) → k < length operand → IsSameByte case (get_or part k 0) (get_or operand k 0)
same_at CaseSensitive part operand same k below = ap (λ (bytes : List ℕ). get_or bytes k 0) ((bytes_eq-Decides part operand).0 same)
same_at AsciiCaseInsensitive part operand same k below =
    let long : k < length part = omega (arith, same_lengths AsciiCaseInsensitive part operand same) in
    sym (get_or-map to_ascii_lowercase part k 0 0 long)
    ∙ ap (λ (bytes : List ℕ). get_or bytes k 0) ((bytes_eq-Decides (map to_ascii_lowercase part) (map to_ascii_lowercase operand)).0 same)
    ∙ get_or-map to_ascii_lowercase operand k 0 0 below

letter_from_same : (case : CaseSensitivity) (a letter : ℕ) → IsSameByte case a letter → is_letter_of case letter a ≡ true
letter_from_same CaseSensitive a letter same = eq-eqb a letter same
letter_from_same AsciiCaseInsensitive a letter same = eq-eqb (to_ascii_lowercase letter) (to_ascii_lowercase a) (sym same)

white_from_same : (case : CaseSensitivity) (a b : ℕ) → IsSameByte case a b → is_white a ≡ is_white b
white_from_same CaseSensitive a b same = ap is_white same
white_from_same AsciiCaseInsensitive a b same = sym (white_stays a) ∙ ap is_white same ∙ white_stays b

byte_of_slice : (value : List ℕ) (start end k : ℕ) → end ≤ length value → start + k < end → get_or (slice_range value start end) k 0 ≡ get_or value (start + k) 0
byte_of_slice value start end k within below = grind (arith, common_steps)

length_of_slice : (value : List ℕ) (start end : ℕ) → start ≤ end → end ≤ length value → length (slice_range value start end) ≡ end - start
length_of_slice value start end ordered within = grind (arith, common_steps)

module _ (case : CaseSensitivity) (value operand : List ℕ) where
  abbrev last : ℕ
  last = get_or operand (length operand - 1) 0

  -- a word that is the operand is as long, and ends in its last byte
  word_length : (start end : ℕ) → start ≤ end → end ≤ length value → value_holds Equal case (slice_range value start end) operand ≡ true → end ≡ start + length operand
  word_length start end ordered within same =
      omega (arith, length_of_slice value start end ordered within, same_lengths case (slice_range value start end) operand same)

  -- 2. How far the search has come

  -- the words that end before an offset are not the operand, and one begins before it
  pub record Reached (at : ℕ) : Type 0 where
    pub start : ℕ
    pub begins : IsWordStart value start
    pub far : SoFar case value operand start at

  -- nor is the word that ends there
  abbrev pub IsMissed : ℕ → Type 0
  IsMissed at = (start : ℕ) → IsWordStart value start → start ≤ at → NoWhite value start at → IsWordEnd value at → value_holds Equal case (slice_range value start at) operand ≡ false

  pub Reached-init : Reached 0
  Reached-init = record { start = 0; begins = inl refl; far = SoFar-init case value operand }

  Reached-step : (at : ℕ) → at < length value → Reached at → IsMissed at → Reached (at + 1)
  Reached-step at within reached missed =
      ⊎_elim
      (λ white.
      let differs = missed reached.start reached.begins reached.far.ordered reached.far.none (inr white) in
      let offset : at + 1 - 1 ≡ at = omega arith in
      record {
        start = at + 1;
        begins = inr (ap (λ (i : ℕ). is_white (get_or value i 0)) offset ∙ white);
        far = SoFar-next case value operand reached.start at reached.far within white differs;
      })
      (λ black. record { start = reached.start; begins = reached.begins; far = SoFar-more case value operand reached.start at reached.far black })
      (cases_Bool (is_white (get_or value at 0)))

  pub missed_word : (end : ℕ) → end ≤ length value → ¬ IsWordBefore case value operand end → IsMissed end
  missed_word end within other start begins ordered none ends =
      ⊎_elim
      (λ same.
      let long = word_length start end ordered within same in
      let first : start ≡ end - length operand = omega arith in
      absurd (other (record {
        fits = omega arith;
        begins = subst (IsWordStart value) first begins;
        ends = ends;
        same = subst (λ (i : ℕ). value_holds Equal case (slice_range value i end) operand ≡ true) first same;
      })))
      (λ no. no)
      (cases_Bool (value_holds Equal case (slice_range value start end) operand))

  module _ (some : 0 < length operand) where
    word_letter : (start end : ℕ) → start ≤ end → end ≤ length value → value_holds Equal case (slice_range value start end) operand ≡ true → is_letter_of case last (get_or value (end - 1) 0) ≡ true
    word_letter start end ordered within same =
        let long = word_length start end ordered within same in
        let k = length operand - 1 in
        let offset : start + k ≡ end - 1 = omega arith in
        let read : get_or (slice_range value start end) k 0 ≡ get_or value (end - 1) 0 = byte_of_slice value start end k within (omega arith) ∙ ap (λ (i : ℕ). get_or value i 0) offset in
        ap (is_letter_of case last) (sym read) ∙ letter_from_same case _ last (same_at case (slice_range value start end) operand same k (omega arith))

    pub IsMissed-init : IsMissed 0
    IsMissed-init start begins ordered none ends =
        ⊎_elim (λ same. let long = word_length start 0 ordered (omega arith) same in absurd (omega arith)) (λ no. no) (cases_Bool (value_holds Equal case (slice_range value start 0) operand))

    -- a word that ends after another byte is not the operand
    missed_after : (at : ℕ) → at < length value → is_letter_of case last (get_or value at 0) ≡ false → IsMissed (at + 1)
    missed_after at within other start begins ordered none ends =
        let offset : at + 1 - 1 ≡ at = omega arith in
        ⊎_elim
        (λ same.
        let letter = word_letter start (at + 1) ordered (omega arith) same in
        absurd (false≢true (sym other ∙ ap (λ (i : ℕ). is_letter_of case last (get_or value i 0)) (sym offset) ∙ letter)))
        (λ no. no)
        (cases_Bool (value_holds Equal case (slice_range value start (at + 1)) operand))

    -- up to the next offset of the last byte
    Reached-skip : (count from : ℕ) → from + count ≤ length value → Reached from → IsMissed from → NoLetter case value last from (from + count) → Reached (from + count) × IsMissed (from + count)
    Reached-skip zero from within reached missed none = let same : from ≡ from + zero = omega arith in (subst Reached same reached, subst IsMissed same missed)
    Reached-skip (suc count) from within reached missed none =
        let before = Reached-skip count from (omega arith) reached missed (λ k low high. none k low (omega arith)) in
        let at = from + count in
        let same : at + 1 ≡ from + suc count = omega arith in (
          subst Reached same (Reached-step at (omega arith) before.0 before.1),
          subst IsMissed same (missed_after at (omega arith) (none at (omega arith) (omega arith))),
        )

    pub Reached-to : (from to : ℕ) → from ≤ to → to ≤ length value → Reached from → IsMissed from → NoLetter case value last from to → Reached to × IsMissed to
    Reached-to from to ordered within reached missed none =
        let same : from + (to - from) ≡ to = omega arith in
        let there = Reached-skip (to - from) from (omega arith) reached missed (λ k low high. none k low (omega arith)) in
        (subst Reached same there.0, subst IsMissed same there.1)

    -- the offset after the next letter
    pub Reached-letter : (from end : ℕ) → IsLetterEnd case value last from end → Reached from → IsMissed from → Reached end
    Reached-letter from end letter reached missed =
        let after = letter.after in
        let within = letter.within in
        let there = Reached-to from (end - 1) (omega arith) (omega arith) reached missed letter.before in
        let same : end - 1 + 1 ≡ end = omega arith in
        subst Reached same (Reached-step (end - 1) (omega arith) there.0 there.1)

    -- no offset of the last byte is left
    pub missed_all : (from : ℕ) → from ≤ length value → Reached from → IsMissed from → NoLetter case value last from (length value) → value_holds Includes case value operand ≡ false
    missed_all from within reached missed none =
        let there = Reached-to from (length value) within (omega arith) reached missed none in
        let r = there.0 in
        sym (SoFar-end case value operand r.start (length value) r.far (omega arith) (omega arith)) ∙ there.1 r.start r.begins r.far.ordered r.far.none (inl refl)

  -- 3. The operand found before an offset

  module _ (black : list_any is_white operand ≡ false) where
    black_at : (k : ℕ) → k < length operand → is_white (get_or operand k 0) ≡ false
    black_at k below =
        ⊎_elim (λ white. absurd (false≢true (sym black ∙ list_any_at is_white operand k 0 below white))) (λ no. no) (cases_Bool (is_white (get_or operand k 0)))

    no_white_in : (end : ℕ) → end ≤ length value → IsWordBefore case value operand end → NoWhite value (end - length operand) end
    no_white_in end within word k low high =
        let start = end - length operand in
        let fits = word.fits in
        let i = k - start in
        let offset : start + i ≡ k = omega arith in
        let below : i < length operand = omega arith in
        ap (λ (j : ℕ). is_white (get_or value j 0)) (sym offset)
        ∙ ap is_white (sym (byte_of_slice value start end i within (omega arith)))
        ∙ white_from_same case _ _ (same_at case (slice_range value start end) operand word.same i below) ∙ black_at i below

    -- of two starts of a word that ends at an offset none is before the other
    not_before : (start other end : ℕ) → IsWordStart value other → start < other → other ≤ end → ¬ NoWhite value start end
    not_before start other end (inl zero_there) before ordered none = absurd (omega arith)
    not_before start other end (inr white) before ordered none = absurd (false≢true (sym (none (other - 1) (omega arith) (omega arith)) ∙ white))

    found_inside : (end : ℕ) (reached : Reached end) → end < length value → IsWordEnd value end → value_holds Equal case (slice_range value reached.start end) operand ≡ true → value_holds Includes case value operand ≡ true
    found_inside end reached within (inl at_end) equal = absurd (omega arith)
    found_inside end reached within (inr white) equal = SoFar-found case value operand reached.start end reached.far within white equal

    pub found_word : (end : ℕ) → end ≤ length value → Reached end → IsWordBefore case value operand end → value_holds Includes case value operand ≡ true
    found_word end within reached word =
        let first = end - length operand in
        let none = no_white_in end within word in
        let ordered = reached.far.ordered in
        let fits = word.fits in
        let same : first ≡ reached.start =
        ⊎_elim
        (λ before. absurd (not_before first reached.start end reached.begins before ordered none))
        (λ late. ⊎_elim (λ after. absurd (not_before reached.start first end word.begins after (omega arith) reached.far.none)) (λ early. omega arith) (cases_lt reached.start first))
        (cases_lt first reached.start) in
        let equal : value_holds Equal case (slice_range value reached.start end) operand ≡ true = subst (λ (i : ℕ). value_holds Equal case (slice_range value i end) operand ≡ true) same word.same in
        ⊎_elim
        (λ at_end.
        sym (SoFar-end case value operand reached.start end reached.far (omega arith) within)
        ∙ subst (λ (e : ℕ). value_holds Equal case (slice_range value reached.start e) operand ≡ true) at_end equal)
        (λ inside. found_inside end reached (omega arith) word.ends equal)
        (cases_eq end (length value))

-- 4. The search

-- no word that ends up to an offset is the operand
pub record IsSearched (case : CaseSensitivity) (value operand : List ℕ) (at : ℕ) : Type 0 where
  pub within : at ≤ length value
  pub reached : Reached case value operand at
  pub missed : IsMissed case value operand at

module _ (case : CaseSensitivity) (value operand : List ℕ) (some : 0 < length operand) where
  pub IsSearched-init : IsSearched case value operand 0
  IsSearched-init = record { within = omega arith; reached = Reached-init case value operand; missed = IsMissed-init case value operand some }

  pub IsSearched-next : (from end : ℕ) → IsSearched case value operand from → IsLetterEnd case value (get_or operand (length operand - 1) 0) from end → ¬ IsWordBefore case value operand end → IsSearched case value operand end
  IsSearched-next from end searched letter other = record {
    within = letter.within;
    reached = Reached-letter case value operand some from end letter searched.reached searched.missed;
    missed = missed_word case value operand end letter.within other;
  }

  pub IsSearched-found : (from end : ℕ) → IsSearched case value operand from → IsLetterEnd case value (get_or operand (length operand - 1) 0) from end → list_any is_white operand ≡ false → IsWordBefore case value operand end
      → value_holds Includes case value operand ≡ true
  IsSearched-found from end searched letter black word =
      found_word case value operand black end letter.within (Reached-letter case value operand some from end letter searched.reached searched.missed) word

  pub IsSearched-all : (from : ℕ) → IsSearched case value operand from → NoLetter case value (get_or operand (length operand - 1) 0) from (length value) → value_holds Includes case value operand ≡ false
  IsSearched-all from searched none = missed_all case value operand some from searched.within searched.reached searched.missed none
