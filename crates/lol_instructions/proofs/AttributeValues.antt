-- Values of attributes: how they are compared, cut and searched.
use Rattle.std.proofs.Common.{◌≡◌, ℕ, zero, suc, ◌+◌, ◌-◌, ◌<◌, ◌≤◌, Bool, true, false, cond, ◌||◌, ◌&&◌, List, [], ◌∷◌, ◌++◌, length, get_or, take, drop, map, nat_eq, eqb, refl, sym, ap, ◌∙◌, arith, ⊎_elim, not, min, Option, Some, None, is_some, add-one, length-drop}
use Rattle.std.specs.List.{All, list_any, onto_first, slice_range, starts_with}
use Rattle.std.specs.Str.{bytes_eq}
use Rattle.std.specs.Char.{to_ascii_lowercase, to_ascii_uppercase}
use Rattle.std.proofs.lemmas.Slice.Eq.{bytes_eq-Decides}
use Rattle.std.proofs.lemmas.Grind.{common_steps}
use Rattle.std.proofs.lemmas.List.{take-map, drop-map, length-map, drop_more, take_more, take_rest, length_push, length-take, length-take-le, get_or-map, get_or-drop}
use Rattle.std.proofs.lemmas.List.Elements.{All-from_get_or}
use Rattle.std.proofs.lemmas.List.Folds.{drop_split}
use Rattle.std.proofs.lemmas.List.Splits.{slice_split_at, slice_split_none}
use Rattle.std.proofs.lemmas.Bool.Decides.{nat_tests}
use Rattle.std.proofs.lemmas.Bool.{cases_eq, cases_Bool, and_right, or_from}
use Rattle.std.proofs.Math.Bool.{or-false, or-true, and-true, and_assoc}
use Rattle.lol_base.specs.Names.{lowercased}
use Rattle.lol_base.specs.declared.comparison.AttrSelectorOperator.TheVariants.{Equal, Includes, DashMatch, Prefix, Substring, Suffix}
use Rattle.lol_base.specs.declared.comparison.CaseSensitivity.{CaseSensitivity}
use Rattle.lol_base.specs.declared.comparison.CaseSensitivity.TheVariants.{CaseSensitive, AsciiCaseInsensitive}
use Rattle.memchr.specs.Find.{FindsNeedle, IsFirstByte, OccursAt, Nowhere, Passes, is_byte2}
use Rattle.memchr.proofs.lemmas.MatchLemmas.{OccursAt-part, OccursAt-from_part}
use Rattle.lol_instructions.specs.Tests.{compared, words, is_white, is_empty_text, stands_in}
use Rattle.lol_instructions.specs.Attributes.{ignores, value_holds}
use Rattle.memchr.proofs.lemmas.FindLemmas.{IsFirst-agree}
use Rattle.lol_instructions.specs.Words.{is_letter_of, NoLetter, IsLetterEnd}
use Rattle.lol_instructions.specs.Substrings.{stands_in_caseless, IsAfterLetter}

-- 1. What is compared of a part is that part of what is compared

pub take-compared : (ignoring : Bool) (n : ℕ) (bytes : List ℕ) → take n (compared ignoring bytes) ≡ compared ignoring (take n bytes)
take-compared true n bytes = take-map to_ascii_lowercase n bytes
take-compared false n bytes = refl

pub drop-compared : (ignoring : Bool) (n : ℕ) (bytes : List ℕ) → drop n (compared ignoring bytes) ≡ compared ignoring (drop n bytes)
drop-compared true n bytes = drop-map to_ascii_lowercase n bytes
drop-compared false n bytes = refl

pub length-compared : (ignoring : Bool) (bytes : List ℕ) → length (compared ignoring bytes) ≡ length bytes
length-compared true bytes = length-map bytes to_ascii_lowercase
length-compared false bytes = refl

-- 2. Prefixes and suffixes

pub prefix_holds : (case : CaseSensitivity) (value operand part : List ℕ) → part ≡ take (length operand) value
    → value_holds Equal case operand part ≡ value_holds Prefix case value operand
prefix_holds case value operand part is =
    let seen = compared (ignores case) in
    ap (λ (p : List ℕ). bytes_eq (seen operand) (seen p)) is
    ∙ ap (bytes_eq (seen operand)) (sym (take-compared (ignores case) (length operand) value) ∙ ap (λ (n : ℕ). take n (seen value)) (sym (length-compared (ignores case) operand)))

pub suffix_holds : (case : CaseSensitivity) (value operand part : List ℕ) → part ≡ drop (length value - length operand) value
    → value_holds Equal case operand part ≡ value_holds Suffix case value operand
suffix_holds case value operand part is =
    let seen = compared (ignores case) in
    ap (λ (p : List ℕ). bytes_eq (seen operand) (seen p)) is
    ∙ ap (bytes_eq (seen operand)) (sym (drop-compared (ignores case) (length value - length operand) value)
    ∙ ap (λ (n : ℕ). drop n (seen value)) (let e = length-compared (ignores case) operand in let f = length-compared (ignores case) value in cc))

-- 3. Words

pub white_stays : (b : ℕ) → is_white (to_ascii_lowercase b) ≡ is_white b
white_stays b = grind (arith, nat_tests)

-- a byte that is put before the first piece
onto_first-map : (f : ℕ → ℕ) (b : ℕ) (pieces : List (List ℕ)) → onto_first (f b) (map (map f) pieces) ≡ map (map f) (onto_first b pieces)
onto_first-map f b [] = refl
onto_first-map f b (piece ∷ pieces) = refl

words_step : (f : ℕ → ℕ) (b : ℕ) (white : Bool) (pieces : List (List ℕ)) → cond white ([] ∷ map (map f) pieces) (onto_first (f b) (map (map f) pieces)) ≡ map (map f) (cond white ([] ∷ pieces) (onto_first b pieces))
words_step f b true pieces = refl
words_step f b false pieces = onto_first-map f b pieces

words-lowercased : (value : List ℕ) → words (lowercased value) ≡ map lowercased (words value)
words-lowercased [] = refl
words-lowercased (b ∷ value) =
    ap (λ (white : Bool). cond white ([] ∷ words (lowercased value)) (onto_first (to_ascii_lowercase b) (words (lowercased value)))) (white_stays b)
    ∙ ap (λ (pieces : List (List ℕ)). cond (is_white b) ([] ∷ pieces) (onto_first (to_ascii_lowercase b) pieces)) (words-lowercased value)
    ∙ words_step to_ascii_lowercase b (is_white b) (words value)

any-map : (test : List ℕ → Bool) (f : List ℕ → List ℕ) (pieces : List (List ℕ)) → list_any test (map f pieces) ≡ list_any (λ piece. test (f piece)) pieces
any-map test f [] = refl
any-map test f (piece ∷ pieces) = ap (λ (b : Bool). test (f piece) || b) (any-map test f pieces)

-- whether some word of a value is the operand, without cutting what is compared
abbrev pub has_word_in : CaseSensitivity → List ℕ → List ℕ → Bool
has_word_in case value operand = list_any (λ word. value_holds Equal case word operand) (words value)

any_word : (ignoring : Bool) (value : List ℕ) (test : List ℕ → Bool) → list_any (λ word. test (compared ignoring word)) (words value) ≡ list_any test (words (compared ignoring value))
any_word true value test = sym (ap (list_any test) (words-lowercased value) ∙ any-map test lowercased (words value))
any_word false value test = refl

pub has_word_in-Includes : (case : CaseSensitivity) (value operand : List ℕ) → has_word_in case value operand ≡ value_holds Includes case value operand
has_word_in-Includes case value operand = any_word (ignores case) value (λ word. bytes_eq word (compared (ignores case) operand))

-- no byte from an offset up to another is white space
abbrev pub NoWhite : List ℕ → ℕ → ℕ → Type 0
NoWhite value start end = (k : ℕ) → start ≤ k → k < end → is_white (get_or value k 0) ≡ false

-- one byte more that isn't
pub none_more : (value : List ℕ) (start end : ℕ) → NoWhite value start end → is_white (get_or value end 0) ≡ false → NoWhite value start (end + 1)
none_more value start end none black k low high =
    ⊎_elim (λ last. ap (λ (i : ℕ). is_white (get_or value i 0)) last ∙ black) (λ before. none k low (omega arith)) (cases_eq k end)

no_white_between : (value : List ℕ) (start end : ℕ) → NoWhite value start end → All (λ b. is_white b ≡ false) (slice_range value start end)
no_white_between value start end none =
    All-from_get_or (λ (b : ℕ). is_white b ≡ false) (slice_range value start end) 0
    (λ i below. let at : get_or (slice_range value start end) i 0 ≡ get_or value (start + i) 0 = grind (arith, common_steps) in ap is_white at ∙ none (start + i) (omega arith) (grind (arith, common_steps)))

-- the next word ends at the next white space
pub words_at : (value : List ℕ) (start end : ℕ) → start ≤ end → end < length value → NoWhite value start end → is_white (get_or value end 0) ≡ true
    → words (drop start value) ≡ slice_range value start end ∷ words (drop (end + 1) value)
words_at value start end ordered within none white =
    ap words (drop_split value start end ordered ∙ ap (λ (rest : List ℕ). slice_range value start end ++ rest) (drop_more value end 0 within))
    ∙ slice_split_at is_white (slice_range value start end) (get_or value end 0) (drop (end + 1) value) (no_white_between value start end none) white

-- with no white space left it is the last
pub words_none : (value : List ℕ) (start : ℕ) → start ≤ length value → NoWhite value start (length value) → words (drop start value) ≡ drop start value ∷ []
words_none value start within none =
    let all : slice_range value start (length value) ≡ drop start value = grind (arith, common_steps) in
    slice_split_none is_white (drop start value) (let passed = no_white_between value start (length value) none in rw all at passed)

-- A search for a word: no word before `start` is the operand, and the word there doesn't end before `end`.
pub record SoFar (case : CaseSensitivity) (value operand : List ℕ) (start end : ℕ) : Type 0 where
  pub ordered : start ≤ end
  pub none : NoWhite value start end
  pub same : has_word_in case (drop start value) operand ≡ value_holds Includes case value operand

pub SoFar-init : (case : CaseSensitivity) (value operand : List ℕ) → SoFar case value operand 0 0
SoFar-init case value operand = record { ordered = omega arith; none = λ k low high. absurd (omega arith); same = has_word_in-Includes case value operand }

module _ (case : CaseSensitivity) (value operand : List ℕ) (start end : ℕ) (far : SoFar case value operand start end) where
  -- the word that ends here is looked at first
  at_word : end < length value → is_white (get_or value end 0) ≡ true
      → (value_holds Equal case (slice_range value start end) operand || has_word_in case (drop (end + 1) value) operand) ≡ value_holds Includes case value operand
  at_word within white =
      sym (ap (list_any (λ word. value_holds Equal case word operand)) (words_at value start end far.ordered within far.none white)) ∙ far.same

  pub SoFar-found : end < length value → is_white (get_or value end 0) ≡ true → value_holds Equal case (slice_range value start end) operand ≡ true → value_holds Includes case value operand ≡ true
  SoFar-found within white equal = sym (at_word within white) ∙ ap (λ (b : Bool). b || has_word_in case (drop (end + 1) value) operand) equal

  pub SoFar-next : end < length value → is_white (get_or value end 0) ≡ true → value_holds Equal case (slice_range value start end) operand ≡ false → SoFar case value operand (end + 1) (end + 1)
  SoFar-next within white differs = record {
    ordered = omega arith;
    none = λ k low high. absurd (omega arith);
    same = ap (λ (b : Bool). b || has_word_in case (drop (end + 1) value) operand) (sym differs) ∙ at_word within white;
  }

  pub SoFar-more : is_white (get_or value end 0) ≡ false → SoFar case value operand start (end + 1)
  SoFar-more black = record { ordered = omega arith; none = none_more value start end far.none black; same = far.same }

  pub SoFar-end : length value ≤ end → end ≤ length value → value_holds Equal case (slice_range value start (length value)) operand ≡ value_holds Includes case value operand
  SoFar-end last within =
      let none : NoWhite value start (length value) = λ k low high. far.none k low (omega arith) in
      let ordered : start ≤ length value = omega (arith, far.ordered) in
      ap (λ (word : List ℕ). value_holds Equal case word operand) (take_rest value start)
      ∙ sym (ap (list_any (λ word. value_holds Equal case word operand)) (words_none value start ordered none) ∙ or-false _) ∙ far.same

-- 4. An operand and a hyphen

unlike_lengths : (a b : List ℕ) → ¬ (length a ≡ length b) → bytes_eq a b ≡ false
unlike_lengths a b differ = ⊎_elim (λ same. absurd (differ (ap length ((bytes_eq-Decides a b).0 same)))) (λ no. no) (cases_Bool (bytes_eq a b))

pointwise-push : (a b : List ℕ) (x y : ℕ) → length a ≡ length b → bytes_eq (a ++ x ∷ []) (b ++ y ∷ []) ≡ (bytes_eq a b && eqb x y)
pointwise-push [] [] x y same = and-true (eqb x y)
pointwise-push [] (c ∷ b) x y same = absurd (omega arith)
pointwise-push (c ∷ a) [] x y same = absurd (omega arith)
pointwise-push (c ∷ a) (d ∷ b) x y same = ap (λ (t : Bool). eqb c d && t) (pointwise-push a b x y (omega arith)) ∙ sym (and_assoc (eqb c d) (bytes_eq a b) (eqb x y))

hyphen : (b : ℕ) → eqb 45 (to_ascii_lowercase b) ≡ eqb b 45
hyphen b = grind (arith, nat_tests)

hyphen_stays : (ignoring : Bool) (value : List ℕ) (at : ℕ) → at < length value → eqb 45 (get_or (compared ignoring value) at 0) ≡ eqb (get_or value at 0) 45
hyphen_stays true value at within = ap (eqb 45) (get_or-map to_ascii_lowercase value at 0 0 within) ∙ hyphen (get_or value at 0)
hyphen_stays false value at within = grind (arith, nat_tests)

pub dash_holds : (case : CaseSensitivity) (value operand part : List ℕ) → length operand < length value → part ≡ take (length operand) value
    → (value_holds Equal case operand part && eqb (get_or value (length operand) 0) 45) ≡ value_holds DashMatch case value operand
dash_holds case value operand part longer is =
    let seen = compared (ignores case) in
    let long : length (seen value) ≡ length value = length-compared (ignores case) value in
    let short : length (seen operand) ≡ length operand = length-compared (ignores case) operand in
    let n = length operand in
    let cut : take (n + 1) (seen value) ≡ take n (seen value) ++ get_or (seen value) n 0 ∷ [] = take_more (seen value) n 0 (omega arith) in
    let one_longer : length (seen operand ++ 45 ∷ []) ≡ n + 1 = length_push (seen operand) 45 ∙ ap (λ (k : ℕ). k + 1) short in
    let same_length : length (seen operand) ≡ length (take n (seen value)) = short ∙ sym (length-take-le n (seen value) (omega arith)) in
    let starts : starts_with nat_eq (seen value) (seen operand ++ 45 ∷ []) ≡ (bytes_eq (seen operand) (take n (seen value)) && eqb 45 (get_or (seen value) n 0)) =
    ap (λ (k : ℕ). bytes_eq (seen operand ++ 45 ∷ []) (take k (seen value))) one_longer ∙ ap (bytes_eq (seen operand ++ 45 ∷ [])) cut ∙ pointwise-push (seen operand) (take n (seen value)) 45 (get_or (seen value) n 0) same_length in
    sym (ap (λ (t : Bool). t || starts_with nat_eq (seen value) (seen operand ++ 45 ∷ [])) (unlike_lengths (seen value) (seen operand) (λ same. absurd (omega arith)))
    ∙ starts
    ∙ ap (λ (t : Bool). bytes_eq (seen operand) (take n (seen value)) && t) (hyphen_stays (ignores case) value n longer)
    ∙ ap (λ (p : List ℕ). bytes_eq (seen operand) p && eqb (get_or value n 0) 45) (take-compared (ignores case) n value ∙ ap seen (sym is)))

pub dash_found : (case : CaseSensitivity) (value operand part : List ℕ) → length operand < length value → part ≡ take (length operand) value → eqb (get_or value (length operand) 0) 45 ≡ true
    → value_holds Equal case operand part ≡ value_holds DashMatch case value operand
dash_found case value operand part longer is at =
    sym (ap (λ (t : Bool). value_holds Equal case operand part && t) at ∙ and-true _) ∙ dash_holds case value operand part longer is

pub dash_missed : (case : CaseSensitivity) (value operand : List ℕ) → length operand < length value → eqb (get_or value (length operand) 0) 45 ≡ false
    → eqb (get_or value (length operand) 0) 45 ≡ value_holds DashMatch case value operand
dash_missed case value operand longer at =
    at ∙ sym (and_right (value_holds Equal case operand (take (length operand) value)) _ at) ∙ dash_holds case value operand (take (length operand) value) longer refl

-- 5. Substrings

starts_from_occurs : (hay needle : List ℕ) → OccursAt hay needle 0 → starts_with nat_eq hay needle ≡ true
starts_from_occurs hay needle occurs = (bytes_eq-Decides needle (take (length needle) hay)).1 (sym (OccursAt-part hay needle 0 occurs))

occurs_from_starts : (hay needle : List ℕ) → starts_with nat_eq hay needle ≡ true → OccursAt hay needle 0
occurs_from_starts hay needle starts =
    let same = (bytes_eq-Decides needle (take (length needle) hay)).0 starts in
    let long : length needle ≡ min (length needle) (length hay) = ap length same ∙ length-take (length needle) hay in
    OccursAt-from_part hay needle 0 (omega arith) (sym same)

occurs_later : (b : ℕ) (hay needle : List ℕ) (at : ℕ) → OccursAt hay needle at → OccursAt (b ∷ hay) needle (suc at)
occurs_later b hay needle at occurs = record {
  fits = omega (arith, occurs.fits);
  reads = λ j below. let offset : suc at + j ≡ suc (at + j) = omega arith in ap (λ (k : ℕ). get_or (b ∷ hay) k 0) offset ∙ occurs.reads j below;
}

occurs_before : (b : ℕ) (hay needle : List ℕ) (at : ℕ) → OccursAt (b ∷ hay) needle (suc at) → OccursAt hay needle at
occurs_before b hay needle at occurs = record {
  fits = omega (arith, occurs.fits);
  reads = λ j below. let offset : suc (at + j) ≡ suc at + j = omega arith in ap (λ (k : ℕ). get_or (b ∷ hay) k 0) offset ∙ occurs.reads j below;
}

-- a part that occurs somewhere stands in the list
stands_in-true : (hay needle : List ℕ) (at : ℕ) → OccursAt hay needle at → stands_in hay needle ≡ true
stands_in-true [] [] at occurs = refl
stands_in-true [] (c ∷ needle) at occurs = absurd (omega (arith, occurs.fits))
stands_in-true (b ∷ hay) needle zero occurs = ap (λ (t : Bool). t || stands_in hay needle) (starts_from_occurs (b ∷ hay) needle occurs)
stands_in-true (b ∷ hay) needle (suc at) occurs =
    ap (λ (t : Bool). starts_with nat_eq (b ∷ hay) needle || t) (stands_in-true hay needle at (occurs_before b hay needle at occurs)) ∙ or-true _

stands_in-false : (hay needle : List ℕ) → ((at : ℕ) → ¬ OccursAt hay needle at) → stands_in hay needle ≡ false
stands_in-false [] [] none = absurd (none 0 (record { fits = omega arith; reads = λ j below. absurd (omega arith) }))
stands_in-false [] (c ∷ needle) none = refl
stands_in-false (b ∷ hay) needle none =
    or_from _ _
    (⊎_elim (λ starts. absurd (none 0 (occurs_from_starts (b ∷ hay) needle starts))) (λ no. no) (cases_Bool (starts_with nat_eq (b ∷ hay) needle)))
    (stands_in-false hay needle (λ at occurs. none (suc at) (occurs_later b hay needle at occurs)))

stands_in-found : (hay needle : List ℕ) (r : Option ℕ) → FindsNeedle hay needle 0 r → is_some r ≡ stands_in hay needle
stands_in-found hay needle None nowhere = sym (stands_in-false hay needle (λ at occurs. nowhere at (omega arith) (omega (arith, occurs.fits)) occurs))
stands_in-found hay needle (Some at) found = sym (stands_in-true hay needle at found.1)

pub substring_found : (value operand rest : List ℕ) (first : ℕ) (r : Option ℕ) → operand ≡ first ∷ rest → FindsNeedle value operand 0 r
    → is_some r ≡ value_holds Substring CaseSensitive value operand
substring_found value operand rest first r is found =
    stands_in-found value operand r found ∙ ap (λ (part : List ℕ). not (is_empty_text part) && stands_in value operand) (sym is)

-- 6. Substrings without case

abbrev pub IsLetterAt : ℕ → List ℕ → ℕ → Type 0
IsLetterAt first hay at = Passes (is_letter_of AsciiCaseInsensitive first) hay at

same_letter : (a b : ℕ) → is_byte2 (to_ascii_lowercase b) (to_ascii_uppercase b) a ≡ eqb (to_ascii_lowercase b) (to_ascii_lowercase a)
same_letter a b = grind (arith, nat_tests)

-- a byte and its other case are a letter
pub caseless_letter : (letter lower upper : ℕ) (value : List ℕ) (r : Option ℕ) → lower ≡ to_ascii_lowercase letter → upper ≡ to_ascii_uppercase letter
    → IsFirstByte (is_byte2 lower upper) value r → IsFirstByte (is_letter_of AsciiCaseInsensitive letter) value r
caseless_letter letter lower upper value r low up found =
    let both : IsFirstByte (is_byte2 (to_ascii_lowercase letter) (to_ascii_uppercase letter)) value r = rw (← low, ← up) found in
    IsFirst-agree (Passes (is_byte2 (to_ascii_lowercase letter) (to_ascii_uppercase letter)) value) (IsLetterAt letter value) 0 (length value)
    (λ k below passes. sym (same_letter (get_or value k 0) letter) ∙ passes)
    (λ k below passes. same_letter (get_or value k 0) letter ∙ passes)
    r both

-- a byte that is another letter begins no occurrence
other_letter : (first b : ℕ) (hay rest : List ℕ) → ¬ IsLetterAt first (b ∷ hay) 0 → stands_in_caseless (b ∷ hay) (first ∷ rest) ≡ stands_in_caseless hay (first ∷ rest)
other_letter first b hay rest other =
    let differs : eqb (to_ascii_lowercase first) (to_ascii_lowercase b) ≡ false = ⊎_elim (λ yes. absurd (other yes)) (λ no. no) (cases_Bool (eqb (to_ascii_lowercase first) (to_ascii_lowercase b))) in
    ap (λ (t : Bool). (t && starts_with nat_eq (lowercased hay) (lowercased rest)) || stands_in_caseless hay (first ∷ rest)) differs

later_letter : (first b : ℕ) (hay : List ℕ) (end : ℕ) → Nowhere (IsLetterAt first (b ∷ hay)) 0 (suc end) → Nowhere (IsLetterAt first hay) 0 end
later_letter first b hay end none k low high passes = none (suc k) (omega arith) (omega arith) passes

pub letter_none : (first : ℕ) (hay rest : List ℕ) → Nowhere (IsLetterAt first hay) 0 (length hay) → stands_in_caseless hay (first ∷ rest) ≡ false
letter_none first [] rest none = refl
letter_none first (b ∷ hay) rest none =
    other_letter first b hay rest (none 0 (omega arith) (omega arith)) ∙ letter_none first hay rest (later_letter first b hay (length hay) none)

letter_here : (first : ℕ) (hay rest : List ℕ) (at : ℕ) → at < length hay → Nowhere (IsLetterAt first hay) 0 at → IsLetterAt first hay at
    → stands_in_caseless hay (first ∷ rest) ≡ (starts_with nat_eq (lowercased (drop (suc at) hay)) (lowercased rest) || stands_in_caseless (drop (suc at) hay) (first ∷ rest))
letter_here first [] rest at within none passes = absurd (omega arith)
letter_here first (b ∷ hay) rest zero within none passes =
    ap (λ (t : Bool). (t && starts_with nat_eq (lowercased hay) (lowercased rest)) || stands_in_caseless hay (first ∷ rest)) passes
letter_here first (b ∷ hay) rest (suc at) within none passes =
    other_letter first b hay rest (none 0 (omega arith) (omega arith)) ∙ letter_here first hay rest at (omega arith) (later_letter first b hay at none) passes

pub letter_found : (first offset : ℕ) (value left : List ℕ) → IsFirstByte (is_letter_of AsciiCaseInsensitive first) value (Some offset) → left ≡ drop (offset + 1) value → IsAfterLetter first value (Some left)
letter_found first offset value left found left_is =
    let left_after : left ≡ drop (suc offset) value = left_is ∙ ap (λ (n : ℕ). drop n value) (add-one offset) in
    let high = found.0.high in (
      omega (arith, ap length left_after, length-drop (suc offset) value),
      λ rest. rw left_after (letter_here first value rest offset high found.0.before found.1),
    )

-- 7. The offset of a letter in what is left

no_letter_before : (case : CaseSensitivity) (value : List ℕ) (letter from offset to : ℕ) → Nowhere (Passes (is_letter_of case letter) (drop from value)) 0 offset → to ≤ from + offset → NoLetter case value letter from to
no_letter_before case value letter from offset to none within k low high =
    let at : from + (k - from) ≡ k = omega arith in
    ⊎_elim
    (λ yes. absurd (none (k - from) (omega arith) (omega arith) (ap (is_letter_of case letter) (get_or-drop from value (k - from) 0 ∙ ap (λ (i : ℕ). get_or value i 0) at) ∙ yes)))
    (λ no. no)
    (cases_Bool (is_letter_of case letter (get_or value k 0)))

pub no_letter_left : (case : CaseSensitivity) (value : List ℕ) (letter from : ℕ) → IsFirstByte (is_letter_of case letter) (drop from value) None → from ≤ length value → NoLetter case value letter from (length value)
no_letter_left case value letter from none within = no_letter_before case value letter from (length (drop from value)) (length value) none (omega (arith, length-drop from value))

pub letter_left : (case : CaseSensitivity) (value : List ℕ) (letter from offset : ℕ) → IsFirstByte (is_letter_of case letter) (drop from value) (Some offset) → from ≤ length value → IsLetterEnd case value letter from (from + offset + 1)
letter_left case value letter from offset found within =
    let high = found.0.high in
    let low : offset < length value - from = omega (arith, length-drop from value) in
    record {
      after = omega arith;
      within = omega arith;
      before = no_letter_before case value letter from offset (from + offset + 1 - 1) found.0.before (omega arith);
    }
