-- Where case counts, each part of an operand stands in a value that passes the comparison.
use Rattle.std.proofs.Common.{◌≡◌, ℕ, zero, suc, ◌-◌, ◌<◌, ◌≤◌, arith, nat_lt, Some, None, Bool, true, false, cond, not, ◌||◌, ◌&&◌, List, [], ◌∷◌, ◌++◌, ◌⊎◌, inl, inr, length, take, drop, refl, sym, ap, ◌∙◌, subst}
use Rattle.std.specs.Prelude.{codes}
use Rattle.std.specs.Str.{bytes_eq}
use Rattle.std.specs.List.{list_any, starts_with, ends_with, onto_first}
use Rattle.std.proofs.Math.Bool.{or-true}
use Rattle.std.proofs.lemmas.Bool.{cases_Bool}
use Rattle.std.proofs.lemmas.Bool.Decides.{nat_tests}
use Rattle.std.proofs.lemmas.List.{length-take, length-drop}
use Rattle.std.proofs.lemmas.Slice.Eq.{bytes_eq-Decides}
use Rattle.std.specs.Bool.{nat_eq}
use mathlib.Core.List.{append-nil, append_assoc}
use Rattle.lol_base.specs.BoolLaws.{and_parts}
use Rattle.lol_base.specs.PlaceLaws.{some_is}
use Rattle.lol_base.specs.declared.comparison.AttrSelectorOperator.{AttrSelectorOperator}
use Rattle.lol_base.specs.declared.comparison.AttrSelectorOperator.TheVariants.{Equal, Includes, DashMatch, Prefix, Substring, Suffix}
use Rattle.lol_instructions.specs.Tests.{is_white, words, is_empty_text, stands_in, operator_holds, needs_operand, compares}
use Rattle.lol_instructions.specs.Keys.{part_length, last_part, parts_of}

-- A value is something, a part and something more.
record Around (value part : List ℕ) : Type 0 where
  before : List ℕ
  after : List ℕ
  whole : value ≡ before ++ (part ++ after)

later : (b : ℕ) (value part : List ℕ) → Around value part → Around (b ∷ value) part
later b value part around = record { before = b ∷ around.before; after = around.after; whole = ap (λ bytes. b ∷ bytes) around.whole }

-- either of two
one_of : {A : Type 0} (a b : Bool) → (a || b) ≡ true → (a ≡ true → A) → (b ≡ true → A) → A
one_of true b h first second = first refl
one_of false b h first second = second h

cut : (n : ℕ) (xs : List ℕ) → take n xs ++ drop n xs ≡ xs
cut zero xs = refl
cut (suc n) [] = refl
cut (suc n) (x ∷ xs) = ap (λ ys. x ∷ ys) (cut n xs)

-- 1. A part stands in a value exactly if that is around it

around_start : (value part : List ℕ) → starts_with nat_eq value part ≡ true → Around value part
around_start value part starts =
    let same : part ≡ take (length part) value = (bytes_eq-Decides part (take (length part) value)).0 starts in
    record {
      before = [];
      after = drop (length part) value;
      whole = sym (cut (length part) value) ∙ ap (λ front. front ++ drop (length part) value) (sym same);
    }

around_end : (value part : List ℕ) → ends_with nat_eq value part ≡ true → Around value part
around_end value part ends =
    let at = length value - length part in
    let same : part ≡ drop at value = (bytes_eq-Decides part (drop at value)).0 ends in
    record {
      before = take at value;
      after = [];
      whole = sym (cut at value) ∙ ap (λ rest. take at value ++ rest) (sym same ∙ sym (append-nil part));
    }

around : (value part : List ℕ) → stands_in value part ≡ true → Around value part
around [] part stands =
    let same : [] ≡ part = (bytes_eq-Decides [] part).0 stands in
    record { before = []; after = []; whole = same ∙ sym (append-nil part) }
around (b ∷ value) part stands =
    one_of (starts_with nat_eq (b ∷ value) part) (stands_in value part) stands (around_start (b ∷ value) part) (λ more. later b value part (around value part more))

take_part : (part after : List ℕ) → take (length part) (part ++ after) ≡ part
take_part [] after = refl
take_part (b ∷ part) after = ap (λ bytes. b ∷ bytes) (take_part part after)

starts : (part after : List ℕ) → starts_with nat_eq (part ++ after) part ≡ true
starts part after = (bytes_eq-Decides part (take (length part) (part ++ after))).1 (sym (take_part part after))

stands : (before part after : List ℕ) → stands_in (before ++ (part ++ after)) part ≡ true
stands [] [] [] = refl
stands [] [] (b ∷ after) = refl
stands [] (c ∷ part) after = ap (λ (t : Bool). t || stands_in (part ++ after) (c ∷ part)) (starts (c ∷ part) after)
stands (b ∷ before) part after =
    ap (λ (t : Bool). starts_with nat_eq (b ∷ (before ++ (part ++ after))) part || t) (stands before part after) ∙ or-true _

stands_around : (value part : List ℕ) → Around value part → stands_in value part ≡ true
stands_around value part a = subst (λ bytes. stands_in bytes part ≡ true) (sym a.whole) (stands a.before part a.after)

-- What stands in a part of a value stands in the value.
pub stands_within : (value operand part : List ℕ) → stands_in value operand ≡ true → stands_in operand part ≡ true → stands_in value part ≡ true
stands_within value operand part outer inner = stands_around value part (record { before = o.before ++ i.before; after = i.after ++ o.after; whole = whole })
  where
    o : Around value operand
    o = around value operand outer

    i : Around operand part
    i = around operand part inner

    whole : value ≡ (o.before ++ i.before) ++ (part ++ (i.after ++ o.after))
    whole =
        o.whole ∙ ap (λ middle. o.before ++ (middle ++ o.after)) i.whole
        ∙ ap (λ rest. o.before ++ rest) (append_assoc i.before (part ++ i.after) o.after ∙ ap (λ rest. i.before ++ rest) (append_assoc part i.after o.after))
        ∙ sym (append_assoc o.before i.before (part ++ (i.after ++ o.after)))

-- 2. An operand stands in each value that it is compared with and that passes

record Starts (value part : List ℕ) : Type 0 where
  rest : List ℕ
  whole : value ≡ part ++ rest

no_start : (value word : List ℕ) → [] ≡ word → Starts value word
no_start value word none = subst (λ w. Starts value w) none (record { rest = value; whole = refl })

-- a value begins with its first word
first_word : (value word : List ℕ) (others : List (List ℕ)) → words value ≡ word ∷ others → Starts value word
first_word [] word others is = no_start [] word (let h = is in cc)
first_word (b ∷ value) word others is = by_byte (is_white b) is (first_word value)
  where
    Firsts : Type 0
    Firsts = (w : List ℕ) (ws : List (List ℕ)) → words value ≡ w ∷ ws → Starts value w

    by_first : (parts : List (List ℕ)) → words value ≡ parts → onto_first b parts ≡ word ∷ others → Firsts → Starts (b ∷ value) word
    by_first [] parted it firsts =
        let same : b ∷ [] ≡ word = (let h = it in cc) in
        subst (λ w. Starts (b ∷ value) w) same (record { rest = value; whole = refl })
    by_first (w ∷ ws) parted it firsts =
        let front = firsts w ws parted in
        let same : b ∷ w ≡ word = (let h = it in cc) in
        subst (λ w'. Starts (b ∷ value) w') same (record { rest = front.rest; whole = ap (λ bytes. b ∷ bytes) front.whole })

    by_byte : (white : Bool) → cond white ([] ∷ words value) (onto_first b (words value)) ≡ word ∷ others → Firsts → Starts (b ∷ value) word
    by_byte true it firsts = no_start (b ∷ value) word (let h = it in cc)
    by_byte false it firsts = by_first (words value) refl it firsts

record HasWord (test : List ℕ → Bool) (value : List ℕ) : Type 0 where
  word : List ℕ
  passes : test word ≡ true
  stands : Around value word

module _ (test : List ℕ → Bool) where
  no_word : (value : List ℕ) → test [] ≡ true → HasWord test value
  no_word value passes = record { word = []; passes = passes; stands = record { before = []; after = value; whole = refl } }

  later_word : (b : ℕ) (value : List ℕ) → HasWord test value → HasWord test (b ∷ value)
  later_word b value found = record { word = found.word; passes = found.passes; stands = later b value found.word found.stands }

  has_word : (value : List ℕ) → list_any test (words value) ≡ true → HasWord test value
  has_word [] h = one_of (test []) false h (λ passes. no_word [] passes) (λ no. cc)
  has_word (b ∷ value) h = by_byte (is_white b) h (has_word value)
    where
      Others : Type 0
      Others = list_any test (words value) ≡ true → HasWord test value

      by_first : (parts : List (List ℕ)) → words value ≡ parts → list_any test (onto_first b parts) ≡ true → Others → HasWord test (b ∷ value)
      by_first [] parted it others =
          one_of (test (b ∷ [])) false it (λ passes. record { word = b ∷ []; passes = passes; stands = record { before = []; after = value; whole = refl } }) (λ no. cc)
      by_first (w ∷ ws) parted it others =
          one_of (test (b ∷ w)) (list_any test ws) it
          (λ passes. let front = first_word value w ws parted in record { word = b ∷ w; passes = passes; stands = record { before = []; after = front.rest; whole = ap (λ bytes. b ∷ bytes) front.whole } })
          (λ some. later_word b value (others (ap (list_any test) parted ∙ ap (λ (t : Bool). test w || t) some ∙ or-true (test w))))

      by_byte : (white : Bool) → list_any test (cond white ([] ∷ words value) (onto_first b (words value))) ≡ true → Others → HasWord test (b ∷ value)
      by_byte true it others = one_of (test []) (list_any test (words value)) it (λ passes. no_word (b ∷ value) passes) (λ some. later_word b value (others some))
      by_byte false it others = by_first (words value) refl it others

is_itself : (value operand : List ℕ) → bytes_eq value operand ≡ true → Around value operand
is_itself value operand same = record { before = []; after = []; whole = (bytes_eq-Decides value operand).0 same ∙ sym (append-nil operand) }

before_dash : (value operand dash : List ℕ) → Around value (operand ++ dash) → Around value operand
before_dash value operand dash a =
    record { before = a.before; after = dash ++ a.after; whole = a.whole ∙ ap (λ rest. a.before ++ rest) (append_assoc operand dash a.after) }

operand_stands : (operator : AttrSelectorOperator) (value operand : List ℕ) → operator_holds operator value operand ≡ true → Around value operand
operand_stands Equal value operand h = is_itself value operand h
operand_stands Includes value operand h =
    let found = has_word (λ word. bytes_eq word operand) value h in
    subst (λ bytes. Around value bytes) ((bytes_eq-Decides found.word operand).0 found.passes) found.stands
operand_stands DashMatch value operand h =
    one_of (bytes_eq value operand) (starts_with nat_eq value (operand ++ codes "-")) h
    (is_itself value operand)
    (λ dashed. before_dash value operand (codes "-") (around_start value (operand ++ codes "-") dashed))
operand_stands Prefix value operand h = around_start value operand h
operand_stands Substring value operand h = around value operand (and_parts (not (is_empty_text operand)) (stands_in value operand) h).1
operand_stands Suffix value operand h = around_end value operand h

-- Each part of the operand stands in the value.
pub parts_stand : (operator : AttrSelectorOperator) (value operand part : List ℕ) → compares operator value operand ≡ true → stands_in operand part ≡ true → stands_in value part ≡ true
parts_stand operator value operand part h inner =
    let holds = (and_parts (not (needs_operand operator && is_empty_text operand)) (operator_holds operator value operand) h).1 in
    stands_within value operand part (stands_around value operand (operand_stands operator value operand holds)) inner

-- 3. The last part of an operand

none_some : {A : Type 0} {x : A} → None ≡ Some x → ⊥
none_some h = let it = h in cc

end_stands : (value : List ℕ) (at : ℕ) → stands_in value (drop at value) ≡ true
end_stands value at =
    stands_around value (drop at value) (record {
      before = take at value;
      after = [];
      whole = sym (cut at value) ∙ ap (λ rest. take at value ++ rest) (sym (append-nil (drop at value)));
    })

less_of : {a b : ℕ} → nat_lt a b ≡ true → a < b
less_of h = grind (arith, nat_tests)

not_less_of : {a b : ℕ} → nat_lt a b ≡ false → b ≤ a
not_less_of h = grind (arith, nat_tests)

pub last_stands : (operand part : List ℕ) → last_part operand ≡ Some part → (stands_in operand part ≡ true) × (length part ≡ part_length)
last_stands operand part is = by_length (cases_Bool (nat_lt (length operand) part_length)) is
  where
    at : ℕ
    at = length operand - part_length

    by_length : (nat_lt (length operand) part_length ≡ true) ⊎ (nat_lt (length operand) part_length ≡ false) → last_part operand ≡ Some part → (stands_in operand part ≡ true) × (length part ≡ part_length)
    by_length (inl short) it = absurd (none_some (sym (ap (λ b. cond b None (Some (drop at operand))) short) ∙ it))
    by_length (inr long) it =
        let same : drop at operand ≡ part = some_is (sym (ap (λ b. cond b None (Some (drop at operand))) long) ∙ it) in
        (subst (λ p. stands_in operand p ≡ true) same (end_stands operand at), sym (ap length same) ∙ length-drop at operand ∙ omega (arith, not_less_of long))

-- 4. The parts of a value

bytes_eq_sym : (a b : List ℕ) → bytes_eq a b ≡ bytes_eq b a
bytes_eq_sym a b = by_both (bytes_eq a b) (bytes_eq b a) refl refl
  where
    by_both : (s t : Bool) → bytes_eq a b ≡ s → bytes_eq b a ≡ t → s ≡ t
    by_both true true is it = refl
    by_both false false is it = refl
    by_both true false is it = sym ((bytes_eq-Decides b a).1 (sym ((bytes_eq-Decides a b).0 is))) ∙ it
    by_both false true is it = sym is ∙ (bytes_eq-Decides a b).1 (sym ((bytes_eq-Decides b a).0 it))

starts_fits : (value part : List ℕ) → starts_with nat_eq value part ≡ true → length part ≤ length value
starts_fits value part starts =
    let same : length part ≡ length (take (length part) value) = ap length ((bytes_eq-Decides part (take (length part) value)).0 starts) in
    omega (arith, same, length-take (length part) value)

short_lacks : (value part : List ℕ) → length value < length part → stands_in value part ≡ false
short_lacks [] [] less = absurd (omega arith)
short_lacks [] (c ∷ part) less = refl
short_lacks (b ∷ value) part less = by_start (starts_with nat_eq (b ∷ value) part) refl (short_lacks value part (omega (arith, less)))
  where
    by_start : (t : Bool) → starts_with nat_eq (b ∷ value) part ≡ t → stands_in value part ≡ false → (t || stands_in value part) ≡ false
    by_start false is later = later
    by_start true is later = absurd (omega (arith, less, starts_fits (b ∷ value) part is))

-- A part of that length stands in a value exactly if it is one of its parts.
pub part_is_one : (value part : List ℕ) → length part ≡ part_length → stands_in value part ≡ list_any (λ other. bytes_eq other part) (parts_of value)
part_is_one [] [] long = absurd (omega (arith, long))
part_is_one [] (c ∷ part) long = refl
part_is_one (b ∷ value) part long = by_length (cases_Bool (nat_lt (length (b ∷ value)) part_length)) (part_is_one value part long)
  where
    q : List ℕ → Bool
    q other = bytes_eq other part

    by_length : (nat_lt (length (b ∷ value)) part_length ≡ true) ⊎ (nat_lt (length (b ∷ value)) part_length ≡ false) → stands_in value part ≡ list_any q (parts_of value)
        → stands_in (b ∷ value) part ≡ list_any q (parts_of (b ∷ value))
    by_length (inl short) more =
        short_lacks (b ∷ value) part (omega (arith, long, less_of short))
        ∙ sym (ap (λ t. list_any q (cond t [] (take part_length (b ∷ value) ∷ parts_of value))) short)
    by_length (inr enough) more =
        (λ i. first i || more i)
        ∙ sym (ap (λ t. list_any q (cond t [] (take part_length (b ∷ value) ∷ parts_of value))) enough)
      where
        first : starts_with nat_eq (b ∷ value) part ≡ bytes_eq (take part_length (b ∷ value)) part
        first = ap (λ n. bytes_eq part (take n (b ∷ value))) long ∙ bytes_eq_sym part (take part_length (b ∷ value))
