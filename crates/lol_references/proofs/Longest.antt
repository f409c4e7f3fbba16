-- The longest name of the whole table is read: what has no name, and the parts of other letters, have none with which bytes begin.
use Rattle.std.proofs.Common.{◌≡◌, ℕ, zero, suc, ◌+◌, ◌-◌, ◌*◌, ◌<◌, ◌≤◌, Bool, true, false, List, [], ◌∷◌, length, get_or, take, drop, Option, Some, None, refl, sym, ◌∙◌, ap, add-one, drop-drop, arith}
use Rattle.std.specs.Prelude.{◌==◌, nat_eq, nat_le, not, ◌&&◌, ◌||◌, cond, find, filter, is_some, slice_index, slice_range, if◌then◌else◌}
use Rattle.std.specs.Option.{option_map_or}
use Rattle.std.specs.List.{list_all, flat_map, starts_with}
use Rattle.std.specs.Char.{is_ascii_alphabetic}
use Rattle.std.specs.Int.{is_in_range}
use Rattle.std.proofs.lemmas.Bool.{leb-true, eqb-true}
use Rattle.std.proofs.lemmas.List.Folds.{list_all-append}
use Rattle.lol_references.specs.Names.{part, rows, row_of, row_among, name_len, name_end, begins_with_name, is_longer}
use Rattle.lol_references.proofs.Order.{first, second, both, all_pass, begun, in_order, no_longer, longest}
use Rattle.lol_references.proofs.Parts.{rises, table_rises}
use Rattle.lol_references.specs.declared.names.TheConstants.{NAMES, PARTS}

-- the rows that have a name
abbrev named_rows : List ℕ → List (List ℕ)
named_rows text = filter (λ row. is_some (name_len row)) (rows text)

-- a text cut where each of these parts begins
unfoldable cut : ℕ → List ℕ → List ℕ → List (List ℕ)
cut low [] text = []
cut low (n ∷ ns) text = take (n - low) text ∷ cut n ns (drop (n - low) text)

-- bytes begin with the two letters of the part behind a place
unfoldable hits : List ℕ → ℕ → Bool
hits (a ∷ b ∷ bytes) k = is_ascii_alphabetic a && is_ascii_alphabetic b && (suc (58 * (a - 65) + (b - 65)) == k)
hits _ k = false

abbrev in_part : ℕ → List ℕ → Bool
in_part k row = hits row k && nat_le 2 (name_end row)

abbrev is_good : ℕ → List (List ℕ) → Bool
is_good k rows = list_all (in_part k) rows && in_order rows

unfoldable are_good : ℕ → List (List ℕ) → Bool
are_good k [] = true
are_good k (text ∷ texts) = is_good k (named_rows text) && are_good (suc k) texts

table_is_good : are_good 0 (cut 0 PARTS NAMES.now) ≡ true
unfolding cut hits are_good in_order
table_is_good = refl

table_is_cut : named_rows NAMES.now ≡ flat_map named_rows (cut 0 PARTS NAMES.now)
unfolding cut
table_is_cut = refl

cut_at : (low : ℕ) (ns text whole : List ℕ) (top : ℕ) → rises low ns top ≡ true → text ≡ drop low whole → (k : ℕ) → suc k < length ns
    → get_or (cut low ns text) (suc k) [] ≡ slice_range whole (get_or ns k 0) (get_or ns (suc k) 0)
unfolding cut rises
cut_at low [] text whole top h e k short = absurd (omega arith)
cut_at low (n ∷ []) text whole top h e k short = absurd (omega arith)
cut_at low (n ∷ m ∷ ns) text whole top h e zero short =
    let below : low ≤ n = leb-true low n (first (nat_le low n) (rises n (m ∷ ns) top) h) in
    ap (λ (x : List ℕ). take (m - n) (drop (n - low) x)) e
    ∙ ap (λ (x : List ℕ). take (m - n) x) (drop-drop (n - low) low whole ∙ ap (λ i. drop i whole) (let i : low + (n - low) ≡ n = omega arith in i))
cut_at low (n ∷ m ∷ ns) text whole top h e (suc k) short =
    let below : low ≤ n = leb-true low n (first (nat_le low n) (rises n (m ∷ ns) top) h) in
    let rest : drop (n - low) text ≡ drop n whole =
    ap (λ (x : List ℕ). drop (n - low) x) e ∙ drop-drop (n - low) low whole ∙ ap (λ i. drop i whole) (let i : low + (n - low) ≡ n = omega arith in i) in
    cut_at n (m ∷ ns) (drop (n - low) text) whole top (second (nat_le low n) (rises n (m ∷ ns) top) h) rest k (omega arith)

abbrev has_name : List ℕ → Bool
has_name row = is_some (name_len row)

nameless : (bytes row : List ℕ) (o : Option ℕ) → is_some o ≡ false → option_map_or (λ len. starts_with nat_eq bytes (take len row)) o false ≡ false
nameless bytes row None h = refl
nameless bytes row (Some len) h = cc

-- what has no name is never found
skipped : (bytes row : List ℕ) (rows named : List (List ℕ)) (b : Bool) → has_name row ≡ b → find (begins_with_name bytes) rows ≡ find (begins_with_name bytes) named
    → find (begins_with_name bytes) (row ∷ rows) ≡ find (begins_with_name bytes) (cond b (row ∷ named) named)
skipped bytes row rows named true e later = ap (λ (x : Option (List ℕ)). cond (begins_with_name bytes row) (Some row) x) later
skipped bytes row rows named false e later =
    ap (λ b. cond b (Some row) (find (begins_with_name bytes) rows)) (nameless bytes row (name_len row) e) ∙ later

find_named : (bytes : List ℕ) (rows : List (List ℕ)) → find (begins_with_name bytes) rows ≡ find (begins_with_name bytes) (filter has_name rows)
find_named bytes [] = refl
find_named bytes (row ∷ rows) = skipped bytes row rows (filter has_name rows) (has_name row) refl (find_named bytes rows)

-- nor is it longer than what is found
none_longer : (bytes row : List ℕ) (read : Option (List ℕ)) → has_name row ≡ false → no_longer bytes read row ≡ true
none_longer bytes row read e = ap (λ b. not (b && is_longer read row)) (nameless bytes row (name_len row) e)

with_nameless : (bytes row : List ℕ) (read : Option (List ℕ)) (rows named : List (List ℕ)) (b : Bool) → has_name row ≡ b
    → list_all (no_longer bytes read) (cond b (row ∷ named) named) ≡ true
    → (list_all (no_longer bytes read) named ≡ true → list_all (no_longer bytes read) rows ≡ true)
    → list_all (no_longer bytes read) (row ∷ rows) ≡ true
with_nameless bytes row read rows named true e h later =
    both (no_longer bytes read row) (list_all (no_longer bytes read) rows)
    (first (no_longer bytes read row) (list_all (no_longer bytes read) named) h)
    (later (second (no_longer bytes read row) (list_all (no_longer bytes read) named) h))
with_nameless bytes row read rows named false e h later =
    both (no_longer bytes read row) (list_all (no_longer bytes read) rows) (none_longer bytes row read e) (later h)

all_named : (bytes : List ℕ) (read : Option (List ℕ)) (rows : List (List ℕ)) → list_all (no_longer bytes read) (filter has_name rows) ≡ true
    → list_all (no_longer bytes read) rows ≡ true
all_named bytes read [] h = refl
all_named bytes read (row ∷ rows) h =
    with_nameless bytes row read rows (filter has_name rows) (has_name row) refl h (all_named bytes read rows)

-- bytes that begin with a name have its first two letters
same_hits : (xs ys : List ℕ) (n : ℕ) → take (suc (suc n)) xs ≡ take (suc (suc n)) ys → suc (suc n) ≤ length xs → (k : ℕ) → hits xs k ≡ hits ys k
unfolding hits
same_hits [] ys n e short k = absurd (omega arith)
same_hits (a ∷ []) ys n e short k = absurd (omega arith)
same_hits (a ∷ b ∷ xs) [] n e short k = cc
same_hits (a ∷ b ∷ xs) (c ∷ []) n e short k = cc
same_hits (a ∷ b ∷ xs) (c ∷ d ∷ ys) n e short k = let one : a ≡ c = cc in let two : b ≡ d = cc in rw (one, two) refl

hit : (bytes row : List ℕ) (k : ℕ) → begins_with_name bytes row ≡ true → in_part k row ≡ true → hits bytes k ≡ true
hit bytes row k h within =
    let is_begun = begun bytes row h in
    let two = leb-true 2 (name_end row) (second (hits row k) (nat_le 2 (name_end row)) within) in
    let short = is_begun.short in
    let n = name_end row - 2 in
    let e : name_end row ≡ suc (suc n) = omega arith in
    let same = sym (ap (λ i. take i row) e) ∙ is_begun.same ∙ ap (λ i. take i bytes) e in
    sym (same_hits row bytes n same (omega arith) k) ∙ first (hits row k) (nat_le 2 (name_end row)) within

missed : (bytes row : List ℕ) (read : Option (List ℕ)) (k : ℕ) (b : Bool) → begins_with_name bytes row ≡ b → hits bytes k ≡ false → in_part k row ≡ true
    → not (b && is_longer read row) ≡ true
missed bytes row read k false e other within = refl
missed bytes row read k true e other within = let is_hit = hit bytes row k e within in cc

part_good : (bytes : List ℕ) (rows : List (List ℕ)) (k : ℕ) → is_good k rows ≡ true → (b : Bool) → hits bytes k ≡ b
    → (hits bytes k ≡ true → row_of bytes ≡ find (begins_with_name bytes) rows)
    → list_all (no_longer bytes (row_of bytes)) rows ≡ true
part_good bytes rows k good true e found =
    ap (λ (read : Option (List ℕ)). list_all (no_longer bytes read) rows) (found e)
    ∙ longest bytes rows (second (list_all (in_part k) rows) (in_order rows) good)
part_good bytes rows k good false e found =
    all_pass (in_part k) (no_longer bytes (row_of bytes)) rows
    (λ row within. missed bytes row (row_of bytes) k (begins_with_name bytes row) refl e within)
    (first (list_all (in_part k) rows) (in_order rows) good)

parts_good : (bytes : List ℕ) (texts : List (List ℕ)) (k : ℕ) → are_good k texts ≡ true
    → ((j i : ℕ) → i ≡ k + j → hits bytes i ≡ true → row_of bytes ≡ find (begins_with_name bytes) (named_rows (get_or texts j [])))
    → list_all (no_longer bytes (row_of bytes)) (flat_map named_rows texts) ≡ true
unfolding are_good
parts_good bytes [] k good found = refl
parts_good bytes (text ∷ texts) k good found =
    list_all-append (no_longer bytes (row_of bytes)) (named_rows text) (flat_map named_rows texts)
    ∙ both (list_all (no_longer bytes (row_of bytes)) (named_rows text)) (list_all (no_longer bytes (row_of bytes)) (flat_map named_rows texts))
    (part_good bytes (named_rows text) k (first (is_good k (named_rows text)) (are_good (suc k) texts) good) (hits bytes k) refl (found 0 k (omega arith)))
    (parts_good bytes texts (suc k) (second (is_good k (named_rows text)) (are_good (suc k) texts) good)
    (λ j i e. found (suc j) i (omega arith)))

-- the part in which is looked is that of the two letters
chosen : (x y : Bool) (text : List ℕ) → x ≡ true → y ≡ true → (if x && y then text else []) ≡ text
chosen x y text h k = rw (h, k) refl

part_when : (a b : ℕ) → is_ascii_alphabetic a ≡ true → is_ascii_alphabetic b ≡ true
    → part a b ≡ slice_range NAMES.now (slice_index PARTS (58 * (a - 65) + (b - 65))) (slice_index PARTS (58 * (a - 65) + (b - 65) + 1))
unfolding part
part_when a b h k = chosen (is_ascii_alphabetic a) (is_ascii_alphabetic b) _ h k

either_small : (x y : Bool) (c : ℕ) → (x ≡ true → c ≤ 122) → (y ≡ true → c ≤ 122) → (x || y) ≡ true → c ≤ 122
either_small true y c h k e = h refl
either_small false y c h k e = k e

small : (c : ℕ) → is_ascii_alphabetic c ≡ true → c ≤ 122
small c e =
    either_small (is_in_range 65 90 c) (is_in_range 97 122 c) c
    (λ h. let most = leb-true c 90 (second (nat_le 65 c) (nat_le c 90) h) in omega arith)
    (λ h. leb-true c 122 (second (nat_le 97 c) (nat_le c 122) h)) e

row_of_hit : (bytes : List ℕ) (i : ℕ) → hits bytes i ≡ true
    → row_of bytes ≡ find (begins_with_name bytes) (named_rows (get_or (cut 0 PARTS NAMES.now) i []))
unfolding hits row_of row_among
row_of_hit [] i h = cc
row_of_hit (a ∷ []) i h = cc
row_of_hit (a ∷ b ∷ bytes) i h =
    let place = 58 * (a - 65) + (b - 65) in
    let letters = first (is_ascii_alphabetic a && is_ascii_alphabetic b) (suc place == i) h in
    let one = first (is_ascii_alphabetic a) (is_ascii_alphabetic b) letters in
    let two = second (is_ascii_alphabetic a) (is_ascii_alphabetic b) letters in
    let is_place = eqb-true (suc place) i (second (is_ascii_alphabetic a && is_ascii_alphabetic b) (suc place == i) h) in
    let len : length PARTS ≡ 3365 = refl in
    let low = small a one in
    let high = small b two in
    let within : suc place < length PARTS = omega arith in
    let is_part : part a b ≡ get_or (cut 0 PARTS NAMES.now) i [] =
    part_when a b one two
    ∙ ap (λ n. slice_range NAMES.now (slice_index PARTS place) (slice_index PARTS n)) (add-one place)
    ∙ sym (cut_at 0 PARTS NAMES.now NAMES.now (length NAMES.now) table_rises refl place within)
    ∙ ap (λ n. get_or (cut 0 PARTS NAMES.now) n []) is_place in
    ap (λ (text : List ℕ). find (begins_with_name (a ∷ b ∷ bytes)) (rows text)) is_part
    ∙ find_named (a ∷ b ∷ bytes) (rows (get_or (cut 0 PARTS NAMES.now) i []))

pub longest_of_all : (bytes : List ℕ) → list_all (λ other. not (begins_with_name bytes other && is_longer (row_of bytes) other)) (rows NAMES.now) ≡ true
longest_of_all bytes =
    all_named bytes (row_of bytes) (rows NAMES.now)
    (ap (λ (rows : List (List ℕ)). list_all (no_longer bytes (row_of bytes)) rows) table_is_cut
    ∙ parts_good bytes (cut 0 PARTS NAMES.now) 0 table_is_good
    (λ j i e h. row_of_hit bytes i h ∙ ap (λ n. find (begins_with_name bytes) (named_rows (get_or (cut 0 PARTS NAMES.now) n []))) (let same : i ≡ j = omega arith in same)))
