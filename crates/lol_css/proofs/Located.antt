-- A text has a location exactly where it isn't accepted, and an offset lies in the text.
use Rattle.std.proofs.Common.{◌≡◌, ℕ, zero, suc, ◌+◌, ◌-◌, ◌≤◌, Bool, true, false, cond, eqb, ◌&&◌, List, [], ◌∷◌, ◌++◌, map, length, get_or, drop, Option, Some, None, IsNone, IfSome, IsSomeAnd, Result, Ok, Err, IfErr, is_ok, IsOk, refl, sym, ap, ◌∙◌, arith, length-append, length-drop}
use Rattle.std.proofs.lemmas.Str.{encodes-chars, length-encode}
use Rattle.std.proofs.Math.Utf8.{encode}
use Rattle.std.specs.Char.{len_utf8}
use Rattle.std.specs.Option.{option_map}
use Rattle.std.specs.Str.{chars, IsUtf8, encode_utf8_all}
use Rattle.lol_base.specs.CodePoints.{line_feed, carriage_return}
use Rattle.lol_css.specs.Points.{◌or◌, clean_points_after}
use Rattle.lol_css.specs.Tokens.{Token, tokens}
use Rattle.lol_css.specs.Trees as trees
use Rattle.lol_css.specs.Drafts.{DraftItem, DraftItems, NoItems, And}
use Rattle.lol_css.specs.Rules.{Read, Refusal, ◌>>=◌, giving, Outside, at_end}
use Rattle.lol_css.specs.Reading.{items_at_most, inner_list, list, selector}
use Rattle.lol_css.specs.Accepting.{judged_item, judged, with_cause, accept}
use Rattle.lol_css.specs.Judging.{Judged, with_item, judged_items_at_most}
use Rattle.lol_css.specs.Locating.{outer_item, items_after, outer_items_at_most, outer_items, early, late, first_refused, refused_token, offsets_after, point_offsets, token_offset, error_location}
use Rattle.lol_css.specs.declared.error.ErrorLocation.{ErrorLocation}
use Rattle.lol_css.specs.declared.error.SelectorError.{SelectorError}
use Rattle.lol_css.proofs.Fusing.{list-starts}
use Rattle.lol_css.proofs.LocatingLemmas.{early_is, late_is, outer_items-unfold, items_enough}

-- ---- tests

abbrev nothing : {A : Type 0} → Option A → Bool
nothing None = true
nothing (Some x) = false

and_true : (b : Bool) → (b && true) ≡ b
and_true true = refl
and_true false = refl

and_false : (b : Bool) → (b && false) ≡ false
and_false true = refl
and_false false = refl

nothing_or : {A : Type 0} (a b : Option A) → nothing (a or b) ≡ (nothing a && nothing b)
nothing_or None b = refl
nothing_or (Some x) b = refl

nothing_map : {A B : Type 0} (f : A → B) (a : Option A) → nothing (option_map f a) ≡ nothing a
nothing_map f None = refl
nothing_map f (Some x) = refl

-- ---- what is refused, and what is accepted

-- whether none of these items is refused
abbrev none_refused : ℕ → List (List Token) → Bool
none_refused n items = nothing (first_refused early n items) && nothing (first_refused late n items)

-- what reading and judging give in the end
abbrev verdict : Read (Judged trees.Items) → Judged trees.Items
verdict (Ok x) = x.0
verdict (Err refusal) = Err refusal

-- after an item
abbrev later : ℕ → Judged trees.Items → List Token → Read (Judged trees.Items)
later n items tokens = judged_items_at_most n (inner_list 128) Outside false items tokens

-- an item, and those after it
abbrev from_item : ℕ → Judged trees.Items → List Token → Read (Judged trees.Items)
from_item n items tokens = outer_item tokens >>= λ x. later n (with_item items (judged_item false x.0)) x.1

with_item_ok : (items : Judged trees.Items) (item : Judged trees.Item) → is_ok (with_item items item) ≡ (is_ok items && is_ok item)
with_item_ok (Ok x) (Ok y) = refl
with_item_ok (Ok x) (Err refusal) = refl
with_item_ok (Err refusal) item = refl

late_nothing : (item : Judged trees.Item) (n : ℕ) (others : Option (ℕ × List Token)) → (let o : Option (List Token) = elim item [ Ok kept ↦ None | Err refusal ↦ Some refusal.left ] in nothing (option_map {U = ℕ × List Token} (λ left. (n, left)) o or others) ≡ (is_ok item && nothing others))
late_nothing (Ok kept) n others = refl
late_nothing (Err refusal) n others = refl

and_moved : (a b c d : Bool) → ((a && b) && (c && d)) ≡ (a && (c && (b && d)))
and_moved false b c d = refl
and_moved true true c d = refl
and_moved true false true d = refl
and_moved true false false d = refl

from_item_of : (read : Read DraftItem) (n k : ℕ) (items : Judged trees.Items) (tokens : List Token) → outer_item tokens ≡ read → ((acc : Judged trees.Items) (rest : List Token) → is_ok (verdict (later n acc rest)) ≡ (is_ok acc && none_refused (k + 1) (cond (at_end Outside rest) [] (outer_items_at_most n (drop 1 rest))))) → is_ok (verdict (from_item n items tokens)) ≡ (is_ok items && none_refused k (outer_items_at_most (suc n) tokens))
unfolding outer_items_at_most
from_item_of (Err refusal) n k items tokens e h = rw (e, early_is tokens (Err refusal) e) (sym (and_false (is_ok items)))
from_item_of (Ok p) n k items tokens e h =
    let others = cond (at_end Outside p.1) [] (outer_items_at_most n (drop 1 p.1)) in
    rw (e, early_is tokens (Ok p) e, late_is tokens (Ok p) e)
    (h (with_item items (judged_item false p.0)) p.1
    ∙ ap (λ (b : Bool). b && none_refused (k + 1) others) (with_item_ok items (judged_item false p.0))
    ∙ and_moved (is_ok items) (is_ok (judged_item false p.0)) (nothing (first_refused early (k + 1) others)) (nothing (first_refused late (k + 1) others))
    ∙ ap (λ (b : Bool). is_ok items && (nothing (first_refused early (k + 1) others) && b)) (sym (late_nothing (judged_item false p.0) k (first_refused late (k + 1) others))))

later_end_of : (b : Bool) (k : ℕ) (items : Judged trees.Items) → is_ok items ≡ (is_ok items && none_refused k (cond b [] []))
later_end_of true k items = sym (and_true (is_ok items))
later_end_of false k items = sym (and_true (is_ok items))

later_of : (b : Bool) (n k : ℕ) (items : Judged trees.Items) (rest : List Token) → is_ok (verdict (from_item n items (drop 1 rest))) ≡ (is_ok items && none_refused k (outer_items_at_most (suc n) (drop 1 rest))) → (let read : Read (Judged trees.Items) = cond b (Ok (items, drop 1 rest)) (from_item n items (drop 1 rest)) in is_ok (verdict read) ≡ (is_ok items && none_refused k (cond b [] (outer_items_at_most (suc n) (drop 1 rest)))))
later_of true n k items rest h = sym (and_true (is_ok items))
later_of false n k items rest h = h

later_tells : (n k : ℕ) (items : Judged trees.Items) (rest : List Token) → is_ok (verdict (later n items rest)) ≡ (is_ok items && none_refused k (cond (at_end Outside rest) [] (outer_items_at_most n (drop 1 rest))))
unfolding judged_items_at_most outer_items_at_most
later_tells zero k items rest = later_end_of (at_end Outside rest) k items
later_tells (suc n) k items rest =
    later_of (at_end Outside rest) n k items rest (from_item_of (outer_item (drop 1 rest)) n k items (drop 1 rest) refl (λ acc left. later_tells n (k + 1) acc left))

-- the whole list, judged as it is read
abbrev read_list : List Token → Read (Judged trees.Items)
read_list tokens = giving (judged false) (list (inner_list 128) Outside tokens)

list_err : (tokens : List Token) (refusal : Refusal) → outer_item tokens ≡ Err refusal → read_list tokens ≡ Err refusal
unfolding list
list_err tokens refusal e = rw e refl

others_of : (b : Bool) (k : ℕ) (l r : List (List Token)) → (b ≡ false → l ≡ r) → none_refused k (cond b [] l) ≡ none_refused k (cond b [] r)
others_of true k l r h = refl
others_of false k l r h = ap (λ (items : List (List Token)). none_refused k items) (h refl)

list_tells_of : (read : Read DraftItem) (tokens : List Token) → outer_item tokens ≡ read → is_ok (verdict (read_list tokens)) ≡ none_refused 0 (outer_items tokens)
list_tells_of (Err refusal) tokens e = rw (list_err tokens refusal e, outer_items-unfold tokens, early_is tokens (Err refusal) e) refl
list_tells_of (Ok p) tokens e =
    let n = length p.1 + 1 in
    let item = judged_item false p.0 in
    let others = items_after outer_items (Ok p) in
    let read : giving (judged_item false) (outer_item tokens) ≡ Ok (item, p.1) = rw e refl in
    let first : is_ok (with_item (Ok trees.NoItems) item) ≡ is_ok item = with_item_ok (Ok trees.NoItems) item in
    ap (λ (r : Read (Judged trees.Items)). is_ok (verdict r)) (list-starts (inner_list 128) Outside false tokens item p.1 read)
    ∙ later_tells n 1 (with_item (Ok trees.NoItems) item) p.1
    ∙ ap (λ (b : Bool). b && none_refused 1 (cond (at_end Outside p.1) [] (outer_items_at_most n (drop 1 p.1)))) first
    ∙ ap (λ (b : Bool). is_ok item && b) (others_of (at_end Outside p.1) 1 (outer_items_at_most n (drop 1 p.1)) (outer_items (drop 1 p.1)) (λ end. items_enough n (length (drop 1 p.1) + 1) (drop 1 p.1) (omega (arith, length-drop 1 p.1)) (omega arith)))
    ∙ and_moved true (is_ok item) (nothing (first_refused early 1 others)) (nothing (first_refused late 1 others))
    ∙ ap (λ (b : Bool). nothing (first_refused early 1 others) && b) (sym (late_nothing item 0 (first_refused late 1 others)))
    ∙ rw (outer_items-unfold tokens, e, early_is tokens (Ok p) e, late_is tokens (Ok p) e) refl

accept_verdict_of : (text : List ℕ) (read : Read DraftItems) → list (inner_list 128) Outside (tokens (chars text)) ≡ read → accept text ≡ with_cause (verdict (giving (judged false) read))
unfolding accept selector
accept_verdict_of text (Ok p) e = rw e refl
accept_verdict_of text (Err refusal) e = rw e refl

not_some : {A : Type 0} (o : Option A) → nothing o ≡ true → IsNone o
not_some None e = refl
not_some (Some x) e = absurd cc

is_nothing : {A : Type 0} (o : Option A) → IsNone o → nothing o ≡ true
is_nothing None e = refl
is_nothing (Some x) e = absurd cc

cause_ok : (found : Judged trees.Items) → is_ok (with_cause found) ≡ is_ok found
cause_ok (Ok items) = refl
cause_ok (Err refusal) = refl

accept_tells : (text : List ℕ) → is_ok (accept text) ≡ nothing (error_location text)
accept_tells text =
    let whole = tokens (chars text) in
    let a = first_refused early 0 (outer_items whole) in
    let b = first_refused late 0 (outer_items whole) in
    ap (λ (r : Result trees.Items SelectorError). is_ok r) (accept_verdict_of text (list (inner_list 128) Outside whole) refl)
    ∙ cause_ok (verdict (read_list whole))
    ∙ list_tells_of (outer_item whole) whole refl
    ∙ sym (nothing_or a b)
    ∙ sym (nothing_map (λ place. (place.0, length whole - length place.1)) (a or b))
    ∙ sym (nothing_map {B = ErrorLocation} (λ place. record { item = place.0; offset = token_offset text place.1 }) (refused_token whole))

pub location-refused : (text : List ℕ) → IsNone (error_location text) → IsOk (accept text)
location-refused text h = accept_tells text ∙ is_nothing (error_location text) h

pub location-accepted : (text : List ℕ) → IsOk (accept text) → IsNone (error_location text)
location-accepted text h = not_some (error_location text) (sym (accept_tells text) ∙ h)

-- ---- offsets

offsets_small_of : (b : Bool) (before offset c : ℕ) (others : List ℕ) (i d : ℕ) → (eqb before carriage_return && eqb c line_feed) ≡ b → offset ≤ d → ((k : ℕ) → get_or others k d ≤ d) → get_or (map (λ point. offset) (clean_points_after before c) ++ others) i d ≤ d
offsets_small_of true before offset c others i d e l h = rw e (h i)
offsets_small_of false before offset c others zero d e l h = rw e l
offsets_small_of false before offset c others (suc i) d e l h = rw e (h i)

offsets_small : (before offset : ℕ) (cs : List ℕ) (i d : ℕ) → offset + length (encode_utf8_all cs) ≤ d → get_or (offsets_after before offset cs) i d ≤ d
unfolding offsets_after
offsets_small before offset [] i d l = omega arith
offsets_small before offset (c ∷ cs) i d l =
    offsets_small_of (eqb before carriage_return && eqb c line_feed) before offset c (offsets_after c (offset + len_utf8 c) cs) i d refl (omega arith)
    (λ k. offsets_small c (offset + len_utf8 c) cs k d (omega (arith, length-append (encode c) (encode_utf8_all cs), length-encode c)))

point_offset_small : (text : List ℕ) (i : ℕ) → IsUtf8 text → get_or (point_offsets text) i (length text) ≤ length text
point_offset_small text i u =
    let whole : encode_utf8_all (chars text) ≡ text = encodes-chars text u in
    offsets_small 0 0 (chars text) i (length text) (rw whole (omega arith))

small_of : (text : List ℕ) (o : Option (ℕ × ℕ)) → IsUtf8 text → IfSome (option_map {U = ErrorLocation} (λ place. record { item = place.0; offset = token_offset text place.1 }) o) (λ location. location.offset ≤ length text)
small_of text None u = tt
small_of text (Some p) u = point_offset_small text _ u

pub location-small : (text : List ℕ) → IsUtf8 text → IfSome (error_location text) (λ location. location.offset ≤ length text)
location-small text u = small_of text (refused_token (tokens (chars text))) u

-- ---- the token that reading refuses

-- some item is refused as it is read, from these tokens on
record Refuses (o : Option (ℕ × List Token)) (left : List Token) : Type 0 where
  number : ℕ
  is : o ≡ Some (number, left)

cond_others : (b : Bool) (l r : List (List Token)) → (b ≡ false → l ≡ r) → cond b [] l ≡ cond b [] r
cond_others true l r h = refl
cond_others false l r h = h refl

item_refuses_of : (read : Read DraftItem) (n k : ℕ) (items : DraftItems) (tokens : List Token) (refusal : Refusal) → outer_item tokens ≡ read → ((rest : List Token) (more : DraftItems) → items_at_most n (inner_list 128) Outside more rest ≡ Err refusal → Refuses (first_refused early (k + 1) (cond (at_end Outside rest) [] (outer_items_at_most n (drop 1 rest)))) refusal.left) → (read >>= λ x. items_at_most n (inner_list 128) Outside (And items x.0) x.1) ≡ Err refusal → Refuses (first_refused early k (outer_items_at_most (suc n) tokens)) refusal.left
unfolding outer_items_at_most
item_refuses_of (Err other) n k items tokens refusal e h g =
    let same : other ≡ refusal = cc in
    record { number = k; is = rw (early_is tokens (Err other) e) (ap (λ (r : Refusal). Some (k, r.left)) same) }
item_refuses_of (Ok p) n k items tokens refusal e h g =
    let others = h p.1 (And items p.0) g in
    record { number = others.number; is = rw (early_is tokens (Ok p) e, e) others.is }

list_refuses_of : (b : Bool) (n k : ℕ) (items : DraftItems) (rest : List Token) (refusal : Refusal) (read : Read DraftItems) → (read ≡ Err refusal → Refuses (first_refused early k (outer_items_at_most (suc n) (drop 1 rest))) refusal.left) → cond {A = Read DraftItems} b (Ok (items, drop 1 rest)) read ≡ Err refusal → Refuses (first_refused early k (cond b [] (outer_items_at_most (suc n) (drop 1 rest)))) refusal.left
list_refuses_of true n k items rest refusal read h g = absurd cc
list_refuses_of false n k items rest refusal read h g = h g

later_refuses : (n k : ℕ) (items : DraftItems) (rest : List Token) (refusal : Refusal) → items_at_most n (inner_list 128) Outside items rest ≡ Err refusal → Refuses (first_refused early k (cond (at_end Outside rest) [] (outer_items_at_most n (drop 1 rest)))) refusal.left
unfolding items_at_most
later_refuses zero k items rest refusal g = absurd cc
later_refuses (suc n) k items rest refusal g =
    list_refuses_of (at_end Outside rest) n k items rest refusal (outer_item (drop 1 rest) >>= λ x. items_at_most n (inner_list 128) Outside (And items x.0) x.1) (λ h. item_refuses_of (outer_item (drop 1 rest)) n k items (drop 1 rest) refusal refl (λ left more m. later_refuses n (k + 1) more left refusal m) h) g

whole_refuses_of : (read : Read DraftItem) (tokens : List Token) (refusal : Refusal) → outer_item tokens ≡ read → (read >>= λ first. items_at_most (length first.1 + 1) (inner_list 128) Outside (And NoItems first.0) first.1) ≡ Err refusal → Refuses (first_refused early 0 (outer_items tokens)) refusal.left
whole_refuses_of (Err other) tokens refusal e g =
    let same : other ≡ refusal = cc in
    record { number = 0; is = rw (outer_items-unfold tokens, early_is tokens (Err other) e) (ap (λ (r : Refusal). Some (0, r.left)) same) }
whole_refuses_of (Ok p) tokens refusal e g =
    let n = length p.1 + 1 in
    let others = later_refuses n 1 (And NoItems p.0) p.1 refusal g in
    let same = cond_others (at_end Outside p.1) (outer_items_at_most n (drop 1 p.1)) (outer_items (drop 1 p.1)) (λ end. items_enough n (length (drop 1 p.1) + 1) (drop 1 p.1) (omega (arith, length-drop 1 p.1)) (omega arith)) in
    record { number = others.number; is = rw (outer_items-unfold tokens, early_is tokens (Ok p) e, e) (ap (λ (items : List (List Token)). first_refused early 1 items) (sym same) ∙ others.is) }

selector_refuses : (tokens : List Token) (refusal : Refusal) → selector tokens ≡ Err refusal → Refuses (first_refused early 0 (outer_items tokens)) refusal.left
unfolding selector list
selector_refuses tokens refusal g = whole_refuses_of (outer_item tokens) tokens refusal refl g

refusal_located_of : (text : List ℕ) (read : Read DraftItems) → selector (tokens (chars text)) ≡ read → IfErr read (λ refusal. IsSomeAnd (error_location text) (λ location. location.offset ≡ token_offset text (length (tokens (chars text)) - length refusal.left)))
refusal_located_of text (Ok x) e = tt
refusal_located_of text (Err refusal) e = rw (selector_refuses (tokens (chars text)) refusal e).is refl

pub refusal-located : (text : List ℕ) → IfErr (selector (tokens (chars text))) (λ refusal. IsSomeAnd (error_location text) (λ location. location.offset ≡ token_offset text (length (tokens (chars text)) - length refusal.left)))
refusal-located text = refusal_located_of text (selector (tokens (chars text))) refl
