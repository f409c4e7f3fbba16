-- Which item is refused: one item after the other.
use Rattle.std.proofs.Common.{◌≡◌, ℕ, zero, suc, ◌+◌, ◌-◌, ◌<◌, Bool, true, false, cond, List, [], ◌∷◌, length, drop, Option, Some, None, Ok, Err, refl, sym, ap, ◌∙◌, arith, length-drop}
use Rattle.std.specs.Option.{option_map}
use Rattle.lol_css.specs.Points.{◌or◌}
use Rattle.lol_css.specs.Tokens.{Token}
use Rattle.lol_css.specs.Trees as trees
use Rattle.lol_css.specs.Drafts.{DraftItem}
use Rattle.lol_css.specs.Rules.{Read, giving, Outside, at_end}
use Rattle.lol_css.specs.Reading.{inner_list}
use Rattle.lol_css.specs.Accepting.{judged_item}
use Rattle.lol_css.specs.Judging.{Judged}
use Rattle.lol_css.specs.Locating.{outer_item, items_after, outer_items_at_most, outer_items, early, late, first_refused, refused_token}
use Rattle.lol_css.specs.Views.{read_of, left_of, late_place}
use Rattle.lol_css.proofs.Shorter.{item-leaves, inner_list-leaves}

-- ---- the first of two

or_map : {A B : Type 0} (f : A → B) (a b : Option A) → option_map f (a or b) ≡ (option_map f a or option_map f b)
or_map f None b = refl
or_map f (Some x) b = refl

or_assoc : {A : Type 0} (a b c : Option A) → (a or (b or c)) ≡ ((a or b) or c)
or_assoc None b c = refl
or_assoc (Some x) b c = refl

or_none : {A : Type 0} (a : Option A) → (a or None) ≡ a
or_none None = refl
or_none (Some x) = refl

-- ---- the items of the outermost list

not_at_end : (tokens : List Token) → at_end Outside tokens ≡ false → 0 < length tokens
not_at_end [] e = absurd cc
not_at_end (token ∷ tokens) e = omega arith

-- what is left after a comma is shorter than what the item before it began with
pub next_item-shorter : (tokens : List Token) (x : DraftItem) (rest : List Token) → outer_item tokens ≡ Ok (x, rest) → at_end Outside rest ≡ false → length (drop 1 rest) < length tokens
next_item-shorter tokens x rest e end =
    omega (arith, (item-leaves (inner_list 128) (inner_list-leaves 128) Outside tokens).left x rest e, length-drop 1 rest, not_at_end rest end)

after_same_of : (b : Bool) (l r : List (List Token)) → (b ≡ false → l ≡ r) → cond b [] l ≡ cond b [] r
after_same_of true l r h = refl
after_same_of false l r h = h refl

after_same : (read : Read DraftItem) (f g : List Token → List (List Token)) → ((x : DraftItem) (rest : List Token) → read ≡ Ok (x, rest) → at_end Outside rest ≡ false → f (drop 1 rest) ≡ g (drop 1 rest)) → items_after f read ≡ items_after g read
after_same (Ok p) f g h = after_same_of (at_end Outside p.1) (f (drop 1 p.1)) (g (drop 1 p.1)) (λ e. h p.0 p.1 refl e)
after_same (Err refusal) f g h = refl

-- more rounds than tokens change nothing
pub items_enough : (m n : ℕ) (tokens : List Token) → length tokens < m → length tokens < n → outer_items_at_most m tokens ≡ outer_items_at_most n tokens
unfolding outer_items_at_most
items_enough zero n tokens a b = absurd (omega arith)
items_enough (suc m) zero tokens a b = absurd (omega arith)
items_enough (suc m) (suc n) tokens a b =
    ap (λ (l : List (List Token)). tokens ∷ l) (after_same (outer_item tokens) (outer_items_at_most m) (outer_items_at_most n) (λ x rest e end.
    let less = next_item-shorter tokens x rest e end in
    items_enough m n (drop 1 rest) (omega (arith, less)) (omega (arith, less))))

pub outer_items-unfold : (tokens : List Token) → outer_items tokens ≡ tokens ∷ items_after outer_items (outer_item tokens)
unfolding outer_items_at_most
outer_items-unfold tokens =
    let n : length tokens + 1 ≡ suc (length tokens) = omega arith in
    rw n (ap (λ (l : List (List Token)). tokens ∷ l) (after_same (outer_item tokens) (outer_items_at_most (length tokens)) outer_items (λ x rest e end.
    let less = next_item-shorter tokens x rest e end in
    items_enough (length tokens) (length (drop 1 rest) + 1) (drop 1 rest) (omega (arith, less)) (omega arith))))

-- ---- the item that is refused

-- an item and a token by their numbers
abbrev pub place : List Token → ℕ × List Token → ℕ × ℕ
place whole p = (p.0, length whole - length p.1)

-- what is known of the items before these, and what these tell
abbrev pub told : List Token → ℕ → Option (ℕ × ℕ) → List Token → Option (ℕ × ℕ)
told whole n found tokens = option_map (place whole) (first_refused early n (outer_items tokens)) or found or option_map (place whole) (first_refused late n (outer_items tokens))

pub told-starts : (tokens : List Token) → told tokens 0 None tokens ≡ refused_token tokens
told-starts tokens = sym (or_map (place tokens) (first_refused early 0 (outer_items tokens)) (first_refused late 0 (outer_items tokens)))

abbrev pub early_of : Read DraftItem → Option (List Token)
early_of read = elim read [ Ok x ↦ None | Err refusal ↦ Some refusal.left ]

abbrev pub late_of : Read DraftItem → Option (List Token)
late_of read = elim read [
  | Ok x ↦ elim (judged_item false x.0) [ Ok kept ↦ None | Err refusal ↦ Some refusal.left ]
  | Err refusal ↦ None
]

pub early_is : (tokens : List Token) (read : Read DraftItem) → outer_item tokens ≡ read → early tokens ≡ early_of read
early_is tokens read e = ap early_of e

pub late_is : (tokens : List Token) (read : Read DraftItem) → outer_item tokens ≡ read → late tokens ≡ late_of read
late_is tokens read e = ap late_of e

told_early_of : (read : Read DraftItem) (whole : List Token) (n : ℕ) (found : Option (ℕ × ℕ)) (tokens : List Token) → outer_item tokens ≡ read → read_of (giving (judged_item false) read) ≡ None → told whole n found tokens ≡ Some (n, length whole - length (left_of (giving (judged_item false) read)))
told_early_of (Ok p) whole n found tokens e h = absurd cc
told_early_of (Err refusal) whole n found tokens e h = rw (outer_items-unfold tokens, e, early_is tokens (Err refusal) e) refl

-- an item is refused as it is read
pub told-early : (whole : List Token) (n : ℕ) (found : Option (ℕ × ℕ)) (tokens : List Token) → read_of (giving (judged_item false) (outer_item tokens)) ≡ None → told whole n found tokens ≡ Some (n, length whole - length (left_of (giving (judged_item false) (outer_item tokens))))
told-early whole n found tokens h = told_early_of (outer_item tokens) whole n found tokens refl h

-- this item and those after it
abbrev then_others : List Token → ℕ → Option (ℕ × ℕ) → Judged trees.Item → List (List Token) → Option (ℕ × ℕ)
then_others whole n found item others =
    option_map (place whole) (first_refused early (n + 1) others) or found or late_place n (length whole) item or option_map (place whole) (first_refused late (n + 1) others)

late_same : (item : Judged trees.Item) (whole : List Token) (n : ℕ) (others : Option (ℕ × List Token)) → (let l : Option (ℕ × ℕ) = option_map (place whole) (option_map (λ left. (n, left)) (elim item [ Ok kept ↦ None | Err refusal ↦ Some refusal.left ]) or others) in let r : Option (ℕ × ℕ) = late_place n (length whole) item or option_map (place whole) others in l ≡ r)
late_same (Ok kept) whole n others = refl
late_same (Err refusal) whole n others = refl

told_read_of : (read : Read DraftItem) (whole : List Token) (n : ℕ) (found : Option (ℕ × ℕ)) (tokens : List Token) (item : Judged trees.Item) → outer_item tokens ≡ read → read_of (giving (judged_item false) read) ≡ Some item → told whole n found tokens ≡ then_others whole n found item (items_after outer_items read)
told_read_of (Err refusal) whole n found tokens item e h = absurd cc
told_read_of (Ok p) whole n found tokens item e h =
    let same : judged_item false p.0 ≡ item = cc in
    rw (outer_items-unfold tokens, e, early_is tokens (Ok p) e, late_is tokens (Ok p) e, ← same) (ap (λ (o : Option (ℕ × ℕ)). option_map (place whole) (first_refused early (n + 1) (items_after outer_items (Ok p))) or found or o) (late_same (judged_item false p.0) whole n (first_refused late (n + 1) (items_after outer_items (Ok p)))))

-- what was found so far, with an item that was read
abbrev pub found_with : List Token → ℕ → Option (ℕ × ℕ) → Judged trees.Item → Option (ℕ × ℕ)
found_with whole n found item = found or late_place n (length whole) item

after_left_of : (read : Read DraftItem) (item : Judged trees.Item) (b : Bool) → read_of (giving (judged_item false) read) ≡ Some item → at_end Outside (left_of (giving (judged_item false) read)) ≡ b → items_after outer_items read ≡ cond b [] (outer_items (drop 1 (left_of (giving (judged_item false) read))))
after_left_of (Err refusal) item b h end = absurd cc
after_left_of (Ok p) item b h end = rw end refl

-- the list ends after an item
pub told-ends : (whole : List Token) (n : ℕ) (found : Option (ℕ × ℕ)) (tokens : List Token) (item : Judged trees.Item) → read_of (giving (judged_item false) (outer_item tokens)) ≡ Some item → at_end Outside (left_of (giving (judged_item false) (outer_item tokens))) ≡ true → told whole n found tokens ≡ found_with whole n found item
told-ends whole n found tokens item h end =
    told_read_of (outer_item tokens) whole n found tokens item refl h ∙ rw (after_left_of (outer_item tokens) item true h end) (ap (λ (o : Option (ℕ × ℕ)). found or o) (or_none (late_place n (length whole) item)))

-- another item follows
pub told-goes_on : (whole : List Token) (n : ℕ) (found : Option (ℕ × ℕ)) (tokens : List Token) (item : Judged trees.Item) → read_of (giving (judged_item false) (outer_item tokens)) ≡ Some item → at_end Outside (left_of (giving (judged_item false) (outer_item tokens))) ≡ false → told whole n found tokens ≡ told whole (n + 1) (found_with whole n found item) (drop 1 (left_of (giving (judged_item false) (outer_item tokens))))
told-goes_on whole n found tokens item h end =
    let others = outer_items (drop 1 (left_of (giving (judged_item false) (outer_item tokens)))) in
    told_read_of (outer_item tokens) whole n found tokens item refl h ∙ rw (after_left_of (outer_item tokens) item false h end) (ap (λ (o : Option (ℕ × ℕ)). option_map (place whole) (first_refused early (n + 1) others) or o) (or_assoc found (late_place n (length whole) item) (option_map (place whole) (first_refused late (n + 1) others))))

shorter_of : (read : Read DraftItem) (tokens : List Token) (item : Judged trees.Item) → outer_item tokens ≡ read → read_of (giving (judged_item false) read) ≡ Some item → at_end Outside (left_of (giving (judged_item false) read)) ≡ false → length (drop 1 (left_of (giving (judged_item false) read))) < length tokens
shorter_of (Err refusal) tokens item e h end = absurd cc
shorter_of (Ok p) tokens item e h end = next_item-shorter tokens p.0 p.1 e end

pub told-shorter : (tokens : List Token) (item : Judged trees.Item) → read_of (giving (judged_item false) (outer_item tokens)) ≡ Some item → at_end Outside (left_of (giving (judged_item false) (outer_item tokens))) ≡ false → length (drop 1 (left_of (giving (judged_item false) (outer_item tokens)))) < length tokens
told-shorter tokens item h end = shorter_of (outer_item tokens) tokens item refl h end
