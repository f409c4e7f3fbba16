-- Where a text is refused: the item of the outermost list, and the byte offset.
use Rattle.std.specs.Prelude.{ℕ, zero, suc, ◌+◌, ◌-◌, false, if◌then◌else◌, List, [], ◌∷◌, ◌++◌, map, length, get_or, drop, Option, Some, None, Ok, Err}
use Rattle.std.specs.Option.{option_map}
use Rattle.std.specs.Char.{len_utf8}
use Rattle.std.specs.Str.{chars}
use Rattle.lol_css.specs.Points.{clean_points_after, preprocessed, many, ◌or◌}
use Rattle.lol_css.specs.Tokens.{Token, next, somes, tokens}
use Rattle.lol_css.specs.Drafts.{DraftItem}
use Rattle.lol_css.specs.Rules.{Read, Outside, at_end}
use Rattle.lol_css.specs.Reading.{item, inner_list}
use Rattle.lol_css.specs.Accepting.{judged_item}
use Rattle.lol_css.specs.declared.error.ErrorLocation.{ErrorLocation}

-- ---- items

-- an item of the outermost list
abbrev pub outer_item : List Token → Read DraftItem
outer_item tokens = item (inner_list 128) Outside tokens

-- the items after this one, where it was read and the list goes on
abbrev pub items_after : (List Token → List (List Token)) → Read DraftItem → List (List Token)
items_after others (Ok x) = if at_end Outside x.1 then [] else others (drop 1 x.1)
items_after others (Err refusal) = []

-- the items of the outermost list, each as the tokens from where it begins on, up to the first that is refused as it is read
unfoldable pub outer_items_at_most : ℕ → List Token → List (List Token)
outer_items_at_most zero tokens = []
outer_items_at_most (suc n) tokens = tokens ∷ items_after (outer_items_at_most n) (outer_item tokens)

-- each item but the last ends at a comma, so there are at most so many
abbrev pub outer_items : List Token → List (List Token)
outer_items tokens = outer_items_at_most (length tokens + 1) tokens

-- where an item is refused as it is read: from the first token that is refused
abbrev pub early : List Token → Option (List Token)
early tokens = elim (outer_item tokens) [ Ok x ↦ None | Err refusal ↦ Some refusal.left ]

-- where an item is refused once the whole list was read: from the part or the step on that is refused
abbrev pub late : List Token → Option (List Token)
late tokens = elim (outer_item tokens) [
  | Ok x ↦ elim (judged_item false x.0) [ Ok kept ↦ None | Err refusal ↦ Some refusal.left ]
  | Err refusal ↦ None
]

-- the first item that is refused so, by its number, which counts from here on, and where
abbrev pub first_refused : (List Token → Option (List Token)) → ℕ → List (List Token) → Option (ℕ × List Token)
first_refused refuses n [] = None
first_refused refuses n (tokens ∷ others) = option_map (λ left. (n, left)) (refuses tokens) or first_refused refuses (n + 1) others

-- the item that is refused, and the first token that is, by their numbers: the whole list is read before an item is refused late
abbrev pub refused_token : List Token → Option (ℕ × ℕ)
refused_token tokens =
    option_map (λ place. (place.0, length tokens - length place.1)) (first_refused early 0 (outer_items tokens) or first_refused late 0 (outer_items tokens))

-- ---- byte offsets

-- the byte offsets in a text of its code points once it is preprocessed (CSS Syntax 3, section 3.3), from this one on: CR and the LF after it are one point
unfoldable pub offsets_after : ℕ → ℕ → List ℕ → List ℕ
offsets_after before offset [] = []
offsets_after before offset (c ∷ cs) = map (λ point. offset) (clean_points_after before c) ++ offsets_after c (offset + len_utf8 c) cs

abbrev pub point_offsets : List ℕ → List ℕ
point_offsets text = offsets_after 0 0 (chars text)

-- what stands first, as how many code points are left where it begins; comments are no tokens
abbrev pub next_start : List ℕ → Option (Option ℕ × List ℕ)
next_start points = option_map (λ found. (option_map (λ token. length points) found.0, found.1)) (next points)

-- how many code points are left where each token begins
abbrev pub token_starts : List ℕ → List ℕ
token_starts points = somes (many next_start points).0

-- the byte offset in a text of a token, by its number; past the last it is the end's
abbrev pub token_offset : List ℕ → ℕ → ℕ
token_offset text n = let points = preprocessed (chars text) in get_or (point_offsets text) (length points - get_or (token_starts points) n 0) (length text)

-- ---- locations

-- where a text is refused, beside `accept`, which says for which cause; none where it is accepted
abbrev pub error_location : List ℕ → Option ErrorLocation
error_location text = option_map (λ place. record { item = place.0; offset = token_offset text place.1 }) (refused_token (tokens (chars text)))
