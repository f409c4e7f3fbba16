-- Where the tokens and the code points of a text begin.
use Rattle.std.proofs.Common.{◌≡◌, ℕ, zero, suc, ◌+◌, ◌-◌, ◌<◌, Bool, true, false, eqb, ◌&&◌, List, [], ◌∷◌, ◌++◌, map, length, get_or, Option, Some, None, refl, ap, ◌∙◌, arith}
use Rattle.std.proofs.lemmas.Str.{chars_past_char, length-encode}
use Rattle.std.proofs.Math.Utf8.{encode}
use Rattle.std.specs.Char.{len_utf8}
use Rattle.std.specs.Option.{option_map}
use Rattle.std.specs.Str.{chars, IsUtf8}
use Rattle.lol_base.specs.CodePoints.{line_feed, carriage_return}
use Rattle.lol_css.specs.Points.{clean_points_after}
use Rattle.lol_css.specs.Tokens.{Token, next, somes, with_first}
use Rattle.lol_css.specs.Locating.{next_start, token_starts, offsets_after}
use Rattle.lol_css.proofs.Many.{Shrinks, many-some, many-none, some_same}
use Rattle.lol_css.proofs.Streams.{next-shrinks}

-- ---- tokens

next_start_shrinks_of : (o : Option (Option Token × List ℕ)) (points : List ℕ) (x : Option ℕ) (rest : List ℕ) → next points ≡ o → option_map {U = Option ℕ × List ℕ} (λ found. (option_map (λ token. length points) found.0, found.1)) o ≡ Some (x, rest) → length rest < length points
next_start_shrinks_of None points x rest e g = absurd cc
next_start_shrinks_of (Some found) points x rest e g =
    let start : Option ℕ × List ℕ = (option_map (λ token. length points) found.0, found.1) in
    let same : start ≡ (x, rest) = some_same start (x, rest) g in
    let left : found.1 ≡ rest = ap (λ (p : Option ℕ × List ℕ). p.1) same in
    rw (← left) (next-shrinks.shorter points found.0 found.1 e)

next_start-shrinks : Shrinks next_start
next_start-shrinks = record { shorter = λ points x rest e. next_start_shrinks_of (next points) points x rest refl e }

pub starts-goes_on : (points : List ℕ) (found : Option Token) (rest : List ℕ) → next points ≡ Some (found, rest) → token_starts points ≡ with_first (option_map (λ token. length points) found) (token_starts rest)
starts-goes_on points found rest e =
    let taken : next_start points ≡ Some (option_map (λ token. length points) found, rest) = ap (λ (o : Option (Option Token × List ℕ)). option_map {U = Option ℕ × List ℕ} (λ f. (option_map (λ token. length points) f.0, f.1)) o) e in
    ap (λ (p : List (Option ℕ) × List ℕ). somes p.0) (many-some next_start next_start-shrinks points (option_map (λ token. length points) found) rest taken)

pub starts-first : (points : List ℕ) (first : Token) (rest : List ℕ) → next points ≡ Some (Some first, rest) → token_starts points ≡ length points ∷ token_starts rest
starts-first points first rest e = starts-goes_on points (Some first) rest e

pub starts-passes : (points rest : List ℕ) → next points ≡ Some (None, rest) → token_starts points ≡ token_starts rest
starts-passes points rest e = starts-goes_on points None rest e

pub starts-stops : (points : List ℕ) → next points ≡ None → token_starts points ≡ []
starts-stops points e =
    let none : next_start points ≡ None = ap (λ (o : Option (Option Token × List ℕ)). option_map {U = Option ℕ × List ℕ} (λ f. (option_map (λ token. length points) f.0, f.1)) o) e in
    ap (λ (p : List (Option ℕ) × List ℕ). somes p.0) (many-none next_start points none)

pub ruleset start_steps = (starts-first, starts-passes, starts-stops)

-- one of several is passed
pub get_or-next : (whole : List ℕ) (first : ℕ) (others : List ℕ) (n d : ℕ) → whole ≡ first ∷ others → ¬ (n ≡ 0) → get_or whole n d ≡ get_or others (n - 1) d
get_or-next whole first others zero d e z = absurd (z refl)
get_or-next whole first others (suc n) d e z = let m : suc n - 1 ≡ n = omega arith in rw (e, m) refl

-- ---- code points

joined_of : (b : Bool) (before offset c : ℕ) (others : List ℕ) → (eqb before carriage_return && eqb c line_feed) ≡ b → b ≡ true → map (λ point. offset) (clean_points_after before c) ++ others ≡ others
joined_of true before offset c others e h = rw e refl
joined_of false before offset c others e h = absurd cc

single_of : (b : Bool) (before offset c : ℕ) (others : List ℕ) → (eqb before carriage_return && eqb c line_feed) ≡ b → b ≡ false → map (λ point. offset) (clean_points_after before c) ++ others ≡ offset ∷ others
single_of true before offset c others e h = absurd cc
single_of false before offset c others e h = rw e refl

-- the character at an offset is passed: what is left, and its offset
pub record Passes (offset : ℕ) (bs : List ℕ) (c offset2 : ℕ) (rest : List ℕ) : Type 0 where
  pub utf8 : IsUtf8 bs
  pub is : bs ≡ encode c ++ rest
  pub at : offset2 ≡ offset + length (encode c)

offsets_past : (before offset : ℕ) (bs : List ℕ) (c offset2 : ℕ) (rest : List ℕ) → Passes offset bs c offset2 rest → offsets_after before offset (chars bs) ≡ map (λ point. offset) (clean_points_after before c) ++ offsets_after c offset2 (chars rest)
unfolding offsets_after
offsets_past before offset bs c offset2 rest r =
    let at : offset2 ≡ offset + len_utf8 c = r.at ∙ ap (λ n. offset + n) (length-encode c) in
    rw (chars_past_char bs rest c r.utf8 r.is, at) refl

pub offset-here : (before offset : ℕ) (bs : List ℕ) (c offset2 : ℕ) (rest : List ℕ) (n d : ℕ) → Passes offset bs c offset2 rest → (eqb before carriage_return && eqb c line_feed) ≡ false → n ≡ 0 → get_or (offsets_after before offset (chars bs)) n d ≡ offset
offset-here before offset bs c offset2 rest n d r e z =
    rw (offsets_past before offset bs c offset2 rest r, single_of (eqb before carriage_return && eqb c line_feed) before offset c (offsets_after c offset2 (chars rest)) refl e, z) refl

pub offset-next : (before offset : ℕ) (bs : List ℕ) (c offset2 : ℕ) (rest : List ℕ) (n d : ℕ) → Passes offset bs c offset2 rest → (eqb before carriage_return && eqb c line_feed) ≡ false → ¬ (n ≡ 0) → get_or (offsets_after before offset (chars bs)) n d ≡ get_or (offsets_after c offset2 (chars rest)) (n - 1) d
offset-next before offset bs c offset2 rest n d r e z =
    rw (offsets_past before offset bs c offset2 rest r, single_of (eqb before carriage_return && eqb c line_feed) before offset c (offsets_after c offset2 (chars rest)) refl e) (get_or-next (offset ∷ offsets_after c offset2 (chars rest)) offset (offsets_after c offset2 (chars rest)) n d refl z)

pub offset-joined : (before offset : ℕ) (bs : List ℕ) (c offset2 : ℕ) (rest : List ℕ) (n d : ℕ) → Passes offset bs c offset2 rest → (eqb before carriage_return && eqb c line_feed) ≡ true → get_or (offsets_after before offset (chars bs)) n d ≡ get_or (offsets_after c offset2 (chars rest)) n d
offset-joined before offset bs c offset2 rest n d r e =
    rw (offsets_past before offset bs c offset2 rest r, joined_of (eqb before carriage_return && eqb c line_feed) before offset c (offsets_after c offset2 (chars rest)) refl e) refl

pub offset-end : (before offset : ℕ) (bs : List ℕ) (n d : ℕ) → length bs ≡ 0 → get_or (offsets_after before offset (chars bs)) n d ≡ d
unfolding offsets_after chars
offset-end before offset [] n d e = refl
offset-end before offset (b ∷ bs) n d e = absurd (omega arith)
