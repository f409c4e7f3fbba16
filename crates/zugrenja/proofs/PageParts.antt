-- What one part more adds to what was read of a page.
use Rattle.std.proofs.Common.{◌≡◌, ℕ, ◌+◌, ◌-◌, ◌≤◌, Bool, true, List, [], ◌∷◌, ◌++◌, Option, length, take, drop, refl, sym, subst, ◌∙◌, ap, arith, add_assoc, append_assoc, length-append, length-drop}
use Rattle.std.specs.List.{flat_map}
use Rattle.std.specs.Io.KnownBytes.{Appends, Consumes}
use Rattle.std.proofs.KnownBytes.{Appends-trans, Consumes-trans}
use Rattle.std.proofs.lemmas.List.{append-nil, take_rest}
use Rattle.lol_program.specs.declared.ast.Ast.{Ast}
use Rattle.lol_machine.specs.Views.{selectors}
use Rattle.lol_page.specs.Pages.{fresh_page, page_tags_from}
use Rattle.lol_page.specs.PageMatches.{PageMatch, matches_told, page_matches}
use Rattle.lol_page.specs.declared.page.Page.{Page}
use Rattle.zugrenja.specs.Lines.{end_of, line_of, lines_of, page_lines}
use Rattle.zugrenja.specs.PageReadings.{matches_in, told_nothing}
use Rattle.zugrenja.specs.declared.lines.Style.{Style}

-- 1. Lines

pub lines-append : {X : Type 0} (f : X → List ℕ) (xs ys : List X) → flat_map f (xs ++ ys) ≡ flat_map f xs ++ flat_map f ys
lines-append f [] ys = refl
lines-append f (x ∷ xs) ys = ap (λ (l : List ℕ). f x ++ l) (lines-append f xs ys) ∙ sym (append_assoc (f x) (flat_map f xs) (flat_map f ys))

pub lines_added : (style : Style) (t0 t1 t2 : List ℕ) (xs ys all : List PageMatch) → t1 ≡ t0 ++ lines_of style xs → t2 ≡ t1 ++ lines_of style ys
    → all ≡ xs ++ ys → t2 ≡ t0 ++ lines_of style all
lines_added style t0 t1 t2 xs ys all before now whole =
    now ∙ ap (λ (l : List ℕ). l ++ lines_of style ys) before ∙ append_assoc t0 (lines_of style xs) (lines_of style ys)
    ∙ ap (λ (l : List ℕ). t0 ++ l) (sym (lines-append (line_of style) xs ys)) ∙ ap (λ (ms : List PageMatch). t0 ++ lines_of style ms) (sym whole)

pub lines_written : (style : Style) (a b c : Option (List ℕ)) (xs ys all : List PageMatch) → Appends a b (lines_of style xs)
    → Appends b c (lines_of style ys) → all ≡ xs ++ ys → Appends a c (lines_of style all)
lines_written style a b c xs ys all before now whole =
    subst (Appends a c) (sym (lines-append (line_of style) xs ys) ∙ ap (λ (ms : List PageMatch). lines_of style ms) (sym whole))
    (Appends-trans a b c (lines_of style xs) (lines_of style ys) before now)

pub count_added : (a b c : ℕ) (xs ys all : List PageMatch) → b ≡ a + length xs → c ≡ b + length ys → all ≡ xs ++ ys → c ≡ a + length all
count_added a b c xs ys all before now whole =
    let len : length all ≡ length xs + length ys = ap length whole ∙ length-append xs ys in
    now ∙ ap (λ (n : ℕ). n + length ys) before ∙ add_assoc a (length xs) (length ys) ∙ ap (λ (n : ℕ). a + n) (sym len)

pub part-within : (s : List ℕ) (i n : ℕ) → i ≤ length s → n ≤ length (take (length s - i) (drop i s)) → i + n ≤ length s
part-within s i n h k =
    let len : length (take (length s - i) (drop i s)) ≡ length s - i = ap length (take_rest s i) ∙ length-drop i s in omega arith

-- 2. A whole page

-- All that is written is the lines and what stands behind them.
pub page_written : (style : Style) (a b c : Option (List ℕ)) (all : List PageMatch) (count : ℕ) → Appends a b (lines_of style all)
    → Appends b c (end_of style count) → count ≡ length all → Appends a c (page_lines style all)
page_written style a b c all count lines behind counted =
    Appends-trans a b c (lines_of style all) (end_of style (length all)) lines (subst (λ (n : ℕ). Appends b c (end_of style n)) counted behind)

-- a read of nothing
pub consumed_all : (a b c : Option (List ℕ)) (bytes more : List ℕ) (taken : ℕ) → Consumes a b bytes → Consumes b c (take taken more) → taken ≡ 0
    → Consumes a c bytes
consumed_all a b c bytes more taken before now none =
    subst (Consumes a c) (append-nil bytes) (Consumes-trans a b c bytes [] before (subst (λ (n : ℕ). Consumes b c (take n more)) none now))

pub fresh_matches : (p : Page (Unit {0})) (ast : Ast) (esi decoded : Bool) (bytes : List ℕ) → p.reader.page ≡ fresh_page true decoded → p.matcher.told ≡ told_nothing ast esi
    → matches_in p bytes ≡ page_matches (selectors ast) esi true decoded bytes
fresh_matches p ast esi decoded bytes fresh told = λ i. matches_told (fresh i).decoded (told i) (page_tags_from (fresh i) bytes)
