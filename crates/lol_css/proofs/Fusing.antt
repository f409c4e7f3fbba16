-- To judge what is read as it is read is to read first and to judge then; and one round of each loop.
use Rattle.std.proofs.Common.{◌≡◌, ℕ, zero, suc, ◌+◌, ◌-◌, ◌<◌, ◌≤◌, Bool, true, false, cond, ◌⊎◌, inl, inr, List, [], ◌∷◌, length, drop, Option, Some, None, Ok, Err, refl, sym, ap, ◌∙◌, arith, length-drop}
use Rattle.std.specs.Option.{option_map}
use Rattle.std.specs.Str.{byte}
use Rattle.lol_css.specs.Tokens.{Token, Delim}
use Rattle.lol_css.specs.Trees as trees
use Rattle.lol_css.specs.Drafts.{PlacedStep, DraftPart, Logical, DraftCompound, Nothing, With, DraftItem, First, Then, DraftItems, NoItems, And}
use Rattle.lol_css.specs.Rules.{Refusal, Read, refused, ◌>>=◌, giving, skip_space, Nesting, InFunction, at_end}
use Rattle.lol_css.specs.Reading.{class_name, pseudo, part, parts_at_most, more_parts, type_part, is_nothing, compound, next_step, further, item, items_at_most, list, inner_list}
use Rattle.lol_css.specs.Accepting.{judged_step, combination_part, judged_part, judged_compound, judged_item, judged}
use Rattle.lol_css.specs.Judging.{Judged, with_part, alone, with_compound, with_item, judged_parts_at_most, judged_parts, judged_further, judged_items_at_most, is_empty}
use Rattle.lol_css.specs.Views.{FailsUnlessMemory}
use Rattle.lol_css.specs.declared.selector.Combinator.{Combinator}
use Rattle.lol_css.specs.declared.selectors.logical.LogicalCombination.{LogicalCombination}
use Rattle.lol_css.specs.declared.error.SelectorError.{SelectorError}
use Rattle.lol_css.specs.declared.error.SelectorError.TheVariants as errors
use Rattle.lol_css.proofs.Shorter.{InnerLeaves, part-takes, item-leaves}
use Rattle.lol_css.proofs.Spaces.{fails}

-- ---- causes

pub fails_cases : {A : Type 0} (cause : SelectorError) (left : List Token) (read : Read A) → FailsUnlessMemory cause left read → (cause ≡ errors.Memory) ⊎ (read ≡ refused cause left)
fails_cases errors.Memory left read h = inl refl
fails_cases errors.UnexpectedToken left read h = inr h
fails_cases errors.UnexpectedEnd left read h = inr h
fails_cases errors.MissingAttributeName left read h = inr h
fails_cases errors.EmptySelector left read h = inr h
fails_cases errors.DanglingCombinator left read h = inr h
fails_cases errors.UnexpectedTokenInAttribute left read h = inr h
fails_cases errors.UnsupportedPseudoClassOrElement left read h = inr h
fails_cases errors.NestedNegation left read h = inr h
fails_cases errors.NamespacedSelector left read h = inr h
fails_cases errors.InvalidClassName left read h = inr h
fails_cases errors.EmptyNegation left read h = inr h
fails_cases (errors.UnsupportedCombinator c) left read h = inr h
fails_cases errors.UnsupportedSyntax left read h = inr h

memory_fails : {A : Type 0} (cause : SelectorError) (left : List Token) (read : Read A) → cause ≡ errors.Memory → FailsUnlessMemory cause left read
memory_fails cause left read e = rw e tt

fails_on : {A B : Type 0} (cause : SelectorError) (left : List Token) (read : Read A) (total : Read B) → (read ≡ refused cause left → total ≡ refused cause left) → (cause ≡ errors.Memory) ⊎ (read ≡ refused cause left) → FailsUnlessMemory cause left total
fails_on cause left read total h (inl e) = memory_fails cause left total e
fails_on cause left read total h (inr e) = fails cause left total (h e)

-- what fails where this fails
pub fails-along : {A B : Type 0} (cause : SelectorError) (left : List Token) (read : Read A) (total : Read B) → (read ≡ refused cause left → total ≡ refused cause left) → FailsUnlessMemory cause left read → FailsUnlessMemory cause left total
fails-along cause left read total h f = fails_on cause left read total h (fails_cases cause left read f)

-- ---- what is changed as it is read

-- what was read before the change
pub record From {A B : Type 0} (f : A → B) (read : Read A) (y : B) (rest : List Token) : Type 0 where
  pub x : A
  pub is : read ≡ Ok (x, rest)
  pub gives : f x ≡ y

pub giving-ok : {A B : Type 0} (f : A → B) (read : Read A) (y : B) (rest : List Token) → giving f read ≡ Ok (y, rest) → From f read y rest
giving-ok {A} {B} f (Ok p) y rest e =
    let l : B × List Token = (f p.0, p.1) in
    let r : B × List Token = (y, rest) in
    let same : l ≡ r = cc in
    let second : p.1 ≡ rest = ap (λ (t : B × List Token). t.1) same in
    record {
      x = p.0;
      is = ap (λ (t : List Token). Ok (p.0, t)) second;
      gives = ap (λ (t : B × List Token). t.0) same;
    }
giving-ok f (Err refusal) y rest e = absurd cc

pub giving-err : {A B : Type 0} (f : A → B) (read : Read A) (cause : SelectorError) (left : List Token) → giving f read ≡ refused cause left → read ≡ refused cause left
giving-err f (Ok p) cause left e = absurd cc
giving-err f (Err other) cause left e = let same : other ≡ record { cause = cause; left = left } = cc in ap (λ (r : Refusal). Err r) same

pub giving-then : {A B C : Type 0} (f : B → C) (read : Read A) (g : A × List Token → Read B) → giving f (read >>= g) ≡ (read >>= λ x. giving f (g x))
giving-then f (Ok p) g = refl
giving-then f (Err refusal) g = refl

then-same : {A B : Type 0} (read : Read A) (f g : A × List Token → Read B) → ((x : A) (rest : List Token) → read ≡ Ok (x, rest) → f (x, rest) ≡ g (x, rest)) → (read >>= f) ≡ (read >>= g)
then-same (Ok p) f g h = h p.0 p.1 refl
then-same (Err refusal) f g h = refl

option_same : {A X : Type 0} (o : Option X) (none none2 : A) (found found2 : X → A) → (o ≡ None → none ≡ none2) → ((x : X) → o ≡ Some x → found x ≡ found2 x) → (let l : A = elim o [ None ↦ none | Some x ↦ found x ] in let r : A = elim o [ None ↦ none2 | Some x ↦ found2 x ] in l ≡ r)
option_same None none none2 found found2 p q = p refl
option_same (Some x) none none2 found found2 p q = q x refl

giving-option : {A B X : Type 0} (f : A → B) (o : Option X) (none : Read A) (found : X → Read A) → giving f (elim o [ None ↦ none | Some x ↦ found x ]) ≡ elim o [ None ↦ giving f none | Some x ↦ giving f (found x) ]
giving-option f None none found = refl
giving-option f (Some x) none found = refl

-- ---- parts

pub parts-fused : (n : ℕ) (inner : List Token → Read DraftItems) (nesting : Nesting) (parts : DraftCompound) (tokens : List Token) → giving judged_compound (parts_at_most n inner nesting parts tokens) ≡ judged_parts_at_most n inner nesting (judged_compound parts) tokens
unfolding parts_at_most judged_parts_at_most judged_compound
parts-fused zero inner nesting parts tokens = refl
parts-fused (suc n) inner nesting parts tokens =
    giving-then judged_compound (part inner nesting tokens) (λ x. elim x.0 [ None ↦ Ok (parts, x.1) | Some found ↦ parts_at_most n inner nesting (With parts found) x.1 ])
    ∙ then-same (part inner nesting tokens) _ _ (λ x rest e. giving-option judged_compound x (Ok (parts, rest)) (λ found. parts_at_most n inner nesting (With parts found) rest) ∙ option_same x _ _ _ _ (λ h. refl) (λ found h. parts-fused n inner nesting (With parts found) rest))

-- more rounds than tokens change nothing
parts_enough : (m n : ℕ) (inner : List Token → Read DraftItems) → InnerLeaves inner → (nesting : Nesting) (parts : Judged trees.WrittenCompound) (tokens : List Token) → length tokens ≤ m → length tokens ≤ n → judged_parts_at_most m inner nesting parts tokens ≡ judged_parts_at_most n inner nesting parts tokens
unfolding judged_parts_at_most part
parts_enough zero zero inner h nesting parts tokens a b = refl
parts_enough zero (suc n) inner h nesting parts [] a b = refl
parts_enough zero (suc n) inner h nesting parts (token ∷ tokens) a b = absurd (omega arith)
parts_enough (suc m) zero inner h nesting parts [] a b = refl
parts_enough (suc m) zero inner h nesting parts (token ∷ tokens) a b = absurd (omega arith)
parts_enough (suc m) (suc n) inner h nesting parts tokens a b =
    then-same (part inner nesting tokens) _ _ (λ x rest e. option_same x _ _ _ _ (λ none. refl)
    (λ found is.
    let taken : part inner nesting tokens ≡ Ok (Some found, rest) = e ∙ ap (λ (o : Option DraftPart). Ok (o, rest)) is in
    parts_enough m n inner h nesting (with_part parts (judged_part found)) rest (omega (arith, (part-takes inner h nesting tokens).taken found rest taken)) (omega (arith, (part-takes inner h nesting tokens).taken found rest taken))))

parts_goes_on_of : (n : ℕ) (inner : List Token → Read DraftItems) → InnerLeaves inner → (nesting : Nesting) (parts : Judged trees.WrittenCompound) (tokens : List Token) (found : DraftPart) (rest : List Token) → n ≡ length tokens → part inner nesting tokens ≡ Ok (Some found, rest) → judged_parts_at_most n inner nesting parts tokens ≡ judged_parts inner nesting (with_part parts (judged_part found)) rest
unfolding judged_parts_at_most
parts_goes_on_of zero inner h nesting parts tokens found rest l e = absurd (omega (arith, (part-takes inner h nesting tokens).taken found rest e))
parts_goes_on_of (suc n) inner h nesting parts tokens found rest l e =
    rw e (parts_enough n (length rest) inner h nesting (with_part parts (judged_part found)) rest (omega (arith, (part-takes inner h nesting tokens).taken found rest e)) (omega arith))

-- a part was read
pub record PartRead (inner : List Token → Read DraftItems) (nesting : Nesting) (parts : Judged trees.WrittenCompound) (tokens : List Token) (found : Judged trees.Part) (rest : List Token) : Type 0 where
  pub same : judged_parts inner nesting parts tokens ≡ judged_parts inner nesting (with_part parts found) rest
  pub shorter : length rest < length tokens

part_read_of : (o : Option DraftPart) (inner : List Token → Read DraftItems) → InnerLeaves inner → (nesting : Nesting) (parts : Judged trees.WrittenCompound) (tokens : List Token) (found : Judged trees.Part) (rest : List Token) → part inner nesting tokens ≡ Ok (o, rest) → option_map judged_part o ≡ Some found → PartRead inner nesting parts tokens found rest
part_read_of None inner h nesting parts tokens found rest e g = absurd cc
part_read_of (Some draft) inner h nesting parts tokens found rest e g =
    let same : judged_part draft ≡ found = cc in
    record {
      same = parts_goes_on_of (length tokens) inner h nesting parts tokens draft rest refl e ∙ ap (λ (p : Judged trees.Part). judged_parts inner nesting (with_part parts p) rest) same;
      shorter = (part-takes inner h nesting tokens).taken draft rest e;
    }

pub part-read : (inner : List Token → Read DraftItems) → InnerLeaves inner → (nesting : Nesting) (parts : Judged trees.WrittenCompound) (tokens : List Token) (found : Judged trees.Part) (rest : List Token) → giving (option_map judged_part) (part inner nesting tokens) ≡ Ok (Some found, rest) → PartRead inner nesting parts tokens found rest
part-read inner h nesting parts tokens found rest e =
    let f = giving-ok (option_map judged_part) (part inner nesting tokens) (Some found) rest e in
    part_read_of f.x inner h nesting parts tokens found rest f.is f.gives

parts_stop_of : (n : ℕ) (inner : List Token → Read DraftItems) (nesting : Nesting) (parts : Judged trees.WrittenCompound) (tokens rest : List Token) → n ≡ length tokens → part inner nesting tokens ≡ Ok (None, rest) → judged_parts_at_most n inner nesting parts tokens ≡ Ok (parts, rest)
unfolding judged_parts_at_most part
parts_stop_of zero inner nesting parts [] rest l e =
    let p : Option DraftPart × List Token = (None, []) in
    let q : Option DraftPart × List Token = (None, rest) in
    let same : p ≡ q = cc in
    ap (λ (t : Option DraftPart × List Token). Ok (parts, t.1)) same
parts_stop_of zero inner nesting parts (token ∷ tokens) rest l e = absurd (omega arith)
parts_stop_of (suc n) inner nesting parts tokens rest l e = rw e refl

none_same : (o : Option DraftPart) → option_map judged_part o ≡ None → o ≡ None
none_same None e = refl
none_same (Some x) e = absurd cc

-- no further part begins
pub parts-stop : (inner : List Token → Read DraftItems) (nesting : Nesting) (parts : Judged trees.WrittenCompound) (tokens rest : List Token) → giving (option_map judged_part) (part inner nesting tokens) ≡ Ok (None, rest) → judged_parts inner nesting parts tokens ≡ Ok (parts, rest)
parts-stop inner nesting parts tokens rest e =
    let f = giving-ok (option_map judged_part) (part inner nesting tokens) None rest e in
    let nothing = none_same f.x f.gives in
    parts_stop_of (length tokens) inner nesting parts tokens rest refl (f.is ∙ ap (λ (o : Option DraftPart). Ok (o, rest)) nothing)

parts_err_of : (n : ℕ) (inner : List Token → Read DraftItems) (nesting : Nesting) (parts : Judged trees.WrittenCompound) (tokens : List Token) (cause : SelectorError) (left : List Token) → n ≡ length tokens → part inner nesting tokens ≡ refused cause left → judged_parts_at_most n inner nesting parts tokens ≡ refused cause left
unfolding judged_parts_at_most part
parts_err_of zero inner nesting parts [] cause left l e = absurd cc
parts_err_of zero inner nesting parts (token ∷ tokens) cause left l e = absurd (omega arith)
parts_err_of (suc n) inner nesting parts tokens cause left l e = rw e refl

pub parts-fail : (inner : List Token → Read DraftItems) (nesting : Nesting) (parts : Judged trees.WrittenCompound) (tokens : List Token) (cause : SelectorError) (left : List Token) → FailsUnlessMemory cause left (giving (option_map judged_part) (part inner nesting tokens)) → FailsUnlessMemory cause left (judged_parts inner nesting parts tokens)
parts-fail inner nesting parts tokens cause left h =
    fails-along cause left (giving (option_map judged_part) (part inner nesting tokens)) (judged_parts inner nesting parts tokens) (λ e. parts_err_of (length tokens) inner nesting parts tokens cause left refl (giving-err (option_map judged_part) (part inner nesting tokens) cause left e)) h

-- ---- compounds

nothing_judged_of : (front : Judged trees.WrittenCompound) (part : Judged trees.Part) → is_empty (with_part front part) ≡ false
nothing_judged_of (Ok parts) (Ok last) = refl
nothing_judged_of (Ok parts) (Err cause) = refl
nothing_judged_of (Err cause) part = refl

nothing_judged : (parts : DraftCompound) → is_nothing parts ≡ is_empty (judged_compound parts)
unfolding judged_compound
nothing_judged Nothing = refl
nothing_judged (With front last) = sym (nothing_judged_of (judged_compound front) (judged_part last))

-- a compound that reads nothing is refused
abbrev pub not_empty : SelectorError → Read (Judged trees.WrittenCompound) → Read (Judged trees.WrittenCompound)
not_empty empty parts = parts >>= λ x. cond (is_empty x.0) (refused empty x.1) (Ok x)

empty_same : (b : Bool) (empty : SelectorError) (parts : DraftCompound) (rest : List Token) → giving judged_compound (cond b (refused empty rest) (Ok (parts, rest))) ≡ cond b (refused empty rest) (Ok (judged_compound parts, rest))
empty_same true empty parts rest = refl
empty_same false empty parts rest = refl

not_empty_fused : (empty : SelectorError) (read : Read DraftCompound) → giving judged_compound (read >>= λ parts. cond (is_nothing parts.0) (refused empty parts.1) (Ok parts)) ≡ not_empty empty (giving judged_compound read)
not_empty_fused empty (Ok p) = empty_same (is_nothing p.0) empty p.0 p.1 ∙ ap (λ (b : Bool). cond {A = Read (Judged trees.WrittenCompound)} b (refused empty p.1) (Ok (judged_compound p.0, p.1))) (nothing_judged p.0)
not_empty_fused empty (Err refusal) = refl

compound_of_start : (o : Option DraftCompound) (inner : List Token → Read DraftItems) (nesting : Nesting) (empty : SelectorError) (tokens : List Token) (start : trees.WrittenCompound) (rest : List Token) → type_part nesting tokens ≡ Ok (o, rest) → option_map judged_compound o ≡ Some (Ok start) → giving judged_compound (compound inner nesting empty tokens) ≡ not_empty empty (judged_parts inner nesting (Ok start) rest)
unfolding compound
compound_of_start None inner nesting empty tokens start rest e g = absurd cc
compound_of_start (Some draft) inner nesting empty tokens start rest e g =
    let same : judged_compound draft ≡ Ok start = cc in
    rw e (not_empty_fused empty (more_parts inner nesting draft rest) ∙ ap (λ (r : Read (Judged trees.WrittenCompound)). not_empty empty r) (parts-fused (length rest) inner nesting draft rest ∙ ap (λ (j : Judged trees.WrittenCompound). judged_parts inner nesting j rest) same))

-- after its type part
pub compound-starts : (inner : List Token → Read DraftItems) (nesting : Nesting) (empty : SelectorError) (tokens : List Token) (start : trees.WrittenCompound) (rest : List Token) → giving (option_map judged_compound) (type_part nesting tokens) ≡ Ok (Some (Ok start), rest) → giving judged_compound (compound inner nesting empty tokens) ≡ not_empty empty (judged_parts inner nesting (Ok start) rest)
compound-starts inner nesting empty tokens start rest e =
    let f = giving-ok (option_map judged_compound) (type_part nesting tokens) (Some (Ok start)) rest e in
    compound_of_start f.x inner nesting empty tokens start rest f.is f.gives

compound_of_none : (o : Option DraftCompound) (inner : List Token → Read DraftItems) (nesting : Nesting) (empty : SelectorError) (tokens rest : List Token) → type_part nesting tokens ≡ Ok (o, rest) → option_map judged_compound o ≡ None → giving judged_compound (compound inner nesting empty tokens) ≡ refused empty rest
unfolding compound
compound_of_none None inner nesting empty tokens rest e g = rw e refl
compound_of_none (Some draft) inner nesting empty tokens rest e g = absurd cc

-- where a bar ends the item
pub compound-none : (inner : List Token → Read DraftItems) (nesting : Nesting) (empty : SelectorError) (tokens rest : List Token) → giving (option_map judged_compound) (type_part nesting tokens) ≡ Ok (None, rest) → giving judged_compound (compound inner nesting empty tokens) ≡ refused empty rest
compound-none inner nesting empty tokens rest e =
    let f = giving-ok (option_map judged_compound) (type_part nesting tokens) None rest e in
    compound_of_none f.x inner nesting empty tokens rest f.is f.gives

compound_err : (inner : List Token → Read DraftItems) (nesting : Nesting) (empty : SelectorError) (tokens : List Token) (cause : SelectorError) (left : List Token) → type_part nesting tokens ≡ refused cause left → giving judged_compound (compound inner nesting empty tokens) ≡ refused cause left
unfolding compound
compound_err inner nesting empty tokens cause left e = rw e refl

pub compound-fails : (inner : List Token → Read DraftItems) (nesting : Nesting) (empty : SelectorError) (tokens : List Token) (cause : SelectorError) (left : List Token) → FailsUnlessMemory cause left (giving (option_map judged_compound) (type_part nesting tokens)) → FailsUnlessMemory cause left (giving judged_compound (compound inner nesting empty tokens))
compound-fails inner nesting empty tokens cause left h =
    fails-along cause left (giving (option_map judged_compound) (type_part nesting tokens)) (giving judged_compound (compound inner nesting empty tokens)) (λ e. compound_err inner nesting empty tokens cause left (giving-err (option_map judged_compound) (type_part nesting tokens) cause left e)) h

-- ---- items

further_fused : (room : ℕ) (inner : List Token → Read DraftItems) (nesting : Nesting) (inside : Bool) (front : DraftItem) (tokens : List Token) → giving (judged_item inside) (further room inner nesting front tokens) ≡ judged_further room inner nesting inside (judged_item inside front) tokens
unfolding further judged_further judged_item
further_fused zero inner nesting inside front tokens =
    giving-then (judged_item inside) (next_step nesting tokens) (λ found. elim found.0 [ None ↦ Ok (front, found.1) | Some step ↦ refused errors.UnsupportedSyntax found.1 ])
    ∙ then-same (next_step nesting tokens) _ _ (λ found rest e. giving-option (judged_item inside) found (Ok (front, rest)) (λ step. refused errors.UnsupportedSyntax rest))
further_fused (suc room) inner nesting inside front tokens =
    giving-then (judged_item inside) (next_step nesting tokens) (λ found. elim found.0 [ None ↦ Ok (front, found.1) | Some step ↦ compound inner nesting errors.DanglingCombinator found.1 >>= λ next. further room inner nesting (Then front step next.0) next.1 ])
    ∙ then-same (next_step nesting tokens) _ _ (λ found rest e.
    giving-option (judged_item inside) found (Ok (front, rest)) (λ step. compound inner nesting errors.DanglingCombinator rest >>= λ next. further room inner nesting (Then front step next.0) next.1)
    ∙ option_same found _ _ _ _ (λ h. refl)
    (λ step h.
    giving-then (judged_item inside) (compound inner nesting errors.DanglingCombinator rest) (λ next. further room inner nesting (Then front step next.0) next.1)
    ∙ then-same (compound inner nesting errors.DanglingCombinator rest) _ _ (λ next rest2 e2. further_fused room inner nesting inside (Then front step next) rest2)))

item_starts_of : (inner : List Token → Read DraftItems) (nesting : Nesting) (inside : Bool) (tokens : List Token) (draft : DraftCompound) (first : Judged trees.WrittenCompound) (rest : List Token) → compound inner nesting errors.EmptySelector (skip_space tokens) ≡ Ok (draft, rest) → judged_compound draft ≡ first → giving (judged_item inside) (item inner nesting tokens) ≡ judged_further 1023 inner nesting inside (alone first) rest
unfolding item judged_item
item_starts_of inner nesting inside tokens draft first rest e g =
    rw e (further_fused 1023 inner nesting inside (First draft) rest ∙ ap (λ (j : Judged trees.WrittenCompound). judged_further 1023 inner nesting inside (alone j) rest) g)

-- after its first compound
pub item-starts : (inner : List Token → Read DraftItems) (nesting : Nesting) (inside : Bool) (tokens : List Token) (first : Judged trees.WrittenCompound) (rest : List Token) → giving judged_compound (compound inner nesting errors.EmptySelector (skip_space tokens)) ≡ Ok (first, rest) → giving (judged_item inside) (item inner nesting tokens) ≡ judged_further 1023 inner nesting inside (alone first) rest
item-starts inner nesting inside tokens first rest e =
    let f = giving-ok judged_compound (compound inner nesting errors.EmptySelector (skip_space tokens)) first rest e in
    item_starts_of inner nesting inside tokens f.x first rest f.is f.gives

item_err : (inner : List Token → Read DraftItems) (nesting : Nesting) (inside : Bool) (tokens : List Token) (cause : SelectorError) (left : List Token) → compound inner nesting errors.EmptySelector (skip_space tokens) ≡ refused cause left → giving (judged_item inside) (item inner nesting tokens) ≡ refused cause left
unfolding item
item_err inner nesting inside tokens cause left e = rw e refl

pub item-fails : (inner : List Token → Read DraftItems) (nesting : Nesting) (inside : Bool) (tokens : List Token) (cause : SelectorError) (left : List Token) → FailsUnlessMemory cause left (giving judged_compound (compound inner nesting errors.EmptySelector (skip_space tokens))) → FailsUnlessMemory cause left (giving (judged_item inside) (item inner nesting tokens))
item-fails inner nesting inside tokens cause left h =
    fails-along cause left (giving judged_compound (compound inner nesting errors.EmptySelector (skip_space tokens))) (giving (judged_item inside) (item inner nesting tokens)) (λ e. item_err inner nesting inside tokens cause left (giving-err judged_compound (compound inner nesting errors.EmptySelector (skip_space tokens)) cause left e)) h

no_step : (inside : Bool) (o : Option PlacedStep) → option_map (judged_step inside) o ≡ None → o ≡ None
no_step inside None e = refl
no_step inside (Some x) e = absurd cc

further_stop_of : (room : ℕ) (inner : List Token → Read DraftItems) (nesting : Nesting) (inside : Bool) (front : Judged trees.Item) (tokens rest : List Token) → next_step nesting tokens ≡ Ok (None, rest) → judged_further room inner nesting inside front tokens ≡ Ok (front, rest)
unfolding judged_further
further_stop_of zero inner nesting inside front tokens rest e = rw e refl
further_stop_of (suc room) inner nesting inside front tokens rest e = rw e refl

-- no further step
pub further-stops : (room : ℕ) (inner : List Token → Read DraftItems) (nesting : Nesting) (inside : Bool) (front : Judged trees.Item) (tokens rest : List Token) → giving (option_map (judged_step inside)) (next_step nesting tokens) ≡ Ok (None, rest) → judged_further room inner nesting inside front tokens ≡ Ok (front, rest)
further-stops room inner nesting inside front tokens rest e =
    let f = giving-ok (option_map (judged_step inside)) (next_step nesting tokens) None rest e in
    further_stop_of room inner nesting inside front tokens rest (f.is ∙ ap (λ (o : Option PlacedStep). Ok (o, rest)) (no_step inside f.x f.gives))

further_err : (room : ℕ) (inner : List Token → Read DraftItems) (nesting : Nesting) (inside : Bool) (front : Judged trees.Item) (tokens : List Token) (cause : SelectorError) (left : List Token) → next_step nesting tokens ≡ refused cause left → judged_further room inner nesting inside front tokens ≡ refused cause left
unfolding judged_further
further_err zero inner nesting inside front tokens cause left e = rw e refl
further_err (suc room) inner nesting inside front tokens cause left e = rw e refl

pub further-fails : (room : ℕ) (inner : List Token → Read DraftItems) (nesting : Nesting) (inside : Bool) (front : Judged trees.Item) (tokens : List Token) (cause : SelectorError) (left : List Token) → giving (option_map (judged_step inside)) (next_step nesting tokens) ≡ refused cause left → judged_further room inner nesting inside front tokens ≡ refused cause left
further-fails room inner nesting inside front tokens cause left e = further_err room inner nesting inside front tokens cause left (giving-err (option_map (judged_step inside)) (next_step nesting tokens) cause left e)

-- a step was read
pub record StepRead (nesting : Nesting) (inside : Bool) (tokens : List Token) (step : Judged Combinator) (rest : List Token) : Type 0 where
  pub draft : PlacedStep
  pub is : next_step nesting tokens ≡ Ok (Some draft, rest)
  pub gives : judged_step inside draft ≡ step

step_read_of : (o : Option PlacedStep) (nesting : Nesting) (inside : Bool) (tokens : List Token) (step : Judged Combinator) (rest : List Token) → next_step nesting tokens ≡ Ok (o, rest) → option_map (judged_step inside) o ≡ Some step → StepRead nesting inside tokens step rest
step_read_of None nesting inside tokens step rest e g = absurd cc
step_read_of (Some draft) nesting inside tokens step rest e g = record { draft = draft; is = e; gives = cc }

pub step-read : (nesting : Nesting) (inside : Bool) (tokens : List Token) (step : Judged Combinator) (rest : List Token) → giving (option_map (judged_step inside)) (next_step nesting tokens) ≡ Ok (Some step, rest) → StepRead nesting inside tokens step rest
step-read nesting inside tokens step rest e =
    let f = giving-ok (option_map (judged_step inside)) (next_step nesting tokens) (Some step) rest e in
    step_read_of f.x nesting inside tokens step rest f.is f.gives

-- a step too many
pub further-full : (inner : List Token → Read DraftItems) (nesting : Nesting) (inside : Bool) (front : Judged trees.Item) (tokens : List Token) (step : Judged Combinator) (rest : List Token) → StepRead nesting inside tokens step rest → judged_further 0 inner nesting inside front tokens ≡ refused errors.UnsupportedSyntax rest
unfolding judged_further
further-full inner nesting inside front tokens step rest s = rw s.is refl

further_goes_on_of : (room : ℕ) (inner : List Token → Read DraftItems) (nesting : Nesting) (inside : Bool) (front : Judged trees.Item) (tokens : List Token) (step : Judged Combinator) (rest : List Token) → StepRead nesting inside tokens step rest → (draft : DraftCompound) (next : Judged trees.WrittenCompound) (rest2 : List Token) → compound inner nesting errors.DanglingCombinator rest ≡ Ok (draft, rest2) → judged_compound draft ≡ next → judged_further (suc room) inner nesting inside front tokens ≡ judged_further room inner nesting inside (with_compound front step next) rest2
unfolding judged_further
further_goes_on_of room inner nesting inside front tokens step rest s draft next rest2 e g =
    rw (s.is, e) (ap (λ (c : Judged Combinator). judged_further room inner nesting inside (with_compound front c (judged_compound draft)) rest2) s.gives ∙ ap (λ (j : Judged trees.WrittenCompound). judged_further room inner nesting inside (with_compound front step j) rest2) g)

pub further-goes_on : (room : ℕ) (inner : List Token → Read DraftItems) (nesting : Nesting) (inside : Bool) (front : Judged trees.Item) (tokens : List Token) (step : Judged Combinator) (rest : List Token) → StepRead nesting inside tokens step rest → (next : Judged trees.WrittenCompound) (rest2 : List Token) → giving judged_compound (compound inner nesting errors.DanglingCombinator rest) ≡ Ok (next, rest2) → ¬ (room ≡ 0) → judged_further room inner nesting inside front tokens ≡ judged_further (room - 1) inner nesting inside (with_compound front step next) rest2
further-goes_on zero inner nesting inside front tokens step rest s next rest2 e h = absurd (h refl)
further-goes_on (suc room) inner nesting inside front tokens step rest s next rest2 e h =
    let f = giving-ok judged_compound (compound inner nesting errors.DanglingCombinator rest) next rest2 e in
    let less : suc room - 1 ≡ room = omega arith in
    rw less (further_goes_on_of room inner nesting inside front tokens step rest s f.x next rest2 f.is f.gives)

further_compound_err : (room : ℕ) (inner : List Token → Read DraftItems) (nesting : Nesting) (inside : Bool) (front : Judged trees.Item) (tokens : List Token) (step : Judged Combinator) (rest : List Token) → StepRead nesting inside tokens step rest → (cause : SelectorError) (left : List Token) → compound inner nesting errors.DanglingCombinator rest ≡ refused cause left → judged_further (suc room) inner nesting inside front tokens ≡ refused cause left
unfolding judged_further
further_compound_err room inner nesting inside front tokens step rest s cause left e = rw (s.is, e) refl

pub further-compound-fails : (room : ℕ) (inner : List Token → Read DraftItems) (nesting : Nesting) (inside : Bool) (front : Judged trees.Item) (tokens : List Token) (step : Judged Combinator) (rest : List Token) → StepRead nesting inside tokens step rest → (cause : SelectorError) (left : List Token) → ¬ (room ≡ 0) → FailsUnlessMemory cause left (giving judged_compound (compound inner nesting errors.DanglingCombinator rest)) → FailsUnlessMemory cause left (judged_further room inner nesting inside front tokens)
further-compound-fails zero inner nesting inside front tokens step rest s cause left n h = absurd (n refl)
further-compound-fails (suc room) inner nesting inside front tokens step rest s cause left n h =
    fails-along cause left (giving judged_compound (compound inner nesting errors.DanglingCombinator rest)) (judged_further (suc room) inner nesting inside front tokens) (λ e. further_compound_err room inner nesting inside front tokens step rest s cause left (giving-err judged_compound (compound inner nesting errors.DanglingCombinator rest) cause left e)) h

-- ---- lists

items_fused_of : (b : Bool) (inside : Bool) (items : DraftItems) (rest : List Token) (read : Read DraftItems) (total : Read (Judged trees.Items)) → giving (judged inside) read ≡ total → giving (judged inside) (cond b (Ok (items, rest)) read) ≡ cond b (Ok (judged inside items, rest)) total
items_fused_of true inside items rest read total e = refl
items_fused_of false inside items rest read total e = e

items_fused : (n : ℕ) (inner : List Token → Read DraftItems) (nesting : Nesting) (inside : Bool) (items : DraftItems) (tokens : List Token) → giving (judged inside) (items_at_most n inner nesting items tokens) ≡ judged_items_at_most n inner nesting inside (judged inside items) tokens
unfolding items_at_most judged_items_at_most judged
items_fused zero inner nesting inside items tokens = refl
items_fused (suc n) inner nesting inside items tokens =
    items_fused_of (at_end nesting tokens) inside items (drop 1 tokens) (item inner nesting (drop 1 tokens) >>= λ x. items_at_most n inner nesting (And items x.0) x.1) (item inner nesting (drop 1 tokens) >>= λ x. judged_items_at_most n inner nesting inside (with_item (judged inside items) (judged_item inside x.0)) x.1)
    (giving-then (judged inside) (item inner nesting (drop 1 tokens)) (λ x. items_at_most n inner nesting (And items x.0) x.1) ∙ then-same (item inner nesting (drop 1 tokens)) _ _ (λ x rest e. items_fused n inner nesting inside (And items x) rest))

list_starts_of : (inner : List Token → Read DraftItems) (nesting : Nesting) (inside : Bool) (tokens : List Token) (draft : DraftItem) (first : Judged trees.Item) (rest : List Token) → item inner nesting tokens ≡ Ok (draft, rest) → judged_item inside draft ≡ first → giving (judged inside) (list inner nesting tokens) ≡ judged_items_at_most (length rest + 1) inner nesting inside (with_item (Ok trees.NoItems) first) rest
unfolding list judged
list_starts_of inner nesting inside tokens draft first rest e g =
    rw e (items_fused (length rest + 1) inner nesting inside (And NoItems draft) rest ∙ ap (λ (j : Judged trees.Item). judged_items_at_most (length rest + 1) inner nesting inside (with_item (Ok trees.NoItems) j) rest) g)

-- after its first item
pub list-starts : (inner : List Token → Read DraftItems) (nesting : Nesting) (inside : Bool) (tokens : List Token) (first : Judged trees.Item) (rest : List Token) → giving (judged_item inside) (item inner nesting tokens) ≡ Ok (first, rest) → giving (judged inside) (list inner nesting tokens) ≡ judged_items_at_most (length rest + 1) inner nesting inside (with_item (Ok trees.NoItems) first) rest
list-starts inner nesting inside tokens first rest e =
    let f = giving-ok (judged_item inside) (item inner nesting tokens) first rest e in
    list_starts_of inner nesting inside tokens f.x first rest f.is f.gives

list_err : (inner : List Token → Read DraftItems) (nesting : Nesting) (inside : Bool) (tokens : List Token) (cause : SelectorError) (left : List Token) → item inner nesting tokens ≡ refused cause left → giving (judged inside) (list inner nesting tokens) ≡ refused cause left
unfolding list
list_err inner nesting inside tokens cause left e = rw e refl

then-giving : {A B C : Type 0} (f : A → B) (read : Read A) (g : B × List Token → Read C) → (giving f read >>= g) ≡ (read >>= λ x. g (f x.0, x.1))
then-giving f (Ok p) g = refl
then-giving f (Err refusal) g = refl

-- an item, and what is read after it
abbrev pub items_from : (List Token → Read DraftItems) → Nesting → Bool → Judged trees.Items → List Token → Read (Judged trees.Items)
items_from inner nesting inside items tokens =
    giving (judged_item inside) (item inner nesting tokens) >>= λ x. judged_items_at_most (length x.1 + 1) inner nesting inside (with_item items x.0) x.1

list_from_of : (inner : List Token → Read DraftItems) (nesting : Nesting) (inside : Bool) (tokens : List Token) (read : Read DraftItem) → item inner nesting tokens ≡ read → items_from inner nesting inside (Ok trees.NoItems) tokens ≡ giving (judged inside) (list inner nesting tokens)
list_from_of inner nesting inside tokens (Ok p) e = rw e (sym (list_starts_of inner nesting inside tokens p.0 (judged_item inside p.0) p.1 e refl))
list_from_of inner nesting inside tokens (Err refusal) e = rw e (sym (list_err inner nesting inside tokens refusal.cause refusal.left e))

-- a list is an item and what is read after it
pub list-from : (inner : List Token → Read DraftItems) (nesting : Nesting) (inside : Bool) (tokens : List Token) → items_from inner nesting inside (Ok trees.NoItems) tokens ≡ giving (judged inside) (list inner nesting tokens)
list-from inner nesting inside tokens = list_from_of inner nesting inside tokens (item inner nesting tokens) refl

pub items-fail : (inner : List Token → Read DraftItems) (nesting : Nesting) (inside : Bool) (items : Judged trees.Items) (tokens : List Token) (cause : SelectorError) (left : List Token) → FailsUnlessMemory cause left (giving (judged_item inside) (item inner nesting tokens)) → FailsUnlessMemory cause left (items_from inner nesting inside items tokens)
items-fail inner nesting inside items tokens cause left h =
    fails-along cause left (giving (judged_item inside) (item inner nesting tokens)) (items_from inner nesting inside items tokens) (λ e. rw e refl) h

-- more rounds than tokens change nothing
items_enough_of : (b : Bool) (items : Judged trees.Items) (rest : List Token) (l r : Read (Judged trees.Items)) → (b ≡ false → l ≡ r) → cond {A = Read (Judged trees.Items)} b (Ok (items, rest)) l ≡ cond b (Ok (items, rest)) r
items_enough_of true items rest l r h = refl
items_enough_of false items rest l r h = h refl

not_at_end : (nesting : Nesting) (tokens : List Token) → at_end nesting tokens ≡ false → 0 < length tokens
not_at_end nesting [] e = absurd cc
not_at_end nesting (token ∷ tokens) e = omega arith

items_enough : (m n : ℕ) (inner : List Token → Read DraftItems) → InnerLeaves inner → (nesting : Nesting) (inside : Bool) (items : Judged trees.Items) (tokens : List Token) → length tokens < m → length tokens < n → judged_items_at_most m inner nesting inside items tokens ≡ judged_items_at_most n inner nesting inside items tokens
unfolding judged_items_at_most
items_enough zero n inner h nesting inside items tokens a b = absurd (omega arith)
items_enough (suc m) zero inner h nesting inside items tokens a b = absurd (omega arith)
items_enough (suc m) (suc n) inner h nesting inside items tokens a b =
    items_enough_of (at_end nesting tokens) items (drop 1 tokens) _ _ (λ e.
    then-same (item inner nesting (drop 1 tokens)) _ _ (λ x rest is.
    let l = (item-leaves inner h nesting (drop 1 tokens)).left x rest is in
    items_enough m n inner h nesting inside (with_item items (judged_item inside x)) rest (omega (arith, l, length-drop 1 tokens, not_at_end nesting tokens e)) (omega (arith, l, length-drop 1 tokens, not_at_end nesting tokens e))))

items_stop_of : (n : ℕ) (inner : List Token → Read DraftItems) (nesting : Nesting) (inside : Bool) (items : Judged trees.Items) (tokens : List Token) → at_end nesting tokens ≡ true → judged_items_at_most (suc n) inner nesting inside items tokens ≡ Ok (items, drop 1 tokens)
unfolding judged_items_at_most
items_stop_of n inner nesting inside items tokens e = rw e refl

-- the last item was read
pub items-stop : (inner : List Token → Read DraftItems) (nesting : Nesting) (inside : Bool) (items : Judged trees.Items) (tokens : List Token) (found : Judged trees.Item) (rest : List Token) → giving (judged_item inside) (item inner nesting tokens) ≡ Ok (found, rest) → at_end nesting rest ≡ true → items_from inner nesting inside items tokens ≡ Ok (with_item items found, drop 1 rest)
items-stop inner nesting inside items tokens found rest g e =
    let n : length rest + 1 ≡ suc (length rest) = omega arith in
    rw g (rw n (items_stop_of (length rest) inner nesting inside (with_item items found) rest e))

items_go_on : (n : ℕ) (inner : List Token → Read DraftItems) → InnerLeaves inner → (nesting : Nesting) (inside : Bool) (items : Judged trees.Items) (tokens : List Token) → n ≡ length tokens → at_end nesting tokens ≡ false → judged_items_at_most (suc n) inner nesting inside items tokens ≡ items_from inner nesting inside items (drop 1 tokens)
unfolding judged_items_at_most
items_go_on n inner h nesting inside items tokens l e =
    rw e (then-same (item inner nesting (drop 1 tokens)) (λ x. judged_items_at_most n inner nesting inside (with_item items (judged_item inside x.0)) x.1) (λ x. judged_items_at_most (length x.1 + 1) inner nesting inside (with_item items (judged_item inside x.0)) x.1) (λ x rest is.
    let left = (item-leaves inner h nesting (drop 1 tokens)).left x rest is in
    items_enough n (length rest + 1) inner h nesting inside (with_item items (judged_item inside x)) rest (omega (arith, l, left, length-drop 1 tokens, not_at_end nesting tokens e)) (omega arith))
    ∙ sym (then-giving (judged_item inside) (item inner nesting (drop 1 tokens)) (λ x. judged_items_at_most (length x.1 + 1) inner nesting inside (with_item items x.0) x.1)))

-- an item was read, and a comma after it
pub record ItemRead (inner : List Token → Read DraftItems) (nesting : Nesting) (inside : Bool) (items : Judged trees.Items) (tokens : List Token) (found : Judged trees.Item) (rest : List Token) : Type 0 where
  pub same : items_from inner nesting inside items tokens ≡ items_from inner nesting inside (with_item items found) (drop 1 rest)
  pub shorter : length (drop 1 rest) < length tokens

pub item-read : (inner : List Token → Read DraftItems) → InnerLeaves inner → (nesting : Nesting) (inside : Bool) (items : Judged trees.Items) (tokens : List Token) (found : Judged trees.Item) (rest : List Token) → giving (judged_item inside) (item inner nesting tokens) ≡ Ok (found, rest) → at_end nesting rest ≡ false → ItemRead inner nesting inside items tokens found rest
item-read inner h nesting inside items tokens found rest g e =
    let f = giving-ok (judged_item inside) (item inner nesting tokens) found rest g in
    let left = (item-leaves inner h nesting tokens).left f.x rest f.is in
    let n : length rest + 1 ≡ suc (length rest) = omega arith in
    record {
      same = rw g (rw n (items_go_on (length rest) inner h nesting inside (with_item items found) rest refl e));
      shorter = omega (arith, left, length-drop 1 rest, not_at_end nesting rest e);
    }

pub inner_list-opens : (room : ℕ) (tokens : List Token) → ¬ (room ≡ 0) → inner_list room tokens ≡ list (inner_list (room - 1)) InFunction tokens
unfolding inner_list
inner_list-opens zero tokens h = absurd (h refl)
inner_list-opens (suc room) tokens h = let e : suc room - 1 ≡ room = omega arith in rw e refl

logical_of : (combination : LogicalCombination) (draft : DraftItems) (found : Judged trees.Items) → judged true draft ≡ found → judged_part (Logical combination draft) ≡ (found >>= λ items. Ok (combination_part combination items))
unfolding judged_part judged
logical_of combination draft found e = rw e refl

-- the list of a logical combination was read
pub logical-read : (combination : LogicalCombination) (read : Read DraftItems) (found : Judged trees.Items) (rest : List Token) → giving (judged true) read ≡ Ok (found, rest) → giving judged_part (giving (λ items. Logical combination items) read) ≡ Ok ((found >>= λ items. Ok (combination_part combination items)), rest)
logical-read combination read found rest e =
    let f = giving-ok (judged true) read found rest e in
    rw f.is (ap (λ (j : Judged trees.Part). Ok (j, rest)) (logical_of combination f.x found f.gives))

giving_err : {A B : Type 0} (f : A → B) (read : Read A) (cause : SelectorError) (left : List Token) → read ≡ refused cause left → giving f read ≡ refused cause left
giving_err f read cause left e = rw e refl

pub logical-fails : (combination : LogicalCombination) (read : Read DraftItems) (cause : SelectorError) (left : List Token) → FailsUnlessMemory cause left (giving (judged true) read) → FailsUnlessMemory cause left (giving judged_part (giving (λ items. Logical combination items) read))
logical-fails combination read cause left h =
    fails-along cause left (giving (judged true) read) (giving judged_part (giving (λ items. Logical combination items) read)) (λ e. giving_err judged_part (giving (λ items. Logical combination items) read) cause left (giving_err (λ items. Logical combination items) read cause left (giving-err (judged true) read cause left e))) h

-- ---- what the code's answers cite

pub not_empty-fails : (empty : SelectorError) (read : Read (Judged trees.WrittenCompound)) (cause : SelectorError) (left : List Token) → FailsUnlessMemory cause left read → FailsUnlessMemory cause left (not_empty empty read)
not_empty-fails empty read cause left h = fails-along cause left read (not_empty empty read) (λ e. rw e refl) h

pub not_empty-refused : (empty : SelectorError) (read : Read (Judged trees.WrittenCompound)) (parts : Judged trees.WrittenCompound) (rest : List Token) → read ≡ Ok (parts, rest) → is_empty parts ≡ true → not_empty empty read ≡ refused empty rest
not_empty-refused empty read parts rest e h = rw (e, h) refl

pub not_empty-kept : (empty : SelectorError) (read : Read (Judged trees.WrittenCompound)) (parts : Judged trees.WrittenCompound) (rest : List Token) → read ≡ Ok (parts, rest) → is_empty parts ≡ false → not_empty empty read ≡ Ok (parts, rest)
not_empty-kept empty read parts rest e h = rw (e, h) refl

part_pseudo_err : (inner : List Token → Read DraftItems) (nesting : Nesting) (rest : List Token) (cause : SelectorError) (left : List Token) → pseudo inner nesting rest ≡ refused cause left → giving (option_map judged_part) (part inner nesting (Delim (byte ":") ∷ rest)) ≡ refused cause left
unfolding part
part_pseudo_err inner nesting rest cause left e = rw e refl

pub part-pseudo-fails : (inner : List Token → Read DraftItems) (nesting : Nesting) (tokens rest : List Token) (cause : SelectorError) (left : List Token) → tokens ≡ Delim (byte ":") ∷ rest → FailsUnlessMemory cause left (giving judged_part (pseudo inner nesting rest)) → FailsUnlessMemory cause left (giving (option_map judged_part) (part inner nesting tokens))
part-pseudo-fails inner nesting tokens rest cause left e h =
    rw e (fails-along cause left (giving judged_part (pseudo inner nesting rest)) (giving (option_map judged_part) (part inner nesting (Delim (byte ":") ∷ rest))) (λ is. part_pseudo_err inner nesting rest cause left (giving-err judged_part (pseudo inner nesting rest) cause left is)) h)

part_class_err : (inner : List Token → Read DraftItems) (nesting : Nesting) (rest : List Token) (cause : SelectorError) (left : List Token) → class_name nesting rest ≡ refused cause left → giving (option_map judged_part) (part inner nesting (Delim (byte ".") ∷ rest)) ≡ refused cause left
unfolding part
part_class_err inner nesting rest cause left e = rw e refl

pub part-class-fails : (inner : List Token → Read DraftItems) (nesting : Nesting) (tokens rest : List Token) (cause : SelectorError) (left : List Token) → tokens ≡ Delim (byte ".") ∷ rest → FailsUnlessMemory cause left (giving (λ part. trees.Plain part) (class_name nesting rest)) → FailsUnlessMemory cause left (giving (option_map judged_part) (part inner nesting tokens))
part-class-fails inner nesting tokens rest cause left e h =
    rw e (fails-along cause left (giving (λ part. trees.Plain part) (class_name nesting rest)) (giving (option_map judged_part) (part inner nesting (Delim (byte ".") ∷ rest))) (λ is. part_class_err inner nesting rest cause left (giving-err (λ part. trees.Plain part) (class_name nesting rest) cause left is)) h)
