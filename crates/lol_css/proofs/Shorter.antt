-- No rule leaves more tokens than it was given, and a part takes one.
use Rattle.std.proofs.Common.{◌≡◌, ℕ, zero, suc, ◌+◌, ◌<◌, ◌≤◌, Bool, true, false, cond, eqb, List, [], ◌∷◌, length, drop, Option, Some, None, Ok, Err, ℤ, pos, codes, refl, ap, arith, length-drop}
use Rattle.std.specs.Option.{option_map}
use Rattle.std.specs.Str.{byte}
use Rattle.lol_css.specs.Points.{first_passes, is, decimal}
use Rattle.lol_css.specs.Tokens.{Token, Numeral, sign_of, Space, Quoted, BadString, Hash, Number, Dimension, Percentage, Cdc, Function, Ident, Match, Delim}
use Rattle.lol_css.specs.Trees.{Simple, LocalName, AnyName, NoNamespace, Id, Class, Exists, Compares, Nth}
use Rattle.lol_css.specs.Drafts.{By, DraftPart, Plain, LatePseudoClass, LateNamespace, Logical, DraftCompound, Nothing, With, DraftItem, First, Then, DraftItems, NoItems, And}
use Rattle.lol_css.specs.Rules.{Refusal, Read, refused, ◌>>=◌, giving, is_delim, is_space, skip_space, Nesting, InFunction, InBrackets, closes, at_end, at_stop, required_token, block_end, says, lowercase, ident_of}
use Rattle.lol_css.specs.AnPlusB.{with_sign, integer_value, unsigned_integer, in_i32, bounded_integer, digits_of_b, after_n, is_n_and_digits, rest_of, with_step, integer, an_plus_b_of_dimension, an_plus_b_of, an_plus_b}
use Rattle.lol_css.specs.Reading.{utf8, combination_named, name_after_bar, bar_of, attribute_name, operator_of, written_value, flag_of, default_case_sensitivity, case_sensitivity, comparison, attribute, class_name, is_one_of, function_part, late_words, ident_part, pseudo, some, part, parts_at_most, more_parts, after_bar, type_part, is_nothing, compound, step_of, step, next_step, further, item, items_at_most, list, inner_list}
use Rattle.lol_css.specs.declared.syntax.tokens.Sign.{Sign}
use Rattle.lol_css.specs.declared.syntax.tokens.Sign.TheVariants.{Minus}
use Rattle.lol_css.specs.declared.error.SelectorError.{SelectorError}
use Rattle.lol_css.specs.declared.error.SelectorError.TheVariants as errors
use Rattle.lol_css.specs.declared.selector.Combinator.TheVariants.{Descendant}

-- what is left is at most so long
pub record Leaves {A : Type 0} (read : Read A) (n : ℕ) : Type 0 where
  pub left : (x : A) (rest : List Token) → read ≡ Ok (x, rest) → length rest ≤ n

ok_same : {A : Type 0} (x y : A × List Token) → (let u : Read A = Ok x in let v : Read A = Ok y in u ≡ v) → x ≡ y
ok_same x y e = cc

ok_leaves : {A : Type 0} (x : A) (rest : List Token) (n : ℕ) → length rest ≤ n → Leaves {A = A} (Ok (x, rest)) n
ok_leaves {A} x rest n l = record {
  left = λ y r e.
      let p : A × List Token = (x, rest) in
      let q : A × List Token = (y, r) in
      let same : p ≡ q = ok_same p q e in
      let s : rest ≡ r = ap (λ (t : A × List Token). t.1) same in
      rw (← s) l;
}

err_leaves : {A : Type 0} {refusal : Refusal} (n : ℕ) → Leaves {A = A} (Err refusal) n
err_leaves n = record { left = λ y r e. absurd cc }

then_leaves : {A B : Type 0} (read : Read A) (f : A × List Token → Read B) (m n : ℕ) → Leaves read m → ((x : A) (rest : List Token) → length rest ≤ m → Leaves (f (x, rest)) n) → Leaves (read >>= f) n
then_leaves (Ok p) f m n l h = h p.0 p.1 (l.left p.0 p.1 refl)
then_leaves (Err refusal) f m n l h = err_leaves n

giving_leaves : {A B : Type 0} (f : A → B) (read : Read A) (n : ℕ) → Leaves read n → Leaves (giving f read) n
giving_leaves f (Ok p) n l = ok_leaves (f p.0) p.1 n (l.left p.0 p.1 refl)
giving_leaves f (Err refusal) n l = err_leaves n

if_leaves : {A : Type 0} (b : Bool) (l r : Read A) (n : ℕ) → Leaves l n → Leaves r n → Leaves (cond b l r) n
if_leaves true l r n p q = p
if_leaves false l r n p q = q

option_leaves : {A X : Type 0} (o : Option X) (none : Read A) (found : X → Read A) (n : ℕ) → Leaves none n → ((x : X) → Leaves (found x) n) → Leaves (elim o [ None ↦ none | Some x ↦ found x ]) n
option_leaves None none found n p q = p
option_leaves (Some x) none found n p q = q x

weaker : {A : Type 0} (read : Read A) (m n : ℕ) → Leaves read m → m ≤ n → Leaves read n
weaker read m n l h = record { left = λ x rest e. omega (arith, l.left x rest e) }

-- ---- words

skip_space_of : (b : Bool) (token : Token) (tokens : List Token) → length (skip_space tokens) ≤ length tokens → length (cond b (skip_space tokens) (token ∷ tokens)) ≤ length (token ∷ tokens)
skip_space_of true token tokens h = omega arith
skip_space_of false token tokens h = omega arith

pub skip_space-shorter : (tokens : List Token) → length (skip_space tokens) ≤ length tokens
unfolding skip_space
skip_space-shorter [] = omega arith
skip_space-shorter (token ∷ tokens) = skip_space_of (is_space token) token tokens (skip_space-shorter tokens)

required_token-leaves : {A : Type 0} (nesting : Nesting) (kind : Token → Option A) (other : SelectorError) (tokens : List Token) → Leaves (required_token nesting kind other tokens) (length tokens)
unfolding required_token
required_token-leaves nesting kind other [] = err_leaves 0
required_token-leaves {A} nesting kind other (token ∷ tokens) =
    if_leaves (closes nesting token) (refused errors.UnexpectedEnd (token ∷ tokens)) (elim (kind token) [ None ↦ refused other (token ∷ tokens) | Some x ↦ Ok (x, tokens) ]) (length (token ∷ tokens)) (err_leaves (length (token ∷ tokens)))
    (option_leaves (kind token) (refused other (token ∷ tokens)) (λ (x : A). Ok (x, tokens)) (length (token ∷ tokens)) (err_leaves (length (token ∷ tokens))) (λ x. ok_leaves x tokens (length (token ∷ tokens)) (omega arith)))

-- the same after white space
required_after_space : {A : Type 0} (nesting : Nesting) (kind : Token → Option A) (other : SelectorError) (tokens : List Token) → Leaves (required_token nesting kind other (skip_space tokens)) (length tokens)
required_after_space nesting kind other tokens = weaker (required_token nesting kind other (skip_space tokens)) (length (skip_space tokens)) (length tokens) (required_token-leaves nesting kind other (skip_space tokens)) (skip_space-shorter tokens)

block_end-leaves : (nesting : Nesting) (tokens : List Token) → Leaves (block_end nesting tokens) (length tokens)
unfolding block_end
block_end-leaves nesting tokens =
    if_leaves (at_end nesting (skip_space tokens)) (Ok (tt, drop 1 (skip_space tokens))) (refused errors.UnexpectedToken (skip_space tokens)) (length tokens)
    (ok_leaves tt (drop 1 (skip_space tokens)) (length tokens) (omega (arith, length-drop 1 (skip_space tokens), skip_space-shorter tokens))) (err_leaves (length tokens))

-- ---- An+B

bounded_integer-leaves : (x : ℤ) (tokens : List Token) (n : ℕ) → length tokens ≤ n → Leaves (bounded_integer x tokens) n
unfolding bounded_integer
bounded_integer-leaves x tokens n l = if_leaves (in_i32 x) (Ok (x, drop 1 tokens)) (refused errors.UnexpectedToken tokens) n (ok_leaves x (drop 1 tokens) n (omega (arith, l, length-drop 1 tokens))) (err_leaves n)

digits_of_b-leaves : (sign : Sign) (tokens : List Token) → Leaves (digits_of_b sign tokens) (length tokens)
unfolding digits_of_b
digits_of_b-leaves sign tokens =
    then_leaves (required_token InFunction unsigned_integer errors.UnexpectedToken (skip_space tokens)) (λ digits. bounded_integer (with_sign sign digits.0) (skip_space tokens)) (length tokens) (length tokens) (required_after_space InFunction unsigned_integer errors.UnexpectedToken tokens) (λ x rest l. bounded_integer-leaves (with_sign sign x) (skip_space tokens) (length tokens) (skip_space-shorter tokens))

same_leaves : {A : Type 0} (x : A) (tokens : List Token) → Leaves {A = A} (Ok (x, tokens)) (length tokens)
same_leaves x tokens = ok_leaves x tokens (length tokens) (omega arith)

longer : {A : Type 0} (read : Read A) (token : Token) (tokens : List Token) → Leaves read (length tokens) → Leaves read (length (token ∷ tokens))
longer read token tokens l = weaker read (length tokens) (length (token ∷ tokens)) l (omega arith)

after_number-leaves : (n : Numeral) (tokens : List Token) (sign : Option Sign) → Leaves (elim sign [
  | None ↦ Ok (pos 0, Number n ∷ tokens)
  | Some c ↦ elim (integer_value n) [ None ↦ Ok (pos 0, Number n ∷ tokens) | Some b ↦ bounded_integer b (Number n ∷ tokens) ]
]) (length (Number n ∷ tokens))
after_number-leaves n tokens None = same_leaves (pos 0) (Number n ∷ tokens)
after_number-leaves n tokens (Some c) =
    option_leaves (integer_value n) (Ok (pos 0, Number n ∷ tokens)) (λ b. bounded_integer b (Number n ∷ tokens)) (length (Number n ∷ tokens)) (same_leaves (pos 0) (Number n ∷ tokens)) (λ b. bounded_integer-leaves b (Number n ∷ tokens) (length (Number n ∷ tokens)) (omega arith))

after_n-leaves : (tokens : List Token) → Leaves (after_n tokens) (length tokens)
unfolding after_n
after_n-leaves [] = same_leaves (pos 0) []
after_n-leaves (Delim c ∷ tokens) =
    option_leaves (sign_of c) (Ok (pos 0, Delim c ∷ tokens)) (λ sign. digits_of_b sign tokens) (length (Delim c ∷ tokens)) (same_leaves (pos 0) (Delim c ∷ tokens)) (λ sign. longer (digits_of_b sign tokens) (Delim c) tokens (digits_of_b-leaves sign tokens))
after_n-leaves (Number n ∷ tokens) = after_number-leaves n tokens n.sign
after_n-leaves (Space ∷ tokens) = same_leaves (pos 0) (Space ∷ tokens)
after_n-leaves (Quoted text ∷ tokens) = same_leaves (pos 0) (Quoted text ∷ tokens)
after_n-leaves (BadString ∷ tokens) = same_leaves (pos 0) (BadString ∷ tokens)
after_n-leaves (Hash name is_id ∷ tokens) = same_leaves (pos 0) (Hash name is_id ∷ tokens)
after_n-leaves (Dimension n unit ∷ tokens) = same_leaves (pos 0) (Dimension n unit ∷ tokens)
after_n-leaves (Percentage ∷ tokens) = same_leaves (pos 0) (Percentage ∷ tokens)
after_n-leaves (Cdc ∷ tokens) = same_leaves (pos 0) (Cdc ∷ tokens)
after_n-leaves (Function name ∷ tokens) = same_leaves (pos 0) (Function name ∷ tokens)
after_n-leaves (Ident name ∷ tokens) = same_leaves (pos 0) (Ident name ∷ tokens)
after_n-leaves (Match c ∷ tokens) = same_leaves (pos 0) (Match c ∷ tokens)

rest_of-leaves : (name : List ℕ) (tokens : List Token) → Leaves (rest_of name tokens) (length tokens)
unfolding rest_of
rest_of-leaves name tokens =
    let n = length tokens in
    let digits = cond (is_n_and_digits name) (bounded_integer (with_sign Minus (decimal (drop 2 name))) tokens) (refused errors.UnexpectedToken tokens) in
    if_leaves (says (codes "n") name) (after_n (skip_space (drop 1 tokens))) (cond (says (codes "n-") name) (digits_of_b Minus (drop 1 tokens)) digits) n
    (weaker (after_n (skip_space (drop 1 tokens))) (length (skip_space (drop 1 tokens))) n (after_n-leaves (skip_space (drop 1 tokens))) (omega (arith, skip_space-shorter (drop 1 tokens), length-drop 1 tokens)))
    (if_leaves (says (codes "n-") name) (digits_of_b Minus (drop 1 tokens)) digits n
    (weaker (digits_of_b Minus (drop 1 tokens)) (length (drop 1 tokens)) n (digits_of_b-leaves Minus (drop 1 tokens)) (omega (arith, length-drop 1 tokens)))
    (if_leaves (is_n_and_digits name) (bounded_integer (with_sign Minus (decimal (drop 2 name))) tokens) (refused errors.UnexpectedToken tokens) n
    (bounded_integer-leaves (with_sign Minus (decimal (drop 2 name))) tokens n (omega arith)) (err_leaves n)))

step-leaves : (a : ℤ) (name : List ℕ) (tokens : List Token) (n : ℕ) → length tokens ≤ n → Leaves (with_step a (rest_of name tokens)) n
step-leaves a name tokens n l = giving_leaves (λ x. (a, x)) (rest_of name tokens) n (weaker (rest_of name tokens) (length tokens) n (rest_of-leaves name tokens) l)

integer-leaves : (n : Numeral) (tokens : List Token) → Leaves (integer n tokens) (length tokens)
unfolding integer
integer-leaves n tokens = option_leaves (integer_value n) (refused errors.UnexpectedToken tokens) (λ x. bounded_integer x tokens) (length tokens) (err_leaves (length tokens)) (λ x. bounded_integer-leaves x tokens (length tokens) (omega arith))

an_plus_b_of_dimension-leaves : (n : Numeral) (unit : List ℕ) (tokens : List Token) → Leaves (an_plus_b_of_dimension n unit tokens) (length tokens)
unfolding an_plus_b_of_dimension
an_plus_b_of_dimension-leaves n unit tokens =
    then_leaves (integer n tokens) (λ step. with_step step.0 (rest_of unit tokens)) (length tokens) (length tokens) (integer-leaves n tokens) (λ x rest l. step-leaves x unit tokens (length tokens) (omega arith))

an_plus_b_of-leaves : (token : Token) (tokens : List Token) → Leaves (an_plus_b_of token tokens) (length tokens)
unfolding an_plus_b_of
an_plus_b_of-leaves (Ident name) tokens =
    let n = length tokens in
    let other = cond (first_passes (is (byte "-")) name) (with_step (with_sign Minus 1) (rest_of (drop 1 name) tokens)) (with_step (pos 1) (rest_of name tokens)) in
    if_leaves (says (codes "even") name) (Ok ((pos 2, pos 0), drop 1 tokens)) (cond (says (codes "odd") name) (Ok ((pos 2, pos 1), drop 1 tokens)) other) n
    (ok_leaves (pos 2, pos 0) (drop 1 tokens) n (omega (arith, length-drop 1 tokens)))
    (if_leaves (says (codes "odd") name) (Ok ((pos 2, pos 1), drop 1 tokens)) other n
    (ok_leaves (pos 2, pos 1) (drop 1 tokens) n (omega (arith, length-drop 1 tokens)))
    (if_leaves (first_passes (is (byte "-")) name) (with_step (with_sign Minus 1) (rest_of (drop 1 name) tokens)) (with_step (pos 1) (rest_of name tokens)) n
    (step-leaves (with_sign Minus 1) (drop 1 name) tokens n (omega arith)) (step-leaves (pos 1) name tokens n (omega arith))))
an_plus_b_of-leaves (Number n) tokens = giving_leaves (λ x. (pos 0, x)) (integer n tokens) (length tokens) (integer-leaves n tokens)
an_plus_b_of-leaves (Dimension n unit) tokens = an_plus_b_of_dimension-leaves n unit tokens
an_plus_b_of-leaves (Delim c) tokens =
    let n = length tokens in
    let name = required_token InFunction ident_of errors.UnexpectedToken (drop 1 tokens) in
    if_leaves (eqb c (byte "+")) (name >>= λ x. with_step (pos 1) (rest_of x.0 (drop 1 tokens))) (refused errors.UnexpectedToken tokens) n
    (then_leaves name (λ x. with_step (pos 1) (rest_of x.0 (drop 1 tokens))) (length (drop 1 tokens)) n (required_token-leaves InFunction ident_of errors.UnexpectedToken (drop 1 tokens)) (λ x rest l. step-leaves (pos 1) x (drop 1 tokens) n (omega (arith, length-drop 1 tokens)))) (err_leaves n)
an_plus_b_of-leaves Space tokens = err_leaves (length tokens)
an_plus_b_of-leaves (Quoted text) tokens = err_leaves (length tokens)
an_plus_b_of-leaves BadString tokens = err_leaves (length tokens)
an_plus_b_of-leaves (Hash name is_id) tokens = err_leaves (length tokens)
an_plus_b_of-leaves Percentage tokens = err_leaves (length tokens)
an_plus_b_of-leaves Cdc tokens = err_leaves (length tokens)
an_plus_b_of-leaves (Function name) tokens = err_leaves (length tokens)
an_plus_b_of-leaves (Match c) tokens = err_leaves (length tokens)

an_plus_b-leaves : (tokens : List Token) → Leaves (an_plus_b tokens) (length tokens)
unfolding an_plus_b
an_plus_b-leaves tokens =
    let n = length tokens in
    let from = skip_space tokens in
    then_leaves (required_token InFunction (λ t. Some t) errors.UnexpectedToken from) (λ token. an_plus_b_of token.0 from >>= λ nth. block_end InFunction nth.1 >>= λ end. Ok (nth.0, end.1)) n n (required_after_space InFunction (λ t. Some t) errors.UnexpectedToken tokens)
    (λ token rest l. then_leaves (an_plus_b_of token from) (λ nth. block_end InFunction nth.1 >>= λ end. Ok (nth.0, end.1)) n n (weaker (an_plus_b_of token from) (length from) n (an_plus_b_of-leaves token from) (skip_space-shorter tokens))
    (λ nth rest2 l2. then_leaves (block_end InFunction rest2) (λ end. Ok (nth, end.1)) n n (weaker (block_end InFunction rest2) (length rest2) n (block_end-leaves InFunction rest2) l2) (λ end rest3 l3. ok_leaves nth rest3 n l3)))

-- ---- attributes

-- a name after a bar
after_bar_name-leaves : (any : Bool) (tokens : List Token) (n : ℕ) → length tokens ≤ n → Leaves (name_after_bar any tokens) n
after_bar_name-leaves any tokens n l =
    giving_leaves (λ name. (name, any)) (required_token InBrackets ident_of errors.UnexpectedTokenInAttribute tokens) n (weaker (required_token InBrackets ident_of errors.UnexpectedTokenInAttribute tokens) (length tokens) n (required_token-leaves InBrackets ident_of errors.UnexpectedTokenInAttribute tokens) l)

attribute_name-leaves : (tokens : List Token) → Leaves (attribute_name tokens) (length tokens)
unfolding attribute_name
attribute_name-leaves [] = err_leaves 0
attribute_name-leaves (Ident name ∷ tokens) =
    if_leaves (first_passes (is_delim (byte "|")) tokens) (refused errors.NamespacedSelector tokens) (Ok ((name, false), tokens)) (length (Ident name ∷ tokens)) (err_leaves (length (Ident name ∷ tokens))) (ok_leaves (name, false) tokens (length (Ident name ∷ tokens)) (omega arith))
attribute_name-leaves (Delim c ∷ tokens) =
    let n = length (Delim c ∷ tokens) in
    let any = required_token InBrackets bar_of errors.UnexpectedTokenInAttribute tokens >>= λ bar. name_after_bar true bar.1 in
    if_leaves (eqb c (byte "]")) (refused errors.UnexpectedEnd (Delim c ∷ tokens)) (cond (eqb c (byte "|")) (name_after_bar false tokens) (cond (eqb c (byte "*")) any (refused errors.MissingAttributeName (Delim c ∷ tokens)))) n
    (err_leaves n)
    (if_leaves (eqb c (byte "|")) (name_after_bar false tokens) (cond (eqb c (byte "*")) any (refused errors.MissingAttributeName (Delim c ∷ tokens))) n
    (after_bar_name-leaves false tokens n (omega arith))
    (if_leaves (eqb c (byte "*")) any (refused errors.MissingAttributeName (Delim c ∷ tokens)) n
    (then_leaves (required_token InBrackets bar_of errors.UnexpectedTokenInAttribute tokens) (λ bar. name_after_bar true bar.1) (length tokens) n (required_token-leaves InBrackets bar_of errors.UnexpectedTokenInAttribute tokens) (λ bar rest l. after_bar_name-leaves true rest n (omega arith)))
    (err_leaves n)))
attribute_name-leaves (Space ∷ tokens) = err_leaves (length (Space ∷ tokens))
attribute_name-leaves (Quoted text ∷ tokens) = err_leaves (length (Quoted text ∷ tokens))
attribute_name-leaves (BadString ∷ tokens) = err_leaves (length (BadString ∷ tokens))
attribute_name-leaves (Hash name is_id ∷ tokens) = err_leaves (length (Hash name is_id ∷ tokens))
attribute_name-leaves (Number n ∷ tokens) = err_leaves (length (Number n ∷ tokens))
attribute_name-leaves (Dimension n unit ∷ tokens) = err_leaves (length (Dimension n unit ∷ tokens))
attribute_name-leaves (Percentage ∷ tokens) = err_leaves (length (Percentage ∷ tokens))
attribute_name-leaves (Cdc ∷ tokens) = err_leaves (length (Cdc ∷ tokens))
attribute_name-leaves (Function name ∷ tokens) = err_leaves (length (Function name ∷ tokens))
attribute_name-leaves (Match c ∷ tokens) = err_leaves (length (Match c ∷ tokens))

case_sensitivity-leaves : (name : List ℕ) (tokens : List Token) → Leaves (case_sensitivity name tokens) (length tokens)
unfolding case_sensitivity
case_sensitivity-leaves name tokens =
    let n = length tokens in
    if_leaves (at_end InBrackets tokens) (Ok (default_case_sensitivity name, drop 1 tokens)) (required_token InBrackets flag_of errors.UnexpectedToken tokens >>= λ flag. block_end InBrackets flag.1 >>= λ end. Ok (flag.0, end.1)) n
    (ok_leaves (default_case_sensitivity name) (drop 1 tokens) n (omega (arith, length-drop 1 tokens)))
    (then_leaves (required_token InBrackets flag_of errors.UnexpectedToken tokens) (λ flag. block_end InBrackets flag.1 >>= λ end. Ok (flag.0, end.1)) n n (required_token-leaves InBrackets flag_of errors.UnexpectedToken tokens)
    (λ flag rest l. then_leaves (block_end InBrackets rest) (λ end. Ok (flag, end.1)) n n (weaker (block_end InBrackets rest) (length rest) n (block_end-leaves InBrackets rest) l) (λ end rest2 l2. ok_leaves flag rest2 n l2)))

comparison-leaves : (name : List ℕ) (tokens : List Token) → Leaves (comparison name tokens) (length tokens)
unfolding comparison
comparison-leaves name tokens =
    let n = length tokens in
    let wanted_operator = required_token InBrackets operator_of errors.UnexpectedTokenInAttribute tokens in
    if_leaves (at_end InBrackets tokens) (Ok (Exists name, drop 1 tokens)) (wanted_operator >>= λ operator. required_token InBrackets written_value errors.UnexpectedTokenInAttribute (skip_space operator.1) >>= λ value. case_sensitivity name (skip_space value.1) >>= λ case. Ok (Compares name operator.0 (utf8 value.0) case.0, case.1)) n
    (ok_leaves (Exists name) (drop 1 tokens) n (omega (arith, length-drop 1 tokens)))
    (then_leaves wanted_operator (λ operator. required_token InBrackets written_value errors.UnexpectedTokenInAttribute (skip_space operator.1) >>= λ value. case_sensitivity name (skip_space value.1) >>= λ case. Ok (Compares name operator.0 (utf8 value.0) case.0, case.1)) n n (required_token-leaves InBrackets operator_of errors.UnexpectedTokenInAttribute tokens)
    (λ operator rest l. then_leaves (required_token InBrackets written_value errors.UnexpectedTokenInAttribute (skip_space rest)) (λ value. case_sensitivity name (skip_space value.1) >>= λ case. Ok (Compares name operator (utf8 value.0) case.0, case.1)) n n
    (weaker (required_token InBrackets written_value errors.UnexpectedTokenInAttribute (skip_space rest)) (length rest) n (required_after_space InBrackets written_value errors.UnexpectedTokenInAttribute rest) l)
    (λ value rest2 l2. then_leaves (case_sensitivity name (skip_space rest2)) (λ case. Ok (Compares name operator (utf8 value) case.0, case.1)) n n
    (weaker (case_sensitivity name (skip_space rest2)) (length (skip_space rest2)) n (case_sensitivity-leaves name (skip_space rest2)) (omega (arith, skip_space-shorter rest2)))
    (λ case rest3 l3. ok_leaves (Compares name operator (utf8 value) case) rest3 n l3))))

attribute-leaves : (tokens : List Token) → Leaves (attribute tokens) (length tokens)
unfolding attribute
attribute-leaves tokens =
    let n = length tokens in
    then_leaves (attribute_name (skip_space tokens)) (λ name. comparison (utf8 (lowercase name.0.0)) (skip_space name.1) >>= λ part. Ok ((cond name.0.1 (LateNamespace (skip_space tokens)) (Plain part.0)), part.1)) n n
    (weaker (attribute_name (skip_space tokens)) (length (skip_space tokens)) n (attribute_name-leaves (skip_space tokens)) (skip_space-shorter tokens))
    (λ name rest l. then_leaves (comparison (utf8 (lowercase name.0)) (skip_space rest)) (λ part. Ok ((cond name.1 (LateNamespace (skip_space tokens)) (Plain part.0)), part.1)) n n
    (weaker (comparison (utf8 (lowercase name.0)) (skip_space rest)) (length (skip_space rest)) n (comparison-leaves (utf8 (lowercase name.0)) (skip_space rest)) (omega (arith, skip_space-shorter rest)))
    (λ part rest2 l2. ok_leaves (cond name.1 (LateNamespace (skip_space tokens)) (Plain part)) rest2 n l2))

-- ---- parts

class_name-leaves : (nesting : Nesting) (tokens : List Token) → Leaves (class_name nesting tokens) (length tokens)
unfolding class_name
class_name-leaves nesting tokens =
    if_leaves (at_stop nesting tokens) (refused errors.UnexpectedEnd tokens) (giving (λ name. Class (utf8 name)) (required_token nesting ident_of errors.InvalidClassName tokens)) (length tokens) (err_leaves (length tokens))
    (giving_leaves (λ name. Class (utf8 name)) (required_token nesting ident_of errors.InvalidClassName tokens) (length tokens) (required_token-leaves nesting ident_of errors.InvalidClassName tokens))

function_part-leaves : (name : List ℕ) (tokens : List Token) → Leaves (function_part name tokens) (length tokens)
unfolding function_part
function_part-leaves name tokens =
    let n = length tokens in
    let nth = an_plus_b (drop 1 tokens) in
    let less : Leaves (an_plus_b (drop 1 tokens)) n = weaker (an_plus_b (drop 1 tokens)) (length (drop 1 tokens)) n (an_plus_b-leaves (drop 1 tokens)) (omega (arith, length-drop 1 tokens)) in
    let late = cond (is_one_of (codes "nth-last-child" ∷ codes "nth-last-of-type" ∷ []) name) (giving (λ x. LatePseudoClass tokens) nth) (refused errors.UnsupportedPseudoClassOrElement tokens) in
    if_leaves (says (codes "nth-child") name) (giving (λ x. Plain (Nth false x.0 x.1)) nth) (cond (says (codes "nth-of-type") name) (giving (λ x. Plain (Nth true x.0 x.1)) nth) late) n
    (giving_leaves (λ x. Plain (Nth false x.0 x.1)) nth n less)
    (if_leaves (says (codes "nth-of-type") name) (giving (λ x. Plain (Nth true x.0 x.1)) nth) late n
    (giving_leaves (λ x. Plain (Nth true x.0 x.1)) nth n less)
    (if_leaves (is_one_of (codes "nth-last-child" ∷ codes "nth-last-of-type" ∷ []) name) (giving (λ x. LatePseudoClass tokens) nth) (refused errors.UnsupportedPseudoClassOrElement tokens) n
    (giving_leaves (λ x. LatePseudoClass tokens) nth n less) (err_leaves n)))

ident_part-leaves : (name : List ℕ) (tokens : List Token) → Leaves (ident_part name tokens) (length tokens)
unfolding ident_part
ident_part-leaves name tokens =
    let n = length tokens in
    let less : length (drop 1 tokens) ≤ n = omega (arith, length-drop 1 tokens) in
    let late = cond (is_one_of late_words name) (Ok (LatePseudoClass tokens, drop 1 tokens)) (refused errors.UnsupportedPseudoClassOrElement tokens) in
    if_leaves (says (codes "first-child") name) (Ok (Plain (Nth false (pos 0) (pos 1)), drop 1 tokens)) (cond (says (codes "first-of-type") name) (Ok (Plain (Nth true (pos 0) (pos 1)), drop 1 tokens)) late) n
    (ok_leaves (Plain (Nth false (pos 0) (pos 1))) (drop 1 tokens) n less)
    (if_leaves (says (codes "first-of-type") name) (Ok (Plain (Nth true (pos 0) (pos 1)), drop 1 tokens)) late n
    (ok_leaves (Plain (Nth true (pos 0) (pos 1))) (drop 1 tokens) n less)
    (if_leaves (is_one_of late_words name) (Ok (LatePseudoClass tokens, drop 1 tokens)) (refused errors.UnsupportedPseudoClassOrElement tokens) n (ok_leaves (LatePseudoClass tokens) (drop 1 tokens) n less) (err_leaves n)))

-- the list of a logical combination leaves no more than it is given
pub record InnerLeaves (inner : List Token → Read DraftItems) : Type 0 where
  pub each : (tokens : List Token) → Leaves (inner tokens) (length tokens)

pseudo_of-leaves : (inner : List Token → Read DraftItems) → InnerLeaves inner → (nesting : Nesting) (token : Token) (tokens : List Token) → Leaves {A = DraftPart} (elim token [
  | Ident name ↦ ident_part name (Ident name ∷ tokens)
  | Function name ↦ elim (combination_named name) [
    | None ↦ function_part name (Function name ∷ tokens)
    | Some combination ↦ giving (Logical combination) (inner tokens)
  ]
  | Delim c ↦ cond (eqb c (byte ":")) (cond (at_stop nesting tokens) (refused errors.UnexpectedEnd tokens) (refused errors.UnsupportedPseudoClassOrElement tokens)) (refused errors.UnsupportedPseudoClassOrElement (Delim c ∷ tokens))
  | other ↦ refused errors.UnsupportedPseudoClassOrElement (other ∷ tokens)
]) (length (token ∷ tokens))
pseudo_of-leaves inner h nesting (Ident name) tokens = ident_part-leaves name (Ident name ∷ tokens)
pseudo_of-leaves inner h nesting (Function name) tokens =
    option_leaves (combination_named name) (function_part name (Function name ∷ tokens)) (λ combination. giving (λ items. Logical combination items) (inner tokens)) (length (Function name ∷ tokens))
    (function_part-leaves name (Function name ∷ tokens))
    (λ combination. giving_leaves (λ items. Logical combination items) (inner tokens) (length (Function name ∷ tokens)) (longer (inner tokens) (Function name) tokens (h.each tokens)))
pseudo_of-leaves inner h nesting (Delim c) tokens =
    let n = length (Delim c ∷ tokens) in
    let element = cond (at_stop nesting tokens) (refused errors.UnexpectedEnd tokens) (refused errors.UnsupportedPseudoClassOrElement tokens) in
    if_leaves (eqb c (byte ":")) element (refused errors.UnsupportedPseudoClassOrElement (Delim c ∷ tokens)) n
    (if_leaves (at_stop nesting tokens) (refused errors.UnexpectedEnd tokens) (refused errors.UnsupportedPseudoClassOrElement tokens) n (err_leaves n) (err_leaves n)) (err_leaves n)
pseudo_of-leaves inner h nesting Space tokens = err_leaves (length (Space ∷ tokens))
pseudo_of-leaves inner h nesting (Quoted text) tokens = err_leaves (length (Quoted text ∷ tokens))
pseudo_of-leaves inner h nesting BadString tokens = err_leaves (length (BadString ∷ tokens))
pseudo_of-leaves inner h nesting (Hash name is_id) tokens = err_leaves (length (Hash name is_id ∷ tokens))
pseudo_of-leaves inner h nesting (Number n) tokens = err_leaves (length (Number n ∷ tokens))
pseudo_of-leaves inner h nesting (Dimension n unit) tokens = err_leaves (length (Dimension n unit ∷ tokens))
pseudo_of-leaves inner h nesting Percentage tokens = err_leaves (length (Percentage ∷ tokens))
pseudo_of-leaves inner h nesting Cdc tokens = err_leaves (length (Cdc ∷ tokens))
pseudo_of-leaves inner h nesting (Match c) tokens = err_leaves (length (Match c ∷ tokens))

pseudo-leaves : (inner : List Token → Read DraftItems) → InnerLeaves inner → (nesting : Nesting) (tokens : List Token) → Leaves (pseudo inner nesting tokens) (length tokens)
unfolding pseudo
pseudo-leaves inner h nesting [] = err_leaves 0
pseudo-leaves inner h nesting (token ∷ tokens) =
    if_leaves (at_stop nesting (token ∷ tokens)) (refused errors.UnexpectedEnd (token ∷ tokens)) _ (length (token ∷ tokens)) (err_leaves (length (token ∷ tokens))) (pseudo_of-leaves inner h nesting token tokens)

-- where a part was read, a token was
pub record Takes (read : Read (Option DraftPart)) (n : ℕ) : Type 0 where
  pub all : (rest : List Token) → read ≡ Ok (None, rest) → length rest ≤ n
  pub taken : (found : DraftPart) (rest : List Token) → read ≡ Ok (Some found, rest) → length rest < n

nothing_takes : (tokens : List Token) → Takes (Ok (None, tokens)) (length tokens)
nothing_takes tokens = record {
  all = λ rest e. let l = (ok_leaves {A = Option DraftPart} None tokens (length tokens) (omega arith)).left None rest e in l;
  taken = λ found rest e.
      let nothing : Option DraftPart = None in
      let p : Option DraftPart × List Token = (nothing, tokens) in
      let q : Option DraftPart × List Token = (Some found, rest) in
      let same : p ≡ q = ok_same p q e in
      let s : nothing ≡ Some found = ap (λ (t : Option DraftPart × List Token). t.0) same in
      absurd cc;
}

-- after a token
some_takes : {A : Type 0} (f : A → DraftPart) (read : Read A) (token : Token) (tokens : List Token) → Leaves read (length tokens) → Takes (giving (λ found. some (f found)) read) (length (token ∷ tokens))
some_takes f read token tokens l = record {
  all = λ rest e. omega (arith, (giving_leaves (λ found. some (f found)) read (length tokens) l).left None rest e);
  taken = λ found rest e. omega (arith, (giving_leaves (λ x. some (f x)) read (length tokens) l).left (some found) rest e);
}

if_takes : (b : Bool) (l r : Read (Option DraftPart)) (n : ℕ) → Takes l n → Takes r n → Takes (cond b l r) n
if_takes true l r n p q = p
if_takes false l r n p q = q

pub part-takes : (inner : List Token → Read DraftItems) → InnerLeaves inner → (nesting : Nesting) (tokens : List Token) → Takes (part inner nesting tokens) (length tokens)
unfolding part
part-takes inner h nesting [] = nothing_takes []
part-takes inner h nesting (Hash name is_id ∷ tokens) =
    if_takes is_id (Ok (some (Plain (Id (utf8 name))), tokens)) (Ok (None, Hash name is_id ∷ tokens)) (length (Hash name is_id ∷ tokens))
    (some_takes (λ (s : Simple). Plain s) (Ok (Id (utf8 name), tokens)) (Hash name is_id) tokens (same_leaves (Id (utf8 name)) tokens))
    (nothing_takes (Hash name is_id ∷ tokens))
part-takes inner h nesting (Delim c ∷ tokens) =
    let n = length (Delim c ∷ tokens) in
    if_takes (eqb c (byte ".")) (giving (λ found. some (Plain found)) (class_name nesting tokens)) (cond (eqb c (byte "[")) (giving some (attribute tokens)) (cond (eqb c (byte ":")) (giving some (pseudo inner nesting tokens)) (Ok (None, Delim c ∷ tokens)))) n
    (some_takes (λ (s : Simple). Plain s) (class_name nesting tokens) (Delim c) tokens (class_name-leaves nesting tokens))
    (if_takes (eqb c (byte "[")) (giving some (attribute tokens)) (cond (eqb c (byte ":")) (giving some (pseudo inner nesting tokens)) (Ok (None, Delim c ∷ tokens))) n
    (some_takes (λ (p : DraftPart). p) (attribute tokens) (Delim c) tokens (attribute-leaves tokens))
    (if_takes (eqb c (byte ":")) (giving some (pseudo inner nesting tokens)) (Ok (None, Delim c ∷ tokens)) n
    (some_takes (λ (p : DraftPart). p) (pseudo inner nesting tokens) (Delim c) tokens (pseudo-leaves inner h nesting tokens)) (nothing_takes (Delim c ∷ tokens))))
part-takes inner h nesting (Space ∷ tokens) = nothing_takes (Space ∷ tokens)
part-takes inner h nesting (Quoted text ∷ tokens) = nothing_takes (Quoted text ∷ tokens)
part-takes inner h nesting (BadString ∷ tokens) = nothing_takes (BadString ∷ tokens)
part-takes inner h nesting (Number n ∷ tokens) = nothing_takes (Number n ∷ tokens)
part-takes inner h nesting (Dimension n unit ∷ tokens) = nothing_takes (Dimension n unit ∷ tokens)
part-takes inner h nesting (Percentage ∷ tokens) = nothing_takes (Percentage ∷ tokens)
part-takes inner h nesting (Cdc ∷ tokens) = nothing_takes (Cdc ∷ tokens)
part-takes inner h nesting (Function name ∷ tokens) = nothing_takes (Function name ∷ tokens)
part-takes inner h nesting (Ident name ∷ tokens) = nothing_takes (Ident name ∷ tokens)
part-takes inner h nesting (Match c ∷ tokens) = nothing_takes (Match c ∷ tokens)

-- ---- compounds, items and lists

-- a part that may be there
part_leaves : (read : Read (Option DraftPart)) (n : ℕ) → Takes read n → Leaves read n
part_leaves read n t = record { left = λ x rest e. cases x rest e }
  where
    cases : (x : Option DraftPart) (rest : List Token) → read ≡ Ok (x, rest) → length rest ≤ n
    cases None rest e = t.all rest e
    cases (Some found) rest e = omega (arith, t.taken found rest e)

parts-leaves : (n : ℕ) (inner : List Token → Read DraftItems) → InnerLeaves inner → (nesting : Nesting) (parts : DraftCompound) (tokens : List Token) → Leaves (parts_at_most n inner nesting parts tokens) (length tokens)
unfolding parts_at_most
parts-leaves zero inner h nesting parts tokens = same_leaves parts tokens
parts-leaves (suc n) inner h nesting parts tokens =
    then_leaves (part inner nesting tokens) (λ x. elim x.0 [ None ↦ Ok (parts, x.1) | Some found ↦ parts_at_most n inner nesting (With parts found) x.1 ]) (length tokens) (length tokens) (part_leaves (part inner nesting tokens) (length tokens) (part-takes inner h nesting tokens))
    (λ x rest l. option_leaves x (Ok (parts, rest)) (λ found. parts_at_most n inner nesting (With parts found) rest) (length tokens) (ok_leaves parts rest (length tokens) l)
    (λ found. weaker (parts_at_most n inner nesting (With parts found) rest) (length rest) (length tokens) (parts-leaves n inner h nesting (With parts found) rest) l))

after_bar_of-leaves : (token : Token) (tokens : List Token) → Leaves {A = Option Simple} (elim token [
  | Ident name ↦ Ok (Some (LocalName (utf8 name)), tokens)
  | Delim c ↦ cond (eqb c (byte "*")) (Ok (Some AnyName, tokens)) (refused errors.UnexpectedToken (Delim c ∷ tokens))
  | other ↦ refused errors.UnexpectedToken (other ∷ tokens)
]) (length (token ∷ tokens))
after_bar_of-leaves (Ident name) tokens = ok_leaves (Some (LocalName (utf8 name))) tokens (length (Ident name ∷ tokens)) (omega arith)
after_bar_of-leaves (Delim c) tokens =
    if_leaves (eqb c (byte "*")) (Ok (Some AnyName, tokens)) (refused errors.UnexpectedToken (Delim c ∷ tokens)) (length (Delim c ∷ tokens)) (ok_leaves (Some AnyName) tokens (length (Delim c ∷ tokens)) (omega arith)) (err_leaves (length (Delim c ∷ tokens)))
after_bar_of-leaves Space tokens = err_leaves (length (Space ∷ tokens))
after_bar_of-leaves (Quoted text) tokens = err_leaves (length (Quoted text ∷ tokens))
after_bar_of-leaves BadString tokens = err_leaves (length (BadString ∷ tokens))
after_bar_of-leaves (Hash name is_id) tokens = err_leaves (length (Hash name is_id ∷ tokens))
after_bar_of-leaves (Number n) tokens = err_leaves (length (Number n ∷ tokens))
after_bar_of-leaves (Dimension n unit) tokens = err_leaves (length (Dimension n unit ∷ tokens))
after_bar_of-leaves Percentage tokens = err_leaves (length (Percentage ∷ tokens))
after_bar_of-leaves Cdc tokens = err_leaves (length (Cdc ∷ tokens))
after_bar_of-leaves (Function name) tokens = err_leaves (length (Function name ∷ tokens))
after_bar_of-leaves (Match c) tokens = err_leaves (length (Match c ∷ tokens))

after_bar-leaves : (nesting : Nesting) (tokens : List Token) → Leaves (after_bar nesting tokens) (length tokens)
unfolding after_bar
after_bar-leaves nesting [] = same_leaves None []
after_bar-leaves nesting (token ∷ tokens) =
    if_leaves (at_stop nesting (token ∷ tokens)) (Ok (None, token ∷ tokens)) _ (length (token ∷ tokens)) (same_leaves None (token ∷ tokens)) (after_bar_of-leaves token tokens)

type_part-leaves : (nesting : Nesting) (tokens : List Token) → Leaves (type_part nesting tokens) (length tokens)
unfolding type_part
type_part-leaves nesting [] = same_leaves (Some Nothing) []
type_part-leaves nesting (Ident name ∷ tokens) =
    if_leaves (first_passes (is_delim (byte "|")) tokens) (refused errors.NamespacedSelector tokens) (Ok (Some (With Nothing (Plain (LocalName (utf8 name)))), tokens)) (length (Ident name ∷ tokens)) (err_leaves (length (Ident name ∷ tokens))) (ok_leaves (Some (With Nothing (Plain (LocalName (utf8 name))))) tokens (length (Ident name ∷ tokens)) (omega arith))
type_part-leaves nesting (Delim c ∷ tokens) =
    let n = length (Delim c ∷ tokens) in
    let any = giving (option_map (λ (name : Simple). With Nothing (Plain name))) (after_bar nesting (drop 1 tokens)) in
    let none = giving (option_map (λ (name : Simple). With (With Nothing (Plain NoNamespace)) (Plain name))) (after_bar nesting tokens) in
    if_leaves (eqb c (byte "*")) (cond (first_passes (is_delim (byte "|")) tokens) any (Ok (Some (With Nothing (Plain AnyName)), tokens))) (cond (eqb c (byte "|")) none (Ok (Some Nothing, Delim c ∷ tokens))) n
    (if_leaves (first_passes (is_delim (byte "|")) tokens) any (Ok (Some (With Nothing (Plain AnyName)), tokens)) n
    (giving_leaves (option_map (λ (name : Simple). With Nothing (Plain name))) (after_bar nesting (drop 1 tokens)) n (weaker (after_bar nesting (drop 1 tokens)) (length (drop 1 tokens)) n (after_bar-leaves nesting (drop 1 tokens)) (omega (arith, length-drop 1 tokens))))
    (ok_leaves (Some (With Nothing (Plain AnyName))) tokens n (omega arith)))
    (if_leaves (eqb c (byte "|")) none (Ok (Some Nothing, Delim c ∷ tokens)) n
    (giving_leaves (option_map (λ (name : Simple). With (With Nothing (Plain NoNamespace)) (Plain name))) (after_bar nesting tokens) n (longer (after_bar nesting tokens) (Delim c) tokens (after_bar-leaves nesting tokens)))
    (same_leaves (Some Nothing) (Delim c ∷ tokens)))
type_part-leaves nesting (Space ∷ tokens) = same_leaves (Some Nothing) (Space ∷ tokens)
type_part-leaves nesting (Quoted text ∷ tokens) = same_leaves (Some Nothing) (Quoted text ∷ tokens)
type_part-leaves nesting (BadString ∷ tokens) = same_leaves (Some Nothing) (BadString ∷ tokens)
type_part-leaves nesting (Hash name is_id ∷ tokens) = same_leaves (Some Nothing) (Hash name is_id ∷ tokens)
type_part-leaves nesting (Number n ∷ tokens) = same_leaves (Some Nothing) (Number n ∷ tokens)
type_part-leaves nesting (Dimension n unit ∷ tokens) = same_leaves (Some Nothing) (Dimension n unit ∷ tokens)
type_part-leaves nesting (Percentage ∷ tokens) = same_leaves (Some Nothing) (Percentage ∷ tokens)
type_part-leaves nesting (Cdc ∷ tokens) = same_leaves (Some Nothing) (Cdc ∷ tokens)
type_part-leaves nesting (Function name ∷ tokens) = same_leaves (Some Nothing) (Function name ∷ tokens)
type_part-leaves nesting (Match c ∷ tokens) = same_leaves (Some Nothing) (Match c ∷ tokens)

compound-leaves : (inner : List Token → Read DraftItems) → InnerLeaves inner → (nesting : Nesting) (empty : SelectorError) (tokens : List Token) → Leaves (compound inner nesting empty tokens) (length tokens)
unfolding compound
compound-leaves inner h nesting empty tokens =
    let n = length tokens in
    then_leaves (type_part nesting tokens) (λ type. elim type.0 [
      | None ↦ refused empty type.1
      | Some start ↦ more_parts inner nesting start type.1 >>= λ parts. cond (is_nothing parts.0) (refused empty parts.1) (Ok parts)
    ]) n n (type_part-leaves nesting tokens)
    (λ type rest l. option_leaves type (refused empty rest) (λ start. more_parts inner nesting start rest >>= λ parts. cond (is_nothing parts.0) (refused empty parts.1) (Ok parts)) n (err_leaves n)
    (λ start. then_leaves (more_parts inner nesting start rest) (λ parts. cond (is_nothing parts.0) (refused empty parts.1) (Ok parts)) n n (weaker (more_parts inner nesting start rest) (length rest) n (parts-leaves (length rest) inner h nesting start rest) l)
    (λ parts rest2 l2. if_leaves (is_nothing parts) (refused empty rest2) (Ok (parts, rest2)) n (err_leaves n) (ok_leaves parts rest2 n l2))))

step-token-leaves : (after_space : Bool) (tokens : List Token) → Leaves (step after_space tokens) (length tokens)
unfolding step
step-token-leaves after_space [] = err_leaves 0
step-token-leaves after_space (token ∷ tokens) =
    let n = length (token ∷ tokens) in
    option_leaves (step_of token) (cond after_space (Ok (By Descendant, token ∷ tokens)) (refused errors.UnexpectedToken (token ∷ tokens))) (λ found. Ok (found, skip_space tokens)) n
    (if_leaves after_space (Ok (By Descendant, token ∷ tokens)) (refused errors.UnexpectedToken (token ∷ tokens)) n (same_leaves (By Descendant) (token ∷ tokens)) (err_leaves n))
    (λ found. ok_leaves found (skip_space tokens) n (omega (arith, skip_space-shorter tokens)))

next_step-leaves : (nesting : Nesting) (tokens : List Token) → Leaves (next_step nesting tokens) (length tokens)
unfolding next_step
next_step-leaves nesting tokens =
    let n = length tokens in
    if_leaves (at_stop nesting (skip_space tokens)) (Ok (None, skip_space tokens)) (giving (λ found. Some (record { step = found; left = skip_space tokens })) (step (first_passes is_space tokens) (skip_space tokens))) n
    (ok_leaves None (skip_space tokens) n (skip_space-shorter tokens))
    (giving_leaves (λ found. Some (record { step = found; left = skip_space tokens })) (step (first_passes is_space tokens) (skip_space tokens)) n (weaker (step (first_passes is_space tokens) (skip_space tokens)) (length (skip_space tokens)) n (step-token-leaves (first_passes is_space tokens) (skip_space tokens)) (skip_space-shorter tokens)))

further-leaves : (room : ℕ) (inner : List Token → Read DraftItems) → InnerLeaves inner → (nesting : Nesting) (front : DraftItem) (tokens : List Token) → Leaves (further room inner nesting front tokens) (length tokens)
unfolding further
further-leaves zero inner h nesting front tokens =
    let n = length tokens in
    then_leaves (next_step nesting tokens) (λ found. elim found.0 [ None ↦ Ok (front, found.1) | Some step ↦ refused errors.UnsupportedSyntax found.1 ]) n n (next_step-leaves nesting tokens)
    (λ found rest l. option_leaves found (Ok (front, rest)) (λ step. refused errors.UnsupportedSyntax rest) n (ok_leaves front rest n l) (λ step. err_leaves n))
further-leaves (suc room) inner h nesting front tokens =
    let n = length tokens in
    then_leaves (next_step nesting tokens) (λ found. elim found.0 [ None ↦ Ok (front, found.1) | Some step ↦ compound inner nesting errors.DanglingCombinator found.1 >>= λ next. further room inner nesting (Then front step next.0) next.1 ]) n n (next_step-leaves nesting tokens)
    (λ found rest l. option_leaves found (Ok (front, rest)) (λ step. compound inner nesting errors.DanglingCombinator rest >>= λ next. further room inner nesting (Then front step next.0) next.1) n (ok_leaves front rest n l)
    (λ step. then_leaves (compound inner nesting errors.DanglingCombinator rest) (λ next. further room inner nesting (Then front step next.0) next.1) n n (weaker (compound inner nesting errors.DanglingCombinator rest) (length rest) n (compound-leaves inner h nesting errors.DanglingCombinator rest) l)
    (λ next rest2 l2. weaker (further room inner nesting (Then front step next) rest2) (length rest2) n (further-leaves room inner h nesting (Then front step next) rest2) l2)))

pub item-leaves : (inner : List Token → Read DraftItems) → InnerLeaves inner → (nesting : Nesting) (tokens : List Token) → Leaves (item inner nesting tokens) (length tokens)
unfolding item
item-leaves inner h nesting tokens =
    let n = length tokens in
    then_leaves (compound inner nesting errors.EmptySelector (skip_space tokens)) (λ first. further 1023 inner nesting (First first.0) first.1) n n
    (weaker (compound inner nesting errors.EmptySelector (skip_space tokens)) (length (skip_space tokens)) n (compound-leaves inner h nesting errors.EmptySelector (skip_space tokens)) (skip_space-shorter tokens))
    (λ first rest l. weaker (further 1023 inner nesting (First first) rest) (length rest) n (further-leaves 1023 inner h nesting (First first) rest) l)

items-leaves : (n : ℕ) (inner : List Token → Read DraftItems) → InnerLeaves inner → (nesting : Nesting) (items : DraftItems) (tokens : List Token) → Leaves (items_at_most n inner nesting items tokens) (length tokens)
unfolding items_at_most
items-leaves zero inner h nesting items tokens = same_leaves items tokens
items-leaves (suc m) inner h nesting items tokens =
    let n = length tokens in
    if_leaves (at_end nesting tokens) (Ok (items, drop 1 tokens)) (item inner nesting (drop 1 tokens) >>= λ x. items_at_most m inner nesting (And items x.0) x.1) n
    (ok_leaves items (drop 1 tokens) n (omega (arith, length-drop 1 tokens)))
    (then_leaves (item inner nesting (drop 1 tokens)) (λ x. items_at_most m inner nesting (And items x.0) x.1) n n
    (weaker (item inner nesting (drop 1 tokens)) (length (drop 1 tokens)) n (item-leaves inner h nesting (drop 1 tokens)) (omega (arith, length-drop 1 tokens)))
    (λ x rest l. weaker (items_at_most m inner nesting (And items x) rest) (length rest) n (items-leaves m inner h nesting (And items x) rest) l))

list-leaves : (inner : List Token → Read DraftItems) → InnerLeaves inner → (nesting : Nesting) (tokens : List Token) → Leaves (list inner nesting tokens) (length tokens)
unfolding list
list-leaves inner h nesting tokens =
    let n = length tokens in
    then_leaves (item inner nesting tokens) (λ first. items_at_most (length first.1 + 1) inner nesting (And NoItems first.0) first.1) n n (item-leaves inner h nesting tokens)
    (λ first rest l. weaker (items_at_most (length rest + 1) inner nesting (And NoItems first) rest) (length rest) n (items-leaves (length rest + 1) inner h nesting (And NoItems first) rest) l)

inner_list_leaves : (room : ℕ) (tokens : List Token) → Leaves (inner_list room tokens) (length tokens)
unfolding inner_list
inner_list_leaves zero tokens = err_leaves (length tokens)
inner_list_leaves (suc room) tokens = list-leaves (inner_list room) (record { each = inner_list_leaves room }) InFunction tokens

pub inner_list-leaves : (room : ℕ) → InnerLeaves (inner_list room)
inner_list-leaves room = record { each = inner_list_leaves room }
