-- What a matcher keeps: the walk over the attributes, and what it marks.
use Rattle.std.proofs.Common.{◌≡◌, ℕ, ◌+◌, ◌-◌, ◌*◌, ◌%◌, ◌<◌, ◌≤◌, Bool, true, false, cond, ◌||◌, List, [], ◌∷◌, ◌++◌, Option, Some, None, length, get_or, take, map, eqb, eq-eqb, unwrap_or, refl, sym, ap, ◌∙◌, arith, subst, codes, ⊎_elim, IfSome}
use Rattle.std.specs.Option.{option_map, option_or}
use Rattle.std.specs.List.{All, list_any}
use Rattle.std.specs.Str.{bytes_eq}
use Rattle.std.specs.Char.{to_ascii_lowercase}
use Rattle.std.proofs.lemmas.Bool.{cases_Bool, false≢true}
use Rattle.std.proofs.Math.Bool.{or-true}
use Rattle.std.proofs.lemmas.Bool.Decides.{nat_tests}
use Rattle.std.proofs.lemmas.List.{get_or-map, length-map, map_more, take_all}
use Rattle.std.proofs.lemmas.List.Elements.{All-head, All-tail, All-weaker, All-more, All-nil}
use Rattle.std.proofs.lemmas.Slice.Eq.{bytes_eq-Decides}
use Rattle.lol_base.specs.Names.{lowercased}
use Rattle.lol_base.specs.StartTags.{Attribute, attribute_of, bytes_at}
use Rattle.lol_base.specs.declared.namespace.Namespace.{Namespace}
use Rattle.lol_base.specs.declared.start_tag.AttributeOutline.{AttributeOutline}
use Rattle.lol_instructions.specs.Tests.{HasId, HasClass, HasAttribute, Compares, find_attribute, has_value, words, compares, compared, ignores_case}
use Rattle.lol_instructions.specs.Attributes.{TagAttributes, value_among, value_in}
use Rattle.lol_instructions.specs.Marks.{mark_sum, mark_of, is_marked, KeepsMarks, AreMarked}
use Rattle.lol_instructions.specs.declared.marks.Marks.{Marks}
use Rattle.lol_instructions.proofs.MarkLemmas.{IsWordMarked}

-- 1. The value among attributes in two parts

abbrev value_of_named : List ℕ → Attribute → Bool → List Attribute → Option (List ℕ)
value_of_named name a named more = option_map (λ (b : Attribute). unwrap_or b.value []) (cond named (Some a) (find_attribute name more))

value_of_named-append : (name : List ℕ) (a : Attribute) (named : Bool) (more others : List Attribute) → value_among name (more ++ others) ≡ option_or (value_among name more) (value_among name others)
    → value_of_named name a named (more ++ others) ≡ option_or (value_of_named name a named more) (value_among name others)
value_of_named-append name a true more others same = refl
value_of_named-append name a false more others same = same

value_among-append : (name : List ℕ) (attributes others : List Attribute) → value_among name (attributes ++ others) ≡ option_or (value_among name attributes) (value_among name others)
value_among-append name [] others = refl
value_among-append name (a ∷ attributes) others =
    value_of_named-append name a (bytes_eq (lowercased a.name) name) attributes others (value_among-append name attributes others)

-- 2. The walk

abbrev pub IsNameMarked : List ℕ → Marks → AttributeOutline → Type 0
IsNameMarked input marks outline = is_marked marks (mark_of (HasAttribute (bytes_at input outline.name))) ≡ true

-- what is known once some attributes were walked over
pub record Walked (input : List ℕ) (outlines : List AttributeOutline) (marks : Marks) (id class : Option (List ℕ)) : Type 0 where
  pub names : All (IsNameMarked input marks) outlines
  pub id_value : id ≡ value_among (codes "id") (map (attribute_of input) outlines)
  pub class_value : class ≡ value_among (codes "class") (map (attribute_of input) outlines)

pub Walked-init : (input : List ℕ) (outlines : List AttributeOutline) (marks : Marks) → Walked input (take 0 outlines) marks None None
Walked-init input outlines marks = record { names = All-nil (IsNameMarked input marks); id_value = refl; class_value = refl }

value_more : (input name : List ℕ) (outlines : List AttributeOutline) (at : ℕ) (d : AttributeOutline) (found next : Option (List ℕ)) → at < length outlines
    → found ≡ value_among name (map (attribute_of input) (take at outlines)) → next ≡ option_or found (value_among name (attribute_of input (get_or outlines at d) ∷ []))
    → next ≡ value_among name (map (attribute_of input) (take (at + 1) outlines))
value_more input name outlines at d found next within before next_is =
    let front = map (attribute_of input) (take at outlines) in
    let here = attribute_of input (get_or outlines at d) in
    next_is ∙ ap (λ (f : Option (List ℕ)). option_or f (value_among name (here ∷ []))) before
    ∙ sym (ap (value_among name) (map_more (attribute_of input) outlines at d within) ∙ value_among-append name front (here ∷ []))

-- one attribute more
pub Walked-more : (input : List ℕ) (outlines : List AttributeOutline) (at : ℕ) (d : AttributeOutline) (marks one next_marks : Marks) (id class next_id next_class : Option (List ℕ))
    → at < length outlines → Walked input (take at outlines) marks id class
    → ((bit : ℕ) → is_marked one bit ≡ eqb bit (mark_of (HasAttribute (bytes_at input (get_or outlines at d).name))))
    → ((bit : ℕ) → is_marked next_marks bit ≡ (is_marked marks bit || is_marked one bit))
    → next_id ≡ option_or id (value_among (codes "id") (attribute_of input (get_or outlines at d) ∷ []))
    → next_class ≡ option_or class (value_among (codes "class") (attribute_of input (get_or outlines at d) ∷ []))
    → Walked input (take (at + 1) outlines) next_marks next_id next_class
Walked-more input outlines at d marks one next_marks id class next_id next_class within before one_is both id_is class_is =
    let kept : All (IsNameMarked input next_marks) (take at outlines) =
    All-weaker (IsNameMarked input marks) (IsNameMarked input next_marks) (λ o marked. both _ ∙ ap (λ (t : Bool). t || is_marked one (mark_of (HasAttribute (bytes_at input o.name)))) marked) (take at outlines) before.names in
    let bit = mark_of (HasAttribute (bytes_at input (get_or outlines at d).name)) in
    let here : IsNameMarked input next_marks (get_or outlines at d) = both bit ∙ ap (λ (t : Bool). is_marked marks bit || t) (one_is bit ∙ eq-eqb bit bit refl) ∙ or-true _ in
    record {
      names = All-more (IsNameMarked input next_marks) outlines at d within kept here;
      id_value = value_more input (codes "id") outlines at d id next_id within before.id_value id_is;
      class_value = value_more input (codes "class") outlines at d class next_class within before.class_value class_is;
    }

-- all attributes
pub Walked-all : (input : List ℕ) (outlines : List AttributeOutline) (at : ℕ) (marks : Marks) (id class : Option (List ℕ)) → length outlines ≤ at → Walked input (take at outlines) marks id class
    → Walked input outlines marks id class
Walked-all input outlines at marks id class last walked = subst (λ (os : List AttributeOutline). Walked input os marks id class) (take_all at outlines last) walked

-- 3. What holds is marked

lower_bits : (b : ℕ) → to_ascii_lowercase b % 32 ≡ b % 32
lower_bits b = grind (arith, nat_tests)

lower_at : (bytes : List ℕ) (at : ℕ) → at < length bytes → get_or (lowercased bytes) at 0 % 32 ≡ get_or bytes at 0 % 32
lower_at bytes at within = ap (λ (b : ℕ). b % 32) (get_or-map to_ascii_lowercase bytes at 0 0 within) ∙ lower_bits (get_or bytes at 0)

pub mark_sum-lowercased : (bytes : List ℕ) → mark_sum (lowercased bytes) ≡ mark_sum bytes
mark_sum-lowercased [] = refl
mark_sum-lowercased (b ∷ bytes) =
    let same_length : length (lowercased (b ∷ bytes)) ≡ length (b ∷ bytes) = length-map (b ∷ bytes) to_ascii_lowercase in
    let first : get_or (lowercased (b ∷ bytes)) 0 0 % 32 ≡ get_or (b ∷ bytes) 0 0 % 32 = lower_at (b ∷ bytes) 0 (omega arith) in
    let last : get_or (lowercased (b ∷ bytes)) (length (lowercased (b ∷ bytes)) - 1) 0 % 32 ≡ get_or (b ∷ bytes) (length (b ∷ bytes) - 1) 0 % 32 =
    ap (λ (n : ℕ). get_or (lowercased (b ∷ bytes)) (n - 1) 0 % 32) same_length ∙ lower_at (b ∷ bytes) (length (b ∷ bytes) - 1) (omega arith) in
    let size : length (lowercased (b ∷ bytes)) % 64 ≡ length (b ∷ bytes) % 64 = ap (λ (n : ℕ). n % 64) same_length in
    ap (λ (n : ℕ). n * 5 + get_or (lowercased (b ∷ bytes)) (length (lowercased (b ∷ bytes)) - 1) 0 % 32 * 3 + length (lowercased (b ∷ bytes)) % 64) first
    ∙ ap (λ (n : ℕ). get_or (b ∷ bytes) 0 0 % 32 * 5 + n * 3 + length (lowercased (b ∷ bytes)) % 64) last
    ∙ ap (λ (n : ℕ). get_or (b ∷ bytes) 0 0 % 32 * 5 + get_or (b ∷ bytes) (length (b ∷ bytes) - 1) 0 % 32 * 3 + n) size

-- the first attribute of a name, which is marked
named_marked : (input name : List ℕ) (marks : Marks) (test : List ℕ → Bool) (outlines : List AttributeOutline) → All (IsNameMarked input marks) outlines
    → has_value (value_among name (map (attribute_of input) outlines)) test ≡ true → is_marked marks (mark_of (HasAttribute name)) ≡ true
named_marked input name marks test [] names holds = absurd (false≢true holds)
named_marked input name marks test (o ∷ outlines) names holds =
    let named = bytes_eq (lowercased (bytes_at input o.name)) name in
    let first = attribute_of input o in
    ⊎_elim
    (λ yes.
    let same : lowercased (bytes_at input o.name) ≡ name = (bytes_eq-Decides (lowercased (bytes_at input o.name)) name).0 yes in
    let sum : mark_sum name ≡ mark_sum (bytes_at input o.name) = sym (ap mark_sum same) ∙ mark_sum-lowercased (bytes_at input o.name) in
    ap (λ (n : ℕ). is_marked marks (n % 64)) sum ∙ All-head (IsNameMarked input marks) o outlines names)
    (λ no.
    named_marked input name marks test outlines (All-tail (IsNameMarked input marks) o outlines names)
    (ap (λ (t : Bool). has_value (value_of_named name first t (map (attribute_of input) outlines)) test) (sym no) ∙ holds))
    (cases_Bool named)

id_marked : (marks : Marks) (id : List ℕ) (value : Option (List ℕ)) → IfSome value (λ v. is_marked marks (mark_of (HasId v)) ≡ true) → has_value value (λ v. bytes_eq v id) ≡ true
    → is_marked marks (mark_of (HasId id)) ≡ true
id_marked marks id None marked holds = absurd (false≢true holds)
id_marked marks id (Some v) marked holds = ap (λ (b : List ℕ). is_marked marks (mark_of (HasId b))) (sym ((bytes_eq-Decides v id).0 holds)) ∙ marked

word_marked : (marks : Marks) (name : List ℕ) (pieces : List (List ℕ)) → All (IsWordMarked marks) pieces → list_any (λ word. bytes_eq word name) pieces ≡ true → IsWordMarked marks name
word_marked marks name [] marked holds = absurd (false≢true holds)
word_marked marks name (word ∷ pieces) marked holds =
    ⊎_elim
    (λ yes. ap (λ (w : List ℕ). is_marked marks (mark_of (HasClass w))) (sym ((bytes_eq-Decides word name).0 yes)) ∙ All-head (IsWordMarked marks) word pieces marked)
    (λ no.
    word_marked marks name pieces (All-tail (IsWordMarked marks) word pieces marked) (ap (λ (t : Bool). t || list_any (λ w. bytes_eq w name) pieces) (sym no) ∙ holds))
    (cases_Bool (bytes_eq word name))

class_marked : (marks : Marks) (name : List ℕ) (value : Option (List ℕ)) → IfSome value (λ v. All (IsWordMarked marks) (words v))
    → has_value value (λ v. list_any (λ word. bytes_eq word name) (words v)) ≡ true → IsWordMarked marks name
class_marked marks name None marked holds = absurd (false≢true holds)
class_marked marks name (Some v) marked holds = word_marked marks name (words v) marked holds

module _ (input : List ℕ) (outlines : List AttributeOutline) (namespace : Namespace) (marks : Marks) where
  abbrev seen_of : TagAttributes
  seen_of = record { attributes = map (attribute_of input) outlines; namespace = namespace }

  pub are_marked : All (IsNameMarked input marks) outlines
      → IfSome (value_in (codes "id") seen_of) (λ v. is_marked marks (mark_of (HasId v)) ≡ true)
      → IfSome (value_in (codes "class") seen_of) (λ v. All (IsWordMarked marks) (words v))
      → AreMarked marks seen_of
  are_marked names id class (HasId value) e same holds =
      id_marked marks value (value_in (codes "id") seen_of) id (ap (λ (s : TagAttributes). has_value (value_in (codes "id") s) (λ v. bytes_eq v value)) (sym same) ∙ holds)
  are_marked names id class (HasClass name) e same holds =
      class_marked marks name (value_in (codes "class") seen_of) class
      (ap (λ (s : TagAttributes). has_value (value_in (codes "class") s) (λ v. list_any (λ word. bytes_eq word name) (words v))) (sym same) ∙ holds)
  are_marked names id class (HasAttribute name) e same holds =
      named_marked input name marks (λ v. true) outlines names (ap (λ (s : TagAttributes). has_value (value_in name s) (λ v. true)) (sym same) ∙ holds)
  are_marked names id class (Compares name operator operand case) e same holds =
      let ignoring = ignores_case case e.tag.namespace in
      let test = λ (v : List ℕ). compares operator (compared ignoring v) (compared ignoring operand) in
      named_marked input (lowercased name) marks test outlines names (ap (λ (s : TagAttributes). has_value (value_in (lowercased name) s) test) (sym same) ∙ holds)

  kept_id : (old : Marks) (id : Option (List ℕ)) → KeepsMarks old marks → IfSome id (λ v. is_marked old (mark_of (HasId v)) ≡ true) → IfSome id (λ v. is_marked marks (mark_of (HasId v)) ≡ true)
  kept_id old None keeps marked = tt
  kept_id old (Some v) keeps marked = keeps _ marked

  -- once the values of `id` and `class` are marked too
  pub walked_marked : (names with_id : Marks) (id class : Option (List ℕ)) → Walked input outlines names id class
      → KeepsMarks names with_id → IfSome id (λ v. is_marked with_id (mark_of (HasId v)) ≡ true)
      → KeepsMarks with_id marks → IfSome class (λ v. All (IsWordMarked marks) (words v)) → AreMarked marks seen_of
  walked_marked names with_id id class walked keeps_names id_there keeps class_there =
      are_marked
      (All-weaker (IsNameMarked input names) (IsNameMarked input marks) (λ o marked. keeps _ (keeps_names _ marked)) outlines walked.names)
      (subst (λ (value : Option (List ℕ)). IfSome value (λ v. is_marked marks (mark_of (HasId v)) ≡ true)) walked.id_value (kept_id with_id id keeps id_there))
      (subst (λ (value : Option (List ℕ)). IfSome value (λ v. All (IsWordMarked marks) (words v))) walked.class_value class_there)
