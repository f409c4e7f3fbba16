-- How a layout is filled.
use Rattle.std.proofs.Common.{ℕ, zero, suc, ◌≡◌, ◌≢◌, ◌<◌, ◌≤◌, ◌+◌, Bool, true, ◌||◌, arith, length, List, [], ◌∷◌, map, Some, refl, ap, sym, subst, ◌∙◌}
use Rattle.std.specs.Prelude.{slice_set, slice_get}
use Rattle.std.specs.Option.{option_map}
use Rattle.std.specs.declared.ops.Range.{Range}
use Rattle.std.proofs.lemmas.List.{length-set}
use Rattle.lol_memory.specs.Ids.{ascending}
use Rattle.lol_instructions.specs.Compounds.{Compound, has_test_by_type}
use Rattle.lol_program.specs.Forest.{Node, Forest, none, more, link, size}
use Rattle.lol_program.specs.Views.{forest_of}
use Rattle.lol_instructions.specs.Compiled.{tests_in}
use Rattle.lol_instructions.specs.Keys.{key_tests, keys_of_tests}
use Rattle.lol_instructions.specs.CompiledKeys.{compiled_key_test}
use Rattle.lol_program.specs.Compiling.{Serves, AreCompiledTests}
use Rattle.lol_program.specs.Programs.{Instruction}
use Rattle.lol_program.specs.Layouts.{width, range_of, instruction_of, any_by_type}
use Rattle.lol_program.specs.ProgramViews.{instruction_shown, code_of}
use Rattle.lol_program.specs.Laying.{under, Laid, AreLaid, SameOutside, SameElsewhere}
use Rattle.lol_program.specs.declared.ast_node.AstNode.{AstNode}
use Rattle.lol_instructions.specs.declared.instruction.Instruction as code
use Rattle.lol_base.specs.BoolLaws.{or-false, or-right_true}
use Rattle.lol_program.proofs.ListIndices.{get_map}

pub size_is : (f : Forest) → size f ≡ width f + under f
size_is none = refl
size_is (more c ids children descendants rest) = omega (arith, size_is rest)

-- 1. What stands elsewhere

frame : (f : Forest) (old new : List Instruction) (address free : ℕ) → Laid old address free f
    → ((k : ℕ) → address ≤ k → k < address + width f → slice_get new k ≡ slice_get old k)
    → ((k : ℕ) → free ≤ k → k < free + under f → slice_get new k ≡ slice_get old k)
    → Laid new address free f
frame none old new address free l roots below = tt
frame (more c ids children descendants rest) old new address free l roots below =
    let sc = size_is children in
    let sd = size_is descendants in (
      roots address (omega arith) (omega arith) ∙ l.0,
      (
        frame children old new free (free + width children) l.1.0 (λ k a b. below k a (omega (arith, b, sc))) (λ k a b. below k (omega (arith, a)) (omega (arith, b, sc))),
        (
          frame descendants old new (free + size children) (free + size children + width descendants) l.1.1.0 (λ k a b. below k (omega (arith, a)) (omega (arith, b, sd))) (λ k a b. below k (omega (arith, a)) (omega (arith, b, sd))),
          frame rest old new (suc address) (free + (size children + size descendants)) l.1.1.1 (λ k a b. roots k (omega (arith, a)) (omega (arith, b))) (λ k a b. below k (omega (arith, a)) (omega (arith, b))),
        ),
      ),
    )

get_set_here : {A : Type 0} (xs : List A) (i : ℕ) (x : A) → i < length xs → slice_get (slice_set xs i x) i ≡ Some x
get_set_here [] i x h = absurd (omega (arith, h))
get_set_here (y ∷ xs) zero x h = refl
get_set_here (y ∷ xs) (suc i) x h = get_set_here xs i x (omega (arith, h))

get_set_other : {A : Type 0} (xs : List A) (i k : ℕ) (x : A) → k ≢ i → slice_get (slice_set xs i x) k ≡ slice_get xs k
get_set_other [] i k x h = refl
get_set_other (y ∷ xs) zero zero x h = absurd (h refl)
get_set_other (y ∷ xs) zero (suc k) x h = refl
get_set_other (y ∷ xs) (suc i) zero x h = refl
get_set_other (y ∷ xs) (suc i) (suc k) x h = get_set_other xs i k x (λ e. h (ap suc e))

-- what stands at an address, shown
shown_same : {A B : Type 0} (g : A → B) (old new : List A) (k : ℕ) → slice_get new k ≡ slice_get old k → slice_get (map g new) k ≡ slice_get (map g old) k
shown_same g old new k e = get_map g new k ∙ ap (option_map g) e ∙ sym (get_map g old k)

-- 2. Siblings one after another

-- siblings from start on are done, up to those that are left
pub record IsHalfLaid (all : Forest) (start end : ℕ) (old : List code.Instruction) (left : Forest) (address free : ℕ) (instructions : List code.Instruction) : Type 0 where
  pub end_is : end ≡ start + width all
  pub roots : address + width left ≡ end
  pub from_start : start ≤ address
  pub nodes : free + under left ≡ start + size all
  pub after_roots : end ≤ free
  pub fewer : size left ≤ size all
  pub types : any_by_type left ≡ true → any_by_type all ≡ true
  pub same : SameOutside start free old instructions
  pub when_laid : (by_type : Bool) → Serves by_type (any_by_type all) → (final : List Instruction)
      → ((k : ℕ) → k < address → slice_get final k ≡ slice_get (code_of by_type instructions) k)
      → ((k : ℕ) → end ≤ k → k < free → slice_get final k ≡ slice_get (code_of by_type instructions) k)
      → Laid final address free left → Laid final start end all

pub half_init : (all : Forest) (start end : ℕ) (old : List code.Instruction) → end ≡ start + width all → IsHalfLaid all start end old all start end old
half_init all start end old e =
    record {
      end_is = e;
      roots = sym e;
      from_start = omega arith;
      nodes = omega (arith, e, size_is all);
      after_roots = omega arith;
      fewer = omega arith;
      types = λ h. h;
      same = record { count = refl; below = λ k h. refl; above = λ k h. refl };
      when_laid = λ by_type serves final a b l. l;
    }

pub half_done : (all : Forest) (start end : ℕ) (old : List code.Instruction) (address free : ℕ) (instructions : List code.Instruction) → IsHalfLaid all start end old none address free instructions
    → AreLaid instructions start (start + width all) all
half_done all start end old address free instructions h by_type serves =
    subst (λ (n : ℕ). Laid (code_of by_type instructions) start n all) h.end_is (h.when_laid by_type serves (code_of by_type instructions) (λ k a. refl) (λ k a b. refl) tt)

pub half_step : (all : Forest) (start end : ℕ) (old : List code.Instruction) (n : Node) (left : Forest) (address free more_free : ℕ) (instructions next : List code.Instruction)
    → IsHalfLaid all start end old (link n left) address free instructions → SameElsewhere address free more_free instructions next → more_free ≡ free + (size n.children + size n.descendants)
    → AreLaid next address free (link n none) → IsHalfLaid all start end old left (address + 1) more_free next
half_step all start end old n left address free more_free instructions next h s e l =
    let sc = size_is n.children in
    let sd = size_is n.descendants in
    let own = has_test_by_type n.compound || (any_by_type n.children || any_by_type n.descendants) in
    record {
      end_is = h.end_is;
      roots = omega (arith, h.roots);
      from_start = omega (arith, h.from_start);
      nodes = omega (arith, h.nodes, e);
      after_roots = omega (arith, h.after_roots, e);
      fewer = omega (arith, h.fewer);
      types = λ t. h.types (or-right_true own (any_by_type left) t);
      same = record {
        count = s.count ∙ h.same.count;
        below = λ k a. s.below k (omega (arith, a, h.after_roots, h.from_start, h.roots)) (λ q. omega (arith, a, q, h.from_start)) ∙ h.same.below k a;
        above = λ k a. s.above k a ∙ h.same.above k (omega (arith, a, e));
      };
      when_laid = λ by_type serves final a b m.
          let g = instruction_shown by_type in
          let laid = l by_type (λ t. serves (h.types (ap (λ (x : Bool). x || any_by_type left) (sym (or-false own) ∙ t)))) in
          h.when_laid by_type serves final
          (λ k u. a k (omega (arith, u)) ∙ shown_same g instructions next k (s.below k (omega (arith, u, h.after_roots, h.roots)) (λ q. omega (arith, u, q))))
          (λ k u v. b k u (omega (arith, v, e)) ∙ shown_same g instructions next k (s.below k v (λ q. omega (arith, u, q, h.roots)))) (
            a address (omega arith) ∙ laid.0,
            (
              frame n.children (code_of by_type next) final free (free + width n.children) laid.1.0 (λ k u v. b k (omega (arith, u, h.after_roots)) (omega (arith, v, e, sc))) (λ k u v. b k (omega (arith, u, h.after_roots)) (omega (arith, v, e, sc))),
              (
                frame n.descendants (code_of by_type next) final (free + size n.children) (free + size n.children + width n.descendants) laid.1.1.0
                    (λ k u v. b k (omega (arith, u, h.after_roots)) (omega (arith, v, e, sd))) (λ k u v. b k (omega (arith, u, h.after_roots)) (omega (arith, v, e, sd))),
                let address_is : address + 1 ≡ suc address = omega arith in
                    subst (λ (p : ℕ). Laid final p (free + (size n.children + size n.descendants)) left) address_is (subst (λ (f : ℕ). Laid final (address + 1) f left) e m),
              ),
            ),
          );
    }

-- 3. A node

-- an instruction means its node's compound, and has its ids and ranges
pub instruction_right : (by_type : Bool) (c : Compound) (ids : List ℕ) (children descendants : Forest) (free : ℕ) (i : code.Instruction)
    → Serves by_type (has_test_by_type c) → AreCompiledTests (tests_in i.predicate) c → map compiled_key_test (tests_in i.predicate) ≡ key_tests c
    → ascending i.associated_branch.matched_ids ≡ ids
    → i.associated_branch.jumps ≡ range_of children free
    → i.associated_branch.hereditary_jumps ≡ range_of descendants (free + size children)
    → instruction_shown by_type i ≡ instruction_of c ids children descendants free
instruction_right by_type c ids children descendants free i serves compiled keys same_ids jumps hereditary_jumps =
    λ j. record {
      value = λ e. (compiled by_type serves e).0 j;
      holds = λ e. (compiled by_type serves e).1 j;
      keys = keys_of_tests (keys j);
      ids = same_ids j;
      jumps = jumps j;
      hereditary_jumps = hereditary_jumps j;
    }

-- a node at its address, with what is under it
pub node_laid : (n : Node) (address free : ℕ) (first second : List code.Instruction) (i : code.Instruction) → address < free → address < length second
    → AreLaid first free (free + width n.children) n.children
    → AreLaid second (free + size n.children) (free + size n.children + width n.descendants) n.descendants
    → SameOutside (free + size n.children) (free + size n.children + size n.descendants) first second
    → ((by_type : Bool) → Serves by_type (has_test_by_type n.compound) → instruction_shown by_type i ≡ instruction_of n.compound n.ids n.children n.descendants free)
    → AreLaid (slice_set second address i) address free (link n none)
node_laid n address free first second i before within lc ld s e by_type serves =
    let g = instruction_shown by_type in
    let last = slice_set second address i in
    let sc = size_is n.children in
    let deeper = any_by_type n.children || any_by_type n.descendants in
    let own : Serves by_type (has_test_by_type n.compound || deeper) = λ t. serves (or-false (has_test_by_type n.compound || deeper) ∙ t) in
    let inner : Serves by_type deeper = λ t. own (or-right_true (has_test_by_type n.compound) deeper t) in (
      get_map g last address ∙ ap (option_map g) (get_set_here second address i within) ∙ ap Some (e by_type (λ t. own (ap (λ (x : Bool). x || deeper) t))),
      (
        frame n.children (code_of by_type first) (code_of by_type last) free (free + width n.children) (lc by_type (λ t. inner (ap (λ (x : Bool). x || any_by_type n.descendants) t)))
            (λ k u v. shown_same g first last k (get_set_other second address k i (λ q. omega (arith, q, u, before)) ∙ s.below k (omega (arith, v, sc))))
            (λ k u v. shown_same g first last k (get_set_other second address k i (λ q. omega (arith, q, u, before)) ∙ s.below k (omega (arith, v, sc)))),
        (
          frame n.descendants (code_of by_type second) (code_of by_type last) (free + size n.children) (free + size n.children + width n.descendants) (ld by_type (λ t. inner (or-right_true (any_by_type n.children) (any_by_type n.descendants) t)))
              (λ k u v. shown_same g second last k (get_set_other second address k i (λ q. omega (arith, q, u, before))))
              (λ k u v. shown_same g second last k (get_set_other second address k i (λ q. omega (arith, q, u, before)))),
          tt,
        ),
      ),
    )

pub node_same : (address free middle more_free : ℕ) (old first second : List code.Instruction) (i : code.Instruction) → address < free → free ≤ middle → middle ≤ more_free
    → SameOutside free middle old first → SameOutside middle more_free first second → SameElsewhere address free more_free old (slice_set second address i)
node_same address free middle more_free old first second i before m n s t =
    record {
      count = length-set second address i ∙ (t.count ∙ s.count);
      below = λ k a q. get_set_other second address k i q ∙ (t.below k (omega (arith, a, m)) ∙ s.below k a);
      above = λ k a. get_set_other second address k i (λ q. omega (arith, a, q, before, m, n)) ∙ (t.above k a ∙ s.above k (omega (arith, a, n)));
    }

-- what is the same elsewhere after an instruction was put at the address is so as before it
pub placed_same : (address low high : ℕ) (old placed new : List code.Instruction) (i : code.Instruction) → placed ≡ slice_set old address i → address < low → low ≤ high
    → SameElsewhere address low high placed new → SameElsewhere address low high old new
placed_same address low high old placed new i is before after same =
    let same : SameElsewhere address low high (slice_set old address i) new = subst (λ list. SameElsewhere address low high list new) is same in record {
      count = same.count ∙ length-set old address i;
      below = λ k a q. same.below k a q ∙ get_set_other old address k i q;
      above = λ k a. same.above k a ∙ get_set_other old address k i (λ q. omega (arith, a, q, before, after));
    }

-- it still stands there after what is under it was laid out
pub placed_stays : (address free middle more_free : ℕ) (old placed first second : List code.Instruction) (i : code.Instruction) → placed ≡ slice_set old address i → address < length old → address < free → free ≤ middle
    → SameOutside free middle placed first → SameOutside middle more_free first second → slice_get second address ≡ Some i
placed_stays address free middle more_free old placed first second i is within before after s t =
    t.below address (omega (arith, before, after)) ∙ (s.below address before ∙ (ap (λ list. slice_get list address) is ∙ get_set_here old address i within))

pub width_is : (nodes : List AstNode) → width (forest_of nodes) ≡ length nodes
width_is [] = refl
width_is (n ∷ nodes) = ap suc (width_is nodes)

pub range_some : (nodes : List AstNode) (r : Range ℕ) (at : ℕ) → 0 < length nodes → r.start ≡ at → r.end ≡ at + length nodes → Some r ≡ range_of (forest_of nodes) at
range_some [] r at h s e = absurd (omega (arith, h))
range_some (n ∷ nodes) r at h s e =
    let end : r.end ≡ at + suc (width (forest_of nodes)) = omega (arith, e, width_is nodes) in
    λ i. Some (record { start = s i; end = end i })

-- the same where what is under a node begins at addresses that are known by equations
pub node_done : (n : Node) (address free start middle more_free : ℕ) (first second : List code.Instruction) (i : code.Instruction)
    → start ≡ free → middle ≡ start + size n.children → more_free ≡ middle + size n.descendants → address < free → address < length second
    → AreLaid first start (start + width n.children) n.children → AreLaid second middle (middle + width n.descendants) n.descendants → SameOutside middle more_free first second
    → AreCompiledTests (tests_in i.predicate) n.compound → map compiled_key_test (tests_in i.predicate) ≡ key_tests n.compound
    → ascending i.associated_branch.matched_ids ≡ n.ids
    → i.associated_branch.jumps ≡ range_of n.children start → i.associated_branch.hereditary_jumps ≡ range_of n.descendants middle
    → AreLaid (slice_set second address i) address free (link n none)
node_done n address free start middle more_free first second i start_is middle_is more_is before within lc ld s compiled keys ids jumps hereditary_jumps =
    let at : middle ≡ free + size n.children = middle_is ∙ ap (λ k. k + size n.children) start_is in
    let end : more_free ≡ free + size n.children + size n.descendants = more_is ∙ ap (λ k. k + size n.descendants) at in
    node_laid n address free first second i before within
    (subst (λ k. AreLaid first k (k + width n.children) n.children) start_is lc)
    (subst (λ k. AreLaid second k (k + width n.descendants) n.descendants) at ld)
    (subst (λ k. SameOutside (free + size n.children) k first second) end (subst (λ k. SameOutside k more_free first second) at s))
    (λ by_type serves. instruction_right by_type n.compound n.ids n.children n.descendants free i serves compiled keys ids (jumps ∙ ap (range_of n.children) start_is) (hereditary_jumps ∙ ap (range_of n.descendants) at))
