-- Start tags that take no memory.
use Rattle.lol_machine.proofs.Common.{◌≡◌, ℕ, ◌<◌, Bool, true, false, cond, true≢false, List, length, Option, Some, None, Result, Err, refl, sym, ap, ◌∙◌, subst, arith, inl, inr, get_or, Contains, ◌||◌, ◌⊎◌, slice_get, not, ◌&&◌, list_all, IsNone, option_map, not_true, length-map, Range, is_hash, local_name, Among, contains_from_among, is_void, is_esi, lowercased, same_name, StartTag, Namespace, Html, has_test_by_type, Path, Selectors, last_compound, IsProgramOf, is_html, has_content, has_content_in, AllSmall, NeedNoMemory, typed_in, Context, Vm, IsRequested, GoesOnAt, content_in, ExecutionCtx, at_among, within_at, AreTypedIf, StandsOn, Document, Element}
use Rattle.lol_base.specs.MemberLaws.{among_any}
use Rattle.std.proofs.lemmas.Option.{slice_get-map, slice_get-get_or}
use Rattle.std.proofs.lemmas.Slice.Eq.{bytes_eq-Decides}
use Rattle.lol_base.specs.Names.{void_names}
use Rattle.lol_program.specs.IdSetLaws.{listed_if_held}
use Rattle.lol_program.specs.Programs as programs
use Rattle.lol_program.specs.ProgramViews.{instruction_shown, program_shown}
use Rattle.lol_instructions.specs.declared.instruction.Instruction.{Instruction}
use Rattle.lol_program.specs.declared.program.Program.{Program}
use Rattle.lol_css.specs.declared.selector.Combinator.{Combinator}
use Rattle.lol_css.specs.declared.selector.Combinator.TheVariants.{Child, Descendant}
use Rattle.lol_machine.specs.FreeTags.{AreFlat, AreSmall, TakesNoMemory}
use Rattle.lol_stack.specs.TypedCounts.{TypedCount}
use Rattle.lol_machine.specs.Documents as documents
use Rattle.lol_machine.specs.VmErrors.{IsAskedOrFull, IsNotForMemory, push_error}
use Rattle.lol_memory.specs.declared.limited_vec.PushError.{PushError}
use Rattle.lol_memory.specs.declared.limited_vec.PushError.TheVariants as pushes
use Rattle.lol_machine.specs.declared.error.VmError.{VmError}
use Rattle.lol_machine.specs.declared.error.VmError.TheVariants.{InfoRequest, MemoryLimitExceeded, Memory, CounterFull, Failed}
use Rattle.lol_machine.specs.declared.tag_runs.RecoveryPoint.{RecoveryPoint}
use Rattle.lol_machine.specs.declared.tag_runs.RecoveryPoint.TheVariants.{AtOnce, At}
use Rattle.std.specs.declared.alloc.AllocError.{AllocError}
use Rattle.std.proofs.lemmas.List.Elements.{All-contains}
use Rattle.std.proofs.lemmas.List.Sums.{AllPass-from_list_all}

-- 1. Void names

pub all_parts : {A : Type 0} (p : A → Bool) (xs : List A) → list_all p xs ≡ true → (x : A) → Among xs x → p x ≡ true
all_parts p xs all x a = All-contains (λ y. p y ≡ true) xs x (AllPass-from_list_all p xs all) (contains_from_among xs x a)

-- each void name is a hash
void_hashes : list_all (λ name. is_hash (lowercased name)) void_names ≡ true
unfolding void_names
void_hashes = refl

void_is_hash : (name : List ℕ) → is_void name ≡ true → is_hash (lowercased name) ≡ true
void_is_hash name void =
    let found = among_any (same_name name) void_names void in
    let same = (bytes_eq-Decides (lowercased name) (lowercased found.0)).0 found.2 in
    ap is_hash same ∙ all_parts (λ name. is_hash (lowercased name)) void_names void_hashes found.0 found.1

pub void_unspelled : (name : List ℕ) → is_void name ≡ true → IsNone (local_name name).spelling
void_unspelled name void = subst (λ b. IsNone (cond b None (Some name))) (sym (void_is_hash name void)) refl

pub void_is_closed : (esi : Bool) (tag : StartTag) → tag.namespace ≡ Html → is_void tag.name ≡ true → has_content esi tag ≡ false
void_is_closed esi tag html void = ap (λ ns. has_content_in ns esi tag) html ∙ ap (λ b. not (b || (esi && is_esi tag.name))) void

-- nor is it once it is finished
pub finished_closed : (point : RecoveryPoint) (content with_content self_closing : Bool) (context : Context) (ns own : Namespace)
    → GoesOnAt (is_html ns) content context point with_content → ns ≡ Html → own ≡ ns → content ≡ false → content_in own with_content self_closing ≡ false
finished_closed point content with_content self_closing context ns own goes_on html same closed =
    ap (λ n. content_in n with_content self_closing) (same ∙ html) ∙ by_point point goes_on
  where
    by_point : (point : RecoveryPoint) → GoesOnAt (is_html ns) content context point with_content → with_content ≡ false
    by_point AtOnce goes_on = goes_on.1 ∙ (ap (λ n. cond (is_html n) content true) html ∙ closed)
    by_point (At stop) goes_on = goes_on.1 ∙ closed

-- 2. Small selectors

module _ (s : Selectors) (paths : List Path) (prog : Program) (small : AreSmall s) (program : IsProgramOf s paths (program_shown prog)) where
  abbrev all : List Instruction
  all = prog.instructions.items

  module _ (k : ℕ) (d : Instruction) (within : k < length all) where
    abbrev shown : Instruction → programs.Instruction
    shown = instruction_shown prog.enable_nth_of_type

    abbrev instruction : programs.Instruction
    instruction = shown (get_or all k d)

    -- the path whose address it has, and what it means
    path_at : (path : Path) × (slice_get paths k ≡ Some path)
    path_at =
        let count = program.count in
        let many = length-map all shown in
        within_at paths k (omega (arith, count, many, within))

    means : programs.IsInstruction s paths path_at.0 instruction
    means = program.each k path_at.0 instruction path_at.1 (slice_get-map shown all k ∙ ap (option_map shown) (slice_get-get_or all k d within))

    ids_small : AllSmall (get_or all k d).associated_branch.matched_ids
    ids_small = λ q held. small.ids path_at.0 q ((means.ids q).0 (listed_if_held (get_or all k d).associated_branch.matched_ids q held))

  -- without content its instructions need no memory
  pub closed_free : (content : Bool) → content ≡ false → NeedNoMemory content all
  closed_free content closed = λ k d within. (ids_small k d within, λ opens. absurd (true≢false (sym opens ∙ closed)))

  none_under : (range : Option (Range ℕ)) (under : Path × Combinator) → programs.IsRangeOf paths range (Some under) → ((node : Path) → Contains s.nodes node → programs.above node ≡ None) → IsNone range
  none_under None under is alone = refl
  none_under (Some r) under is alone =
      let found = (is.0.members r.start).0 (omega arith, is.1) in
      let none = alone found.0 ((program.same found.0).0 (contains_from_among paths found.0 (at_among paths r.start found.0 found.1))) in
      absurd (none_isnt_some (programs.above found.0) under none found.2)
    where
      none_isnt_some : (o : Option (Path × Combinator)) (x : Path × Combinator) → o ≡ None → o ≡ Some x → ⊥
      none_isnt_some o x none some = cc

  -- nor do they where no node stands under another
  pub alone_free : ((node : Path) → Contains s.nodes node → programs.above node ≡ None) → (content : Bool) → NeedNoMemory content all
  alone_free alone content = λ k d within. (
    ids_small k d within,
    λ opens. (
      none_under (get_or all k d).associated_branch.jumps ((path_at k d within).0, Child) (means k d within).jumps alone,
      none_under (get_or all k d).associated_branch.hereditary_jumps ((path_at k d within).0, Descendant) (means k d within).hereditary_jumps alone,
    ),
  )

  pub not_by_type : prog.enable_nth_of_type ≡ false
  not_by_type = program.by_type ∙ not_true _ (λ typed.
      let found = among_any (λ path. has_test_by_type (last_compound path)) paths typed in
      true≢false (sym found.2 ∙ small.untyped found.0 ((program.same found.0).0 (contains_from_among paths found.0 found.1))))

untyped : (typed : Option (List TypedCount)) (by_type : Bool) (children : List documents.Child) (elements : List Element) → AreTypedIf typed by_type children elements → by_type ≡ false → IsNone typed
untyped None by_type children elements are without = refl
untyped (Some ts) by_type children elements are without = absurd (true≢false (sym are.0 ∙ without))

-- a machine of such selectors
module _ {E : Type 0} (s : Selectors) (paths : List Path) (vm : Vm E) (d : Document) (most : ℕ) (standing : StandsOn s paths (program_shown vm.program) vm.stack d most) (small : AreSmall s) where
  pub is_closed_free : (content : Bool) → content ≡ false → NeedNoMemory content vm.program.instructions.items
  is_closed_free = closed_free s paths vm.program small standing.program

  pub is_alone_free : ((node : Path) → Contains s.nodes node → programs.above node ≡ None) → (content : Bool) → NeedNoMemory content vm.program.instructions.items
  is_alone_free = alone_free s paths vm.program small standing.program

  pub has_none_typed : IsNone (typed_in vm.stack)
  has_none_typed = untyped (typed_in vm.stack) vm.program.enable_nth_of_type d.children d.open_elements standing.counted.typed (not_by_type s paths vm.program small standing.program)

-- a start tag that takes no memory, or one of flat selectors
pub small_if : (s : Selectors) (tag : StartTag) → TakesNoMemory s tag ⊎ AreFlat s → AreSmall s
small_if s tag (inl takes) = takes.0
small_if s tag (inr flat) = flat.small

pub free_if : {E : Type 0} (s : Selectors) (paths : List Path) (vm : Vm E) (d : Document) (most : ℕ) → StandsOn s paths (program_shown vm.program) vm.stack d most → (esi : Bool) (tag : StartTag)
    → TakesNoMemory s tag ⊎ AreFlat s → NeedNoMemory (has_content esi tag) vm.program.instructions.items
free_if s paths vm d most standing esi tag (inl takes) = is_closed_free s paths vm d most standing takes.0 (has_content esi tag) (void_is_closed esi tag takes.1 takes.2)
free_if s paths vm d most standing esi tag (inr flat) = is_alone_free s paths vm d most standing flat.small flat.alone (has_content esi tag)

-- 3. Answers

-- a request that changes nothing
pub asked_only : {E : Type 0} (ctx : ExecutionCtx E) (point : RecoveryPoint) (old new : Vm E) (result : Result (Unit {0}) (VmError E)) (error : VmError E)
    → IsRequested ctx point old new result → new ≡ old → old.failed ≡ false → result ≡ Err error → IsAskedOrFull error
asked_only ctx point old new result (InfoRequest request) requested same unfailed is = tt
asked_only ctx point old new result (MemoryLimitExceeded error) requested same unfailed is = absurd (subst (IsRequested ctx point old new) is requested)
asked_only ctx point old new result (Memory error) requested same unfailed is =
    let failed = subst (IsRequested ctx point old new) is requested in
    absurd (true≢false (sym (ap (λ (v : Vm _). v.failed) failed) ∙ (ap (λ (v : Vm _). v.failed) same ∙ unfailed)))
asked_only ctx point old new result CounterFull requested same unfailed is = tt
asked_only ctx point old new result Failed requested same unfailed is = absurd (subst (IsRequested ctx point old new) is requested)

pub not_for_memory : {E : Type 0} (error : VmError E) → IsAskedOrFull error → IsNotForMemory error
not_for_memory (InfoRequest request) asked = tt
not_for_memory (MemoryLimitExceeded error) asked = tt
not_for_memory (Memory error) asked = asked
not_for_memory CounterFull asked = tt
not_for_memory Failed asked = tt

-- an element that wasn't opened, since it can't be charged
pub limit_only : {E : Type 0} (result : Result (Unit {0}) PushError) (pushed : PushError) (error : VmError E) → result ≡ Err pushed → result ≡ Err (pushes.Limit (record {})) → error ≡ push_error pushed → IsNotForMemory error
limit_only result pushed error is limit from =
    let same : pushed ≡ pushes.Limit (record {}) = cc in
    subst (λ e. IsNotForMemory e) (sym (from ∙ ap push_error same)) tt

pub memory_instead : (result : Result (Unit {0}) PushError) (error : AllocError) → result ≡ Err (pushes.Memory error) → result ≡ Err (pushes.Limit (record {})) → ⊥
memory_instead result error memory limit = cc
