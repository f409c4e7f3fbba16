-- What an element gathers.
use Rattle.lol_machine.proofs.Common.{StackItemOf, ◌≡◌, ℕ, Bool, true, false, List, [], ◌++◌, ◌↔◌, inl, inr, sym, ap, ◌∙◌, subst, Contains, true≢false, option_to_list, or_parts, or_of, contains-append, among_from_contains, contains_from_among, Ids, has, union, ascending_once, ascending_is_determined, ascending_ascends, pairs_from_ascends, among_ascending, ascending_among, Context, branch, no_context, Gathers, ExecutionCtx}
use Rattle.std.proofs.lemmas.List.Kept.{AllPairs-from_increasing}
use Rattle.lol_memory.specs.Ids as sets
use Rattle.lol_memory.specs.SetLaws.{has-no_ids, has-union}
use Rattle.lol_memory.specs.AscendingLaws.{ascending_rises}
use Rattle.lol_program.specs.ProgramViews.{instruction_shown}
use Rattle.lol_instructions.specs.declared.instruction.Instruction as code
use Rattle.lol_program.specs.IdSetLaws.{listed_if_held, held}
use Rattle.lol_stack.specs.Contexts.{with_branch, IsNewItem}

-- A new element has gathered nothing.
pub new_elements_gather : {N E : Type 0} → (ids_of : E → Ids) (name : N) (item : StackItemOf N E) → IsNewItem ids_of name item → Gathers ids_of item no_context
new_elements_gather ids_of name item new = record {
  ids = λ id. (
    λ h. absurd (true≢false (sym h ∙ (ap (λ s. has s id) new.ids ∙ has-no_ids id))),
    λ c. absurd (among_from_contains [] id c),
  );
  jumps = sym new.jumps;
  hereditary_jumps = sym new.hereditary_jumps;
}

ids_more : (s t : Ids) (ids : List ℕ) → ((id : ℕ) → (has s id ≡ true) ↔ Contains ids id) → (id : ℕ) → (has (union s t) id ≡ true) ↔ Contains (ids ++ sets.ascending t) id
ids_more s t ids same id = (
  λ h. (contains-append ids (sets.ascending t) id).1 (elim (or_parts (has s id) (has t id) (sym (has-union s t id) ∙ h)) [
    | inl old ↦ inl ((same id).0 old)
    | inr new ↦ inr (listed_if_held t id new)
  ]),
  λ c. has-union s t id ∙ or_of (has s id) (has t id) (elim ((contains-append ids (sets.ascending t) id).0 c) [
    | inl old ↦ inl ((same id).1 old)
    | inr new ↦ inr (held t id new)
  ]),
)

-- What an instruction gives is gathered with the rest.
pub branches_gather : {E : Type 0} → (ids_of : E → Ids) (with_ids : E → Ids → E) → ((e : E) (w : Ids) → ids_of (with_ids e w) ≡ w)
    → (ctx : ExecutionCtx E) (context : Context) (i : code.Instruction) (by_type : Bool) → Gathers ids_of ctx.stack_item context
    → Gathers ids_of (with_branch ids_of with_ids ctx i.associated_branch).stack_item (branch ctx.with_content context (instruction_shown by_type i))
branches_gather ids_of with_ids keeps ctx context i by_type h = by_content ctx.with_content
  where
    gathered_ids : (id : ℕ) → (has (ids_of (with_ids ctx.stack_item.element_data (union (ids_of ctx.stack_item.element_data) i.associated_branch.matched_ids))) id ≡ true) ↔ Contains (context.ids ++ sets.ascending i.associated_branch.matched_ids) id
    gathered_ids id =
        subst (λ s. (has s id ≡ true) ↔ Contains (context.ids ++ sets.ascending i.associated_branch.matched_ids) id) (sym (keeps ctx.stack_item.element_data (union (ids_of ctx.stack_item.element_data) i.associated_branch.matched_ids)))
        (ids_more (ids_of ctx.stack_item.element_data) i.associated_branch.matched_ids context.ids h.ids id)

    by_content : (b : Bool) → Gathers ids_of (with_branch ids_of with_ids (record ctx { with_content = b }) i.associated_branch).stack_item (branch b context (instruction_shown by_type i))
    by_content true = record { ids = gathered_ids; jumps = ap (λ rs. rs ++ option_to_list i.associated_branch.jumps) h.jumps; hereditary_jumps = ap (λ rs. rs ++ option_to_list i.associated_branch.hereditary_jumps) h.hereditary_jumps }
    by_content false = record { ids = gathered_ids; jumps = h.jumps; hereditary_jumps = h.hereditary_jumps }

-- The ids of the data, in ascending order, are those that were gathered, each once.
pub gathered_ids_ascend : {N E : Type 0} → (ids_of : E → Ids) (item : StackItemOf N E) (context : Context) → Gathers ids_of item context → sets.ascending (ids_of item.element_data) ≡ ascending_once context.ids
gathered_ids_ascend ids_of item context h =
    let s = ids_of item.element_data in
    ascending_is_determined (sets.ascending s) (ascending_once context.ids) (AllPairs-from_increasing (sets.ascending s) (ascending_rises s)) (pairs_from_ascends (ascending_once context.ids) (ascending_ascends context.ids))
    (λ id. (
      λ c. contains_from_among (ascending_once context.ids) id (ascending_among context.ids id (among_from_contains context.ids id ((h.ids id).0 (held s id c)))),
      λ c. listed_if_held s id ((h.ids id).1 (contains_from_among context.ids id (among_ascending context.ids id (among_from_contains (ascending_once context.ids) id c)))),
    ))
