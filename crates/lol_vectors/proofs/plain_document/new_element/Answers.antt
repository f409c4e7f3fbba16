use Rattle.std.proofs.Common.{◌+◌, ap, ◌∙◌, map}
use Rattle.lol_machine.specs.Documents as documents
use Rattle.lol_vectors.specs.PlainElements.{element_shown}
use Rattle.lol_vectors.specs.Plain.{child_shown}
use Rattle.lol_vectors.proofs.plain_document.new_element.Goals as goal

pub returns : goal.returns
returns c =
    let name = c.args.name.now in
    let parent = c.parent_of-parent.ensures ∙ ap (λ es. documents.parent_of (map element_shown es)) c.deref.ensures.value in
    let position = c.in_ok-position.ensures ∙ ap (λ n. n + 1) (c.children_of.ensures ∙ (λ i. documents.children_of (parent i) (map child_shown (c.deref-2.ensures.value i)))) in
    let typed = c.in_ok-typed_position.ensures ∙ ap (λ n. n + 1) (c.typed_children_of.ensures ∙ (λ i. documents.typed_children_of (parent i) name (map child_shown (c.deref-3.ensures.value i)))) in
    λ i. record {
      number = c.args.number;
      tag = record { name = name; namespace = (c.new.ensures i).namespace; attributes = (c.new.ensures i).attributes; self_closing = c.args.aux_info.self_closing; finish = c.args.finish };
      position = position i;
      typed_position = typed i;
    }
