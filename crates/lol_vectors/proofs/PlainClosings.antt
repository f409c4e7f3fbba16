-- What an end tag closes.
use Rattle.std.proofs.Common.{◌≡◌, ℕ, ◌+◌, Bool, not, cond, List, [], ◌∷◌, map, reverse, take, drop, position, Option, Some, None, refl, sym, ap, ◌∙◌}
use Rattle.std.specs.List.{position_or_len}
use Rattle.std.specs.Prelude.{nat_lt}
use Rattle.std.proofs.lemmas.List.{length-map, take-map, drop-map}
use Rattle.lol_base.specs.ListLaws.{reverse-map}
use Rattle.lol_base.specs.MemberLaws.{map-map}
use Rattle.lol_base.specs.Names.{same_name}
use Rattle.lol_instructions.specs.Tests.{Element}
use Rattle.lol_machine.specs.Documents.{closed, after_end, index_of, inner_part, outer_part}
use Rattle.lol_vectors.specs.PlainElements.{element_shown}
use Rattle.lol_vectors.specs.Plain.{child_shown, document_shown}
use Rattle.lol_vectors.specs.declared.plain_document.PlainDocument.{PlainDocument}
use Rattle.lol_vectors.specs.declared.plain_element.PlainElement.{PlainElement}

module _ (name : List ℕ) (d : PlainDocument) (events : ℕ) where
  abbrev elements : List PlainElement
  elements = d.open_elements.items

  abbrev index : Option ℕ
  index = position (λ (e : PlainElement). same_name e.name.now name) elements

  abbrev named : Element → Bool
  named e = same_name e.tag.name name

  first_named : (es : List PlainElement) → position_or_len named (map element_shown es) ≡ position_or_len (λ e. named (element_shown e)) es
  first_named [] = refl
  first_named (e ∷ es) = λ i. cond (not (named (element_shown e))) (1 + first_named es i) 0

  same_index : index_of name (map element_shown elements) ≡ index
  same_index = λ i. cond (nat_lt (first_named elements i) (length-map elements element_shown i)) (Some (first_named elements i)) None

  pub closes_nothing : index ≡ None → [] ≡ closed name (document_shown events d)
  closes_nothing none = sym (ap (λ p. reverse (map (λ (e : Element). e.number) (inner_part p (map element_shown elements)))) (same_index ∙ none))

  pub stays_open : index ≡ None → document_shown (events + 1) d ≡ after_end (document_shown events d) name
  stays_open none =
      λ i. record { events = events + 1; children = map child_shown d.children.items; open_elements = outer_part (sym (same_index ∙ none) i) (map element_shown elements) }

  pub closes_inner : (at : ℕ) → index ≡ Some at → map (λ (e : PlainElement). e.number) (reverse (take (at + 1) elements)) ≡ closed name (document_shown events d)
  closes_inner at found =
      sym (ap (λ p. reverse (map (λ (e : Element). e.number) (inner_part p (map element_shown elements)))) (same_index ∙ found)
      ∙ ap (λ es. reverse (map (λ (e : Element). e.number) es)) (take-map element_shown (at + 1) elements)
      ∙ ap reverse (map-map (λ (e : Element). e.number) element_shown (take (at + 1) elements))
      ∙ reverse-map (λ (e : PlainElement). e.number) (take (at + 1) elements))

  pub outer_stays : (at : ℕ) → index ≡ Some at → (new : List PlainElement) → new ≡ drop (at + 1) elements
      → map element_shown new ≡ (after_end (document_shown events d) name).open_elements
  outer_stays at found new is =
      ap (map element_shown) is ∙ sym (ap (λ p. outer_part p (map element_shown elements)) (same_index ∙ found) ∙ drop-map element_shown (at + 1) elements)
