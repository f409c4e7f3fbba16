-- The numbers of what an end tag closes, where the tags so far can be counted.
use Rattle.std.proofs.Common.{◌≡◌, ℕ, ◌+◌, ◌-◌, ◌^◌, ◌≤◌, Bool, List, [], ◌∷◌, length, map, reverse, take, Option, Some, None, refl, sym, ap, ◌∙◌, arith}
use Rattle.std.proofs.lemmas.List.{take-map}
use Rattle.lol_instructions.specs.Tests.{Element}
use Rattle.lol_program.specs.Paths.{Selectors}
use Rattle.lol_machine.specs.AnswerLaws.{events-document}
use Rattle.lol_machine.specs.Answers.{document}
use Rattle.lol_machine.specs.Documents.{Document, closed, empty, index_of, inner_part}
use Rattle.lol_machine.specs.Events.{Event}
use Rattle.lol_machine.specs.Standing.{Descend, DocumentsAreOrdered}
use Rattle.lol_matcher.specs.Told.{in_word, numbers_open}

in_words : (bound : ℕ) (elements : List Element) → bound ≤ 2 ^ 64 - 1 → Descend bound elements → map (λ (e : Element). in_word e.number) elements ≡ map (λ (e : Element). e.number) elements
in_words bound [] within falls = refl
in_words bound (x ∷ elements) within falls =
    let below = falls.0 in
    let first : in_word x.number ≡ x.number = omega (arith, within, below) in
    let rest = in_words x.number elements (omega (arith, within, below)) falls.1 in
    λ i. first i ∷ rest i

words_inside : (o : Option ℕ) (elements : List Element) → map (λ (e : Element). in_word e.number) elements ≡ map (λ (e : Element). e.number) elements
    → map (λ (e : Element). in_word e.number) (inner_part o elements) ≡ map (λ (e : Element). e.number) (inner_part o elements)
words_inside None elements same = refl
words_inside (Some k) elements same =
    sym (take-map (λ (e : Element). in_word e.number) (k + 1) elements) ∙ (ap (take (k + 1)) same ∙ take-map (λ (e : Element). e.number) (k + 1) elements)

pub closed_numbers : DocumentsAreOrdered → (s : Selectors) (esi : Bool) (events : List Event) → length events ≤ 2 ^ 64 - 1 → (name : List ℕ)
    → numbers_open (inner_part (index_of name (document s esi events).open_elements) (document s esi events).open_elements) ≡ closed name (document s esi events)
closed_numbers ordered s esi events few name =
    let d = document s esi events in
    let count = events-document s esi empty events in
    let within : d.events ≤ 2 ^ 64 - 1 = omega (arith, few, count) in
    ap reverse (words_inside (index_of name d.open_elements) d.open_elements (in_words d.events d.open_elements within (ordered s esi events).numbers))
