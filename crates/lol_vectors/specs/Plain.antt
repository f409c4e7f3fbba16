-- What the plain matcher's document and answers stand for.
use Rattle.std.specs.Prelude.{ℕ, ◌+◌, Bool, not, ◌&&◌, if◌then◌else◌, List, ◌∷◌, map}
use Rattle.lol_instructions.specs.Tests.{Element}
use Rattle.lol_program.specs.Paths.{Selectors}
use Rattle.lol_machine.specs.Events.{has_content}
use Rattle.lol_machine.specs.Documents.{Child, Document, parent_of}
use Rattle.lol_machine.specs.Answers as answers
use Rattle.lol_machine.specs.Answers.{Answer, report, asks, is_dropped, name_tries, attribute_tries}
use Rattle.lol_machine.specs.Views.{match_of}
use Rattle.lol_vectors.specs.PlainElements.{element_shown}
use Rattle.lol_vectors.specs.declared.plain_document.PlainChild.{PlainChild}
use Rattle.lol_vectors.specs.declared.plain_document.PlainDocument.{PlainDocument}
use Rattle.lol_vectors.specs.declared.plain.PlainAnswer.{PlainAnswer}
use Rattle.lol_vectors.specs.declared.plain.PlainAnswer.TheVariants.{Started, Dropped, Ended}

abbrev pub child_shown : PlainChild → Child
child_shown c = record { parent = c.parent; name = c.name.now }

-- The document that one stands for after so many events.
abbrev pub document_shown : ℕ → PlainDocument → Document
document_shown events d =
    record { events = events; children = map child_shown d.children.items; open_elements = map element_shown d.open_elements.items }

-- The answer that one stands for.
abbrev pub answer_shown : PlainAnswer → Answer
answer_shown (Started matched asked names attributes) = answers.Started (map match_of matched.items) asked names attributes
answer_shown Dropped = answers.Dropped
answer_shown (Ended closed) = answers.Ended closed.items

-- the answer to an element's start tag, and the document after it
abbrev pub start_answer : Selectors → Bool → Element → List Element → Answer
start_answer s esi e outer =
    if is_dropped s e outer then answers.Dropped
    else answers.Started (report s esi e outer) (asks s e outer) (name_tries s e outer) (attribute_tries s e outer)

abbrev pub started : Selectors → Bool → Document → Element → Document
started s esi d e =
    record {
      events = d.events + 1;
      children = record { parent = parent_of d.open_elements; name = e.tag.name } ∷ d.children;
      open_elements = if has_content esi e.tag && not (is_dropped s e d.open_elements) then e ∷ d.open_elements else d.open_elements;
    }
