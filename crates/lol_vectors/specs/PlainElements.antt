-- What the plain matcher's elements stand for.
use Rattle.lol_base.specs.StartTags.{StartTag}
use Rattle.lol_instructions.specs.Tests.{Element}
use Rattle.lol_vectors.specs.declared.plain_element.PlainElement.{PlainElement}

abbrev pub tag_shown : PlainElement → StartTag
tag_shown e =
    record {
      name = e.name.now;
      namespace = e.attributes.namespace;
      attributes = e.attributes.attributes;
      self_closing = e.self_closing;
      finish = e.finish;
    }

-- The element of the document that one stands for.
abbrev pub element_shown : PlainElement → Element
element_shown e = record { number = e.number; tag = tag_shown e; position = e.position; typed_position = e.typed_position }
