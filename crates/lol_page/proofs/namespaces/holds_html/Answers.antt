-- The value of `encoding` is the first of that name that is read.
use Rattle.std.proofs.Common.{◌≡◌, List, ◌++◌, true, false, ◌||◌, ◌&&◌, map, sym, ◌∙◌, ap}
use Rattle.std.specs.Prelude.{codes, option_copied}
use Rattle.std.proofs.lemmas.Result.{IfOk-weaker}
use Rattle.lol_base.specs.StartTags.{attribute_of}
use Rattle.lol_base.specs.declared.namespace.Namespace.{Namespace}
use Rattle.lol_base.specs.declared.start_tag.AttributeOutline.{AttributeOutline}
use Rattle.lol_instructions.specs.Attributes.{value_among}
use Rattle.lol_tags.specs.Attributes.{attributes_of, outlines_of}
use Rattle.lol_page.specs.Namespaces as names
use Rattle.lol_page.specs.Pages.{attributes_read}
use Rattle.lol_page.specs.ValueLaws.{read_among, value_read}
use Rattle.lol_page.proofs.namespaces.holds_html.Goals as goal

pub returns-in_ok-push_outlines-in-MathML : goal.returns-in_ok-push_outlines-in-MathML
returns-in_ok-push_outlines-in-MathML c =
    let name = c.args.name.now in
    let text = c.args.text.now in
    let end = c.args.name_end in
    let read = attributes_read c.args.decoded text end in
    let is_html = names.is_html_type (value_among (codes "encoding") read) in
    let outlines : c.deref.result.now ≡ outlines_of text end =
    c.deref.ensures.value ∙ c.in_ok-push_outlines-in-MathML.ensures.outlines ∙ ap (λ (l : List AttributeOutline). l ++ outlines_of text end) c.clear.ensures.items in
    let found : option_copied c.find_value-encoding.result ≡ value_among (codes "encoding") (attributes_of text end) =
    c.find_value-encoding.ensures ∙ ap (λ (l : List AttributeOutline). value_among (codes "encoding") (map (attribute_of text) l)) outlines in
    let value : value_read c.args.decoded (option_copied c.find_value-encoding.result) ≡ value_among (codes "encoding") read =
    ap (value_read c.args.decoded) found ∙ sym (read_among c.args.decoded (codes "encoding") text end) in
    let is_text : names.is_among name names.text_points ≡ false = sym c.is_text_point.ensures ∙ c.if-is_text_point.false in
    let is_spelled : names.is_spelled name names.annotation ≡ true = sym c.is_spelled.ensures ∙ c.if-not-is_spelled.false in
    IfOk-weaker c.is_html_type_read.result _ _
    (λ holds is. is ∙ ap names.is_html_type value ∙ sym (ap (λ b. b && is_html) is_spelled)
    ∙ sym (ap (λ b. b || (names.is_spelled name names.annotation && is_html)) is_text)
    ∙ sym (ap (λ (ns : Namespace). names.holds_html_in ns name read) c.in-MathML.is))
    c.is_html_type_read.ensures
