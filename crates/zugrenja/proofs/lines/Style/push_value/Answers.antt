-- The value that is found as it is written is, decoded or not, the one that is read.
use Rattle.std.proofs.Common.{◌≡◌, ℕ, ◌-◌, List, ◌++◌, Option, map, sym, ◌∙◌, ap, subst}
use Rattle.std.specs.Prelude.{OnOk, option_copied}
use Rattle.lol_base.specs.Names.{lowercased}
use Rattle.lol_base.specs.StartTags.{attribute_of}
use Rattle.lol_base.specs.declared.start_tag.AttributeOutline.{AttributeOutline}
use Rattle.lol_instructions.specs.Attributes.{value_among}
use Rattle.lol_machine.specs.Views.{match_of}
use Rattle.lol_tags.specs.Attributes.{attributes_of, outlines_of}
use Rattle.lol_page.specs.Readings.{with_text}
use Rattle.lol_page.specs.ValueLaws.{read_among, value_read}
use Rattle.zugrenja.specs.Lines.{prefix_of, value_line, value_of}
use Rattle.zugrenja.proofs.lines.Style.push_value.Goals as goal

pub returns : goal.returns
returns c =
    let decoded = c.args.self.now.decoded in
    let name = lowercased c.args.name.now in
    let text = c.args.text.now in
    let placed = c.args.placed.now in
    let end = placed.tag.name_end - placed.tag.start in
    let outlines : c.deref.result.now ≡ outlines_of text c.name_end.result =
    c.deref.ensures.value ∙ c.in_ok-push_outlines.ensures.outlines ∙ ap (λ (l : List AttributeOutline). l ++ outlines_of text c.name_end.result) c.new-outlines.ensures.items in
    let found : option_copied c.find_value.result ≡ value_among name (attributes_of text end) =
    c.find_value.ensures ∙ ap (λ (l : List AttributeOutline). value_among name (map (attribute_of text) l)) outlines
    ∙ ap (λ (n : ℕ). value_among name (attributes_of text n)) c.name_end.ensures in
    let value : value_read decoded (option_copied c.find_value.result) ≡ value_of decoded c.args.name.now (with_text text placed) =
    ap (value_read decoded) found ∙ sym (read_among decoded name text end) in
    subst (λ (v : Option (List ℕ)). OnOk c.push_read.result (c.push_read.new.lines.items
    ≡ c.args.lines.now.items
    ++ value_line (prefix_of c.args.self.now) c.args.self.now.numbered placed.line placed.column (map match_of c.args.matches.now) v))
    value c.push_read.ensures
