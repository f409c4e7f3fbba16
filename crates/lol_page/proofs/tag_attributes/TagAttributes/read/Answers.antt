-- The attributes stay as they are written: that is asked for, or there is nothing to decode.
use Rattle.std.proofs.Common.{◌≡◌, List, ◌++◌, Bool, map, sym, ◌∙◌, ap}
use Rattle.lol_base.specs.StartTags.{attribute_of}
use Rattle.lol_base.specs.declared.start_tag.AttributeOutline.{AttributeOutline}
use Rattle.lol_tags.specs.Attributes.{attributes_of, outlines_of}
use Rattle.lol_page.specs.Pages.{attributes_read}
use Rattle.lol_page.proofs.Plain.{plain_read}
use Rattle.lol_page.proofs.tag_attributes.TagAttributes.read.Goals.{else-decoded-via-then-decoded+else-has_ampersand, else-decoded-via-else-decoded}
use Rattle.lol_page.proofs.tag_attributes.TagAttributes.read.Goals as goal

pub returns-else-decoded-clause-read : goal.returns-else-decoded-clause-read
returns-else-decoded-clause-read c =
    let text = c.args.text.now in
    let end = c.args.name_end in
    let written : map (attribute_of text) c.push_outlines.new.outlines.items ≡ attributes_of text end =
    ap (λ (l : List AttributeOutline). map (attribute_of text) l)
    (c.in_ok-push_outlines.ensures.outlines ∙ ap (λ (l : List AttributeOutline). l ++ outlines_of text end) c.clear.ensures.items) in
    elim c.else-decoded.branch [
      | else-decoded-via-then-decoded+else-has_ampersand w ↦ written ∙ plain_read c.args.decoded text end (sym w.has_ampersand.ensures.ampersand ∙ w.if-has_ampersand.false)
      | else-decoded-via-else-decoded w ↦ written ∙ ap (λ (d : Bool). attributes_read d text end) (sym w.if-decoded.false)
    ]
