use Rattle.std.proofs.Common.{◌≡◌, ◌++◌, ◌∷◌, [], map, ap, ◌∙◌}
use Rattle.std.proofs.lemmas.List.{map-append}
use Rattle.std.proofs.lemmas.Result.{on_ok_weaker, on_err_weaker}
use Rattle.lol_base.specs.StartTags.{attribute_of}
use Rattle.lol_base.proofs.GrownInput.{same_attributes_after}
use Rattle.lol_base.proofs.attributes.Attributes.push.Goals as goal

-- the attributes before, by the input that has grown
same : (c : goal.After-push_outline) → map (attribute_of c.push_outline.new.input.items) c.self.inside.outlines.items ≡ c.args.self.now
same c = same_attributes_after _ _ c.push_outline.ensures.extends c.self.inside.outlines.items c.self.invariant ∙ c.self.view_is

pub returns-clause-ok : goal.returns-clause-ok
returns-clause-ok c =
    let attribute = attribute_of c.push_outline.new.input.items in
    on_ok_weaker c.push_outline.result
    (λ pushed. ap (map attribute) pushed.1 ∙ map-append attribute c.self.inside.outlines.items (pushed.0 ∷ []) ∙ (λ i. same c i ++ pushed.3 i ∷ []))
    c.push_outline.ensures.ok

pub returns-clause-err : goal.returns-clause-err
returns-clause-err c =
    on_err_weaker c.push_outline.result (λ kept. ap (map (attribute_of c.push_outline.new.input.items)) kept ∙ same c) c.push_outline.ensures.err
