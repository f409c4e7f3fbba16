use Rattle.std.proofs.Common.{◌∙◌, ap, drop}
use Rattle.std.proofs.lemmas.List.{take_rest}
use Rattle.lol_page.specs.Positions.{moved_over}
use Rattle.lol_page.specs.declared.position.Position.{Position}
use Rattle.lol_page.proofs.Tape.{over-parts}
use Rattle.lol_page.proofs.kept_tags.KeptTags.begin.Goals as goal

pub returns-clause-at : goal.returns-clause-at
returns-clause-at c =
    let part = c.args.part.now in
    let before = c.args.before in
    c.over-self-2.ensures.moved
    ∙ ap (moved_over c.over-self.result) (take_rest part before)
    ∙ ap (λ (p : Position). moved_over p (drop before part)) c.over-self.ensures.moved
    ∙ over-parts c.args.self.now.at before part
