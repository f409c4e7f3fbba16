use Rattle.std.proofs.Common.{List, ℕ, ◌≡◌, sym, ◌∙◌, ap, subst}
use Rattle.std.specs.Prelude.{false}
use Rattle.lol_tags.specs.Places.{HasRead}
use Rattle.lol_tags.specs.Reading.{may_be_tag, fresh}
use Rattle.lol_tags.specs.declared.reader.TagReader.{TagReader}
use Rattle.lol_page.specs.Positions.{position_behind}
use Rattle.lol_page.proofs.kept_tags.KeptTags.new.Goals as goal

pub returns-clause-kept : goal.returns-clause-kept
unfolding may_be_tag
returns-clause-kept c = record {
  read =
      subst (λ (r : TagReader). HasRead c.new-3.result.read r) (sym c.new.ensures)
      (subst (λ (bytes : List ℕ). HasRead bytes (fresh c.args.scripting)) (sym c.new-3.ensures) (c.unfinished_tags_are_kept.ensures.fresh c.args.scripting));
  at = c.origin-2.ensures ∙ sym (ap position_behind c.new-3.ensures);
  holds = λ m. absurd (let none : may_be_tag c.new.result.state ≡ false = ap (λ (r : TagReader). may_be_tag r.state) c.new.ensures in cc);
}
