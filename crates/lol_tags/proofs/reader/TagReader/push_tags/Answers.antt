-- A part more is read.
use Rattle.std.proofs.Common.{◌++◌, ◌≡◌, Option, [], sym, ap, ◌∙◌, arith}
use Rattle.std.proofs.lemmas.List.{append-nil}
use Rattle.lol_tags.specs.Runs.{with_some}
use Rattle.lol_tags.specs.Reading.{step, ended}
use Rattle.lol_tags.specs.declared.reader.Tag.{Tag}
use Rattle.lol_tags.proofs.Steps.{run-part, given-behind, begins-with, part-within}
use Rattle.lol_tags.proofs.reader.TagReader.push_tags.Goals as goal

-- a tag was added
pub loop-i-preserved-in-Continue-1 : goal.loop-i-preserved-in-Continue-1
loop-i-preserved-in-Continue-1 c =
    let tag = c.read_tag-read.result.tag in
    let added : c.push.new.self.items ≡ c.loop-i.tags.items ++ with_some tag [] =
    c.in_ok-push.ensures.items ∙ ap (λ (tag : Option Tag). c.loop-i.tags.items ++ with_some tag []) (sym c.in-Some.is) in
    let told = added ∙ given-behind step ended c.args.self.now c.loop-i.self c.args.chunk.now c.loop-i.i c.read_tag-read.result.taken c.args.tags.now.items
    c.loop-i.tags.items (with_some tag []) c.loop-i.invariant.stands c.loop-i.invariant.read c.read_tag-read.ensures.tags in
    record {
      within = part-within c.args.chunk.now c.loop-i.i c.read_tag-read.result.taken c.loop-i.invariant.within c.read_tag-read.ensures.within;
      stands = run-part step c.args.self.now c.loop-i.self c.read_tag-read.new.self c.args.chunk.now c.loop-i.i c.read_tag-read.result.taken
          c.loop-i.invariant.stands c.read_tag-read.ensures.after;
      read = told;
      kept = begins-with c.args.tags.now.items _ c.push.new.self.items told;
      at = omega (arith, c.read_tag-read.ensures.at, c.loop-i.invariant.at);
    }

-- none was
pub loop-i-preserved : goal.loop-i-preserved
loop-i-preserved c =
    let tag = c.read_tag-read.result.tag in
    let added : c.loop-i.tags.items ≡ c.loop-i.tags.items ++ with_some tag [] =
    sym (ap (λ (tag : Option Tag). c.loop-i.tags.items ++ with_some tag []) c.in_default.is ∙ append-nil c.loop-i.tags.items) in
    record {
      within = part-within c.args.chunk.now c.loop-i.i c.read_tag-read.result.taken c.loop-i.invariant.within c.read_tag-read.ensures.within;
      stands = run-part step c.args.self.now c.loop-i.self c.read_tag-read.new.self c.args.chunk.now c.loop-i.i c.read_tag-read.result.taken
          c.loop-i.invariant.stands c.read_tag-read.ensures.after;
      read = added ∙ given-behind step ended c.args.self.now c.loop-i.self c.args.chunk.now c.loop-i.i c.read_tag-read.result.taken c.args.tags.now.items
          c.loop-i.tags.items (with_some tag []) c.loop-i.invariant.stands c.loop-i.invariant.read c.read_tag-read.ensures.tags;
      kept = c.loop-i.invariant.kept;
      at = omega (arith, c.read_tag-read.ensures.at, c.loop-i.invariant.at);
    }
