-- Idle bytes, and then one byte more.
use Rattle.std.proofs.Common.{◌≡◌, ◌+◌, ◌++◌, [], take, get_or, sym, ap, ◌∙◌, arith}
use Rattle.lol_tags.specs.Runs.{with_some}
use Rattle.lol_tags.specs.Reading.{step, ended, after, tags_from}
use Rattle.lol_tags.proofs.Steps.{run-part, run-more, given-part, given-more, part-within}
use Rattle.lol_tags.proofs.reader.TagReader.pass.Goals as goal

pub loop-i-preserved : goal.loop-i-preserved
loop-i-preserved c = record {
  within = part-within c.args.rest.now c.loop-i.i c.skip-idle.result c.loop-i.invariant.within c.skip-idle.ensures.within;
  stands = run-part step c.args.self.now c.loop-i.self c.skip-idle.new.self c.args.rest.now c.loop-i.i c.skip-idle.result
      c.loop-i.invariant.stands c.skip-idle.ensures.after;
  none = sym (given-part step ended c.args.self.now c.loop-i.self c.args.rest.now c.loop-i.i c.skip-idle.result [] []
      c.loop-i.invariant.stands (sym c.loop-i.invariant.none) (sym c.skip-idle.ensures.tags));
  at = omega (arith, c.skip-idle.ensures.at, c.loop-i.invariant.at);
}

pub returns-then-ends-clause-after : goal.returns-then-ends-clause-after
returns-then-ends-clause-after c =
    run-part step c.args.self.now c.loop-i.self c.skip-idle.new.self c.args.rest.now c.loop-i.i c.skip-idle.result
    c.loop-i.invariant.stands c.skip-idle.ensures.after

pub returns-then-ends-clause-tags : goal.returns-then-ends-clause-tags
returns-then-ends-clause-tags c =
    sym (given-part step ended c.args.self.now c.loop-i.self c.args.rest.now c.loop-i.i c.skip-idle.result [] []
    c.loop-i.invariant.stands (sym c.loop-i.invariant.none) (sym c.skip-idle.ensures.tags))

pub loop-i-preserved-then-i-rest : goal.loop-i-preserved-then-i-rest
loop-i-preserved-then-i-rest c =
    let r0 = c.args.self.now in
    let r = c.skip-idle.new.self in
    let s = c.args.rest.now in
    let i = c.loop-i.i + c.skip-idle.result in
    let stands : r ≡ after r0 (take i s) =
    run-part step r0 c.loop-i.self r s c.loop-i.i c.skip-idle.result c.loop-i.invariant.stands c.skip-idle.ensures.after in
    let none : tags_from r0 (take i s) ≡ [] =
    sym (given-part step ended r0 c.loop-i.self s c.loop-i.i c.skip-idle.result [] [] c.loop-i.invariant.stands (sym c.loop-i.invariant.none) (sym c.skip-idle.ensures.tags)) in
    record {
      within = omega (arith, c.if-i-rest.true);
      stands = c.go_on.ensures.after ∙ run-more step r0 r s i c.if-i-rest.true stands;
      none = given-more step ended r0 r s i c.if-i-rest.true stands ∙ ap (λ tags. tags ++ with_some (ended r (get_or s i 0)) []) none ∙ ap (λ tag. with_some tag []) c.go_on.ensures.none;
      at = omega (arith, c.go_on.ensures.at, c.skip-idle.ensures.at, c.loop-i.invariant.at);
    }
