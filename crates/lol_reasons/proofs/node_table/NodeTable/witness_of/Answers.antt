use Rattle.std.proofs.Common.{◌≡◌, length, map, reverse, sym, ap, ◌∙◌, subst, arith}
use Rattle.std.proofs.lemmas.List.{length-map, length-reverse, length-take-le, take-map}
use Rattle.lol_machine.specs.Machines.{item_shown}
use Rattle.lol_program.specs.ProgramViews.{program_shown}
use Rattle.lol_instructions.specs.Tests.{Element}
use Rattle.lol_reasons.proofs.ClimbingLemmas.{same_lengths}
use Rattle.lol_reasons.proofs.Climbs.{Climbs, begins, ends, goes_on, not_lost}
use Rattle.lol_reasons.proofs.node_table.NodeTable.witness_of.Goals as goal

pub loop-above-preserved : goal.loop-above-preserved
loop-above-preserved g c =
    let items = map item_shown c.args.outer.now in
    let many : length items ≡ length c.args.outer.now = length-map c.args.outer.now item_shown in
    let at = c.in-Some-element_reached.at in
    record {
      within = omega (arith, c.in-Some-element_reached.ensures.within, length-take-le c.loop-above.left c.args.outer.now c.loop-above.invariant.within, c.loop-above.invariant.within);
      climbs = λ s paths path e around h same.
          let here = c.loop-above.invariant.climbs s paths path e around h same in
          subst (Climbs paths (program_shown c.args.program.now) path e around items c.args.numbers.now c.in-Some.above.address at) (sym c.in_ok-push.ensures.items)
          (goes_on s paths c.args.program.now h.around.closed h.around.program path e around items c.args.numbers.now c.loop-above.node c.loop-above.left c.loop-above.witness.items
          (omega (arith, c.loop-above.invariant.within, many)) (omega (arith, c.if-numbers-outer.false, many)) here c.node_above.result
          (c.node_above.ensures s paths here.path h.around.closed h.around.program here.at) c.in-Some.above c.in-Some.is at _
          (ap reverse (sym (take-map item_shown c.loop-above.left c.args.outer.now))) (sym c.element_reached.ensures.value ∙ c.in-Some-element_reached.is) 0);
    }

pub returns-in_default-element_reached : goal.returns-in_default-element_reached
returns-in_default-element_reached g c s paths path e around h same =
    let items = map item_shown c.args.outer.now in
    let many : length items ≡ length c.args.outer.now = length-map c.args.outer.now item_shown in
    let here = c.loop-above.invariant.climbs s paths path e around h same in
    absurd (not_lost s paths c.args.program.now h.around.closed h.around.program path e around items c.args.numbers.now c.loop-above.node c.loop-above.left c.loop-above.witness.items
    (omega (arith, c.loop-above.invariant.within, many)) (omega (arith, c.if-numbers-outer.false, many)) here c.node_above.result
    (c.node_above.ensures s paths here.path h.around.closed h.around.program here.at) c.in-Some.above c.in-Some.is _
    (ap reverse (sym (take-map item_shown c.loop-above.left c.args.outer.now))) (sym c.element_reached.ensures.value ∙ c.in_default-element_reached.is))

pub returns : goal.returns
returns g c s paths path e around h same =
    let items = map item_shown c.args.outer.now in
    let many : length items ≡ length c.args.outer.now = length-map c.args.outer.now item_shown in
    let here = c.loop-above.invariant.climbs s paths path e around h same in
    ends s paths c.args.program.now h.around.closed h.around.program path e around items c.args.numbers.now c.loop-above.node c.loop-above.left c.loop-above.witness.items
    (omega (arith, c.loop-above.invariant.within, many)) (omega (arith, c.if-numbers-outer.false, many)) here c.node_above.result
    (c.node_above.ensures s paths here.path h.around.closed h.around.program here.at) c.in_default.is h.matched

pub returns-then-numbers-outer : goal.returns-then-numbers-outer
returns-then-numbers-outer g c s paths path e around h same =
    let items = map item_shown c.args.outer.now in
    absurd (omega (
      arith,
      c.if-numbers-outer.true,
      same_lengths paths (program_shown c.args.program.now) (reverse items) around h.around.are_items,
      ap length h.around.are_numbers,
      length-map around (λ (a : Element). a.number),
      length-reverse c.args.numbers.now,
      length-reverse items,
      length-map c.args.outer.now item_shown,
    ))

pub loop-above-init : goal.loop-above-init
loop-above-init g c =
    let items = map item_shown c.args.outer.now in
    let many : length items ≡ length c.args.outer.now = length-map c.args.outer.now item_shown in
    record {
      within = omega arith;
      climbs = λ s paths path e around h same.
          begins s paths (program_shown c.args.program.now) c.args.address path items c.args.numbers.now e around c.args.number (length c.args.outer.now) c.in_ok-witness.witness.items h
          (omega (arith, many)) (omega (arith, c.if-numbers-outer.false)) same c.in_ok-witness.ensures.items;
    }
