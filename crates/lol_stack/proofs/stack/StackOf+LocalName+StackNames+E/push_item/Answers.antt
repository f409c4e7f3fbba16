use Rattle.std.proofs.Common.{◌∙◌, ap, refl, take, length, rules}
use Rattle.lol_base.specs.LocalNames.{same_local_name}
use Rattle.lol_stack.specs.OpenDepths.{depths_of}
use Rattle.lol_stack.specs.Stacks.{active_in, depths_in}
use Rattle.lol_stack.proofs.StackLists.{take-activated, depth-undone}
use Rattle.lol_stack.proofs.stack.StackOf+LocalName+StackNames+E.push_item.Goals as goal

pub returns-then-is_limited-clause-limited : goal.returns-then-is_limited-clause-limited
returns-then-is_limited-clause-limited g c = search rules

pub returns-in-Err-add-clause-err : goal.returns-in-Err-add-clause-err
returns-in-Err-add-clause-err g c =
    let old = active_in c.args.self.now in
    record {
      root = refl;
      items = refl;
      active =
          c.truncate.ensures
          ∙ (ap (λ n. take n c.activate.new.self) c.len-active.ensures
          ∙ (ap (take (length old)) c.in_default.ensures.ok ∙ take-activated old c.len-depth.result c.as_slice-ranges.result.now));
      typed = refl;
      depths = c.in-Err-add.ensures.err;
    }

pub returns-in-Err-make_room-clause-err : goal.returns-in-Err-make_room-clause-err
returns-in-Err-make_room-clause-err g c =
    let old = active_in c.args.self.now in
    record {
      root = refl;
      items = c.in-Err-make_room.ensures.err;
      active =
          c.truncate-in-Err-make_room.ensures
          ∙ (ap (λ n. take n c.activate.new.self) c.len-active.ensures
          ∙ (ap (take (length old)) c.in_default.ensures.ok ∙ take-activated old c.len-depth.result c.as_slice-ranges.result.now));
      typed = refl;
      depths = λ q.
          depth-undone (same_local_name c.in-Ok.name q) (depths_in c.args.self.now q) (depths_of c.add.new.self q) (depths_of c.remove.new.self q) c.len-depth.result
          (c.in_default-add.ensures.ok q) (c.remove.ensures q);
    }
