use Rattle.std.proofs.Common.{◌++◌, List, ℕ, map, reverse, ap, ◌∙◌}
use Rattle.std.specs.Prelude.{decimal}
use Rattle.lol_script.specs.Output.{comma_list}
use Rattle.lol_script.proofs.Reasons.{reason_written}
use Rattle.lol_script.proofs.output.push_reason.Goals as goal

pub returns : goal.returns
returns c =
    let t0 = c.args.text.now.items in
    reason_written t0 c.extend_from_slice.new.self.items c.push_number.new.text.items c.push.new.self.items c.push_line_number.new.text.items c.push-2.new.self.items
    c.push_number-2.new.text.items c.push-3.new.self.items c.push_outermost_first.new.text.items c.push-4.new.self.items
    (decimal c.args.reason.now.item.id) (decimal c.args.line) (decimal c.args.reason.now.item.item) (comma_list (map decimal (reverse c.args.reason.now.witness.items)))
    c.in_ok-extend_from_slice.ensures.items (c.in_ok-push_number.ensures ∙ ap (λ (n : ℕ). c.extend_from_slice.new.self.items ++ decimal n) c.from.ensures) c.in_ok-push.ensures.items c.in_ok-push_line_number.ensures c.in_ok-push-2.ensures.items
    c.in_ok-push_number-2.ensures c.in_ok-push-3.ensures.items (c.in_ok-push_outermost_first.ensures ∙ ap (λ (w : List ℕ). c.push-3.new.self.items ++ comma_list (map decimal (reverse w))) c.deref.ensures.value) c.in_ok-push-4.ensures.items
