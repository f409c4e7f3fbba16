use Rattle.std.proofs.Common.{rules, ◌∙◌, ap, filter, nat_lt}
use Rattle.std.proofs.lemmas.Fn.{filter_same}
use Rattle.lol_stack.proofs.active_ranges.ActiveRanges.cut.Goals as goal

pub returns : goal.returns
returns c =
    filter_same _ (λ a. nat_lt a.1 c.args.depth) _ (λ x b f' t. search (rules, t)) _ _ c.retain.ensures.filtered
    ∙ ap (filter (λ a. nat_lt a.1 c.args.depth)) c.self.view_is
