-- the value is kept where there is room, and the element counted
use Rattle.std.proofs.Common.{arith, ◌<◌, ◌≤◌, length, map, take, ◌++◌, ◌∷◌, [], ◌∙◌, sym, ap}
use Rattle.std.specs.Prelude.{vec_capacity}
use Rattle.std.proofs.lemmas.List.{map-append}
use Rattle.zugrenja_c.specs.Tags.{value_given}
use Rattle.zugrenja_c.proofs.Closings.{counts_one, keeps_none, keeps_one}
use Rattle.zugrenja_c.proofs.closing.Closing.keep.Goals as goal
use Rattle.zugrenja_c.proofs.closing.Closing.keep.Goals.{then-len-capacity, else-len-capacity}

pub returns : goal.returns
returns c room elements was =
    let vs = map value_given elements in
    let v = value_given c.args.element in
    let all = ap (take room) (sym (map-append value_given elements (c.args.element ∷ []))) in
    let len = c.len.ensures in
    let capacity = c.capacity.ensures in
    let kept = ap length was.values in
    elim c.if-len-capacity.branch [
      | then-len-capacity w ↦ record {
        closed = counts_one elements c.args.element _ _ _ was.closed (ap (λ s. s.closed) w.self-is) c.saturating_add-self.ensures;
        reserved = ap (λ s. vec_capacity s.values) w.self-is ∙ (w.push_reserved.ensures.capacity ∙ was.reserved);
        values =
            let less = w.if-len-capacity.true in
            let inside : length (take room vs) < room = grind (arith, was.reserved) in
            ap (λ s. s.values.items) w.self-is ∙ (w.push_reserved.ensures.items ∙ (ap (λ x. c.args.self.now.values.items ++ x ∷ []) w.unwrap_or.ensures
            ∙ (ap (λ xs. xs ++ v ∷ []) was.values ∙ (keeps_one room vs v inside ∙ all))));
      }
      | else-len-capacity w ↦ record {
        closed = counts_one elements c.args.element _ _ _ was.closed (ap (λ s. s.closed) w.self-is) c.saturating_add-self.ensures;
        reserved = ap (λ s. vec_capacity s.values) w.self-is ∙ was.reserved;
        values =
            let not_less = w.if-len-capacity.false in
            let outside : room ≤ length (take room vs) = grind (arith, was.reserved) in
            ap (λ s. s.values.items) w.self-is ∙ (was.values ∙ (keeps_none room vs v outside ∙ all));
      }
    ]
