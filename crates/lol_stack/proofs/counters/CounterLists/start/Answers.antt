use Rattle.std.proofs.Common.{◌∙◌, sym, ap, Some, ◌++◌, ◌∷◌, []}
use Rattle.lol_stack.specs.CounterLists.{levels_if}
use Rattle.lol_stack.proofs.OpenNameLemmas.{put-twice, read-put, read-kept}
use Rattle.lol_stack.proofs.Refusals.{on_err_then, on_ok_then}
use Rattle.lol_stack.proofs.counters.CounterLists.start.Goals as goal

pub returns-in-Ok-clause-err : goal.returns-in-Ok-clause-err
returns-in-Ok-clause-err c q =
    let name = c.args.name.now in
    let stands = c.replace-list.ensures.stands name c.in-Ok.ensures.place in
    let was = ap levels_if (c.replace-list.ensures.was name c.in-Ok.ensures.place) in
    let put =
    put-twice c.args.self.now.map c.replace-list.new.self c.replace.new.self name _ (Some c.push-pushed.new.self)
    (c.replace-list.ensures.is name c.in-Ok.ensures.place) (c.replace.ensures.is name stands)
    in
    on_err_then c.push-pushed.result c.push-pushed.ensures.err
    (λ same. read-kept levels_if c.args.self.now.map c.replace.new.self name (Some c.push-pushed.new.self) put (same ∙ sym was) q)

pub returns-in-Ok-clause-ok : goal.returns-in-Ok-clause-ok
returns-in-Ok-clause-ok c q =
    let name = c.args.name.now in
    let stands = c.replace-list.ensures.stands name c.in-Ok.ensures.place in
    let was = ap levels_if (c.replace-list.ensures.was name c.in-Ok.ensures.place) in
    let put =
    put-twice c.args.self.now.map c.replace-list.new.self c.replace.new.self name _ (Some c.push-pushed.new.self)
    (c.replace-list.ensures.is name c.in-Ok.ensures.place) (c.replace.ensures.is name stands)
    in
    on_ok_then c.push-pushed.result c.push-pushed.ensures.ok
    (λ pushed.
    read-put levels_if (λ xs. xs ++ (c.args.index, 1) ∷ []) c.args.self.now.map c.replace.new.self name (Some c.push-pushed.new.self) put
    (pushed ∙ ap (λ xs. xs ++ (c.args.index, 1) ∷ []) (sym was)) q)

pub returns-in_ok-key-in-Err-clause-err : goal.returns-in_ok-key-in-Err-clause-err
returns-in_ok-key-in-Err-clause-err c q = on_err_then c.insert.result (c.insert.ensures.err q) (ap levels_if)
