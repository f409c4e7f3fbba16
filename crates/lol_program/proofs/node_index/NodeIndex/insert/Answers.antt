use Rattle.lol_program.specs.Views.{tests_of_compound}
use Rattle.lol_program.specs.declared.node_index.NodeIndex.{NodeIndex}
use Rattle.lol_program.proofs.Indexing.{keeps_at_free, listed_at_free}
use Rattle.lol_program.proofs.node_index.NodeIndex.insert.Goals as goal

pub returns-clause-listed : goal.returns-clause-listed
returns-clause-listed c =
    let old = c.args.self.now in
    let new : NodeIndex = record { alloc = old.alloc; indices = c.insert.new.self; node_count = old.node_count } in
    listed_at_free old new c.in-Some.key c.args.index c.in_ok-insert.ensures.updates c.args.list.now (tests_of_compound c.args.compound.now) c.in-Some.ensures.some

pub returns-clause-keeps : goal.returns-clause-keeps
returns-clause-keeps c =
    let old = c.args.self.now in
    let new : NodeIndex = record { alloc = old.alloc; indices = c.insert.new.self; node_count = old.node_count } in
    let free = c.in-Some.ensures.some in
    keeps_at_free old new c.in-Some.key c.args.index c.in_ok-insert.ensures.updates free.free
