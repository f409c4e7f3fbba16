use Rattle.lol_memory.proofs.FormLemmas.{scattered_sparse, scattered_last, scattered_same, scattered_count}
use Rattle.lol_memory.proofs.sparse_words.scatter.Goals as goal

pub returns-clause-sparse : goal.returns-clause-sparse
returns-clause-sparse c =
    rw c.in_ok-push.ensures.items (scattered_sparse c.args.words.now c.in_ok-sparse.sparse.items c.args.last c.in_ok-sparse.ensures c.requires.some c.requires.after c.requires.held)

pub returns-clause-last : goal.returns-clause-last
returns-clause-last c =
    rw c.in_ok-push.ensures.items (scattered_last c.args.words.now c.in_ok-sparse.sparse.items c.args.last c.in_ok-sparse.ensures c.requires.some c.requires.after c.requires.held)

pub returns-clause-same : goal.returns-clause-same
returns-clause-same c j other =
    rw c.in_ok-push.ensures.items (scattered_same c.args.words.now c.in_ok-sparse.sparse.items c.args.last c.in_ok-sparse.ensures c.requires.some c.requires.after c.requires.held j other)

pub returns-clause-count : goal.returns-clause-count
returns-clause-count c =
    rw c.in_ok-push.ensures.items (scattered_count c.args.words.now c.in_ok-sparse.sparse.items c.args.last c.in_ok-sparse.ensures c.requires.some c.requires.after c.requires.held)
