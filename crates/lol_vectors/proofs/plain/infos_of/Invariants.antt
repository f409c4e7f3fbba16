use Rattle.std.proofs.Common.{◌≡◌, map}
use Rattle.lol_machine.specs.Views.{match_of}
use Rattle.lol_vectors.proofs.plain.infos_of.Given as goal

abbrev pub invariant-loop-match_id : goal.invariant-loop-match_id
invariant-loop-match_id l = map match_of l.infos.items ≡ map (λ id. record { id = id; with_content = l.with_content }) l.yielded
