use Rattle.std.proofs.Common.{ap}
use Rattle.std.proofs.lemmas.Result.{on_ok_weaker}
use Rattle.std.specs.Option.{option_copied}
use Rattle.lol_rows.specs.declared.row_kind.RowKind.TheVariants.{Names, Pairs}
use Rattle.lol_rows.proofs.Deciding.{can_find_by_name, can_find_by_pair}
use Rattle.lol_rows.proofs.rows.Rows.add_left.Goals as goal

pub returns-in-None-clause-left : goal.returns-in-None-clause-left
returns-in-None-clause-left c = on_ok_weaker c.add_left.result (λ left rows its. left Names (can_find_by_name c.args.instructions.now c.args.self.now.names c.args.keys.now its rows.names (ap option_copied c.in-None.is))) c.add_left.ensures.left

pub returns-in-None-clause-no_memory : goal.returns-in-None-clause-no_memory
returns-in-None-clause-no_memory c = λ rows its. c.add_left.ensures.no_memory Names (can_find_by_name c.args.instructions.now c.args.self.now.names c.args.keys.now its rows.names (ap option_copied c.in-None.is))

pub returns-in-Some-clause-left : goal.returns-in-Some-clause-left
returns-in-Some-clause-left c = on_ok_weaker c.add_left-in-Some.result (λ left rows its. left Pairs (can_find_by_pair c.args.instructions.now c.args.self.now.pairs c.args.keys.now its _ rows.pairs (ap option_copied c.in-Some.is))) c.add_left-in-Some.ensures.left

pub returns-in-Some-clause-no_memory : goal.returns-in-Some-clause-no_memory
returns-in-Some-clause-no_memory c = λ rows its. c.add_left-in-Some.ensures.no_memory Pairs (can_find_by_pair c.args.instructions.now c.args.self.now.pairs c.args.keys.now its _ rows.pairs (ap option_copied c.in-Some.is))
