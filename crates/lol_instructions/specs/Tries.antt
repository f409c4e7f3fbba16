-- What a contract sees of a count of tries.
use Rattle.std.specs.Prelude.{ℕ}
use Rattle.lol_instructions.specs.declared.tries.Tries.{Tries}

abbrev pub names_counted : Tries → ℕ
names_counted tries = tries.names

abbrev pub attributes_counted : Tries → ℕ
attributes_counted tries = tries.attributes
