-- What running an instruction answers.
use Rattle.std.specs.Prelude.{ℕ, ◌≡◌, Bool, true, false, Option, Some, None}
use Rattle.lol_instructions.specs.declared.name_value.NameValue.{NameValue}
use Rattle.lol_instructions.specs.declared.name_value.NameValue.TheVariants.{True, False, Open}
use Rattle.lol_instructions.specs.declared.execution_branch.ExecutionBranch.{ExecutionBranch}
use Rattle.lol_instructions.specs.declared.instruction.TryExecResult.{TryExecResult}
use Rattle.lol_instructions.specs.declared.instruction.TryExecResult.TheVariants.{Branch, AttributesRequired, Fail}

-- the answer without attributes, by the value by names
abbrev pub Answers : TryExecResult → NameValue → ExecutionBranch → Type 0
Answers (Branch given) value branch = (value ≡ True) × (given.now ≡ branch)
Answers AttributesRequired value branch = value ≡ Open
Answers Fail value branch = value ≡ False

-- the branch of an element that passes
abbrev pub branch_if : Bool → ExecutionBranch → Option ExecutionBranch
branch_if true branch = Some branch
branch_if false branch = None

-- attributes are tried exactly where the value by names is open
abbrev pub tries_of_attributes : NameValue → ℕ
tries_of_attributes True = 0
tries_of_attributes False = 0
tries_of_attributes Open = 1
