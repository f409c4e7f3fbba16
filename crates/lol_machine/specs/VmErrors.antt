-- What a start tag is answered with that isn't answered with its report.
use Rattle.lol_memory.specs.declared.limited_vec.PushError.{PushError}
use Rattle.lol_memory.specs.declared.limited_vec.PushError.TheVariants as pushes
use Rattle.lol_machine.specs.declared.error.VmError.{VmError}
use Rattle.lol_machine.specs.declared.error.VmError.TheVariants.{InfoRequest, MemoryLimitExceeded, Memory, CounterFull, Failed}
use Rattle.lol_stack.specs.declared.stack.AddChildError.{AddChildError}
use Rattle.lol_stack.specs.declared.stack.AddChildError.TheVariants as children

module _ {E : Type 0} where
  abbrev pub child_error : AddChildError → VmError E
  child_error children.CounterFull = CounterFull
  child_error (children.Memory error) = Memory error

  abbrev pub push_error : PushError → VmError E
  push_error (pushes.Limit error) = MemoryLimitExceeded error
  push_error (pushes.Memory error) = Memory error

-- what a start tag is answered with where nothing is refused but by the parent's counter
abbrev pub IsAskedOrFull : {E : Type 0} → VmError E → Type 0
IsAskedOrFull (InfoRequest request) = Unit {0}
IsAskedOrFull (MemoryLimitExceeded error) = ⊥
IsAskedOrFull (Memory error) = ⊥
IsAskedOrFull CounterFull = Unit {0}
IsAskedOrFull Failed = ⊥

-- whether an answer is another one than that memory was refused
abbrev pub IsNotForMemory : {E : Type 0} → VmError E → Type 0
IsNotForMemory (InfoRequest request) = Unit {0}
IsNotForMemory (MemoryLimitExceeded error) = Unit {0}
IsNotForMemory (Memory error) = ⊥
IsNotForMemory CounterFull = Unit {0}
IsNotForMemory Failed = Unit {0}
