-- What the code's programs stand for.
use Rattle.std.specs.Prelude.{Bool, List, map, Option, Some, None, is_some}
use Rattle.std.specs.Global.{Global}
use Rattle.lol_memory.specs.Ids.{ascending}
use Rattle.lol_instructions.specs.Attributes.{tag_attributes}
use Rattle.lol_instructions.specs.Compiled.{sight_of, predicate_value, predicate_holds}
use Rattle.lol_instructions.specs.CompiledKeys.{keys_in}
use Rattle.lol_rows.specs.Rows.{AreRowsOf}
use Rattle.lol_rows.specs.declared.rows.Rows.{Rows}
use Rattle.lol_program.specs.Programs.{Instruction, Program}
use Rattle.lol_program.specs.declared.compiler.Compiler.{Compiler}
use Rattle.lol_instructions.specs.declared.instruction.Instruction as code
use Rattle.lol_program.specs.declared.program.Program as program

-- an instruction by what it says of elements, where children are counted by type or aren't
abbrev pub instruction_shown : Bool → code.Instruction → Instruction
instruction_shown by_type i =
    record {
      value = λ e. predicate_value i.predicate (sight_of by_type e);
      holds = λ e. predicate_holds i.predicate (sight_of by_type e) (tag_attributes e.tag);
      keys = keys_in i.predicate;
      ids = ascending i.associated_branch.matched_ids;
      jumps = i.associated_branch.jumps;
      hereditary_jumps = i.associated_branch.hereditary_jumps;
    }

abbrev pub code_of : Bool → List code.Instruction → List Instruction
code_of by_type instructions = map (instruction_shown by_type) instructions

-- A program, run with a count by type exactly where it asks for one.
abbrev pub program_shown : program.Program → Program
program_shown p =
    record {
      entry = p.entry_points;
      instructions = code_of p.enable_nth_of_type p.instructions.items;
      by_type = p.enable_nth_of_type;
    }

-- rows of these instructions, or none
abbrev pub AreItsRows : List code.Instruction → Option Rows → Type 0
AreItsRows instructions None = Unit {0}
AreItsRows instructions (Some rows) = AreRowsOf instructions rows

-- Where a program has rows, they are of its instructions.
abbrev pub HasItsRows : program.Program → Type 0
HasItsRows p = AreItsRows p.instructions.items p.rows

abbrev pub has_rows : program.Program → Bool
has_rows p = is_some p.rows

-- where a compiler takes memory
abbrev pub allocator_of : Compiler → Global
allocator_of compiler = compiler.alloc

-- whether it makes each program with rows
abbrev pub makes_rows : Compiler → Bool
makes_rows compiler = compiler.with_rows
