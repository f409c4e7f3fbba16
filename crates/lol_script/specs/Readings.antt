-- What the code has read of a script.
use Rattle.std.specs.Prelude.{◌≡◌, ℕ, true, false, List, [], ◌++◌, Option, Some, Result, Ok, Err}
use Rattle.std.specs.Io.KnownBytes.{IsAtEnd}
use Rattle.lol_css.specs.Accepting.{accept}
use Rattle.lol_css.specs.Trees.{Items}
use Rattle.lol_program.specs.Paths.{all_beginnings}
use Rattle.lol_program.specs.Asts.{pairs_of, nodes_of, is_with_rows}
use Rattle.lol_program.specs.Conditions.{pairs_under}
use Rattle.lol_program.specs.Sets.{Joins, SameMembers}
use Rattle.lol_program.specs.declared.ast.Ast.{Ast}
use Rattle.lol_script.specs.Devices.{IsReadFault, Reads, device_of, failures_of}
use Rattle.lol_script.specs.ReadLines.{ReadLines, later_lines}
use Rattle.lol_script.specs.Script.{Line, StartLine, EndLine}
use Rattle.lol_script.specs.Scripts.{Script, pairs_in, read_lines, read_script}
use Rattle.lol_script.specs.SelectLines.{KeepsLines}
use Rattle.lol_script.specs.declared.bad_line.BadLine.{BadLine}
use Rattle.lol_script.specs.declared.device.Counted.{Counted}
use Rattle.lol_script.specs.declared.device.RunFault.TheVariants.{Memory}
use Rattle.lol_script.specs.declared.settings.Settings.{Settings}
use Rattle.lol_script.specs.declared.settings.Stop.{Stop}
use Rattle.lol_script.specs.declared.settings.Stop.TheVariants.{Fault, Bad}

-- 1. Settings

-- The code has these settings and lines, and its tree, which is without rows, has these pairs and their beginnings, as sets; no tag
-- was read.
pub record IsReading (code : Settings) (s : Script) : Type 0 where
  pub limit : code.limit ≡ s.limit
  pub esi : code.esi ≡ s.esi
  pub shows_tries : code.shows_tries ≡ s.shows_tries
  pub explains : code.explains ≡ s.explains
  pub rows_from : code.rows_from ≡ s.rows_from
  pub pairs : SameMembers (pairs_in s) (pairs_of code.ast)
  pub nodes : SameMembers (all_beginnings (pairs_in s)) (nodes_of code.ast)
  pub rows : is_with_rows code.ast ≡ false
  pub selects : KeepsLines code.selects s.selects
  pub none : s.events ≡ []

-- For each script of the definition that the code has read so far.
abbrev pub ForReading : Settings → (Script → Type 0) → Type 0
ForReading code holds = (s : Script) → IsReading code s → holds s

-- what was read stands for what the definition gives
abbrev pub ReadsScript : Settings → Result Script BadLine → Type 0
ReadsScript code defined = (s : Script) × IsReading code s × (defined ≡ Ok s)

-- the selectors of a text are added to those of a tree, under an id
pub record AddsSelectors (text : List ℕ) (id : ℕ) (old new : Ast) : Type 0 where
  pub items : Items
  pub read : accept text ≡ Ok items
  pub pairs : Joins (pairs_of old) (pairs_of new) (pairs_under id items)
  pub nodes : Joins (nodes_of old) (nodes_of new) (all_beginnings (pairs_under id items))
  pub rows : is_with_rows new ≡ is_with_rows old

-- a bad line is that of the definition; else memory was refused
abbrev pub Stops : Stop → Result Script BadLine → Type 0
Stops (Fault fault) defined = fault ≡ Memory
Stops (Bad bad) defined = defined ≡ Err bad

-- a line of a tag
abbrev pub IsTagLine : Option Line → Type 0
IsTagLine (Some (StartLine tag)) = Unit {0}
IsTagLine (Some (EndLine name)) = Unit {0}
IsTagLine other = ⊥

-- 2. Lines

module _ {D : Type 0} (remaining : D → Option (List ℕ)) (old new : Counted D) (lines : ReadLines) where
  -- Bytes were read. Whatever is read later, unless the line is the last: these lines and those that come after them say what the
  -- whole script does, read on with this one from this number.
  pub record IsReadTo (number : ℕ) (s : Script) (left : List (List ℕ)) : Type 0 where
    pub bytes : List ℕ
    pub read : Reads remaining old new bytes
    pub says : (later : List ℕ) → (lines.is_last ≡ true → later ≡ [])
        → read_lines number s (left ++ later_lines lines later) ≡ read_script (bytes ++ later)
    pub end : lines.is_last ≡ true → IsAtEnd (remaining (device_of new))
    pub failures : failures_of new ≡ failures_of old

  -- Bytes were read, and with them the script is bad, whatever is read later.
  pub record IsBad (bad : BadLine) : Type 0 where
    pub bytes : List ℕ
    pub read : Reads remaining old new bytes
    pub says : (later : List ℕ) → (lines.is_last ≡ true → later ≡ []) → read_script (bytes ++ later) ≡ Err bad
    pub end : lines.is_last ≡ true → IsAtEnd (remaining (device_of new))
    pub failures : failures_of new ≡ failures_of old

  -- why reading stopped
  abbrev pub IsStop : Stop → Type 0
  IsStop (Fault fault) = IsReadFault old new fault
  IsStop (Bad bad) = IsBad bad
