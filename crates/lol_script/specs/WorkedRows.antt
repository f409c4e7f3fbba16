-- Names for worked rows.
use Rattle.std.specs.Prelude.{Bool, List, ℕ, Option}
use Rattle.lol_base.specs.StartTags.{Attribute}
use Rattle.lol_base.specs.declared.namespace.Namespace.{Namespace}
use Rattle.lol_script.specs.Script.{Line, StartLine}
use Rattle.lol_script.specs.Scripts.{Output}
use Rattle.lol_script.specs.declared.program.Status.{Status}

abbrev pub attribute : List ℕ → Option (List ℕ) → Attribute
attribute name value = record { name = name; value = value }

-- A start tag by its name, its namespace, its attributes, whether it closes itself, and whether its attributes are handed over.
abbrev pub start_line : List ℕ → Namespace → List Attribute → Bool → Bool → Line
start_line name ns attributes self_closing finish =
    StartLine (record { name = name; namespace = ns; attributes = attributes; self_closing = self_closing; finish = finish })

-- an output by its text, and how the run ends
abbrev pub written : List ℕ → Status → Output
written text status = record { text = text; status = status }
