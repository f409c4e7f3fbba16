-- What the code's lines and tags say.
use Rattle.std.specs.Prelude.{ℕ, ◌≡◌, All, map, List, [], Option, Some, None}
use Rattle.std.specs.Borrow.{Bor}
use Rattle.std.specs.List.{slice_split}
use Rattle.lol_base.specs.StartTags.{StartTag, attribute_of, OutlineIsInside}
use Rattle.lol_base.specs.declared.start_tag.AttributeOutline.{AttributeOutline}
use Rattle.lol_script.specs.Script as script
use Rattle.lol_script.specs.Script.{is_tab, attribute_at}
use Rattle.lol_script.specs.declared.lines.Line.{Line}
use Rattle.lol_script.specs.declared.lines.Line.TheVariants.{Setting, Start, End}
use Rattle.lol_script.specs.declared.lines.Setting.{Setting as SettingOf}
use Rattle.lol_script.specs.declared.lines.Setting.TheVariants.{Limit, Esi, Tries, Explain, Rows, Select}
use Rattle.lol_script.specs.declared.lines.StartLine.{StartLine}

-- the fields of the rest of a line, if there is one
abbrev pub fields_of : Option (Bor (List ℕ)) → List (List ℕ)
fields_of None = []
fields_of (Some rest) = slice_split is_tab rest.now

-- the attributes of a line as a text, which tabs part
abbrev pub text_of : Option (Bor (List ℕ)) → List ℕ
text_of None = []
text_of (Some text) = text.now

-- Outlines of a line's attributes are those of its fields, in order, and each lies inside the text.
abbrev pub AreOutlinesOf : Option (Bor (List ℕ)) → List AttributeOutline → Type 0
AreOutlinesOf attributes outlines =
    (map (attribute_of (text_of attributes)) outlines ≡ map attribute_at (fields_of attributes)) × All (OutlineIsInside (text_of attributes)) outlines

-- the start tag of a line
abbrev pub start_tag_of : StartLine → StartTag
start_tag_of line =
    record { name = line.name.now; namespace = line.ns; attributes = map attribute_at (fields_of line.attributes); self_closing = line.self_closing; finish = line.finish }

abbrev pub set_by : SettingOf → script.Line
set_by (Limit maximum) = script.SetLimit maximum
set_by Esi = script.TurnEsiOn
set_by Tries = script.ShowTries
set_by Explain = script.ShowReasons
set_by (Rows fewest) = script.MakeRows fewest
set_by (Select id text) = script.Select id text.now

-- what the code's line says
abbrev pub said_by : Line → script.Line
said_by (Setting setting) = set_by setting
said_by (Start line) = script.StartLine (start_tag_of line)
said_by (End name) = script.EndLine name.now

-- the outlines are those of a start line's attributes; another line has none
abbrev pub HasOutlines : List AttributeOutline → Line → Type 0
HasOutlines outlines (Setting setting) = Unit {0}
HasOutlines outlines (Start line) = AreOutlinesOf line.attributes outlines
HasOutlines outlines (End name) = Unit {0}
