-- Start tags: what each insertion mode says of a name, as tables, and what that means (HTML Standard, 13.2.6.4).
use Rattle.std.specs.Prelude.{ℕ, Bool, false, not, ◌&&◌, ◌||◌, if◌then◌else◌, List, [], ◌∷◌, ◌++◌, Some, is_some, codes}
use Prim.Native.String.{String}
use Rattle.lol_base.specs.LocalNames.{Name, local_name}
use Rattle.lol_base.specs.Names.{same_name}
use Rattle.lol_base.specs.StartTags.{StartTag}
use Rattle.lol_instructions.specs.Attributes.{value_among}
use Rattle.lol_instructions.specs.Tests.{has_value}
use Rattle.lol_page.specs.Namespaces.{entered}
use Rattle.lol_tree.specs.TreeStates.{Mode, BeforeHtml, BeforeHead, InHead, InHeadNoscript, AfterHead, InBody, InRawText, InTable, InCaption, InColumnGroup, InTableBody, InRow, InCell, InSelect, InSelectInTable, InTemplate, TreeElement, TreeState, is_in_quirks, mode_of}
use Rattle.lol_tree.specs.Scopes.{names, said_of, formatting_names, heading_names, head_names, block_names, part_names, body_names, table_names, bounds_scope, bounds_items, bounds_table_scope, is_reached, is_innermost, has_template}
use Rattle.lol_tree.specs.Insertions.{insert, insert_in, imply, close, close_through, close_reached, close_innermost, close_p, clear_to, generate_implied_ends}
use Rattle.lol_tree.specs.FormattingRules.{reconstruct, insert_formatting, end_formatting, end_last_listed}

-- 1. Rules

-- A token was processed by the rules of the current mode, or is to be "reprocessed" by those of the mode that holds then.
pub data Round : Type 0 where
  Processed : (t : TreeState) → Round
  Reprocess : (t : TreeState) → Round

-- What is done with a start tag. The clauses of `start_by` say what each means.
pub data StartRule : Type 0 where
  Ignored MovesOn Inserted InsertedBody StepsOutOfColumns : StartRule
  InsertedIn StepsOut : (words : List (List ℕ)) → StartRule
  Implies : (name : String) → (words : List (List ℕ)) → StartRule
  Changes : (mode : Mode) → StartRule
  HiddenInput TableForm SecondSelect ListOption ListGroup : StartRule
  Block Heading FormStart Button Anchor FormattingStart Nobr Table Image NoscriptStart BlockText BodyOption Foreign Ordinary : StartRule
  ItemStart : (words : List (List ℕ)) → StartRule
  Ruby : (but : List (List ℕ)) → StartRule

-- 2. Tables

-- 13.2.6.4.7. What `html` and `body` give to the elements that are open already is left out.
unfoldable pub body_start : Name → StartRule
body_start name =
    said_of Ordinary
    ((names "html body frameset caption col colgroup frame head tbody td tfoot th thead tr", Ignored)
    ∷ (head_names ++ names "param source track textarea iframe noembed", Inserted)
    ∷ (block_names ++ names "p plaintext hr", Block) ∷ (heading_names, Heading) ∷ (names "form", FormStart) ∷ (names "li", ItemStart (names "li")) ∷ (names "dd dt", ItemStart (names "dd dt"))
    ∷ (names "button", Button) ∷ (names "a", Anchor) ∷ (names "nobr", Nobr) ∷ (formatting_names, FormattingStart) ∷ (names "table", Table)
    ∷ (names "image", Image) ∷ (names "noscript", NoscriptStart) ∷ (names "xmp", BlockText) ∷ (names "option optgroup", BodyOption)
    ∷ (names "rb rtc", Ruby []) ∷ (names "rp rt", Ruby (names "rtc")) ∷ (names "math svg", Foreign) ∷ [])
    name

-- 13.2.6.4.9. What isn't of a table is put before it by the Standard ("foster parenting"), and here stays where it is written.
unfoldable pub table_start : Name → StartRule
table_start name =
    said_of (body_start name)
    ((names "caption colgroup tbody tfoot thead", InsertedIn (names "table")) ∷ (names "col", Implies "colgroup" (names "table"))
    ∷ (names "td th tr", Implies "tbody" (names "table")) ∷ (names "table", StepsOut (names "table"))
    ∷ (names "input", HiddenInput) ∷ (names "form", TableForm) ∷ [])
    name

-- In `select`, by the rules that held until 2025: the newer ones let nearly all elements in.
unfoldable pub select_start : Name → StartRule
select_start name =
    said_of Ignored
    ((names "option", ListOption) ∷ (names "optgroup hr", ListGroup) ∷ (names "select", SecondSelect)
    ∷ (names "input keygen textarea", StepsOut (names "select")) ∷ (names "script template", Inserted) ∷ [])
    name

-- 13.2.6.4.2 to 13.2.6.4.18
unfoldable pub start_rule : Mode → Name → StartRule
start_rule BeforeHtml name = said_of MovesOn ((names "html", Inserted) ∷ []) name
start_rule BeforeHead name = said_of MovesOn ((names "html", Ignored) ∷ (names "head", Inserted) ∷ []) name
start_rule InHead name = said_of MovesOn ((names "html head", Ignored) ∷ (head_names ++ names "noscript", Inserted) ∷ []) name
start_rule InHeadNoscript name =
    said_of MovesOn ((names "html head noscript", Ignored) ∷ (names "basefont bgsound link meta noframes style", Inserted) ∷ []) name
start_rule AfterHead name = said_of MovesOn ((names "html head", Ignored) ∷ (head_names, Inserted) ∷ (names "body", InsertedBody) ∷ []) name
start_rule InBody name = body_start name
start_rule InRawText name = Ignored
start_rule InTable name = table_start name
start_rule InCaption name = said_of (body_start name) ((part_names, StepsOut (names "caption")) ∷ []) name
start_rule InColumnGroup name = said_of StepsOutOfColumns ((names "html", Ignored) ∷ (names "col template", Inserted) ∷ []) name
start_rule InTableBody name =
    said_of (table_start name)
    ((names "tr", InsertedIn body_names) ∷ (names "td th", Implies "tr" body_names) ∷ (part_names, StepsOut body_names) ∷ [])
    name
start_rule InRow name = said_of (table_start name) ((names "td th", InsertedIn (names "tr")) ∷ (part_names, StepsOut (names "tr")) ∷ []) name
start_rule InCell name = said_of (body_start name) ((part_names, StepsOut (names "td th")) ∷ []) name
start_rule InSelect name = select_start name
start_rule InSelectInTable name = said_of (select_start name) ((table_names, StepsOut (names "select")) ∷ []) name
start_rule InTemplate name =
    said_of (Changes InBody)
    ((head_names, Inserted) ∷ (names "caption colgroup tbody tfoot thead", Changes InTable) ∷ (names "col", Changes InColumnGroup)
    ∷ (names "tr", Changes InTableBody) ∷ (names "td th", Changes InRow) ∷ [])
    name

-- 3. What rules mean

-- the innermost element gives another mode
abbrev pub innermost_mode : Mode → List TreeElement → List TreeElement
innermost_mode mode [] = []
innermost_mode mode (e ∷ outer) = record e { mode = mode } ∷ outer

abbrev pub change_mode : Mode → TreeState → TreeState
change_mode mode t = record t { elements = innermost_mode mode t.elements }

-- "Anything else" before the body: what a token implies that doesn't belong there. What belongs into the head goes there behind `</head>` too, so the
-- head is closed when the body begins.
abbrev pub move_on_from : Mode → TreeState → TreeState
move_on_from BeforeHtml t = imply "html" t
move_on_from BeforeHead t = imply "head" t
move_on_from InHead t = change_mode AfterHead t
move_on_from AfterHead t = imply "body" (close 1 t)
move_on_from _ t = close 1 t

abbrev pub move_on : TreeState → Round
move_on t = Reprocess (move_on_from (mode_of t) t)

-- One of these is closed, if it is in table scope, and the token is processed again. Else it is ignored.
abbrev pub step_out : List (List ℕ) → TreeState → Round
step_out words t = if is_reached bounds_table_scope words t then Reprocess (close_through words t) else Processed t

-- In a column group (13.2.6.4.12) all but columns leave it, if it is the innermost element.
abbrev pub step_out_of_columns : TreeState → Round
step_out_of_columns t = if is_innermost (names "colgroup") t then Reprocess (close 1 t) else Processed t

-- "any other start tag" in the body
abbrev pub insert_ordinary : StartTag → TreeState → TreeState
insert_ordinary tag t = insert tag (reconstruct t)

abbrev pub is_hidden : StartTag → Bool
is_hidden tag = has_value (value_among (codes "type") tag.attributes) (λ value. same_name value (codes "hidden"))

-- A form is "the form" from then on, unless it stands in a template.
abbrev pub insert_form : StartTag → TreeState → TreeState
insert_form tag t = record (insert tag t) { form = if has_template t then t.form else Some t.given }

abbrev pub start_nobr : TreeState → TreeState
start_nobr t = if is_reached bounds_scope (names "nobr") t then reconstruct (end_formatting (codes "nobr") t) else t

abbrev pub start_in_ruby : List (List ℕ) → TreeState → TreeState
start_in_ruby but t = if is_reached bounds_scope (names "ruby") t then generate_implied_ends but t else t

abbrev pub start_by : StartRule → StartTag → TreeState → Round
start_by Ignored tag t = Processed t
start_by MovesOn tag t = move_on t
start_by Inserted tag t = Processed (insert tag t)
start_by InsertedBody tag t = Processed (insert tag (close 1 t))
start_by (InsertedIn words) tag t = Processed (insert tag (clear_to words t))
start_by (Implies name words) tag t = Reprocess (imply name (clear_to words t))
start_by (StepsOut words) tag t = step_out words t
start_by StepsOutOfColumns tag t = step_out_of_columns t
start_by (Changes mode) tag t = Reprocess (change_mode mode t)
start_by HiddenInput tag t = Processed (if is_hidden tag then insert tag t else insert_ordinary tag t)
start_by TableForm tag t = Processed (if is_some t.form || has_template t then t else close 1 (insert_form tag t))
start_by SecondSelect tag t = Processed (close_through (names "select") t)
start_by ListOption tag t = Processed (insert tag (close_innermost (names "option") t))
start_by ListGroup tag t = Processed (insert tag (close_innermost (names "optgroup") (close_innermost (names "option") t)))
start_by Block tag t = Processed (insert tag (close_p t))
start_by Heading tag t = Processed (insert tag (close_innermost heading_names (close_p t)))
start_by FormStart tag t = Processed (if is_some t.form && not (has_template t) then t else insert_form tag (close_p t))
start_by (ItemStart words) tag t = Processed (insert tag (close_p (close_reached bounds_items words t)))
start_by Button tag t = Processed (insert_ordinary tag (close_reached bounds_scope (names "button") t))
start_by Anchor tag t = Processed (insert_formatting tag (reconstruct (end_last_listed (codes "a") t)))
start_by FormattingStart tag t = Processed (insert_formatting tag (reconstruct t))
start_by Nobr tag t = Processed (insert_formatting tag (start_nobr (reconstruct t)))
start_by Table tag t = Processed (insert tag (if is_in_quirks t.quirks then t else close_p t))
start_by Image tag t = Processed (insert_ordinary (record tag { name = codes "img" }) t)
start_by NoscriptStart tag t = Processed (if t.scripting then insert tag t else insert_ordinary tag t)
start_by BlockText tag t = Processed (insert_ordinary tag (close_p t))
start_by BodyOption tag t = Processed (insert_ordinary tag (close_innermost (names "option") t))
start_by (Ruby but) tag t = Processed (insert tag (start_in_ruby but t))
start_by Foreign tag t = Processed (insert_in (entered (local_name tag.name)) false tag (reconstruct t))
start_by Ordinary tag t = Processed (insert_ordinary tag t)

abbrev pub start_in_mode : StartTag → TreeState → Round
start_in_mode tag t = start_by (start_rule (mode_of t) (local_name tag.name)) tag t
