-- End tags: what each insertion mode says of a name, as tables, and what that means (HTML Standard, 13.2.6.4).
use Rattle.std.specs.Prelude.{ℕ, Bool, false, not, ◌&&◌, if◌then◌else◌, List, [], ◌∷◌, ◌++◌, Option, Some, None}
use Rattle.lol_base.specs.LocalNames.{Name}
use Rattle.lol_tree.specs.TreeStates.{Mode, BeforeHtml, BeforeHead, InHead, InHeadNoscript, AfterHead, InBody, InRawText, InTable, InCaption, InColumnGroup, InTableBody, InRow, InCell, InSelect, InSelectInTable, InTemplate, TreeElement, TreeState, mode_of}
use Rattle.lol_tree.specs.Scopes.{names, said_of, is_called, formatting_names, heading_names, block_names, part_names, body_names, table_names, reaches, bounds_scope, bounds_list_item_scope, bounds_button_scope, bounds_table_scope, is_reached, has_template}
use Rattle.lol_tree.specs.Insertions.{imply, close, close_through, close_reached, close_innermost, close_p, generate_implied_ends, end_numbered}
use Rattle.lol_tree.specs.FormattingRules.{reconstruct, end_formatting, end_any, is_numbered}
use Rattle.lol_tree.specs.StartRules.{Round, Processed, change_mode, move_on, step_out, step_out_of_columns}

-- What is done with an end tag. The clauses of `end_by` say what each means.
pub data EndRule : Type 0 where
  NoEnd MovesOnAtEnd HeadEnd CurrentEnd InnermostEnd ThroughEnd OwnEnd ColumnsEnd GroupEnd : EndRule
  StepsOutAtEnd OuterEnd : (words : List (List ℕ)) → EndRule
  BlockEnd FormEnd ParagraphEnd ItemEnd HeadingEnd FormattingEnd BreakEnd AnyEnd : EndRule

-- 1. Tables

-- 13.2.6.4.7. What comes behind `</body>` and `</html>` goes into the body nevertheless.
unfoldable pub body_end : Name → EndRule
body_end name =
    said_of AnyEnd
    ((names "body html", NoEnd)
    ∷ (block_names ++ names "button applet marquee object dd dt", BlockEnd)
    ∷ (names "form", FormEnd) ∷ (names "p", ParagraphEnd) ∷ (names "li", ItemEnd) ∷ (heading_names, HeadingEnd)
    ∷ (formatting_names, FormattingEnd) ∷ (names "br", BreakEnd) ∷ (names "template", ThroughEnd) ∷ [])
    name

-- in tables: the parts that a mode doesn't close are no part of what is open
unfoldable pub table_end : Name → EndRule
table_end name = said_of (body_end name) ((part_names ++ names "table body html", NoEnd) ∷ []) name

unfoldable pub select_end : Name → EndRule
select_end name = said_of NoEnd ((names "optgroup", GroupEnd) ∷ (names "option", InnermostEnd) ∷ (names "select template", ThroughEnd) ∷ []) name

-- 13.2.6.4.2 to 13.2.6.4.18
unfoldable pub end_rule : Mode → Name → EndRule
end_rule BeforeHtml name = said_of NoEnd ((names "head body html br", MovesOnAtEnd) ∷ []) name
end_rule BeforeHead name = said_of NoEnd ((names "head body html br", MovesOnAtEnd) ∷ []) name
end_rule InHead name = said_of NoEnd ((names "head", HeadEnd) ∷ (names "body html br", MovesOnAtEnd) ∷ (names "template", ThroughEnd) ∷ []) name
end_rule InHeadNoscript name = said_of NoEnd ((names "noscript", CurrentEnd) ∷ (names "br", MovesOnAtEnd) ∷ []) name
end_rule AfterHead name = said_of NoEnd ((names "body html br", MovesOnAtEnd) ∷ (names "template", ThroughEnd) ∷ []) name
end_rule InBody name = body_end name
end_rule InRawText name = CurrentEnd
end_rule InTable name = said_of (table_end name) ((names "table", OwnEnd) ∷ []) name
end_rule InCaption name = said_of (table_end name) ((names "caption", OwnEnd) ∷ (names "table", StepsOutAtEnd (names "caption")) ∷ []) name
end_rule InColumnGroup name = said_of ColumnsEnd ((names "colgroup", InnermostEnd) ∷ (names "col", NoEnd) ∷ (names "template", ThroughEnd) ∷ []) name
end_rule InTableBody name = said_of (table_end name) ((body_names, OwnEnd) ∷ (names "table", StepsOutAtEnd body_names) ∷ []) name
end_rule InRow name =
    said_of (table_end name) ((names "tr", OwnEnd) ∷ (names "table", StepsOutAtEnd (names "tr")) ∷ (body_names, OuterEnd (names "tr")) ∷ []) name
end_rule InCell name =
    said_of (table_end name) ((names "td th", OwnEnd) ∷ (names "table tbody tfoot thead tr", OuterEnd (names "td th")) ∷ []) name
end_rule InSelect name = select_end name
end_rule InSelectInTable name = said_of (select_end name) ((table_names, OuterEnd (names "select")) ∷ []) name
end_rule InTemplate name = said_of NoEnd ((names "template", ThroughEnd) ∷ []) name

-- 2. What rules mean

-- The form ends where it stands, with others open inside it or not. In a template each form ends as a block does.
abbrev pub end_form_of : Option ℕ → TreeState → TreeState
end_form_of None t = t
end_form_of (Some number) t =
    if reaches (λ e. is_numbered number e && not e.has_ended) bounds_scope t.elements then end_numbered number (generate_implied_ends [] t) else t

abbrev pub end_form : TreeState → TreeState
end_form t = if has_template t then close_reached bounds_scope (names "form") t else end_form_of t.form (record t { form = None })

-- A `p` that isn't open is implied, and closed.
abbrev pub end_paragraph : TreeState → TreeState
end_paragraph t = close_p (if is_reached bounds_button_scope (names "p") t then t else imply "p" t)

-- In `select` the end of a group ends an option at its end too.
abbrev pub is_option_in_group : List TreeElement → Bool
is_option_in_group (e ∷ group ∷ outer) = is_called (names "option") e && is_called (names "optgroup") group
is_option_in_group _ = false

abbrev pub end_group : TreeState → TreeState
end_group t = close_innermost (names "optgroup") (if is_option_in_group t.elements then close 1 t else t)

-- The end of an element around is one of these too.
abbrev pub step_out_for : List ℕ → List (List ℕ) → TreeState → Round
step_out_for name words t = if is_reached bounds_table_scope (name ∷ []) t then step_out words t else Processed t

abbrev pub end_by : EndRule → List ℕ → TreeState → Round
end_by NoEnd name t = Processed t
end_by MovesOnAtEnd name t = move_on t
end_by HeadEnd name t = Processed (change_mode AfterHead t)
end_by CurrentEnd name t = Processed (close 1 t)
end_by InnermostEnd name t = Processed (close_innermost (name ∷ []) t)
end_by ThroughEnd name t = Processed (close_through (name ∷ []) t)
end_by OwnEnd name t = Processed (close_reached bounds_table_scope (name ∷ []) t)
end_by (StepsOutAtEnd words) name t = step_out words t
end_by (OuterEnd words) name t = step_out_for name words t
end_by ColumnsEnd name t = step_out_of_columns t
end_by GroupEnd name t = Processed (end_group t)
end_by BlockEnd name t = Processed (close_reached bounds_scope (name ∷ []) t)
end_by FormEnd name t = Processed (end_form t)
end_by ParagraphEnd name t = Processed (end_paragraph t)
end_by ItemEnd name t = Processed (close_reached bounds_list_item_scope (name ∷ []) t)
end_by HeadingEnd name t = Processed (close_reached bounds_scope heading_names t)
end_by FormattingEnd name t = Processed (end_formatting name t)
end_by BreakEnd name t = Processed (imply "br" (reconstruct t))
end_by AnyEnd name t = Processed (end_any name t)

abbrev pub end_in_mode : Name → TreeState → Round
end_in_mode name t = end_by (end_rule (mode_of t) name) name.lowercased t
