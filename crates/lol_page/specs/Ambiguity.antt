-- Start tags behind which a browser's tree decides how text is read. No tree is built, so names alone tell where one may leave a tag out.
use Rattle.std.specs.Prelude.{ℕ, ◌+◌, ◌-◌, ◌^◌, Bool, true, false, not, ◌&&◌, ◌||◌, nat_lt, min, if◌then◌else◌, List, [], ◌∷◌, Option, Some, None, codes}
use Rattle.lol_base.specs.LocalNames.{Name, local_name}
use Rattle.lol_page.specs.Namespaces.{is_among, is_spelled}
use Rattle.lol_page.specs.declared.tree_doubts.TreeDoubts.{TreeDoubts}

-- Those that change how text is read: to text that is raw (13.2.6.4.4, 13.2.6.4.7), or to that of svg and math, which has CDATA sections (13.2.5.42).
unfoldable pub text_tags : List (List ℕ)
text_tags =
    codes "textarea" ∷ codes "title" ∷ codes "style" ∷ codes "xmp" ∷ codes "iframe" ∷ codes "noembed" ∷ codes "noframes" ∷ codes "script"
    ∷ codes "plaintext" ∷ codes "svg" ∷ codes "math" ∷ []

abbrev pub changes_text : Bool → Name → Bool
changes_text scripting name = is_among name text_tags || (scripting && is_spelled name (codes "noscript"))

-- Where a tree may leave out a start tag of that name:
--   in a template that has a `col` (13.2.6.4.18, 13.2.6.4.12), or stands in a `select`: any;
--   in a `select` all of them but `script`, and `textarea`, which ends it (13.2.6.4.16);
--   behind `frameset` all of them but `noframes` (13.2.6.4.20, 13.2.6.4.21).
-- Elsewhere each is read as raw, also where it is moved out of a table (13.2.6.4.9).
abbrev pub may_leave_out : TreeDoubts → Name → Bool
may_leave_out d name =
    d.in_odd_template || (d.in_select && not (is_among name (codes "script" ∷ codes "textarea" ∷ [])))
    || (d.has_frameset && not (is_spelled name (codes "noframes")))

abbrev pub is_unclear : TreeDoubts → Name → Bool
is_unclear d name = changes_text d.scripting name && may_leave_out d name

-- Behind a start tag. A `select` may be open from its own tag to the next of those that end it (13.2.6.4.16), but not to one in a template inside it.
abbrev pub behind_start : TreeDoubts → Name → TreeDoubts
behind_start d name =
    if is_spelled name (codes "template")
    then record d { templates = min (d.templates + 1) (2 ^ 64 - 1); in_odd_template = d.in_odd_template || d.in_select }
    else (if is_spelled name (codes "col") then record d { in_odd_template = d.in_odd_template || nat_lt 0 d.templates }
    else (if is_spelled name (codes "select") then record d { in_select = true }
    else (if is_among name (codes "input" ∷ codes "keygen" ∷ codes "textarea" ∷ []) then record d { in_select = d.in_select && d.in_odd_template }
    else (if is_spelled name (codes "frameset") then record d { has_frameset = true } else d))))

-- Behind an end tag. Templates are counted by their tags, wherever these stand: there are never more.
abbrev pub behind_end : TreeDoubts → Name → TreeDoubts
behind_end d name =
    if is_spelled name (codes "template")
    then record d { templates = d.templates - 1; in_odd_template = d.in_odd_template && nat_lt 1 d.templates }
    else (if is_spelled name (codes "select") then record d { in_select = d.in_select && d.in_odd_template } else d)

-- What is known at the start of a page, if doubts are to be refused.
abbrev pub first_doubts : Bool → Bool → Option TreeDoubts
first_doubts strict scripting =
    if strict then Some (record { scripting = scripting; templates = 0; in_odd_template = false; in_select = false; has_frameset = false }) else None

-- whether the tag of a name is ambiguous, an end tag or not
abbrev pub is_ambiguous : Option TreeDoubts → List ℕ → Bool → Bool
is_ambiguous None name is_end = false
is_ambiguous (Some d) name is_end = not is_end && is_unclear d (local_name name)

-- what is known behind it
abbrev pub doubts_behind : Option TreeDoubts → List ℕ → Bool → Option TreeDoubts
doubts_behind None name is_end = None
doubts_behind (Some d) name is_end = Some (if is_end then behind_end d (local_name name) else behind_start d (local_name name))
