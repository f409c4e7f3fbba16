-- The tags of a stream of bytes, as places in it.
use Rattle.std.specs.Prelude.{ℕ, ◌+◌, ◌-◌, ◌*◌, ◌%◌, ◌^◌, Bool, true, false, ◌&&◌, ◌||◌, ◌==◌, nat_lt, if◌then◌else◌, List, fold, Option, Some, None, codes}
use Rattle.std.specs.Str.{byte}
use Rattle.lol_tags.specs.Runs.{run, given}
use Rattle.lol_tags.specs.States.{is_letter, next, is_in_tag, is_self_closing}
use Rattle.lol_tags.specs.declared.state.State.{State}
use Rattle.lol_tags.specs.declared.state.State.TheVariants.{Data, TagOpen, EndTagOpen, TagName, BeforeAttributeName, AttributeName, AfterAttributeName, BeforeAttributeValue, AttributeValueDoubleQuoted, AttributeValueSingleQuoted, AttributeValueUnquoted, SelfClosingStartTag, RawText, RawTextLessThanSign, RawTextEndTagOpen, RawTextEndTagName, ScriptDataEscapedLessThanSign, ScriptDataEscapedEndTagOpen, ScriptDataEscapedEndTagName, ScriptDataDoubleEscapeStart, ScriptDataDoubleEscapedLessThanSign, ScriptDataDoubleEscapeEnd, Plaintext}
use Rattle.lol_tags.specs.declared.reader.Tag.{Tag}
use Rattle.lol_tags.specs.declared.reader.TagReader.{TagReader}

-- 1. Names, and the text of elements

-- The code of a name with one more byte: five bits for each letter, in any case, of up to 12 letters; any other name has the last code.
abbrev pub with_byte : ℕ → ℕ → ℕ
with_byte code b = if nat_lt code (2 ^ 55) && is_letter b then code * 32 + b % 32 else 2 ^ 64 - 1

abbrev pub name_code : List ℕ → ℕ
name_code name = fold with_byte 0 name

abbrev pub script : ℕ
script = name_code (codes "script")

-- The elements whose text is RCDATA, RAWTEXT or script data (13.2.6.4.4 and 13.2.6.4.7).
abbrev pub has_raw_text : ℕ → Bool → Bool
has_raw_text code scripting =
    code == script || code == name_code (codes "style") || code == name_code (codes "title") || code == name_code (codes "textarea")
    || code == name_code (codes "xmp") || code == name_code (codes "iframe") || code == name_code (codes "noembed")
    || code == name_code (codes "noframes") || (scripting && code == name_code (codes "noscript"))

-- the state after the start tag of an HTML element of that name
abbrev pub text_state : ℕ → Bool → State
text_state code scripting =
    if has_raw_text code scripting then RawText else (if code == name_code (codes "plaintext") then Plaintext else Data)

-- 2. One byte

-- The name that is read is that of the element whose text it stands in: an appropriate end tag.
abbrev pub is_named : TagReader → Bool
is_named r = r.code == r.text_code

abbrev pub is_script : TagReader → Bool
is_script r = r.text_code == script

-- `<`
abbrev pub opened : TagReader → TagReader
opened r = record r { start = r.at; is_end = false; code = 0 }

-- `</`
abbrev pub ending : TagReader → TagReader
ending r = record r { is_end = true }

-- one more byte of a name
abbrev pub spelled : TagReader → ℕ → TagReader
spelled r b = record r { code = with_byte r.code b; name_end = r.at + 1 }

-- What is noted of a byte that leads to a state. The names in 13.2.5.26 and 31 are those of no tag.
unfoldable pub noted : State → TagReader → ℕ → TagReader
noted TagOpen r b = opened r
noted RawTextLessThanSign r b = opened r
noted ScriptDataEscapedLessThanSign r b = opened r
noted ScriptDataDoubleEscapedLessThanSign r b = opened r
noted EndTagOpen r b = ending r
noted RawTextEndTagOpen r b = ending r
noted ScriptDataEscapedEndTagOpen r b = ending r
noted TagName r b = spelled r b
noted RawTextEndTagName r b = spelled r b
noted ScriptDataEscapedEndTagName r b = spelled r b
noted ScriptDataDoubleEscapeStart r b = spelled r b
noted ScriptDataDoubleEscapeEnd r b = if b == byte "/" then r else spelled r b
noted _ r b = r

-- whether a byte ends a tag
abbrev pub ends : TagReader → ℕ → Bool
ends r b = b == byte ">" && is_in_tag r.state (is_named r)

-- After a start tag comes the text that its name tells.
abbrev pub closed : TagReader → TagReader
closed r = if r.is_end then r else record r { text_code = r.code; state = text_state r.code r.scripting }

abbrev pub moved : TagReader → ℕ → State → TagReader
moved r b state = record (noted state r b) { state = state; at = r.at + 1 }

abbrev pub advanced : TagReader → ℕ → TagReader
advanced r b = moved r b (next r.state b (is_named r) (is_script r) r.foreign)

-- the reader after a byte
unfoldable pub step : TagReader → ℕ → TagReader
step r b = if ends r b then closed (advanced r b) else advanced r b

abbrev pub tag_at : TagReader → Tag
tag_at r = record { start = r.start; name_end = r.name_end; end = r.at + 1; is_end = r.is_end; self_closing = is_self_closing r.state }

-- the tag that a byte ends
unfoldable pub ended : TagReader → ℕ → Option Tag
ended r b = if ends r b then Some (tag_at r) else None

-- 3. All bytes

-- a reader at the start of a stream, where scripts run or don't
abbrev pub fresh : Bool → TagReader
fresh scripting = record { state = Data; at = 0; start = 0; name_end = 0; is_end = false; code = 0; text_code = 0; scripting = scripting; foreign = false }

-- where a reader stands after some bytes
abbrev pub after : TagReader → List ℕ → TagReader
after r bytes = run step r bytes

-- the tags that end in some bytes
abbrev pub tags_from : TagReader → List ℕ → List Tag
tags_from r bytes = given step ended r bytes

-- The tags of a stream, where each element is an HTML element.
abbrev pub tags_of : Bool → List ℕ → List Tag
tags_of scripting bytes = tags_from (fresh scripting) bytes

-- A reader that is told whether the current node is another than an HTML element. There no element has a text of its own kind.
abbrev pub told_foreign : Bool → TagReader → TagReader
told_foreign foreign r = if foreign then record r { foreign = true; state = Data } else record r { foreign = false }

-- 4. A tag that isn't whole yet

-- whether the `<` at `start` may still begin a tag
unfoldable pub may_be_tag : State → Bool
may_be_tag TagOpen = true
may_be_tag EndTagOpen = true
may_be_tag TagName = true
may_be_tag BeforeAttributeName = true
may_be_tag AttributeName = true
may_be_tag AfterAttributeName = true
may_be_tag BeforeAttributeValue = true
may_be_tag AttributeValueDoubleQuoted = true
may_be_tag AttributeValueSingleQuoted = true
may_be_tag AttributeValueUnquoted = true
may_be_tag SelfClosingStartTag = true
may_be_tag RawTextLessThanSign = true
may_be_tag RawTextEndTagOpen = true
may_be_tag RawTextEndTagName = true
may_be_tag ScriptDataEscapedLessThanSign = true
may_be_tag ScriptDataEscapedEndTagOpen = true
may_be_tag ScriptDataEscapedEndTagName = true
may_be_tag _ = false

-- the place of that `<`
abbrev pub unfinished : TagReader → Option ℕ
unfinished r = if may_be_tag r.state then Some r.start else None
