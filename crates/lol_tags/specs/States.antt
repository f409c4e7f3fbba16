-- What a byte does to a state of the tokenizer (HTML Standard, "Tokenization", 13.2.5). Each function has the number of its section.
--
-- Only what decides where tags stand is here, so these states are one where the Standard has several:
-- - Character references (13.2.5.72 to 80) are no states. None holds a space, a quote, `<` or `>` that isn't read again in the state it began in.
-- - After a quoted value (13.2.5.39), and after a `/` that no `>` follows (13.2.5.40), comes what comes before an attribute's name: the
--   differences are errors.
-- - A DOCTYPE is a bogus comment: in each of its states, in quotes too, the first `>` ends it.
-- - In comments `<` has no states of its own (13.2.5.46 to 49): they make errors alone, and a dash is counted in them as elsewhere.
-- - RCDATA, RAWTEXT and script data differ in characters, and in what `<!` begins in a script.
-- NUL is a byte like others, and a carriage return is a space as the line feed is that the Standard makes of it.
use Rattle.std.specs.Prelude.{ℕ, Bool, true, false, ◌&&◌, ◌||◌, ◌==◌, nat_le, if◌then◌else◌}
use Rattle.std.specs.Str.{byte}
use Rattle.lol_tags.specs.declared.state.State.{State}
use Rattle.lol_tags.specs.declared.state.State.TheVariants.{Data, TagOpen, EndTagOpen, TagName, BeforeAttributeName, AttributeName, AfterAttributeName, BeforeAttributeValue, AttributeValueDoubleQuoted, AttributeValueSingleQuoted, AttributeValueUnquoted, SelfClosingStartTag, BogusComment, MarkupDeclarationOpen, MarkupDash, MarkupBracket, MarkupC, MarkupCd, MarkupCda, MarkupCdat, MarkupCdata, CommentStart, CommentStartDash, Comment, CommentEndDash, CommentEnd, CommentEndBang, CdataSection, CdataSectionBracket, CdataSectionEnd, RawText, RawTextLessThanSign, RawTextEndTagOpen, RawTextEndTagName, ScriptDataEscapeStart, ScriptDataEscapeStartDash, ScriptDataEscaped, ScriptDataEscapedDash, ScriptDataEscapedDashDash, ScriptDataEscapedLessThanSign, ScriptDataEscapedEndTagOpen, ScriptDataEscapedEndTagName, ScriptDataDoubleEscapeStart, ScriptDataDoubleEscaped, ScriptDataDoubleEscapedDash, ScriptDataDoubleEscapedDashDash, ScriptDataDoubleEscapedLessThanSign, ScriptDataDoubleEscapeEnd, Plaintext}

-- tab, line feed, form feed, carriage return, space
abbrev pub is_space : ℕ → Bool
is_space b = b == 32 || b == 10 || b == 9 || b == 13 || b == 12

-- an ASCII letter
abbrev pub is_letter : ℕ → Bool
is_letter b = (nat_le 97 b && nat_le b 122) || (nat_le 65 b && nat_le b 90)

abbrev pub ends_name : ℕ → Bool
ends_name b = is_space b || b == byte "/" || b == byte ">"

-- Tags
abbrev pub text : ℕ → State  -- 13.2.5.1, Data
text b = if b == byte "<" then TagOpen else Data

abbrev pub bogus_comment : ℕ → State  -- 13.2.5.41, and all states of a DOCTYPE, 13.2.5.53 to 13.2.5.68
bogus_comment b = if b == byte ">" then Data else BogusComment

abbrev pub tag_open : ℕ → State  -- 13.2.5.6
tag_open b = if is_letter b then TagName else (if b == byte "/" then EndTagOpen else (if b == byte "!" then MarkupDeclarationOpen else (if b == byte "?" then BogusComment else text b)))

abbrev pub end_tag_open : ℕ → State  -- 13.2.5.7
end_tag_open b = if is_letter b then TagName else bogus_comment b

abbrev pub tag_name : ℕ → State  -- 13.2.5.8
tag_name b = if is_space b then BeforeAttributeName else (if b == byte "/" then SelfClosingStartTag else (if b == byte ">" then Data else TagName))

-- Attributes
abbrev pub before_attribute_name : ℕ → State  -- 13.2.5.32, 13.2.5.39 and 13.2.5.40
before_attribute_name b = if is_space b then BeforeAttributeName else (if b == byte "/" then SelfClosingStartTag else (if b == byte ">" then Data else AttributeName))

abbrev pub attribute_name : ℕ → State  -- 13.2.5.33
attribute_name b = if b == byte "=" then BeforeAttributeValue else (if is_space b then AfterAttributeName else (if b == byte "/" then SelfClosingStartTag else (if b == byte ">" then Data else AttributeName)))

abbrev pub after_attribute_name : ℕ → State  -- 13.2.5.34
after_attribute_name b = if b == byte "=" then BeforeAttributeValue else (if is_space b then AfterAttributeName else before_attribute_name b)

-- 34 and 39 are the quotes.
abbrev pub before_attribute_value : ℕ → State  -- 13.2.5.35
before_attribute_value b = if is_space b then BeforeAttributeValue else (if b == 34 then AttributeValueDoubleQuoted else (if b == 39 then AttributeValueSingleQuoted else (if b == byte ">" then Data else AttributeValueUnquoted)))

abbrev pub double_quoted : ℕ → State  -- 13.2.5.36
double_quoted b = if b == 34 then BeforeAttributeName else AttributeValueDoubleQuoted

abbrev pub single_quoted : ℕ → State  -- 13.2.5.37
single_quoted b = if b == 39 then BeforeAttributeName else AttributeValueSingleQuoted

abbrev pub unquoted : ℕ → State  -- 13.2.5.38
unquoted b = if is_space b then BeforeAttributeName else (if b == byte ">" then Data else AttributeValueUnquoted)

-- Markup declarations, comments and CDATA sections
-- A CDATA section is entered where the current node isn't an HTML element.
abbrev pub markup_declaration_open : ℕ → Bool → State  -- 13.2.5.42
markup_declaration_open b foreign = if b == byte "-" then MarkupDash else (if foreign && b == byte "[" then MarkupBracket else bogus_comment b)

abbrev pub markup_dash : ℕ → State  -- behind `<!-`
markup_dash b = if b == byte "-" then CommentStart else bogus_comment b

-- A byte of `CDATA[` behind `<![`, which is a bogus comment without these.
abbrev pub expected : ℕ → State → ℕ → State
expected wanted next b = if b == wanted then next else bogus_comment b

abbrev pub comment_start : ℕ → State  -- 13.2.5.43
comment_start b = if b == byte "-" then CommentStartDash else (if b == byte ">" then Data else Comment)

abbrev pub comment_start_dash : ℕ → State  -- 13.2.5.44
comment_start_dash b = if b == byte "-" then CommentEnd else (if b == byte ">" then Data else Comment)

abbrev pub comment : ℕ → State  -- 13.2.5.45 to 13.2.5.49
comment b = if b == byte "-" then CommentEndDash else Comment

abbrev pub comment_end_dash : ℕ → State  -- 13.2.5.50
comment_end_dash b = if b == byte "-" then CommentEnd else Comment

abbrev pub comment_end : ℕ → State  -- 13.2.5.51
comment_end b = if b == byte ">" then Data else (if b == byte "!" then CommentEndBang else (if b == byte "-" then CommentEnd else Comment))

abbrev pub comment_end_bang : ℕ → State  -- 13.2.5.52
comment_end_bang b = if b == byte "-" then CommentEndDash else (if b == byte ">" then Data else Comment)

abbrev pub cdata_section : ℕ → State  -- 13.2.5.69
cdata_section b = if b == byte "]" then CdataSectionBracket else CdataSection

abbrev pub cdata_section_bracket : ℕ → State  -- 13.2.5.70
cdata_section_bracket b = if b == byte "]" then CdataSectionEnd else CdataSection

abbrev pub cdata_section_end : ℕ → State  -- 13.2.5.71
cdata_section_end b = if b == byte "]" then CdataSectionEnd else (if b == byte ">" then Data else CdataSection)

-- Texts of elements
abbrev pub raw_text : ℕ → State  -- 13.2.5.2 to 13.2.5.4
raw_text b = if b == byte "<" then RawTextLessThanSign else RawText

abbrev pub raw_text_less_than_sign : ℕ → Bool → State  -- 13.2.5.9, 13.2.5.12 and 13.2.5.15
raw_text_less_than_sign b is_script = if b == byte "/" then RawTextEndTagOpen else (if is_script && b == byte "!" then ScriptDataEscapeStart else raw_text b)

abbrev pub raw_text_end_tag_open : ℕ → State  -- 13.2.5.10, 13.2.5.13 and 13.2.5.16
raw_text_end_tag_open b = if is_letter b then RawTextEndTagName else raw_text b

abbrev pub raw_text_end_tag_name : ℕ → Bool → State  -- 13.2.5.11, 13.2.5.14 and 13.2.5.17
raw_text_end_tag_name b named = if is_letter b then RawTextEndTagName else (if named && ends_name b then tag_name b else raw_text b)

-- Scripts
abbrev pub escape_start : ℕ → State  -- 13.2.5.18
escape_start b = if b == byte "-" then ScriptDataEscapeStartDash else raw_text b

abbrev pub escape_start_dash : ℕ → State  -- 13.2.5.19
escape_start_dash b = if b == byte "-" then ScriptDataEscapedDashDash else raw_text b

abbrev pub escaped : ℕ → State  -- 13.2.5.20
escaped b = if b == byte "-" then ScriptDataEscapedDash else (if b == byte "<" then ScriptDataEscapedLessThanSign else ScriptDataEscaped)

abbrev pub escaped_dash : ℕ → State  -- 13.2.5.21
escaped_dash b = if b == byte "-" then ScriptDataEscapedDashDash else escaped b

abbrev pub escaped_dash_dash : ℕ → State  -- 13.2.5.22
escaped_dash_dash b = if b == byte "-" then ScriptDataEscapedDashDash else (if b == byte ">" then RawText else escaped b)

abbrev pub escaped_less_than_sign : ℕ → State  -- 13.2.5.23
escaped_less_than_sign b = if b == byte "/" then ScriptDataEscapedEndTagOpen else (if is_letter b then ScriptDataDoubleEscapeStart else escaped b)

abbrev pub escaped_end_tag_open : ℕ → State  -- 13.2.5.24
escaped_end_tag_open b = if is_letter b then ScriptDataEscapedEndTagName else escaped b

abbrev pub escaped_end_tag_name : ℕ → Bool → State  -- 13.2.5.25
escaped_end_tag_name b named = if is_letter b then ScriptDataEscapedEndTagName else (if named && ends_name b then tag_name b else escaped b)

abbrev pub double_escape_start : ℕ → Bool → State  -- 13.2.5.26
double_escape_start b named = if is_letter b then ScriptDataDoubleEscapeStart else (if named && ends_name b then ScriptDataDoubleEscaped else (if ends_name b then ScriptDataEscaped else escaped b))

abbrev pub double_escaped : ℕ → State  -- 13.2.5.27
double_escaped b = if b == byte "-" then ScriptDataDoubleEscapedDash else (if b == byte "<" then ScriptDataDoubleEscapedLessThanSign else ScriptDataDoubleEscaped)

abbrev pub double_escaped_dash : ℕ → State  -- 13.2.5.28
double_escaped_dash b = if b == byte "-" then ScriptDataDoubleEscapedDashDash else double_escaped b

abbrev pub double_escaped_dash_dash : ℕ → State  -- 13.2.5.29
double_escaped_dash_dash b = if b == byte "-" then ScriptDataDoubleEscapedDashDash else (if b == byte ">" then RawText else double_escaped b)

abbrev pub double_escaped_less_than_sign : ℕ → State  -- 13.2.5.30
double_escaped_less_than_sign b = if b == byte "/" then ScriptDataDoubleEscapeEnd else double_escaped b

abbrev pub double_escape_end : ℕ → Bool → State  -- 13.2.5.31
double_escape_end b named = if is_letter b then ScriptDataDoubleEscapeEnd else (if named && ends_name b then ScriptDataEscaped else (if ends_name b then ScriptDataDoubleEscaped else double_escaped b))

-- in a script behind `<!`, and in PLAINTEXT (13.2.5.5), which nothing ends
unfoldable pub next_in_script : State → ℕ → Bool → State
next_in_script ScriptDataEscapeStart b named = escape_start b
next_in_script ScriptDataEscapeStartDash b named = escape_start_dash b
next_in_script ScriptDataEscaped b named = escaped b
next_in_script ScriptDataEscapedDash b named = escaped_dash b
next_in_script ScriptDataEscapedDashDash b named = escaped_dash_dash b
next_in_script ScriptDataEscapedLessThanSign b named = escaped_less_than_sign b
next_in_script ScriptDataEscapedEndTagOpen b named = escaped_end_tag_open b
next_in_script ScriptDataEscapedEndTagName b named = escaped_end_tag_name b named
next_in_script ScriptDataDoubleEscapeStart b named = double_escape_start b named
next_in_script ScriptDataDoubleEscaped b named = double_escaped b
next_in_script ScriptDataDoubleEscapedDash b named = double_escaped_dash b
next_in_script ScriptDataDoubleEscapedDashDash b named = double_escaped_dash_dash b
next_in_script ScriptDataDoubleEscapedLessThanSign b named = double_escaped_less_than_sign b
next_in_script ScriptDataDoubleEscapeEnd b named = double_escape_end b named
next_in_script _ b named = Plaintext

-- The state after a byte. `named` says that the name that is read is the one that ends the text, `is_script` that the text is a script's,
-- `foreign` that the current node isn't an HTML element.
unfoldable pub next : State → ℕ → Bool → Bool → Bool → State
next Data b named is_script foreign = text b
next TagOpen b named is_script foreign = tag_open b
next EndTagOpen b named is_script foreign = end_tag_open b
next TagName b named is_script foreign = tag_name b
next BeforeAttributeName b named is_script foreign = before_attribute_name b
next AttributeName b named is_script foreign = attribute_name b
next AfterAttributeName b named is_script foreign = after_attribute_name b
next BeforeAttributeValue b named is_script foreign = before_attribute_value b
next AttributeValueDoubleQuoted b named is_script foreign = double_quoted b
next AttributeValueSingleQuoted b named is_script foreign = single_quoted b
next AttributeValueUnquoted b named is_script foreign = unquoted b
next SelfClosingStartTag b named is_script foreign = before_attribute_name b
next BogusComment b named is_script foreign = bogus_comment b
next MarkupDeclarationOpen b named is_script foreign = markup_declaration_open b foreign
next MarkupDash b named is_script foreign = markup_dash b
next MarkupBracket b named is_script foreign = expected (byte "C") MarkupC b
next MarkupC b named is_script foreign = expected (byte "D") MarkupCd b
next MarkupCd b named is_script foreign = expected (byte "A") MarkupCda b
next MarkupCda b named is_script foreign = expected (byte "T") MarkupCdat b
next MarkupCdat b named is_script foreign = expected (byte "A") MarkupCdata b
next MarkupCdata b named is_script foreign = expected (byte "[") CdataSection b
next CommentStart b named is_script foreign = comment_start b
next CommentStartDash b named is_script foreign = comment_start_dash b
next Comment b named is_script foreign = comment b
next CommentEndDash b named is_script foreign = comment_end_dash b
next CommentEnd b named is_script foreign = comment_end b
next CommentEndBang b named is_script foreign = comment_end_bang b
next CdataSection b named is_script foreign = cdata_section b
next CdataSectionBracket b named is_script foreign = cdata_section_bracket b
next CdataSectionEnd b named is_script foreign = cdata_section_end b
next RawText b named is_script foreign = raw_text b
next RawTextLessThanSign b named is_script foreign = raw_text_less_than_sign b is_script
next RawTextEndTagOpen b named is_script foreign = raw_text_end_tag_open b
next RawTextEndTagName b named is_script foreign = raw_text_end_tag_name b named
next s b named is_script foreign = next_in_script s b named

-- whether a `>` ends a tag
unfoldable pub is_in_tag : State → Bool → Bool
is_in_tag TagName named = true
is_in_tag BeforeAttributeName named = true
is_in_tag AttributeName named = true
is_in_tag AfterAttributeName named = true
is_in_tag BeforeAttributeValue named = true
is_in_tag AttributeValueUnquoted named = true
is_in_tag SelfClosingStartTag named = true
is_in_tag RawTextEndTagName named = named
is_in_tag ScriptDataEscapedEndTagName named = named
is_in_tag _ named = false

-- whether a tag that ends here closes itself
unfoldable pub is_self_closing : State → Bool
is_self_closing SelfClosingStartTag = true
is_self_closing _ = false
