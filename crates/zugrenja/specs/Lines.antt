-- The lines that are written for the matches of a page.
use Rattle.std.specs.Prelude.{ℕ, ◌-◌, Bool, ◌==◌, ◌||◌, if◌then◌else◌, List, [], ◌∷◌, ◌++◌, get_or, length, map, Option, Some, None, string_bytes, codes, decimal}
use Rattle.std.specs.List.{flat_map, join_with_byte}
use Rattle.std.specs.Option.{option_map}
use Rattle.std.specs.Str.{byte}
use Rattle.lol_base.specs.CodePoints.{carriage_return, line_feed}
use Rattle.lol_base.specs.Names.{lowercased}
use Rattle.lol_instructions.specs.Attributes.{value_among}
use Rattle.lol_memory.specs.declared.match_info.MatchInfo.{MatchInfo}
use Rattle.lol_machine.specs.Answers.{Match}
use Rattle.lol_machine.specs.Views.{match_of}
use Rattle.lol_page.specs.PageTags.{PageTag}
use Rattle.lol_page.specs.Pages.{attributes_read}
use Rattle.lol_page.specs.Readings.{with_text}
use Rattle.lol_page.specs.declared.page_reader.PlacedTag.{PlacedTag}
use Rattle.lol_page.specs.PageMatches.{PageMatch}
use Rattle.zugrenja.specs.Json.{json_member, json_string}
use Rattle.zugrenja.specs.declared.arguments.Output.{Output}
use Rattle.zugrenja.specs.declared.arguments.Output.TheVariants.{Tags, Ids, Names, Count, Json, Attribute}
use Rattle.zugrenja.specs.declared.lines.Style.{Style}

-- a tag of a page that a reader gave, and what it is reported under
abbrev pub match_at : List ℕ → PlacedTag → List MatchInfo → PageMatch
match_at text placed matches = record { tag = with_text text placed; matched = map match_of matches }

-- 1. Parts of a line

-- the page's name; standard input has none
abbrev pub page_of : Style → Option (List ℕ)
page_of style = option_map (λ name. string_bytes name) style.page

abbrev pub shown_page : Option (List ℕ) → List ℕ
shown_page None = codes "(standard input)"
shown_page (Some name) = name

-- `page:`, where pages are named
abbrev pub page_prefix : Bool → Option (List ℕ) → List ℕ
page_prefix named page = if named then shown_page page ++ codes ":" else []

abbrev pub prefix_of : Style → List ℕ
prefix_of style = page_prefix style.named (page_of style)

-- `page:line:column: `
abbrev pub place : List ℕ → ℕ → ℕ → List ℕ
place prefix line column = prefix ++ (decimal line ++ (codes ":" ++ (decimal column ++ codes ": ")))

-- the numbers of the selectors, as `1,3`
abbrev pub numbers : List Match → List ℕ
numbers matched = join_with_byte (byte ",") (map (λ (m : Match). decimal m.id) matched)

-- a number behind another one
abbrev pub later_number : MatchInfo → List ℕ
later_number m = codes "," ++ decimal m.match_id

-- `1,3: `, where there are several selectors
abbrev pub numbers_part : Bool → List Match → List ℕ
numbers_part numbered matched = if numbered then numbers matched ++ codes ": " else []

-- a text without its line ends
abbrev pub in_one_line : List ℕ → List ℕ
in_one_line text = map (λ b. if b == line_feed || b == carriage_return then byte " " else b) text

-- the value of the attribute of a name of a tag, decoded or as it is written
abbrev pub value_of : Bool → List ℕ → PageTag → Option (List ℕ)
value_of decoded name tag = value_among (lowercased name) (attributes_read decoded tag.text (tag.tag.name_end - tag.tag.start))

-- the members of a JSON object, each with a comma
abbrev pub page_member : Option (List ℕ) → List ℕ
page_member None = []
page_member (Some name) = json_member (codes "page") (json_string name) ++ codes ","

unfoldable pub number_member : List ℕ → ℕ → List ℕ
number_member name number = json_member name (decimal number) ++ codes ","

unfoldable pub place_members : PageTag → List ℕ
place_members tag =
    number_member (codes "line") tag.line
    ++ (number_member (codes "column") tag.column ++ (number_member (codes "offset") tag.tag.start ++ number_member (codes "length") (length tag.text)))

unfoldable pub selectors_member : List Match → List ℕ
selectors_member matched = json_member (codes "selectors") (codes "[" ++ (numbers matched ++ codes "]")) ++ codes ","

unfoldable pub tag_member : List ℕ → List ℕ
tag_member text = json_member (codes "tag") (json_string text)

-- 2. Lines

-- `page:line:column: 1,3: text`
unfoldable pub text_line : List ℕ → Bool → ℕ → ℕ → List Match → List ℕ → List ℕ
text_line prefix numbered line column matched text =
    place prefix line column ++ (numbers_part numbered matched ++ (in_one_line text ++ line_feed ∷ []))

abbrev pub value_line : List ℕ → Bool → ℕ → ℕ → List Match → Option (List ℕ) → List ℕ
value_line prefix numbered line column matched None = []
value_line prefix numbered line column matched (Some value) = text_line prefix numbered line column matched value

-- `page:line:column: 1,3`
unfoldable pub numbers_line : List ℕ → ℕ → ℕ → List Match → List ℕ
numbers_line prefix line column matched = place prefix line column ++ (numbers matched ++ line_feed ∷ [])

-- the text of the selector of a number
abbrev pub selector_of : Style → ℕ → List ℕ
selector_of style number = get_or (map (λ text. string_bytes text) style.selectors.items) (number - 1) []

-- `page:line:column: selector`
abbrev pub name_line : Style → ℕ → ℕ → Match → List ℕ
name_line style line column m = place (prefix_of style) line column ++ (in_one_line (selector_of style m.id) ++ line_feed ∷ [])

unfoldable pub json_line : Option (List ℕ) → PageMatch → List ℕ
json_line page m =
    codes "{" ++ (page_member page ++ (place_members m.tag ++ (selectors_member m.matched ++ (tag_member m.tag.text ++ (codes "}" ++ line_feed ∷ [])))))

abbrev pub line_in : Output → Style → PageMatch → List ℕ
line_in Tags style m = text_line (prefix_of style) style.numbered m.tag.line m.tag.column m.matched m.tag.text
line_in Ids style m = numbers_line (prefix_of style) m.tag.line m.tag.column m.matched
line_in Names style m = flat_map (name_line style m.tag.line m.tag.column) m.matched
line_in Count style m = []
line_in Json style m = json_line (page_of style) m
line_in (Attribute name) style m = value_line (prefix_of style) style.numbered m.tag.line m.tag.column m.matched (value_of style.decoded (string_bytes name) m.tag)

-- the line of a match, which has its line feed
unfoldable pub line_of : Style → PageMatch → List ℕ
line_of style m = line_in style.output style m

-- the lines of matches
abbrev pub lines_of : Style → List PageMatch → List ℕ
lines_of style matches = flat_map (line_of style) matches

unfoldable pub count_line : List ℕ → ℕ → List ℕ
count_line prefix count = prefix ++ (decimal count ++ line_feed ∷ [])

abbrev pub end_in : Output → Style → ℕ → List ℕ
end_in Count style count = count_line (prefix_of style) count
end_in other style count = []

-- what stands behind the lines of so many matches
abbrev pub end_of : Style → ℕ → List ℕ
end_of style count = end_in style.output style count

-- All that is written for a page.
abbrev pub page_lines : Style → List PageMatch → List ℕ
page_lines style matches = lines_of style matches ++ end_of style (length matches)
