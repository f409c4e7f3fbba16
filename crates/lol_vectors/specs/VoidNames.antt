-- Worked rows: elements of HTML that never have content, and names near theirs (HTML Standard, "Elements", 13.1.2, with the obsolete names
-- that its parser closes at once, 13.2.6.4.7; ESI Language Specification 1.0, 3.1 and 3.7).
use Rattle.std.specs.Prelude.{ℕ, ◌≡◌, Bool, List, [], ◌∷◌, map, codes}
use Rattle.lol_machine.specs.Events.{Event, End}
use Rattle.lol_machine.specs.Answers.{Answer, Started, Ended, answers}
use Rattle.lol_vectors.specs.Runs.{looked_for, with_content, without_content}

-- Each name in lower case, in capitals, and mixed.
abbrev pub without_any_content : List (List ℕ)
without_any_content =
    codes "area" ∷ codes "base" ∷ codes "basefont" ∷ codes "bgsound" ∷ codes "br" ∷ codes "col" ∷ codes "embed" ∷ codes "hr" ∷ codes "img"
    ∷ codes "input" ∷ codes "keygen" ∷ codes "link" ∷ codes "meta" ∷ codes "param" ∷ codes "source" ∷ codes "track" ∷ codes "wbr"
    ∷ codes "AREA" ∷ codes "BASE" ∷ codes "BASEFONT" ∷ codes "BGSOUND" ∷ codes "BR" ∷ codes "COL" ∷ codes "EMBED" ∷ codes "HR" ∷ codes "IMG"
    ∷ codes "INPUT" ∷ codes "KEYGEN" ∷ codes "LINK" ∷ codes "META" ∷ codes "PARAM" ∷ codes "SOURCE" ∷ codes "TRACK" ∷ codes "WBR"
    ∷ codes "Area" ∷ codes "bAsE" ∷ codes "baseFont" ∷ codes "BGsound" ∷ codes "bR" ∷ codes "Col" ∷ codes "emBed" ∷ codes "Hr" ∷ codes "iMg"
    ∷ codes "inPut" ∷ codes "KeyGen" ∷ codes "linK" ∷ codes "mEta" ∷ codes "parAm" ∷ codes "souRCe" ∷ codes "tracK" ∷ codes "wBr" ∷ []

-- Names that are none of them. `frame` is closed at once in a frameset alone, `menuitem` and `command` once were.
abbrev pub near_misses : List (List ℕ)
near_misses =
    codes "frame" ∷ codes "menuitem" ∷ codes "image" ∷ codes "command" ∷ codes "brr" ∷ codes "b" ∷ codes "r" ∷ codes "area2" ∷ codes "are"
    ∷ codes "bases" ∷ codes "font" ∷ codes "basefon" ∷ codes "sound" ∷ codes "colgroup" ∷ codes "embe" ∷ codes "h1" ∷ codes "im" ∷ codes "images"
    ∷ codes "inputs" ∷ codes "keygens" ∷ codes "links" ∷ codes "met" ∷ codes "metadata" ∷ codes "params" ∷ codes "sources" ∷ codes "tracks"
    ∷ codes "wbrs" ∷ codes "a" ∷ codes "div" ∷ codes "br-" ∷ codes "br:x" ∷ []

abbrev pub names_of_esi : List (List ℕ)
names_of_esi = codes "esi:include" ∷ codes "esi:comment" ∷ []

abbrev pub near_esi : List (List ℕ)
near_esi =
    codes "ESI:INCLUDE" ∷ codes "Esi:Include" ∷ codes "esi:Comment" ∷ codes "ESI:comment" ∷ codes "esi:includes" ∷ codes "esi:inline" ∷ codes "esi:remove"
    ∷ codes "esi:try" ∷ codes "esi" ∷ codes "include" ∷ codes "comment" ∷ []

-- Under `*`: the answers to a tag and the end tag of its name.
abbrev pub answered : Bool → (List ℕ → Event) → List ℕ → List Answer
answered esi start_tag name = answers (looked_for ((codes "*", 0) ∷ [])) esi (start_tag name ∷ End name ∷ [])

-- The element is reported as one without content, and its end tag closes nothing; or it is opened, and its end tag closes it.
-- Attributes are asked for outside HTML.
abbrev pub opens_nothing : Bool → List Answer
opens_nothing asked = Started (without_content 0 ∷ []) asked 1 0 ∷ Ended [] ∷ []

abbrev pub opens : Bool → List Answer
opens asked = Started (with_content 0 ∷ []) asked 1 0 ∷ Ended (0 ∷ []) ∷ []

-- each name of a list is answered so
abbrev pub AllAnswer : Bool → (List ℕ → Event) → List (List ℕ) → List Answer → Type 0
AllAnswer esi start_tag names wanted = map (answered esi start_tag) names ≡ map (λ name. wanted) names
