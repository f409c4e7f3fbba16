-- What statuses and refusals say.
use Rattle.std.specs.Prelude.{ℕ, nat_eq, if◌then◌else◌, List, [], ◌∷◌, get_or, codes}
use Rattle.std.specs.Str.{byte}

-- what the statuses say, from 0
abbrev pub status_texts : List (List ℕ)
status_texts =
    codes "done" ∷
    codes "the start tag's attributes are asked for" ∷
    codes "a line of the script is bad" ∷
    codes "a tag of the script was refused" ∷
    codes "out of memory" ∷
    codes "the handle has no matcher" ∷
    codes "the handle has a matcher already" ∷
    codes "the matcher isn't built yet" ∷
    codes "the matcher is built already" ∷
    codes "the text isn't UTF-8" ∷
    codes "the text isn't accepted as a selector" ∷
    codes "no namespace has this number" ∷
    codes "the memory limit would have been passed: too many elements are open at a time" ∷
    codes "an element has as many children as can be counted" ∷
    codes "out of memory" ∷
    codes "an earlier start tag was refused: no other is answered" ∷
    codes "no start tag waits for its attributes" ∷
    codes "the range of an attribute's name or value lies outside the input" ∷
    codes "the last tag has opened no element" ∷
    codes "the matcher doesn't explain" ∷
    codes "there are more items of selectors than ids" ∷
    codes "the matcher explains, and has no rows" ∷
    []

-- what the causes say for which a text isn't accepted, from 0
abbrev pub cause_texts : List (List ℕ)
cause_texts =
    codes "Unexpected token in selector." ∷
    codes "Unexpected end of selector." ∷
    codes "Missing attribute name in attribute selector." ∷
    codes "The selector is empty." ∷
    codes "Dangling combinator in selector." ∷
    codes "Unexpected token in the attribute selector." ∷
    codes "Unsupported pseudo-class or pseudo-element in selector." ∷
    codes "Nested negation in selector." ∷
    codes "Selectors with explicit namespaces are not supported." ∷
    codes "Invalid or unescaped class name in selector." ∷
    codes "Empty negation in selector." ∷
    codes "Unsupported combinator in selector." ∷
    codes "Unsupported syntax in selector." ∷
    []

-- what a cause says, with the combinator that isn't supported
abbrev pub cause_text : ℕ → ℕ → List ℕ
cause_text cause combinator =
    if nat_eq cause 11 then
    (if nat_eq combinator (byte "+") then codes "Unsupported combinator `+` in selector."
    else if nat_eq combinator (byte "~") then codes "Unsupported combinator `~` in selector."
    else get_or cause_texts cause [])
    else get_or cause_texts cause (codes "unknown cause")

-- what a status says, or, of a text that isn't accepted, its cause
abbrev pub text_for : ℕ → ℕ → ℕ → List ℕ
text_for status cause combinator =
    if nat_eq status 10 then cause_text cause combinator
    else get_or status_texts status (codes "unknown status")
