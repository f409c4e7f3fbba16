-- Worked rows: attributes whose values compare without ASCII case on elements of HTML, and names near theirs (HTML Standard,
-- "Case-sensitivity of selectors", 4.16.2).
use Rattle.std.specs.Prelude.{ℕ, ◌≡◌, List, [], ◌∷◌, ◌++◌, map, codes}
use Rattle.lol_base.specs.declared.namespace.Namespace.TheVariants.{Html, Svg, MathML}
use Rattle.lol_vectors.specs.Runs.{start_with, written, told}

abbrev pub caseless_names : List (List ℕ)
caseless_names =
    codes "accept" ∷ codes "accept-charset" ∷ codes "align" ∷ codes "alink" ∷ codes "axis" ∷ codes "bgcolor" ∷ codes "charset" ∷ codes "checked"
    ∷ codes "clear" ∷ codes "codetype" ∷ codes "color" ∷ codes "compact" ∷ codes "declare" ∷ codes "defer" ∷ codes "dir" ∷ codes "direction"
    ∷ codes "disabled" ∷ codes "enctype" ∷ codes "face" ∷ codes "frame" ∷ codes "hreflang" ∷ codes "http-equiv" ∷ codes "lang" ∷ codes "language"
    ∷ codes "link" ∷ codes "media" ∷ codes "method" ∷ codes "multiple" ∷ codes "nohref" ∷ codes "noresize" ∷ codes "noshade" ∷ codes "nowrap"
    ∷ codes "readonly" ∷ codes "rel" ∷ codes "rev" ∷ codes "rules" ∷ codes "scope" ∷ codes "scrolling" ∷ codes "selected" ∷ codes "shape"
    ∷ codes "target" ∷ codes "text" ∷ codes "type" ∷ codes "valign" ∷ codes "valuetype" ∷ codes "vlink" ∷ []

-- some of them as they may be written
abbrev pub caseless_spellings : List (List ℕ)
caseless_spellings = codes "TYPE" ∷ codes "Http-Equiv" ∷ codes "Accept-Charset" ∷ codes "hrefLANG" ∷ codes "Rel" ∷ []

abbrev pub exact_names : List (List ℕ)
exact_names =
    codes "href" ∷ codes "class" ∷ codes "id" ∷ codes "value" ∷ codes "name" ∷ codes "data-type" ∷ codes "types" ∷ codes "typ" ∷ codes "la"
    ∷ codes "langs" ∷ codes "src" ∷ codes "alt" ∷ codes "title" ∷ codes "action" ∷ codes "for" ∷ codes "style" ∷ codes "width" ∷ codes "height"
    ∷ codes "placeholder" ∷ codes "pattern" ∷ codes "http" ∷ codes "equiv" ∷ codes "http-equivs" ∷ codes "accept-" ∷ codes "accept_charset"
    ∷ codes "acceptcharset" ∷ codes "charsets" ∷ codes "role" ∷ codes "aria-label" ∷ codes "onclick" ∷ codes "content" ∷ codes "summary"
    ∷ codes "size" ∷ codes "tabindex" ∷ codes "check" ∷ codes "selecte" ∷ codes "bg" ∷ codes "colors" ∷ codes "rels" ∷ codes "re" ∷ codes "tex"
    ∷ codes "background" ∷ codes "cite" ∷ codes "span" ∷ []

-- `[name=TEXT]` with flags
abbrev pub compared_with : List ℕ → List ℕ → List ℕ
compared_with name rest = codes "[" ++ name ++ codes "=" ++ rest ++ codes "]"

-- What elements of HTML, SVG and MathML are reported under that have the attribute with the value `text`. It is compared with `TEXT`:
-- without a flag under 0, with the flag `s` under 1, and with the flag `i` under 2. Under 3 it is compared with `text`.
abbrev pub reported : List ℕ → List (List ℕ)
reported name =
    told ((compared_with name (codes "TEXT"), 0) ∷ (compared_with name (codes "TEXT s"), 1) ∷ (compared_with name (codes "TEXT i"), 2) ∷ (compared_with name (codes "text"), 3) ∷ [])
    (start_with Html (codes "a") (written name (codes "text") ∷ []) ∷ start_with Svg (codes "a") (written name (codes "text") ∷ [])
    ∷ start_with MathML (codes "a") (written name (codes "text") ∷ []) ∷ [])

abbrev pub caseless_in_html_alone : List (List ℕ)
caseless_in_html_alone = (0 ∷ 2 ∷ 3 ∷ []) ∷ (2 ∷ 3 ∷ []) ∷ (2 ∷ 3 ∷ []) ∷ []

abbrev pub exact_everywhere : List (List ℕ)
exact_everywhere = (2 ∷ 3 ∷ []) ∷ (2 ∷ 3 ∷ []) ∷ (2 ∷ 3 ∷ []) ∷ []

abbrev pub AllReported : List (List ℕ) → List (List ℕ) → Type 0
AllReported names wanted = map reported names ≡ map (λ name. wanted) names
