-- Attributes whose values compare without ASCII case.
use Rattle.std.specs.Prelude.{ℕ, List, [], ◌∷◌, codes}

-- The attributes whose values compare without ASCII case on HTML elements (HTML Standard, "Case-sensitivity of selectors", 4.16.2).
unfoldable pub caseless_attributes : List (List ℕ)
caseless_attributes =
    codes "accept" ∷ codes "accept-charset" ∷ codes "align" ∷ codes "alink" ∷ codes "axis" ∷ codes "bgcolor" ∷ codes "charset" ∷ codes "checked"
    ∷ codes "clear" ∷ codes "codetype" ∷ codes "color" ∷ codes "compact" ∷ codes "declare" ∷ codes "defer" ∷ codes "dir" ∷ codes "direction"
    ∷ codes "disabled" ∷ codes "enctype" ∷ codes "face" ∷ codes "frame" ∷ codes "hreflang" ∷ codes "http-equiv" ∷ codes "lang" ∷ codes "language"
    ∷ codes "link" ∷ codes "media" ∷ codes "method" ∷ codes "multiple" ∷ codes "nohref" ∷ codes "noresize" ∷ codes "noshade" ∷ codes "nowrap"
    ∷ codes "readonly" ∷ codes "rel" ∷ codes "rev" ∷ codes "rules" ∷ codes "scope" ∷ codes "scrolling" ∷ codes "selected" ∷ codes "shape"
    ∷ codes "target" ∷ codes "text" ∷ codes "type" ∷ codes "valign" ∷ codes "valuetype" ∷ codes "vlink" ∷ []
