-- Names of elements and attributes. A name is a list of bytes, and ASCII case doesn't count in it
-- (HTML Standard, "ASCII case-insensitive"; DOM, "HTML-uppercased qualified name").
use Rattle.std.specs.Prelude.{ℕ, Bool, List, [], ◌∷◌, codes}
use Rattle.std.specs.Str.{bytes_eq, str_to_ascii_lowercase}
use Rattle.std.specs.List.{list_any}

-- a name with its ASCII letters in lower case
abbrev pub lowercased : List ℕ → List ℕ
lowercased name = str_to_ascii_lowercase name

-- Whether two names are equal up to ASCII case.
abbrev pub same_name : List ℕ → List ℕ → Bool
same_name a b = bytes_eq (lowercased a) (lowercased b)

-- The elements of HTML that never have content: the void elements (HTML Standard, "Elements", 13.1.2), with the obsolete
-- ones that its parser closes at once (13.2.6.4.7).
unfoldable pub void_names : List (List ℕ)
void_names =
    codes "area" ∷ codes "base" ∷ codes "basefont" ∷ codes "bgsound" ∷ codes "br" ∷ codes "col" ∷ codes "embed" ∷ codes "hr" ∷ codes "img"
    ∷ codes "input" ∷ codes "keygen" ∷ codes "link" ∷ codes "meta" ∷ codes "param" ∷ codes "source" ∷ codes "track" ∷ codes "wbr" ∷ []

-- The names, spelled exactly so, that are void where ESI is on (ESI Language Specification 1.0, 3.1 and 3.7).
unfoldable pub esi_names : List (List ℕ)
esi_names = codes "esi:include" ∷ codes "esi:comment" ∷ []

-- Whether a name is one of the void names.
abbrev pub is_void : List ℕ → Bool
is_void name = list_any (same_name name) void_names

-- Whether a name is one of the two of ESI.
abbrev pub is_esi : List ℕ → Bool
is_esi name = list_any (bytes_eq name) esi_names
