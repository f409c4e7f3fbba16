-- What a doctype says of quirks mode (HTML Standard, 13.2.6.4.1, "The 'initial' insertion mode").
use Rattle.std.specs.Prelude.{ℕ, ◌==◌, Bool, false, not, ◌&&◌, ◌||◌, List, ◌++◌, Option, Some, None, is_none, nat_eq, codes}
use Prim.Native.String.{String}
use Rattle.std.specs.List.{list_any, slice_split, starts_with}
use Rattle.lol_base.specs.Names.{lowercased, same_name}

-- A DOCTYPE token (13.2.5).
pub record Doctype : Type 0 where
  pub name : List ℕ
  pub public_id : Option (List ℕ)
  pub system_id : Option (List ℕ)
  pub force_quirks : Bool

-- the parts of a text (124 is the bar)
abbrev pub between_bars : String → List (List ℕ)
between_bars text = slice_split (λ b. b == 124) (codes text)

-- what a public identifier begins with
unfoldable pub quirks_starts : List (List ℕ)
quirks_starts =
    between_bars "+//silmaril//dtd html pro v0r11 19970101//|-//as//dtd html 3.0 aswedit + extensions//"
    ++ between_bars "-//advasoft ltd//dtd html 3.0 aswedit + extensions//|-//ietf//dtd html 2.0 level 1//|-//ietf//dtd html 2.0 level 2//"
    ++ between_bars "-//ietf//dtd html 2.0 strict level 1//|-//ietf//dtd html 2.0 strict level 2//|-//ietf//dtd html 2.0 strict//"
    ++ between_bars "-//ietf//dtd html 2.0//|-//ietf//dtd html 2.1e//|-//ietf//dtd html 3.0//|-//ietf//dtd html 3.2 final//|-//ietf//dtd html 3.2//"
    ++ between_bars "-//ietf//dtd html 3//|-//ietf//dtd html level 0//|-//ietf//dtd html level 1//|-//ietf//dtd html level 2//"
    ++ between_bars "-//ietf//dtd html level 3//|-//ietf//dtd html strict level 0//|-//ietf//dtd html strict level 1//"
    ++ between_bars "-//ietf//dtd html strict level 2//|-//ietf//dtd html strict level 3//|-//ietf//dtd html strict//|-//ietf//dtd html//"
    ++ between_bars "-//metrius//dtd metrius presentational//|-//microsoft//dtd internet explorer 2.0 html strict//"
    ++ between_bars "-//microsoft//dtd internet explorer 2.0 html//|-//microsoft//dtd internet explorer 2.0 tables//"
    ++ between_bars "-//microsoft//dtd internet explorer 3.0 html strict//|-//microsoft//dtd internet explorer 3.0 html//"
    ++ between_bars "-//microsoft//dtd internet explorer 3.0 tables//|-//netscape comm. corp.//dtd html//|-//netscape comm. corp.//dtd strict html//"
    ++ between_bars "-//o'reilly and associates//dtd html 2.0//|-//o'reilly and associates//dtd html extended 1.0//"
    ++ between_bars "-//o'reilly and associates//dtd html extended relaxed 1.0//|-//sq//dtd html 2.0 hotmetal + extensions//"
    ++ between_bars "-//softquad software//dtd hotmetal pro 6.0::19990601::extensions to html 4.0//"
    ++ between_bars "-//softquad//dtd hotmetal pro 4.0::19971010::extensions to html 4.0//|-//spyglass//dtd html 2.0 extended//"
    ++ between_bars "-//sun microsystems corp.//dtd hotjava html//|-//sun microsystems corp.//dtd hotjava strict html//|-//w3c//dtd html 3 1995-03-24//"
    ++ between_bars "-//w3c//dtd html 3.2 draft//|-//w3c//dtd html 3.2 final//|-//w3c//dtd html 3.2//|-//w3c//dtd html 3.2s draft//"
    ++ between_bars "-//w3c//dtd html 4.0 frameset//|-//w3c//dtd html 4.0 transitional//|-//w3c//dtd html experimental 19960712//"
    ++ between_bars "-//w3c//dtd html experimental 970421//|-//w3c//dtd w3 html//|-//w3o//dtd w3 html 3.0//|-//webtechs//dtd mozilla html 2.0//"
    ++ between_bars "-//webtechs//dtd mozilla html//"

-- what one begins with, if there is no system identifier
unfoldable pub frameset_starts : List (List ℕ)
frameset_starts = between_bars "-//w3c//dtd html 4.01 frameset//|-//w3c//dtd html 4.01 transitional//"

-- what one is
unfoldable pub quirks_ids : List (List ℕ)
quirks_ids = between_bars "-//w3o//dtd w3 html strict 3.0//en//|-/w3c/dtd html 4.0 transitional/en|html"

abbrev pub begins_with_one : List (List ℕ) → List ℕ → Bool
begins_with_one starts id = list_any (starts_with nat_eq (lowercased id)) starts

abbrev pub is_quirks_public : Option (List ℕ) → Option (List ℕ) → Bool
is_quirks_public None system_id = false
is_quirks_public (Some id) system_id =
    begins_with_one quirks_starts id || (list_any (same_name id) quirks_ids || (is_none system_id && begins_with_one frameset_starts id))

abbrev pub is_quirks_system : Option (List ℕ) → Bool
is_quirks_system None = false
is_quirks_system (Some id) = same_name id (codes "http://www.ibm.com/data/dtd/v11/ibmxhtml1-transitional.dtd")

abbrev pub says_quirks : Doctype → Bool
says_quirks d = d.force_quirks || (not (same_name d.name (codes "html")) || (is_quirks_public d.public_id d.system_id || is_quirks_system d.system_id))
