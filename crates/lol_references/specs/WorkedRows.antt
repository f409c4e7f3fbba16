-- Values as they are written, and what they stand for, by the examples and the rules of the HTML Standard.
use Rattle.std.specs.Prelude.{ℕ, List, [], ◌∷◌, ◌++◌, map, codes, encode_utf8_all}
use Rattle.lol_references.specs.Decoding.{decoded}

-- a value, and the characters that it stands for
pub record ValueRow : Type 0 where
  pub written : List ℕ
  pub characters : List ℕ

abbrev pub is : List ℕ → List ℕ → ValueRow
is written characters = record { written = written; characters = characters }

abbrev pub stays : List ℕ → ValueRow
stays written = is written written

abbrev pub decoded_rows : List ValueRow → List (List ℕ)
decoded_rows rows = map (λ (row : ValueRow). decoded row.written) rows

abbrev pub said : List ValueRow → List (List ℕ)
said rows = map (λ (row : ValueRow). encode_utf8_all row.characters) rows

-- names: the longest one is read, to its semicolon or without one
abbrev pub name_rows : List ValueRow
name_rows =
    is (codes "a&amp;lt;b") (codes "a&lt;b")
    ∷ is (codes "I'm &notin; I") (codes "I'm " ++ 0x2209 ∷ codes " I")
    ∷ is (codes "&ngE;") (0x2267 ∷ 0x338 ∷ [])
    ∷ is (codes "&fjlig;&NewLine;") (codes "fj" ++ 10 ∷ [])
    ∷ is (codes "&amp&LT") (codes "&<")
    ∷ is (codes "?art&copy") (codes "?art" ++ 0xA9 ∷ [])
    ∷ is (codes "&copy;=1") (0xA9 ∷ codes "=1")
    ∷ is (codes "&copy-1&copy&") (0xA9 ∷ codes "-1" ++ 0xA9 ∷ codes "&")
    ∷ is (codes "&CounterClockwiseContourIntegral;") (0x2233 ∷ [])
    ∷ []

-- ampersands that stay: names without a semicolon before `=`, a letter or a digit, and what is no name
abbrev pub left_rows : List ValueRow
left_rows =
    stays (codes "I'm &notit; I")
    ∷ stays (codes "?a=1&copy=1")
    ∷ stays (codes "&ampx")
    ∷ stays (codes "&amp1")
    ∷ stays (codes "&am")
    ∷ stays (codes "?bill&ted;")
    ∷ stays (codes "&AMp;&Copy;")
    ∷ stays (codes "&&;& &")
    ∷ stays (codes "&1;&a")
    ∷ []

-- numbers
abbrev pub number_rows : List ValueRow
number_rows =
    is (codes "&#65;&#x41;&#X4a;&#065&#x4Ag") (codes "AAJAJg")
    ∷ is (codes "&#x80;&#159;&#x81;") (0x20AC ∷ 0x178 ∷ 0x81 ∷ [])
    ∷ is (codes "&#0;&#xD800;&#xDFFF;") (0xFFFD ∷ 0xFFFD ∷ 0xFFFD ∷ [])
    ∷ is (codes "&#1114111;&#1114112;") (0x10FFFF ∷ 0xFFFD ∷ [])
    ∷ is (codes "&#x99999999999999999999;") (0xFFFD ∷ [])
    ∷ is (codes "&#13;&#xFFFE=") (13 ∷ 0xFFFE ∷ codes "=")
    ∷ stays (codes "&#&#;&#x&#X;&#xg&#a;&# 1")
    ∷ []
