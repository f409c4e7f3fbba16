-- Lines whose texts are read again.
use Rattle.std.proofs.Common.{◌≡◌, ℕ, ◌+◌, ◌<◌, List, [], ◌∷◌, ◌++◌, length, map, take, drop, get_or, Result, Ok, Err, refl, sym, ap, ◌∙◌, arith}
use Rattle.std.specs.Prelude.{min}
use Rattle.std.specs.List.{flat_map}
use Rattle.std.proofs.Math.Seq.{drop-append_seam, take-append_seam}
use Rattle.std.proofs.lemmas.List.{drop_more, get_or-map, length-append, length-map, map-append}
use Rattle.lol_base.specs.ListLaws.{get_or-any, mapped_more}
use Rattle.lol_css.specs.Accepting.{accept}
use Rattle.lol_css.specs.Trees.{Items, NoItems}
use Rattle.lol_css.specs.declared.error.SelectorError.{SelectorError}
use Rattle.lol_reasons.specs.Explanations.{Text}
use Rattle.lol_script.specs.SelectLines.{KeptLine, text_accepted, text_read, with_length}
use Rattle.lol_script.specs.declared.select_lines.KeptLine as code

abbrev no_line : KeptLine
no_line = record { number = 0; id = 0; text = [] }

abbrev text_in : KeptLine → List ℕ
text_in k = k.text

module _ (kept : List KeptLine) (lines : List code.KeptLine) (i : ℕ) (told : List Text) where
  -- so many lines were read, and this is the rest
  abbrev pub AreRead : ℕ → List Text → List ℕ → Type 0
  AreRead count texts rest = (map text_read (take count kept) ≡ map text_accepted texts) × (rest ≡ flat_map text_in (drop count kept))

  pub line_read : (rest front after : List ℕ) (count : ℕ) (items : Items) → lines ≡ map with_length kept → i < length lines
      → count ≡ min (get_or lines i (with_length no_line)).len (length rest) → front ≡ take count rest → after ≡ drop count rest
      → accept front ≡ Ok items → AreRead i told rest
      → AreRead (i + 1) (told ++ record { id = (get_or lines i (with_length no_line)).id; items = items } ∷ []) after
  line_read rest front after count items are within counted is_front is_after read before =
      let k = get_or kept i no_line in
      let more = flat_map text_in (drop (i + 1) kept) in
      let inside : i < length kept = omega (arith, within, ap length are, length-map kept with_length) in
      let line : get_or lines i (with_length no_line) ≡ with_length k =
      ap (λ (ls : List code.KeptLine). get_or ls i (with_length no_line)) are ∙ get_or-map with_length kept i no_line (with_length no_line) inside in
      let here : rest ≡ k.text ++ more = before.1 ∙ ap (flat_map text_in) (drop_more kept i no_line inside) in
      let long : length rest ≡ length k.text + length more = ap length here ∙ length-append k.text more in
      let same_len : (get_or lines i (with_length no_line)).len ≡ length k.text = ap (λ (l : code.KeptLine). l.len) line in
      let many : count ≡ length k.text = counted ∙ (ap (λ (n : ℕ). min n (length rest)) same_len ∙ (let least : min (length k.text) (length rest) ≡ length k.text = omega (arith, long) in least)) in
      let same_id : k.id ≡ (get_or lines i (with_length no_line)).id = sym (ap (λ (l : code.KeptLine). l.id) line) in
      let text : front ≡ k.text = is_front ∙ ((λ j. take (many j) (here j)) ∙ take-append_seam k.text more) in
      let accepted : accept k.text ≡ Ok items = ap accept (sym text) ∙ read in (
        mapped_more text_read kept i k inside (sym (get_or-any kept i k no_line inside))
            ∙ ((λ j. before.0 j ++ (same_id j, accepted j) ∷ [])
            ∙ sym (map-append text_accepted told (record { id = (get_or lines i (with_length no_line)).id; items = items } ∷ []))),
        is_after ∙ ((λ j. drop (many j) (here j)) ∙ drop-append_seam k.text more),
      )

-- texts are the same where they are accepted alike
abbrev text_back : ℕ × Result Items SelectorError → Text
text_back (id, Ok items) = record { id = id; items = items }
text_back (id, Err cause) = record { id = id; items = NoItems }

texts_back : (texts : List Text) → map text_back (map text_accepted texts) ≡ texts
texts_back [] = refl
texts_back (t ∷ texts) = ap (λ l. t ∷ l) (texts_back texts)

pub same_texts : (xs ys : List Text) → map text_accepted xs ≡ map text_accepted ys → xs ≡ ys
same_texts xs ys same = sym (texts_back xs) ∙ (ap (map text_back) same ∙ texts_back ys)
