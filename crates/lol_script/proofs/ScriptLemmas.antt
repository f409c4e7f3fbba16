-- Reading a script, line by line.
use Rattle.std.proofs.Common.{◌≡◌, ◌≢◌, ℕ, ◌+◌, List, [], ◌∷◌, ◌++◌, map, Option, Result, Ok, inl, inr, refl, sym, ap, ◌∙◌}
use Rattle.std.specs.List.{flat_map}
use Rattle.std.proofs.lemmas.Grind.{flat_map-append}
use Rattle.std.proofs.lemmas.List.{append-nil, map-append}
use Rattle.lol_css.specs.Accepting.{accept}
use Rattle.lol_css.specs.Trees.{Items}
use Rattle.lol_program.specs.Conditions.{pairs_under}
use Rattle.lol_reasons.specs.Explanations.{Text}
use Rattle.lol_program.specs.Sets.{Joins, SameMembers}
use Rattle.lol_base.specs.MemberLaws.{contains-append}
use Rattle.lol_machine.specs.Events.{Event}
use Rattle.lol_script.specs.Script.{Line, line_at}
use Rattle.lol_script.specs.Scripts as scripts
use Rattle.lol_script.specs.Scripts.{Script, pairs_in, texts_in, unless_begun, with_bytes, with_meaning}
use Rattle.lol_script.specs.SelectLines.{HoldsKept, KeepsLines, KeptLine, text_accepted, text_read}
use Rattle.lol_script.specs.declared.select_lines.SelectLines.{SelectLines}
use Rattle.lol_script.specs.declared.bad_line.BadLine.{BadLine}

-- what a nonempty line says is taken
pub with_bytes-line : (number : ℕ) (s : Script) (bytes : List ℕ) (said : Option Line) → bytes ≢ [] → said ≡ line_at bytes → with_bytes number s bytes ≡ with_meaning number s said
with_bytes-line number s [] said some is = absurd (some refl)
with_bytes-line number s (b ∷ bytes) said some is = ap (with_meaning number s) (sym is)

-- a line before the first tag line
pub not_begun : (events : List Event) (number : ℕ) (result : Result Script BadLine) → events ≡ [] → unless_begun events number result ≡ result
not_begun events number result none = ap (λ (es : List Event). unless_begun es number result) none

-- members that join others
pub joins_members : {T : Type 0} (old new added members : List T) → SameMembers members old → Joins old new added → SameMembers (members ++ added) new
joins_members old new added members same joins x = (
  λ h. (contains-append members added x).1 (elim ((joins x).0 h) [ inl a ↦ inl ((same x).0 a) | inr b ↦ inr b ]),
  λ h. (joins x).1 (elim ((contains-append members added x).0 h) [ inl a ↦ inl ((same x).1 a) | inr b ↦ inr b ]),
)

-- the pairs with those of one line more
pub pairs_more : (s : Script) (line : scripts.SelectLine) → pairs_in (record s { selects = s.selects ++ line ∷ [] }) ≡ pairs_in s ++ pairs_under line.text.id line.text.items
pairs_more s line =
    let under = λ (text : Text). pairs_under text.id text.items in
    ap (flat_map under) (map-append (λ (l : scripts.SelectLine). l.text) s.selects (line ∷ []))
    ∙ (flat_map-append under (texts_in s) (line.text ∷ []) ∙ ap (λ more. pairs_in s ++ more) (append-nil (under line.text)))

-- a line more is kept
pub lines_more : (old new : SelectLines) (lines : List scripts.SelectLine) (number id : ℕ) (text : List ℕ) (items : Items) → accept text ≡ Ok items
    → ((kept : List KeptLine) → HoldsKept old kept → HoldsKept new (kept ++ record { number = number; id = id; text = text } ∷ [])) → KeepsLines old lines
    → KeepsLines new (lines ++ record { number = number; text = record { id = id; items = items } } ∷ [])
lines_more old new lines number id text items read keeps before =
    let kept = before.0 in
    let more : KeptLine = record { number = number; id = id; text = text } in
    let line : scripts.SelectLine = record { number = number; text = record { id = id; items = items } } in (
      kept ++ more ∷ [],
      keeps kept before.1,
      record {
        numbers = map-append (λ (k : KeptLine). k.number) kept (more ∷ []) ∙ (ap (λ ns. ns ++ number ∷ []) before.2.numbers ∙ sym (map-append (λ (l : scripts.SelectLine). l.number) lines (line ∷ [])));
        texts = map-append text_read kept (more ∷ [])
            ∙ ((λ i. before.2.texts i ++ (id, read i) ∷ [])
            ∙ (sym (map-append text_accepted (map (λ (l : scripts.SelectLine). l.text) lines) (line.text ∷ [])) ∙ ap (map text_accepted) (sym (map-append (λ (l : scripts.SelectLine). l.text) lines (line ∷ [])))));
      },
    )
