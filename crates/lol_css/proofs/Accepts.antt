-- From what is read to what is accepted.
use Rattle.std.proofs.Common.{◌≡◌, ℕ, ◌⊎◌, inl, inr, false, List, Ok, Err, refl, ap}
use Rattle.std.specs.Str.{chars}
use Rattle.lol_css.specs.Points.{preprocessed}
use Rattle.lol_css.specs.Tokens.{Token, tokens_of}
use Rattle.lol_css.specs.Trees as trees
use Rattle.lol_css.specs.Drafts.{DraftItems}
use Rattle.lol_css.specs.Rules.{Read, refused, giving, Outside}
use Rattle.lol_css.specs.Reading.{selector, list, inner_list}
use Rattle.lol_css.specs.Accepting.{judged, with_cause, accept}
use Rattle.lol_css.specs.Judging.{Judged}
use Rattle.lol_css.specs.Views.{FailsUnlessMemory}
use Rattle.lol_css.specs.declared.error.SelectorError.{SelectorError}
use Rattle.lol_css.specs.declared.error.SelectorError.TheVariants.{Memory}
use Rattle.lol_css.proofs.Fusing.{giving-ok, giving-err, fails_cases}

-- the whole text, judged as it is read
abbrev pub read_whole : List ℕ → Read (Judged trees.Items)
read_whole text = giving (judged false) (list (inner_list 128) Outside (tokens_of (preprocessed (chars text))))

accept_err : (text : List ℕ) (cause : SelectorError) (left : List Token) → list (inner_list 128) Outside (tokens_of (preprocessed (chars text))) ≡ refused cause left → accept text ≡ Err cause
unfolding accept selector
accept_err text cause left e = rw e refl

accept_fails_of : (text : List ℕ) (cause : SelectorError) (left : List Token) → (cause ≡ Memory) ⊎ (read_whole text ≡ refused cause left) → (cause ≡ Memory) ⊎ (accept text ≡ Err cause)
accept_fails_of text cause left (inl e) = inl e
accept_fails_of text cause left (inr e) = inr (accept_err text cause left (giving-err (judged false) (list (inner_list 128) Outside (tokens_of (preprocessed (chars text)))) cause left e))

pub accept-fails : (text : List ℕ) (cause : SelectorError) (left : List Token) → FailsUnlessMemory cause left (read_whole text) → (cause ≡ Memory) ⊎ (accept text ≡ Err cause)
accept-fails text cause left h = accept_fails_of text cause left (fails_cases cause left (read_whole text) h)

accept_read : (text : List ℕ) (draft : DraftItems) (rest : List Token) (found : Judged trees.Items) → list (inner_list 128) Outside (tokens_of (preprocessed (chars text))) ≡ Ok (draft, rest) → judged false draft ≡ found → accept text ≡ with_cause found
unfolding accept selector
accept_read text draft rest found e g = rw e (ap (λ (j : Judged trees.Items). with_cause j) g)

pub accept-read : (text : List ℕ) (found : Judged trees.Items) (rest : List Token) → read_whole text ≡ Ok (found, rest) → accept text ≡ with_cause found
accept-read text found rest e =
    let f = giving-ok (judged false) (list (inner_list 128) Outside (tokens_of (preprocessed (chars text)))) found rest e in
    accept_read text f.x rest found f.is f.gives
