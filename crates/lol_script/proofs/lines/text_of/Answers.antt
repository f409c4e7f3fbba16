use Rattle.std.proofs.Common.{◌≡◌, ℕ, List, Bool, true, false, Result, Ok, Err, Some, None, MatchResult, ap, ◌∙◌, refl}
use Rattle.std.specs.Prelude.{if◌then◌else◌, option_map}
use Rattle.std.specs.Result.{result_ok}
use Rattle.std.specs.Borrow.{Bor}
use Rattle.std.specs.Str.{IsUtf8, is_utf8, IsValidUpTo, valid_up_to}
use Rattle.std.proofs.lemmas.Str.{is_utf8-from_IsUtf8, IsUtf8-from_is_utf8}
use Rattle.lol_script.proofs.lines.text_of.Goals as goal

none_unless : (b : Bool) (bytes : List ℕ) → (b ≡ true → ⊥) → None ≡ (if b then Some bytes else None)
none_unless true bytes not = absurd (not refl)
none_unless false bytes not = refl

text_by_cases : {E : Type 0} (r : Result (Bor (List ℕ)) E) (bytes : List ℕ) (Q : E → Type 0) → MatchResult r (λ s. (s.now ≡ bytes) × IsUtf8 bytes) (λ e. (IsUtf8 bytes → ⊥) × Q e) → option_map (λ (text : Bor (List ℕ)). text.now) (result_ok r) ≡ (if is_utf8 bytes then Some bytes else None)
text_by_cases (Ok s) bytes Q h = rw (is_utf8-from_IsUtf8 bytes h.1) (ap Some h.0)
text_by_cases (Err e) bytes Q h = none_unless (is_utf8 bytes) bytes (λ is. h.0 (IsUtf8-from_is_utf8 bytes is))

pub returns : goal.returns
returns c =
    let bytes = c.args.bytes.now in
    ap (option_map (λ (text : Bor (List ℕ)). text.now)) c.ok.ensures.value
    ∙ text_by_cases c.from_utf8.result bytes (λ e. IsValidUpTo bytes (valid_up_to e)) c.from_utf8.ensures.cases
