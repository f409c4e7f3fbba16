use Rattle.std.proofs.Common.{◌≡◌, ◌≢◌, ◌∙◌, ◌++◌, ◌∷◌, List, ℕ, IfNone, false, ap, sym, subst, take, drop, length, true≢false, get_or}
use Rattle.std.specs.Str.{bytes_eq}
use Rattle.std.proofs.Math.Seq.{drop-cons, take-append_seam}
use Rattle.std.proofs.lemmas.List.{take-append-drop, take_rest}
use Rattle.std.proofs.lemmas.Slice.Eq.{bytes_eq-Decides}
use Rattle.lol_base.specs.CodePoints.{tab}
use Rattle.lol_script.proofs.lines.after_kind.Goals as goal

begins_not : (bytes kind rest : List ℕ) → bytes_eq (take (length kind) bytes) kind ≡ false → bytes ≢ kind ++ rest
begins_not bytes kind rest not is =
    let begins : take (length kind) bytes ≡ kind = ap (take (length kind)) is ∙ take-append_seam kind rest in
    true≢false (sym ((bytes_eq-Decides (take (length kind) bytes) kind).1 begins) ∙ not)

pub returns-in_err-strip_prefix-clause-none : goal.returns-in_err-strip_prefix-clause-none
returns-in_err-strip_prefix-clause-none c =
    let bytes = c.args.bytes.now in
    let kind = c.args.kind.now in
    subst (λ found. IfNone found ((rest : List ℕ) → bytes ≢ kind ++ tab ∷ rest)) (sym c.from_residual.ensures)
    (λ rest. begins_not bytes kind (tab ∷ rest) c.in_err-strip_prefix.ensures.cases)

pub returns-in-9-clause-some : goal.returns-in-9-clause-some
returns-in-9-clause-some c =
    let bytes = c.args.bytes.now in
    let kind = c.args.kind.now in
    let after = c.in_ok-strip_prefix.field-0.now in
    let begins : take (length kind) bytes ≡ kind = (bytes_eq-Decides _ _).0 c.in_ok-strip_prefix.ensures.cases.0 in
    let cut : after ≡ drop (length kind) bytes = c.in_ok-strip_prefix.ensures.cases.1 in
    let byte : get_or after 0 0 ≡ tab = cc in
    let first : after ≡ tab ∷ drop 1 after = drop-cons after 0 0 c.in-9.len_at_least ∙ ap (λ b. b ∷ drop 1 after) byte in
    sym (take-append-drop (length kind) bytes) ∙ (ap (λ front. front ++ drop (length kind) bytes) begins ∙ ap (λ rest. kind ++ rest) (sym cut ∙ (first ∙ ap (λ rest. tab ∷ rest) (sym (take_rest after 1)))))
