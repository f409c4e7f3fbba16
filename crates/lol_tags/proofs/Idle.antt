-- Bytes that leave a state as it is only move the place.
use Rattle.std.proofs.Common.{◌≡◌, ℕ, zero, suc, ◌+◌, List, [], ◌∷◌, Some, None, length, take, refl, sym, ◌∙◌, ap, arith, add-zero}
use Rattle.std.specs.Prelude.{Bool, true, false, ◌==◌, ◌&&◌}
use Rattle.lol_tags.specs.States.{next, next_in_script, is_in_tag}
use Rattle.lol_tags.specs.Runs.{with_some}
use Rattle.lol_tags.specs.Reading.{script, step, ended, noted, after, tags_from}
use Rattle.memchr.specs.Find.{Nowhere, Passes, is_byte}
use Rattle.lol_tags.specs.Idling.{stop, Lacks}
use Rattle.lol_tags.specs.declared.state.State.{State}
use Rattle.lol_tags.specs.declared.state.State.TheVariants.{Data, AttributeValueDoubleQuoted, AttributeValueSingleQuoted, BogusComment, Comment, CdataSection, RawText}
use Rattle.lol_tags.specs.declared.reader.TagReader.{TagReader}

-- another byte than the one that leads away
pub unlike : (b c d : ℕ) → Some d ≡ Some c → (b == c) ≡ false → (b == d) ≡ false
unlike b c d e h = let same : d ≡ c = cc in rw same h

idle-next : (s : State) (c b : ℕ) (named is_script foreign : Bool) → stop s ≡ Some c → (b == c) ≡ false → next s b named is_script foreign ≡ s
unfolding stop next next_in_script
idle-next Data c b named is_script foreign e h = rw (unlike b c 60 e h) refl
idle-next RawText c b named is_script foreign e h = rw (unlike b c 60 e h) refl
idle-next AttributeValueDoubleQuoted c b named is_script foreign e h = rw (unlike b c 34 e h) refl
idle-next AttributeValueSingleQuoted c b named is_script foreign e h = rw (unlike b c 39 e h) refl
idle-next Comment c b named is_script foreign e h = rw (unlike b c 45 e h) refl
idle-next BogusComment c b named is_script foreign e h = rw (unlike b c 62 e h) refl
idle-next CdataSection c b named is_script foreign e h = rw (unlike b c 93 e h) refl
idle-next _ c b named is_script foreign e h = cc

idle-tag : (s : State) (c : ℕ) (named : Bool) → stop s ≡ Some c → is_in_tag s named ≡ false
unfolding stop is_in_tag
idle-tag Data c named e = refl
idle-tag RawText c named e = refl
idle-tag AttributeValueDoubleQuoted c named e = refl
idle-tag AttributeValueSingleQuoted c named e = refl
idle-tag Comment c named e = refl
idle-tag BogusComment c named e = refl
idle-tag CdataSection c named e = refl
idle-tag _ c named e = cc

idle-noted : (s : State) (r : TagReader) (b c : ℕ) → stop s ≡ Some c → noted s r b ≡ r
unfolding stop noted
idle-noted Data r b c e = refl
idle-noted RawText r b c e = refl
idle-noted AttributeValueDoubleQuoted r b c e = refl
idle-noted AttributeValueSingleQuoted r b c e = refl
idle-noted Comment r b c e = refl
idle-noted BogusComment r b c e = refl
idle-noted CdataSection r b c e = refl
idle-noted _ r b c e = cc

and_false : (x : Bool) → (x && false) ≡ false
and_false true = refl
and_false false = refl

not_true : (x : Bool) → ¬ (x ≡ true) → x ≡ false
not_true true h = absurd (h refl)
not_true false h = refl

idle-step : (r : TagReader) (c b : ℕ) → stop r.state ≡ Some c → (b == c) ≡ false → step r b ≡ record r { at = r.at + 1 }
unfolding step
idle-step r c b e h =
    let out = idle-tag r.state c (r.code == r.text_code) e in
    let stays = idle-next r.state c b (r.code == r.text_code) (r.text_code == script) r.foreign e h in
    let kept = idle-noted r.state r b c e in
    rw (out, and_false (b == 62), stays, kept) refl

idle-ended : (r : TagReader) (c b : ℕ) → stop r.state ≡ Some c → ended r b ≡ None
unfolding ended
idle-ended r c b e =
    let out = idle-tag r.state c (r.code == r.text_code) e in rw (out, and_false (b == 62)) refl

pub idle-run : (r : TagReader) (c : ℕ) (bytes : List ℕ) → stop r.state ≡ Some c → Lacks c bytes → after r bytes ≡ record r { at = r.at + length bytes }
idle-run r c [] e h = ap (λ n. record r { at = n }) (sym (add-zero r.at))
idle-run r c (b ∷ bytes) e h =
    let first = idle-step r c b e h.0 in
    let others = idle-run (record r { at = r.at + 1 }) c bytes e h.1 in
    ap (λ s. after s bytes) first ∙ others ∙ ap (λ n. record r { at = n }) (omega arith)

pub idle-tags : (r : TagReader) (c : ℕ) (bytes : List ℕ) → stop r.state ≡ Some c → Lacks c bytes → tags_from r bytes ≡ []
idle-tags r c [] e h = refl
idle-tags r c (b ∷ bytes) e h =
    ap (λ tag. with_some tag (tags_from (step r b) bytes)) (idle-ended r c b e)
    ∙ ap (λ s. tags_from s bytes) (idle-step r c b e h.0)
    ∙ idle-tags (record r { at = r.at + 1 }) c bytes e h.1

-- the first bytes of a text, up to the first that is c
pub lacks-take : (c : ℕ) (bytes : List ℕ) (n : ℕ) → Nowhere (Passes (is_byte c) bytes) 0 n → Lacks c (take n bytes)
lacks-take c [] zero h = tt
lacks-take c [] (suc n) h = tt
lacks-take c (b ∷ bytes) zero h = tt
lacks-take c (b ∷ bytes) (suc n) h = (not_true (b == c) (h 0 (omega arith) (omega arith)), lacks-take c bytes n (λ k low high. h (suc k) (omega arith) (omega arith)))
