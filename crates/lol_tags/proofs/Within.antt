-- What stands in comments and in CDATA sections.
use Rattle.std.proofs.Common.{◌≡◌, ℕ, ◌+◌, List, [], ◌∷◌, ◌++◌, Some, length, refl, ◌∙◌, ap}
use Rattle.std.specs.Prelude.{true, false, ◌==◌, codes}
use Rattle.lol_tags.specs.States.{next, next_in_script, is_in_tag}
use Rattle.lol_tags.specs.Reading.{noted, step, ended, after, tags_from}
use Rattle.lol_tags.specs.Idling.{stop, Lacks}
use Rattle.lol_tags.specs.Runs.{given-append}
use Rattle.lol_tags.proofs.Idle.{idle-run, idle-tags}
use Rattle.lol_tags.specs.declared.state.State.TheVariants.{Data, CommentStart, Comment, CdataSection}
use Rattle.lol_tags.specs.declared.reader.Tag.{Tag}
use Rattle.lol_tags.specs.declared.reader.TagReader.{TagReader}

-- bytes that leave a state as it is, and what follows them
behind-idle : (r : TagReader) (c : ℕ) (bytes others : List ℕ) → stop r.state ≡ Some c → Lacks c bytes
    → tags_from r (bytes ++ others) ≡ tags_from (record r { at = r.at + length bytes }) others
behind-idle r c bytes others e h =
    given-append step ended r bytes others
    ∙ ap (λ (tags : List Tag). tags ++ tags_from (after r bytes) others) (idle-tags r c bytes e h)
    ∙ ap (λ (s : TagReader). tags_from s others) (idle-run r c bytes e h)

comment-ends : (r : TagReader) → tags_from (record r { state = Comment }) (codes "-->") ≡ []
unfolding next next_in_script is_in_tag noted step ended
comment-ends r = refl

comment-goes-on : (r : TagReader) (bytes : List ℕ) → Lacks 45 bytes → tags_from (record r { state = Comment }) (bytes ++ codes "-->") ≡ []
unfolding stop
comment-goes-on r bytes h =
    behind-idle (record r { state = Comment }) 45 bytes (codes "-->") refl h ∙ comment-ends (record r { at = r.at + length bytes })

comment-begins : (r : TagReader) (first : ℕ) (bytes : List ℕ) → (first == 62) ≡ false → (first == 45) ≡ false
    → tags_from (record r { state = CommentStart }) (first ∷ bytes) ≡ tags_from (record r { state = Comment; at = r.at + 1 }) bytes
unfolding next next_in_script is_in_tag noted step ended
comment-begins r first bytes h k = rw (h, k) refl

comment-opens : (r : TagReader) (bytes : List ℕ)
    → tags_from (record r { state = Data }) (codes "<!--" ++ bytes)
    ≡ tags_from (record r { state = CommentStart; start = r.at; is_end = false; code = 0; at = r.at + 1 + 1 + 1 + 1 }) bytes
unfolding next next_in_script is_in_tag noted step ended
comment-opens r bytes = refl

in-data : (r : TagReader) → r.state ≡ Data → r ≡ record r { state = Data }
in-data r e = ap (λ s. record r { state = s }) e

pub comment-none : (r : TagReader) (first : ℕ) (bytes : List ℕ) → r.state ≡ Data → (first == 62) ≡ false → Lacks 45 (first ∷ bytes)
    → tags_from r (codes "<!--" ++ (first ∷ bytes ++ codes "-->")) ≡ []
comment-none r first bytes e h k =
    let inside : TagReader = record r { start = r.at; is_end = false; code = 0; at = r.at + 1 + 1 + 1 + 1 } in
    ap (λ (s : TagReader). tags_from s (codes "<!--" ++ (first ∷ bytes ++ codes "-->"))) (in-data r e)
    ∙ comment-opens r (first ∷ bytes ++ codes "-->")
    ∙ comment-begins inside first (bytes ++ codes "-->") h k.0
    ∙ comment-goes-on (record inside { at = inside.at + 1 }) bytes k.1

cdata-ends : (r : TagReader) → tags_from (record r { state = CdataSection }) (codes "]]>") ≡ []
unfolding next next_in_script is_in_tag noted step ended
cdata-ends r = refl

cdata-goes-on : (r : TagReader) (bytes : List ℕ) → Lacks 93 bytes → tags_from (record r { state = CdataSection }) (bytes ++ codes "]]>") ≡ []
unfolding stop
cdata-goes-on r bytes h =
    behind-idle (record r { state = CdataSection }) 93 bytes (codes "]]>") refl h ∙ cdata-ends (record r { at = r.at + length bytes })

cdata-opens : (r : TagReader) (bytes : List ℕ)
    → tags_from (record r { state = Data; foreign = true }) (codes "<![CDATA[" ++ bytes)
    ≡ tags_from (record r { state = CdataSection; foreign = true; start = r.at; is_end = false; code = 0; at = r.at + 1 + 1 + 1 + 1 + 1 + 1 + 1 + 1 + 1 }) bytes
unfolding next next_in_script is_in_tag noted step ended
cdata-opens r bytes = refl

pub cdata-none : (r : TagReader) (bytes : List ℕ) → r.state ≡ Data → r.foreign ≡ true → Lacks 93 bytes
    → tags_from r (codes "<![CDATA[" ++ (bytes ++ codes "]]>")) ≡ []
cdata-none r bytes e f h =
    let inside : TagReader = record r { foreign = true; start = r.at; is_end = false; code = 0; at = r.at + 1 + 1 + 1 + 1 + 1 + 1 + 1 + 1 + 1 } in
    ap (λ (s : TagReader). tags_from s (codes "<![CDATA[" ++ (bytes ++ codes "]]>"))) (in-data r e ∙ ap (λ x. record r { state = Data; foreign = x }) f)
    ∙ cdata-opens r (bytes ++ codes "]]>")
    ∙ cdata-goes-on inside bytes h
