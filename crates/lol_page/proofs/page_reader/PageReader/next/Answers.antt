use Rattle.std.proofs.Common.{◌≡◌, ℕ, ◌+◌, ◌<◌, ◌^◌, Bool, true, false, List, [], ◌∷◌, Option, Err, length, take, sym, ◌∙◌, ap, subst, arith}
use Rattle.std.specs.Prelude.{IfNone, IfSome}
use Rattle.lol_tags.specs.Reading.{tags_from}
use Rattle.lol_tags.specs.Runs.{with_some}
use Rattle.lol_tags.specs.declared.reader.Tag.{Tag}
use Rattle.lol_tags.specs.declared.reader.TagReader.{TagReader}
use Rattle.lol_page.specs.Ambiguity.{doubts_behind, is_ambiguous}
use Rattle.lol_page.specs.Keeping.{IsLong, HoldsTag, page_of}
use Rattle.lol_page.specs.PageTags.{PageTag}
use Rattle.lol_page.specs.Pages.{Page, page_after, page_tags_from, written_name}
use Rattle.lol_page.specs.Readings.{Reading, FirstIsAmbiguous, FirstIsLonger, doubts_after, with_text}
use Rattle.lol_page.specs.declared.error.PageReadError.TheVariants.{TagTooLong}
use Rattle.lol_page.proofs.Tape.{room-of}
use Rattle.lol_page.proofs.ReadOn.{next-none, next-some, next-tag, quiet-tags, read-page, long-page, short-page, only-long, first_of_part, none_in_whole, not_longer}
use Rattle.lol_page.proofs.page_reader.PageReader.next.Goals as goal

pub returns-in_default-clause-after : goal.returns-in_default-clause-after
returns-in_default-clause-after c =
    let inside = c.self.inside in
    let part = take c.in-Ok.read.taken c.args.chunk.now in
    let p = page_of inside.decoded inside.tags inside.elements in
    let is : p ≡ c.args.self.now.page = ap (λ (r : Reading). r.page) c.self.view_is in
    let none : [] ≡ tags_from p.reader part = ap (λ (o : Option Tag). with_some o []) (sym c.in_default.is) ∙ c.in-Ok.ensures.tags in
    next-none p (page_of inside.decoded c.next.new.self inside.elements) part
    (read-page p c.next.new.self.reader c.next.new.self.past.read part c.in-Ok.ensures.after c.in-Ok.ensures.read) none
    ∙ ap (λ (q : Page). page_after q part) is

pub returns-in_default-clause-tags : goal.returns-in_default-clause-tags
returns-in_default-clause-tags c =
    let inside = c.self.inside in
    let part = take c.in-Ok.read.taken c.args.chunk.now in
    let p = page_of inside.decoded inside.tags inside.elements in
    let is : p ≡ c.args.self.now.page = ap (λ (r : Reading). r.page) c.self.view_is in
    let none : [] ≡ tags_from p.reader part = ap (λ (o : Option Tag). with_some o []) (sym c.in_default.is) ∙ c.in-Ok.ensures.tags in
    sym (quiet-tags p part (sym none)) ∙ ap (λ (q : Page). page_tags_from q part) is

pub returns-in_default-clause-doubts : goal.returns-in_default-clause-doubts
returns-in_default-clause-doubts c =
    let inside = c.self.inside in
    let part = take c.in-Ok.read.taken c.args.chunk.now in
    let p = page_of inside.decoded inside.tags inside.elements in
    let is : p ≡ c.args.self.now.page = ap (λ (r : Reading). r.page) c.self.view_is in
    let none : [] ≡ tags_from p.reader part = ap (λ (o : Option Tag). with_some o []) (sym c.in_default.is) ∙ c.in-Ok.ensures.tags in
    let tags : [] ≡ page_tags_from c.args.self.now.page part = sym (quiet-tags p part (sym none)) ∙ ap (λ (q : Page). page_tags_from q part) is in
    ap (λ (r : Reading). r.doubts) c.self.view_is ∙ ap (doubts_after c.args.self.now.doubts) tags

pub returns-in_default-clause-clear : goal.returns-in_default-clause-clear
returns-in_default-clause-clear c = λ l.
    let inside = c.self.inside in
    let part = take c.in-Ok.read.taken c.args.chunk.now in
    let p = page_of inside.decoded inside.tags inside.elements in
    let is : p ≡ c.args.self.now.page = ap (λ (r : Reading). r.page) c.self.view_is in
    let none : [] ≡ tags_from p.reader part = ap (λ (o : Option Tag). with_some o []) (sym c.in_default.is) ∙ c.in-Ok.ensures.tags in
    let tags : [] ≡ page_tags_from c.args.self.now.page part = sym (quiet-tags p part (sym none)) ∙ ap (λ (q : Page). page_tags_from q part) is in
    let whole : c.in-Ok.read.taken ≡ length c.args.chunk.now = subst (λ (o : Option Tag). IfNone o (c.in-Ok.read.taken ≡ length c.args.chunk.now)) c.in_default.is c.in-Ok.ensures.whole in
    subst (FirstIsAmbiguous c.args.self.now.doubts) (sym (none_in_whole c.args.self.now.page c.args.chunk.now c.in-Ok.read.taken tags whole)) l

pub returns-in_default-clause-short : goal.returns-in_default-clause-short
returns-in_default-clause-short c =
    not_longer c.self.inside.tags.limit c.args.self.now.limit (page_of c.self.inside.decoded c.self.inside.tags c.self.inside.elements) c.args.self.now.page c.args.chunk.now
    (c.self.invariant c.if-self.false).0.read.at (ap (λ (r : Reading). r.limit) c.self.view_is) (ap (λ (r : Reading). r.page) c.self.view_is) c.in-Ok.ensures.short

pub returns-in_default-clause-tag_too_long : goal.returns-in_default-clause-tag_too_long
returns-in_default-clause-tag_too_long c =
    let short = not_longer c.self.inside.tags.limit c.args.self.now.limit (page_of c.self.inside.decoded c.self.inside.tags c.self.inside.elements) c.args.self.now.page c.args.chunk.now
    (c.self.invariant c.if-self.false).0.read.at (ap (λ (r : Reading). r.limit) c.self.view_is) (ap (λ (r : Reading). r.page) c.self.view_is) c.in-Ok.ensures.short in
    ((λ e. absurd (cc)), (λ h. absurd (short h.2)))

pub returns-in-Err-take_tag-clause-tag_too_long : goal.returns-in-Err-take_tag-clause-tag_too_long
returns-in-Err-take_tag-clause-tag_too_long c =
    let short = not_longer c.self.inside.tags.limit c.args.self.now.limit (page_of c.self.inside.decoded c.self.inside.tags c.self.inside.elements) c.args.self.now.page c.args.chunk.now
    (c.self.invariant c.if-self.false).0.read.at (ap (λ (r : Reading). r.limit) c.self.view_is) (ap (λ (r : Reading). r.page) c.self.view_is) c.in-Ok.ensures.short in
    ((λ e. absurd (cc)), (λ h. absurd (short h.2)))

pub returns-then-note_tag-clause-tag_too_long : goal.returns-then-note_tag-clause-tag_too_long
returns-then-note_tag-clause-tag_too_long c =
    let short = not_longer c.self.inside.tags.limit c.args.self.now.limit (page_of c.self.inside.decoded c.self.inside.tags c.self.inside.elements) c.args.self.now.page c.args.chunk.now
    (c.self.invariant c.if-self.false).0.read.at (ap (λ (r : Reading). r.limit) c.self.view_is) (ap (λ (r : Reading). r.page) c.self.view_is) c.in-Ok.ensures.short in
    ((λ e. absurd (cc)), (λ h. absurd (short h.2)))

pub returns-then-note_tag-clause-ambiguous : goal.returns-then-note_tag-clause-ambiguous
returns-then-note_tag-clause-ambiguous c = λ _.
    let inside = c.self.inside in
    let part = take c.in-Ok.read.taken c.args.chunk.now in
    let p = page_of inside.decoded inside.tags inside.elements in
    let is : p ≡ c.args.self.now.page = ap (λ (r : Reading). r.page) c.self.view_is in
    let tag = c.in-Some.tag in
    let some : tag ∷ [] ≡ tags_from p.reader part = ap (λ (o : Option Tag). with_some o []) (sym c.in-Some.is) ∙ c.in-Ok.ensures.tags in
    let t = with_text c.take_tag.new.tags.bytes.items c.in-Ok-take_tag.placed in
    let first : t ∷ [] ≡ page_tags_from c.args.self.now.page part =
    next-tag p (page_of inside.decoded c.next.new.self inside.elements) part tag _
    (read-page p c.next.new.self.reader c.next.new.self.past.read part c.in-Ok.ensures.after c.in-Ok.ensures.read) some
    ((subst (λ (o : Option Tag). IfSome o (HoldsTag c.next.new.self)) c.in-Some.is c.in-Ok.ensures.holds).last ∙ ap (λ (r : TagReader). r.at) c.in-Ok.ensures.after)
    c.in-Ok-take_tag.ensures.tag
    ∙ ap (λ (q : Page). page_tags_from q part) is in
    let whole = first_of_part c.args.self.now.page c.args.chunk.now c.in-Ok.read.taken t first in
    let doubts : inside.doubts ≡ c.args.self.now.doubts = ap (λ (r : Reading). r.doubts) c.self.view_is in
    let name : c.name-name.result.now ≡ written_name c.take_tag.new.tags.bytes.items c.in-Ok-take_tag.placed.tag =
    c.name-name.ensures ∙ ap (λ (text : List ℕ). written_name text c.in-Ok-take_tag.placed.tag) c.deref.ensures.value in
    let short = not_longer c.self.inside.tags.limit c.args.self.now.limit (page_of c.self.inside.decoded c.self.inside.tags c.self.inside.elements) c.args.self.now.page c.args.chunk.now
    (c.self.invariant c.if-self.false).0.read.at (ap (λ (r : Reading). r.limit) c.self.view_is) (ap (λ (r : Reading). r.page) c.self.view_is) c.in-Ok.ensures.short in
    let room = room-of (2 ^ 64) (inside.tags.reader.at + length c.args.chunk.now) (λ long. (let e = c.in-Ok.ensures.too_long.1 long in cc)) in
    let at : inside.tags.reader.at ≡ c.args.self.now.page.reader.at = ap (λ (q : Page). q.reader.at) is in
    let not_failed : c.args.self.now.failed ≡ false = sym (ap (λ (r : Reading). r.failed) c.self.view_is) ∙ c.if-self.false in
    let is_such : is_ambiguous c.args.self.now.doubts (written_name t.text t.tag) t.tag.is_end ≡ true =
    (λ i. is_ambiguous (sym doubts i) (sym name i) t.tag.is_end) ∙ sym c.note_tag.ensures.ambiguous ∙ c.if-note_tag.true in
    (not_failed, omega (arith, room, at), short, subst (FirstIsAmbiguous c.args.self.now.doubts) (sym whole) is_such)

pub returns-clause-after : goal.returns-clause-after
returns-clause-after c =
    let inside = c.self.inside in
    let part = take c.in-Ok.read.taken c.args.chunk.now in
    let p = page_of inside.decoded inside.tags inside.elements in
    let is : p ≡ c.args.self.now.page = ap (λ (r : Reading). r.page) c.self.view_is in
    let tag = c.in-Some.tag in
    let some : tag ∷ [] ≡ tags_from p.reader part = ap (λ (o : Option Tag). with_some o []) (sym c.in-Some.is) ∙ c.in-Ok.ensures.tags in
    next-some p (page_of inside.decoded c.next.new.self inside.elements) (page_of inside.decoded c.take_tag.new.tags c.take_tag.new.elements) part tag
    (read-page p c.next.new.self.reader c.next.new.self.past.read part c.in-Ok.ensures.after c.in-Ok.ensures.read) some
    ((subst (λ (o : Option Tag). IfSome o (HoldsTag c.next.new.self)) c.in-Some.is c.in-Ok.ensures.holds).last ∙ ap (λ (r : TagReader). r.at) c.in-Ok.ensures.after)
    c.in-Ok-take_tag.ensures.page
    ∙ ap (λ (q : Page). page_after q part) is

pub returns-clause-tags : goal.returns-clause-tags
returns-clause-tags c =
    let inside = c.self.inside in
    let part = take c.in-Ok.read.taken c.args.chunk.now in
    let p = page_of inside.decoded inside.tags inside.elements in
    let is : p ≡ c.args.self.now.page = ap (λ (r : Reading). r.page) c.self.view_is in
    let tag = c.in-Some.tag in
    let some : tag ∷ [] ≡ tags_from p.reader part = ap (λ (o : Option Tag). with_some o []) (sym c.in-Some.is) ∙ c.in-Ok.ensures.tags in
    next-tag p (page_of inside.decoded c.next.new.self inside.elements) part tag _
    (read-page p c.next.new.self.reader c.next.new.self.past.read part c.in-Ok.ensures.after c.in-Ok.ensures.read) some
    ((subst (λ (o : Option Tag). IfSome o (HoldsTag c.next.new.self)) c.in-Some.is c.in-Ok.ensures.holds).last ∙ ap (λ (r : TagReader). r.at) c.in-Ok.ensures.after)
    c.in-Ok-take_tag.ensures.tag
    ∙ ap (λ (q : Page). page_tags_from q part) is

pub returns-clause-doubts : goal.returns-clause-doubts
returns-clause-doubts c =
    let inside = c.self.inside in
    let part = take c.in-Ok.read.taken c.args.chunk.now in
    let p = page_of inside.decoded inside.tags inside.elements in
    let is : p ≡ c.args.self.now.page = ap (λ (r : Reading). r.page) c.self.view_is in
    let tag = c.in-Some.tag in
    let some : tag ∷ [] ≡ tags_from p.reader part = ap (λ (o : Option Tag). with_some o []) (sym c.in-Some.is) ∙ c.in-Ok.ensures.tags in
    let t = with_text c.take_tag.new.tags.bytes.items c.in-Ok-take_tag.placed in
    let first : t ∷ [] ≡ page_tags_from c.args.self.now.page part =
    next-tag p (page_of inside.decoded c.next.new.self inside.elements) part tag _
    (read-page p c.next.new.self.reader c.next.new.self.past.read part c.in-Ok.ensures.after c.in-Ok.ensures.read) some
    ((subst (λ (o : Option Tag). IfSome o (HoldsTag c.next.new.self)) c.in-Some.is c.in-Ok.ensures.holds).last ∙ ap (λ (r : TagReader). r.at) c.in-Ok.ensures.after)
    c.in-Ok-take_tag.ensures.tag
    ∙ ap (λ (q : Page). page_tags_from q part) is in
    let whole = first_of_part c.args.self.now.page c.args.chunk.now c.in-Ok.read.taken t first in
    let doubts : inside.doubts ≡ c.args.self.now.doubts = ap (λ (r : Reading). r.doubts) c.self.view_is in
    let name : c.name-name.result.now ≡ written_name c.take_tag.new.tags.bytes.items c.in-Ok-take_tag.placed.tag =
    c.name-name.ensures ∙ ap (λ (text : List ℕ). written_name text c.in-Ok-take_tag.placed.tag) c.deref.ensures.value in
    c.note_tag.ensures.noted ∙ (λ i. doubts_behind (doubts i) (name i) t.tag.is_end) ∙ ap (doubts_after c.args.self.now.doubts) first

pub returns-clause-clear : goal.returns-clause-clear
returns-clause-clear c = λ l.
    let inside = c.self.inside in
    let part = take c.in-Ok.read.taken c.args.chunk.now in
    let p = page_of inside.decoded inside.tags inside.elements in
    let is : p ≡ c.args.self.now.page = ap (λ (r : Reading). r.page) c.self.view_is in
    let tag = c.in-Some.tag in
    let some : tag ∷ [] ≡ tags_from p.reader part = ap (λ (o : Option Tag). with_some o []) (sym c.in-Some.is) ∙ c.in-Ok.ensures.tags in
    let t = with_text c.take_tag.new.tags.bytes.items c.in-Ok-take_tag.placed in
    let first : t ∷ [] ≡ page_tags_from c.args.self.now.page part =
    next-tag p (page_of inside.decoded c.next.new.self inside.elements) part tag _
    (read-page p c.next.new.self.reader c.next.new.self.past.read part c.in-Ok.ensures.after c.in-Ok.ensures.read) some
    ((subst (λ (o : Option Tag). IfSome o (HoldsTag c.next.new.self)) c.in-Some.is c.in-Ok.ensures.holds).last ∙ ap (λ (r : TagReader). r.at) c.in-Ok.ensures.after)
    c.in-Ok-take_tag.ensures.tag
    ∙ ap (λ (q : Page). page_tags_from q part) is in
    let whole = first_of_part c.args.self.now.page c.args.chunk.now c.in-Ok.read.taken t first in
    let doubts : inside.doubts ≡ c.args.self.now.doubts = ap (λ (r : Reading). r.doubts) c.self.view_is in
    let name : c.name-name.result.now ≡ written_name c.take_tag.new.tags.bytes.items c.in-Ok-take_tag.placed.tag =
    c.name-name.ensures ∙ ap (λ (text : List ℕ). written_name text c.in-Ok-take_tag.placed.tag) c.deref.ensures.value in
    let such : is_ambiguous c.args.self.now.doubts (written_name t.text t.tag) t.tag.is_end ≡ true = subst (FirstIsAmbiguous c.args.self.now.doubts) whole l in
    let not_such = c.note_tag.ensures.ambiguous ∙ (λ i. is_ambiguous (doubts i) (name i) t.tag.is_end) in
    cc (such, not_such, c.if-note_tag.false)

pub returns-clause-short : goal.returns-clause-short
returns-clause-short c =
    not_longer c.self.inside.tags.limit c.args.self.now.limit (page_of c.self.inside.decoded c.self.inside.tags c.self.inside.elements) c.args.self.now.page c.args.chunk.now
    (c.self.invariant c.if-self.false).0.read.at (ap (λ (r : Reading). r.limit) c.self.view_is) (ap (λ (r : Reading). r.page) c.self.view_is) c.in-Ok.ensures.short

pub returns-clause-tag_too_long : goal.returns-clause-tag_too_long
returns-clause-tag_too_long c =
    let short = not_longer c.self.inside.tags.limit c.args.self.now.limit (page_of c.self.inside.decoded c.self.inside.tags c.self.inside.elements) c.args.self.now.page c.args.chunk.now
    (c.self.invariant c.if-self.false).0.read.at (ap (λ (r : Reading). r.limit) c.self.view_is) (ap (λ (r : Reading). r.page) c.self.view_is) c.in-Ok.ensures.short in
    ((λ e. absurd (cc)), (λ h. absurd (short h.2)))

pub returns-in-Err-clause-tag_too_long : goal.returns-in-Err-clause-tag_too_long
returns-in-Err-clause-tag_too_long c =
    let tags = c.self.inside.tags in
    let chunk = c.args.chunk.now in
    let p = page_of c.self.inside.decoded tags c.self.inside.elements in
    let error = c.in-Err.error in
    let limit : tags.limit ≡ c.args.self.now.limit = ap (λ (r : Reading). r.limit) c.self.view_is in
    let is : p ≡ c.args.self.now.page = ap (λ (r : Reading). r.page) c.self.view_is in
    let at : tags.reader.at ≡ c.args.self.now.page.reader.at = ap (λ (q : Page). q.reader.at) is in
    let whole : c.self.inside.failed ≡ c.args.self.now.failed = ap (λ (r : Reading). r.failed) c.self.view_is in
    let kept = (c.self.invariant c.if-self.false).0 in (
      (λ e.
          let same : error ≡ TagTooLong = cc in
          let told = c.in-Err.ensures.tag_too_long (ap Err same) in (
            sym whole ∙ c.if-self.false,
            omega (arith, told.0, at),
            subst (λ (n : ℕ). FirstIsLonger n (page_tags_from c.args.self.now.page chunk)) limit
                (subst (λ (q : Page). FirstIsLonger tags.limit (page_tags_from q chunk)) is (long-page tags.limit p chunk kept.read.at told.1)),
          )),
      (λ h.
          let long : IsLong tags.limit (tags_from tags.reader chunk) = short-page tags.limit p chunk kept.read.at
          (subst (λ (n : ℕ). FirstIsLonger n (page_tags_from p chunk)) (sym limit)
          (subst (λ (q : Page). FirstIsLonger c.args.self.now.limit (page_tags_from q chunk)) (sym is) h.2)) in
          let room : tags.reader.at + length chunk < 2 ^ 64 = omega (arith, h.1, at) in
          ap Err (only-long error (tags.reader.at + length chunk < 2 ^ 64) (IsLong tags.limit (tags_from tags.reader chunk))
          (λ e r. (let no = c.in-Err.ensures.too_long.0 (ap Err e) in omega (arith, r, no)))
          (λ e l. (c.in-Err.ensures.memory (ap Err e)).1 l)
          (λ e. c.in-Err.ensures.ambiguous (ap Err e))
          (λ e. c.in-Err.ensures.failed (ap Err e))
          room long)),
    )
