use Rattle.std.proofs.Common.{◌∙◌, sym, length, refl}
use Rattle.std.proofs.lemmas.Str.{IsUtf8-past_char}
use Rattle.std.specs.Str.Iter.{char_indices_offset, char_indices_rest}
use Rattle.lol_css.proofs.Places.{Passes, offset-here, offset-next, offset-joined, offset-end}
use Rattle.lol_css.proofs.syntax.places.point_offset.Goals as goal

pub loop-offset-init : goal.loop-offset-init
loop-offset-init c =
    let h = c.char_indices-offset-items.ensures in
    rw (c.into_iter-offset-iterator.ensures.into_iter_gives, h.rest, h.offset) (record { value = refl; utf8 = c.utf8.text })

pub returns-then-to_pass-eq0 : goal.returns-then-to_pass-eq0
returns-then-to_pass-eq0 c =
    let h = c.in-Some.ensures.steps in
    let passes : Passes (char_indices_offset c.loop-offset.offset-iterator) (char_indices_rest c.loop-offset.offset-iterator) c.in-Some.c (char_indices_offset c.next.new.self) (char_indices_rest c.next.new.self) = record { utf8 = c.loop-offset.invariant.utf8; is = h.1; at = h.2 } in
    h.0 ∙ sym (offset-here c.loop-offset.before _ _ c.in-Some.c _ _ c.loop-offset.to_pass (length c.args.text.now) passes (sym c.if-not-ends_crlf.ensures) c.if-to_pass-eq0.true) ∙ c.loop-offset.invariant.value

pub loop-offset-preserved-else-to_pass-eq0 : goal.loop-offset-preserved-else-to_pass-eq0
loop-offset-preserved-else-to_pass-eq0 c =
    let h = c.in-Some.ensures.steps in
    let passes : Passes (char_indices_offset c.loop-offset.offset-iterator) (char_indices_rest c.loop-offset.offset-iterator) c.in-Some.c (char_indices_offset c.next.new.self) (char_indices_rest c.next.new.self) = record { utf8 = c.loop-offset.invariant.utf8; is = h.1; at = h.2 } in
    record {
      value = sym (offset-next c.loop-offset.before _ _ c.in-Some.c _ _ c.loop-offset.to_pass (length c.args.text.now) passes (sym c.if-not-ends_crlf.ensures) c.if-to_pass-eq0.false) ∙ c.loop-offset.invariant.value;
      utf8 = IsUtf8-past_char _ _ c.in-Some.c c.loop-offset.invariant.utf8 h.1;
    }

pub loop-offset-preserved : goal.loop-offset-preserved
loop-offset-preserved c =
    let h = c.in-Some.ensures.steps in
    let passes : Passes (char_indices_offset c.loop-offset.offset-iterator) (char_indices_rest c.loop-offset.offset-iterator) c.in-Some.c (char_indices_offset c.next.new.self) (char_indices_rest c.next.new.self) = record { utf8 = c.loop-offset.invariant.utf8; is = h.1; at = h.2 } in
    record {
      value = sym (offset-joined c.loop-offset.before _ _ c.in-Some.c _ _ c.loop-offset.to_pass (length c.args.text.now) passes (sym c.if-not-ends_crlf.ensures)) ∙ c.loop-offset.invariant.value;
      utf8 = IsUtf8-past_char _ _ c.in-Some.c c.loop-offset.invariant.utf8 h.1;
    }

pub returns : goal.returns
returns c = sym (offset-end c.loop-offset.before _ _ c.loop-offset.to_pass (length c.args.text.now) c.in-None.ensures.steps.0) ∙ c.loop-offset.invariant.value
