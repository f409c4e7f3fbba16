-- One letter more.
use Rattle.std.proofs.Common.{[], ◌∷◌, get_or, take, sym, ap, ◌∙◌, add-one, arith}
use Rattle.std.proofs.Math.Seq.{take-suc}
use Rattle.std.proofs.lemmas.List.Sums.{fold-append}
use Rattle.lol_tags.specs.States.{is_letter}
use Rattle.lol_tags.specs.Reading.{with_byte}
use Rattle.lol_tags.proofs.Names.{each-more}
use Rattle.lol_tags.proofs.front.letters.Goals as goal

pub loop-i-preserved : goal.loop-i-preserved
loop-i-preserved c =
    let s = c.args.rest.now in
    let i = c.loop-i.i in
    let longer = c.with_byte-longer.ensures ∙ ap (λ code. with_byte code (get_or s i 0)) c.loop-i.invariant.code in
    record {
      within = omega (arith, c.loop-i-test.true);
      letters = each-more (λ b. is_letter b) s i c.loop-i-test.true c.loop-i.invariant.letters (sym c.is_letter.ensures ∙ c.if-not-is_letter.false);
      code = rw (add-one i, take-suc s i 0 c.loop-i-test.true) (longer ∙ sym (fold-append with_byte c.args.code (take i s) (get_or s i 0 ∷ [])));
    }
