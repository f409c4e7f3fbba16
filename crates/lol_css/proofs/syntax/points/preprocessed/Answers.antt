use Rattle.std.proofs.Common.{sym, ap, ◌∙◌, map-id, refl}
use Rattle.std.proofs.lemmas.Iterator.{YieldsList-from_chars}
use Rattle.std.proofs.lemmas.Iterator.Consumers.{YieldsList-end}
use Rattle.lol_css.specs.Points.{preprocessed}
use Rattle.lol_css.proofs.Many.{Cleans-next, Cleans-all}
use Rattle.lol_css.proofs.syntax.points.preprocessed.Goals as goal

pub loop-c-init : goal.loop-c-init
loop-c-init c = rw c.in_ok-points.ensures.items (λ tail. refl)

pub loop-c-preserved : goal.loop-c-preserved
loop-c-preserved c =
    rw c.in_ok-push_clean.ensures (Cleans-next c.loop-c.points.items c.loop-c.before c.loop-c.yielded c.in-Some.c c.loop-c.invariant)

pub returns : goal.returns
returns c =
    let end = YieldsList-end (YieldsList-from_chars c.args.text.now c.utf8.text cc) c.loop-c.yielded _ c.loop-c.yielded_by _ _ c.in-None.is c.next.ensures.steps in
    Cleans-all c.loop-c.points.items c.loop-c.before c.loop-c.yielded c.loop-c.invariant ∙ ap preprocessed (sym (map-id c.loop-c.yielded) ∙ end.0)
