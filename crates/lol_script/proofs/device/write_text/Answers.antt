use Rattle.std.proofs.Common.{ℕ, rules, List, ◌++◌, take, drop, sym, ap, subst, ◌∙◌, Option}
use Rattle.std.proofs.KnownBytes.{Appends-trans}
use Rattle.std.proofs.lemmas.List.{take_rest, append_assoc, take-append-drop}
use Rattle.std.specs.Io.KnownBytes.{Appends}
use Rattle.lol_script.specs.Devices.{device_of, AppendsFront}
use Rattle.lol_script.proofs.device.write_text.Goals as goal

-- a longer beginning is out
front_more : (a b c : Option (List ℕ)) (text rest : List ℕ) (n : ℕ) → AppendsFront a b text rest → Appends b c (take n rest) → AppendsFront a c text (drop n rest)
front_more a b c text rest n before wrote = (
  before.0 ++ take n rest,
  Appends-trans a b c before.0 (take n rest) before.1 wrote,
  before.2 ∙ (ap (λ r. before.0 ++ r) (sym (take-append-drop n rest)) ∙ sym (append_assoc before.0 (take n rest) (drop n rest))),
)

pub loop-rest-preserved : goal.loop-rest-preserved
loop-rest-preserved g c =
    let old = g.W.Write.contents (device_of c.args.writer.now) in
    let new = g.W.Write.contents (device_of c.write.new.self) in
    record {
      written = subst (AppendsFront old new c.args.text.now) (sym (take_rest c.loop-rest.rest.now c.in_ok-count.count)) (front_more old _ new c.args.text.now c.loop-rest.rest.now c.in_ok-count.count c.loop-rest.invariant.written c.in_ok-count.ensures.bytes);
      failures = search rules;
    }
