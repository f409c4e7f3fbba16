use Rattle.std.proofs.Common.{rules, ◌≡◌, false, true, sym, ◌∙◌}
use Rattle.std.specs.Prelude.{if◌then◌else◌}
use Rattle.lol_reasons.specs.AskedRuns.{bare_tag}
use Rattle.lol_matcher.specs.Noted.{handed}
use Rattle.lol_script.specs.Answering.{told_tag}
use Rattle.lol_script.specs.Lines.{start_tag_of}
use Rattle.lol_script.proofs.Answered.{whole_started}
use Rattle.lol_script.proofs.script_run.answer_start.Goals as goal

pub returns-in-Ok-clause-started : goal.returns-in-Ok-clause-started
returns-in-Ok-clause-started c =
    let line = c.args.line.now in
    let tag = start_tag_of line in
    let finish : line.finish ≡ true = search rules in
    let going : c.args.matcher.now.failed ≡ false = search rules in
    let same : handed line.name.now line.ns c.handed_over.result ≡ told_tag tag = c.handed_over.ensures.handed finish ∙ sym (λ i. if finish i then tag else bare_tag tag.name tag.namespace) in
    let is = c.in-Ok.ensures in
    whole_started c.args.matcher.now c.start_with.new.self going c.in-Ok.asked (handed line.name.now line.ns c.handed_over.result) (told_tag tag) same is.ok is.fits is.answered is.was_asked is.opens
