use Rattle.std.proofs.Common.{rules, ◌≡◌, ◌≢◌, ◌==◌, ◌++◌, ◌∷◌, ◌∙◌, [], Bool, true, false, List, ℕ, IsOk, OnOk, Result, Ok, Err, Some, length, ap}
use Rattle.std.specs.Global.{Vec}
use Rattle.std.specs.declared.alloc.AllocError.{AllocError}
use Rattle.lol_base.specs.declared.start_tag.AttributeOutline.{AttributeOutline}
use Rattle.lol_program.specs.Paths.{Selectors}
use Rattle.lol_machine.specs.Events.{Event}
use Rattle.lol_machine.specs.Events as events
use Rattle.lol_script.specs.Answering.{AnswersScript, IsWritten}
use Rattle.lol_script.specs.Lines.{start_tag_of}
use Rattle.lol_script.specs.Scripts.{Script, with_event}
use Rattle.lol_script.specs.declared.script_run.ScriptRun.{ScriptRun}
use Rattle.lol_script.specs.declared.lines.Line.TheVariants.{Start, End}
use Rattle.lol_script.specs.declared.settings.Stop.{Stop}
use Rattle.lol_script.proofs.Fields.{end_line_at, start_line_at}
use Rattle.lol_script.proofs.ReadOn.{at_ok}
use Rattle.lol_script.proofs.ScriptLemmas.{with_bytes-line}
use Rattle.lol_script.proofs.script_run.ScriptRun.take_line.Goals as goal

has_tags : (events : List Event) (event : Event) → events ++ event ∷ [] ≡ [] → ⊥
has_tags [] event none = cc
has_tags (e ∷ events) event none = cc

module _ (code : ScriptRun) (outlines : Vec AttributeOutline) (s : Script) where
  cut_is_written : (selectors : Selectors) (refused : Bool) → IsWritten selectors s code refused → IsWritten selectors s (record code { outlines = outlines }) refused
  cut_is_written selectors false written = written
  cut_is_written selectors true written = written

  -- the outlines of a tag's attributes are no answer
  cut_answers : AnswersScript code s → AnswersScript (record code { outlines = outlines }) s
  cut_answers answers = record {
    selectors = answers.selectors;
    same = answers.same;
    shows_tries = answers.shows_tries;
    written = cut_is_written answers.selectors code.matcher.failed answers.written;
  }

-- a line is taken where its tag is
taken : {P Q : Type 0} (r : Result (Unit {0}) Stop) (tag : Result (Unit {0}) AllocError) → OnOk r (IsOk tag) → OnOk tag P → (P → Q) → OnOk r Q
taken (Ok u) (Ok v) is h more = more h
taken (Ok u) (Err e) is h more = cc
taken (Err e) tag is h more = tt

pub returns-in-Ok-Some-clause-taken : goal.returns-in-Ok-Some-clause-taken
returns-in-Ok-Some-clause-taken c =
    taken c.in_memory.result c.take_start.result c.in_memory.ensures.taken c.take_start.ensures (λ h s answers first.
    let some : c.args.line.now ≢ [] = λ (none : c.args.line.now ≡ []). let h = ap (λ (bytes : List ℕ). length bytes == 0) none in cc in
    let event = events.Start (start_tag_of c.in-Ok-Some.start) in
    let said = at_ok _ c.start_of.result (Some c.in-Ok-Some.start) (let is : c.start_of.result ≡ Ok (Some c.in-Ok-Some.start) = search rules in is) c.start_of.ensures.said in (
      with_event s event,
      h s (cut_answers c.args.self.now _ s answers),
      with_bytes-line c.args.number s c.args.line.now _ some (said ∙ start_line_at c.args.line.now c.in-Some.rest.now c.in-Some.ensures.some),
      has_tags s.events event,
    ))

pub returns-in-Some-end_of-clause-taken : goal.returns-in-Some-end_of-clause-taken
returns-in-Some-end_of-clause-taken c =
    taken c.in_memory-in-Some-end_of.result c.take_end.result c.in_memory-in-Some-end_of.ensures.taken c.take_end.ensures (λ h s answers first.
    let some : c.args.line.now ≢ [] = λ (none : c.args.line.now ≡ []). let h = ap (λ (bytes : List ℕ). length bytes == 0) none in cc in
    let event = events.End c.in-Some-end_of.name.now in (
      with_event s event,
      h s answers,
      with_bytes-line c.args.number s c.args.line.now _ some (c.in-Some-end_of.ensures ∙ end_line_at c.args.line.now c.in-Some-after_kind.rest.now c.in-Some-after_kind.ensures.some),
      has_tags s.events event,
    ))

pub returns-in-Ok-Some-Start-clause-taken : goal.returns-in-Ok-Some-Start-clause-taken
returns-in-Ok-Some-Start-clause-taken c =
    taken c.in_memory-in-Ok-Some-Start.result c.take_start-in-Ok-Some-Start.result c.in_memory-in-Ok-Some-Start.ensures.taken c.take_start-in-Ok-Some-Start.ensures (λ h s answers first.
    let some : c.args.line.now ≢ [] = λ (none : c.args.line.now ≡ []). let h = ap (λ (bytes : List ℕ). length bytes == 0) none in cc in
    let line = Some (Start c.in-Ok-Some-Start.start) in
    let event = events.Start (start_tag_of c.in-Ok-Some-Start.start) in
    let said = at_ok _ c.other_line.result line (let is : c.other_line.result ≡ Ok line = search rules in is) c.other_line.ensures.said c.in_default.ensures.none c.in_default-after_kind.ensures.none in
    (with_event s event, h s (cut_answers c.args.self.now _ s answers), with_bytes-line c.args.number s c.args.line.now _ some said, has_tags s.events event))

pub returns-in-Ok-Some-End-clause-taken : goal.returns-in-Ok-Some-End-clause-taken
returns-in-Ok-Some-End-clause-taken c =
    taken c.in_memory-in-Ok-Some-End.result c.take_end-in-Ok-Some-End.result c.in_memory-in-Ok-Some-End.ensures.taken c.take_end-in-Ok-Some-End.ensures (λ h s answers first.
    let some : c.args.line.now ≢ [] = λ (none : c.args.line.now ≡ []). let h = ap (λ (bytes : List ℕ). length bytes == 0) none in cc in
    let line = Some (End c.in-Ok-Some-End.name) in
    let event = events.End c.in-Ok-Some-End.name.now in
    let said = at_ok _ c.other_line.result line (let is : c.other_line.result ≡ Ok line = search rules in is) c.other_line.ensures.said c.in_default.ensures.none c.in_default-after_kind.ensures.none in
    (with_event s event, h s (cut_answers c.args.self.now _ s answers), with_bytes-line c.args.number s c.args.line.now _ some said, has_tags s.events event))
