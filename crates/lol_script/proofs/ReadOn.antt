-- A script that is read line by line.
use Rattle.std.proofs.Common.{◌≡◌, ℕ, ◌+◌, Bool, true, false, List, [], ◌∷◌, ◌++◌, position, Option, Some, None, Result, Ok, Err, refl, sym, ap, ◌∙◌, subst}
use Rattle.std.specs.Prelude.{IfErr, IfOk, if◌then◌else◌}
use Rattle.std.specs.Bool.{MatchBool}
use Rattle.std.specs.List.{slice_split}
use Rattle.std.specs.Io.KnownBytes.{IsAtEnd}
use Rattle.std.proofs.KnownBytes.{Consumes-trans}
use Rattle.std.proofs.lemmas.List.{append_assoc, append-nil}
use Rattle.lol_machine.specs.Documents.{empty}
use Rattle.lol_machine.specs.Events.{Event}
use Rattle.lol_machine.specs.Refusals.{refused}
use Rattle.lol_script.specs.Devices.{IsReadFault, Reads, ReadsToEnd, device_of, failures_of}
use Rattle.lol_script.specs.ReadLines.{GoesOn, ReadLines, cut_at, is_line_feed, later_lines, next_line}
use Rattle.lol_script.specs.Readings.{IsBad, IsReadTo, IsStop, Stops}
use Rattle.lol_script.specs.Scripts.{Script, and_then, output, output_of, read_lines, read_script, run_output, selectors_in, texts_for, with_bytes}
use Rattle.lol_script.specs.declared.bad_line.BadLine.{BadLine}
use Rattle.lol_script.specs.declared.device.Counted.{Counted}
use Rattle.lol_script.specs.declared.device.RunFault.{RunFault}
use Rattle.lol_script.specs.declared.device.RunFault.TheVariants.{Memory, Write}
use Rattle.lol_script.specs.declared.program.Status.TheVariants.{Good}
use Rattle.lol_script.specs.declared.settings.Stop.{Stop}
use Rattle.lol_script.specs.declared.settings.Stop.TheVariants.{Fault, Bad}
use Rattle.lol_script.proofs.LineCuts.{next_split}

pub match_true : {P : Type 0} (Q : Type 0) (b : Bool) → b ≡ true → MatchBool b P Q → P
match_true {P} Q b is h = subst (λ b. MatchBool b P Q) is h

pub match_false : (P : Type 0) {Q : Type 0} (b : Bool) → b ≡ false → MatchBool b P Q → Q
match_false P {Q} b is h = subst (λ b. MatchBool b P Q) is h

pub at_ok : {T E : Type 0} (P : T → Type 0) (result : Result T E) (x : T) → result ≡ Ok x → IfOk result P → P x
at_ok P result x is h = subst (λ r. IfOk r P) is h

pub at_err : {T E : Type 0} (P : E → Type 0) (result : Result T E) (x : E) → result ≡ Err x → IfErr result P → P x
at_err P result x is h = subst (λ r. IfErr r P) is h

-- nothing is written for a script without tags
pub no_output : (s : Script) → s.events ≡ [] → output_of (Ok s) ≡ record { text = []; status = Good }
no_output s none =
    ap (λ (events : List Event). run_output (texts_for (selectors_in s) s empty events)
    (refused (selectors_in s) s.esi (record { item_bytes = 64; maximum = s.limit; usage = 0 }) events)) none

-- a fault that is want of memory
pub memory_is_fault : {D : Type 0} (old new : Counted D) (fault : RunFault) → fault ≡ Memory → IsReadFault old new fault
memory_is_fault old new fault is = (λ (write : fault ≡ Write). let same = sym is ∙ write in cc, λ read. let same = sym is ∙ read in cc)

module _ {D : Type 0} (remaining : D → Option (List ℕ)) (start : Counted D) where
  -- the next line
  pub at_line : (old new : Counted D) (before after : ReadLines) (s : Script) → IsReadTo remaining start old before (before.number + 1) s [] → before.is_last ≡ false
      → GoesOn remaining old new before after → failures_of new ≡ failures_of old → IsReadTo remaining start new after after.number s (after.line ∷ [])
  at_line old new before after s r more goes same = record {
    bytes = r.bytes ++ goes.0;
    read = Consumes-trans _ _ _ r.bytes goes.0 r.read goes.1;
    says = subst (λ (a : ReadLines). (later : List ℕ) → (a.is_last ≡ true → later ≡ []) → read_lines a.number s (a.line ∷ later_lines a later) ≡ read_script ((r.bytes ++ goes.0) ++ later)) (sym goes.2) says;
    end = goes.3;
    failures = same ∙ r.failures;
  }
    where
      all : List ℕ
      all = before.unread ++ goes.0

      number_is : (offset : Option ℕ) → (cut_at (before.number + 1) all offset).number ≡ before.number + 1
      number_is (Some n) = refl
      number_is None = refl

      unended : (later : List ℕ) → later_lines before later ≡ slice_split is_line_feed (before.unread ++ later)
      unended later = ap (λ b. if b then [] else slice_split is_line_feed (before.unread ++ later)) more

      says : (later : List ℕ) → ((next_line (before.number + 1) all).is_last ≡ true → later ≡ [])
          → read_lines (next_line (before.number + 1) all).number s ((next_line (before.number + 1) all).line ∷ later_lines (next_line (before.number + 1) all) later) ≡ read_script ((r.bytes ++ goes.0) ++ later)
      says later last =
          (λ i. read_lines (number_is (position is_line_feed all) i) s (sym (next_split (before.number + 1) all later last) i))
          ∙ (ap (λ (bytes : List ℕ). read_lines (before.number + 1) s (slice_split is_line_feed bytes)) (append_assoc before.unread goes.0 later)
          ∙ (ap (read_lines (before.number + 1) s) (sym (unended (goes.0 ++ later)))
          ∙ (r.says (goes.0 ++ later) (λ is. absurd (let both = sym is ∙ more in cc)) ∙ ap read_script (sym (append_assoc r.bytes goes.0 later)))))

  module _ (new : Counted D) (lines : ReadLines) (s : Script) (r : IsReadTo remaining start new lines lines.number s (lines.line ∷ []))
      (number : ℕ) (line : List ℕ) (number_is : number ≡ lines.number) (line_is : line ≡ lines.line) where
    -- it is taken
    pub line_taken : (t : Script) → with_bytes number s line ≡ Ok t → IsReadTo remaining start new lines (lines.number + 1) t []
    line_taken t is = record {
      bytes = r.bytes;
      read = r.read;
      says = λ later last.
          sym (ap (λ read. and_then read (λ t. read_lines (lines.number + 1) t (later_lines lines later))) ((λ i. with_bytes (sym number_is i) s (sym line_is i)) ∙ is)) ∙ r.says later last;
      end = r.end;
      failures = r.failures;
    }

    -- it is bad
    line_bad : (bad : BadLine) → with_bytes number s line ≡ Err bad → IsBad remaining start new lines bad
    line_bad bad is = record {
      bytes = r.bytes;
      read = r.read;
      says = λ later last.
          sym (r.says later last) ∙ ap (λ read. and_then read (λ t. read_lines (lines.number + 1) t (later_lines lines later))) ((λ i. with_bytes (sym number_is i) s (sym line_is i)) ∙ is);
      end = r.end;
      failures = r.failures;
    }

    pub line_stops : (stop : Stop) → Stops stop (with_bytes number s line) → IsStop remaining start new lines stop
    line_stops (Fault fault) is = memory_is_fault start new fault is
    line_stops (Bad bad) is = line_bad bad is

  -- after the last line the whole is read
  pub read_whole : (new : Counted D) (lines : ReadLines) (number : ℕ) (s : Script) → IsReadTo remaining start new lines number s [] → lines.is_last ≡ true
      → ReadsToEnd remaining start new (λ script. output script ≡ output_of (Ok s))
  read_whole new lines number s r last =
      let none : later_lines lines [] ≡ [] = ap (λ b. if b then [] else slice_split is_line_feed (lines.unread ++ [])) last in
      let says : read_script r.bytes ≡ Ok s = ap read_script (sym (append-nil r.bytes)) ∙ (sym (r.says [] (λ _. refl)) ∙ ap (read_lines number s) none) in
      (r.bytes, r.read, r.end last, ap output_of says)

  -- a script whose bad line is its last
  pub bad_whole : (new : Counted D) (lines : ReadLines) (bad : BadLine) → IsBad remaining start new lines bad → lines.is_last ≡ true → ReadsToEnd remaining start new (λ script. output script ≡ output_of (Err bad))
  bad_whole new lines bad r last = (r.bytes, r.read, r.end last, ap output_of (ap read_script (sym (append-nil r.bytes)) ∙ r.says [] (λ _. refl)))

  -- a script that is read on after its bad line
  pub bad_read_on : (mid new : Counted D) (lines : ReadLines) (bad : BadLine) → IsBad remaining start mid lines bad → lines.is_last ≡ false
      → (more : List ℕ) × Reads remaining mid new more × IsAtEnd (remaining (device_of new)) → ReadsToEnd remaining start new (λ script. output script ≡ output_of (Err bad))
  bad_read_on mid new lines bad r more rest = (
    r.bytes ++ rest.0,
    Consumes-trans _ _ _ r.bytes rest.0 r.read rest.1,
    rest.2,
    ap output_of (r.says rest.0 (λ last. absurd (let both = sym last ∙ more in cc))),
  )
