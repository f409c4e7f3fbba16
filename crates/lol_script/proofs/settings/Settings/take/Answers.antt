use Rattle.std.proofs.Common.{◌++◌, ◌∷◌, [], List, ℕ, Some, true, refl, sym, ap, ◌∙◌, subst}
use Rattle.std.proofs.lemmas.Grind.{flat_map-append}
use Rattle.lol_program.specs.Paths.{Path, beginnings, all_beginnings}
use Rattle.lol_program.specs.Asts.{pairs_of, nodes_of}
use Rattle.lol_program.specs.Conditions.{pairs_under}
use Rattle.lol_program.specs.Sets.{SameMembers}
use Rattle.lol_script.specs.Lines.{set_by}
use Rattle.lol_script.specs.Scripts.{SelectLine, pairs_in, with_line, with_selector}
use Rattle.lol_script.proofs.ScriptLemmas.{joins_members, lines_more, not_begun, pairs_more}
use Rattle.lol_script.proofs.settings.Settings.take.Goals as goal

pub returns-in-Limit-clause-taken : goal.returns-in-Limit-clause-taken
returns-in-Limit-clause-taken c = λ s reading.
    let none = reading.none in (
      record s { limit = c.in-Limit.maximum },
      record { limit = refl; esi = reading.esi; shows_tries = reading.shows_tries; explains = reading.explains; rows_from = reading.rows_from; pairs = reading.pairs; nodes = reading.nodes; rows = reading.rows; selects = reading.selects; none = reading.none },
      ap (λ setting. with_line c.args.number s (set_by setting)) c.in-Limit.is ∙ not_begun s.events c.args.number _ none,
    )

pub returns-in-Esi-clause-taken : goal.returns-in-Esi-clause-taken
returns-in-Esi-clause-taken c = λ s reading.
    let none = reading.none in (
      record s { esi = true },
      record { limit = reading.limit; esi = refl; shows_tries = reading.shows_tries; explains = reading.explains; rows_from = reading.rows_from; pairs = reading.pairs; nodes = reading.nodes; rows = reading.rows; selects = reading.selects; none = reading.none },
      ap (λ setting. with_line c.args.number s (set_by setting)) c.in-Esi.is ∙ not_begun s.events c.args.number _ none,
    )

pub returns-in-Tries-clause-taken : goal.returns-in-Tries-clause-taken
returns-in-Tries-clause-taken c = λ s reading.
    let none = reading.none in (
      record s { shows_tries = true },
      record { limit = reading.limit; esi = reading.esi; shows_tries = refl; explains = reading.explains; rows_from = reading.rows_from; pairs = reading.pairs; nodes = reading.nodes; rows = reading.rows; selects = reading.selects; none = reading.none },
      ap (λ setting. with_line c.args.number s (set_by setting)) c.in-Tries.is ∙ not_begun s.events c.args.number _ none,
    )

pub returns-in-Explain-clause-taken : goal.returns-in-Explain-clause-taken
returns-in-Explain-clause-taken c = λ s reading.
    let none = reading.none in (
      record s { explains = true },
      record { limit = reading.limit; esi = reading.esi; shows_tries = reading.shows_tries; explains = refl; rows_from = reading.rows_from; pairs = reading.pairs; nodes = reading.nodes; rows = reading.rows; selects = reading.selects; none = reading.none },
      ap (λ setting. with_line c.args.number s (set_by setting)) c.in-Explain.is ∙ not_begun s.events c.args.number _ none,
    )

pub returns-in-Rows-clause-taken : goal.returns-in-Rows-clause-taken
returns-in-Rows-clause-taken c = λ s reading.
    let none = reading.none in (
      record s { rows_from = Some c.in-Rows.fewest },
      record { limit = reading.limit; esi = reading.esi; shows_tries = reading.shows_tries; explains = reading.explains; rows_from = refl; pairs = reading.pairs; nodes = reading.nodes; rows = reading.rows; selects = reading.selects; none = reading.none },
      ap (λ setting. with_line c.args.number s (set_by setting)) c.in-Rows.is ∙ not_begun s.events c.args.number _ none,
    )

pub returns-in-Ok-clause-taken : goal.returns-in-Ok-clause-taken
returns-in-Ok-clause-taken c = λ s reading.
    let added = c.in_ok-take_selector-in-Select.ensures.added in
    let pairs = pairs_under c.in-Select.id added.items in
    let old = c.args.self.now.ast in
    let new = c.take_selector.new.ast in
    let none = reading.none in
    let line : SelectLine = record { number = c.args.number; text = record { id = c.in-Select.id; items = added.items } } in
    let more = pairs_more s line in (
      record s { selects = s.selects ++ line ∷ [] },
      record {
        limit = reading.limit;
        esi = reading.esi;
        shows_tries = reading.shows_tries;
        explains = reading.explains;
        rows_from = reading.rows_from;
        pairs = subst (λ (members : List (Path × ℕ)). SameMembers members (pairs_of new)) (sym more) (joins_members (pairs_of old) (pairs_of new) pairs (pairs_in s) reading.pairs added.pairs);
        nodes = subst (λ (members : List Path). SameMembers members (nodes_of new)) (sym (ap all_beginnings more ∙ flat_map-append (λ (pair : Path × ℕ). beginnings pair.0) (pairs_in s) pairs))
            (joins_members (nodes_of old) (nodes_of new) (all_beginnings pairs) (all_beginnings (pairs_in s)) reading.nodes added.nodes);
        rows = added.rows ∙ reading.rows;
        selects = lines_more _ _ s.selects c.args.number c.in-Select.id c.in-Select.text.now added.items added.read c.in-Ok.ensures reading.selects;
        none = reading.none;
      },
      ap (λ setting. with_line c.args.number s (set_by setting)) c.in-Select.is ∙ (not_begun s.events c.args.number _ none ∙ ap (with_selector c.args.number s c.in-Select.id) added.read),
    )
