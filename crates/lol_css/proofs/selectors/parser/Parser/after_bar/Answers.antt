use Rattle.std.proofs.Common.{rules, ◌≡◌, Ok, Some, refl}
use Rattle.std.specs.Option.{option_map}
use Rattle.lol_css.specs.Trees as trees
use Rattle.lol_css.specs.Rules.{giving}
use Rattle.lol_css.specs.Reading.{after_bar}
use Rattle.lol_css.specs.Views.{nesting_of}
use Rattle.lol_css.specs.TreeViews.{part_of}
use Rattle.lol_css.proofs.TreeRows.{compound-push}
use Rattle.lol_css.proofs.selectors.parser.Parser.after_bar.Goals as goal
use Rattle.lol_css.proofs.selectors.parser.Parser.after_bar.Goals.{in-Some-Ident+in_ok-to_text-in-Some-Ident, in-Some-Delim-eq42}

pub returns-in_default : goal.returns-in_default
unfolding after_bar
returns-in_default c = search rules

pub returns : goal.returns
unfolding after_bar
returns c =
    let read : giving (option_map trees.Plain) (after_bar (nesting_of c.args.nesting) c.args.self.now.reader) ≡ Ok (Some (part_of c.match-peek-2.name), c.advance.new.self) = elim c.match-peek-2.branch [ in-Some-Ident+in_ok-to_text-in-Some-Ident w ↦ search rules | in-Some-Delim-eq42 w ↦ search rules ] in
    rw (read, compound-push c.args.compound c.push.new.self c.match-peek-2.name c.in_ok-push.ensures.items) refl
