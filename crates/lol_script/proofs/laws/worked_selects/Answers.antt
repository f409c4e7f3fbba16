use Rattle.std.proofs.Common.{refl}
use Rattle.std.specs.Char.{encode_utf8}
use Rattle.std.specs.Str.{is_utf8, chars}
use Rattle.lol_script.proofs.laws.worked_selects.Goals as goal

pub returns-clause-empty_text : goal.returns-clause-empty_text
unfolding is_utf8 chars encode_utf8
returns-clause-empty_text c = refl

pub returns-clause-text_with_tabs : goal.returns-clause-text_with_tabs
unfolding is_utf8 chars encode_utf8
returns-clause-text_with_tabs c = refl

pub returns-clause-no_utf8 : goal.returns-clause-no_utf8
unfolding is_utf8 chars encode_utf8
returns-clause-no_utf8 c = refl
