-- What the values of a machine stand for.
use Rattle.std.specs.Prelude.{ℕ, Bool, List}
use Rattle.lol_base.specs.StartTags.{StartTag, attributes_of}
use Rattle.lol_base.specs.declared.namespace.Namespace.{Namespace}
use Rattle.lol_base.specs.declared.start_tag.AuxStartTagInfo.{AuxStartTagInfo}
use Rattle.lol_memory.specs.declared.match_info.MatchInfo.{MatchInfo}
use Rattle.lol_program.specs.Paths.{Selectors}
use Rattle.lol_program.specs.Asts.{pairs_of, nodes_of, is_with_rows}
use Rattle.lol_program.specs.declared.ast.Ast.{Ast}
use Rattle.lol_machine.specs.Answers.{Match}

abbrev pub tag_of : List ℕ → Namespace → AuxStartTagInfo → Bool → StartTag
tag_of name ns aux finish =
    record { name = name; namespace = ns; attributes = attributes_of aux; self_closing = aux.self_closing; finish = finish }

abbrev pub match_of : MatchInfo → Match
match_of m = record { id = m.match_id; with_content = m.with_content }

-- the selectors that were added, the nodes of their tree, and whether its program is made with rows
abbrev pub selectors : Ast → Selectors
selectors ast = record { pairs = pairs_of ast; nodes = nodes_of ast; by_keys = is_with_rows ast }
