use Rattle.std.proofs.Common.{◌++◌, ◌∷◌, [], List, ℕ, map, ap, ◌∙◌}
use Rattle.std.proofs.lemmas.Result.{on_ok_weaker}
use Rattle.lol_memory.specs.declared.match_info.MatchInfo.{MatchInfo}
use Rattle.lol_machine.specs.Views.{match_of}
use Rattle.lol_script.specs.AnswerTexts.{end_of_start}
use Rattle.lol_script.specs.Output.{comma_list, shown_match}
use Rattle.lol_script.proofs.Commas.{map_through, start_written}
use Rattle.lol_script.proofs.output.push_started.Goals as goal

pub returns : goal.returns
returns c = on_ok_weaker c.push_start_end.result
    (λ text.
    let matches = c.args.matches.now in
    start_written c.args.text.now.items c.extend_from_slice.new.self.items c.push_matches.new.text.items c.push_start_end.new.text.items
    (comma_list (map shown_match (map (λ (info : MatchInfo). match_of info) matches))) (end_of_start c.args.asked c.args.tries) c.in_ok-extend_from_slice.ensures.items
    (c.in_ok-push_matches.ensures ∙ ap (λ (fields : List (List ℕ)). c.extend_from_slice.new.self.items ++ comma_list fields) (map_through shown_match (λ (info : MatchInfo). match_of info) matches)) text)
    c.push_start_end.ensures
