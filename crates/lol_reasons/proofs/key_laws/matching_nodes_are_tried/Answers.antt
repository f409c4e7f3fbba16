use Rattle.lol_reasons.proofs.TriedNodes.{matching_nodes_are_tried, tried_pairs_give_ids}
use Rattle.lol_reasons.proofs.key_laws.matching_nodes_are_tried.Goals as goal

pub returns : goal.returns
returns c = record { nodes = matching_nodes_are_tried; ids = tried_pairs_give_ids }
