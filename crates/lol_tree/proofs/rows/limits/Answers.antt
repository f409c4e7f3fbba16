use Rattle.std.proofs.Common.{refl}
use Rattle.lol_base.specs.Names.{void_names}
use Rattle.lol_page.specs.Namespaces.{svg_points, text_points, breakouts}
use Rattle.lol_tree.specs.Scopes.{special_names, formatting_names, heading_names, implied_end_names, marked_names, raw_text_names, head_names, block_names, part_names, body_names, table_names}
use Rattle.lol_tree.specs.StartRules.{body_start, table_start, select_start, start_rule}
use Rattle.lol_tree.specs.EndRules.{body_end, table_end, select_end, end_rule}
use Rattle.lol_tree.specs.Doctypes.{quirks_starts, frameset_starts, quirks_ids}
use Rattle.lol_tree.proofs.rows.limits.Goals as goal

pub returns : goal.returns
unfolding svg_points text_points breakouts void_names special_names formatting_names heading_names implied_end_names marked_names raw_text_names head_names block_names part_names body_names table_names body_start table_start select_start start_rule body_end table_end select_end end_rule quirks_starts frameset_starts quirks_ids
returns c = record { within = refl; beyond = refl; created = refl }
