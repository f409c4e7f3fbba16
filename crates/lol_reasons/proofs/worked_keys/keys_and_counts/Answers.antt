use Rattle.std.proofs.Common.{refl}
use Rattle.lol_reasons.proofs.worked_keys.keys_and_counts.Goals as goal

pub returns : goal.returns
returns c = record {
  keys = record { named = refl; id_first = refl; class_first = refl; attribute = refl; part = refl; caseless = refl; flagged = refl; class_before_part = refl; not_surely_open = refl; negated = refl; chosen = refl; any = refl; empty_operand = refl };
  counts = record {
    lone_class = record { names_tried = refl; attributes_tried = refl; names_tried_by_keys = refl; attributes_tried_by_keys = refl; names_tried_of_spared = refl; attributes_tried_of_spared = refl; attributes_asked = refl; asked_at_once = refl };
    names_only = record { names_tried = refl; attributes_tried = refl; names_tried_by_keys = refl; attributes_tried_by_keys = refl; names_tried_of_spared = refl; attributes_tried_of_spared = refl; attributes_asked = refl; asked_at_once = refl };
    mixed = record { names_tried = refl; attributes_tried = refl; names_tried_by_keys = refl; attributes_tried_by_keys = refl; names_tried_of_spared = refl; attributes_tried_of_spared = refl; attributes_asked = refl; asked_at_once = refl };
    by_names_first = record { names_tried = refl; attributes_tried = refl; names_tried_by_keys = refl; attributes_tried_by_keys = refl; names_tried_of_spared = refl; attributes_tried_of_spared = refl; attributes_asked = refl; asked_at_once = refl };
  };
  order = record { shut_first = refl; open_first = refl };
}
