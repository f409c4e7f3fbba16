-- The attributes of a tag, with their values decoded.
use Rattle.std.specs.Prelude.{ℕ, List}
use Rattle.std.specs.Option.{option_map}
use Rattle.lol_base.specs.StartTags.{Attribute, bytes_at}
use Rattle.lol_base.specs.declared.start_tag.AttributeOutline.{AttributeOutline}
use Rattle.lol_references.specs.Decoding.{decoded}

abbrev pub decoded_attribute : List ℕ → AttributeOutline → Attribute
decoded_attribute tag outline = record { name = bytes_at tag outline.name; value = option_map (λ range. decoded (bytes_at tag range)) outline.value }
