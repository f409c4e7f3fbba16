use Rattle.std.proofs.Common.{refl}
use Rattle.std.specs.Fmt.{digits}
use Rattle.std.specs.Char.{encode_utf8}
use Rattle.std.specs.Str.{is_utf8, chars}
use Rattle.lol_base.specs.Names.{void_names, esi_names}
use Rattle.lol_css.specs.CaselessAttributes.{caseless_attributes}
use Rattle.lol_css.specs.Points.{at_most, hexadecimal, preprocessed_after, escaped_point, name_point}
use Rattle.lol_css.specs.Tokens.{in_comment, comment, space, string_escape, string_piece, string, hash, after_fraction, after_exponent, numeral, number, cdc, identifier, match_sign, delim, next, tokens_of}
use Rattle.lol_css.specs.Rules.{skip_space, required_token, block_end}
use Rattle.lol_css.specs.AnPlusB.{bounded_integer, digits_of_b, after_n, rest_of, an_plus_b_of_dimension, an_plus_b_of, an_plus_b}
use Rattle.lol_css.specs.Reading.{attribute_name, case_sensitivity, comparison, attribute, class_name, function_part, ident_part, pseudo, part, parts_at_most, after_bar, type_part, compound, step, next_step, further, item, items_at_most, list, inner_list, selector}
use Rattle.lol_css.specs.Accepting.{judged_part, judged_compound, judged_item, judged, accept}
use Rattle.lol_script.proofs.laws.worked_outputs.Goals as goal

pub returns : goal.returns
unfolding at_most hexadecimal preprocessed_after escaped_point name_point in_comment comment space string_escape string_piece string hash after_fraction after_exponent numeral number cdc identifier match_sign delim next tokens_of skip_space required_token block_end bounded_integer digits_of_b after_n rest_of an_plus_b_of_dimension an_plus_b_of an_plus_b caseless_attributes attribute_name case_sensitivity comparison attribute class_name function_part ident_part pseudo part parts_at_most after_bar type_part compound step next_step further item items_at_most list inner_list selector judged_part judged_compound judged_item judged accept void_names esi_names is_utf8 chars encode_utf8 digits
returns c = record {
  nothing = refl;
  descendant_and_child = refl;
  tries = refl;
  tries_with_rows = refl;
  without_content = refl;
  dropped = refl;
  foreign = refl;
  limit = refl;
  last_limit = refl;
  attributes = refl;
  attribute_with_equals = refl;
  esi = refl;
}
