use Rattle.std.proofs.Common.{refl}
use Rattle.std.specs.Prelude.{codes}
use Rattle.std.specs.Option.{option_copied}
use Rattle.lol_instructions.specs.Attributes.{value_in}
use Rattle.lol_rows.proofs.PairLemmas.{added_after, added_before, pairs_added}
use Rattle.lol_rows.proofs.tag_hashes.add_pair_hashes.Goals as goal

pub returns-in_err-add_key : goal.returns-in_err-add_key
returns-in_err-add_key c =
    let seen = c.args.matcher.now in
    pairs_added _ c.after_name.result c.after_name-2.result c.args.local_name.now.lowercased seen (value_in (codes "id") seen) (value_in (codes "class") seen) _ _ c.after_name.ensures c.after_name-2.ensures refl refl
    (added_before _ _ _ _ _ _ c.from_residual.ensures.0 c.in_err-add_key.ensures)

pub returns-in_err-add_id : goal.returns-in_err-add_id
returns-in_err-add_id c =
    let seen = c.args.matcher.now in
    pairs_added _ c.after_name.result c.after_name-2.result c.args.local_name.now.lowercased seen (option_copied c.id.result) (value_in (codes "class") seen) _ _ c.after_name.ensures c.after_name-2.ensures c.id.ensures refl
    (added_after _ _ _ _ _ _ c.in_ok-add_key.ensures.all (added_before _ _ _ _ _ _ c.from_residual-in_err-add_id.ensures.0 c.in_err-add_id.ensures))

pub returns-in_err-add_words : goal.returns-in_err-add_words
returns-in_err-add_words c =
    pairs_added _ c.after_name.result c.after_name-2.result c.args.local_name.now.lowercased c.args.matcher.now (option_copied c.id.result) (option_copied c.class.result) _ _ c.after_name.ensures c.after_name-2.ensures c.id.ensures c.class.ensures
    (added_after _ _ _ _ _ _ c.in_ok-add_key.ensures.all (added_after _ _ _ _ _ _ c.in_ok-add_id.ensures.all (added_before _ _ _ _ _ _ c.from_residual-in_err-add_words.ensures.0 c.in_err-add_words.ensures)))

pub returns : goal.returns
returns c =
    pairs_added _ c.after_name.result c.after_name-2.result c.args.local_name.now.lowercased c.args.matcher.now (option_copied c.id.result) (option_copied c.class.result) _ _ c.after_name.ensures c.after_name-2.ensures c.id.ensures c.class.ensures
    (added_after _ _ _ _ _ _ c.in_ok-add_key.ensures.all (added_after _ _ _ _ _ _ c.in_ok-add_id.ensures.all (added_after _ _ _ _ _ _ c.in_ok-add_words.ensures.all c.add_names.ensures)))
