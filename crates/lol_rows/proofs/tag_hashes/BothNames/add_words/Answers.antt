use Rattle.std.proofs.Common.{◌++◌, List, Some, ap, append_assoc, sym, ◌∙◌}
use Rattle.std.specs.Prelude.{flat_map}
use Rattle.std.specs.Option.{option_copied}
use Rattle.lol_instructions.specs.Keys.{ByClass, words_of}
use Rattle.lol_rows.specs.TagHashes.{both_hashes}
use Rattle.lol_rows.proofs.PairLemmas.{some_added}
use Rattle.lol_rows.proofs.tag_hashes.BothNames.add_words.Goals as goal

pub returns-in_err-add_key : goal.returns-in_err-add_key
returns-in_err-add_key c =
    let hashes_of : List _ → List _ = λ word. both_hashes c.args.self.now.unnamed c.args.self.now.named (Some (ByClass word)) in
    let before = c.loop-left.hashes.items in
    let this = hashes_of c.first_word.result.0.now in
    let rest = flat_map hashes_of (words_of (option_copied c.first_word.result.1)) in
    some_added c.from_residual.result c.args.hashes.now.items c.add_key.new.hashes.items (before ++ this) rest (flat_map hashes_of (words_of (option_copied c.args.class))) c.from_residual.ensures.0 c.in_err-add_key.ensures.only
    (append_assoc before this rest ∙ ap (λ words. before ++ flat_map hashes_of words) (sym c.first_word.ensures ∙ ap (λ o. words_of (option_copied o)) (sym c.in-Some.is)) ∙ c.loop-left.invariant)
