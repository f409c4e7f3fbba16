use Rattle.std.proofs.Common.{◌≡◌, ◌++◌, Some, length}
use Rattle.std.specs.Prelude.{flat_map}
use Rattle.std.specs.Option.{option_copied}
use Rattle.lol_instructions.specs.Keys.{ByClass, words_of}
use Rattle.lol_rows.specs.TagHashes.{both_hashes}
use Rattle.lol_rows.proofs.tag_hashes.BothNames.add_words.Given as goal

-- with those of the words that are left, all are there
abbrev pub invariant-loop-left : goal.invariant-loop-left
invariant-loop-left l =
    l.hashes.items ++ flat_map (λ word. both_hashes l.self.unnamed l.self.named (Some (ByClass word))) (words_of (option_copied l.left))
    ≡ l.fn.hashes.items ++ flat_map (λ word. both_hashes l.self.unnamed l.self.named (Some (ByClass word))) (words_of (option_copied l.fn.class))

abbrev pub decreases-loop-left : goal.decreases-loop-left
decreases-loop-left l = length (words_of (option_copied l.left))
