-- A stream may be cut anywhere.
use Rattle.std.specs.Prelude.{◌≡◌, ℕ, List, [], ◌∷◌, ◌++◌, refl}
use Rattle.std.specs.List.{concat}
use Rattle.std.proofs.Common.{sym, ◌∙◌, ap}
use Rattle.lol_tags.specs.Runs.{given-append}
use Rattle.lol_tags.specs.Reading.{step, ended, after, tags_from}
use Rattle.lol_tags.specs.declared.reader.Tag.{Tag}
use Rattle.lol_tags.specs.declared.reader.TagReader.{TagReader}

-- the tags of chunks that are read one after the other
abbrev pub tags_of_chunks : TagReader → List (List ℕ) → List Tag
tags_of_chunks r [] = []
tags_of_chunks r (chunk ∷ chunks) = tags_from r chunk ++ tags_of_chunks (after r chunk) chunks

-- They are those of the whole, however it is cut.
pub cuts_change_nothing : (r : TagReader) (chunks : List (List ℕ)) → tags_of_chunks r chunks ≡ tags_from r (concat chunks)
cuts_change_nothing r [] = refl
cuts_change_nothing r (chunk ∷ chunks) =
    ap (λ tags. tags_from r chunk ++ tags) (cuts_change_nothing (after r chunk) chunks) ∙ sym (given-append step ended r chunk (concat chunks))
