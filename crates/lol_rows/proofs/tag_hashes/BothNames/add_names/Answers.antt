use Rattle.std.proofs.Common.{◌++◌, ◌∷◌, [], ◌+◌, List, Some, ap, refl, sym, ◌∙◌, drop}
use Rattle.std.specs.Prelude.{flat_map}
use Rattle.std.specs.Option.{option_copied}
use Rattle.std.proofs.lemmas.List.{take_all}
use Rattle.lol_base.specs.Names.{lowercased}
use Rattle.lol_base.specs.StartTags.{Attribute}
use Rattle.lol_instructions.specs.Keys.{ByAttribute}
use Rattle.lol_rows.specs.TagHashes.{both_hashes}
use Rattle.lol_rows.proofs.PairLemmas.{all_added, flat_first, name_added, none_there, some_added}
use Rattle.lol_rows.proofs.tag_hashes.BothNames.add_names.Goals as goal

pub returns-in_err-add_both : goal.returns-in_err-add_both
returns-in_err-add_both c =
    let attributes = c.args.matcher.now.attributes in
    let old = c.args.hashes.now.items in
    let first = c.loop-index.hashes.items ++ c.attribute_hash-unnamed.result ∷ c.attribute_hash-named.result ∷ [] in
    let hashes_of : Attribute → List _ = λ a. both_hashes c.args.self.now.unnamed c.args.self.now.named (Some (ByAttribute (lowercased a.name))) in
    some_added c.from_residual.result old c.add_both.new.hashes.items first (flat_map hashes_of (drop (c.loop-index.index + 1) attributes)) (flat_map hashes_of attributes) c.from_residual.ensures.0 c.in_err-add_both.ensures.only
    (flat_first hashes_of attributes (c.loop-index.index + 1) old first
    (name_added c.args.self.now.unnamed c.args.self.now.named attributes c.loop-index.index c.in-Some.name.now c.attribute_hash-unnamed.result c.attribute_hash-named.result old c.loop-index.hashes.items
    (sym c.name_at.ensures ∙ ap option_copied c.in-Some.is) c.loop-index.invariant c.attribute_hash-unnamed.ensures c.attribute_hash-named.ensures))

pub loop-index-preserved : goal.loop-index-preserved
loop-index-preserved c =
    c.in_ok-add_both.ensures.all
    ∙ name_added c.args.self.now.unnamed c.args.self.now.named c.args.matcher.now.attributes c.loop-index.index c.in-Some.name.now c.attribute_hash-unnamed.result c.attribute_hash-named.result c.args.hashes.now.items c.loop-index.hashes.items
    (sym c.name_at.ensures ∙ ap option_copied c.in-Some.is) c.loop-index.invariant c.attribute_hash-unnamed.ensures c.attribute_hash-named.ensures

pub returns-in_default : goal.returns-in_default
returns-in_default c =
    let attributes = c.args.matcher.now.attributes in
    let hashes_of : Attribute → List _ = λ a. both_hashes c.args.self.now.unnamed c.args.self.now.named (Some (ByAttribute (lowercased a.name))) in
    all_added c.args.hashes.now.items c.loop-index.hashes.items (flat_map hashes_of attributes)
    (c.loop-index.invariant
    ∙ ap (λ (l : List Attribute). c.args.hashes.now.items ++ flat_map hashes_of l) (take_all c.loop-index.index attributes (none_there attributes c.loop-index.index (sym c.name_at.ensures ∙ ap option_copied c.in_default.is))))

pub returns : goal.returns
returns c =
    let attributes = c.args.matcher.now.attributes in
    let hashes_of : Attribute → List _ = λ a. both_hashes c.args.self.now.unnamed c.args.self.now.named (Some (ByAttribute (lowercased a.name))) in
    some_added _ c.args.hashes.now.items c.loop-index.hashes.items c.loop-index.hashes.items (flat_map hashes_of (drop c.loop-index.index attributes)) (flat_map hashes_of attributes) refl (λ hash has. has)
    (flat_first hashes_of attributes c.loop-index.index c.args.hashes.now.items c.loop-index.hashes.items c.loop-index.invariant)
