use Rattle.std.proofs.Common.{◌≡◌, ◌≢◌, ◌∙◌, sym, ap, refl, Bool, false, ◌||◌, List, [], ◌∷◌, ℕ}
use Rattle.std.specs.Str.{bytes_eq}
use Rattle.std.specs.List.{list_any}
use Rattle.std.proofs.lemmas.Slice.Eq.{bytes_eq-Decides}
use Rattle.lol_base.specs.BoolLaws.{not_true}
use Rattle.lol_base.specs.Names.{lowercased, void_names}
use Rattle.lol_base.specs.declared.tag.Tag.{Tag}
use Rattle.lol_base.specs.declared.tag.Tag.TheVariants.{Area, Base, Basefont, Bgsound, Br, Col, Embed, Hr, Img, Input, Keygen, Link, Meta, Param, Source, Track, Wbr}
use Rattle.lol_base.specs.Tags.{tag_name}
use Rattle.lol_page.proofs.namespaces.is_void.Goals as goal

abbrev void_tags : List Tag
void_tags =
    Area ∷ Base ∷ Basefont ∷ Bgsound ∷ Br ∷ Col ∷ Embed ∷ Hr ∷ Img ∷ Input ∷ Keygen ∷ Link ∷ Meta ∷ Param ∷ Source ∷ Track ∷ Wbr ∷ []

abbrev is_among : List ℕ → List Tag → Bool
is_among name tags = list_any (λ tag. bytes_eq name (tag_name tag)) tags

is_none : (name : List ℕ) → ((tag : Tag) → name ≢ tag_name tag) → (tags : List Tag) → is_among name tags ≡ false
is_none name none [] = refl
is_none name none (tag ∷ tags) =
    ap (λ b. b || is_among name tags) (not_true _ (λ is. none tag ((bytes_eq-Decides name (tag_name tag)).0 is)))
    ∙ is_none name none tags

pub returns-in-None : goal.returns-in-None
unfolding void_names
returns-in-None c = λ bytes spelled.
    sym (ap (λ n. list_any (λ (other : List ℕ). bytes_eq n (lowercased other)) void_names) spelled
    ∙ is_none c.args.name.now.lowercased c.in-None.ensures.none void_tags)
