use Rattle.std.proofs.Common.{◌≡◌, ◌≢◌, ◌∙◌, ap, sym, refl, subst, IfNone, IsSome, is_some, None, true≢false}
use Rattle.std.proofs.lemmas.Option.{IfSome_then}
use Rattle.lol_base.specs.LocalNames.{name_code}
use Rattle.lol_base.specs.declared.tag.Tag.{Tag}
use Rattle.lol_base.specs.declared.tag.Tag.TheVariants.{A, Area, Base, Basefont, Bgsound, Br, Col, Div, Embed, Hr, Img, Input, Keygen, Li, Link, Meta, Param, Source, Span, Track, Wbr}
use Rattle.lol_base.specs.Tags.{tag_name}
use Rattle.lol_base.specs.CodeLaws.{one_name}
use Rattle.lol_base.proofs.local_name.LocalName.tag.Goals as goal

has_code : (tag : Tag) → IsSome (name_code (tag_name tag))
unfolding name_code
has_code A = refl
has_code Area = refl
has_code Base = refl
has_code Basefont = refl
has_code Bgsound = refl
has_code Br = refl
has_code Col = refl
has_code Div = refl
has_code Embed = refl
has_code Hr = refl
has_code Img = refl
has_code Input = refl
has_code Keygen = refl
has_code Li = refl
has_code Link = refl
has_code Meta = refl
has_code Param = refl
has_code Source = refl
has_code Span = refl
has_code Track = refl
has_code Wbr = refl

pub returns-in_err-code-clause-none : goal.returns-in_err-code-clause-none
returns-in_err-code-clause-none c =
    let lower = c.args.self.now.lowercased in
    subst (λ found. IfNone found ((tag : Tag) → lower ≢ tag_name tag)) (sym c.from_residual.ensures)
    (λ tag is.
    let none : None ≡ name_code (tag_name tag) = c.in_err-code.ensures ∙ ap name_code is in
    absurd (true≢false (sym (has_code tag) ∙ ap is_some (sym none))))

pub returns-clause-some : goal.returns-clause-some
returns-clause-some c = IfSome_then c.of_code.result c.of_code.ensures.some (λ tag is.
    one_name c.args.self.now.lowercased (tag_name tag) c.in_ok-code.field-0 (sym c.in_ok-code.ensures) is)
