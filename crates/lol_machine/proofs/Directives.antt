-- What is known of a tag by its element's directive.
use Rattle.lol_machine.proofs.Common.{◌≡◌, ℕ, Bool, true, false, cond, List, refl, sym, ap, ◌∙◌, not, ◌||◌, ◌&&◌, is_void, is_esi, StartTag, Namespace, Html, Svg, MathML, is_html, has_content, has_content_in}
use denote.Enum.Bare.{sameb}
use Rattle.lol_stack.specs.Directives.{directive_in}
use Rattle.lol_stack.specs.contracts.stack_item.StackDirective.{the_type}
use Rattle.lol_stack.specs.declared.stack_item.StackDirective.{StackDirective}
use Rattle.lol_stack.specs.declared.stack_item.StackDirective.TheVariants.{Push, PushIfNotSelfClosing, PopImmediately}

pub html_if : (ns : Namespace) (esi : Bool) (name : List ℕ) → sameb the_type (directive_in ns esi name) PushIfNotSelfClosing ≡ false → is_html ns ≡ true
html_if Html esi name h = refl
html_if Svg esi name h = cc
html_if MathML esi name h = cc

pub content_is : (tag : StartTag) (esi : Bool) → is_html tag.namespace ≡ true → sameb the_type (directive_in tag.namespace esi tag.name) Push ≡ has_content esi tag
content_is tag esi html = by_namespace tag.namespace html
  where
    by_namespace : (ns : Namespace) → is_html ns ≡ true → sameb the_type (directive_in ns esi tag.name) Push ≡ has_content_in ns esi tag
    by_namespace Html h = by_test (is_void tag.name || (esi && is_esi tag.name))
      where
        by_test : (b : Bool) → sameb the_type (cond b PopImmediately Push) Push ≡ not b
        by_test true = refl
        by_test false = refl
    by_namespace Svg h = cc
    by_namespace MathML h = cc

-- a tag that isn't asked for at once is one of HTML, and its element is pushed where it has content
pub html_tag : (ns : Namespace) (switch esi : Bool) (tag : StartTag) (directive : StackDirective) (asks pushes : Bool) → tag.namespace ≡ ns → directive ≡ directive_in ns switch tag.name
    → asks ≡ sameb the_type directive PushIfNotSelfClosing → asks ≡ false → pushes ≡ sameb the_type directive Push → switch ≡ esi → (is_html tag.namespace ≡ true) × (pushes ≡ has_content esi tag)
html_tag ns switch esi tag directive asks pushes named is tested none pushed same =
    let html : is_html tag.namespace ≡ true = ap is_html named ∙ html_if ns switch tag.name (ap (λ x. sameb the_type x PushIfNotSelfClosing) (sym is) ∙ (sym tested ∙ none)) in
    (html, pushed ∙ (ap (λ x. sameb the_type x Push) (is ∙ ap (λ ns. directive_in ns switch tag.name) (sym named)) ∙ (content_is tag switch html ∙ ap (λ b. has_content b tag) same)))
