-- What becomes of the element of a start tag, before it is known whether the tag closes itself.
use Rattle.std.specs.Prelude.{ℕ, Bool, ◌&&◌, ◌||◌, if◌then◌else◌, List}
use Rattle.lol_base.specs.Names.{is_void, is_esi}
use Rattle.lol_base.specs.declared.namespace.Namespace.{Namespace}
use Rattle.lol_base.specs.declared.namespace.Namespace.TheVariants.{Html, Svg, MathML}
use Rattle.lol_stack.specs.declared.stack_item.StackDirective.{StackDirective}
use Rattle.lol_stack.specs.declared.stack_item.StackDirective.TheVariants.{Push, PushIfNotSelfClosing, PopImmediately}

-- An HTML element whose name is void is never opened, any other is; in the other namespaces it is opened unless its tag closes itself
-- (HTML Standard, "Elements": void elements, foreign elements).
abbrev pub directive_in : Namespace → Bool → List ℕ → StackDirective
directive_in Html esi name = if is_void name || (esi && is_esi name) then PopImmediately else Push
directive_in Svg esi name = PushIfNotSelfClosing
directive_in MathML esi name = PushIfNotSelfClosing
