-- Texts and what they stand for, worked by hand.
use Rattle.std.specs.Prelude.{ℕ, zero, suc, true, false, List, [], ◌∷◌, ◌++◌, pos, negsuc, codes}
use Rattle.std.specs.Str.{byte}
use Rattle.lol_css.specs.Trees.{LocalName, AnyName, NoNamespace, Id, Class, Exists, Compares, Nth, Part, Plain, Not, Is, Where, WrittenCompound, Nothing, With, Item, First, Then, Items, NoItems, And}
use Rattle.lol_base.specs.declared.comparison.AttrSelectorOperator.TheVariants.{Equal, Includes, DashMatch, Prefix, Substring, Suffix}
use Rattle.lol_base.specs.declared.comparison.ParsedCaseSensitivity.TheVariants.{ExplicitCaseSensitive, AsciiCaseInsensitive, CaseSensitive, AsciiCaseInsensitiveIfInHtmlElementInHtmlDocument}
use Rattle.lol_css.specs.declared.selector.Combinator.TheVariants.{Child, Descendant}
use Rattle.lol_css.specs.declared.error.ErrorLocation.{ErrorLocation}
use Rattle.lol_css.specs.declared.error.SelectorError.{SelectorError}
use Rattle.lol_css.specs.declared.error.SelectorError.TheVariants.{UnexpectedToken, UnexpectedEnd, MissingAttributeName, EmptySelector, DanglingCombinator, UnexpectedTokenInAttribute, UnsupportedPseudoClassOrElement, NamespacedSelector, InvalidClassName, UnsupportedCombinator}

-- ---- small trees

abbrev pub only : Part → WrittenCompound
only part = With Nothing part

abbrev pub type : List ℕ → Part
type name = Plain (LocalName name)

abbrev pub item : Part → Item
item part = First (only part)

abbrev pub one_part : Part → Items
one_part part = And NoItems (item part)

-- a text and what it stands for
pub record Accepted : Type 0 where
  pub text : List ℕ
  pub selector : Items

abbrev pub stands_for : List ℕ → Items → Accepted
stands_for text selector = record { text = text; selector = selector }

-- U+FFFD
abbrev pub replacement : List ℕ
replacement = 239 ∷ 191 ∷ 189 ∷ []

abbrev pub accepted_rows : List Accepted
accepted_rows =
    stands_for (codes "a") (one_part (type (codes "a")))
    ∷ stands_for (codes "a/*/ b") (one_part (type (codes "a")))
    ∷ stands_for (97 ∷ 12 ∷ 98 ∷ []) (And NoItems (Then (item (type (codes "a"))) Descendant (only (type (codes "b")))))
    ∷ stands_for (codes "*") (one_part (Plain AnyName))
    ∷ stands_for (codes "*|a") (one_part (type (codes "a")))
    ∷ stands_for (codes "*|*") (one_part (Plain AnyName))
    ∷ stands_for (codes "|*") (And NoItems (First (With (only (Plain NoNamespace)) (Plain AnyName))))
    ∷ stands_for (codes "a |b") (And NoItems (Then (item (type (codes "a"))) Descendant (With (only (Plain NoNamespace)) (type (codes "b")))))
    ∷ stands_for (codes "a,b") (And (And NoItems (item (type (codes "a")))) (item (type (codes "b"))))
    ∷ stands_for (codes "a b > c") (And NoItems (Then (Then (item (type (codes "a"))) Descendant (only (type (codes "b")))) Child (only (type (codes "c")))))
    ∷ stands_for (codes "div.foo#bar:not([baz])") (And NoItems (First (With (With (With (only (type (codes "div"))) (Plain (Class (codes "foo")))) (Plain (Id (codes "bar")))) (Not (one_part (Plain (Exists (codes "baz"))))))))
    ∷ stands_for (codes "[foo=\"bar") (one_part (Plain (Compares (codes "foo") Equal (codes "bar") CaseSensitive)))
    ∷ stands_for (codes "[FOO~=\"bar\" i]") (one_part (Plain (Compares (codes "foo") Includes (codes "bar") AsciiCaseInsensitive)))
    ∷ stands_for (codes "[foo|=\"bar\" s]") (one_part (Plain (Compares (codes "foo") DashMatch (codes "bar") ExplicitCaseSensitive)))
    ∷ stands_for (codes "[foo^=bar]") (one_part (Plain (Compares (codes "foo") Prefix (codes "bar") CaseSensitive)))
    ∷ stands_for (codes "[foo*='']") (one_part (Plain (Compares (codes "foo") Substring [] CaseSensitive)))
    ∷ stands_for (codes "[foo$=bar]") (one_part (Plain (Compares (codes "foo") Suffix (codes "bar") CaseSensitive)))
    ∷ stands_for (codes "[type=TEXT]") (one_part (Plain (Compares (codes "type") Equal (codes "TEXT") AsciiCaseInsensitiveIfInHtmlElementInHtmlDocument)))
    ∷ stands_for (codes "[a|=b]") (one_part (Plain (Compares (codes "a") DashMatch (codes "b") CaseSensitive)))
    ∷ stands_for (codes "[|a]") (one_part (Plain (Exists (codes "a"))))
    ∷ stands_for (codes "[foo") (one_part (Plain (Exists (codes "foo"))))
    ∷ stands_for (codes "#\\31 a") (one_part (Plain (Id (codes "1a"))))
    ∷ stands_for (codes ":NTH-CHILD( -2N + 7 )") (one_part (Plain (Nth false (negsuc 1) (pos 7))))
    ∷ stands_for (codes ":nth-child(-2147483648)") (one_part (Plain (Nth false (pos 0) (negsuc 2147483647))))
    ∷ stands_for (codes ":nth-child(-2147483648n-2147483648)") (one_part (Plain (Nth false (negsuc 2147483647) (negsuc 2147483647))))
    ∷ stands_for (codes ":nth-of-type(+n)") (one_part (Plain (Nth true (pos 1) (pos 0))))
    ∷ stands_for (codes ":nth-child(-n-1)") (one_part (Plain (Nth false (negsuc 0) (negsuc 0))))
    ∷ stands_for (codes ":nth-child(EVEN)") (one_part (Plain (Nth false (pos 2) (pos 0))))
    ∷ stands_for (codes ":nth-child(odd)") (one_part (Plain (Nth false (pos 2) (pos 1))))
    ∷ stands_for (codes ":nth-child(3n +1)") (one_part (Plain (Nth false (pos 3) (pos 1))))
    ∷ stands_for (codes ":nth-child(+/**/n)") (one_part (Plain (Nth false (pos 1) (pos 0))))
    ∷ stands_for (codes ":first-child:first-of-type") (And NoItems (First (With (only (Plain (Nth false (pos 0) (pos 1)))) (Plain (Nth true (pos 0) (pos 1))))))
    ∷ stands_for (codes ":not(a") (one_part (Not (one_part (type (codes "a")))))
    ∷ stands_for (codes ":/**/not(a)") (one_part (Not (one_part (type (codes "a")))))
    ∷ stands_for (codes ":not(:not(a, b))") (one_part (Not (one_part (Not (And (And NoItems (item (type (codes "a")))) (item (type (codes "b"))))))))
    ∷ stands_for (codes ":is(header)") (one_part (Is (one_part (type (codes "header")))))
    ∷ stands_for (codes ":where(p)") (one_part (Where (one_part (type (codes "p")))))
    ∷ stands_for (codes ":IS(a") (one_part (Is (one_part (type (codes "a")))))
    ∷ stands_for (codes ":wh\\65re(\\69s, is)") (one_part (Where (And (And NoItems (item (type (codes "is")))) (item (type (codes "is"))))))
    ∷ stands_for (codes ":is(a.x, p)") (one_part (Is (And (And NoItems (First (With (only (type (codes "a"))) (Plain (Class (codes "x")))))) (item (type (codes "p"))))))
    ∷ stands_for (codes ":not(:is(a, b))") (one_part (Not (one_part (Is (And (And NoItems (item (type (codes "a")))) (item (type (codes "b"))))))))
    ∷ stands_for (codes "a-->b") (And NoItems (Then (item (type (codes "a--"))) Child (only (type (codes "b")))))
    ∷ stands_for (codes "a /**/ b") (And NoItems (Then (item (type (codes "a"))) Descendant (only (type (codes "b")))))
    ∷ stands_for (codes "a/* b") (one_part (type (codes "a")))
    ∷ stands_for (codes "./**/a") (one_part (Plain (Class (codes "a"))))
    ∷ stands_for (codes "*/**/|/**/a") (one_part (type (codes "a")))
    ∷ stands_for (92 ∷ []) (one_part (type replacement))
    ∷ stands_for (codes "#\\0") (one_part (Plain (Id replacement)))
    ∷ stands_for (codes "\\110000") (one_part (type replacement))
    ∷ stands_for (codes "\\D800 a") (one_part (type (replacement ++ codes "a")))
    ∷ stands_for (97 ∷ 0 ∷ 98 ∷ []) (one_part (type (codes "a" ++ replacement ++ codes "b")))
    ∷ stands_for (codes "[a=\"\\") (one_part (Plain (Compares (codes "a") Equal [] CaseSensitive)))
    ∷ stands_for (codes "[a='x\\\ny']") (one_part (Plain (Compares (codes "a") Equal (codes "xy") CaseSensitive)))
    ∷ stands_for (codes "a\r\n\tb") (And NoItems (Then (item (type (codes "a"))) Descendant (only (type (codes "b")))))
    ∷ []

-- texts that are refused with this cause
pub record Refused : Type 0 where
  pub cause : SelectorError
  pub texts : List (List ℕ)

abbrev pub refused_texts : SelectorError → List (List ℕ) → Refused
refused_texts cause texts = record { cause = cause; texts = texts }

abbrev pub refused_rows : List Refused
refused_rows =
    refused_texts EmptySelector ([] ∷ codes ":not()" ∷ codes ":is()" ∷ codes ":where()" ∷ codes ":is(a,)" ∷ codes ":is(a, :where())" ∷ codes "*|" ∷ codes "a," ∷ codes ",a" ∷ codes "#1a" ∷ codes ".1a" ∷ codes "-->" ∷ [])
    ∷ refused_texts DanglingCombinator (codes "div >" ∷ codes "div @" ∷ codes "a > *|" ∷ codes "a >> b" ∷ codes "a #1" ∷ [])
    ∷ refused_texts UnexpectedEnd (codes "div." ∷ codes ":nth-child(3n-)" ∷ codes ":nth-child(+)" ∷ codes "[a=]" ∷ codes "a:" ∷ codes "a + ." ∷ [])
    ∷ refused_texts UnexpectedToken (codes "div@" ∷ codes ":nth-child(+ n)" ∷ codes ":nth-child(n of a)" ∷ codes ":nth-child(2147483648)" ∷ codes ":nth-child(2147483648n-" ∷ codes ":nth-child(n-2147483649)" ∷ codes ":nth-child(n+2147483648)" ∷ codes ":nth-child(n+-1)" ∷ codes ":nth-child(2e1n)" ∷ codes ":nth-child(1.0)" ∷ codes ":nth-child(--n)" ∷ codes "*|.a" ∷ codes "*|a|b" ∷ codes "*|*|a" ∷ codes "*| " ∷ codes "[a=b x]" ∷ codes "[a=b i s]" ∷ codes "a)" ∷ codes "a#1" ∷ codes "a.1b" ∷ codes "a/**/b" ∷ codes ":not(a]" ∷ codes ":is(a]" ∷ [])
    ∷ refused_texts MissingAttributeName (codes "div[=\"foo\"]" ∷ [])
    ∷ refused_texts UnexpectedTokenInAttribute (codes "div[foo~\"bar\"]" ∷ codes "[a=1]" ∷ codes "[a~/**/=b]" ∷ codes "[a=\"x\ny\"]" ∷ [])
    ∷ refused_texts NamespacedSelector (codes "svg|img" ∷ codes "[*|Foo]" ∷ codes "[*|Foo=bar]" ∷ codes "[a|b]" ∷ codes ":not(a [*|b])" ∷ codes ":is(a [*|b])" ∷ codes ":where([*|b], a > c)" ∷ [])
    ∷ refused_texts InvalidClassName (codes ".foo()" ∷ [])
    ∷ refused_texts (UnsupportedCombinator (byte "+")) (codes "div + span" ∷ [])
    ∷ refused_texts (UnsupportedCombinator (byte "~")) (codes "div ~ span" ∷ codes "div + span ~ p" ∷ codes "a + b c ~ d" ∷ [])
    ∷ refused_texts UnsupportedPseudoClassOrElement (codes "a: b" ∷ codes ":not/**/(a)" ∷ codes ":not(foo bar)" ∷ codes ":not(foo > bar)" ∷ codes ":not(* > .x)" ∷ codes ":not([*|b] a)" ∷ codes ":not(:nth-last-child(even))" ∷ codes ":is(:nth-last-child(1))" ∷ codes ":is(a > b)" ∷ codes ":where(a b)" ∷ codes ":is(a, [*|b] c)" ∷ codes ":where(a + b)" ∷ codes ":is" ∷ codes ":where" ∷ codes "::is(a)" ∷ codes "::where(a)" ∷ codes ":is/**/(a)" ∷ [])
    ∷ []

-- pseudo-classes and pseudo-elements that are refused, each alone
abbrev pub refused_pseudo : List (List ℕ)
refused_pseudo =
    codes ":active" ∷ codes ":any-link" ∷ codes ":blank" ∷ codes ":checked" ∷ codes ":current" ∷ codes ":default" ∷ codes ":defined" ∷ codes ":dir(rtl)"
    ∷ codes ":disabled" ∷ codes ":drop" ∷ codes ":empty" ∷ codes ":enabled" ∷ codes ":first" ∷ codes ":fullscreen" ∷ codes ":future" ∷ codes ":focus"
    ∷ codes ":focus-visible" ∷ codes ":focus-within" ∷ codes ":has(div)" ∷ codes ":host" ∷ codes ":host(h1)" ∷ codes ":host-context(h1)" ∷ codes ":hover"
    ∷ codes ":indeterminate" ∷ codes ":in-range" ∷ codes ":invalid" ∷ codes ":lang(en)" ∷ codes ":last-child" ∷ codes ":last-of-type"
    ∷ codes ":left" ∷ codes ":link" ∷ codes ":local-link" ∷ codes ":nth-col(1)" ∷ codes ":nth-last-child(1)" ∷ codes ":nth-last-col(1)" ∷ codes ":nth-last-of-type(1)"
    ∷ codes ":only-child" ∷ codes ":only-of-type" ∷ codes ":optional" ∷ codes ":out-of-range" ∷ codes ":past" ∷ codes ":placeholder-shown" ∷ codes ":read-only"
    ∷ codes ":read-write" ∷ codes ":required" ∷ codes ":right" ∷ codes ":root" ∷ codes ":scope" ∷ codes ":target" ∷ codes ":target-within" ∷ codes ":user-invalid"
    ∷ codes ":valid" ∷ codes ":visited" ∷ codes "::after" ∷ codes "::backdrop" ∷ codes "::before" ∷ codes "::cue" ∷ codes "::first-letter"
    ∷ codes "::first-line" ∷ codes "::grammar-error" ∷ codes "::marker" ∷ codes "::placeholder" ∷ codes "::selection" ∷ codes "::slotted()" ∷ codes "::spelling-error" ∷ []

-- a text, and where it is refused
pub record Located : Type 0 where
  pub text : List ℕ
  pub location : ErrorLocation

abbrev pub refused_at : List ℕ → ℕ → ℕ → Located
refused_at text item offset = record { text = text; location = record { item = item; offset = offset } }

abbrev pub located_rows : List Located
located_rows =
    refused_at [] 0 0
    ∷ refused_at (codes ",a") 0 0
    ∷ refused_at (codes "a,,b") 1 2
    ∷ refused_at (codes "a, ") 1 3
    ∷ refused_at (codes "a)") 0 1
    ∷ refused_at (codes "*|") 0 2
    ∷ refused_at (codes "a b|c") 0 3
    ∷ refused_at (codes "div, p >") 1 8
    ∷ refused_at (codes "a > + b") 0 4
    ∷ refused_at (codes "a.") 0 2
    ∷ refused_at (codes ".foo()") 0 1
    ∷ refused_at (codes "a[href^=]") 0 8
    ∷ refused_at (codes "[a=\"x\ny\"]") 0 3
    ∷ refused_at (codes "[a=b x]") 0 5
    ∷ refused_at (codes "[a*|b]") 0 2
    ∷ refused_at (codes "a:foo") 0 2
    ∷ refused_at (codes "a, b:foo(x)") 1 5
    ∷ refused_at (codes "a: b") 0 2
    ∷ refused_at (codes "a::before") 0 3
    ∷ refused_at (codes "a::") 0 3
    ∷ refused_at (codes ":nth-child()") 0 11
    ∷ refused_at (codes ":nth-child(2147483648)") 0 11
    ∷ refused_at (codes ":nth-child(n + 2147483648)") 0 15
    ∷ refused_at (codes ":nth-child(n-2147483649)") 0 11
    ∷ refused_at (codes ":nth-child(--n)") 0 11
    ∷ refused_at (codes ":nth-child(1.)") 0 12
    ∷ refused_at (codes ":nth-child(+ n)") 0 12
    ∷ refused_at (codes ":nth-child(2n of a)") 0 14
    ∷ refused_at (codes "a:not(b, c|d)") 0 10
    ∷ refused_at (codes "x, :not(:is(a,))") 1 14
    ∷ refused_at (codes "p, a + b") 1 5
    ∷ refused_at (codes "a ,  b > c ~ d") 1 11
    ∷ refused_at (codes "a + b, c ~ d") 0 2
    ∷ refused_at (codes "a + b ~ c") 0 6
    ∷ refused_at (codes "a + b, c[") 1 9
    ∷ refused_at (codes " [*|a], b") 0 2
    ∷ refused_at (codes "[ *|a]") 0 2
    ∷ refused_at (codes "a, b, :is(c d), :root") 2 12
    ∷ refused_at (codes "a:not(b > c)") 0 8
    ∷ refused_at (codes "a:not( b  c)") 0 10
    ∷ refused_at (codes ":is(b c) + d") 0 9
    ∷ refused_at (codes "a:not(:root)") 0 7
    ∷ refused_at (codes "x > a:root b") 0 6
    ∷ refused_at (codes "a:root:empty") 0 2
    ∷ refused_at (codes ":nth-last-child(2n)") 0 1
    ∷ refused_at (codes "a,\r\nb|c") 1 5
    ∷ refused_at (codes "a,\rb|c") 1 4
    ∷ refused_at (97 ∷ 0 ∷ codes "|b") 0 2
    ∷ refused_at (195 ∷ 169 ∷ codes "|b") 0 2
    ∷ refused_at (230 ∷ 151 ∷ 165 ∷ codes ", " ++ 240 ∷ 157 ∷ 132 ∷ 158 ∷ codes ")") 1 9
    ∷ refused_at (codes "/*" ++ 195 ∷ 169 ∷ codes "*/a|b") 0 7
    ∷ refused_at (codes "a/*x*/|b") 0 6
    ∷ refused_at (codes "a,/**/ b + c") 1 9
    ∷ refused_at (codes "a,/*x") 1 5
    ∷ refused_at (codes "\\31 a|b") 0 5
    ∷ refused_at (codes "\\31\r\nb|c") 0 6
    ∷ []

-- texts that are accepted, and so refused nowhere
abbrev pub unlocated_texts : List (List ℕ)
unlocated_texts = codes "a, b" ∷ codes "div.foo#bar:not([baz])" ∷ codes "a/* b" ∷ codes "[foo=\"bar" ∷ []

-- a text so often
abbrev pub times : ℕ → List ℕ → List ℕ
times zero text = []
times (suc n) text = text ++ times n text

-- a name inside so many `:not`
abbrev pub negated : ℕ → Part → Part
negated zero part = part
negated (suc n) part = Not (one_part (negated n part))

-- a name inside so many `:is`, each with a `:not` directly inside
abbrev pub alternated : ℕ → Part → Part
alternated zero part = part
alternated (suc n) part = Is (one_part (Not (one_part (alternated n part))))

-- a name so often, each inside the one before it
abbrev pub inside : ℕ → Item → Item
inside zero front = front
inside (suc n) front = inside n (Then front Descendant (only (type (codes "a"))))
