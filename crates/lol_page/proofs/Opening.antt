-- Open elements: what a new one adds, and what is left behind the innermost.
use Rattle.std.proofs.Common.{◌≡◌, ◌≢◌, ℕ, ◌+◌, ◌-◌, ◌≤◌, ◌<◌, Bool, true, false, ◌||◌, List, [], ◌∷◌, ◌++◌, Option, Some, None, length, map, drop, reverse, refl, sym, ◌∙◌, ap, subst, arith, add-one, length-append}
use Rattle.std.specs.Prelude.{if◌then◌else◌, nat_lt}
use Rattle.std.specs.List.{list_any}
use Rattle.std.specs.Str.{bytes_eq}
use Rattle.std.proofs.lemmas.List.{length-map, length-reverse, reverse-append}
use Rattle.std.proofs.Math.Seq.{drop-append-add}
use Rattle.std.proofs.lemmas.Bool.{lt-ltb, le-ltb}
use Rattle.std.proofs.lemmas.Slice.Eq.{bytes_eq-Decides}
use Rattle.lol_base.specs.LocalNames.{Name, same_local_name}
use Rattle.lol_base.specs.declared.namespace.Namespace.{Namespace}
use Rattle.lol_base.specs.declared.namespace.Namespace.TheVariants.{Html, Svg, MathML}
use Rattle.lol_stack.specs.NameMaps.{value_of, IsPutAt}
use Rattle.lol_page.specs.Namespaces.{OpenElement, is_html, html_part, around, inside, closed_at, closed_by, shields}
use Rattle.lol_page.specs.Elements.{element_of, elements_in, elements_of, innermost_holds_html, found_in, depth_by, shield_depth, html_element, point_element, IsLinked, IsSound}
use Rattle.lol_page.specs.declared.open_elements.Found.{Found}
use Rattle.lol_page.specs.declared.open_elements.OpenItem.{OpenItem}
use Rattle.lol_page.specs.declared.open_elements.OpenElements.{OpenElements}

pub elements-push : (items : List OpenItem) (item : OpenItem) → elements_in (items ++ item ∷ []) ≡ element_of item ∷ elements_in items
elements-push items item = ap (map element_of) (reverse-append items (item ∷ []))

pub length-elements : (items : List OpenItem) → length (elements_in items) ≡ length items
length-elements items = length-map (reverse items) element_of ∙ length-reverse items

found-same-at : (a b : Name) → a.lowercased ≡ b.lowercased → (elements : List OpenElement) → found_in a elements ≡ found_in b elements
found-same-at a b e [] = refl
found-same-at a b e (x ∷ outer) =
    ap (λ (n : List ℕ). if bytes_eq x.name.lowercased n then Some (record { depth = length outer + 1; is_html = is_html x.namespace }) else found_in a outer) e
    ∙ ap (λ (r : Option Found). if same_local_name x.name b then Some (record { depth = length outer + 1; is_html = is_html x.namespace }) else r) (found-same-at a b e outer)

found-same : (a b : Name) (elements : List OpenElement) → same_local_name a b ≡ true → found_in a elements ≡ found_in b elements
found-same a b elements e = found-same-at a b ((bytes_eq-Decides a.lowercased b.lowercased).0 e) elements

-- 1. A new element

pub sound-push : (o new : OpenElements) (item : OpenItem) → IsSound o → new.items.items ≡ o.items.items ++ item ∷ []
    → item.before ≡ value_of o.names item.name
    → item.html_depth ≡ (if is_html item.namespace then length o.items.items + 1 else depth_by html_element (elements_of o))
    → item.point_depth ≡ (if point_element (element_of item) then length o.items.items + 1 else depth_by point_element (elements_of o))
    → IsPutAt item.name (Some (record { depth = length o.items.items + 1; is_html = is_html item.namespace })) o.names new.names
    → IsSound new
sound-push o new item sound grown before html points put =
    let len = length-elements o.items.items in
    record {
      linked = subst IsLinked (sym (ap reverse grown ∙ reverse-append o.items.items (item ∷ []))) (
        record {
          before = before ∙ sound.names item.name;
          html = html ∙ ap (λ (n : ℕ). if is_html item.namespace then n + 1 else depth_by html_element (elements_of o)) (sym len);
          points = points ∙ ap (λ (n : ℕ). if point_element (element_of item) then n + 1 else depth_by point_element (elements_of o)) (sym len);
        },
        sound.linked,
      );
      names = λ q.
          put q
          ∙ ap (λ (n : ℕ). if same_local_name item.name q then Some (record { depth = n + 1; is_html = is_html item.namespace }) else value_of o.names q) (sym len)
          ∙ ap (λ (r : Option Found). if same_local_name item.name q then Some (record { depth = length (elements_of o) + 1; is_html = is_html item.namespace }) else r) (sound.names q)
          ∙ ap (found_in q) (sym (ap elements_in grown ∙ elements-push o.items.items item));
    }

-- 2. Without the innermost

left-at : (item : OpenItem) (outer : List OpenElement) (q : Name) (same : Bool) → same_local_name item.name q ≡ same → item.before ≡ found_in item.name outer
    → (if same then item.before else (if same then Some (record { depth = length outer + 1; is_html = is_html item.namespace }) else found_in q outer)) ≡ found_in q outer
left-at item outer q true e before = before ∙ found-same item.name q outer e
left-at item outer q false e before = refl

pub some-found : (o : OpenElements) (item : OpenItem) (rest : List OpenItem) → IsSound o → o.items.items ≡ rest ++ item ∷ [] → value_of o.names item.name ≢ None
some-found o item rest sound were none =
    let same : same_local_name item.name item.name ≡ true = (bytes_eq-Decides item.name.lowercased item.name.lowercased).1 refl in
    let is : value_of o.names item.name ≡ Some (record { depth = length (elements_in rest) + 1; is_html = is_html item.namespace }) =
    sound.names item.name ∙ ap (found_in item.name) (ap elements_in were ∙ elements-push rest item)
    ∙ ap (λ (b : Bool). if b then Some (record { depth = length (elements_in rest) + 1; is_html = is_html item.namespace }) else found_in item.name (elements_in rest)) same in
    cc

links-of : (o : OpenElements) (item : OpenItem) (rest : List OpenItem) → IsSound o → o.items.items ≡ rest ++ item ∷ [] → IsLinked (item ∷ reverse rest)
links-of o item rest sound were = subst IsLinked (ap reverse were ∙ reverse-append rest (item ∷ [])) sound.linked

pub sound-pop : (o new : OpenElements) (item : OpenItem) (rest : List OpenItem) → IsSound o → o.items.items ≡ rest ++ item ∷ [] → new.items.items ≡ rest
    → IsPutAt item.name item.before o.names new.names → IsSound new
sound-pop o new item rest sound were are put =
    let links = links-of o item rest sound were in
    record {
      linked = subst (λ (items : List OpenItem). IsLinked (reverse items)) (sym are) links.1;
      names = λ q.
          put q
          ∙ ap (λ (r : Option Found). if same_local_name item.name q then item.before else r) (sound.names q ∙ ap (found_in q) (ap elements_in were ∙ elements-push rest item))
          ∙ left-at item (elements_in rest) q (same_local_name item.name q) refl links.0.before
          ∙ ap (λ (items : List OpenItem). found_in q (elements_in items)) (sym are);
    }

pub elements-pop : (o new : OpenElements) (item : OpenItem) (rest : List OpenItem) → o.items.items ≡ rest ++ item ∷ [] → new.items.items ≡ rest
    → elements_of new ≡ drop 1 (elements_of o)
elements-pop o new item rest were are = ap elements_in are ∙ sym (ap (drop 1) (ap elements_in were ∙ elements-push rest item))

-- 3. Leaving elements

pub html-stays : (elements : List OpenElement) → innermost_holds_html elements ≡ true → html_part elements ≡ elements
html-stays [] e = refl
html-stays (x ∷ outer) e = ap (λ (b : Bool). if b then x ∷ outer else html_part outer) e

pub html-left : (elements : List OpenElement) → innermost_holds_html elements ≡ false → html_part (drop 1 elements) ≡ html_part elements
html-left [] e = cc
html-left (x ∷ outer) e = sym (ap (λ (b : Bool). if b then x ∷ outer else html_part outer) e)

pub some-element : (elements : List OpenElement) → innermost_holds_html elements ≡ false → 0 < length elements
some-element [] e = cc
some-element (x ∷ outer) e = omega arith

-- 4. End tags

at-most : (n : ℕ) (deep : ℕ) (b : Bool) → deep ≤ n → (if b then n + 1 else deep) ≤ n + 1
at-most n deep true h = omega arith
at-most n deep false h = omega (arith, h)

depth-within : (p : OpenElement → Bool) (elements : List OpenElement) → depth_by p elements ≤ length elements
depth-within p [] = omega arith
depth-within p (x ∷ outer) =
    let h : (if p x then length outer + 1 else depth_by p outer) ≤ length outer + 1 = at-most (length outer) (depth_by p outer) (p x) (depth-within p outer) in
    let len : length (x ∷ outer) ≡ length outer + 1 = omega arith in
    let shown : depth_by p (x ∷ outer) ≡ (if p x then length outer + 1 else depth_by p outer) = refl in
    omega (arith, h, len, shown)

any-at : (b : Bool) (n m deep : ℕ) (more : Bool) → n ≤ m → more ≡ nat_lt n deep → (b || more) ≡ nat_lt n (if b then m + 1 else deep)
any-at true n m deep more h e = sym (lt-ltb n (m + 1) (omega (arith, h)))
any-at false n m deep more h e = e

any-deep : (p : OpenElement → Bool) (inner rest : List OpenElement) → list_any p inner ≡ nat_lt (length rest) (depth_by p (inner ++ rest))
any-deep p [] rest = sym (le-ltb (length rest) (depth_by p rest) (depth-within p rest))
any-deep p (x ∷ inner) rest =
    any-at (p x) (length rest) (length (inner ++ rest)) (depth_by p (inner ++ rest)) (list_any p inner)
    (omega (arith, length-append inner rest)) (any-deep p inner rest)

shields-deep : (ns : Namespace) (inner rest : List OpenElement) → list_any (shields ns) inner ≡ nat_lt (length rest) (shield_depth (is_html ns) (inner ++ rest))
shields-deep Html inner rest = any-deep point_element inner rest
shields-deep Svg inner rest = any-deep html_element inner rest
shields-deep MathML inner rest = any-deep html_element inner rest

-- the innermost element of a name, between those inside it and those around it
record Split (name : Name) (elements : List OpenElement) (found : Found) : Type 0 where
  element : OpenElement
  outer : List OpenElement
  whole : elements ≡ inside name elements ++ element ∷ outer
  rest : around name elements ≡ element ∷ outer
  depth : found.depth ≡ length outer + 1
  html : found.is_html ≡ is_html element.namespace

split-at : (name : Name) (x : OpenElement) (outer : List OpenElement) (found : Found) (same : Bool) → same_local_name x.name name ≡ same
    → (if same then Some (record { depth = length outer + 1; is_html = is_html x.namespace }) else found_in name outer) ≡ Some found
    → (found_in name outer ≡ Some found → Split name outer found) → Split name (x ∷ outer) found
split-at name x outer found true e some more =
    let is : record { depth = length outer + 1; is_html = is_html x.namespace } ≡ found = cc in
    record {
      element = x;
      outer = outer;
      whole = sym (ap (λ (b : Bool). (if b then [] else x ∷ inside name outer) ++ x ∷ outer) e);
      rest = ap (λ (b : Bool). if b then x ∷ outer else around name outer) e;
      depth = sym (ap (λ (f : Found). f.depth) is);
      html = sym (ap (λ (f : Found). f.is_html) is);
    }
split-at name x outer found false e some more =
    let m = more some in
    record {
      element = m.element;
      outer = m.outer;
      whole = ap (λ (l : List OpenElement). x ∷ l) m.whole ∙ sym (ap (λ (b : Bool). (if b then [] else x ∷ inside name outer) ++ m.element ∷ m.outer) e);
      rest = ap (λ (b : Bool). if b then x ∷ outer else around name outer) e ∙ m.rest;
      depth = m.depth;
      html = m.html;
    }

split : (name : Name) (elements : List OpenElement) (found : Found) → found_in name elements ≡ Some found → Split name elements found
split name [] found e = cc
split name (x ∷ outer) found e = split-at name x outer found (same_local_name x.name name) refl e (split name outer found)

around-none-at : (name : Name) (x : OpenElement) (outer : List OpenElement) (same : Bool)
    → (if same then Some (record { depth = length outer + 1; is_html = is_html x.namespace }) else found_in name outer) ≡ None
    → (found_in name outer ≡ None → around name outer ≡ []) → (if same then x ∷ outer else around name outer) ≡ []
around-none-at name x outer true e more = cc
around-none-at name x outer false e more = more e

around-none : (name : Name) (elements : List OpenElement) → found_in name elements ≡ None → around name elements ≡ []
around-none name [] e = refl
around-none name (x ∷ outer) e = around-none-at name x outer (same_local_name x.name name) e (around-none name outer)

pub closed-none : (name : Name) (elements : List OpenElement) → found_in name elements ≡ None → closed_by name elements ≡ elements
closed-none name elements e = ap (closed_at elements (inside name elements)) (around-none name elements e)

drop-split : (inner : List OpenElement) (x : OpenElement) (outer : List OpenElement) → drop (length inner + 1) (inner ++ x ∷ outer) ≡ outer
drop-split inner x outer = drop-append-add inner (x ∷ outer) 1

-- what an end tag of a name leaves open
pub closed-some : (name : Name) (elements : List OpenElement) (found : Found) → found_in name elements ≡ Some found
    → closed_by name elements
    ≡ (if nat_lt found.depth (shield_depth found.is_html elements) then elements else drop (length elements + 1 - found.depth) elements)
closed-some name elements found e =
    let s = split name elements found e in
    let inner = inside name elements in
    let len : length (s.element ∷ s.outer) ≡ length s.outer + 1 = omega arith in
    let deep : list_any (shields s.element.namespace) inner ≡ nat_lt found.depth (shield_depth found.is_html elements) =
    shields-deep s.element.namespace inner (s.element ∷ s.outer)
    ∙ ap (λ (n : ℕ). nat_lt n (shield_depth (is_html s.element.namespace) (inner ++ s.element ∷ s.outer))) (len ∙ sym s.depth)
    ∙ ap (λ (h : Bool). nat_lt found.depth (shield_depth h (inner ++ s.element ∷ s.outer))) (sym s.html)
    ∙ ap (λ (l : List OpenElement). nat_lt found.depth (shield_depth found.is_html l)) (sym s.whole) in
    let count : length elements + 1 - found.depth ≡ length inner + 1 =
    omega (arith, ap length s.whole, length-append inner (s.element ∷ s.outer), len, s.depth) in
    let left : drop (length elements + 1 - found.depth) elements ≡ s.outer =
    ap (λ (n : ℕ). drop n elements) count ∙ ap (drop (length inner + 1)) s.whole ∙ drop-split inner s.element s.outer in
    ap (closed_at elements inner) s.rest
    ∙ ap (λ (b : Bool). if b then elements else s.outer) deep
    ∙ ap (λ (l : List OpenElement). if nat_lt found.depth (shield_depth found.is_html elements) then elements else l) (sym left)

drop-more : (n : ℕ) (x : OpenElement) (outer : List OpenElement) → drop n outer ≡ drop (n + 1) (x ∷ outer)
drop-more n x outer = rw (add-one n) refl

-- one more element is left
pub left-more : (n : ℕ) (first elements : List OpenElement) → n ≤ length elements → 0 < n
    → drop (length elements + 1 - n) elements ≡ drop (length first + 1 - n) first
    → drop (length (drop 1 elements) + 1 - n) (drop 1 elements) ≡ drop (length first + 1 - n) first
left-more n first [] h some e = e
left-more n first (x ∷ outer) h some e =
    let len : length (x ∷ outer) ≡ length outer + 1 = omega arith in
    let count : length outer + 1 - n + 1 ≡ length (x ∷ outer) + 1 - n = omega (arith, h, some, len) in
    drop-more (length outer + 1 - n) x outer ∙ ap (λ (k : ℕ). drop k (x ∷ outer)) count ∙ e

pub left-all : (n : ℕ) (elements : List OpenElement) → length elements < n → drop (length elements + 1 - n) elements ≡ elements
left-all n elements h =
    let none : length elements + 1 - n ≡ 0 = omega (arith, h) in
    ap (λ (k : ℕ). drop k elements) none

pub found-deep : (name : Name) (elements : List OpenElement) (found : Found) → found_in name elements ≡ Some found → 0 < found.depth
found-deep name elements found e = omega (arith, (split name elements found e).depth)
