-- The selectors are added one after the other.
use Rattle.std.proofs.Common.{◌≡◌, ℕ, ◌+◌, ◌<◌, ◌≤◌, List, length, map, take, String, subst, sym, ap, ◌∙◌, refl, arith}
use Rattle.std.specs.Global.{Global}
use Rattle.std.specs.Prelude.{string_bytes}
use Rattle.std.proofs.lemmas.List.{length-map, length-take-le, take_all}
use Rattle.lol_matcher.specs.Building.{Adds, IsRefused}
use Rattle.zugrenja.specs.Selectors.{HasSelectors, IsRefusedAt, StandsAt}
use Rattle.zugrenja.proofs.SelectorLists.{none_has, one_more_has, has_same, refused_at, stands_at, texts_more}
use Rattle.zugrenja.proofs.selectors.build_matcher.Goals as goal

pub loop-selector-init : goal.loop-selector-init
loop-selector-init c = record {
  number = refl;
  has = none_has c.builder-builder.result.ast c.builder-builder.ensures.pairs;
  esi = c.builder-builder.ensures.esi;
}

pub loop-selector-preserved : goal.loop-selector-preserved
loop-selector-preserved c =
    let f = λ (text : String Global). string_bytes text in
    let xs = c.args.selectors.now in
    let i = c.loop-selector.selector-index in
    let x = c.selector-item.result in
    let number = c.loop-selector.number in
    let old = c.loop-selector.builder.ast in
    let new = c.add_numbered.new.builder.ast in
    let before = c.loop-selector.invariant in
    let within : i < length xs = omega arith in
    let up_to : i ≤ length xs = omega arith in
    let len : length (map f (take i xs)) ≡ i = length-map (take i xs) f ∙ length-take-le i xs up_to in
    let number_is : number + 1 ≡ 1 + length (map f (take i xs)) = omega (arith, before.number, len) in
    record {
      number = ap (λ (n : ℕ). n + 1) before.number;
      has = subst (λ (texts : List (List ℕ)). HasSelectors texts new) (sym (texts_more f xs i x within c.selector-item.is))
          (one_more_has (map f (take i xs)) (f x) (number + 1) old new number_is before.has
          (subst (λ (text : List ℕ). Adds (number + 1) text old new) c.as_str.ensures.value c.in-Ok.ensures.added));
      esi = c.add_numbered.ensures.esi ∙ before.esi;
    }

pub returns-clause-selectors : goal.returns-clause-selectors
returns-clause-selectors c =
    let f = λ (text : String Global). string_bytes text in
    let xs = c.args.selectors.now in
    let i = c.loop-selector.selector-index in
    let all : length xs ≤ i = omega arith in
    has_same (map f xs) c.loop-selector.builder.ast c.in_ok-matcher.matcher.told.ast c.in_ok-matcher.ensures.pairs
    (subst (λ (l : List (String Global)). HasSelectors (map f l) c.loop-selector.builder.ast) (take_all i xs all) c.loop-selector.invariant.has)

pub returns-in-Err-clause-refused : goal.returns-in-Err-clause-refused
returns-in-Err-clause-refused c =
    let f = λ (text : String Global). string_bytes text in
    let xs = c.args.selectors.now in
    let i = c.loop-selector.selector-index in
    let x = c.selector-item.result in
    let refused = c.in-Err.refused in
    let within : i < length xs = omega arith in
    let number_is : i + 1 ≡ refused.number = ap (λ (n : ℕ). n + 1) (sym c.loop-selector.invariant.number) ∙ sym c.in-Err.ensures.number in
    refused_at (map f xs) refused.number (f x) refused.error
    (subst (λ (n : ℕ). StandsAt (map f xs) n (f x)) number_is (stands_at f xs i x within c.selector-item.is))
    (subst (λ (text : List ℕ). IsRefused text refused.error) c.as_str.ensures.value c.in-Err.ensures.refused)
