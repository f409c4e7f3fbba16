use Rattle.std.proofs.Common.{◌≡◌, ℕ, false, map, take}
use Rattle.std.specs.Prelude.{string_bytes}
use Rattle.zugrenja.specs.Selectors.{HasSelectors}
use Rattle.zugrenja.proofs.selectors.build_matcher.Given as goal

-- the selectors before this one were added, under their numbers
abbrev pub invariant-loop-selector : goal.invariant-loop-selector
invariant-loop-selector l = record {
  number : l.number ≡ l.selector-index;
  has : HasSelectors (map (λ text. string_bytes text) (take l.selector-index l.selectors)) l.builder.ast;
  esi : l.builder.enable_esi_tags ≡ false;
}
