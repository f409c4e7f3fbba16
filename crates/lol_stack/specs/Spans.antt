-- Active ranges as a set.
use Rattle.std.specs.Prelude.{ℕ, ◌≡◌, List}
use Rattle.std.specs.BTreeSet.{BTreeSet, contains}
use Rattle.std.specs.Ordering.{nat_cmp, on, then_cmp}
use Rattle.std.specs.declared.cmp.Ordering.{Ordering}
use Rattle.std.specs.declared.ops.Range.{Range}
use Rattle.lol_stack.specs.Active.{is_range_active}

-- the order of starts and, where these are equal, of ends
abbrev pub span_cmp : ℕ × ℕ → ℕ × ℕ → Ordering
span_cmp = then_cmp (on (λ s. s.0) nat_cmp) (on (λ s. s.1) nat_cmp)

-- the set has the starts and ends of the active ranges, and no others
abbrev pub HasSpans : BTreeSet (ℕ × ℕ) → List (Range ℕ × ℕ) → Type 0
HasSpans known active = (r : Range ℕ) → contains span_cmp known (r.start, r.end) ≡ is_range_active active r
