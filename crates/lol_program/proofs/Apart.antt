-- The ranges of a program of selectors share no address.
use Rattle.std.proofs.Common.{◌≡◌, ℕ, List, Some, sym, ap, ◌∙◌, subst, arith}
use Rattle.std.specs.declared.ops.Range.{Range}
use Rattle.std.proofs.lemmas.Option.{none-some}
use Rattle.lol_css.specs.declared.selector.Combinator.{Combinator}
use Rattle.lol_css.specs.declared.selector.Combinator.TheVariants.{Child, Descendant}
use Rattle.lol_program.specs.Paths.{Path, Selectors}
use Rattle.lol_program.specs.Programs.{Instruction, Program, IsAt, HoldsAddresses, IsRangeOf, IsProgramOf, IsInstruction, above, range_by}
use Rattle.lol_program.specs.Layouts.{RangesAreApart}
use Rattle.lol_base.specs.MemberLaws.{distinct_from_pairs}
use Rattle.lol_base.specs.PlaceLaws.{same_at, one_place, at_within, within_at}
use Rattle.lol_program.specs.StepLaws.{one_front, one_step}

path_at : (s : Selectors) (paths : List Path) (p : Program) → IsProgramOf s paths p → (address : ℕ) (i : Instruction) → IsAt p.instructions address i → (path : Path) × IsAt paths address path
path_at s paths p program address i at = within_at paths address (omega (arith, at_within p.instructions address i at, program.count))

pub ranges_are_apart : RangesAreApart
ranges_are_apart s paths p program j k x y step step' r r' address at at' is is' in_r in_r' =
    let a = path_at s paths p program j x at in
    let b = path_at s paths p program k y at' in
    let under = ((range_there a.0 x step r (program.each j a.0 x a.1 at) is).members address).0 in_r in
    let under' = ((range_there b.0 y step' r' (program.each k b.0 y b.1 at') is').members address).0 in_r' in
    let both = sym under.2 ∙ (ap above (same_at paths address under.0 under'.0 under.1 under'.1) ∙ under'.2) in (
      one_place paths (distinct_from_pairs paths program.once) j k b.0 (a.1 ∙ ap Some (one_front a.0 b.0 step step' both)) b.1,
      one_step a.0 b.0 step step' both,
      λ in_entry.
          let first = (program.entry.members address).0 in_entry in
          none-some _ (sym first.2 ∙ (ap above (same_at paths address first.0 under.0 first.1 under.1) ∙ under.2)),
    )
  where
    range_there : (path : Path) (i : Instruction) (way : Combinator) (q : Range ℕ) → IsInstruction s paths path i → range_by way i ≡ Some q → HoldsAddresses paths q (Some (path, way))
    range_there path i Child q h e = (subst (λ o. IsRangeOf paths o (Some (path, Child))) e h.jumps).0
    range_there path i Descendant q h e = (subst (λ o. IsRangeOf paths o (Some (path, Descendant))) e h.hereditary_jumps).0
