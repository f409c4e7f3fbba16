-- The rules, with what is refused late judged as it is read: the same as to read first and to judge then.
use Rattle.std.specs.Prelude.{ℕ, zero, suc, Bool, true, false, if◌then◌else◌, List, length, drop, Some, None, Result, Ok, Err}
use Rattle.lol_css.specs.Tokens.{Token}
use Rattle.lol_css.specs.Trees.{Part, WrittenCompound, Nothing, With, Item, First, Then, Items, And}
use Rattle.lol_css.specs.Drafts as drafts
use Rattle.lol_css.specs.Rules.{Refusal, Read, refused, ◌>>=◌, Nesting, at_end}
use Rattle.lol_css.specs.Reading.{part, compound, next_step, item}
use Rattle.lol_css.specs.Accepting.{judged_step, judged_part, judged_compound, judged_item}
use Rattle.lol_css.specs.declared.selector.Combinator.{Combinator}
use Rattle.lol_css.specs.declared.error.SelectorError.TheVariants.{DanglingCombinator, UnsupportedSyntax}

-- what is kept, or why it is refused late
abbrev pub Judged : Type 0 → Type 0
Judged A = Result A Refusal

abbrev pub with_part : Judged WrittenCompound → Judged Part → Judged WrittenCompound
with_part front part = front >>= λ parts. part >>= λ last. Ok (With parts last)

abbrev pub alone : Judged WrittenCompound → Judged Item
alone compound = compound >>= λ first. Ok (First first)

abbrev pub with_compound : Judged Item → Judged Combinator → Judged WrittenCompound → Judged Item
with_compound front step compound = compound >>= λ last. step >>= λ combinator. front >>= λ before. Ok (Then before combinator last)

abbrev pub with_item : Judged Items → Judged Item → Judged Items
with_item front item = front >>= λ items. item >>= λ last. Ok (And items last)

unfoldable pub judged_parts_at_most : ℕ → (List Token → Read drafts.DraftItems) → Nesting → Judged WrittenCompound → List Token → Read (Judged WrittenCompound)
judged_parts_at_most zero inner nesting parts tokens = Ok (parts, tokens)
judged_parts_at_most (suc n) inner nesting parts tokens = part inner nesting tokens >>= λ x. elim x.0 [
  | None ↦ Ok (parts, x.1)
  | Some found ↦ judged_parts_at_most n inner nesting (with_part parts (judged_part found)) x.1
]

abbrev pub judged_parts : (List Token → Read drafts.DraftItems) → Nesting → Judged WrittenCompound → List Token → Read (Judged WrittenCompound)
judged_parts inner nesting parts tokens = judged_parts_at_most (length tokens) inner nesting parts tokens

unfoldable pub judged_further : ℕ → (List Token → Read drafts.DraftItems) → Nesting → Bool → Judged Item → List Token → Read (Judged Item)
judged_further zero inner nesting inside item tokens = next_step nesting tokens >>= λ found. elim found.0 [
  | None ↦ Ok (item, found.1)
  | Some step ↦ refused UnsupportedSyntax found.1
]
judged_further (suc left) inner nesting inside item tokens = next_step nesting tokens >>= λ found. elim found.0 [
  | None ↦ Ok (item, found.1)
  | Some step ↦ compound inner nesting DanglingCombinator found.1 >>= λ next. judged_further left inner nesting inside (with_compound item (judged_step inside step) (judged_compound next.0)) next.1
]

unfoldable pub judged_items_at_most : ℕ → (List Token → Read drafts.DraftItems) → Nesting → Bool → Judged Items → List Token → Read (Judged Items)
judged_items_at_most zero inner nesting inside items tokens = Ok (items, tokens)
judged_items_at_most (suc n) inner nesting inside items tokens =
    if at_end nesting tokens then Ok (items, drop 1 tokens)
    else item inner nesting (drop 1 tokens) >>= λ x. judged_items_at_most n inner nesting inside (with_item items (judged_item inside x.0)) x.1

-- whether nothing was read, so far as it is judged
abbrev pub is_empty : Judged WrittenCompound → Bool
is_empty (Err refusal) = false
is_empty (Ok Nothing) = true
is_empty (Ok (With front last)) = false
