-- of a matcher that explains
use Rattle.std.proofs.Common.{◌≡◌, ℕ, Bool, max, sym, ap, ◌∙◌, subst}
use Rattle.lol_matcher.specs.Building.{started_with}
use Rattle.lol_matcher.specs.Told.{Matching}
use Rattle.lol_reasons.specs.Explanations.{added_by}
use Rattle.lol_program.specs.declared.ast.Ast.{Ast}
use Rattle.lol_reasons.specs.Numbered.{HasItemsOf, HoldsItems, texts_in}
use Rattle.lol_machine.specs.Views.{selectors}
use Rattle.zugrenja_c.specs.Sessions.{HasSelectorsOf, IsBuiltFrom}
use Rattle.zugrenja_c.proofs.Starting.{if_ok}
use Rattle.zugrenja_c.proofs.adding.Adding.build.Goals as goal

-- what a matcher began with, by what it says of itself
fresh : {ast : Ast} {memory bytes : ℕ} {esi : Bool} {m : Matching ℕ} → m ≡ started_with ast memory bytes esi m.tries → m ≡ started_with m.told.ast m.max_memory m.element_bytes m.told.esi m.tries
fresh {m = m} is = is ∙ (λ i. started_with (sym is i).told.ast (sym is i).max_memory (sym is i).element_bytes (sym is i).told.esi m.tries)

pub explaining-requires-clause-holds : goal.explaining-requires-clause-holds
explaining-requires-clause-holds c =
    let same = ap (λ (m : Matching ℕ). m.told.ast) c.in_ok-matcher.ensures.told in
    subst (λ ast. HoldsItems (added_by (texts_in c.in-Some.texts)) (record { ast = ast; explainer = c.in_ok-numbering.numbering.explainer })) (sym same) c.in_ok-numbering.ensures.numbered

pub explaining-requires-clause-started : goal.explaining-requires-clause-started
explaining-requires-clause-started c = fresh c.in_ok-matcher.ensures.told

pub returns-clause-built : goal.returns-clause-built
returns-clause-built c =
    if_ok c.explaining.result
    (λ running is.
    let m = c.in_ok-matcher.matcher in
    let b = c.args.self in
    let same = ap (λ (m : Matching ℕ). m.told.ast) c.in_ok-matcher.ensures.told in
    subst (IsBuiltFrom b) (sym is) (record {
      texts = sym c.in-Some.is;
      has_selectors = subst (λ o. HasSelectorsOf o b.settings m) (sym c.in-Some.is) (subst (λ (ast : Ast). HasItemsOf (texts_in c.in-Some.texts) (selectors ast)) (sym same) c.in_ok-numbering.ensures.numbered.tree);
      told = c.in_ok-matcher.ensures.told ∙ (λ i. started_with (sym same i) b.settings.max_memory (max b.settings.element_bytes 1) b.settings.enable_esi_tags m.tries);
      untried = c.in_ok-matcher.ensures.tries;
    }))
    c.explaining.ensures.made
