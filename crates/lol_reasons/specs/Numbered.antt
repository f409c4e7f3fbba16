-- Items of texts, each under its number in the order of adding.
use Rattle.std.specs.Prelude.{ℕ, ◌+◌, ◌≡◌, List, [], ◌∷◌, map}
use Rattle.lol_css.specs.TreeViews.{item_of, list_of}
use Rattle.lol_css.specs.declared.selector.ComplexSelector.{ComplexSelector}
use Rattle.lol_instructions.specs.Tests.{Element}
use Rattle.lol_program.specs.Asts.{nodes_of, pairs_of}
use Rattle.lol_program.specs.Conditions.{path_of, paths_of}
use Rattle.lol_program.specs.Paths.{Path, Selectors, all_beginnings}
use Rattle.lol_program.specs.Sets.{SameMembers}
use Rattle.lol_machine.specs.Answers.{matching_ids}
use Rattle.lol_reasons.specs.Explanations as texts
use Rattle.lol_reasons.specs.Explanations.{Added, added_by, added_items, pairs_added}
use Rattle.lol_reasons.specs.ReasonLaws.{source_of_added}
use Rattle.lol_reasons.specs.declared.explainer.Explainer.{Explainer}
use Rattle.lol_reasons.specs.declared.explainer.ItemOfText.{ItemOfText}
use Rattle.lol_reasons.specs.declared.explainer.Reason.{Reason}
use Rattle.lol_reasons.specs.declared.texts.Numbering.{Numbering}
use Rattle.lol_reasons.specs.declared.texts.Text.{Text}
use Rattle.lol_reasons.specs.declared.texts.Texts.{Texts}

-- 1. What the code's values stand for

abbrev pub text_shown : Text → texts.Text
text_shown text = record { id = text.id; items = list_of text.selector }

-- The texts that were added, in their order.
abbrev pub texts_in : Texts → List texts.Text
texts_in t = map text_shown t.texts.items

abbrev pub item_shown : ItemOfText → ℕ × ℕ × ℕ
item_shown i = (i.id, i.text, i.item)

-- the id, text and item of each number
abbrev pub items_of : Explainer → List (ℕ × ℕ × ℕ)
items_of explainer = map item_shown explainer.items.items

abbrev pub reason_shown : Reason → texts.Reason
reason_shown r = record { id = r.item.id; text = r.item.text; item = r.item.item; witness = r.witness.items }

abbrev pub item_path : ComplexSelector → Path
item_path item = path_of (item_of item)

-- what an item of a text adds
abbrev pub item_added : ItemOfText → ComplexSelector → Added
item_added i item = record { path = item_path item; id = i.id; text = i.text; item = i.item }

-- 2. Numbers

-- the pairs of what was added, each path under its number, from a number on
abbrev pub numbered_from : ℕ → List Added → List (Path × ℕ)
numbered_from n [] = []
numbered_from n (a ∷ added) = (a.path, n) ∷ numbered_from (n + 1) added

-- Selectors have the items of texts, each under its number, and no others.
abbrev pub HasItemsOf : List texts.Text → Selectors → Type 0
HasItemsOf ts s = SameMembers s.pairs (numbered_from 0 (added_by ts))

-- An explainer knows the items of texts.
abbrev pub KnowsItemsOf : List texts.Text → Explainer → Type 0
KnowsItemsOf ts explainer = items_of explainer ≡ map source_of_added (added_by ts)

-- A tree has these items, each under its number, and no others, with their nodes, and an explainer knows them.
pub record HoldsItems (added : List Added) (numbering : Numbering) : Type 0 where
  pub tree : SameMembers (pairs_of numbering.ast) (numbered_from 0 added)
  pub nodes : SameMembers (nodes_of numbering.ast) (all_beginnings (pairs_added added))
  pub explainer : items_of numbering.explainer ≡ map source_of_added added

-- what one text adds
abbrev pub added_by_text : ℕ → texts.Text → List Added
added_by_text number text = added_items text.id number 0 (paths_of text.items)

-- An explainer knows the items of texts, which stand under their numbers in selectors, and these are the numbers of those that match an element.
pub record HasMatchedItems (ts : List texts.Text) (explainer : Explainer) (s : Selectors) (matched : List ℕ) (e : Element) (outer : List Element) : Type 0 where
  pub known : KnowsItemsOf ts explainer
  pub items : HasItemsOf ts s
  pub ids_are : matched ≡ matching_ids s.pairs e outer
