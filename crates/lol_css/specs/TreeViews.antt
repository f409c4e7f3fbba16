-- What the code's trees stand for.
use Rattle.std.specs.Prelude.{List, [], ◌∷◌}
use Rattle.lol_css.specs.Trees as trees
use Rattle.lol_css.specs.declared.selector.Combinator.{Combinator}
use Rattle.lol_css.specs.declared.selector.SimpleSelector.{SimpleSelector, LocalName, ExplicitUniversalType, ExplicitNoNamespace, ID, Class, AttributeExists, AttributeComparison, Nth, Negation, Is, Where}
use Rattle.lol_css.specs.declared.selector.Compound.{Compound, Row_of-SimpleSelector, end_of-SimpleSelector, more_of-SimpleSelector}
use Rattle.lol_css.specs.declared.selector.ComplexSelector.{ComplexSelector, ComplexSelector', Row_of-ComplexSelector-rest-2, end_of-ComplexSelector-rest-2, more_of-ComplexSelector-rest-2}
use Rattle.lol_css.specs.declared.selector.SelectorList.{SelectorList, SelectorList', Row_of-ComplexSelector, end_of-ComplexSelector, more_of-ComplexSelector}

-- rows at the right end of what stands before them
abbrev mutual
  pub part_of : SimpleSelector → trees.Part
  part_of (LocalName name) = trees.Plain (trees.LocalName name)
  part_of ExplicitUniversalType = trees.Plain trees.AnyName
  part_of ExplicitNoNamespace = trees.Plain trees.NoNamespace
  part_of (ID name) = trees.Plain (trees.Id name)
  part_of (Class name) = trees.Plain (trees.Class name)
  part_of (AttributeExists name) = trees.Plain (trees.Exists name)
  part_of (AttributeComparison name value operator case) = trees.Plain (trees.Compares name operator value case)
  part_of (Nth of_type nth) = trees.Plain (trees.Nth of_type nth.step nth.offset)
  part_of (Negation list) = trees.Not (list_of list)
  part_of (Is list) = trees.Is (list_of list)
  part_of (Where list) = trees.Where (list_of list)

  pub with_parts : {m : _} → trees.WrittenCompound → Row_of-SimpleSelector m → trees.WrittenCompound
  with_parts front end_of-SimpleSelector = front
  with_parts front (more_of-SimpleSelector part rest) = with_parts (trees.With front (part_of part)) rest

  pub item_of : ComplexSelector → trees.Item
  item_of (ComplexSelector' shape first shape2 further) = with_further (trees.First (with_parts trees.Nothing first)) further

  pub with_further : {m : _} → trees.Item → Row_of-ComplexSelector-rest-2 m → trees.Item
  with_further front end_of-ComplexSelector-rest-2 = front
  with_further front (more_of-ComplexSelector-rest-2 combinator shape parts rest) = with_further (trees.Then front combinator (with_parts trees.Nothing parts)) rest

  pub list_of : SelectorList → trees.Items
  list_of (SelectorList' shape items) = with_items trees.NoItems items

  pub with_items : {m : _} → trees.Items → Row_of-ComplexSelector m → trees.Items
  with_items front end_of-ComplexSelector = front
  with_items front (more_of-ComplexSelector item rest) = with_items (trees.And front (item_of item)) rest

abbrev pub with_part_list : trees.WrittenCompound → List SimpleSelector → trees.WrittenCompound
with_part_list front [] = front
with_part_list front (part ∷ parts) = with_part_list (trees.With front (part_of part)) parts

abbrev pub compound_of : Compound → trees.WrittenCompound
compound_of compound = with_part_list trees.Nothing compound.parts.items

abbrev pub with_compound_list : trees.Item → List (Combinator × Compound) → trees.Item
with_compound_list front [] = front
with_compound_list front (next ∷ others) = with_compound_list (trees.Then front next.0 (compound_of next.1)) others

abbrev pub with_item_list : trees.Items → List ComplexSelector → trees.Items
with_item_list front [] = front
with_item_list front (item ∷ items) = with_item_list (trees.And front (item_of item)) items
