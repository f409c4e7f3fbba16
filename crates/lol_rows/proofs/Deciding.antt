-- What decides whether an instruction is left is what rows look it up by.
use Rattle.std.proofs.Common.{◌≡◌, ℕ, not, ◌&&◌, List, Option, Some, None, ap, subst}
use Rattle.std.specs.Option.{option_copied}
use Rattle.lol_instructions.specs.Attributes.{TagAttributes}
use Rattle.lol_instructions.specs.CompiledKeys.{lacks_key}
use Rattle.lol_instructions.specs.Keys.{is_another_name}
use Rattle.lol_instructions.specs.declared.instruction.Instruction.{Instruction}
use Rattle.lol_rows.specs.KeyRows.{CanFind}
use Rattle.lol_rows.specs.Rows.{keys_by, kind_for, leaves, leaves_seen, AreItsHashes, AreRowsBy, HoldEach}
use Rattle.lol_rows.specs.declared.key_rows.KeyRows.{KeyRows}
use Rattle.lol_rows.specs.declared.row_kind.RowKind.TheVariants.{Names, Pairs}
use Rattle.lol_rows.specs.declared.tag_keys.TagKeys.{TagKeys}

-- names are enough where attributes aren't given
decided_by_name : (name : List ℕ) (o : Option TagAttributes) (i j : Instruction) → o ≡ None → keys_by Names i ≡ keys_by Names j → leaves_seen name o i ≡ leaves_seen name o j
decided_by_name name None i j none same = ap (λ (k : _ × _). not (is_another_name k.0 name)) same
decided_by_name name (Some seen) i j none same = cc

decided_by_pair : (name : List ℕ) (o : Option TagAttributes) (i j : Instruction) → keys_by Pairs i ≡ keys_by Pairs j → leaves_seen name o i ≡ leaves_seen name o j
decided_by_pair name None i j same = ap (λ (k : _ × _). not (is_another_name k.0 name)) same
decided_by_pair name (Some seen) i j same = ap (λ (k : _ × _). not (is_another_name k.0 name) && not (lacks_key k.1 seen)) same

module _ (instructions : List Instruction) (rows : KeyRows) (keys : TagKeys) (its : AreItsHashes instructions keys) where
  pub can_find_by_name : AreRowsBy Names instructions rows → option_copied keys.attributes ≡ None → CanFind Names instructions rows keys
  can_find_by_name built none = record {
    built = built;
    decided = λ i j same. decided_by_name keys.name.now.lowercased (option_copied keys.attributes) i j none same;
    hashed = λ hashes is. subst (λ (o : Option TagAttributes). HoldEach hashes (kind_for o) (leaves keys) instructions) none (its hashes is);
  }

  pub can_find_by_pair : (seen : TagAttributes) → AreRowsBy Pairs instructions rows → option_copied keys.attributes ≡ Some seen → CanFind Pairs instructions rows keys
  can_find_by_pair seen built some = record {
    built = built;
    decided = λ i j same. decided_by_pair keys.name.now.lowercased (option_copied keys.attributes) i j same;
    hashed = λ hashes is. subst (λ (o : Option TagAttributes). HoldEach hashes (kind_for o) (leaves keys) instructions) some (its hashes is);
  }
