-- A handler that keeps what it is called with.
use Rattle.std.specs.Prelude.{◌≡◌, false, [], ◌∷◌, ◌++◌}
use Rattle.lol_vm.specs.declared.collected.Collected.{Collected}

-- The item comes last, or memory was refused; after a refusal nothing is kept.
abbrev pub Collects : {T : Type 0} → Collected T → T → Collected T → Type 0
Collects old item new = (new.refused ≡ false) → (old.refused ≡ false) × (new.items.items ≡ old.items.items ++ item ∷ [])
