-- What a contract sees of attributes that are built from names and values.
use Rattle.std.specs.Prelude.{ℕ, ◌≡◌, ◌++◌, List, Option, refl}
use Rattle.std.specs.Coded.{Coded, code_by, coded×, coded_ℕ, coded_list, coded_option}
use Rattle.lol_base.specs.StartTags.{Attribute}

-- as its name and its value
abbrev pub attribute_code : Coded Attribute
attribute_code =
    code_by (List ℕ × Option (List ℕ)) (coded× (coded_list coded_ℕ) (coded_option (coded_list coded_ℕ))) (λ a. (a.name, a.value))
    (λ p. record { name = p.0; value = p.1 }) (λ _. refl)

-- bytes with more after them
abbrev pub Extends : List ℕ → List ℕ → Type 0
Extends before after = (more : List ℕ) × (after ≡ before ++ more)
