-- Hashes of keys: numbers of 32 bits.
use Rattle.std.specs.Prelude.{ℕ, Bool, true, false, List, [], ◌∷◌, ◌%◌, ◌^◌, fold, Option, Some, None}
use Rattle.std.specs.Hash.DefaultHasher as sip
use Rattle.std.specs.declared.hash.DefaultHasher.{DefaultHasher}
use Rattle.std.specs.Option.{option_map}
use Rattle.lol_base.specs.LocalNames.{Name, name_code, writes_of}
use Rattle.lol_instructions.specs.Keys.{AttributeKey, ById, ByClass, ByPart, ByAttribute}

-- a name of the code in lower case, if there is one
abbrev pub name_shown : Option Name → Option (List ℕ)
name_shown name = option_map (λ n. n.lowercased) name

abbrev pub byte_hashed : DefaultHasher → ℕ → DefaultHasher
byte_hashed hasher byte = sip.write hasher (byte ∷ [])

-- after a name in lower case, or after none
abbrev pub after_name : Option (List ℕ) → DefaultHasher
after_name None = byte_hashed sip.initial 0
after_name (Some name) = fold sip.write (byte_hashed sip.initial 1) (writes_of (name_code name) name)

abbrev pub byte_of_bool : Bool → ℕ
byte_of_bool true = 1
byte_of_bool false = 0

-- after the name of an attribute in lower case, before a part of its value
abbrev pub after_attribute : DefaultHasher → List ℕ → DefaultHasher
after_attribute hasher name = sip.write (byte_hashed hasher 4) name

abbrev pub hash_of_part : DefaultHasher → List ℕ → ℕ
hash_of_part hasher part = sip.finish (sip.write hasher part) % 2 ^ 32

abbrev pub after_key : DefaultHasher → Option AttributeKey → DefaultHasher
after_key hasher None = byte_hashed hasher 0
after_key hasher (Some (ById id)) = sip.write (byte_hashed hasher 1) id
after_key hasher (Some (ByClass name)) = sip.write (byte_hashed hasher 2) name
after_key hasher (Some (ByPart name part)) = sip.write (after_attribute hasher name) part
after_key hasher (Some (ByAttribute name)) = sip.write (byte_hashed hasher 3) name

abbrev pub hash_of_name : Option (List ℕ) → Bool → ℕ
hash_of_name name opens = sip.finish (byte_hashed (after_name name) (byte_of_bool opens)) % 2 ^ 32

-- Of no name and of a name: of nodes that aren't known to need attributes, and of those that are.
abbrev pub name_hashes : List ℕ → List ℕ
name_hashes name = hash_of_name None false ∷ hash_of_name None true ∷ hash_of_name (Some name) false ∷ hash_of_name (Some name) true ∷ []

-- the hash of a key after a name
abbrev pub hash_after : DefaultHasher → Option AttributeKey → ℕ
hash_after hasher key = sip.finish (after_key hasher key) % 2 ^ 32

abbrev pub hash_of_pair : Option (List ℕ) → Option AttributeKey → ℕ
hash_of_pair name key = hash_after (after_name name) key
