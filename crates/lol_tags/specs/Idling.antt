-- States that most bytes leave as they are: the code skips these.
use Rattle.std.specs.Prelude.{ℕ, Bool, ◌≡◌, ◌==◌, true, false, List, [], ◌∷◌, Option, Some, None}
use Rattle.lol_tags.specs.States.{attribute_name}
use Rattle.lol_tags.specs.Attributes.{is_attribute_name}
use Rattle.lol_tags.specs.declared.state.State.{State}
use Rattle.lol_tags.specs.declared.state.State.TheVariants.{Data, TagOpen, EndTagOpen, TagName, BeforeAttributeName, AttributeName, RawText, AttributeValueDoubleQuoted, AttributeValueSingleQuoted, Comment, BogusComment, CdataSection}

-- the one byte that leads away from a state, where there is one alone
unfoldable pub stop : State → Option ℕ
stop Data = Some 60
stop RawText = Some 60
stop AttributeValueDoubleQuoted = Some 34
stop AttributeValueSingleQuoted = Some 39
stop Comment = Some 45
stop BogusComment = Some 62
stop CdataSection = Some 93
stop _ = None

-- the same of quoted values alone, where an attribute's bytes are read
unfoldable pub quote : State → Option ℕ
quote AttributeValueDoubleQuoted = Some 34
quote AttributeValueSingleQuoted = Some 39
quote _ = None

-- none of these bytes is that one
abbrev pub Lacks : ℕ → List ℕ → Type 0
Lacks c [] = Unit {0}
Lacks c (b ∷ bytes) = ((b == c) ≡ false) × Lacks c bytes

-- each of these bytes passes a test
abbrev pub Each : (ℕ → Bool) → List ℕ → Type 0
Each test [] = Unit {0}
Each test (b ∷ bytes) = (test b ≡ true) × Each test bytes

-- a byte that goes on with an attribute's name
abbrev pub in_name : ℕ → Bool
in_name b = is_attribute_name (attribute_name b)

-- the states in which a letter is one of a tag's name
unfoldable pub may_spell : State → Bool
may_spell TagOpen = true
may_spell EndTagOpen = true
may_spell TagName = true
may_spell _ = false

abbrev pub MaySpell : State → Type 0
MaySpell s = may_spell s ≡ true

-- those in which such a byte is one of an attribute's name
unfoldable pub may_name : State → Bool
may_name BeforeAttributeName = true
may_name AttributeName = true
may_name _ = false

abbrev pub MayName : State → Type 0
MayName s = may_name s ≡ true
