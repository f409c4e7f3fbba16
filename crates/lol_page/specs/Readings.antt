-- What a contract sees of a reader of a page.
use Rattle.std.specs.Prelude.{ℕ, ◌≡◌, ◌<◌, Bool, true, List, [], ◌∷◌, fold, length, slice_range, Option}
use Rattle.std.specs.Option.{option_map}
use Rattle.lol_base.specs.StartTags.{StartTag}
use Rattle.lol_base.specs.declared.namespace.Namespace.{Namespace}
use Rattle.lol_page.specs.Ambiguity.{doubts_behind, is_ambiguous}
use Rattle.lol_page.specs.Pages.{Page, attributes_read, written_name}
use Rattle.lol_page.specs.PageTags.{PageTag}
use Rattle.lol_page.specs.declared.page_reader.PlacedTag.{PlacedTag}
use Rattle.lol_page.specs.declared.tree_doubts.TreeDoubts.{TreeDoubts}

-- The page as far as it was read, the bytes of the last tag, the most bytes of a tag, what the tags so far leave open, if such doubts are refused,
-- and whether a chunk was refused.
pub record Reading : Type 0 where
  pub page : Page
  pub text : List ℕ
  pub limit : ℕ
  pub doubts : Option TreeDoubts
  pub failed : Bool

-- a tag, by its places and its bytes
abbrev pub with_text : List ℕ → PlacedTag → PageTag
with_text text t = record { tag = t.tag; text = text; namespace = t.namespace; line = t.line; column = t.column }

-- the same, if there is one
abbrev pub tag_read : List ℕ → Option PlacedTag → Option PageTag
tag_read text t = option_map (with_text text) t

-- a start tag by its bytes, whose name ends at a place in them
abbrev pub start_of_name : Bool → List ℕ → ℕ → Namespace → Bool → StartTag
start_of_name decoded text name_end ns self_closing =
    record { name = slice_range text 1 name_end; namespace = ns; attributes = attributes_read decoded text name_end; self_closing = self_closing; finish = true }

-- There is a first of some tags, and it is such.
abbrev pub FirstIs : (PageTag → Type 0) → List PageTag → Type 0
FirstIs P [] = ⊥
FirstIs P (t ∷ tags) = P t

-- it is longer than so many bytes
abbrev pub FirstIsLonger : ℕ → List PageTag → Type 0
FirstIsLonger limit tags = FirstIs (λ t. limit < length t.text) tags

-- it is ambiguous
abbrev pub is_ambiguous_tag : Option TreeDoubts → PageTag → Bool
is_ambiguous_tag doubts t = is_ambiguous doubts (written_name t.text t.tag) t.tag.is_end

abbrev pub FirstIsAmbiguous : Option TreeDoubts → List PageTag → Type 0
FirstIsAmbiguous doubts tags = FirstIs (λ t. is_ambiguous_tag doubts t ≡ true) tags

-- what the names tell behind one tag more, and behind some
abbrev pub doubts_more : Option TreeDoubts → PageTag → Option TreeDoubts
doubts_more doubts t = doubts_behind doubts (written_name t.text t.tag) t.tag.is_end

abbrev pub doubts_after : Option TreeDoubts → List PageTag → Option TreeDoubts
doubts_after doubts tags = fold doubts_more doubts tags
