-- A page may be cut anywhere.
use Rattle.std.specs.Prelude.{◌≡◌, ℕ, List, [], ◌∷◌, ◌++◌, refl}
use Rattle.std.specs.List.{concat}
use Rattle.std.proofs.Common.{sym, ◌∙◌, ap}
use Rattle.lol_tags.specs.Runs.{given-append}
use Rattle.lol_page.specs.Pages.{Page, page_step, page_ended, page_after, page_tags_from}
use Rattle.lol_page.specs.PageTags.{PageTag}

-- the tags of chunks that are read one after the other
abbrev pub page_tags_of_chunks : Page → List (List ℕ) → List PageTag
page_tags_of_chunks p [] = []
page_tags_of_chunks p (chunk ∷ chunks) = page_tags_from p chunk ++ page_tags_of_chunks (page_after p chunk) chunks

-- They are those of the whole page, however it is cut.
pub page_cuts_change_nothing : (p : Page) (chunks : List (List ℕ)) → page_tags_of_chunks p chunks ≡ page_tags_from p (concat chunks)
page_cuts_change_nothing p [] = refl
page_cuts_change_nothing p (chunk ∷ chunks) =
    ap (λ tags. page_tags_from p chunk ++ tags) (page_cuts_change_nothing (page_after p chunk) chunks)
    ∙ sym (given-append page_step page_ended p chunk (concat chunks))
