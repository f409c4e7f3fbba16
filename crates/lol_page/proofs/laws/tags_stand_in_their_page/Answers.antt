use Rattle.lol_page.specs.Pages.{fresh_page}
use Rattle.lol_page.proofs.InPage.{page-stands}
use Rattle.lol_page.proofs.laws.tags_stand_in_their_page.Goals as goal

pub returns : goal.returns
returns c = λ scripting decoded page.
    page-stands c.unfinished_tags_are_kept.ensures.after c.unfinished_tags_are_kept.ensures.tags c.unfinished_tags_are_kept.ensures.told
    (fresh_page scripting decoded) page (c.unfinished_tags_are_kept.ensures.fresh scripting)
