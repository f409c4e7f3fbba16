use Rattle.lol_page.specs.PageCuts as cuts
use Rattle.lol_page.proofs.laws.page_cuts_change_nothing.Goals as goal

pub returns : goal.returns
returns c = cuts.page_cuts_change_nothing
