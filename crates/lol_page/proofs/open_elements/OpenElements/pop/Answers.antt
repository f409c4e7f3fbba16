use Rattle.std.proofs.Common.{ap}
use Rattle.lol_page.proofs.Opening.{some-found, sound-pop}
use Rattle.lol_page.proofs.open_elements.OpenElements.pop.Goals as goal

pub take_back-requires : goal.take_back-requires
take_back-requires c = some-found c.args.self.now c.in-Some.item c.pop.new.self.items c.requires c.in-Some.ensures.items

pub returns-in-Some-clause-sound : goal.returns-in-Some-clause-sound
returns-in-Some-clause-sound c =
    sound-pop c.args.self.now c.take_back.new.self c.in-Some.item c.pop.new.self.items c.requires c.in-Some.ensures.items
    (ap (λ v. v.items) c.take_back.ensures.items) c.take_back.ensures.noted
