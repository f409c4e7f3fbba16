use Rattle.lol_stack.proofs.stack.StackOf+LocalName+StackNames+E.pop_up_to.Goals as goal

pub returns-clause-called : goal.returns-clause-called
returns-clause-called g c = rw (← c.in-Some.ensures.value) c.hand_out.ensures.called
