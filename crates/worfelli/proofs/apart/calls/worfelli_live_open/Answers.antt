-- `worfelli_live_open`: what the opening keeps of the bank that the arrays were put into, it keeps of the arrays; by the equations of the two.
use Rattle.worfelli.proofs.apart.calls.worfelli_live_open.Goals as goal

pub returns-clause-kept : goal.returns-clause-kept
returns-clause-kept c = rw (← c.gather.ensures, c.put_back.ensures) c.worfelli_struct_open-answer.ensures.kept
