-- `changed`: each arm of the match is its clause of the definition, by what the method that it calls ensures.
use Rattle.bank.specs.Parts.{changed}
use Rattle.bank.proofs.changes.changed.Goals as goal

pub returns-in-Params : goal.returns-in-Params
unfolding changed
returns-in-Params c = simp c.in-Params.is c.set_params.ensures

pub returns-in-Replan : goal.returns-in-Replan
unfolding changed
returns-in-Replan c = simp c.in-Replan.is c.replan.ensures

pub returns-in-Trigger : goal.returns-in-Trigger
unfolding changed
returns-in-Trigger c = simp c.in-Trigger.is c.trigger.ensures

pub returns-in-Release : goal.returns-in-Release
unfolding changed
returns-in-Release c = simp c.in-Release.is c.release.ensures

pub returns-in-Reset : goal.returns-in-Reset
unfolding changed
returns-in-Reset c = simp c.in-Reset.is c.reset.ensures

pub returns-in-Join : goal.returns-in-Join
unfolding changed
returns-in-Join c = simp c.in-Join.is

pub returns-in-Follow : goal.returns-in-Follow
unfolding changed
returns-in-Follow c = simp c.in-Follow.is c.advance.ensures
