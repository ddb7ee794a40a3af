-- `spec_of`: an arm for each stage, and each is its clause of `spec`, by what `samples`, `unit` and `bend` ensure.
use lib.Ieee.{of_bits}
use Rattle.lane.specs.Planning.{spec}
use Rattle.lane.proofs.lanes.spec_of.Goals as goal

pub returns-in-Idle : goal.returns-in-Idle
unfolding spec of_bits
returns-in-Idle c = simp (c.unit.ensures, c.in-Idle.is)

pub returns-in-Delay : goal.returns-in-Delay
unfolding spec of_bits
returns-in-Delay c = simp (c.samples.ensures, c.in-Delay.is)

pub returns-in-Attack : goal.returns-in-Attack
unfolding spec of_bits
returns-in-Attack c = simp (c.samples-in-Attack.ensures, c.bend.ensures, c.in-Attack.is)

pub returns-in-Hold : goal.returns-in-Hold
unfolding spec of_bits
returns-in-Hold c = simp (c.samples-in-Hold.ensures, c.in-Hold.is)

pub returns-in-Decay : goal.returns-in-Decay
unfolding spec of_bits
returns-in-Decay c =
    simp (c.samples-in-Decay.ensures, c.unit-in-Decay.ensures, c.bend-in-Decay.ensures, c.in-Decay.is)

pub returns-in-Sustain : goal.returns-in-Sustain
unfolding spec of_bits
returns-in-Sustain c = simp (c.unit-in-Sustain.ensures, c.in-Sustain.is)

pub returns-in-Release : goal.returns-in-Release
unfolding spec of_bits
returns-in-Release c =
    simp (c.samples-in-Release.ensures, c.unit-in-Release.ensures, c.bend-in-Release.ensures, c.in-Release.is)
