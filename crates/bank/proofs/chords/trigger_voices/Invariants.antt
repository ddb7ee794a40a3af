-- `trigger_voices`: voice after voice. Invariant (`Triggering`): the notes from `voice` on, in the bank that the arrays now hold, are the whole chord in the
-- first one; the voices left are there, and every other number is as it was.
use Rattle.bank.proofs.ChordVoices.{Triggering}
use Rattle.bank.proofs.chords.trigger_voices.Given as goal

abbrev pub invariant-loop-voice : goal.invariant-loop-voice
invariant-loop-voice l = Triggering l.voices l.trigger l.initial.m l.voice-index l.m
