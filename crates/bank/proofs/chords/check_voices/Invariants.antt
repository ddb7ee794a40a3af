-- `check_voices`: voice after voice. Invariant: the voices before `voice` are there, so that those from it on refuse the list as all of them do.
use Rattle.std.proofs.Common.{◌≡◌}
use lib.ListN.{drop}
use Rattle.bank.specs.Calls.{voices_refusal}
use Rattle.bank.specs.Banks.{bank_of, known}
use Rattle.bank.proofs.chords.check_voices.Given as goal

abbrev pub invariant-loop-voice : goal.invariant-loop-voice
invariant-loop-voice l = voices_refusal (known (bank_of l.m)) (drop l.voice-index l.voices) ≡ voices_refusal (known (bank_of l.m)) l.voices
