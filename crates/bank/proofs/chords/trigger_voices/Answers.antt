-- `trigger_voices`: an iteration begins one note more (`triggering-more`); once none is left, the bank has had the whole chord.
use mathlib.Core.Path.{sym, subst, ◌∙◌}
use lib.ListN.{get_or}
use Rattle.std.proofs.lemmas.List.{at_drop_all}
use Prim.Native.Nat.{◌+◌}
use Rattle.std.specs.List.{fold}
use Rattle.timing.specs.declared.Timing.{Timing}
use Rattle.lane.specs.Voices as Voices
use Rattle.memory.specs.Memory.{loaded, Stored}
use Rattle.bank.specs.Banks.{bank_of, triggered}
use Rattle.bank.proofs.ChordVoices.{Triggering, triggering-start, triggering-more, triggering-left}
use Rattle.bank.specs.Parts.{changed}
use Rattle.bank.proofs.chords.trigger_voices.Goals as goal
use Rattle.bank.proofs.chords.trigger_voices.Goals.{then-not-leaves_alone, else-not-leaves_alone}

pub loop-voice-init : goal.loop-voice-init
loop-voice-init c = triggering-start c.args.voices.now c.args.trigger c.args.m.now c.requires

pub loop-voice-preserved : goal.loop-voice-preserved
unfolding changed
loop-voice-preserved c =
    let a = c.args in
    let l = c.loop-voice in
    let vs = a.voices.now in
    elim c.if-not-leaves_alone.branch [
      | then-not-leaves_alone w ↦
          subst (Triggering vs a.trigger a.m.now (l.voice-index + 1)) (sym w.m-is)
          (triggering-more vs a.trigger a.m.now l.voice-index l.m c.loop-voice-test.true l.invariant w.change_voice.new.m
          (subst
          (λ (t : Timing). Stored (get_or vs l.voice-index 0) (Voices.trigger t a.trigger (loaded l.m (get_or vs l.voice-index 0))) l.m w.change_voice.new.m)
          c.timing-timing.ensures w.change_voice.ensures))
      | else-not-leaves_alone w ↦
          subst (Triggering vs a.trigger a.m.now (l.voice-index + 1)) (sym w.m-is)
          (triggering-left vs a.trigger a.m.now l.voice-index l.m c.loop-voice-test.true l.invariant (sym c.leaves_alone.ensures ∙ w.if-not-leaves_alone.false))
    ]

pub returns : goal.returns
returns c =
    let a = c.args in
    let l = c.loop-voice in
    record {
      bank = sym (at_drop_all (fold (triggered a.trigger) (bank_of l.m)) a.voices.now l.voice-index c.loop-voice-test.false) ∙ l.invariant.bank;
      beside = l.invariant.beside;
    }
