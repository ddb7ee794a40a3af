-- `check_voice`: its test is the definition's, true at the first return and false at the second.
use borrow.Author.Tests.{lt-ltb, le-ltb}
use Rattle.bank.proofs.known.Known.check_voice.Goals as goal

pub returns-then-voice-self : goal.returns-then-voice-self
returns-then-voice-self c = let a = c.args in rw (lt-ltb a.voice a.self.voices c.if-voice-self.true)

pub returns : goal.returns
returns c = let a = c.args in rw (le-ltb a.voice a.self.voices c.if-voice-self.false)
