-- What a reading over C returns, and its out-parameter, behind the pointer that it is given: the value, or what was there if it is refused.
use Rattle.std.specs.Prelude.{ℕ, List, Float, Result, Ok, Err}
use Rattle.settings.specs.declared.refusals.Refusal.{Refusal}
use Rattle.memory.specs.Memory.{stage_code, flag_code}
use Rattle.memory.specs.Spaced.{puts}
use Rattle.bank.specs.Replies.{Reply}
use Rattle.worfelli.specs.Coded.{numbers_of, codes_of}

-- The refusal's number, 0 if the reading is accepted.
unfoldable pub refusal : Reply → ℕ
refusal (Reply.refused n) = n
refusal Reply.done = 0
refusal (Reply.wrote l) = 0
refusal (Reply.params p) = 0
refusal (Reply.stage s) = 0
refusal (Reply.level x) = 0
refusal (Reply.is_idle x) = 0
refusal (Reply.count n) = 0

-- Settings: eleven numbers and three codes, from the arrays' first places on.
unfoldable pub numbers : Reply → List Float → List Float
numbers (Reply.refused n) was = was
numbers Reply.done was = was
numbers (Reply.wrote l) was = was
numbers (Reply.params p) was = puts 1 was 0 (numbers_of p)
numbers (Reply.stage s) was = was
numbers (Reply.level x) was = was
numbers (Reply.is_idle x) was = was
numbers (Reply.count n) was = was

unfoldable pub codes : Reply → List ℕ → List ℕ
codes (Reply.refused n) was = was
codes Reply.done was = was
codes (Reply.wrote l) was = was
codes (Reply.params p) was = puts 1 was 0 (codes_of p)
codes (Reply.stage s) was = was
codes (Reply.level x) was = was
codes (Reply.is_idle x) was = was
codes (Reply.count n) was = was

-- A level.
unfoldable pub level : Reply → Float → Float
level (Reply.refused n) was = was
level Reply.done was = was
level (Reply.wrote l) was = was
level (Reply.params p) was = was
level (Reply.stage s) was = was
level (Reply.level x) was = x
level (Reply.is_idle x) was = was
level (Reply.count n) was = was

-- A stage's code, 0 Idle to 6 Release; 1 for idle and 0 for not; a count of frames.
unfoldable pub number : Reply → ℕ → ℕ
number (Reply.refused n) was = was
number Reply.done was = was
number (Reply.wrote l) was = was
number (Reply.params p) was = was
number (Reply.stage s) was = stage_code s
number (Reply.level x) was = was
number (Reply.is_idle x) was = flag_code x
number (Reply.count n) was = n

-- What a reading leaves where `was` stood.
abbrev pub or : {A : Type 0} → Result A Refusal → A → A
or (Ok x) was = x
or (Err r) was = was
