-- The lines that `play` prints.
use Rattle.std.specs.Prelude.{ℕ, ◌+◌, ◌*◌, cond, List, ◌++◌, codes, ltb, length, get_or, Float}
use Rattle.std.specs.Float.{nan, binary32}
use Rattle.std.specs.Float.Ieee.{to_bits}
use Rattle.std.specs.Fmt.{decimal}
use Rattle.numbers.specs.Bytes.{number}
use Rattle.rows.specs.Strides.{stride_of}
use Rattle.bank.specs.Calls.{if_accepted}
use Rattle.checking.specs.Checks.{checked}
use Rattle.player.specs.Playing.{events, unopened, rendered}
use Rattle.printing.specs.Text.{each}
use Rattle.printing.specs.Digits.{hexadecimal}

-- A space and the bits of a level.
abbrev pub level : ℕ → List ℕ
level bits = codes " " ++ hexadecimal 8 bits

-- A frame's number, the levels of its voices, of which voice v has the bits `bits v`, and the line's end.
abbrev pub frame : ℕ → ℕ → (ℕ → ℕ) → List ℕ
frame number voices bits = decimal number ++ each voices (λ v. level (bits v)) ++ codes "\n"

-- `refused N at P`.
abbrev pub refusal : ℕ → ℕ → List ℕ
refusal n place = codes "refused " ++ decimal n ++ codes " at " ++ decimal place ++ codes "\n"

-- n frames, one after the other, whose rows have `stride` lanes: level i of all of them has the bits `bits i`. Lanes that are no voices are left out.
abbrev pub frames : (ℕ → ℕ) → ℕ → ℕ → ℕ → List ℕ
frames bits voices stride n = each n (λ k. frame k voices (λ v. bits (k * stride + v)))

-- The bits of level i in bytes, four to a level, the lowest first.
abbrev pub bits_in : List ℕ → ℕ → ℕ
bits_in bytes i = number 4 bytes (4 * i)

-- ---- all that is printed

-- The bits of level i of those that are rendered.
abbrev pub bits_of : List Float → ℕ → ℕ
bits_of levels i = to_bits binary32 (get_or levels i nan)

-- A list, for an output of 16,384 levels: its frames, or the refusal's number and place.
unfoldable pub played : List ℕ → List ℕ
played l =
    let c = checked l (4 * 16384) in
    if_accepted c.refusal (frames (bits_of (rendered unopened (events l))) c.known.voices (stride_of c.known.voices) c.frames) (refusal c.refusal c.at)

-- A list, which has up to 16,384 bytes.
unfoldable pub printed : List ℕ → List ℕ
printed l = cond (ltb 16384 (length l)) (codes "too long\n") (played l)
