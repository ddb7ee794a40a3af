-- A run of frames within one segment: its levels and the voice after it are those of frame after frame (`level-within`, `run_ends`), since only u and
-- `left` change there; by cases on whether the segment is timed. And the levels of frames as a list, by its elements, by induction on the frames.
use mathlib.Core.Path.{◌≡◌, refl, sym, ap, ◌∙◌}
use mathlib.Core.Logic.{◌≢◌}
use mathlib.Core.Bool.{Bool, true, false}
use mathlib.Core.List.{List}
use Prim.Native.Nat.{ℕ, zero, suc, ◌≤◌, ◌<◌, max}
use native.Mathlib.Nat.{not-suc-le-zero, le_of_suc-le-suc}
use native.Mathlib.Omega.{arith}
use borrow.Author.Tests.{eqb-true, eqb-false}
use lib.Dec.{eqb}
use lib.Ieee.{Float, nan}
use lib.ListN.{length, get_or}
use lib.Seq.{ext_get_or}
use Rattle.timing.specs.declared.Timing.{Timing}
use Rattle.curve.specs.declared.segments.Segment.{Segment}
use Rattle.curve.specs.Segments as Segments
use Rattle.curve.specs.Segments.{Inside, run_length, untimed}
use Rattle.lane.specs.declared.lanes.Voice.{Voice}
use Rattle.lane.specs.Planning.{advance}
use Rattle.lane.specs.Voices as Voices
use Rattle.lane.proofs.Frames.{frames-from, frames-untimed, frames-inside, frame-last, frames_end}
use Rattle.envelope.specs.declared.envelopes.Envelope.{Envelope}
use Rattle.envelope.specs.Envelopes.{frame, frames, levels}
use Rattle.envelope.specs.Parts.{level_after}

-- A run has a frame if there is one to draw, and no more than there are.
pub run-some : (left most : ℕ) → 1 ≤ most → 1 ≤ run_length left most
unfolding run_length
run-some left most h = grind arith

pub run_few : (left most : ℕ) → run_length left most ≤ most
unfolding run_length
run_few left most = grind arith

-- For the blocks of `after_process`: a run lies in what is left to draw, and has a frame.
pub ruleset run_bounds = (run-some, run_few)

-- A frame of the envelope is one of its voice.
pub frames-voice : (n : ℕ) (e : Envelope) → frames n e ≡ record { voice = Voices.frames n e.timing e.voice; timing = e.timing }
frames-voice zero e = refl
frames-voice (suc n) e = frames-voice n (frame e)

-- The level k frames on, within the segment.
pub level-within : (t : Timing) (v : Voice) (m k : ℕ) → Inside m v.seg.left → k < m
    → level_after v.seg k ≡ Segments.level (Voices.frames k t v).seg
unfolding Segments.level
level-within t v m k w h = go (eqb v.seg.left untimed) refl
  where
    g : Segment
    g = v.seg

    inside : (k : ℕ) → k < m → g.left ≢ untimed → level_after g k ≡ Segments.level (Voices.frames k t v).seg
    inside zero h d = refl
    inside (suc k) h d =
        let x : m ≤ max 1 g.left = w.1 d in
        let b = w.0 in
        ap (λ (y : Voice). Segments.level y.seg) (sym (frames-inside t (suc k) v (omega arith) (omega arith)))

    go : (x : Bool) → eqb g.left untimed ≡ x → level_after g k ≡ Segments.level (Voices.frames k t v).seg
    go true e = ap (λ (y : Voice). Segments.level y.seg) (sym (frames-untimed t k v (eqb-true g.left untimed e)))
    go false e = inside k h (eqb-false g.left untimed e)

length-levels : (n : ℕ) (e : Envelope) → length (levels n e) ≡ n
length-levels zero e = refl
length-levels (suc n) e = ap suc (length-levels n (frame e))

-- The level that frame k of a voice hands out.
abbrev pub level_at : Timing → Voice → ℕ → Float
level_at t v k = Segments.level (Voices.frames k t v).seg

get_d_levels : (n j : ℕ) (e : Envelope) → j < n → get_or (levels n e) j nan ≡ level_at e.timing e.voice j
get_d_levels zero j e h = absurd (not-suc-le-zero h)
get_d_levels (suc n) zero e h = refl
get_d_levels (suc n) (suc j) e h = get_d_levels n j (frame e) (le_of_suc-le-suc h)

-- A list that has a run's levels, one by one, is the list of them.
pub run-levels : (e : Envelope) (m : ℕ) (l : List Float) → Inside m e.voice.seg.left → length l ≡ m
    → ((k : ℕ) → k < length l → get_or l k nan ≡ level_after e.voice.seg k) → l ≡ levels m e
run-levels e m l w s h =
    ext_get_or nan l (levels m e) (s ∙ sym (length-levels m e))
    (λ k p. h k p ∙ level-within e.timing e.voice m k w (omega arith) ∙ sym (get_d_levels m k e (omega arith)))

-- As many frames as are left, and no more.
pub run_ends : (t : Timing) (v : Voice) (m : ℕ) → v.seg.left < untimed → 1 ≤ m → m ≤ max 1 v.seg.left → v.seg.left ≤ m
    → Voices.frames m t v ≡ advance t v.lane
run_ends t v m b p h k = go v.seg.left refl
  where
    go : (l : ℕ) → v.seg.left ≡ l → Voices.frames m t v ≡ advance t v.lane
    go zero e =
        let one : m ≡ 1 = omega arith in
        ap (λ (n : ℕ). Voices.frames n t v) one ∙ frame-last t v (omega arith)
    go (suc l) e =
        let all : m ≡ v.seg.left = omega arith in
        ap (λ (n : ℕ). Voices.frames n t v) all ∙ frames_end t v (omega arith) b

-- For `passed`: untimed, or with samples left, only u and left step; a run that reaches the end is followed by `advance`.
pub ruleset after_run = (frames-untimed, frames-inside, run_ends)
