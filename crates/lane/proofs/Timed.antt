-- A voice in a stage that takes time. `Timed`: some samples are left of its segment, which lies in its curve, which is no longer than its stage,
-- which has at most B samples. So no sum saturates and no difference stops at 0 (`unguarded`, by linear arithmetic). While more than one sample is
-- left of the stage a frame keeps `Timed` (`goes_on`: within the segment, or into the curve's next one); with one left the next stage is entered
-- (`ends`). k frames by induction (`stays`).
use mathlib.Core.Path.{◌≡◌, refl, ap, ◌∙◌}
use mathlib.Core.Bool.{Bool, true, false, cond}
use mathlib.Core.Logic.{◌≢◌}
use Prim.Native.Nat.{ℕ, zero, suc, ◌+◌, ◌-◌, ◌≤◌, ◌<◌, min}
use native.Mathlib.Omega.{arith}
use borrow.Author.Tests.{lt-ltb, le-ltb, ne_eqb, eqb-true, eqb-false}
use lib.Dec.{eqb}
use lib.Ieee.{Float}
use Rattle.timing.specs.declared.Timing.{Timing}
use Rattle.curve.specs.declared.segments.Segment.{Segment}
use Rattle.curve.specs.Segments.{untimed}
use Rattle.curve.specs.Curves.{segment, straight, bent}
use Rattle.settings.specs.declared.stages.Stage.{Stage}
use Rattle.lane.specs.declared.lanes.Spec.{Spec}
use Rattle.lane.specs.declared.lanes.Lane.{Lane}
use Rattle.lane.specs.declared.lanes.Voice.{Voice}
use Rattle.settings.specs.Stages.{next}
use Rattle.lane.specs.Planning.{start_segment, begin, enter, past_segment, advance}
use Rattle.lane.specs.Voices.{elapsed, stepped, frame, frames}
use Rattle.lane.specs.Readings.{rest}
use Rattle.lane.proofs.Counts.{largest}
use Rattle.lane.proofs.Frames.{frame-last}

-- Samples are left of the segment, which is part of the curve, which is what is left of a stage of at most B samples.
pub record Timed (B : ℕ) (v : Voice) : Type 0 where
  pub some_left : 1 ≤ v.seg.left
  pub in_segment : v.seg.left ≤ v.lane.seg_len
  pub short : v.lane.seg_len ≤ 16384
  pub in_curve : v.lane.pos + v.lane.seg_len ≤ v.lane.curve_total
  pub in_stage : v.lane.curve_total ≤ v.lane.spec.total
  pub counts : v.lane.spec.total ≤ B

-- The definitions are then literally the Rust's: no sum saturates at the largest u64, and no difference stops at 0.
pub record Unguarded (v : Voice) : Type 0 where
  pub some_left : 1 ≤ v.seg.left
  pub some_curve : v.lane.pos < v.lane.curve_total
  pub past_segment_plain : (past_segment v.lane).pos ≡ v.lane.pos + v.lane.seg_len
  pub segment_in_curve : v.lane.pos + v.lane.seg_len ≤ v.lane.curve_total
  pub left_in_segment : v.seg.left ≤ v.lane.seg_len
  pub curve_in_stage : v.lane.curve_total ≤ v.lane.spec.total
  pub elapsed-plain : elapsed v ≡ (v.lane.spec.total - v.lane.curve_total) + v.lane.pos + (v.lane.seg_len - v.seg.left)
  pub elapsed-rest : elapsed v + rest v ≡ v.lane.spec.total

pub unguarded : (B : ℕ) → B ≤ largest → (v : Voice) → Timed B v → Unguarded v
unfolding past_segment elapsed rest
unguarded B b v q = omega arith

-- ---- the start of a segment

cond-left : (x : Bool) (a b : Segment) (n : ℕ) → a.left ≡ n → b.left ≡ n → (cond x a b).left ≡ n
cond-left true a b n p q = p
cond-left false a b n p q = q

segment-left : (from to k : Float) (total pos len : ℕ) → (segment from to k total pos len).left ≡ len
unfolding segment straight bent
segment-left from to k total pos len = search cond-left

pub segment-timed : (B : ℕ) (l : Lane) → l.pos < l.curve_total → l.curve_total ≤ l.spec.total → l.spec.total ≤ B
    → Timed B (start_segment l) × (rest (start_segment l) ≡ l.curve_total - l.pos)
unfolding start_segment rest
segment-timed B l h f b =
    let len = min (l.curve_total - l.pos) 16384 in
    let q = segment-left l.from l.to l.k l.curve_total l.pos len in
    (omega arith, omega arith)

pub begin-timed : (B : ℕ) (l : Lane) (s : Stage) (sp : Spec) (from : Float) (total pos : ℕ) → pos < total → total ≤ sp.total → sp.total ≤ B
    → Timed B (begin l s sp from total pos) × (rest (begin l s sp from total pos) ≡ total - pos)
unfolding begin
begin-timed B l s sp from total pos h f b = segment-timed B _ h f b

-- ---- frames

-- w is v, n frames later in the same stage.
pub record Later (B : ℕ) (v w : Voice) (n : ℕ) : Type 0 where
  pub params : w.lane.params ≡ v.lane.params
  pub stage : w.lane.stage ≡ v.lane.stage
  pub to : w.lane.to ≡ v.lane.to
  pub still : Timed B w
  pub left : rest w + n ≡ rest v

pub rest_some : (B : ℕ) (v : Voice) → Timed B v → 1 ≤ rest v
unfolding rest
rest_some B v q = omega arith

module _ (B : ℕ) (large : B ≤ largest) (t : Timing) where
  -- With more than one sample left the stage goes on.
  pub goes_on : (v : Voice) → Timed B v → 1 < rest v → Later B v (frame t v) 1
  unfolding frame advance past_segment stepped rest start_segment
  goes_on v q h = rw (ne_eqb v.seg.left untimed (λ e. omega arith)) (go (eqb (v.seg.left - 1) 0) refl)
    where
      l : Lane
      l = v.lane

      m : Lane
      m = past_segment l

      go : (x : Bool) → eqb (v.seg.left - 1) 0 ≡ x
          → Later B v (cond x (advance t l) (record { lane = l; seg = stepped v.seg (v.seg.left - 1) })) 1
      go true e =
          let d : v.seg.left - 1 ≡ 0 = eqb-true (v.seg.left - 1) 0 e in
          let a : m.pos < m.curve_total = omega arith in
          let b : (m.curve_total - m.pos) + 1 ≡ rest v = omega arith in
          let (s, r) = segment-timed B m a q.in_stage q.counts in
          rw (lt-ltb m.pos m.curve_total a)
          (record { params = refl; stage = refl; to = refl; still = s; left = ap (λ (x : ℕ). x + 1) r ∙ b })
      go false e =
          let d : v.seg.left - 1 ≢ 0 = eqb-false (v.seg.left - 1) 0 e in
          record { params = refl; stage = refl; to = refl; still = omega arith; left = omega arith }

  -- With one left the next stage is entered.
  pub ends : (v : Voice) → Timed B v → rest v ≡ 1 → frame t v ≡ enter (past_segment v.lane) t (next v.lane.stage) v.lane.to
  unfolding advance past_segment rest
  ends v q h =
      let m = past_segment v.lane in
      let a : m.curve_total ≤ m.pos = omega arith in
      frame-last t v (omega arith) ∙ rw (le-ltb m.pos m.curve_total a)

  pub stays : (k : ℕ) (v : Voice) → Timed B v → k < rest v → Later B v (frames k t v) k
  stays zero v q h = record { params = refl; stage = refl; to = refl; still = q; left = omega arith }
  stays (suc k) v q h =
      let o = goes_on v q (omega arith) in
      let r = stays k (frame t v) o.still (omega arith) in
      record { params = r.params ∙ o.params; stage = r.stage ∙ o.stage; to = r.to ∙ o.to; still = r.still; left = omega arith }
