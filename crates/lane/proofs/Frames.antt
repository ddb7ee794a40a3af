-- n frames however they are cut, and frames within one segment: while samples are left only u and `left` change, and `advance` follows the last one.
-- By induction on the frames.
use mathlib.Core.Path.{◌≡◌, refl, ap, ◌∙◌}
use Prim.Native.Nat.{ℕ, zero, suc, ◌+◌, ◌-◌, ◌≤◌, ◌<◌}
use native.Mathlib.Omega.{arith}
use native.Mathlib.Nat.{zero-add, suc-add, sub-zero}
use borrow.Author.Tests.{eq-eqb, ne_eqb}
use Rattle.timing.specs.declared.Timing.{Timing}
use Rattle.curve.specs.declared.segments.Segment.{Segment}
use Rattle.curve.specs.Segments.{u_after, untimed}
use Rattle.lane.specs.declared.lanes.Voice.{Voice}
use Rattle.lane.specs.Planning.{advance}
use Rattle.lane.specs.Voices.{stepped, frame, frames}

-- A segment after n samples, with `left` left.
abbrev pub drawn : ℕ → ℕ → Segment → Segment
drawn n left g = record { u = u_after n g.u g.r g.d; r = g.r; d = g.d; scale = g.scale; base = g.base; left = left }

-- A voice after n samples of its segment, with `left` left.
abbrev pub after : ℕ → ℕ → Voice → Voice
after n left v = record { lane = v.lane; seg = drawn n left v.seg }

module _ (t : Timing) where
  pub frames-add : (m n : ℕ) (v : Voice) → frames (m + n) t v ≡ frames n t (frames m t v)
  frames-add zero n v = rw zero-add
  frames-add (suc m) n v = rw suc-add (frames-add m n (frame t v))

  pub frames-from : (m k : ℕ) (v : Voice) → m ≤ k → frames k t v ≡ frames (k - m) t (frames m t v)
  frames-from m k v h =
      let e : k ≡ m + (k - m) = omega arith in
      ap (λ (x : ℕ). frames x t v) e ∙ frames-add m (k - m) v

  -- An untimed segment only steps.
  pub frames-untimed : (n : ℕ) (v : Voice) → v.seg.left ≡ untimed → frames n t v ≡ after n v.seg.left v
  unfolding frame stepped
  frames-untimed zero v e = refl
  frames-untimed (suc n) v e =
      let f : frame t v ≡ after 1 v.seg.left v = rw (eq-eqb v.seg.left untimed e) in
      ap (frames n t) f ∙ frames-untimed n (after 1 v.seg.left v) e

  -- Fewer frames than are left.
  pub frames-inside : (n : ℕ) (v : Voice) → n < v.seg.left → v.seg.left < untimed → frames n t v ≡ after n (v.seg.left - n) v
  unfolding frame stepped
  frames-inside zero v h b = rw sub-zero
  frames-inside (suc n) v h b =
      let w = after 1 (v.seg.left - 1) v in
      let f : frame t v ≡ w = rw (ne_eqb v.seg.left untimed (λ i. omega arith), ne_eqb (v.seg.left - 1) 0 (λ i. omega arith)) in
      let e : v.seg.left - 1 - n ≡ v.seg.left - suc n = omega arith in
      ap (frames n t) f ∙ frames-inside n w (omega arith) (omega arith) ∙ ap (λ (x : ℕ). after (suc n) x v) e

  -- The last sample of a segment. A timed left of 0, which no sound voice has, is taken for 1.
  pub frame-last : (v : Voice) → v.seg.left ≤ 1 → frame t v ≡ advance t v.lane
  unfolding frame
  frame-last v h = rw (ne_eqb v.seg.left untimed (λ i. omega arith), eq-eqb (v.seg.left - 1) 0 (omega arith))

  -- As many frames as are left.
  pub frames_end : (v : Voice) → 1 ≤ v.seg.left → v.seg.left < untimed → frames v.seg.left t v ≡ advance t v.lane
  frames_end v a b =
      let n = v.seg.left - 1 in
      let e : v.seg.left ≡ n + 1 = omega arith in
      ap (λ (x : ℕ). frames x t v) e ∙ frames-add n 1 v ∙ ap (frame t) (frames-inside n v (omega arith) b)
      ∙ frame-last (after n (v.seg.left - n) v) (omega arith)
