-- The invariant of `draw_frames` (`Going`), and that a run keeps it. `Ran` is a simulation relation between the arrays and the definition: after
-- `done` frames each voice in the arrays is the definition's, the spare lanes are silent, and every other number is as it was. `Shown`: the first
-- `done` rows of the output, in floats or in bytes, hold the levels of those frames, and what is past them is as it was. Both hold before the first
-- frame, once the spare lanes are cleared (`going_none`). A run keeps them (`going_more`, the step lemma): it passes the end of no segment, so that a
-- lane drawn in it has the levels of frame after frame (`lane-drawn`), and drawing, counting down and following together are that many frames of each
-- voice (`run-whole`). After all frames the bank is the definition's (`ran-bank`).
use mathlib.Core.Path.{◌≡◌, refl, sym, ap, ◌∙◌, subst}
use mathlib.Core.List.{List, [], ◌∷◌, ◌++◌}
use mathlib.Core.Logic.{◌⊎◌, inl, inr}
use Prim.Native.Nat.{ℕ, zero, suc, ◌+◌, ◌*◌, ◌-◌, ◌<◌, ◌≤◌, min}
use native.Mathlib.Omega.{arith}
use native.Mathlib.Nat.{add-mul}
use borrow.Author.Tests.{lt-ltb, le-ltb}
use borrow.Rule.Slice.PartMut.{mid_of, put_mid}
use lib.Ieee.{Float, nan}
use lib.ListN.{length, get_or, take, length-append, length-drop}
use lib.Seq.{get_or-drop, length-take-le}
use Rattle.timing.specs.declared.Timing.{Timing}
use Rattle.curve.specs.Segments as Segments
use Rattle.curve.specs.Segments.{u_after}
use Rattle.lane.specs.declared.lanes.Voice.{Voice}
use Rattle.lane.proofs.Frames.{frames-add}
use Rattle.lane.specs.Voices as Voices
use Rattle.filled.specs.Filled.{Filled}
use Rattle.filled.proofs.Filling.{split}
use Rattle.filled.proofs.Tables.{tabulate_ext}
use Rattle.envelope.specs.Parts.{level_after}
use Rattle.envelope.proofs.Runs.{level_at, level-within}
use Rattle.memory.specs.Spaced.{place}
use Rattle.memory.specs.declared.arrays.Arrays.{Arrays}
use Rattle.memory.specs.Memory.{count_of, timing_at, columns_at, floats_at, u_at, r_at, d_at, scale_at, base_at, left_at, bends_at, counts_at, codes_at, voice_of, voice_at, Same}
use Rattle.memory.proofs.Storing.{voice-same, same_self, same_trans}
use Rattle.rows.specs.Strides.{groups_of, stride_of}
use Rattle.rows.specs.Rows.{u_after_rows, drawn_at, fitting, Cleared, Drawn}
use Rattle.rows.specs.Runs.{until_end, Counts}
use Rattle.rows.proofs.Lent.{part_before, part_at, rest-lent, rest_back}
use Rattle.rows.specs.Places.{ByLevels}
use Rattle.rows.proofs.RowsDrawn.{row_fits, run_fits}
use Rattle.rows.proofs.SpareLanes.{silent-level, silent-drawn}
use Rattle.rows.proofs.WithinRuns.{until_end_some, until_end_inside}
use Rattle.bank.specs.Banks.{bank_of, frames}
use Rattle.bank.specs.Lent.{Silenced, Processed}
use Rattle.bank.specs.Frames.{Ran, with_floats, lane_at, Shown, Going}
use Rattle.bank.specs.Parts.{passed, Spread}
use Rattle.bank.proofs.Frames.{frames-size, frames-timing, voice-frames}
use Rattle.bank.proofs.Representation.{size_of, voice_of_lem, timing_of_lem, represents}
use Rattle.bank.proofs.Runs.{run-whole, left_of}

-- ---- the arrays

-- Those of a voice's record are kept where every number past the columns is.
records_kept : (f f' : List Float) → ((i : ℕ) → 340 ≤ i → get_or f' i nan ≡ get_or f i nan) → (w : ℕ) → floats_at f' w ≡ floats_at f w
records_kept f f' e w = tabulate_ext 14 _ _ (λ j h. go j)
  where
    go : (j : ℕ) → get_or f' (place 1 (340 + 14 * w) j) nan ≡ get_or f (place 1 (340 + 14 * w) j) nan
    go zero = e (340 + 14 * w) (omega arith)
    go (suc j) = e (340 + 14 * w + 1 * suc j) (omega arith)

-- A lane's columns are kept where each of its numbers is.
columns-kept : (f f' : List Float) (w : ℕ) → ((j : ℕ) → j < 5 → get_or f' (w + 68 * j) nan ≡ get_or f (w + 68 * j) nan) → columns_at f' w ≡ columns_at f w
columns-kept f f' w e = tabulate_ext 5 _ _ (λ j h. go j h)
  where
    go : (j : ℕ) → j < 5 → get_or f' (place 68 w j) nan ≡ get_or f (place 68 w j) nan
    go zero h =
        let z : w + 68 * 0 ≡ w = omega arith in
        subst (λ (i : ℕ). get_or f' i nan ≡ get_or f i nan) z (e 0 h)
    go (suc j) h = e (suc j) h

-- Before the first frame: the spare lanes are cleared.
module _ (n : ℕ) (few : n ≤ 64) (m : Arrays) (f' : List Float) (C : Cleared n (stride_of n) m.floats f') where
  past : (i : ℕ) → 340 ≤ i → get_or f' i nan ≡ get_or m.floats i nan
  past i h = C.kept i (λ j w p a b e. omega (arith, few, h, p, b, e))

  same : (w : ℕ) → w < 68 → (w < n) ⊎ (stride_of n ≤ w) → Same w m (with_floats f' m)
  same w h x =
      record {
        columns = columns-kept m.floats f' w (λ j p. C.kept (w + 68 * j) (λ i v q a b e. apart x j i v p q a b e));
        left = refl;
        floats = records_kept m.floats f' past w;
        bends = refl;
        counts = refl;
        codes = refl;
      }
    where
      apart : (w < n) ⊎ (stride_of n ≤ w) → (j i v : ℕ) → j < 5 → i < 5 → n ≤ v → v < stride_of n → w + 68 * j ≡ v + 68 * i → ⊥
      apart (inl y) j i v p q a b e = omega (arith, few, h, y, p, q, a, b, e)
      apart (inr y) j i v p q a b e = omega (arith, few, h, y, p, q, a, b, e)

  pub ran-none : (t : Timing) → Ran n t (with_floats f' m) 0 (with_floats f' m)
  ran-none t =
      record {
        voice = λ v h. refl;
        spare = λ w a b. record { columns = C.spare w a b; left = refl; floats = refl; bends = refl; counts = refl; codes = refl };
        beside = λ w a b. same_self w (with_floats f' m);
        voices = refl;
        timing = refl;
      }

  -- The bank does not read them.
  pub cleared_bank : n ≡ count_of m.codes → bank_of (with_floats f' m) ≡ bank_of m
  cleared_bank e =
      represents (with_floats f' m) (bank_of m) (sym (timing_of_lem m)) (sym (size_of m))
      (λ v h. voice-same v m (with_floats f' m) (same v (omega (arith, h, e, few)) (inl (omega (arith, h, e)))) ∙ sym (voice_of_lem m v h))

  pub cleared_processed : n ≡ count_of m.codes → (m' : Arrays) → Processed 0 (with_floats f' m) m' → Processed 0 m m'
  cleared_processed e m' P =
      record {
        refused = λ d. absurd (d refl);
        spare = λ _ w a b.
            let q = P.spare refl w a b in
            record {
              columns = q.columns;
              left = q.left;
              floats = q.floats ∙ records_kept m.floats f' past w;
              bends = q.bends;
              counts = q.counts;
              codes = q.codes;
            };
        beside = λ w a b. same_trans w m (with_floats f' m) m' (same w b (inr (subst (λ (n : ℕ). stride_of n ≤ w) (sym e) a))) (P.beside w a b);
      }

-- A run is drawn: every lane of the groups has moved on.
module _ (n run : ℕ) (few : n ≤ 64) (m : Arrays) (f' : List Float) (F : Filled nan (u_after_rows run m.floats) 0 (stride_of n) m.floats f') where
  drawn-past : (i : ℕ) → 68 ≤ i → get_or f' i nan ≡ get_or m.floats i nan
  drawn-past i h = F.after i (omega (arith, few, h))

  -- The voice v after it.
  abbrev moved_on : Voice → Voice
  moved_on x =
      record {
        lane = x.lane;
        seg =
            record {
              u = u_after run x.seg.u x.seg.r x.seg.d;
              r = x.seg.r;
              d = x.seg.d;
              scale = x.seg.scale;
              base = x.seg.base;
              left = x.seg.left;
            };
      }

  drawn-voice : (v : ℕ) → v < n → voice_at (with_floats f' m) v ≡ moved_on (voice_at m v)
  unfolding voice_at
  drawn-voice v h =
      let a : u_at f' v ≡ u_after_rows run m.floats v = F.inside v (omega arith) (omega (arith, h)) in
      let b : r_at f' v ≡ r_at m.floats v = drawn-past (v + 68) (omega arith) in
      let c : d_at f' v ≡ d_at m.floats v = drawn-past (v + 136) (omega arith) in
      let d : scale_at f' v ≡ scale_at m.floats v = drawn-past (v + 204) (omega arith) in
      let e : base_at f' v ≡ base_at m.floats v = drawn-past (v + 272) (omega arith) in
      let g : floats_at f' v ≡ floats_at m.floats v = records_kept m.floats f' (λ i p. drawn-past i (omega (arith, p))) v in
      let h : columns_at f' v ≡ (u_after_rows run m.floats v ∷ r_at m.floats v ∷ d_at m.floats v ∷ scale_at m.floats v ∷ base_at m.floats v ∷ []) = cc in
      let made : List Float → List Float → Voice = λ fs ss. voice_of fs ss (bends_at m.bends v) (counts_at m.counts v) (codes_at m.codes v) (left_at m.codes v) in
      ap (λ (fs : List Float). made fs (columns_at f' v)) g ∙ ap (made (floats_at m.floats v)) h

  drawn-beside : (w : ℕ) → stride_of n ≤ w → w < 68 → Same w m (with_floats f' m)
  drawn-beside w h l =
      record {
        columns = columns-kept m.floats f' w (λ j p. F.after (w + 68 * j) (omega (arith, h)));
        left = refl;
        floats = records_kept m.floats f' (λ i p. drawn-past i (omega (arith, p))) w;
        bends = refl;
        counts = refl;
        codes = refl;
      }

  -- And passed.
  module _ (t : Timing) (m₀ m₂ : Arrays) (done : ℕ) (R : Ran n t m₀ done m) (some : 1 ≤ run) (C : Counts n m.codes)
      (within : run ≤ until_end n m.codes) (S : Spread (passed t run) n (with_floats f' m) m₂) where
    voice-next : (v : ℕ) → v < n → voice_at m₂ v ≡ Voices.frames (done + run) t (voice_at m₀ v)
    voice-next v h =
        let x = voice_at m v in
        let inside : Segments.Inside run x.seg.left = subst (Segments.Inside run) (sym (left_of m v)) (until_end_inside n m.codes v run h C within) in
        S.below v h
        ∙ ap (passed t run) (drawn-voice v h)
        ∙ sym (run-whole t x run some inside)
        ∙ ap (Voices.frames run t) (R.voice v h)
        ∙ sym (frames-add t done run (voice_at m₀ v))

    spare-next : (w : ℕ) → n ≤ w → w < stride_of n → Silenced w m₀ m₂
    spare-next w a b =
        let s = R.spare w a b in
        let q = S.above w a (omega (arith, b, few)) in
        record {
          columns = q.columns ∙ silent-drawn m.floats w s.columns (groups_of n) run f' (omega (arith, few)) b F;
          left = q.left ∙ s.left;
          floats = q.floats ∙ records_kept m.floats f' (λ i p. drawn-past i (omega (arith, p))) w ∙ s.floats;
          bends = q.bends ∙ s.bends;
          counts = q.counts ∙ s.counts;
          codes = q.codes ∙ s.codes;
        }

    pub ran-more : Ran n t m₀ (done + run) m₂
    ran-more =
        record {
          voice = voice-next;
          spare = spare-next;
          beside = λ w a b.
              same_trans w m₀ m m₂ (R.beside w a b) (same_trans w m (with_floats f' m) m₂ (drawn-beside w a b) (S.above w (omega (arith, a)) b));
          voices = S.voices ∙ R.voices;
          timing = S.timing ∙ R.timing;
        }

-- The bank after all frames.
pub ran-bank : (n : ℕ) (t : Timing) (m₀ : Arrays) (done : ℕ) (m : Arrays) → n ≡ count_of m₀.codes → t ≡ timing_at m₀.bends → Ran n t m₀ done m
    → bank_of m ≡ frames done (bank_of m₀)
ran-bank n t m₀ done m e q R =
    let b = bank_of m₀ in
    let k : count_of m.codes ≡ count_of m₀.codes = ap (λ (v : ℕ). min v 64) R.voices in
    represents m (frames done b) (R.timing ∙ sym (frames-timing done b ∙ timing_of_lem m₀)) (k ∙ sym (frames-size done b ∙ size_of m₀))
    (λ v h.
    let i : v < count_of m₀.codes = omega (arith, h, k) in
    R.voice v (omega (arith, i, e))
    ∙ ap (λ (t : Timing). Voices.frames done t (voice_at m₀ v)) q
    ∙ sym (voice-frames done b v (omega (arith, i, size_of m₀)) ∙ ap (λ (x : Voice). Voices.frames done b.timing x) (voice_of_lem m₀ v i) ∙ ap (λ (t : Timing). Voices.frames done t (voice_at m₀ v)) (timing_of_lem m₀)))

-- ---- the output

drawn-is : (m : Arrays) (k i : ℕ) → drawn_at k m.floats i ≡ level_after (voice_at m i).seg k
unfolding voice_at
drawn-is m k i = refl

-- A lane that is drawn within a run.
pub lane-drawn : (n : ℕ) (t : Timing) (m₀ : Arrays) (done : ℕ) (m : Arrays) → Ran n t m₀ done m → Counts n m.codes → (run : ℕ)
    → run ≤ until_end n m.codes → (k i : ℕ) → k < run → i < stride_of n → drawn_at k m.floats i ≡ lane_at n t m₀ (done + k) i
lane-drawn n t m₀ done m R C run within k i h l = go (split i n)
  where
    go : (i < n) ⊎ (n ≤ i) → drawn_at k m.floats i ≡ lane_at n t m₀ (done + k) i
    go (inl p) =
        let x = voice_at m i in
        let inside : Segments.Inside run x.seg.left = subst (Segments.Inside run) (sym (left_of m i)) (until_end_inside n m.codes i run p C within) in
        rw (lt-ltb i n p)
        (drawn-is m k i ∙ level-within t x run k inside h ∙ ap (λ (x : Voice). level_at t x k) (R.voice i p)
        ∙ ap (λ (v : Voice). Segments.level v.seg) (sym (frames-add t done k (voice_at m₀ i))))
    go (inr p) = rw (le-ltb i n p) (silent-level m.floats i (R.spare i p l).columns k)

module _ {A : Type 0} (z : A) (wide : ℕ) (cell : (ℕ → Float) → ℕ → A) (by_levels : ByLevels wide cell) (groups : ℕ) (y : ℕ → ℕ → Float) where
  shown-none : (o : List A) → Shown z wide cell groups y 0 o o
  shown-none o = record { levels = λ k c p q. absurd (omega arith); past = λ j p. refl; long = refl }

  -- A run more: the output was lent from its first row on, and came back as p'.
  module _ (done run from : ℕ) (o₀ o p' : List A) (f f' : List Float) (H : Shown z wide cell groups y done o₀ o) (from_is : from ≡ done * (wide * groups)) (fits : from ≤ length o)
      (D : Drawn z wide cell groups run f (mid_of from (length o - from) o) p' f')
      (E : (k i : ℕ) → k < run → i < 16 * groups → drawn_at k f i ≡ y (done + k) i) where
    abbrev row : ℕ
    row = wide * groups

    abbrev back : List A
    back = take from o ++ p'

    level-at : (k c : ℕ) → k < done + run → c < row → (k < done) ⊎ (done ≤ k) → get_or back (k * row + c) z ≡ cell (y k) c
    level-at k c h q (inl p) = part_before z from o p' fits (k * row + c) (omega (arith, from_is, q, row_fits k done row p)) ∙ H.levels k c p q
    level-at k c h q (inr p) =
        let w : done + (k - done) ≡ k = omega (arith, p) in
        let e : from + ((k - done) * row + c) ≡ (done + (k - done)) * row + c = omega (arith, from_is, add-mul done (k - done) row) in
        subst (λ (k : ℕ). get_or back (k * row + c) z ≡ cell (y k) c) w
        (subst (λ (j : ℕ). get_or back j z ≡ cell (y (done + (k - done))) c) e
        (part_at z from o p' fits ((k - done) * row + c)
        ∙ D.levels (k - done) c (omega (arith, h, p)) q
        ∙ by_levels groups _ _ (λ i l. E (k - done) i (omega (arith, h, p)) l) c q))

    past-at : (j : ℕ) → (done + run) * row ≤ j → get_or back j z ≡ get_or o₀ j z
    past-at j h =
        let s : (done + run) * row ≡ done * row + run * row = add-mul done run row in
        let w : from + (j - from) ≡ j = omega (arith, from_is, h, s) in
        subst (λ (j : ℕ). get_or back j z ≡ get_or o₀ j z) w
        (part_at z from o p' fits (j - from)
        ∙ D.past (j - from) (omega (arith, from_is, h, s))
        ∙ ap (λ (l : List A). get_or l (j - from) z) (rest-lent from o)
        ∙ get_or-drop from o (j - from) z
        ∙ H.past (from + (j - from)) (omega (arith, from_is, h, s)))

    shown-more : Shown z wide cell groups y (done + run) o₀ (put_mid from (length o - from) o p')
    shown-more =
        subst (Shown z wide cell groups y (done + run) o₀) (sym (rest_back from o p'))
        (record {
          levels = λ k c h q. level-at k c h q (split k done);
          past = past-at;
          long =
              length-append (take from o) p'
              ∙ omega (arith, length-take-le from o fits, D.long, ap length (rest-lent from o), length-drop from o, fits, H.long);
        })

-- ---- both, run after run

pub cleared_few : (n : ℕ) → n ≤ 64 → (f f' : List Float) → Cleared (min n 64) (stride_of (min n 64)) f f' → Cleared n (stride_of n) f f'
cleared_few n few f f' C =
    let k : min n 64 ≡ n = omega (arith, few) in
    subst (λ (i : ℕ). Cleared i (stride_of i) f f') k C

-- What a run asks of the lanes before it: at least one frame, and none past a segment's end.
pub run-asked : (n rest end run : ℕ) (c : List ℕ) → n ≤ 64 → 1 ≤ rest → end ≡ until_end (min n 64) c → Counts (min n 64) c → run ≡ min rest end
    → (n ≤ 64) × (1 ≤ run) × (run ≤ end) × (end ≡ until_end n c) × Counts n c
run-asked n rest end run c few some e C r =
    let k : min n 64 ≡ n = omega (arith, few) in
    (few, omega (arith, some, r, e, until_end_some (min n 64) c), omega (arith, r), subst (λ (i : ℕ). end ≡ until_end i c) k e, subst (λ (i : ℕ). Counts i c) k C)

module _ {A : Type 0} (z : A) (wide : ℕ) (cell : (ℕ → Float) → ℕ → A) (by_levels : ByLevels wide cell) (n : ℕ) (few : n ≤ 64) (m₀ : Arrays) (o₀ : List A) where
  pub going_none : (f' : List Float) → Cleared (min n 64) (stride_of (min n 64)) m₀.floats f'
      → Going z wide cell n (with_floats f' m₀) o₀ 0 (with_floats f' m₀) o₀
  going_none f' C =
      let t = timing_at m₀.bends in
      record {
        ran = ran-none n few m₀ f' (cleared_few n few m₀.floats f' C) t;
        shown = shown-none z wide cell by_levels (groups_of n) (lane_at n t (with_floats f' m₀)) o₀;
      }

  -- A run more, of those that there is room for.
  pub going_more : (frames done end run from : ℕ) (m m₂ : Arrays) (o p' : List A) (f' : List Float) → Going z wide cell n m₀ o₀ done m o → done < frames
      → frames * (wide * groups_of n) ≤ length o₀ → end ≡ until_end (min n 64) m.codes → Counts (min n 64) m.codes → run ≡ min (frames - done) end
      → from ≡ done * (wide * groups_of n)
      → Drawn z wide cell (groups_of (min n 64)) (fitting run (wide * groups_of (min n 64)) (length (mid_of from (length o - from) o))) m.floats (mid_of from (length o - from) o) p' f'
      → Spread (passed (timing_at m.bends) run) n (with_floats f' m) m₂
      → Going z wide cell n m₀ o₀ (done + run) m₂ (put_mid from (length o - from) o p')
  going_more frames done end run from m m₂ o p' f' G h room e C r at D S =
      let t = timing_at m₀.bends in
      let k : min n 64 ≡ n = omega (arith, few) in
      let row = wide * groups_of n in
      let asked = run-asked n (frames - done) end run m.codes few (omega (arith, h)) e C r in
      let fits : from ≤ length o = omega (arith, at, room, G.shown.long, row_fits done frames row h) in
      let inside : run * row ≤ length (mid_of from (length o - from) o) =
      omega (arith, at, room, G.shown.long, run_fits done run frames row (omega (arith, r, h)), ap length (rest-lent from o), length-drop from o)
      in
      let D' : Drawn z wide cell (groups_of n) run m.floats (mid_of from (length o - from) o) p' f' =
      subst (λ (i : ℕ). Drawn z wide cell (groups_of n) i m.floats (mid_of from (length o - from) o) p' f')
      (all_fit run row (length (mid_of from (length o - from) o)) inside)
      (subst (λ (i : ℕ). Drawn z wide cell (groups_of i) (fitting run (wide * groups_of i) (length (mid_of from (length o - from) o))) m.floats (mid_of from (length o - from) o) p' f') k D)
      in
      let within : run ≤ until_end n m.codes = omega (arith, asked.2, asked.3) in
      record {
        ran =
            ran-more n run few m f' D'.moved t m₀ m₂ done G.ran asked.1 asked.4 within
            (subst (λ (t : Timing). Spread (passed t run) n (with_floats f' m) m₂) G.ran.timing S);
        shown =
            shown-more z wide cell by_levels (groups_of n) (lane_at n t m₀) done run from o₀ o p' m.floats f' G.shown at fits D'
            (λ k i p q. lane-drawn n t m₀ done m G.ran asked.4 run within k i p q);
      }
    where
      all_fit : (run row places : ℕ) → run * row ≤ places → fitting run row places ≡ run
      all_fit run row places h = rw (le-ltb places (run * row) h)
