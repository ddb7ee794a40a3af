-- From the invariant of `draw_frames` after all frames to the statements of `process` and `process_bytes`: the output holds the definition's rows, as
-- floats (`floats-shown`) or as bytes with what is past them kept (`bytes-shown`), and the bank is the definition's after as many frames
-- (`passed-bank`). Outputs are compared place by place: place j lies in row j / stride, at j % stride. A refused call leaves both as they were.
use mathlib.Core.Path.{◌≡◌, refl, sym, ap, ◌∙◌, subst}
use mathlib.Core.Bool.{cond}
use mathlib.Core.List.{List, ◌++◌}
use mathlib.Core.Logic.{◌⊎◌, inl, inr, ◌≢◌}
use Prim.Native.Nat.{ℕ, ◌+◌, ◌*◌, ◌-◌, ◌/◌, ◌%◌, ◌<◌, ◌≤◌}
use native.Mathlib.Omega.{arith}
use native.Mathlib.Nat.{div-add-mod', mod-lt, div-lt_iff_lt-mul}
use borrow.Author.Tests.{lt-ltb, le-ltb, eq-eqb, ne_eqb}
use lib.Dec.{ltb}
use lib.Ieee.{Float, nan}
use lib.ListN.{length, get_or, drop, length-append, length-drop, get_or-append}
use lib.Seq.{ext_get_or, get_or-append-add, get_or-drop}
use Rattle.numbers.specs.Constants as Constants
use Rattle.timing.specs.declared.Timing.{Timing}
use Rattle.curve.specs.Segments as Segments
use Rattle.lane.specs.declared.lanes.Voice.{Voice}
use Rattle.lane.specs.Voices as Voices
use Rattle.filled.proofs.Filling.{split}
use Rattle.memory.specs.declared.arrays.Arrays.{Arrays}
use Rattle.memory.specs.Memory.{count_of, timing_at, voice_at}
use Rattle.memory.proofs.Storing.{same_self}
use Rattle.rows.specs.Strides.{groups_of, stride_of}
use Rattle.rows.specs.Rows.{float_cell, byte_cell}
use Rattle.rows.specs.Places.{byte_by_levels}
use Rattle.rows.proofs.RowsDrawn.{row_fits}
use Rattle.bank.specs.Calls.{Call, refusal}
use Rattle.bank.specs.Banks.{Bank, bank_of, size, voice, frames, rows, after_accepted, answer, written, bytes, bytes_refusal, written_bytes, after_bytes}
use Rattle.bank.specs.Lent.{Processed}
use Rattle.bank.specs.Frames.{with_floats, Ran, lane_at, Shown, Played}
use Rattle.bank.proofs.Frames.{voice-frames, length-rows, rows_at}
use Rattle.bank.proofs.Bytes.{length-bytes, bytes-at}
use Rattle.bank.proofs.Representation.{size_of, voice_of_lem, timing_of_lem}
use Rattle.bank.proofs.Drawing.{cleared_few, cleared_bank, cleared_processed, ran-bank}

-- A bank of n voices, and the N frames that were shown.
module _ (m₀ : Arrays) (n N : ℕ) (n-is : n ≡ count_of m₀.codes) where
  abbrev b : Bank
  b = bank_of m₀

  abbrev t : Timing
  t = timing_at m₀.bends

  pub sized : size b ≡ n
  sized = size_of m₀ ∙ sym n-is

  -- A voice after k frames.
  voice_after : (k i : ℕ) → i < n → voice (frames k b) i ≡ Voices.frames k t (voice_at m₀ i)
  voice_after k i h =
      voice-frames k b i (omega (arith, h, sized))
      ∙ ap (λ (x : Voice). Voices.frames k b.timing x) (voice_of_lem m₀ i (omega (arith, h, n-is)))
      ∙ ap (λ (t : Timing). Voices.frames k t (voice_at m₀ i)) (timing_of_lem m₀)

  rows-lane : (k i : ℕ) → k < N → i < stride_of n
      → get_or (rows N b) (k * stride_of n + i) nan ≡ cond (ltb i n) (Segments.level (voice (frames k b) i).seg) Constants.zero
  rows-lane k i p q =
      subst (λ (n : ℕ). i < stride_of n → get_or (rows N b) (k * stride_of n + i) nan ≡ cond (ltb i n) (Segments.level (voice (frames k b) i).seg) Constants.zero) sized
      (rows_at N b k i p) q

  -- Lane i of row k is the definition's.
  lane-rows : (k i : ℕ) → k < N → i < stride_of n → lane_at n t m₀ k i ≡ get_or (rows N b) (k * stride_of n + i) nan
  lane-rows k i p q = go (split i n) ∙ sym (rows-lane k i p q)
    where
      go : (i < n) ⊎ (n ≤ i) → lane_at n t m₀ k i ≡ cond (ltb i n) (Segments.level (voice (frames k b) i).seg) Constants.zero
      go (inl h) = rw (lt-ltb i n h) (ap (λ (x : Voice). Segments.level x.seg) (sym (voice_after k i h)))
      go (inr h) = rw (le-ltb i n h)

  long : length (rows N b) ≡ N * stride_of n
  long = length-rows N b ∙ ap (λ (n : ℕ). N * stride_of n) sized

  pub floats-shown : (o₀ o : List Float) → Shown nan 16 float_cell (groups_of n) (lane_at n t m₀) N o₀ o → length o₀ ≡ N * stride_of n → o ≡ rows N b
  floats-shown o₀ o H l =
      ext_get_or nan o (rows N b) (H.long ∙ l ∙ sym long)
      (λ j h.
      let s = stride_of n in
      let pos : 0 < s = omega arith in
      let e : j / s * s + j % s ≡ j = div-add-mod' j s in
      let k : j / s < N = (div-lt_iff_lt-mul pos).1 (omega (arith, h, H.long, l)) in
      let r : j % s < s = mod-lt j pos in
      subst (λ (j : ℕ). get_or o j nan ≡ get_or (rows N b) j nan) e (H.levels (j / s) (j % s) k r ∙ lane-rows (j / s) (j % s) k r))

  abbrev bs : List ℕ
  bs = bytes (rows N b)

  long-bytes : length bs ≡ N * (64 * groups_of n)
  long-bytes =
      let e : 4 * (N * (16 * groups_of n)) ≡ N * (64 * groups_of n) = omega arith in
      length-bytes (rows N b) ∙ ap (λ (n : ℕ). 4 * n) long ∙ e

  module _ (o₀ o : List ℕ) (H : Shown 0 64 byte_cell (groups_of n) (lane_at n t m₀) N o₀ o) where
    -- Byte j of the rows.
    within : (j : ℕ) → j < N * (64 * groups_of n) → get_or o j 0 ≡ get_or bs j 0
    within j h =
        let w = 64 * groups_of n in
        let k = j / w in
        let c = j % w in
        let pos : 0 < w = omega arith in
        let e : k * w + c ≡ j = div-add-mod' j w in
        let r : k < N = (div-lt_iff_lt-mul pos).1 h in
        let d : c < w = mod-lt j pos in
        let q = k * (16 * groups_of n) + c / 4 in
        let i : 4 * q + c % 4 ≡ k * w + c = omega arith in
        let z : q < length (rows N b) = omega (arith, long, d, row_fits k N (16 * groups_of n) r) in
        subst (λ (j : ℕ). get_or o j 0 ≡ get_or bs j 0) e
        (H.levels k c r d
        ∙ byte_by_levels (groups_of n) _ _ (λ i p. lane-rows k i r p) c d
        ∙ sym (bytes-at (rows N b) q (c % 4) z (omega arith))
        ∙ ap (λ (n : ℕ). get_or bs n 0) i)

    pub bytes-shown : N * (64 * groups_of n) ≤ length o₀ → o ≡ bs ++ drop (length bs) o₀
    bytes-shown l =
        ext_get_or 0 o (bs ++ drop (length bs) o₀)
        (H.long ∙ sym (length-append bs (drop (length bs) o₀) ∙ omega (arith, length-drop (length bs) o₀, long-bytes, l)))
        (λ j h. go j (split j (N * (64 * groups_of n))))
      where
        go : (j : ℕ) → (j < N * (64 * groups_of n)) ⊎ (N * (64 * groups_of n) ≤ j) → get_or o j 0 ≡ get_or (bs ++ drop (length bs) o₀) j 0
        go j (inl h) = within j h ∙ sym (get_or-append bs (drop (length bs) o₀) 0 j (omega (arith, h, long-bytes)))
        go j (inr h) =
            let e : length bs + (j - length bs) ≡ j = omega (arith, h, long-bytes) in
            H.past j h
            ∙ ap (λ (i : ℕ). get_or o₀ i 0) (sym e)
            ∙ sym (get_or-drop (length bs) o₀ (j - length bs) 0)
            ∙ sym (get_or-append-add bs (drop (length bs) o₀) (j - length bs) 0)
            ∙ ap (λ (i : ℕ). get_or (bs ++ drop (length bs) o₀) i 0) e

  -- The bank, and the numbers that it does not read.
  module _ (m : Arrays) (R : Ran n t m₀ N m) where
    pub passed-bank : bank_of m ≡ frames N b
    passed-bank = ran-bank n t m₀ N m n-is refl R

    pub passed-kept : Processed 0 m₀ m
    passed-kept =
        record {
          refused = λ d. absurd (d refl);
          spare = λ _ w p q. R.spare w (omega (arith, p, n-is)) (subst (λ (n : ℕ). w < stride_of n) (sym n-is) q);
          beside = λ w p q. R.beside w (subst (λ (n : ℕ). stride_of n ≤ w) (sym n-is) p) q;
        }

-- ---- what the calls answer

kept_whole : (r : ℕ) (m : Arrays) → r ≢ 0 → Processed r m m
kept_whole r m d = record { refused = λ d. refl; spare = λ e. absurd (d e); beside = λ w p q. same_self w m }

-- What `process` says.
abbrev pub Answers : ℕ → Arrays → Arrays → List Float → List Float → Type 0
Answers r m₀ m o₀ o =
    (r ≡ (answer (bank_of m₀) (Call.process (length o₀))).refusal)
    × ((bank_of m ≡ (answer (bank_of m₀) (Call.process (length o₀))).bank) × ((o ≡ written (bank_of m₀) o₀) × Processed r m₀ m))

module _ (m₀ : Arrays) (o₀ : List Float) (n stride : ℕ) (n-is : n ≡ count_of m₀.codes) (stride-is : stride ≡ stride_of n) where
  abbrev s : ℕ
  s = stride_of (size (bank_of m₀))

  same : stride ≡ s
  same = stride-is ∙ ap stride_of (sym (sized m₀ n 0 n-is))

  pub process-refused : length o₀ % stride ≢ 0 → Answers 5 m₀ m₀ o₀ o₀
  unfolding answer refusal written
  process-refused d =
      let e : length o₀ % s ≡ 0 → ⊥ = λ z. d (ap (λ (k : ℕ). length o₀ % k) same ∙ z) in
      rw (ne_eqb (length o₀ % s) 0 e) (refl, (refl, (refl, kept_whole 5 m₀ (λ z. absurd (omega arith)))))

  -- The spare lanes were cleared, then all frames passed.
  pub process-done : (m : Arrays) (o : List Float) → length o₀ % stride ≡ 0 → Played nan 16 float_cell n (length o₀ / stride) m₀ o₀ m o → Answers 0 m₀ m o₀ o
  unfolding answer refusal written after_accepted
  process-done m o z P =
      let f' = P.floats in
      let C = P.cleared in
      let G = P.going in
      let few : n ≤ 64 = omega (arith, n-is) in
      let D = cleared_few n few m₀.floats f' C in
      let e : length o₀ % s ≡ 0 = ap (λ (k : ℕ). length o₀ % k) (sym same) ∙ z in
      let N = length o₀ / stride in
      let l : length o₀ ≡ N * stride_of n = omega (arith, z, ap (λ (k : ℕ). N * k) stride-is, div-add-mod' (length o₀) stride) in
      let f : N ≡ length o₀ / s = ap (λ (k : ℕ). length o₀ / k) same in
      let q = cleared_bank n few m₀ f' D n-is in
      let m₁ = with_floats f' m₀ in
      rw (eq-eqb (length o₀ % s) 0 e) (
        refl,
        (
          passed-bank m₁ n N n-is m G.ran ∙ ap (frames N) q ∙ ap (λ (k : ℕ). frames k (bank_of m₀)) f,
          (
            floats-shown m₁ n N n-is o₀ o G.shown l ∙ ap (rows N) q ∙ ap (λ (k : ℕ). rows k (bank_of m₀)) f,
            cleared_processed n few m₀ f' D n-is m (passed-kept m₁ n N n-is m G.ran),
          ),
        ),
      )

-- What `process_bytes` says.
abbrev pub AnswersBytes : ℕ → Arrays → Arrays → ℕ → List ℕ → List ℕ → Type 0
AnswersBytes r m₀ m N o₀ o =
    (r ≡ bytes_refusal (bank_of m₀) N (length o₀))
    × ((bank_of m ≡ after_bytes (bank_of m₀) N (length o₀)) × ((o ≡ written_bytes (bank_of m₀) N o₀) × Processed r m₀ m))

module _ (m₀ : Arrays) (o₀ : List ℕ) (n N : ℕ) (n-is : n ≡ count_of m₀.codes) where
  stride-same : stride_of (size (bank_of m₀)) ≡ stride_of n
  stride-same = ap stride_of (sized m₀ n 0 n-is)

  pub bytes-refused : length o₀ / (64 * groups_of n) < N → AnswersBytes 11 m₀ m₀ N o₀ o₀
  unfolding bytes_refusal after_bytes written_bytes
  bytes-refused h =
      let e : length o₀ / 4 < N * stride_of (size (bank_of m₀)) = subst (λ (s : ℕ). length o₀ / 4 < N * s) (sym stride-same) (omega (arith, h, less)) in
      rw (lt-ltb (length o₀ / 4) (N * stride_of (size (bank_of m₀))) e) (refl, (refl, (refl, kept_whole 11 m₀ (λ z. absurd (omega arith)))))
    where
      pos : 0 < 64 * groups_of n
      pos = omega arith

      less : length o₀ < N * (64 * groups_of n)
      less = (div-lt_iff_lt-mul pos).0 h

  pub bytes-done : (m : Arrays) (o : List ℕ) → N * (64 * groups_of n) ≤ length o₀ → Played 0 64 byte_cell n N m₀ o₀ m o → AnswersBytes 0 m₀ m N o₀ o
  unfolding bytes_refusal after_bytes written_bytes
  bytes-done m o l P =
      let f' = P.floats in
      let C = P.cleared in
      let G = P.going in
      let few : n ≤ 64 = omega (arith, n-is) in
      let D = cleared_few n few m₀.floats f' C in
      let k : 4 * (N * stride_of n) ≡ N * (64 * groups_of n) = omega arith in
      let e : N * stride_of (size (bank_of m₀)) ≤ length o₀ / 4 = subst (λ (s : ℕ). N * s ≤ length o₀ / 4) (sym stride-same) (omega (arith, l, k)) in
      let q = cleared_bank n few m₀ f' D n-is in
      let m₁ = with_floats f' m₀ in
      rw (le-ltb (length o₀ / 4) (N * stride_of (size (bank_of m₀))) e) (
        refl,
        (
          passed-bank m₁ n N n-is m G.ran ∙ ap (frames N) q,
          (
            bytes-shown m₁ n N n-is o₀ o G.shown l ∙ ap (λ (b : Bank). bytes (rows N b) ++ drop (length (bytes (rows N b))) o₀) q,
            cleared_processed n few m₀ f' D n-is m (passed-kept m₁ n N n-is m G.ran),
          ),
        ),
      )
