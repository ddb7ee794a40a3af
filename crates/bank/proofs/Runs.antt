-- A run that passes no segment's end is so many frames of each voice (`run-whole`): only u and `left` change within the segment, and where the run
-- reaches its end `advance` follows; by cases on whether the segment is timed and whether it ends. In the arrays a run is three changes of the first
-- n voices that keep every other number (`Spread`): the voices drawn, then counted down (`less_spread`), then followed where their segments ended.
-- `Following` is the invariant of the last of these: the voices before v have been followed, and v is the next that has ended.
use mathlib.Core.Path.{◌≡◌, refl, sym, ap, ◌∙◌, subst}
use mathlib.Core.Bool.{Bool, true, false, cond}
use mathlib.Core.List.{List}
use mathlib.Core.Logic.{◌⊎◌, inl, inr}
use Prim.Native.Nat.{ℕ, zero, suc, ◌+◌, ◌*◌, ◌-◌, ◌≤◌, ◌<◌, min}
use native.Mathlib.Omega.{arith}
use borrow.Author.Tests.{eq-eqb, ne_eqb, eqb-true, eqb-false}
use lib.Dec.{eqb}
use lib.ListN.{get_or}
use Rattle.timing.specs.declared.Timing.{Timing}
use Rattle.curve.specs.Segments.{untimed, Inside}
use Rattle.lane.specs.declared.lanes.Voice.{Voice}
use Rattle.lane.specs.Planning.{advance}
use Rattle.lane.specs.Voices as Voices
use Rattle.lane.proofs.Frames.{after, frames-untimed, frames-inside}
use Rattle.filled.specs.Filled.{Filled}
use Rattle.filled.proofs.Filling.{split}
use Rattle.filled.proofs.Tables.{tabulate_ext}
use Rattle.envelope.proofs.Runs.{run_ends}
use Rattle.memory.specs.declared.arrays.Arrays.{Arrays}
use Rattle.memory.specs.Memory.{left_at, codes_at, voice_at, loaded, Stored}
use Rattle.memory.specs.Spaced.{place}
use Rattle.memory.proofs.Storing.{room, same_trans}
use Rattle.rows.specs.Runs.{left_after, until_end, Counts, next_ended}
use Rattle.rows.proofs.WithinRuns.{NextEnded, next-ended, before_end, no_end}
use Rattle.bank.specs.Parts.{followed, lessened, passed, Spread}
use Rattle.bank.proofs.Representation.{spread_none, spread_more, spread_past}

-- ---- a voice

-- Its segment with so much left.
abbrev with_left : ℕ → Voice → Voice
with_left l x =
    record { lane = x.lane; seg = record { u = x.seg.u; r = x.seg.r; d = x.seg.d; scale = x.seg.scale; base = x.seg.base; left = l } }

-- After m frames in its segment, before anything follows it.
abbrev pub counted : ℕ → Voice → Voice
counted m x = after m (left_after x.seg.left m) x

pub followed-ended : (t : Timing) (x : Voice) → x.seg.left ≡ 0 → followed t x ≡ advance t x.lane
unfolding followed
followed-ended t x e = rw (eq-eqb x.seg.left 0 e)

pub followed_not : (t : Timing) (x : Voice) → (x.seg.left ≡ 0 → ⊥) → followed t x ≡ x
unfolding followed
followed_not t x e = rw (ne_eqb x.seg.left 0 e)

-- A run of at most as many frames as are left.
pub run-whole : (t : Timing) (x : Voice) (m : ℕ) → 1 ≤ m → Inside m x.seg.left → Voices.frames m t x ≡ followed t (counted m x)
unfolding left_after
run-whole t x m p h = go (eqb x.seg.left untimed) refl
  where
    left : ℕ
    left = x.seg.left

    timed : (left ≡ untimed → ⊥) → (m < left) ⊎ (left ≤ m) → Voices.frames m t x ≡ followed t (after m (left - m) x)
    timed d (inl q) =
        frames-inside t m x q (omega (arith, h.0, d)) ∙ sym (followed_not t (after m (left - m) x) (λ i. omega arith))
    timed d (inr q) =
        run_ends t x m (omega (arith, h.0, d)) p (h.1 d) q ∙ sym (followed-ended t (after m (left - m) x) (omega arith))

    go : (y : Bool) → eqb left untimed ≡ y → Voices.frames m t x ≡ followed t (after m (cond y untimed (left - m)) x)
    go true e =
        let u = eqb-true left untimed e in
        frames-untimed t m x u ∙ ap (λ (l : ℕ). after m l x) u ∙ sym (followed_not t (after m untimed x) (λ i. omega arith))
    go false e = timed (eqb-false left untimed e) (split m left)

-- ---- the arrays

pub left_of : (m : Arrays) (v : ℕ) → (voice_at m v).seg.left ≡ left_at m.codes v
unfolding voice_at
left_of m v = refl

-- Two changes of the first n voices, one after the other.
pub spread_then : (g h : Voice → Voice) (n : ℕ) (a b c : Arrays) → Spread g n a b → Spread h n b c → Spread (λ x. h (g x)) n a c
spread_then g h n a b c P Q =
    record {
      below = λ w i. Q.below w i ∙ ap h (P.below w i);
      above = λ w i j. same_trans w a b c (P.above w i j) (Q.above w i j);
      voices = Q.voices ∙ P.voices;
      timing = Q.timing ∙ P.timing;
    }

-- Another change that does the same to each of them.
pub spread_as : (g h : Voice → Voice) (n : ℕ) (a b : Arrays) → ((w : ℕ) → w < n → g (voice_at a w) ≡ h (voice_at a w)) → Spread g n a b → Spread h n a b
spread_as g h n a b e P = record { below = λ w i. P.below w i ∙ e w i; above = P.above; voices = P.voices; timing = P.timing }

module _ (n run : ℕ) (m : Arrays) (few : n ≤ 64) where
  -- The counts of the first n lanes go down.
  module _ (c' : List ℕ) (G : Filled 0 (λ v. left_after (left_at m.codes v) run) 0 (min n 64) m.codes c') where
    abbrev pub less : Arrays
    less = record { bends = m.bends; counts = m.counts; floats = m.floats; codes = c' }

    F : Filled 0 (λ v. left_after (left_at m.codes v) run) 0 n m.codes c'
    F =
        let e : min n 64 ≡ n = omega (arith, few) in
        subst (λ (n : ℕ). Filled 0 (λ v. left_after (left_at m.codes v) run) 0 n m.codes c') e G

    codes-kept : (w : ℕ) → codes_at c' w ≡ codes_at m.codes w
    codes-kept w = tabulate_ext 5 _ _ (λ j h. go j h)
      where
        go : (j : ℕ) → j < 5 → get_or c' (place 1 (69 + 5 * w) j) 0 ≡ get_or m.codes (place 1 (69 + 5 * w) j) 0
        go zero h = F.after (69 + 5 * w) (omega (arith, few))
        go (suc j) h = F.after (69 + 5 * w + 1 * suc j) (omega (arith, few))

    less-voice : (w : ℕ) → w < n → voice_at less w ≡ lessened run (voice_at m w)
    unfolding voice_at
    less-voice w h =
        let e : codes_at c' w ≡ codes_at m.codes w = codes-kept w in
        let l : left_at c' w ≡ left_after (left_at m.codes w) run = F.inside w (omega arith) h in
        cc

    pub less_spread : Spread (lessened run) n m less
    less_spread =
        record {
          below = less-voice;
          above = λ w i j. record { columns = refl; left = F.after w i; floats = refl; bends = refl; counts = refl; codes = codes-kept w };
          voices = F.after 68 (omega (arith, few));
          timing = refl;
        }

    -- None of them has ended.
    pub none-ended : (t : Timing) → 1 ≤ run → run < until_end n m.codes → Spread (passed t run) n m less
    none-ended t p h =
        spread_as (lessened run) (passed t run) n m less
        (λ w i.
        sym (followed_not t (lessened run (voice_at m w))
        (λ e. before_end n m.codes w run i p h (ap (λ (l : ℕ). left_after l run) (sym (left_of m w)) ∙ e))))
        less_spread

  -- Nothing is timed.
  pub none-timed : (t : Timing) → Counts n m.codes → until_end n m.codes ≡ untimed → Spread (passed t run) n m m
  none-timed t C e = spread_past (passed t run) m 0 n m (omega arith) few (λ w i j. same w j) (spread_none (passed t run) m)
    where
      alive : (w : ℕ) → w < n → (voice_at m w).seg.left ≡ 0 → ⊥
      alive w h z =
          before_end n m.codes w 1 h (omega arith) (omega (arith, e)) (no_end n m.codes w 1 h C e ∙ sym (left_of m w) ∙ z)

      kept : (w : ℕ) → w < n → lessened run (voice_at m w) ≡ voice_at m w
      kept w h =
          ap (λ (l : ℕ). with_left l (voice_at m w))
          (ap (λ (l : ℕ). left_after l run) (left_of m w) ∙ no_end n m.codes w run h C e ∙ sym (left_of m w))

      same : (w : ℕ) → w < n → passed t run (voice_at m w) ≡ voice_at m w
      same w h = ap (followed t) (kept w h) ∙ followed_not t (voice_at m w) (alive w h)

-- ---- what has ended is followed, voice after voice

-- The first v of n voices have been, and v is the next to be.
pub record Following (t : Timing) (n : ℕ) (m₀ : Arrays) (v : ℕ) (m : Arrays) : Type 0 where
  pub most : v ≤ n
  pub done : Spread (followed t) v m₀ m
  pub ended : v < n → left_at m.codes v ≡ 0

-- v is the next voice from a on that has ended.
pub found : (n a v : ℕ) (c : List ℕ) → n ≤ 64 → a ≤ n → v ≡ next_ended (min n 64 - a) c a → NextEnded c n a v
found n a v c few h e =
    let k : min n 64 - a ≡ n - a = omega (arith, few) in
    subst (NextEnded c n a) (sym (e ∙ ap (λ (i : ℕ). next_ended i c a) k)) (next-ended n c a h)

module _ (t : Timing) (n : ℕ) (m₀ : Arrays) (few : n ≤ 64) where
  pub next-found : (a v : ℕ) (m : Arrays) → a ≤ n → v ≡ next_ended (min n 64 - a) m.codes a → Spread (followed t) a m₀ m → Following t n m₀ v m
  next-found a v m h e P =
      let N = found n a v m.codes few h e in
      record {
        most = N.high;
        done =
            spread_past (followed t) m₀ a v m N.low (omega (arith, N.high, few))
            (λ w i j. followed_not t (voice_at m w) (λ e. N.passed w i j (sym (left_of m w) ∙ e))) P;
        ended = N.ended;
      }

  pub next-followed : (v : ℕ) (m m' : Arrays) → v < n → Following t n m₀ v m → Stored v (advance t (loaded m v).lane) m m' → Spread (followed t) (v + 1) m₀ m'
  next-followed v m m' h F S =
      let few-v : v < 64 = omega (arith, h, few) in
      let r : loaded m v ≡ voice_at m v = room v (voice_at m v) _ few-v in
      let e : advance t (loaded m v).lane ≡ followed t (loaded m v) =
      ap (λ (x : Voice). advance t x.lane) r ∙ sym (followed-ended t (voice_at m v) (left_of m v ∙ F.ended h)) ∙ ap (followed t) (sym r)
      in
      spread_more (followed t) m₀ v _ m m' few-v e F.done S
