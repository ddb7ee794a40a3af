-- Storing a voice: the arrays then hold it, and every other number is as before (the frame condition, `Same`). Each number of a voice has its place
-- and no two share one, which is linear arithmetic over the places; and each code is read back as what it stands for.
use mathlib.Core.Path.{◌≡◌, refl, sym, ap, ◌∙◌, subst}
use mathlib.Core.Bool.{Bool, true, false}
use mathlib.Core.List.{List, [], ◌∷◌}
use mathlib.Core.Logic.{◌≢◌}
use Prim.Native.Nat.{ℕ, ◌+◌, ◌*◌, ◌≤◌, ◌<◌}
use native.Mathlib.Omega.{arith}
use borrow.Author.Tests.{lt-ltb}
use lib.Ieee.{Float, nan}
use lib.ListN.{length, get_or, set}
use lib.Seq.{get_or-set_same, get_or-set_other}
use Rattle.timing.specs.declared.Timing.{Timing}
use Rattle.timing.specs.declared.TimeUnit.{TimeUnit}
use Rattle.timing.specs.declared.TimeUnit.TheVariants.{Milliseconds, Tempo}
use Rattle.settings.specs.declared.settings.StealRestart.{StealRestart}
use Rattle.settings.specs.declared.settings.StealRestart.TheVariants.{CurrentLevel, StartLevel}
use Rattle.settings.specs.declared.stages.Stage.{Stage}
use Rattle.settings.specs.declared.stages.Stage.TheVariants.{Idle, Delay, Attack, Hold, Decay, Sustain, Release}
use Rattle.lane.specs.declared.lanes.Voice.{Voice}
use Rattle.memory.specs.Spaced.{spaced, puts}
use Rattle.memory.specs.declared.arrays.Arrays.{Arrays}
use Rattle.memory.specs.Memory.{unit_of, unit_code, restart_of, restart_code, flag_of, flag_code, stage_of, stage_code}
use Rattle.memory.specs.Memory.{Sized, TimingPut, VoicesPut, bends_length, codes_length}
use Rattle.memory.specs.Memory.{params_of, lane_of, segment_of, voice_of, floats_of, codes_of, voice_at, if_room, Same, Stored}
use Rattle.memory.proofs.Spaced.{length-puts, puts-kept, spaced-stored, spaced-kept}

-- ---- codes are read back

unit-back : (u : TimeUnit) → unit_of (unit_code u) ≡ u
unit-back Milliseconds = refl
unit-back Tempo = refl

restart-back : (r : StealRestart) → restart_of (restart_code r) ≡ r
restart-back CurrentLevel = refl
restart-back StartLevel = refl

flag_back : (b : Bool) → flag_of (flag_code b) ≡ b
flag_back true = refl
flag_back false = refl

stage-back : (s : Stage) → stage_of (stage_code s) ≡ s
stage-back Idle = refl
stage-back Delay = refl
stage-back Attack = refl
stage-back Hold = refl
stage-back Decay = refl
stage-back Sustain = refl
stage-back Release = refl

-- ---- the numbers of a voice

abbrev pub floats_in : Voice → List Float
floats_in x = floats_of x.lane.params x.lane.spec x.lane.from x.lane.to

abbrev pub columns_in : Voice → List Float
columns_in x = x.seg.u ∷ x.seg.r ∷ x.seg.d ∷ x.seg.scale ∷ x.seg.base ∷ []

abbrev pub bends_in : Voice → List Float
bends_in x = x.lane.spec.k ∷ x.lane.k ∷ []

abbrev pub counts_in : Voice → List ℕ
counts_in x = x.lane.spec.total ∷ x.lane.curve_total ∷ x.lane.pos ∷ []

abbrev pub codes_in : Voice → List ℕ
codes_in x = codes_of x.lane

-- They make the voice.
voice-back : (x : Voice) → voice_of (floats_in x) (columns_in x) (bends_in x) (counts_in x) (codes_in x) x.seg.left ≡ x
voice-back x =
    let made : TimeUnit → Bool → StealRestart → Stage → Voice = λ u i r s.
    record { lane = lane_of (floats_in x) (bends_in x) (counts_in x) (codes_in x) (params_of (floats_in x) u i r) s; seg = segment_of (columns_in x) x.seg.left }
    in
    let p = x.lane.params in
    ap (λ (u : TimeUnit). made u (flag_of (flag_code p.legato_inverted)) (restart_of (restart_code p.steal_restart)) (stage_of (stage_code x.lane.stage))) (unit-back p.unit)
    ∙ ap (λ (i : Bool). made p.unit i (restart_of (restart_code p.steal_restart)) (stage_of (stage_code x.lane.stage))) (flag_back p.legato_inverted)
    ∙ ap (λ (r : StealRestart). made p.unit p.legato_inverted r (stage_of (stage_code x.lane.stage))) (restart-back p.steal_restart)
    ∙ ap (λ (s : Stage). made p.unit p.legato_inverted p.steal_restart s) (stage-back x.lane.stage)

-- A voice is its numbers.
voice-numbers : (fs ss ks : List Float) (ns cs : List ℕ) (m : ℕ) (fs' ss' ks' : List Float) (ns' cs' : List ℕ) (m' : ℕ)
    → fs ≡ fs' → ss ≡ ss' → ks ≡ ks' → ns ≡ ns' → cs ≡ cs' → m ≡ m' → voice_of fs ss ks ns cs m ≡ voice_of fs' ss' ks' ns' cs' m'
voice-numbers fs ss ks ns cs m fs' ss' ks' ns' cs' m' a b c d e g = cc

pub voice-same : (w : ℕ) (m m' : Arrays) → Same w m m' → voice_at m' w ≡ voice_at m w
unfolding voice_at
voice-same w m m' S = voice-numbers _ _ _ _ _ _ _ _ _ _ _ _ S.floats S.columns S.bends S.counts S.codes S.left

pub same_self : (w : ℕ) (m : Arrays) → Same w m m
same_self w m = record { columns = refl; left = refl; floats = refl; bends = refl; counts = refl; codes = refl }

pub same_trans : (w : ℕ) (a b c : Arrays) → Same w a b → Same w b c → Same w a c
same_trans w a b c p q =
    record {
      columns = q.columns ∙ p.columns;
      left = q.left ∙ p.left;
      floats = q.floats ∙ p.floats;
      bends = q.bends ∙ p.bends;
      counts = q.counts ∙ p.counts;
      codes = q.codes ∙ p.codes;
    }

-- Memory is its four arrays.
memory-same : (m m' : Arrays) → m.bends ≡ m'.bends → m.counts ≡ m'.counts → m.floats ≡ m'.floats → m.codes ≡ m'.codes → m ≡ m'
memory-same m m' a b c d =
    let made : List Float → List ℕ → List Float → List ℕ → Arrays = λ k n f c. record { bends = k; counts = n; floats = f; codes = c } in
    let e : made m.bends m.counts m.floats m.codes ≡ made m'.bends m'.counts m'.floats m'.codes = cc in
    e

-- ---- stored

-- The arrays after the numbers of x were stored for voice v.
abbrev storing : ℕ → Voice → Arrays → Arrays
storing v x m =
    record {
      bends = puts 1 m.bends (3 + 2 * v) (bends_in x);
      counts = puts 1 m.counts (3 * v) (counts_in x);
      floats = puts 68 (puts 1 m.floats (340 + 14 * v) (floats_in x)) v (columns_in x);
      codes = set (puts 1 m.codes (69 + 5 * v) (codes_in x)) v x.seg.left;
    }

module _ (m : Arrays) (v : ℕ) (x : Voice) (S : Sized m) (h : v < 64) where
  abbrev f : List Float
  f = m.floats

  abbrev c : List ℕ
  c = m.codes

  abbrev f₁ : List Float
  f₁ = puts 1 f (340 + 14 * v) (floats_in x)

  abbrev c₁ : List ℕ
  c₁ = puts 1 c (69 + 5 * v) (codes_in x)

  here : voice_at (storing v x m) v ≡ x
  unfolding voice_at
  here =
      voice-numbers _ _ _ _ _ _ _ _ _ _ _ _
      (spaced-kept nan 68 5 (columns_in x) f₁ v 1 (340 + 14 * v) 14 refl (λ j p a b e. omega arith)
      ∙ spaced-stored nan 1 14 (floats_in x) f (340 + 14 * v) refl (λ p q a e. omega arith) (λ q a. omega (arith, S.floats)))
      (spaced-stored nan 68 5 (columns_in x) f₁ v refl (λ p q a e. omega arith)
      (λ q a. rw (length-puts 1 0 (floats_in x) f (340 + 14 * v)) (omega (arith, S.floats))))
      (spaced-stored nan 1 2 (bends_in x) m.bends (3 + 2 * v) refl (λ p q a e. omega arith) (λ q a. omega (arith, S.bends)))
      (spaced-stored 0 1 3 (counts_in x) m.counts (3 * v) refl (λ p q a e. omega arith) (λ q a. omega (arith, S.counts)))
      (spaced-kept 0 68 1 (x.seg.left ∷ []) c₁ v 1 (69 + 5 * v) 5 refl (λ j p a b e. omega arith)
      ∙ spaced-stored 0 1 5 (codes_in x) c (69 + 5 * v) refl (λ p q a e. omega arith) (λ q a. omega (arith, S.codes)))
      (get_or-set_same c₁ v x.seg.left 0 (rw (length-puts 1 0 (codes_in x) c (69 + 5 * v)) (omega (arith, S.codes))))
      ∙ voice-back x

  there : (w : ℕ) → w < 68 → w ≢ v → Same w m (storing v x m)
  there w u ne =
      record {
        columns =
            spaced-kept nan 68 5 (columns_in x) f₁ v 68 w 5 refl (λ j p a b e. ne (omega arith))
            ∙ spaced-kept nan 1 14 (floats_in x) f (340 + 14 * v) 68 w 5 refl (λ j p a b e. omega arith);
        left = get_or-set_other c₁ v w x.seg.left 0 ne ∙ puts-kept 0 1 5 (codes_in x) c (69 + 5 * v) w refl (λ p a e. omega arith);
        floats =
            spaced-kept nan 68 5 (columns_in x) f₁ v 1 (340 + 14 * w) 14 refl (λ j p a b e. omega arith)
            ∙ spaced-kept nan 1 14 (floats_in x) f (340 + 14 * v) 1 (340 + 14 * w) 14 refl (λ j p a b e. ne (omega arith));
        bends = spaced-kept nan 1 2 (bends_in x) m.bends (3 + 2 * v) 1 (3 + 2 * w) 2 refl (λ j p a b e. ne (omega arith));
        counts = spaced-kept 0 1 3 (counts_in x) m.counts (3 * v) 1 (3 * w) 3 refl (λ j p a b e. ne (omega arith));
        codes =
            spaced-kept 0 68 1 (x.seg.left ∷ []) c₁ v 1 (69 + 5 * w) 5 refl (λ j p a b e. omega arith)
            ∙ spaced-kept 0 1 5 (codes_in x) c (69 + 5 * v) 1 (69 + 5 * w) 5 refl (λ j p a b e. ne (omega arith));
      }

  pub stored : Stored v x m (storing v x m)
  stored =
      record {
        here = λ h. here;
        there = there;
        none = λ g. absurd (omega arith);
        voices = get_or-set_other c₁ v 68 x.seg.left 0 (λ e. omega arith) ∙ puts-kept 0 1 5 (codes_in x) c (69 + 5 * v) 68 refl (λ p a e. omega arith);
        timing =
            let kept : (q : ℕ) → q < 3 → get_or (puts 1 m.bends (3 + 2 * v) (bends_in x)) q nan ≡ get_or m.bends q nan =
            λ q a. puts-kept nan 1 2 (bends_in x) m.bends (3 + 2 * v) q refl (λ p b e. omega arith)
            in
            let e₁ = kept 0 (omega arith) in
            let e₂ = kept 1 (omega arith) in
            let e₃ = kept 2 (omega arith) in
            cc;
      }

-- Nothing is stored.
pub none-stored : (m : Arrays) (v : ℕ) (x : Voice) → 64 ≤ v → Stored v x m m
none-stored m v x h =
    record { here = λ g. absurd (omega arith); there = λ w u ne. same_self w m; none = λ g. refl; voices = refl; timing = refl }

-- What the store functions leave, one after the other.
pub stored_by : (m m' : Arrays) (v : ℕ) (x : Voice) (f : List Float) (c : List ℕ)
    → f ≡ puts 1 m.floats (340 + 14 * v) (floats_in x) → m'.floats ≡ puts 68 f v (columns_in x) → m'.bends ≡ puts 1 m.bends (3 + 2 * v) (bends_in x)
    → m'.counts ≡ puts 1 m.counts (3 * v) (counts_in x) → c ≡ puts 1 m.codes (69 + 5 * v) (codes_in x) → m'.codes ≡ set c v x.seg.left
    → v < 64 → Sized m → Stored v x m m'
stored_by m m' v x f c e₁ e₂ e₃ e₄ e₅ e₆ h S =
    let e : storing v x m ≡ m' = memory-same _ _ (sym e₃) (sym e₄) (sym (e₂ ∙ ap (λ (l : List Float). puts 68 l v (columns_in x)) e₁)) (sym (e₆ ∙ ap (λ (l : List ℕ). set l v x.seg.left) e₅)) in
    subst (λ (m' : Arrays). Stored v x m m') e (stored m v x S h)

-- A voice that there is room for.
pub room : {A : Type 0} (v : ℕ) (x y : A) → v < 64 → if_room v x y ≡ x
room v x y h = rw (lt-ltb v 64 h)

-- The same voice by another name.
pub stored_as : (v : ℕ) (x y : Voice) (m m' : Arrays) → x ≡ y → Stored v x m m' → Stored v y m m'
stored_as v x y m m' e S = subst (λ (x : Voice). Stored v x m m') e S
