-- `draw_frames`: the invariant holds once the spare lanes are cleared (`going_none`), and a run keeps it (`going_more`), since it lies within the
-- output and within every segment. A run has at least one frame (`run_of`), so that fewer are left each time; when none is left, the invariant is the
-- statement.
use mathlib.Core.Path.{◌≡◌, sym, ap, ◌∙◌, subst}
use Prim.Native.Nat.{ℕ, ◌+◌, ◌*◌, ◌≤◌, min}
use native.Mathlib.Omega.{arith}
use borrow.Author.Rules.{rules}
use lib.ListN.{length}
use Rattle.rows.specs.Strides.{groups_of}
use Rattle.rows.proofs.RowsDrawn.{run_fits}
use Rattle.rows.proofs.WithinRuns.{until_end_some}
use Rattle.bank.specs.Frames.{with_floats, Going}
use Rattle.bank.proofs.Drawing.{run-asked, going_none, going_more}
use Rattle.bank.proofs.blocks.draw_frames.Given.{Over}
use Rattle.bank.proofs.blocks.draw_frames.Goals as goal
use Rattle.bank.proofs.blocks.draw_frames.Goals.{After-groups-row, After-shorter-run}

-- ---- places

row-is : (g : Over) (c : After-groups-row g) → g.row.N * c.groups-row.result ≡ g.row.N * groups_of c.args.voices
row-is g c =
    let e : min c.args.voices 64 ≡ c.args.voices = omega (arith, c.requires.few) in
    ap (λ (n : ℕ). g.row.N * n) (c.groups-row.ensures ∙ ap groups_of e)

-- All frames are in the output.
room : (g : Over) (c : After-groups-row g) → c.args.frames * (g.row.N * c.groups-row.result) ≤ length c.args.out.now
room g c = subst (λ (s : ℕ). c.args.frames * s ≤ length c.args.out.now) (sym (row-is g c)) c.requires.room

-- A run's are, and it has one at least.
run_of : (g : Over) (c : After-shorter-run g)
    → let l = c.loop-done in
    let s = g.row.N * c.groups-row.result in
    (1 ≤ c.shorter-run.result) × (l.done + c.shorter-run.result ≤ c.args.frames) × (l.done * s + c.shorter-run.result * s ≤ length l.out)
run_of g c =
    let l = c.loop-done in
    let s = g.row.N * c.groups-row.result in
    let n = c.args.frames in
    let e = c.shorter-run.ensures in
    let t = c.loop-done-test.true in
    let some : 1 ≤ c.shorter-run.result =
    omega (arith, e, t, c.until_end-end.ensures.length, until_end_some (min c.args.voices 64) l.m.codes)
    in
    let h : l.done + c.shorter-run.result ≤ n = omega (arith, e, t) in
    (some, h, omega (arith, room g (goal.at.After-shorter-run g c).After-groups-row, l.invariant.1.shown.long, run_fits l.done c.shorter-run.result n s h))

-- ---- the goals

pub loop-done-init : goal.loop-done-init
loop-done-init g c =
    let a = c.args in
    (omega arith, going_none g.P.Place.past_end g.row.N g.P.Place.cell g.met.P.Place.by_levels a.voices c.requires.few a.m.now a.out.now _ c.clear_spare.ensures)

pub pass-requires : goal.pass-requires
pass-requires g c =
    let l = c.loop-done in
    run-asked c.args.voices _ _ _ l.m.codes c.requires.few (omega (arith, c.loop-done-test.true)) c.until_end-end.ensures.length c.until_end-end.ensures.counts
    c.shorter-run.ensures

pub loop-done-preserved : goal.loop-done-preserved
loop-done-preserved g c =
    let l = c.loop-done in
    let a = c.args in
    let at : l.done * (g.row.N * c.groups-row.result) ≡ l.done * (g.row.N * groups_of a.voices) =
    ap (λ (s : ℕ). l.done * s) (row-is g (goal.at.loop-done-preserved g c).After-groups-row) in (
      omega (arith, run_of g (goal.at.loop-done-preserved g c).After-shorter-run),
      going_more g.P.Place.past_end g.row.N g.P.Place.cell g.met.P.Place.by_levels a.voices c.requires.few (with_floats c.clear_spare.new.f a.m.now) a.out.now a.frames l.done _ _ _ l.m _ l.out _ _
          l.invariant.1 c.loop-done-test.true c.requires.room c.until_end-end.ensures.length c.until_end-end.ensures.counts c.shorter-run.ensures at c.draw.ensures c.pass.ensures,
    )

pub returns : goal.returns
returns g c =
    let l = c.loop-done in
    let a = c.args in
    let e : l.done ≡ a.frames = omega (arith, c.loop-done-test.false) in
    record {
      floats = c.clear_spare.new.f;
      cleared = c.clear_spare.ensures;
      going = subst (λ (k : ℕ). Going g.P.Place.past_end g.row.N g.P.Place.cell a.voices (with_floats c.clear_spare.new.f a.m.now) a.out.now k l.m l.out) e l.invariant.1;
    }

pub offset_bounds-out-done : goal.offset_bounds-out-done
offset_bounds-out-done g c = let r = run_of g (goal.at.offset_bounds-out-done g c).After-shorter-run in
    let h : c.loop-done.done * (g.row.N * c.groups-row.result) ≤ length c.loop-done.out = omega (arith, r) in
    search rules

pub loop-done-smaller : goal.loop-done-smaller
loop-done-smaller g c = omega (arith, run_of g (goal.at.loop-done-smaller g c).After-shorter-run)
