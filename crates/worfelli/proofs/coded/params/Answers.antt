-- `params`: each of the three codes is named or not (`Named`), and the settings' fields are what they name and the numbers in their order.
use mathlib.Core.Path.{refl, sym}
use Rattle.std.proofs.lemmas.Result.{MatchResult-at_ok, MatchResult-at_err}
use Rattle.worfelli.specs.Coded.{code, named, params}
use Rattle.worfelli.proofs.Named.{unit-means, flag-means, restart-means, propagated}
use Rattle.worfelli.proofs.coded.params.Goals as goal

pub returns-in_err-unit : goal.returns-in_err-unit
unfolding named
returns-in_err-unit c =
    let l = c.args.codes.now in
    let e = MatchResult-at_err _ _ _ (sym c.in_err-unit.ensures) (unit-means (code l 0)) in
    propagated _ (named l) _ c.from_residual.ensures.1 (rw e refl)

pub returns-in_err-legato_inverted : goal.returns-in_err-legato_inverted
unfolding named
returns-in_err-legato_inverted c =
    let l = c.args.codes.now in
    let u = MatchResult-at_ok _ _ _ (sym c.in_ok-unit.ensures) (unit-means (code l 0)) in
    let e = MatchResult-at_err _ _ _ (sym c.in_err-legato_inverted.ensures) (flag-means (code l 1)) in
    propagated _ (named l) _ c.from_residual-in_err-legato_inverted.ensures.1 (rw (u.0, e) refl)

pub returns-in_err-steal_restart : goal.returns-in_err-steal_restart
unfolding named
returns-in_err-steal_restart c =
    let l = c.args.codes.now in
    let u = MatchResult-at_ok _ _ _ (sym c.in_ok-unit.ensures) (unit-means (code l 0)) in
    let f = MatchResult-at_ok _ _ _ (sym c.in_ok-legato_inverted.ensures) (flag-means (code l 1)) in
    let e = MatchResult-at_err _ _ _ (sym c.in_err-steal_restart.ensures) (restart-means (code l 2)) in
    propagated _ (named l) _ c.from_residual-in_err-steal_restart.ensures.1 (rw (u.0, f.0, e) refl)

pub returns : goal.returns
unfolding named params
returns c =
    let l = c.args.codes.now in
    let u = MatchResult-at_ok _ _ _ (sym c.in_ok-unit.ensures) (unit-means (code l 0)) in
    let f = MatchResult-at_ok _ _ _ (sym c.in_ok-legato_inverted.ensures) (flag-means (code l 1)) in
    let s = MatchResult-at_ok _ _ _ (sym c.in_ok-steal_restart.ensures) (restart-means (code l 2)) in
    (rw (u.0, f.0, s.0) refl, rw (u.1, f.1, s.1) refl)
