-- The levels of an accepted list are those that demand 3 expects for its calls (`rendered-expected`): the first record opens a bank, no later one does,
-- so that the others are calls; and a bank replies to calls as is expected (`replies-expected`). By induction on the events.
use mathlib.Core.Path.{◌≡◌, refl, sym, ap, ◌∙◌, subst}
use mathlib.Core.Bool.{true, false}
use mathlib.Core.List.{List, [], ◌∷◌, ◌++◌}
use Prim.Native.Nat.{ℕ, zero, suc, ◌-◌, ◌/◌, ◌<◌}
use native.Mathlib.Omega.{arith}
use borrow.Author.Tests.{ne_eqb}
use lib.Ieee.{Float}
use lib.ListN.{length}
use Rattle.bank.specs.declared.known.Known.{Known}
use Rattle.bank.specs.Calls.{opening, Call, known_of, learned, if_accepted, refusal}
use Rattle.bank.specs.Banks.{Bank, known, new, after_accepted, answer}
use Rattle.bank.specs.Replies.{reply}
use Rattle.histories.specs.Demand.{fresh_histories, replies_from}
use Rattle.histories.proofs.Kept.{kept}
use Rattle.histories.proofs.Simulation.{fresh-simulates}
use Rattle.histories.proofs.Answers.{replies-expected}
use Rattle.events.specs.declared.Event.{Event}
use Rattle.events.specs.Format as Format
use Rattle.events.specs.Format.{Parsed}
use Rattle.events.proofs.Records as Records
use Rattle.events.proofs.Records.{read_first, read_next, read-refused}
use Rattle.checking.specs.Actions.{Action, opens, calls, action, own_refusal, known_after}
use Rattle.checking.specs.Checks.{Checked, start, judged, after_record, checked}
use Rattle.checking.proofs.Judging.{own}
use Rattle.checking.proofs.Passing.{one_more, some, refused_none, still, judged-accepted}
use Rattle.player.proofs.Doing.{differ, is_open, open_action, known-after}
use Rattle.player.proofs.Progress.{events-more}
use Rattle.player.specs.Playing.{if_record, events_from, events, after, levels, action_levels, rendered}
use Rattle.player.specs.Takes.{if_call, calls_of, levels_of, AsExpected}

-- No event of a list opens a bank.
abbrev Closed : List Event → Type 0
Closed [] = Unit {0}
Closed (e ∷ es) = (Records.opens e ≡ false) × Closed es

-- ---- a bank's replies

-- A call leaves the voice count.
same_known : (b : Bank) (c : Call) → known (answer b c).bank ≡ known b
unfolding answer
same_known b c = go (refusal (known b) c) refl
  where
    go : (n : ℕ) → refusal (known b) c ≡ n → known (if_accepted n (after_accepted b c) b) ≡ known b
    go zero z = (kept b c z).knows
    go (suc n) z = refl

one-reply : (b : Bank) (es : List Event) → ((x : Bank) → rendered x es ≡ levels_of (replies_from x (calls_of (known x) es)))
    → (d : Action) → is_open d ≡ false
    → action_levels b d ++ rendered (after b d) es ≡ levels_of (replies_from b (if_call d (λ c. c ∷ calls_of (learned (known b) c) es)))
unfolding action_levels after replies_from
one-reply b es ih (opens o) q = absurd (differ q)
one-reply b es ih (calls c) q =
    let x = (answer b c).bank in
    ap (λ (xs : List Float). levels (reply b c) ++ xs) (ih x ∙ ap (λ (k : Known). levels_of (replies_from x (calls_of k es))) (same_known b c))

rendered-replies : (es : List Event) → Closed es → (b : Bank) → rendered b es ≡ levels_of (replies_from b (calls_of (known b) es))
unfolding replies_from
rendered-replies [] C b = refl
rendered-replies (e ∷ es) C b = one-reply b es (λ x. rendered-replies es C.1 x) (action (known b) e) (open_action (known b) e ∙ C.0)

-- ---- a list's events

closed_from : (n : ℕ) (l : List ℕ) (at : ℕ) → (at ≡ 0 → ⊥) → Closed (events_from n l at)
closed_from zero l at d = tt
closed_from (suc n) l at d = go (λ next k. closed_from n l next k) (Format.read l at) refl
  where
    go : ((next : ℕ) → (next ≡ 0 → ⊥) → Closed (events_from n l next)) → (r : Parsed) → Format.read l at ≡ r
        → Closed (if_record r (λ e next. e ∷ events_from n l next))
    go ih (Parsed.Refused k) q = tt
    go ih (Parsed.Record e next) q =
        let b = read_next l at e next q in
        (read_first l at e next q ∙ ne_eqb at 0 d, ih next (λ z. absurd (omega (arith, z, b.0))))

-- The first record opens the bank.
opened-expected : (e : Event) (next : ℕ) → Records.opens e ≡ true → own start e ≡ 0 → (es : List Event) → Closed es → AsExpected (e ∷ es)
unfolding action action_levels after own_refusal known_after
opened-expected (Event.Open n t p) next q z es C =
    let o = opening n p t in
    let b = (new o).bank in
    rendered-replies es C b
    ∙ ap (λ (k : Known). levels_of (replies_from b (calls_of k es))) (known-after b (opens o) z)
    ∙ ap levels_of (replies-expected b (fresh_histories o) (fresh-simulates o) (calls_of (known_of o) es))
opened-expected (Event.SetParams v p) next q z es C = absurd (differ (sym q))
opened-expected (Event.SetAllParams p) next q z es C = absurd (differ (sym q))
opened-expected (Event.SetTiming t) next q z es C = absurd (differ (sym q))
opened-expected (Event.Trigger v x) next q z es C = absurd (differ (sym q))
opened-expected (Event.Release v) next q z es C = absurd (differ (sym q))
opened-expected (Event.Reset v) next q z es C = absurd (differ (sym q))
opened-expected (Event.Join v from) next q z es C = absurd (differ (sym q))
opened-expected (Event.Frames n) next q z es C = absurd (differ (sym q))

pub rendered-expected : (l : List ℕ) (n : ℕ) → (checked l n).refusal ≡ 0 → AsExpected (events l)
unfolding after_record
rendered-expected l n z = go (Format.read l 0) refl
  where
    there : 0 < length l
    there =
        let d = refused_none l n z in
        omega arith

    passes : (after_record (n / 4) start (Format.read l 0)).refusal ≡ 0
    passes =
        let e = one_more l (n / 4) start (length l) there refl there in
        still (length l - 1) l (n / 4) _ (sym (ap (λ (c : Checked). c.refusal) e) ∙ ap (λ (c : Checked). c.refusal) (some l n (refused_none l n z)) ∙ z)

    go : (r : Parsed) → Format.read l 0 ≡ r → AsExpected (events l)
    go (Parsed.Refused m) q =
        let y : m ≡ 0 = sym (ap (λ (r : Parsed). (after_record (n / 4) start r).refusal) q) ∙ passes in
        absurd (omega (arith, y, read-refused l 0 m q))
    go (Parsed.Record e next) q =
        let y : (judged (n / 4) start e next).refusal ≡ 0 = sym (ap (λ (r : Parsed). (after_record (n / 4) start r).refusal) q) ∙ passes in
        let b = read_next l 0 e next q in
        let later : next ≡ 0 → ⊥ = λ w. absurd (omega (arith, w, b.0)) in
        subst AsExpected (sym (events-more (length l) l 0 e next there q))
        (opened-expected e next (read_first l 0 e next q) (judged-accepted (n / 4) start e next y).own (events_from (length l - 1) l next)
        (closed_from (length l - 1) l next later))
