use Rattle.std.proofs.Common.{◌≡◌, ◌+◌, ◌<◌, ◌≤◌, ◌&&◌, suc, get_or, drop, length, IsTrue, refl, ◌∙◌, sym, subst, arith}
use Rattle.std.proofs.lemmas.Bool.{false≢true}
use Rattle.std.proofs.lemmas.List.Elements.{All-more, All-get_or}
use Rattle.taxi_base.specs.declared.numbers.Segment.{Segment}
use Rattle.taxi_base.specs.declared.rows.Step.{Step}
use Rattle.taxi_base.specs.Airport.{conflict, segment_of}
use Rattle.window_store.specs.Stays.{step_at, joins, holding_on}
use Rattle.window_store.proofs.Staying.{none, meets, holding-next, joins-means, JoinTo-step, both_hold}
use Rattle.window_store.proofs.stays.stay_from.Goals as goal
use Rattle.window_store.proofs.stays.stay_from.Goals.{then-conflict, else-conflict}

pub loop-more-preserved : goal.loop-more-preserved
loop-more-preserved c =
    let sets = c.args.conflicts.now.sets in let s = c.args.segment in let steps = c.args.steps.now in
    let l = c.loop-more in let k = l.more in let low : k + 1 < length steps = omega (arith, c.loop-more-test.true) in
    let this : Step = get_or steps (k + 1) none in
    let on : IsTrue (meets sets s steps (k + 1) && joins (step_at steps k) (step_at steps (k + 1))) =
    elim c.if-conflict.branch [
      | then-conflict w ↦
          let met : IsTrue (meets sets s steps (k + 1)) = subst (λ (t : Segment). IsTrue (conflict sets s t)) c.segment.ensures (sym c.conflict.ensures ∙ w.if-conflict.true) in
          let joined : IsTrue (joins (step_at steps k) (step_at steps (k + 1))) = sym w.joins.ensures ∙ sym w.value-is ∙ c.if-not-joins.false in
          rw met joined
      | else-conflict w ↦ absurd (false≢true (sym w.if-conflict.false ∙ sym w.value-is ∙ c.if-not-joins.false))
    ] in
    let met : IsTrue (meets sets s steps (k + 1)) = (both_hold _ _ on).0 in
    let times : ((step_at steps k).enter ≤ (step_at steps (k + 1)).enter) × ((step_at steps (k + 1)).enter ≤ (step_at steps k).leave) = joins-means (step_at steps k) (step_at steps (k + 1)) (both_hold _ _ on).1 in
    let takes : this.enter < this.leave = All-get_or (λ (t : Step). t.enter < t.leave) steps (k + 1) none low c.requires.time in
    let ends : this.leave ≤ c.args.term.horizon = All-get_or (λ (t : Step). t.leave ≤ c.args.term.horizon) steps (k + 1) none low c.requires.in_time in
    let before : (step_at steps k).leave ≤ c.args.term.horizon = All-get_or (λ (t : Step). t.leave ≤ c.args.term.horizon) steps k none (omega arith) c.requires.in_time in
    let more : holding_on sets s (step_at steps k) (drop (k + 1) steps) ≡ suc (holding_on sets s (step_at steps (k + 1)) (drop (k + 1 + 1) steps)) =
    holding-next sets s steps (step_at steps k) (k + 1) low ∙ rw on refl in
    record {
      number = omega (arith, l.invariant.number, more);
      few = omega (arith, low);
      met = All-more (λ (t : Step). IsTrue (conflict sets s (segment_of t.arc))) steps (k + 1) none low l.invariant.met met;
      joined = rw (c.max.ensures, c.span_of.ensures) (JoinTo-step c.args.term.horizon c.args.term.clearance steps (k + 1) l.span low l.invariant.joined (omega (arith, l.invariant.begun, times.0)) (omega (arith, times.1, before, l.invariant.lasts)) (omega (arith, takes, ends)));
      begun = omega (arith, l.invariant.begun, times.0);
      lasts = rw (c.max.ensures, c.span_of.ensures) (omega arith);
      in_time = rw (c.max.ensures, c.span_of.ensures) (omega (arith, l.invariant.in_time));
    }
