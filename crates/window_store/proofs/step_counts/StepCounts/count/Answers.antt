use Rattle.std.proofs.Common.{◌≡◌, ◌+◌, ◌<◌, [], ◌∷◌, List, ℕ, length, set, refl, sym, ap, ◌∙◌, subst, arith}
use Rattle.std.proofs.lemmas.Bool.{eq-eqb, ne_eqb}
use Rattle.std.proofs.lemmas.List.{length-map}
use Rattle.window_store.specs.Counts.{count_in, counts_in, count_of, times_in, IsCounted}
use Rattle.window_store.proofs.Counting.{counts-at, counts-now, counts-set}
use Rattle.window_store.proofs.step_counts.StepCounts.count.Goals as goal
use Rattle.window_store.proofs.step_counts.StepCounts.count.Goals.{then-one-round, else-one-round}

pub returns-clause-more : goal.returns-clause-more
returns-clause-more c =
    let round = c.self.inside.round in
    let counted = c.self.inside.counted.items in
    let t = c.args.segment in
    let low : t.0 < length counted = omega (arith, c.requires.exists, ap length c.self.view_is, length-map counted (count_in round)) in
    let one = c.index_mut-one.result.now in
    let was : count_of (counts_in round counted) t ≡ count_in round one = counts-at round counted t one low ∙ ap (count_in round) (sym c.index_mut-one.ensures.value) in
    let more : c.if-one-round.count ≡ count_of (counts_in round counted) t + 1 = elim c.if-one-round.branch [
      | then-one-round w ↦
          let counts : count_in round one ≡ one.count = rw (eq-eqb one.round round w.if-one-round.true) refl in
          omega (arith, w.count-is, was, counts)
      | else-one-round w ↦
          let over : count_in round one ≡ 0 = rw (ne_eqb one.round round w.if-one-round.false) refl in
          omega (arith, w.count-is, was, over)
    ] in
    subst (λ (counts : List ℕ). IsCounted (times_in (t ∷ [])) counts (counts_in round (set counted t.0 (record { round = round; count = c.if-one-round.count })))) c.self.view_is
    (counts-set round counted t c.if-one-round.count low more)

pub returns-clause-now : goal.returns-clause-now
returns-clause-now c =
    let round = c.self.inside.round in
    let counted = c.self.inside.counted.items in
    let low : c.args.segment.0 < length counted = omega (arith, c.requires.exists, ap length c.self.view_is, length-map counted (count_in round)) in
    sym (counts-now round counted c.args.segment c.if-one-round.count low)
