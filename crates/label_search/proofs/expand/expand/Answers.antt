use Rattle.std.proofs.Common.{◌≡◌, ◌+◌, ◌<◌, ◌∙◌, refl, inl, inr, arith}
use Rattle.std.specs.Prelude.{⊤}
use Rattle.std.proofs.Common.{ℕ, subst}
use Rattle.std.proofs.lemmas.Bool.{cases_lt}
use Rattle.label_search.specs.Labels.{standing}
use Rattle.label_search.specs.Problem.{IsIn}
use Rattle.label_search.proofs.Expansions.{expanded_none, expanded_then, expanded_as}
use Rattle.label_search.proofs.expand.expand.Goals as goal

pub expand_next-requires-clause-room : goal.expand_next-requires-clause-room
expand_next-requires-clause-room g c = record {
  known = omega (arith, c.loop-run.invariant.expanded.lengths.known, c.requires.room.known);
  keys = omega (arith, c.loop-run.invariant.expanded.lengths.keys, c.requires.room.keys);
}

pub loop-run-init : goal.loop-run-init
loop-run-init g c = record {
  expanded = expanded_none (g.C.ForwardCells.problem c.args.cells.now).network c.args.from.cell c.args.from.at _ (standing c.args.labels.now) (λ d is. omega (arith, is.1));
  numbers = refl;
  reached = c.requires.reached;
}

pub loop-run-preserved : goal.loop-run-preserved
loop-run-preserved g c =
    let p = g.C.ForwardCells.problem c.args.cells.now in
    record {
      expanded = expanded_then p.network c.args.from.cell c.args.from.at _ (IsIn (p.run (p.number c.args.from.cell c.loop-run.run)))
          (standing c.args.labels.now) (standing c.loop-run.labels) (standing c.expand_next.new.labels) c.loop-run.invariant.expanded c.expand_next.ensures.expanded
          (λ d. (k : ℕ) × (k < c.loop-run.run + 1) × IsIn (p.run (p.number c.args.from.cell k)) d)
          (λ d t is e. elim (cases_lt is.0 c.loop-run.run) [
            | inl lt ↦ inl (is.0, lt, is.2)
            | inr le ↦ (let same : is.0 ≡ c.loop-run.run = omega (arith, is.1) in inr (subst (λ k. IsIn (p.run (p.number c.args.from.cell k)) d) same is.2))
          ]);
      numbers = c.expand_next.ensures.numbers ∙ c.loop-run.invariant.numbers;
      reached = c.expand_next.ensures.reached;
    }

pub returns-clause-expanded : goal.returns-clause-expanded
returns-clause-expanded g c =
    let p = g.C.ForwardCells.problem c.args.cells.now in
    expanded_as p.network c.args.from.cell c.args.from.at _ (λ d. ⊤)
    (standing c.args.labels.now) (standing c.loop-run.labels) c.loop-run.invariant.expanded
    (λ d t is e. (
    let k = c.requires.sound.turns_in_runs c.args.from.cell d e.by_turn in
    (k.0, omega (arith, k.1, c.runs-run-end.ensures), k.2)))
