use Rattle.std.proofs.Common.{◌≡◌, inl, inr, arith}
use Rattle.std.proofs.lemmas.Bool.{cases_lt}
use Rattle.label_search.specs.Labels.{standing}
use Rattle.label_search.specs.Problem.{IsIn}
use Rattle.label_search.proofs.Expansions.{expanded_none, expanded_then, expanded_as}
use Rattle.label_search.proofs.expand.expand_run.Goals as goal

pub expand_to-requires-clause-room : goal.expand_to-requires-clause-room
expand_to-requires-clause-room g c = record {
  known = omega (arith, c.loop-next.invariant.lengths.known, c.requires.room.known);
  keys = omega (arith, c.loop-next.invariant.lengths.keys, c.requires.room.keys);
}

pub loop-next-init : goal.loop-next-init
loop-next-init g c =
    expanded_none (g.C.ForwardCells.problem c.args.cells.now).network c.args.from.cell c.args.from.at _ (standing c.args.labels.now) (λ d is. omega (arith, is.0, is.1))

pub loop-next-preserved : goal.loop-next-preserved
loop-next-preserved g c =
    expanded_then (g.C.ForwardCells.problem c.args.cells.now).network c.args.from.cell c.args.from.at _ (λ d. d ≡ c.loop-next.next)
    (standing c.args.labels.now) (standing c.loop-next.labels) (standing c.expand_to.new.labels) c.loop-next.invariant c.expand_to.ensures _
    (λ d t is e. elim (cases_lt d c.loop-next.next) [ inl lt ↦ inl (is.0, lt) | inr le ↦ inr (omega (arith, is.1)) ])

pub returns : goal.returns
returns g c =
    expanded_as (g.C.ForwardCells.problem c.args.cells.now).network c.args.from.cell c.args.from.at _ (IsIn c.args.run)
    (standing c.args.labels.now) (standing c.loop-next.labels) c.loop-next.invariant (λ d t is e. (is.from_first, omega (arith, is.until_end)))
