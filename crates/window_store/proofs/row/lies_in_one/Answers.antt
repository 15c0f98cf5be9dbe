use Rattle.std.proofs.Common.{arith}
use Rattle.std.proofs.lemmas.Bool.{leb-true, le-leb}
use Rattle.window_store.proofs.Rows.{lies-at, lies-only-at}
use Rattle.window_store.proofs.row.lies_in_one.Goals as goal

pub returns-then-next-span : goal.returns-then-next-span
returns-then-next-span c = (
  λ ends. lies-at c.args.row.now c.args.span c.over_by-at.result (omega (arith, c.over_by-at.ensures.few)) c.if-next-span.true (leb-true _ _ ends),
  λ lies. le-leb _ _ (lies-only-at c.args.row.now c.args.span c.over_by-at.result c.requires.apart c.over_by-at.ensures c.requires.some lies).2,
)

pub returns-else-next-span : goal.returns-else-next-span
returns-else-next-span c = (
  λ begins. absurd (omega (arith, leb-true _ _ begins, c.if-next-span.false)),
  λ lies. le-leb _ _ (lies-only-at c.args.row.now c.args.span c.over_by-at.result c.requires.apart c.over_by-at.ensures c.requires.some lies).1,
)
