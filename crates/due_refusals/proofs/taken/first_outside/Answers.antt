use Rattle.std.proofs.Common.{◌∙◌, is_some, sym, ap, arith}
use Rattle.due_refusals.proofs.TakenLaws.{outside-window, outside-gap, outside-end}
use Rattle.due_refusals.proofs.taken.first_outside.Goals as goal

pub returns-then-window-from : goal.returns-then-window-from
returns-then-window-from c =
    let found = c.in-Some.ensures.lookup in
    outside-window c.args.windows.now c.args.from c.requires c.windows_over.result c.windows_over.ensures.point c.in-Some.window.now found.3.0 (sym found.1) (omega (arith, c.if-window-from.true))

pub returns-else-window-from : goal.returns-else-window-from
returns-else-window-from c =
    let found = c.in-Some.ensures.lookup in
    outside-gap c.args.windows.now c.args.from c.requires c.windows_over.result c.windows_over.ensures.point c.in-Some.window.now found.3.0 (sym found.1) (omega (arith, c.if-window-from.false))

pub returns-in_default : goal.returns-in_default
returns-in_default c = outside-end c.args.windows.now c.args.from c.requires c.windows_over.result c.windows_over.ensures.point (sym c.get.ensures.lookup.0 ∙ ap is_some c.in_default.is)
