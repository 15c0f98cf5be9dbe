use Rattle.std.proofs.Common.{Some, sym, ap}
use Rattle.label_search.proofs.backward.MirrorForwardCells.start.Goals as goal

pub returns-in-Some : goal.returns-in-Some
returns-in-Some g c = rw (sym c.in-Some.ensures) (ap Some c.opening_of.ensures)
