use Rattle.std.proofs.Common.{◌*◌, min, length}
use Rattle.label_search.specs.Values.{AreAsBeforeFrom, AreRowsTo}
use Rattle.label_search.proofs.GroupLaws.{AreTakenTo}
use Rattle.label_search.proofs.values.take_marked.Given as goal

abbrev pub invariant-loop-group : goal.invariant-loop-group
invariant-loop-group g l = record {
  taken : AreTakenTo l.initial.known l.known l.initial.groups l.groups l.group;
  rest : AreAsBeforeFrom (l.group * 64) l.initial.known l.known;
  rows : AreRowsTo (g.C.ForwardCells.told l.cells) l.bound l.initial.known (min (l.group * 64) (length l.initial.known)) l.rows;
}
