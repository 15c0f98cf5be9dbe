use Rattle.std.proofs.Common.{◌≡◌, ◌+◌, ◌*◌, ◌≤◌, length, true}
use Rattle.taxi_io.specs.Files.{SameNames}
use Rattle.command_run.proofs.Told.{IsToldSoFar}
use Rattle.command_run.proofs.telling.run_told.Given as goal

-- of the file a front was taken, whose lines are told but for those that are kept
abbrev pub invariant-loop-line : goal.invariant-loop-line
invariant-loop-line g l =
    let t = g.T.Teller in
    let s = g.S.Shelf in
    let k = g.K.Sink in
    record {
      so_far : IsToldSoFar t.telling (t.airport l.fn.teller) l.fn.limit (s.rest l.fn.shelf, s.rest l.shelf) (s.given l.fn.shelf, s.given l.shelf) (k.written l.fn.out, k.written l.out) l.reader l.left l.number l.count (t.told l.fn.teller, t.told l.teller) (t.state l.teller);
      airport : t.airport l.teller ≡ t.airport l.fn.teller;
      begun : s.begun l.shelf ≡ true;
      tried : s.tried l.shelf ≡ s.tried l.fn.shelf;
      reads_later : s.faults l.fn.shelf ≤ s.faults l.shelf;
      writes_later : k.faults l.fn.out ≤ k.faults l.out;
      files : s.files l.shelf ≡ s.files l.fn.shelf;
      names : SameNames (s.knows l.fn.shelf) (s.knows l.shelf);
    }

-- a byte that is taken counts twice until it is kept, and then once until its line is taken off
abbrev pub decreases-loop-line : goal.decreases-loop-line
decreases-loop-line g l = 2 * l.left + length l.reader
