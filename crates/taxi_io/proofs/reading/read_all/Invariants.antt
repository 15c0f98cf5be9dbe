use Rattle.std.proofs.Common.{◌≡◌, ◌≤◌, ◌+◌, ◌-◌, ◌∷◌, [], true, vec_len}
use Rattle.taxi_io.specs.Files.{Begins, Gave, SameNames, BeganMore}
use Rattle.taxi_io.proofs.reading.read_all.Given as goal

-- the bytes so far are the front of what the begun file had left at first
abbrev pub invariant-loop-buffer : goal.invariant-loop-buffer
invariant-loop-buffer g l =
    let s = g.S.Shelf in
    record {
      whole : Begins (s.files l.fn.shelf) l.fn.name (s.rest l.initial.shelf);
      front : Gave (s.rest l.initial.shelf) (s.rest l.shelf) l.bytes.items;
      within : vec_len l.bytes ≤ l.limit + 1;
      begun : s.begun l.shelf ≡ true;
      tried : BeganMore (s.tried l.fn.shelf) (s.tried l.shelf) (l.fn.name ∷ []);
      later : s.faults l.fn.shelf ≤ s.faults l.shelf;
      files : s.files l.shelf ≡ s.files l.fn.shelf;
      names : SameNames (s.knows l.fn.shelf) (s.knows l.shelf);
    }

abbrev pub decreases-loop-buffer : goal.decreases-loop-buffer
decreases-loop-buffer g l = l.limit + 1 - vec_len l.bytes
