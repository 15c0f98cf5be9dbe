use Rattle.std.proofs.Common.{inr, sym, subst, length, arith}
use Rattle.taxi_io.specs.Files.{TookFront}
use Rattle.taxi_io.proofs.Fronts.{front-longer, front-taken}
use Rattle.taxi_io.proofs.reading.read_all.Goals as goal

-- the bytes that came are within the limit, and the read that failed took none
pub returns-in_err-count-clause-short : goal.returns-in_err-count-clause-short
returns-in_err-count-clause-short g c = λ _.
    let shelf = g.S.Shelf in
    let items = c.loop-buffer.bytes.items in
    inr (
      length items,
      omega (arith, c.loop-buffer-test.true),
      subst (λ rest. TookFront (shelf.files c.args.shelf.now) c.args.name.now rest (length items)) (sym c.in_err-count.ensures.kept.0)
          (front-taken (shelf.files c.args.shelf.now) c.args.name.now items (shelf.rest c.begin.new.self) (shelf.rest c.loop-buffer.shelf) c.loop-buffer.invariant.whole c.loop-buffer.invariant.front),
    )

pub returns-clause-too_large : goal.returns-clause-too_large
returns-clause-too_large g c = λ _.
    let shelf = g.S.Shelf in
    front-longer (shelf.files c.args.shelf.now) c.args.name.now c.loop-buffer.bytes.items (shelf.rest c.begin.new.self) (shelf.rest c.loop-buffer.shelf) c.args.limit
    c.loop-buffer.invariant.whole c.loop-buffer.invariant.front (omega (arith, c.loop-buffer-test.false))
