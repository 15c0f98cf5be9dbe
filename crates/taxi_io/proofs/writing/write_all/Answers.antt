use Rattle.std.proofs.Common.{arith, [], ◌∷◌, ◌++◌, ◌∙◌, ap, sym, refl, append_assoc, append-nil, take}
use Rattle.taxi_io.proofs.Pieces.{grew-nothing, part-more, grew-more, pieces-more}
use Rattle.taxi_io.proofs.writing.write_all.Goals as goal

pub loop-rest-init : goal.loop-rest-init
loop-rest-init g c = (
  [],
  [],
  record {
    whole = refl;
    grew = grew-nothing (g.K.Sink.written c.args.sink.now);
    handed = sym (append-nil (g.K.Sink.written c.args.sink.now).pieces);
    are = refl;
    later = omega arith;
  },
)

pub loop-rest-preserved : goal.loop-rest-preserved
loop-rest-preserved g c =
    let inv = c.loop-rest.invariant in
    let n = c.in_ok-count.count in
    let later = c.write.ensures.later in
    let before = inv.2.later in
    let some = c.in_ok-count.ensures.some in (
      inv.0 ++ take n c.loop-rest.rest.now,
      inv.1 ++ c.loop-rest.rest.now ∷ [],
      record {
        whole = part-more inv.0 c.loop-rest.rest.now c.args.piece.now n inv.2.whole;
        grew = grew-more (g.K.Sink.written c.args.sink.now) (g.K.Sink.written c.loop-rest.sink) (g.K.Sink.written c.write.new.self) inv.0 _ inv.2.grew c.in_ok-count.ensures.grew;
        handed = c.write.ensures.handed ∙ ap (λ l. l ++ c.loop-rest.rest.now ∷ []) inv.2.handed
            ∙ append_assoc (g.K.Sink.written c.args.sink.now).pieces inv.1 (c.loop-rest.rest.now ∷ []);
        are = pieces-more c.args.piece.now c.loop-rest.rest.now inv.1 n some inv.2.are;
        later = omega (arith, before, later);
      },
    )
