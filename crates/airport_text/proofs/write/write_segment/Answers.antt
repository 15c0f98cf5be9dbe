use Rattle.std.proofs.Common.{◌≡◌, ◌∷◌, [], ◌*◌, OnOk, refl, subst}
use Rattle.std.proofs.Math.Nat.{add-zero}
use Rattle.airport_text.specs.Canonical.{Fields}
use Rattle.airport_text.specs.Written.{and_records}
use Rattle.airport_text.proofs.SegmentLaws.{forward-exists, each_row, segment-fields}
use Rattle.airport_text.proofs.write.write_segment.Goals as goal

pub tail-requires : goal.tail-requires
tail-requires c = rw (c.graph-graph.ensures, c.of-forward.ensures, add-zero (2 * c.args.segment.0)) (forward-exists c.args.airport.now c.args.segment.0 c.requires.number)

pub returns : goal.returns
returns c =
    let forward : c.of-forward.result ≡ record { 0 = 2 * c.args.segment.0 } = rw (c.of-forward.ensures, add-zero (2 * c.args.segment.0)) refl in
    each_row c.args.airport.now.segments c.args.segment.0 _ (λ row found.
    let own = segment-fields c.args.airport.now c.graph-graph.result.now c.args.segment row c.tail.result c.head.result _ _ _
    c.graph-graph.ensures found c.segment_name-name.ensures (rw forward at c.tail.ensures.tail) c.node_name-from.ensures (rw forward at c.head.ensures.head) c.node_name-to.ensures in
    subst (λ (fields : Fields). OnOk c.write.result (c.write.new.self ≡ and_records c.args.records.now (fields ∷ [])))
    (cc (own, c.bytes.ensures.same, c.bytes-2.ensures.same, c.bytes-3.ensures.same, c.direction_word-direction.ensures, c.exists.ensures, c.of-backward.ensures, c.as_slice.ensures))
    c.write.ensures)
