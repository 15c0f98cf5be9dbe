-- One more time, which is kept once there is room for its class.
use Rattle.std.proofs.Common.{◌≡◌, ◌<◌, ◌+◌, ◌*◌, length, arith, map}
use Rattle.airport_rules.specs.Indexed.{link_of_way, AreCounted, AreTimed}
use Rattle.airport_rules.proofs.TimeLaws.{AreTimed-room, AreTimed-push}
use Rattle.airport_rules.proofs.plan.Plan.add_time.Goals.{then-at-len+in_ok-resize, else-at-len}
use Rattle.airport_rules.proofs.plan.Plan.add_time.Goals as goal

pub invariant_of-self-2 : goal.invariant_of-self-2
invariant_of-self-2 c =
    let counted : AreCounted (length c.if-at-len.self-inside.nodes) (map link_of_way c.if-at-len.self-inside.ways.items) c.if-at-len.self-inside.ends.items = elim c.if-at-len.branch [
      | then-at-len+in_ok-resize w ↦ rw w.self-inside-is c.self.invariant.0
      | else-at-len w ↦ rw w.self-inside-is c.self.invariant.0
    ] in
    let timed : AreTimed c.if-at-len.self-inside.times.items c.if-at-len.self-inside.timed.items = elim c.if-at-len.branch [
      | then-at-len+in_ok-resize w ↦ rw (w.self-inside-is, w.in_ok-resize.ensures.items)
          (AreTimed-room c.self.inside.times.items c.self.inside.timed.items _ _ (omega (arith, w.if-at-len.true, c.time_place-at.ensures, c.requires.few, c.len.ensures)) c.self.invariant.1)
      | else-at-len w ↦ rw w.self-inside-is c.self.invariant.1
    ] in
    let within : c.time_place-at.result < length c.if-at-len.self-inside.timed.items = elim c.if-at-len.branch [
      | then-at-len+in_ok-resize w ↦ rw w.self-inside-is (omega (arith, w.in_ok-resize.ensures.len, c.time_place-at.ensures, c.requires.few))
      | else-at-len w ↦ rw w.self-inside-is (omega (arith, w.if-at-len.false, c.len.ensures))
    ] in
    (counted, rw (c.in_ok-push.ensures.items, c.time_place-at.ensures) (AreTimed-push c.if-at-len.self-inside.times.items c.if-at-len.self-inside.timed.items c.args.row.now c.requires.few (rw c.time_place-at.ensures at within) timed))
