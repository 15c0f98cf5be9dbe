use Rattle.std.proofs.Common.{◌≡◌, Some, refl, subst, arith}
use Rattle.std.specs.Prelude.{slice_get, Contains}
use Rattle.std.specs.Vec.{with_item}
use Rattle.std.proofs.lemmas.Option.{slice_get_read}
use Rattle.held_spans.specs.declared.spans.HeldSpans.{HeldSpans}
use Rattle.held_spans.proofs.SpanLaws.{there-on, rows-there, take-row, take-room}
use Rattle.held_spans.proofs.AloneLaws.{spans-without_one, one-apart}
use Rattle.held_spans.proofs.spans.HeldSpans.take.Goals as goal

pub index_mut-list-requires : goal.index_mut-list-requires
index_mut-list-requires c =
    let on = there-on c.args.self.now c.args.segment (c.args.span, c.args.holder.now) c.requires in
    let long = c.args.self.now.lists.ok in
    omega (arith, on, long)

pub take-requires : goal.take-requires
take-requires c =
    let on = there-on c.args.self.now c.args.segment (c.args.span, c.args.holder.now) c.requires in
    let at : slice_get c.args.self.now.lists.items c.args.segment.0 ≡ Some c.index_mut-list.result.now = slice_get_read _ _ _ _ refl on c.index_mut-list.ensures.value in
    subst (λ rows. Contains rows (c.args.span, c.args.holder.now)) (rows-there c.args.self.now c.args.segment c.index_mut-list.result.now at) c.requires

pub returns-clause-gone : goal.returns-clause-gone
returns-clause-gone c holds are =
    let on = there-on c.args.self.now c.args.segment (c.args.span, c.args.holder.now) c.requires in
    let at : slice_get c.args.self.now.lists.items c.args.segment.0 ≡ Some c.index_mut-list.result.now = slice_get_read _ _ _ _ refl on c.index_mut-list.ensures.value in
    take-row c.args.self.now (record { lists = with_item c.args.self.now.lists c.args.segment.0 c.take.new.self }) c.args.segment on c.index_mut-list.result.now c.take.new.self at refl c.args.span c.args.holder.now
    c.take.ensures.rows holds are

pub returns-clause-spans_gone : goal.returns-clause-spans_gone
returns-clause-spans_gone c holds had =
    let on = there-on c.args.self.now c.args.segment (c.args.span, c.args.holder.now) c.requires in
    let at : slice_get c.args.self.now.lists.items c.args.segment.0 ≡ Some c.index_mut-list.result.now = slice_get_read _ _ _ _ refl on c.index_mut-list.ensures.value in
    let new : HeldSpans = record { lists = with_item c.args.self.now.lists c.args.segment.0 c.take.new.self } in
    let apart = one-apart c.args.self.now c.args.segment c.args.span c.args.holder.now c.requires in
    let left = take-row c.args.self.now new c.args.segment on c.index_mut-list.result.now c.take.new.self at refl c.args.span c.args.holder.now c.take.ensures.rows apart.0 apart.1 in
    spans-without_one c.args.self.now new c.args.segment c.args.span c.args.holder.now apart.0 apart.1 left holds had

pub returns-clause-room : goal.returns-clause-room
returns-clause-room c s =
    let on = there-on c.args.self.now c.args.segment (c.args.span, c.args.holder.now) c.requires in
    let at : slice_get c.args.self.now.lists.items c.args.segment.0 ≡ Some c.index_mut-list.result.now = slice_get_read _ _ _ _ refl on c.index_mut-list.ensures.value in
    take-room c.args.self.now (record { lists = with_item c.args.self.now.lists c.args.segment.0 c.take.new.self }) c.args.segment on c.index_mut-list.result.now c.take.new.self at refl c.take.ensures.room s
