use Rattle.std.proofs.Common.{◌≡◌, [], ◌∷◌, Some, refl}
use Rattle.std.specs.Prelude.{slice_get}
use Rattle.std.specs.Vec.{with_item}
use Rattle.std.proofs.lemmas.Option.{slice_get_read}
use Rattle.held_spans.specs.declared.spans.HeldSpans.{HeldSpans}
use Rattle.held_spans.proofs.SpanLaws.{one_hold, put-row, same-rows, put-room, same-room, no-room}
use Rattle.held_spans.proofs.AloneLaws.{spans-more, spans-same}
use Rattle.held_spans.proofs.LoopLaws.{then-ok, then-err}
use Rattle.held_spans.proofs.spans.HeldSpans.put.Goals as goal

pub returns-clause-ok : goal.returns-clause-ok
returns-clause-ok c =
    let was = c.index_mut-list.result.now in
    let at : slice_get c.args.self.now.lists.items c.args.segment.0 ≡ Some was = slice_get_read _ _ _ _ refl c.requires c.index_mut-list.ensures.value in
    then-ok c.put.result _ _ (λ more. put-row c.args.self.now (record { lists = with_item c.args.self.now.lists c.args.segment.0 c.put.new.self }) c.args.segment c.requires was c.put.new.self at refl
    c.args.span c.args.holder.now more) c.put.ensures.ok

pub returns-clause-err : goal.returns-clause-err
returns-clause-err c =
    let was = c.index_mut-list.result.now in
    let at : slice_get c.args.self.now.lists.items c.args.segment.0 ≡ Some was = slice_get_read _ _ _ _ refl c.requires c.index_mut-list.ensures.value in
    then-err c.put.result _ _ (λ same. same-rows c.args.self.now (record { lists = with_item c.args.self.now.lists c.args.segment.0 c.put.new.self }) c.args.segment c.requires was c.put.new.self at refl same)
    c.put.ensures.err

pub returns-clause-spans_ok : goal.returns-clause-spans_ok
returns-clause-spans_ok c =
    let was = c.index_mut-list.result.now in
    let at : slice_get c.args.self.now.lists.items c.args.segment.0 ≡ Some was = slice_get_read _ _ _ _ refl c.requires c.index_mut-list.ensures.value in
    let new : HeldSpans = record { lists = with_item c.args.self.now.lists c.args.segment.0 c.put.new.self } in
    then-ok c.put.result _ _ (λ more. spans-more c.args.self.now new (one_hold c.args.segment c.args.span c.args.holder.now ∷ [])
    (put-row c.args.self.now new c.args.segment c.requires was c.put.new.self at refl c.args.span c.args.holder.now more)) c.put.ensures.ok

pub returns-clause-spans_err : goal.returns-clause-spans_err
returns-clause-spans_err c =
    let was = c.index_mut-list.result.now in
    let at : slice_get c.args.self.now.lists.items c.args.segment.0 ≡ Some was = slice_get_read _ _ _ _ refl c.requires c.index_mut-list.ensures.value in
    let new : HeldSpans = record { lists = with_item c.args.self.now.lists c.args.segment.0 c.put.new.self } in
    then-err c.put.result _ _ (λ same. spans-same c.args.self.now new (same-rows c.args.self.now new c.args.segment c.requires was c.put.new.self at refl same)) c.put.ensures.err

pub returns-clause-room : goal.returns-clause-room
returns-clause-room c s =
    let was = c.index_mut-list.result.now in
    let at : slice_get c.args.self.now.lists.items c.args.segment.0 ≡ Some was = slice_get_read _ _ _ _ refl c.requires c.index_mut-list.ensures.value in
    put-room c.args.self.now (record { lists = with_item c.args.self.now.lists c.args.segment.0 c.put.new.self }) c.args.segment c.requires was c.put.new.self at refl c.put.ensures.room s

pub returns-clause-kept : goal.returns-clause-kept
returns-clause-kept c =
    let was = c.index_mut-list.result.now in
    let at : slice_get c.args.self.now.lists.items c.args.segment.0 ≡ Some was = slice_get_read _ _ _ _ refl c.requires c.index_mut-list.ensures.value in
    then-err c.put.result _ _ (λ kept s. same-room c.args.self.now (record { lists = with_item c.args.self.now.lists c.args.segment.0 c.put.new.self }) c.args.segment c.requires was c.put.new.self at refl kept s)
    c.put.ensures.kept

pub returns-clause-full : goal.returns-clause-full
returns-clause-full c =
    let was = c.index_mut-list.result.now in
    let at : slice_get c.args.self.now.lists.items c.args.segment.0 ≡ Some was = slice_get_read _ _ _ _ refl c.requires c.index_mut-list.ensures.value in
    then-err c.put.result _ _ (λ none. no-room c.args.self.now c.args.segment was at none) c.put.ensures.full
