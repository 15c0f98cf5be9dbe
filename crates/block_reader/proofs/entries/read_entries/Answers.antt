use Rattle.std.proofs.Common.{◌+◌, ◌-◌, ◌∙◌, ℕ, List, sym, ap, subst}
use Rattle.std.specs.Prelude.{Err}
use Rattle.std.specs.Borrow.{Bor}
use Rattle.std.proofs.lemmas.Result.{err_from_is_err_and}
use Rattle.replies.specs.declared.entries.Entry.{Entry}
use Rattle.block_reader.specs.declared.refused.BlockRefused.{BlockRefused}
use Rattle.block_reader.specs.Reading.{rows_at, IsRead}
use Rattle.block_reader.specs.Blocks.{entry_at}
use Rattle.block_reader.proofs.RowLoop.{with_front, goes_on, refuses, is_done}
use Rattle.block_reader.proofs.entries.read_entries.Goals as goal

pub returns-in_err-name : goal.returns-in_err-name
returns-in_err-name c =
    let read = entry_at c.args.airport.now in
    let err = err_from_is_err_and c.from_residual.result c.from_residual.ensures.1 in
    rw err.1
    (subst (λ (why : BlockRefused). IsRead {X = List (List ℕ × Entry) × Bor (List ℕ)} (λ x. (x.0, x.1.now)) (Err why) (rows_at read c.args.count c.args.bytes.now)) (sym err.2)
    (refuses read c.loop.entries c.args.count c.loop.counter c.loop.rest.now _ c.loop.invariant {Y = (List ℕ × Entry) × Bor (List ℕ)} {Z = List (List ℕ × Entry) × Bor (List ℕ)} (λ x. (x.0, x.1.now)) (λ x. (x.0, x.1.now)) c.in_err-name.field-0.0 c.loop-test.true c.in_err-name.ensures))

pub loop-preserved : goal.loop-preserved
loop-preserved c =
    let read = entry_at c.args.airport.now in
    ap (λ entries. with_front entries (rows_at read (c.args.count - (c.loop.counter + 1)) c.in_ok-name.left.now)) c.in_ok-push.ensures.ok
    ∙ goes_on read c.loop.entries c.args.count c.loop.counter c.loop.rest.now _ c.loop.invariant c.loop-test.true _ _ c.in_ok-name.ensures

pub returns : goal.returns
returns c = is_done (entry_at c.args.airport.now) c.loop.entries c.args.count c.loop.counter c.loop.rest.now _ c.loop.invariant c.loop-test.false
