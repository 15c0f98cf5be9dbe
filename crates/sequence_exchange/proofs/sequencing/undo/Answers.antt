use Rattle.std.proofs.Common.{ℕ, List, sym, subst}
use Rattle.replies.specs.declared.entries.Entry.{Entry}
use Rattle.replies.specs.Batches.{IsServed}
use Rattle.sequence_exchange.proofs.NewLaws.{AreNew-ends}
use Rattle.sequence_exchange.proofs.sequencing.undo.Goals as goal

pub returns-clause-state : goal.returns-clause-state
returns-clause-state c before wishes total new sequenced =
    c.take_out.ensures.state before sequenced.order (AreNew-ends c.args.airport.now before wishes wishes sequenced.order sequenced.ends_at new)
    (subst (λ (es : List (List ℕ × Entry)). IsServed c.args.airport.now before sequenced.order es c.args.ledger.now.state) (sym c.as_slice.ensures) sequenced.served)
