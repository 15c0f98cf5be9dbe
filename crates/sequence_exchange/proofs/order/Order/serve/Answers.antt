use Rattle.std.proofs.Common.{◌∙◌, ◌++◌, length, refl, ap}
use Rattle.sequence_exchange.proofs.ServedLaws.{IsServed-length}
use Rattle.sequence_exchange.proofs.CostLaws.{IsServed-fair}
use Rattle.sequence_exchange.proofs.ExchangeLaws.{is-served_from}
use Rattle.sequence_exchange.proofs.order.Order.serve.Goals as goal

pub total_cost-total-requires-clause-same : goal.total_cost-total-requires-clause-same
total_cost-total-requires-clause-same c =
    ap length c.as_slice.ensures.value ∙ IsServed-length c.args.airport.now c.args.ledger.now.state c.args.wishes.now c.in_ok-entries.entries.items c.serve_all.new.ledger.state c.in_ok-entries.ensures.ok

pub total_cost-total-requires-clause-fair : goal.total_cost-total-requires-clause-fair
total_cost-total-requires-clause-fair c =
    rw c.as_slice.ensures.value
    (IsServed-fair c.args.airport.now c.horizon-horizon.ensures.rules c.args.ledger.now.state c.args.wishes.now c.in_ok-entries.entries.items c.serve_all.new.ledger.state c.requires.asked c.in_ok-entries.ensures.ok)

pub returns-clause-ok : goal.returns-clause-ok
returns-clause-ok c =
    is-served_from c.args.airport.now c.horizon-horizon.ensures.rules c.args.ledger.now.state _ c.args.wishes.now c.in_ok-entries.entries.items c.serve_all.new.ledger.state
    (c.in_ok-extend_from_slice.ensures.items ∙ ap (λ ws. ws ++ c.args.wishes.now) c.new-order.ensures.items) refl (rw c.as_slice.ensures.value at c.total_cost-total.ensures)
    (record { asked = c.requires.asked; new = c.requires.new; few = c.requires.few; count = c.requires.count }) c.in_ok-entries.ensures.ok
