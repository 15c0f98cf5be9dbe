use Rattle.std.proofs.Common.{◌≡◌, ◌∙◌, length, take, sym, ap, subst, arith}
use Rattle.std.proofs.lemmas.List.{take_rest, length-take}
use Rattle.taxi_base.specs.State.{State}
use Rattle.replies.specs.Batches.{IsServed}
use Rattle.replies.proofs.Outcomes.{on_err}
use Rattle.sequence_exchange.proofs.ServedLaws.{IsServed-length}
use Rattle.sequence_exchange.proofs.ServingLaws.{is-err}
use Rattle.sequence_exchange.proofs.ExchangeLaws.{is-taken_out, all-out}
use Rattle.sequence_exchange.proofs.order.Order.exchange.Goals as goal

pub slice_bounds-take_out-count : goal.slice_bounds-take_out-count
slice_bounds-take_out-count c =
    let order = c.args.self.now in
    omega (arith, c.requires.place, ap length c.deref.ensures.value, IsServed-length c.args.airport.now c.requires.served.0 order.wishes.items order.entries.items c.args.ledger.now.state c.requires.served.1.comes_to.served)

pub slice_bounds-take_out-start : goal.slice_bounds-take_out-start
slice_bounds-take_out-start c =
    let order = c.args.self.now in
    omega (arith, c.requires.place, ap length c.deref.ensures.value, IsServed-length c.args.airport.now c.requires.served.0 order.wishes.items order.entries.items c.args.ledger.now.state c.requires.served.1.comes_to.served)

pub exchange_rest-is_cheaper-requires-clause-served : goal.exchange_rest-is_cheaper-requires-clause-served
exchange_rest-is_cheaper-requires-clause-served c =
    let entries = c.args.self.now.entries.items in (
      c.requires.served.0,
      c.args.ledger.now.state,
      is-taken_out c.args.airport.now c.requires.served.0 c.args.self.now c.args.ledger.now.state c.requires.served.1 c.args.place c.take_out.new.ledger.state
          (λ mid wishes new back. c.take_out.ensures.state mid wishes new (rw (c.deref.ensures.value, take_rest entries c.args.place) back)),
    )

pub slice_bounds-take_out-end-then-is_err : goal.slice_bounds-take_out-end-then-is_err
slice_bounds-take_out-end-then-is_err c =
    let order = c.args.self.now in
    let front = is-err c.exchange_rest-is_cheaper.result (sym c.is_err.ensures.value ∙ c.if-is_err.true) c.exchange_rest-is_cheaper.ensures.front in
    omega (
      arith,
      c.requires.place,
      ap length front,
      length-take c.args.place c.exchange_rest-is_cheaper.new.self.entries.items,
      length-take c.args.place order.entries.items,
      ap length c.deref-then-is_err.ensures.value,
      length-take c.args.place c.deref-then-is_err.result.now,
      IsServed-length c.args.airport.now c.requires.served.0 order.wishes.items order.entries.items c.args.ledger.now.state c.requires.served.1.comes_to.served,
    )

pub returns-then-is_err-clause-err : goal.returns-then-is_err-clause-err
returns-then-is_err-clause-err c before served =
    let entries = c.args.self.now.entries.items in
    let failed = sym c.is_err.ensures.value ∙ c.if-is_err.true in
    let front = is-err c.exchange_rest-is_cheaper.result failed c.exchange_rest-is_cheaper.ensures.front in
    let same : c.exchange_rest-is_cheaper.new.ledger.state ≡ c.take_out.new.ledger.state = is-err c.exchange_rest-is_cheaper.result failed c.exchange_rest-is_cheaper.ensures.err in
    let taken = is-taken_out c.args.airport.now before c.args.self.now c.args.ledger.now.state served c.args.place c.take_out.new.ledger.state
    (λ mid wishes new back. c.take_out.ensures.state mid wishes new (rw (c.deref.ensures.value, take_rest entries c.args.place) back)) in
    on_err c.exchange_rest-is_cheaper.result
    (all-out c.args.airport.now before c.args.self.now c.args.ledger.now.state served c.args.place c.take_out.new.ledger.state c.take_out-then-is_err.new.ledger.state
    (take c.args.place c.deref-then-is_err.result.now) taken (ap (take c.args.place) c.deref-then-is_err.ensures.value ∙ front)
    (λ start wishes new first. c.take_out-then-is_err.ensures.state start wishes new
    (subst (λ (s : State). IsServed c.args.airport.now start wishes (take c.args.place c.deref-then-is_err.result.now) s) (sym same) first)))

pub returns-else-is_err-clause-exchanged : goal.returns-else-is_err-clause-exchanged
returns-else-is_err-clause-exchanged c before served =
    let entries = c.args.self.now.entries.items in
    c.exchange_rest-is_cheaper.ensures.exchanged before c.args.ledger.now.state
    (is-taken_out c.args.airport.now before c.args.self.now c.args.ledger.now.state served c.args.place c.take_out.new.ledger.state
    (λ mid wishes new back. c.take_out.ensures.state mid wishes new (rw (c.deref.ensures.value, take_rest entries c.args.place) back)))

pub returns-else-is_err-clause-kept : goal.returns-else-is_err-clause-kept
returns-else-is_err-clause-kept c before served =
    let entries = c.args.self.now.entries.items in
    c.exchange_rest-is_cheaper.ensures.kept before c.args.ledger.now.state
    (is-taken_out c.args.airport.now before c.args.self.now c.args.ledger.now.state served c.args.place c.take_out.new.ledger.state
    (λ mid wishes new back. c.take_out.ensures.state mid wishes new (rw (c.deref.ensures.value, take_rest entries c.args.place) back)))
