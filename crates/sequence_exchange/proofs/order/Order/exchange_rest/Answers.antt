use Rattle.std.proofs.Common.{◌≡◌, ◌∙◌, ◌++◌, length, take, drop, refl, ap, arith}
use Rattle.std.proofs.lemmas.List.{take_rest}
use Rattle.replies.specs.Batches.{IsServed, exchanged}
use Rattle.replies.proofs.Outcomes.{on_err}
use Rattle.sequence_exchange.specs.Serving.{all_seconds_lost}
use Rattle.sequence_exchange.proofs.OrderLaws.{exchanged-length, swap-exchanged, swapped-back}
use Rattle.sequence_exchange.proofs.ExchangeLaws.{rest-new, rest-few, old-new, old-few, old-served, front-length, entries-length, tried-fair, tried-length, is-exchanged, is-kept}
use Rattle.sequence_exchange.proofs.order.Order.exchange_rest.Goals as goal

pub serve_all-requires-clause-new : goal.serve_all-requires-clause-new
serve_all-requires-clause-new c =
    let wishes = c.args.self.now.wishes.items in
    let place = c.args.place in
    let others = exchanged place wishes in
    let swapped : c.swap.new.self.items ≡ others = c.swap.ensures.items ∙ swap-exchanged place wishes c.requires.place in
    rw (c.deref.ensures.value, swapped, take_rest others place) (rest-new c.args.airport.now c.horizon-horizon.ensures.rules c.requires.served.0 place c.args.self.now c.args.ledger.now.state c.requires.served.1 c.requires.served.2 c.requires.place)

pub serve_all-requires-clause-few : goal.serve_all-requires-clause-few
serve_all-requires-clause-few c =
    let wishes = c.args.self.now.wishes.items in
    let place = c.args.place in
    let others = exchanged place wishes in
    let swapped : c.swap.new.self.items ≡ others = c.swap.ensures.items ∙ swap-exchanged place wishes c.requires.place in
    rw (c.deref.ensures.value, swapped, take_rest others place) (rest-few c.args.airport.now c.horizon-horizon.ensures.rules c.requires.served.0 place c.args.self.now c.args.ledger.now.state c.requires.served.1 c.requires.served.2 c.requires.place)

pub total_with-total-requires-clause-same : goal.total_with-total-requires-clause-same
total_with-total-requires-clause-same c =
    let wishes = c.args.self.now.wishes.items in
    let place = c.args.place in
    let others = exchanged place wishes in
    let swapped : c.swap.new.self.items ≡ others = c.swap.ensures.items ∙ swap-exchanged place wishes c.requires.place in
    let served : IsServed c.args.airport.now c.args.ledger.now.state (drop place others) c.in_ok-tried.tried.items c.serve_all.new.ledger.state =
    rw (c.deref.ensures.value, swapped, take_rest others place) at c.in_ok-tried.ensures.ok in
    omega (arith, tried-length c.args.airport.now c.horizon-horizon.ensures.rules c.requires.served.0 place c.args.self.now c.args.ledger.now.state c.requires.served.1 c.requires.served.2 c.requires.place c.in_ok-tried.tried.items c.serve_all.new.ledger.state served, ap length c.as_slice.ensures.value, ap length swapped, exchanged-length place wishes)

pub total_with-total-requires-clause-front : goal.total_with-total-requires-clause-front
total_with-total-requires-clause-front c =
    let place = c.args.place in
    front-length c.args.airport.now c.horizon-horizon.ensures.rules c.requires.served.0 place c.args.self.now c.args.ledger.now.state c.requires.served.1 c.requires.served.2 c.requires.place

pub total_with-total-requires-clause-fair : goal.total_with-total-requires-clause-fair
total_with-total-requires-clause-fair c =
    let wishes = c.args.self.now.wishes.items in
    let place = c.args.place in
    let others = exchanged place wishes in
    let swapped : c.swap.new.self.items ≡ others = c.swap.ensures.items ∙ swap-exchanged place wishes c.requires.place in
    let served : IsServed c.args.airport.now c.args.ledger.now.state (drop place others) c.in_ok-tried.tried.items c.serve_all.new.ledger.state =
    rw (c.deref.ensures.value, swapped, take_rest others place) at c.in_ok-tried.ensures.ok in
    rw (swapped, c.as_slice.ensures.value) (tried-fair c.args.airport.now c.horizon-horizon.ensures.rules c.requires.served.0 place c.args.self.now c.args.ledger.now.state c.requires.served.1 c.requires.served.2 c.requires.place c.in_ok-tried.tried.items c.serve_all.new.ledger.state served)

pub tell_from-requires : goal.tell_from-requires
tell_from-requires c =
    let wishes = c.args.self.now.wishes.items in
    let place = c.args.place in
    let others = exchanged place wishes in
    let swapped : c.swap.new.self.items ≡ others = c.swap.ensures.items ∙ swap-exchanged place wishes c.requires.place in
    let served : IsServed c.args.airport.now c.args.ledger.now.state (drop place others) c.in_ok-tried.tried.items c.serve_all.new.ledger.state =
    rw (c.deref.ensures.value, swapped, take_rest others place) at c.in_ok-tried.ensures.ok in
    omega (arith, tried-length c.args.airport.now c.horizon-horizon.ensures.rules c.requires.served.0 place c.args.self.now c.args.ledger.now.state c.requires.served.1 c.requires.served.2 c.requires.place c.in_ok-tried.tried.items c.serve_all.new.ledger.state served, entries-length c.args.airport.now c.horizon-horizon.ensures.rules c.requires.served.0 place c.args.self.now c.args.ledger.now.state c.requires.served.1 c.requires.served.2 c.requires.place)

pub returns-then-total-self-clause-exchanged : goal.returns-then-total-self-clause-exchanged
returns-then-total-self-clause-exchanged c before now taken is_cheaper =
    let wishes = c.args.self.now.wishes.items in
    let place = c.args.place in
    let others = exchanged place wishes in
    let swapped : c.swap.new.self.items ≡ others = c.swap.ensures.items ∙ swap-exchanged place wishes c.requires.place in
    let served : IsServed c.args.airport.now c.args.ledger.now.state (drop place others) c.in_ok-tried.tried.items c.serve_all.new.ledger.state =
    rw (c.deref.ensures.value, swapped, take_rest others place) at c.in_ok-tried.ensures.ok in
    let total : c.total_with-total.result ≡ all_seconds_lost others (take place c.args.self.now.entries.items ++ c.in_ok-tried.tried.items) =
    rw (swapped, c.as_slice.ensures.value) at c.total_with-total.ensures in
    is-exchanged c.args.airport.now c.horizon-horizon.ensures.rules before place c.args.self.now c.args.ledger.now.state now taken c.requires.place c.in_ok-tried.tried.items c.serve_all.new.ledger.state served c.tell_from.new.self (c.tell_from.ensures.wishes ∙ swapped) c.tell_from.ensures.entries
    (c.tell_from.ensures.total ∙ total) (omega (arith, c.tell_from.ensures.total, c.if-total-self.true))

pub slice_bounds-put_back-count-2 : goal.slice_bounds-put_back-count-2
slice_bounds-put_back-count-2 c =
    let place = c.args.place in
    omega (arith, c.requires.place, ap length c.deref-3.ensures.value, entries-length c.args.airport.now c.horizon-horizon.ensures.rules c.requires.served.0 place c.args.self.now c.args.ledger.now.state c.requires.served.1 c.requires.served.2 c.requires.place)

pub slice_bounds-put_back-start-2 : goal.slice_bounds-put_back-start-2
slice_bounds-put_back-start-2 c =
    let place = c.args.place in
    omega (arith, c.requires.place, ap length c.deref-3.ensures.value, entries-length c.args.airport.now c.horizon-horizon.ensures.rules c.requires.served.0 place c.args.self.now c.args.ledger.now.state c.requires.served.1 c.requires.served.2 c.requires.place)

pub put_back-requires-clause-served : goal.put_back-requires-clause-served
put_back-requires-clause-served c =
    let wishes = c.args.self.now.wishes.items in
    let place = c.args.place in
    let others = exchanged place wishes in
    let swapped : c.swap.new.self.items ≡ others = c.swap.ensures.items ∙ swap-exchanged place wishes c.requires.place in
    let served : IsServed c.args.airport.now c.args.ledger.now.state (drop place others) c.in_ok-tried.tried.items c.serve_all.new.ledger.state =
    rw (c.deref.ensures.value, swapped, take_rest others place) at c.in_ok-tried.ensures.ok in
    let entries = c.args.self.now.entries.items in
    let back : c.swap-2.new.self.items ≡ wishes = swapped-back place wishes c.swap.new.self.items c.swap-2.new.self.items c.requires.place swapped c.swap-2.ensures.items in
    let out : c.take_out.new.ledger.state ≡ c.args.ledger.now.state =
    c.take_out.ensures.state c.args.ledger.now.state (drop place others) (rest-new c.args.airport.now c.horizon-horizon.ensures.rules c.requires.served.0 place c.args.self.now c.args.ledger.now.state c.requires.served.1 c.requires.served.2 c.requires.place) (rw c.as_slice-2.ensures.value served) in
    (c.requires.served.1, rw (out, c.deref-2.ensures.value, back, c.deref-3.ensures.value, take_rest wishes place, take_rest entries place) (old-served c.args.airport.now c.horizon-horizon.ensures.rules c.requires.served.0 place c.args.self.now c.args.ledger.now.state c.requires.served.1 c.requires.served.2 c.requires.place))

pub put_back-requires-clause-new : goal.put_back-requires-clause-new
put_back-requires-clause-new c =
    let wishes = c.args.self.now.wishes.items in
    let place = c.args.place in
    let others = exchanged place wishes in
    let swapped : c.swap.new.self.items ≡ others = c.swap.ensures.items ∙ swap-exchanged place wishes c.requires.place in
    let served : IsServed c.args.airport.now c.args.ledger.now.state (drop place others) c.in_ok-tried.tried.items c.serve_all.new.ledger.state =
    rw (c.deref.ensures.value, swapped, take_rest others place) at c.in_ok-tried.ensures.ok in
    let back : c.swap-2.new.self.items ≡ wishes = swapped-back place wishes c.swap.new.self.items c.swap-2.new.self.items c.requires.place swapped c.swap-2.ensures.items in
    let out : c.take_out.new.ledger.state ≡ c.args.ledger.now.state =
    c.take_out.ensures.state c.args.ledger.now.state (drop place others) (rest-new c.args.airport.now c.horizon-horizon.ensures.rules c.requires.served.0 place c.args.self.now c.args.ledger.now.state c.requires.served.1 c.requires.served.2 c.requires.place) (rw c.as_slice-2.ensures.value served) in
    rw (out, c.deref-2.ensures.value, back, take_rest wishes place) (old-new c.args.airport.now c.horizon-horizon.ensures.rules c.requires.served.0 place c.args.self.now c.args.ledger.now.state c.requires.served.1 c.requires.served.2 c.requires.place)

pub put_back-requires-clause-few : goal.put_back-requires-clause-few
put_back-requires-clause-few c =
    let wishes = c.args.self.now.wishes.items in
    let place = c.args.place in
    let others = exchanged place wishes in
    let swapped : c.swap.new.self.items ≡ others = c.swap.ensures.items ∙ swap-exchanged place wishes c.requires.place in
    let served : IsServed c.args.airport.now c.args.ledger.now.state (drop place others) c.in_ok-tried.tried.items c.serve_all.new.ledger.state =
    rw (c.deref.ensures.value, swapped, take_rest others place) at c.in_ok-tried.ensures.ok in
    let back : c.swap-2.new.self.items ≡ wishes = swapped-back place wishes c.swap.new.self.items c.swap-2.new.self.items c.requires.place swapped c.swap-2.ensures.items in
    let out : c.take_out.new.ledger.state ≡ c.args.ledger.now.state =
    c.take_out.ensures.state c.args.ledger.now.state (drop place others) (rest-new c.args.airport.now c.horizon-horizon.ensures.rules c.requires.served.0 place c.args.self.now c.args.ledger.now.state c.requires.served.1 c.requires.served.2 c.requires.place) (rw c.as_slice-2.ensures.value served) in
    rw (out, c.deref-2.ensures.value, back, take_rest wishes place) (old-few c.args.airport.now c.horizon-horizon.ensures.rules c.requires.served.0 place c.args.self.now c.args.ledger.now.state c.requires.served.1 c.requires.served.2 c.requires.place)

pub returns-in_err-put_back-clause-err : goal.returns-in_err-put_back-clause-err
returns-in_err-put_back-clause-err c =
    let wishes = c.args.self.now.wishes.items in
    let place = c.args.place in
    let others = exchanged place wishes in
    let swapped : c.swap.new.self.items ≡ others = c.swap.ensures.items ∙ swap-exchanged place wishes c.requires.place in
    let served : IsServed c.args.airport.now c.args.ledger.now.state (drop place others) c.in_ok-tried.tried.items c.serve_all.new.ledger.state =
    rw (c.deref.ensures.value, swapped, take_rest others place) at c.in_ok-tried.ensures.ok in
    let out : c.take_out.new.ledger.state ≡ c.args.ledger.now.state =
    c.take_out.ensures.state c.args.ledger.now.state (drop place others) (rest-new c.args.airport.now c.horizon-horizon.ensures.rules c.requires.served.0 place c.args.self.now c.args.ledger.now.state c.requires.served.1 c.requires.served.2 c.requires.place) (rw c.as_slice-2.ensures.value served) in
    on_err c.from_residual-in_err-put_back.result (c.in_err-put_back.ensures.err ∙ out)

pub returns-clause-kept : goal.returns-clause-kept
returns-clause-kept c before now taken is_dearer =
    let wishes = c.args.self.now.wishes.items in
    let place = c.args.place in
    let others = exchanged place wishes in
    let swapped : c.swap.new.self.items ≡ others = c.swap.ensures.items ∙ swap-exchanged place wishes c.requires.place in
    let served : IsServed c.args.airport.now c.args.ledger.now.state (drop place others) c.in_ok-tried.tried.items c.serve_all.new.ledger.state =
    rw (c.deref.ensures.value, swapped, take_rest others place) at c.in_ok-tried.ensures.ok in
    let entries = c.args.self.now.entries.items in
    let back : c.swap-2.new.self.items ≡ wishes = swapped-back place wishes c.swap.new.self.items c.swap-2.new.self.items c.requires.place swapped c.swap-2.ensures.items in
    let out : c.take_out.new.ledger.state ≡ c.args.ledger.now.state =
    c.take_out.ensures.state c.args.ledger.now.state (drop place others) (rest-new c.args.airport.now c.horizon-horizon.ensures.rules c.requires.served.0 place c.args.self.now c.args.ledger.now.state c.requires.served.1 c.requires.served.2 c.requires.place) (rw c.as_slice-2.ensures.value served) in
    let total : c.total_with-total.result ≡ all_seconds_lost others (take place c.args.self.now.entries.items ++ c.in_ok-tried.tried.items) =
    rw (swapped, c.as_slice.ensures.value) at c.total_with-total.ensures in (
      is-kept c.args.airport.now c.horizon-horizon.ensures.rules before place c.args.self.now c.args.ledger.now.state now taken c.requires.place c.in_ok-tried.tried.items c.serve_all.new.ledger.state served (record (c.args.self.now) { wishes = c.swap-2.new.self }) c.total_with-total.result back refl refl total
          c.if-total-self.false,
      c.in_ok-put_back.ensures.ok now (rw (out, c.deref-2.ensures.value, back, c.deref-3.ensures.value, take_rest wishes place, take_rest entries place) (old-served c.args.airport.now c.horizon-horizon.ensures.rules before place c.args.self.now c.args.ledger.now.state now taken c.requires.place)),
    )
