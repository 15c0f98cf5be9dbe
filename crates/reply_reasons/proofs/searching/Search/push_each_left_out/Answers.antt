use Rattle.std.proofs.Common.{◌≡◌, ◌∙◌, ◌++◌, ℕ, List, map, Option, Result, Ok, Err, OnOk, ap, subst, append_assoc}
use Rattle.taxi_base.specs.Airport.{Airport}
use Rattle.taxi_base.specs.State.{State}
use Rattle.reply_reasons.specs.declared.asking.Asking.{Asking}
use Rattle.reply_reasons.specs.declared.reason.Reason.{Reason}
use Rattle.reply_reasons.specs.Explained.{AreWithout, holder_names}
use Rattle.reply_reasons.proofs.LeftOutLaws.{without-both}
use Rattle.reply_reasons.proofs.searching.Search.push_each_left_out.Goals as goal

-- The work parties follow the flights.
pub returns-clause-reasons : goal.returns-clause-reasons
returns-clause-reasons c =
    let flights = c.in_ok-push_flights_left_out.ensures in
    joined c.args.self.now.airport.now c.args.self.now.asking.now c.args.others.now.state c.push_flights_left_out.new.others.state c.args.answer c.args.reasons.now
    c.push_flights_left_out.new.reasons c.push_parties_left_out.new.reasons c.push_parties_left_out.result flights.state flights.reasons c.push_parties_left_out.ensures.reasons
  where
    joined : {T E : Type 0} (airport : Airport) (asking : Asking) (first second : State) (answer : Option ℕ) (old mid new : List Reason) (r : Result T E) → second ≡ first
        → (more : List Reason) × AreWithout airport asking first answer (map (λ f. f.name) first.flights) more × (mid ≡ old ++ more)
        → OnOk r ((more : List Reason) × AreWithout airport asking second answer (map (λ p. p.name) second.parties) more × (new ≡ mid ++ more))
        → OnOk r ((more : List Reason) × AreWithout airport asking first answer (holder_names first) more × (new ≡ old ++ more))
    joined airport asking first second answer old mid new (Err e) same flights parties = parties
    joined airport asking first second answer old mid new (Ok v) same flights parties =
        let own = subst (λ (s : State). AreWithout airport asking s answer (map (λ p. p.name) s.parties) parties.0) same parties.1 in (
          flights.0 ++ parties.0,
          without-both airport asking first answer (map (λ f. f.name) first.flights) (map (λ p. p.name) first.parties) flights.0 parties.0 flights.1 own,
          parties.2 ∙ ap (λ (t : List Reason). t ++ parties.0) flights.2 ∙ append_assoc old flights.0 parties.0,
        )
