-- What is taken out again leaves all as it was.
use Rattle.std.proofs.Common.{◌≡◌, ◌≢◌, ◌∙◌, ℕ, List, inl, inr, sym, ap, subst, IsFalse}
use Rattle.std.specs.Prelude.{All, bytes_eq}
use Rattle.std.proofs.lemmas.List.Elements.{All-weaker}
use Rattle.taxi_base.specs.declared.answers.Flight.{Flight}
use Rattle.taxi_base.specs.declared.answers.Party.{Party}
use Rattle.taxi_base.specs.declared.rows.LabelRow.{LabelRow}
use Rattle.taxi_base.specs.declared.rows.Step.{Step}
use Rattle.taxi_base.specs.Airport.{Airport}
use Rattle.taxi_base.specs.State.{State, has_holder, with_flight, with_party, without, IsSound}
use Rattle.taxi_base.proofs.StateLaws.{no_holder-parties}
use Rattle.replies.specs.declared.block.Block.{Block}
use Rattle.replies.specs.declared.block.Block.TheVariants.{Route, Filed, Cancelled}
use Rattle.replies.specs.Replies.{IsReply, IsAnswered, IsFlightIn, IsPartyIn}
use Rattle.replies.proofs.FlightLaws.{without-none}
use Rattle.replies.proofs.ReplyLaws.{IsAnswered-sound}
use Rattle.sequence_exchange.proofs.NewLaws.{differ-not_same, put_in-left_out, with_flight-without}

with_party-without : (party : Party) (state : State) → IsFalse (has_holder party.name state) → without party.name (with_party party state) ≡ state
with_party-without party state none =
    let parties = put_in-left_out (λ (p : Party). p.name) party state.parties
    (All-weaker (λ p. IsFalse (bytes_eq p.name party.name)) (λ p. p.name ≢ party.name) (λ p other. differ-not_same p.name party.name other) state.parties (no_holder-parties party.name state none)) in
    let flights = ap (λ (s : State). s.flights) (without-none party.name state none) in
    λ i. record { flights = flights i; parties = parties i }

module _ (airport : Airport) (state mid after : State) (line other name : List ℕ) (sound : IsSound airport state) (none : IsFalse (has_holder name state)) where
  absent : (own : List ℕ) → own ≡ name → IsFalse (has_holder own state)
  absent own is = subst (λ n. IsFalse (has_holder n state)) (sym is) none

  answered : (block : Block) → IsReply airport state line block mid → IsAnswered airport state line block mid
  answered block asked = IsAnswered-sound airport state line block mid sound asked

  gone : (block : Block) → IsReply airport state line block mid → IsReply airport mid other (Cancelled name) after → after ≡ without name mid
  gone block asked cancelled = (IsAnswered-sound airport mid other (Cancelled name) after (answered block asked).sound cancelled).as_it_says.1

  out-flight : (flight : Flight) → flight.name ≡ name → without name (with_flight flight state) ≡ state
  out-flight flight is = subst (λ n. without n (with_flight flight state) ≡ state) is (with_flight-without flight state (absent flight.name is))

  out-party : (party : Party) → party.name ≡ name → without name (with_party party state) ≡ state
  out-party party is = subst (λ n. without n (with_party party state) ≡ state) is (with_party-without party state (absent party.name is))

  pub route-back : (second : ℕ) (steps : List Step) (labels : List LabelRow) → IsReply airport state line (Route name second steps labels) mid → IsReply airport mid other (Cancelled name) after → after ≡ state
  route-back second steps labels asked cancelled =
      let says = (answered (Route name second steps labels) asked).as_it_says in
      let flight : Flight = says.0 in
      let alone : without flight.name state ≡ state = without-none flight.name state (absent flight.name says.1) in
      gone (Route name second steps labels) asked cancelled ∙ ap (without name) (says.3 ∙ ap (with_flight flight) alone) ∙ out-flight flight says.1

  pub filed-back : (start end : ℕ) → IsReply airport state line (Filed name start end) mid → IsReply airport mid other (Cancelled name) after → after ≡ state
  filed-back start end asked cancelled = gone (Filed name start end) asked cancelled ∙ elim (answered (Filed name start end) asked).as_it_says [
    | inl flight ↦ ap (without name) flight.goes_in ∙ out-flight flight.flight flight.name_told
    | inr party ↦ ap (without name) party.goes_in ∙ out-party party.party party.name_told
  ]
