use Rattle.std.proofs.Common.{◌≡◌, None}
use Rattle.taxi_base.specs.declared.answers.Flight.{Flight}
use Rattle.commitments.specs.Book.{Fits}
use Rattle.reply_reasons.proofs.LeftOutLaws.{AreTold}
use Rattle.reply_reasons.proofs.searching.Search.push_flights_left_out.Given as goal

abbrev pub invariant-loop-place : goal.invariant-loop-place
invariant-loop-place l = record {
  state : l.others.state ≡ l.initial.others.state;
  fits : Fits l.self.airport.now l.others;
  unlifted : l.others.lifted ≡ None;
  reasons : AreTold l.self.airport.now l.self.asking.now l.initial.others.state l.answer (λ (h : Flight). h.name) l.initial.others.state.flights l.place l.initial.reasons l.reasons;
}
