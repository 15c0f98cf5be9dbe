use Rattle.std.proofs.Common.{◌≡◌, ◌∙◌, ℕ, List, Result, Ok, Err, IfOk, ap, subst}
use Rattle.taxi_base.specs.Airport.{Airport, IsWellFormed}
use Rattle.airport_file.specs.Reading.{airport_of}
use Rattle.airport_text.specs.Canonical.{canonical_text}
use Rattle.airport_text.proofs.Again.{text-again}
use Rattle.airport_text.proofs.RecordLaws.{records-then, whole-text}
use Rattle.airport_text.proofs.write.write_airport.Goals as goal

-- Each kind's records follow those of the kinds before.
pub returns : goal.returns
returns c =
    let from_turns = records-then _ _ _ _ _ c.in_ok-write_turns.ensures c.in_ok-write_conflicts.ensures in
    let from_clearances = records-then _ _ _ _ _ c.in_ok-write_clearances.ensures from_turns in
    let from_times = records-then _ _ _ _ _ c.in_ok-write_times.ensures from_clearances in
    let from_segments = records-then _ _ _ _ _ c.in_ok-write_segments.ensures from_times in
    let from_classes = records-then _ _ _ _ _ c.in_ok-write_classes.ensures from_segments in
    let from_nodes = records-then _ _ _ _ _ c.in_ok-write_nodes.ensures from_classes in
    let from_horizon = records-then _ _ _ _ _ c.in_ok-write_horizon.ensures.text from_nodes in
    let all = records-then _ _ _ _ _ c.in_ok-write_first.ensures from_horizon in
    let whole = whole-text c.args.airport.now _ _ c.new-records.ensures all in
    let written = subst (λ t. IfOk c.finish.result (λ text. text.items ≡ t)) whole c.finish.ensures in
    record { text = written; again = read-back c.args.airport.now (λ text. text.items) c.finish.result c.in_ok-write_horizon.ensures.rules written }
  where
    read-back : {T E : Type 0} (airport : Airport) (items : T → List ℕ) (r : Result T E) → IsWellFormed airport
        → IfOk r (λ text. items text ≡ canonical_text airport) → IfOk r (λ text. airport_of (items text) ≡ Ok airport)
    read-back airport items (Ok text) rules e = ap airport_of e ∙ text-again airport rules
    read-back airport items (Err why) rules e = e
