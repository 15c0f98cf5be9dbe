-- What is made: the airport is the grid's, and there are as many commands as flights.
use Rattle.std.proofs.Common.{◌≡◌, ◌≤◌, ◌∙◌, ℕ, List, length, sym, ap, subst}
use Rattle.std.specs.Prelude.{Result, Ok, Err, IfOk}
use Rattle.std.specs.List.{join_with_byte}
use Rattle.std.specs.Str.{byte}
use Rattle.taxi_base.specs.declared.collections.Memory.{Memory}
use Rattle.taxi_base.specs.Airport.{Airport}
use Rattle.taxi_text.specs.Lines.{commands_of}
use Rattle.airport_file.specs.Reading.{airport_of}
use Rattle.traffic_generator.specs.Grid.{grid_airport}
use Rattle.traffic_generator.specs.Flights.{words_of_flight, command_lines}
use Rattle.traffic_generator.proofs.Below.{length-map-below}
use Rattle.generated_run.specs.declared.summary.Summary.{Summary}
use Rattle.generated_run.specs.Summaries.{IsSummaryOf, IsSummary}

ok-same : {T E : Type 0} (one other : T) → ◌≡◌ {A = Result T E} (Ok one) (Ok other) → one ≡ other
ok-same one other e = cc e

pub airport-made : (number side : ℕ) (text bytes : List ℕ) (result : Result Airport Memory) → bytes ≡ text → airport_of text ≡ Ok (grid_airport number side)
    → IfOk result (λ airport. airport_of bytes ≡ Ok airport) → IfOk result (λ airport. airport ≡ grid_airport number side)
airport-made number side text bytes (Ok airport) same made read = ok-same airport (grid_airport number side) (sym read ∙ ap airport_of same ∙ made)
airport-made number side text bytes (Err memory) same made read = tt

pub few-made : (number side flights : ℕ) (text bytes : List ℕ) → bytes ≡ text → commands_of text ≡ command_lines number side flights → flights ≤ 2000 → length (commands_of bytes) ≤ 2000
few-made number side flights text bytes same told few =
    let lines : length (commands_of bytes) ≡ length (command_lines number side flights) = ap (λ (t : List ℕ). length (commands_of t)) same ∙ ap (λ (l : List (List ℕ)). length l) told in
    let count : length (command_lines number side flights) ≡ flights = length-map-below (λ f. join_with_byte (byte " ") (words_of_flight number side f)) flights in
    subst (λ n. n ≤ 2000) (sym (lines ∙ count)) few

pub summary-made : (number side flights : ℕ) (airport : Airport) (text bytes : List ℕ) (result : Result Summary Memory) → airport ≡ grid_airport number side → bytes ≡ text
    → commands_of text ≡ command_lines number side flights → IfOk result (IsSummaryOf airport (commands_of bytes)) → IfOk result (IsSummary number side flights)
summary-made number side flights airport text bytes result made same told is =
    subst (λ a. IfOk result (IsSummaryOf a (command_lines number side flights))) made
    (subst (λ l. IfOk result (IsSummaryOf airport l)) (ap commands_of same ∙ told) is)
