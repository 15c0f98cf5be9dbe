-- The small airport with a clearance of ten seconds, and with a work party: the definitions computed on both.
use Rattle.std.proofs.Common.{◌≡◌, ℕ, List, [], ◌∷◌, IsTrue, refl, arith}
use Rattle.std.specs.Prelude.{codes, Some, None}
use Rattle.std.proofs.lemmas.Bool.Decides.{nat_tests}
use Rattle.taxi_base.specs.declared.rows.Step.{Step}
use Rattle.taxi_base.specs.declared.answers.Flight.{Flight}
use Rattle.taxi_base.specs.declared.answers.Party.{Party}
use Rattle.taxi_base.specs.declared.answers.Request.TheVariants.{Filed, Arrival}
use Rattle.taxi_base.specs.declared.answers.StepCause.TheVariants.{TooFast, PastHorizon, Taken}
use Rattle.taxi_base.specs.Airport.{Airport, clearance_of, permits, ends, seconds_in, conflict}
use Rattle.taxi_base.specs.Windows.{Hold, AreWindows, is_free, holds_of, hold_of, clash}
use Rattle.taxi_base.specs.Walks.{Conditions, conditions_among, conditions_in_windows, last_of, Meets}
use Rattle.taxi_base.specs.State.{State, no_holder, holds_in, without, with_flight, with_party}
use Rattle.taxi_base.specs.Faults.{route_fault, hold_fault}
use Rattle.taxi_base.proofs.HoldLaws.{IsFree-from_clash}
use Rattle.taxi_base.proofs.SmallAirport.{small, class_m, step, span, first_route}

-- ---- a clearance

abbrev small_c : Airport
small_c = record small { clearances = 10 ∷ [] }

clearance_of_m : clearance_of small_c class_m ≡ 10
clearance_of_m = refl

-- the first route then shuts A from 100 to 140, C with it, and B from 130 to 160
windows_of_a_10 : AreWindows (is_free small.conflicts small.horizon (holds_of 3600 10 first_route) (record { 0 = 0 })) (span 0 100 ∷ span 140 3600 ∷ [])
unfolding conflict
windows_of_a_10 = record { apart = (omega arith, omega arith, (omega arith, omega arith, tt)); same = λ t. grind (arith, nat_tests) }

windows_of_b_10 : AreWindows (is_free small.conflicts small.horizon (holds_of 3600 10 first_route) (record { 0 = 1 })) (span 0 130 ∷ span 160 3600 ∷ [])
unfolding conflict
windows_of_b_10 = record { apart = (omega arith, omega arith, (omega arith, omega arith, tt)); same = λ t. grind (arith, nat_tests) }

-- a hold ends by the horizon
held_to_the_horizon : hold_of 3600 10 (step 0 3500 3595) ≡ record { segment = record { 0 = 0 }; span = span 3500 3600 }
held_to_the_horizon = refl

-- a step inside a window leaves ten seconds before its end, but at the horizon it needs no clearance; a window that is
-- shorter is left by no step
abbrev within : Conditions
within = conditions_in_windows small class_m 10 []

last_of_a_gap : last_of within (span 110 150) ≡ 140
last_of_a_gap = refl

last_of_the_day : last_of within (span 160 3600) ≡ 3600
last_of_the_day = refl

last_of_a_short_one : last_of within (span 0 5) ≡ 0
last_of_a_short_one = refl

abbrev filed : List ℕ → List Step → Flight
filed name steps = record { name = name; class = class_m; request = Filed; steps = steps }

-- between two flights on A, whose holds leave the seconds from 110 to 150, there is just room for a third
abbrev two_flights : State
two_flights = with_flight (filed (codes "X2") (step 0 150 180 ∷ [])) (with_flight (filed (codes "X1") (step 0 0 100 ∷ [])) no_holder)

third_met : Meets (conditions_among small_c class_m (holds_in small_c two_flights)) (Arrival (record { 0 = 0 }) (record { 0 = 3 }) 110 0) (step 0 110 140 ∷ step 2 140 160 ∷ [])
unfolding permits ends seconds_in conflict
third_met = record {
  walk = (
    record { on_arc = refl; lasts = omega arith; in_time = omega arith; free = IsFree-from_clash small_c (holds_in small_c two_flights) (hold_of 3600 10 (step 0 110 140)) (omega arith) (omega arith) refl },
    record { at_once = refl; permitted = refl },
    record { on_arc = refl; lasts = omega arith; in_time = omega arith; free = IsFree-from_clash small_c (holds_in small_c two_flights) (hold_of 3600 10 (step 2 140 160)) (omega arith) (omega arith) refl },
  );
  begins = record { leaves = refl; not_before = omega arith; not_after = omega arith };
  ends = refl;
}

-- were the second a second sooner, the third would clash with it
no_room : IsTrue (clash small.conflicts (hold_of 3600 10 (step 0 110 140)) (hold_of 3600 10 (step 0 149 179)))
unfolding conflict
no_room = refl

-- A step on A may not leave so late that its clearance runs into the first flight's hold.
abbrev first_in_force : State
first_in_force = with_flight (filed (codes "F1") first_route) no_holder

taken_by_the_first : route_fault small_c class_m first_in_force (step 0 60 91 ∷ []) ≡ Some (record { number = 1; cause = Taken 100 (codes "F1") })
unfolding route_fault permits ends seconds_in conflict
taken_by_the_first = refl

not_taken : route_fault small_c class_m first_in_force (step 0 60 90 ∷ []) ≡ None
unfolding route_fault permits ends seconds_in conflict
not_taken = refl

-- ---- a work party

abbrev w1 : Party
w1 = record { name = codes "W1"; segment = record { 0 = 0 }; from = 100; until = 200 }

abbrev at_work : State
at_work = with_party w1 no_holder

abbrev shut : ℕ → ℕ → ℕ → Hold
shut segment from until = record { segment = record { 0 = segment }; span = span from until }

-- while it is at work on A, C is taken too, and D is not; a span without a second, and one past the horizon, fail first
c_is_taken : hold_fault small at_work (shut 2 150 160) ≡ Some (record { number = 1; cause = Taken 150 (codes "W1") })
unfolding hold_fault conflict
c_is_taken = refl

d_is_free : hold_fault small at_work (shut 3 150 160) ≡ None
unfolding hold_fault conflict
d_is_free = refl

no_second : hold_fault small at_work (shut 3 10 10) ≡ Some (record { number = 1; cause = TooFast })
unfolding hold_fault
no_second = refl

past_the_day : hold_fault small at_work (shut 0 3590 3601) ≡ Some (record { number = 1; cause = PastHorizon })
unfolding hold_fault
past_the_day = refl

-- a flight meets it
stopped : route_fault small class_m at_work (step 0 90 120 ∷ []) ≡ Some (record { number = 1; cause = Taken 100 (codes "W1") })
unfolding route_fault permits ends seconds_in conflict
stopped = refl

-- of a party on A and a flight on C at one second, the name that stands first is told
told_first : hold_fault small (with_flight (filed (codes "Z9") (step 4 50 300 ∷ [])) at_work) (shut 0 190 210) ≡ Some (record { number = 1; cause = Taken 190 (codes "W1") })
unfolding hold_fault conflict
told_first = refl

told_later : hold_fault small (with_flight (filed (codes "F9") (step 4 50 300 ∷ [])) at_work) (shut 0 190 210) ≡ Some (record { number = 1; cause = Taken 190 (codes "F9") })
unfolding hold_fault conflict
told_later = refl

-- when its work is done, nothing is held
work_done : holds_in small (without (codes "W1") at_work) ≡ []
work_done = refl
