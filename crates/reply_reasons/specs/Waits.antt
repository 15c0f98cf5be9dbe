-- By how much is a route later, or sooner, than was asked, where does it wait, and for whom?
use Rattle.std.specs.Prelude.{ℕ, ◌+◌, ◌-◌, ◌==◌, nat_lt, if◌then◌else◌, List, [], ◌∷◌, ◌++◌, length, flat_map, slice_get, Option, Some, None, option_and_then, unwrap_or}
use Rattle.std.specs.List.{range_with_len}
use Rattle.taxi_base.specs.declared.numbers.Class.{Class}
use Rattle.taxi_base.specs.declared.rows.Step.{Step}
use Rattle.taxi_base.specs.declared.answers.Request.{Request}
use Rattle.taxi_base.specs.declared.answers.Request.TheVariants as request
use Rattle.taxi_base.specs.Airport.{Airport, segment_of, seconds, clearance_of}
use Rattle.taxi_base.specs.Windows.{hold_of}
use Rattle.taxi_base.specs.State.{State}
use Rattle.replies.specs.Refusals.{is_departure}
use Rattle.reply_reasons.specs.declared.reason.Reason.{Reason}
use Rattle.reply_reasons.specs.declared.reason.Reason.TheVariants as reason
use Rattle.reply_reasons.specs.InTheWay.{in_the_way}

-- what there is, as a list
abbrev pub listed : {A : Type 0} → Option A → List A
listed None = []
listed (Some x) = x ∷ []

-- up to when a step holds its segment
abbrev pub held_until : Airport → Class → Step → ℕ
held_until airport class step = (hold_of airport.horizon (clearance_of airport class) step).span.until

-- ---- before the first step, and after the last

-- An arrival that begins after its time is held for whoever is in the way a second before on the segment of its first step.
abbrev pub hold_reason : Airport → State → ℕ → List Step → Option Reason
hold_reason airport others time steps =
    option_and_then (λ first. if nat_lt time first.enter then Some (reason.Hold (first.enter - time) (in_the_way airport others (segment_of first.arc) (first.enter - 1))) else None)
    (slice_get steps 0)

-- A departure that ends before its time comes early for whoever is in the way when its last hold ends, on the segment of that.
abbrev pub queue_reason : Airport → Class → State → ℕ → List Step → Option Reason
queue_reason airport class others time steps =
    option_and_then (λ last. if nat_lt last.leave time then Some (reason.Queue (time - last.leave) (in_the_way airport others (segment_of last.arc) (held_until airport class last))) else None)
    (slice_get steps (length steps - 1))

abbrev pub delay_reason : Airport → Class → State → Request → List Step → Option Reason
delay_reason airport class others request.Filed steps = None
delay_reason airport class others (request.Arrival from to time hold) steps = hold_reason airport others time steps
delay_reason airport class others (request.Departure from to time queue) steps = queue_reason airport class others time steps

-- ---- on the way

-- An arrival waits on a step for whoever is in the way in its last second there, on the segment of the next step.
abbrev pub holder_ahead : Airport → State → List Step → ℕ → Step → Option (List ℕ)
holder_ahead airport others steps place step = option_and_then (λ next. in_the_way airport others (segment_of next.arc) (step.leave - 1)) (slice_get steps (place + 1))

-- A departure waits for whoever is in the way when its hold before ends, on the segment of that.
abbrev pub holder_behind : Airport → Class → State → List Step → ℕ → Option (List ℕ)
holder_behind airport class others steps place =
    option_and_then (λ before. in_the_way airport others (segment_of before.arc) (held_until airport class before)) (if place == 0 then None else slice_get steps (place - 1))

abbrev pub holder_waited_for : Airport → Class → State → Request → List Step → ℕ → Step → Option (List ℕ)
holder_waited_for airport class others asked steps place step =
    if is_departure asked then holder_behind airport class others steps place else holder_ahead airport others steps place step

-- for how many seconds a step takes more than the class's least
abbrev pub seconds_waited : Airport → Class → Step → ℕ
seconds_waited airport class step = step.leave - step.enter - unwrap_or (seconds airport class (segment_of step.arc)) 0

-- the wait on the step at a place; none where there is no such step, or it does not wait
abbrev pub wait_reason : Airport → Class → State → Request → List Step → ℕ → Option Reason
wait_reason airport class others asked steps place =
    option_and_then (λ step. if nat_lt 0 (seconds_waited airport class step)
    then Some (reason.Wait (place + 1) step.arc (seconds_waited airport class step) (holder_waited_for airport class others asked steps place step)) else None)
    (slice_get steps place)

-- of each step in order
abbrev pub wait_reasons : Airport → Class → State → Request → List Step → ℕ → List Reason
wait_reasons airport class others asked steps count = flat_map (λ place. listed (wait_reason airport class others asked steps place)) (range_with_len 0 count)

-- ---- of a route

unfoldable pub route_reasons : Airport → Class → State → Request → List Step → List Reason
route_reasons airport class others asked steps = listed (delay_reason airport class others asked steps) ++ wait_reasons airport class others asked steps (length steps)
