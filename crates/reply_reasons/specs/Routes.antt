-- Which route is found for what a line asks, among other holders, and which of two seconds is better?
use Rattle.std.specs.Prelude.{ℕ, ◌≡◌, Bool, true, false, nat_lt, if◌then◌else◌, List, Option, Some, None, option_map}
use Rattle.taxi_base.specs.declared.numbers.Node.{Node}
use Rattle.taxi_base.specs.declared.rows.Step.{Step}
use Rattle.taxi_base.specs.declared.answers.Request.{Request}
use Rattle.taxi_base.specs.declared.answers.Request.TheVariants as request
use Rattle.taxi_base.specs.declared.answers.Found.{Found}
use Rattle.taxi_base.specs.declared.answers.Found.TheVariants as found
use Rattle.taxi_base.specs.declared.answers.Chosen.{Chosen}
use Rattle.taxi_base.specs.declared.answers.Chosen.TheVariants as chosen
use Rattle.taxi_base.specs.Airport.{Airport}
use Rattle.taxi_base.specs.Walks.{Conditions}
use Rattle.taxi_base.specs.State.{State}
use Rattle.taxi_base.specs.Faults.{conditions_in}
use Rattle.taxi_base.specs.Again.{AnswersAgain}
use Rattle.replies.specs.Asked.{AnswersRequest, arrival_any, departure_any, AnswersChoice}
use Rattle.replies.specs.Refusals.{is_departure}
use Rattle.replies.specs.Routed.{second_of}
use Rattle.reply_reasons.specs.declared.asking.Asking.{Asking}
use Rattle.reply_reasons.specs.declared.asking.Way.{Way}
use Rattle.reply_reasons.specs.declared.asking.Way.TheVariants.{New, ToAny, On}

-- the route that is found; none where there is no walk
abbrev pub route_found : Found → Option (List Step)
route_found (found.Route steps labels) = Some steps
route_found (found.NoRoute labels) = None

abbrev pub route_chosen : Chosen → Option (List Step)
route_chosen (chosen.Route to steps labels) = Some steps
route_chosen (chosen.NoRoute labels) = None

-- what answers a request for any of some nodes, and one for the way on from steps at a time, to the node that is asked for
abbrev pub AnswersToAny : Conditions → Request → List Node → Chosen → Type 0
AnswersToAny c request.Filed nodes answer = ⊥
AnswersToAny c (request.Arrival from to time hold) nodes answer = AnswersChoice c (arrival_any from nodes time hold) answer
AnswersToAny c (request.Departure from to time queue) nodes answer = AnswersChoice c (departure_any from nodes time queue) answer

abbrev pub AnswersOn : Conditions → Request → List Step → ℕ → Found → Type 0
AnswersOn c request.Filed steps time answer = ⊥
AnswersOn c (request.Arrival from to asked hold) steps time answer = AnswersAgain c steps time to (request.Arrival from to asked hold) answer
AnswersOn c (request.Departure from to asked queue) steps time answer = AnswersAgain c steps time to (request.Departure from to asked queue) answer

-- The route that is picked for a request, by what it is asked for: of the best of the walks that do so. None where there is no walk.
abbrev pub IsPickedBy : Conditions → Request → Way → Option (List Step) → Type 0
IsPickedBy c asked New route = (answer : Found) × AnswersRequest c asked answer × (route ≡ route_found answer)
IsPickedBy c asked (ToAny nodes) route = (answer : Chosen) × AnswersToAny c asked nodes answer × (route ≡ route_chosen answer)
IsPickedBy c asked (On steps time) route = (answer : Found) × AnswersOn c asked steps time answer × (route ≡ route_found answer)

-- the same of what a line asks, among other holders
abbrev pub IsFoundAmong : Airport → Asking → State → Option (List Step) → Type 0
IsFoundAmong airport asking others route = IsPickedBy (conditions_in airport asking.class others) asking.request asking.way route

-- ---- how good it is

-- the second by which a route is told: an arrival's end, a departure's begin
abbrev pub second_found : Request → Option (List Step) → Option ℕ
second_found asked route = option_map (second_of asked) route

-- the best second among other holders; none where there is no walk
abbrev pub IsBestSecond : Airport → Asking → State → Option ℕ → Type 0
IsBestSecond airport asking others second = (route : Option (List Step)) × IsFoundAmong airport asking others route × (second ≡ second_found asking.request route)

-- a second is better than another: sooner for an arrival, later for a departure; and each is better than none
abbrev pub is_better : Request → ℕ → Option ℕ → Bool
is_better asked second None = true
is_better asked second (Some other) = if is_departure asked then nat_lt other second else nat_lt second other

-- the same where there may be no second, which is better than nothing
abbrev pub is_gain : Request → Option ℕ → Option ℕ → Bool
is_gain asked None other = false
is_gain asked (Some second) other = is_better asked second other
