-- Which flight does a record of a schedule ask for, and if none, why not?
use Rattle.std.specs.Prelude.{ℕ, Bool, ◌&&◌, nat_lt, if◌then◌else◌, ℤ, pos, negsuc, ◌-ℤ◌, List, [], ◌∷◌, Option, Some, None, is_some, Result, Ok, Err, bytes_eq, codes}
use Rattle.taxi_base.specs.Airport.{Airport, node_named, class_named, is_runway, is_stand, is_node_of}
use Rattle.taxi_text.specs.Commands.{◌>>=◌}
use Rattle.taxi_text.specs.Fields.{name_of, number_of}
use Rattle.schedule_import.specs.declared.row.Movement.{Movement}
use Rattle.schedule_import.specs.declared.row.Movement.TheVariants.{Arrival, Departure}
use Rattle.schedule_import.specs.declared.row.Names.{Names}
use Rattle.schedule_import.specs.declared.row.Row.{Row}
use Rattle.schedule_import.specs.declared.row.RowFault.{RowFault}
use Rattle.schedule_import.specs.declared.row.RowFault.TheVariants as fault
use Rattle.civil_times.specs.Times.{second_of}

-- what a value leads to; the fault where there is none
abbrev pub needs : {A B : Type 0} → Option A → RowFault → (A → Result B RowFault) → Result B RowFault
needs (Some a) why next = next a
needs None why next = Err why

-- what follows where a test holds; the fault where it fails
abbrev pub checks : {B : Type 0} → Bool → RowFault → Result B RowFault → Result B RowFault
checks test why next = if test then next else Err why

-- ---- the record by itself

abbrev pub movement_named : List ℕ → Option Movement
movement_named word =
    if bytes_eq word (codes "arrival") then Some Arrival
    else (if bytes_eq word (codes "departure") then Some Departure
    else None)

-- what the first field says
abbrev pub movement_of : List (List ℕ) → Option Movement
movement_of [] = None
movement_of (word ∷ fields) = movement_named word

-- the names of a row, where each is one
abbrev pub names_of : List ℕ → List ℕ → List ℕ → List ℕ → Option Names
names_of flight class from to =
    name_of flight >>= (λ flight. name_of class >>= (λ class. name_of from >>= (λ from. name_of to >>= (λ to.
    Some (record { flight = flight; class = class; from = from; to = to })))))

-- a row of these names, if they are names, WHEN and HOLD or QUEUE
abbrev pub row_of_words : Movement → Option Names → List ℕ → List ℕ → Result Row RowFault
row_of_words movement names time slack =
    needs names fault.BadName (λ names.
    needs (second_of time) fault.BadTime (λ second.
    needs (number_of slack) fault.BadNumber (λ slack.
    Ok (record { movement = movement; names = names; second = second; slack = slack }))))

-- a record of the seven fields MOVEMENT,FLIGHT,CLASS,FROM,TO,WHEN, and HOLD or QUEUE
abbrev pub row_of_fields : Movement → List (List ℕ) → Result Row RowFault
row_of_fields movement (word ∷ flight ∷ class ∷ from ∷ to ∷ time ∷ slack ∷ []) =
    row_of_words movement (names_of flight class from to) time slack
row_of_fields movement fields = Err fault.FieldCount

-- what a record says, or the first of the five faults that need no airport
abbrev pub row_of : List (List ℕ) → Result Row RowFault
row_of fields = needs (movement_of fields) fault.UnknownRow (λ movement. row_of_fields movement fields)

-- ---- the row at the airport

-- whether the airport has the class and the nodes
abbrev pub are_known : Airport → Names → Bool
are_known airport names =
    is_some (class_named airport names.class) && is_some (node_named airport names.from) && is_some (node_named airport names.to)

-- an arrival taxies from a runway node to a stand, a departure from a stand to a runway node
abbrev pub are_of_kinds : Airport → Movement → Names → Bool
are_of_kinds airport Arrival names = is_node_of is_runway airport names.from && is_node_of is_stand airport names.to
are_of_kinds airport Departure names = is_node_of is_stand airport names.from && is_node_of is_runway airport names.to

-- a number of seconds that is not negative and is below the horizon
abbrev pub time_within : ℕ → ℤ → Option ℕ
time_within horizon (pos n) = if nat_lt n horizon then Some n else None
time_within horizon (negsuc n) = None

-- at which second of the airport's day the row's time comes, for a day that starts at this second; or the first of the
-- three faults that need the airport
abbrev pub time_of_row : Airport → ℤ → Row → Result ℕ RowFault
time_of_row airport start row =
    checks (are_known airport row.names) fault.UnknownName (
    checks (are_of_kinds airport row.movement row.names) fault.WrongKind (
    needs (time_within airport.horizon (row.second -ℤ start)) fault.OutOfDay (λ time. Ok time)))
