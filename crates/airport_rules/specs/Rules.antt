-- How one record is judged against the records before it.
use Rattle.std.specs.Prelude.{ℕ, ◌/◌, ◌==◌, ◌&&◌, ◌||◌, not, nat_lt, nat_le, Bool, true, false, if◌then◌else◌, List, [], ◌∷◌, ◌++◌, length, fold, insert, Option, Some, None, is_some, Result, Ok, Err, codes, bytes_eq}
use Rattle.std.specs.List.{list_all, list_any, position_or_len}
use Rattle.taxi_base.specs.declared.numbers.Segment.{Segment}
use Rattle.taxi_base.specs.declared.numbers.Arc.{Arc}
use Rattle.taxi_base.specs.declared.numbers.Class.{Class}
use Rattle.taxi_base.specs.declared.rows.Kind.{Kind}
use Rattle.taxi_base.specs.declared.rows.Kind.TheVariants.{Runway, Junction, Stand}
use Rattle.taxi_base.specs.Words.{is_name}
use Rattle.taxi_base.specs.Airport.{Link, Layout, place_of, arc_of, meet, head, tail, has_member, pair_precedes, is_forbidden, link_ends}
use Rattle.taxi_text.specs.Fields.{number_of, arc_word_of}
use Rattle.airport_rules.specs.declared.rows.TimeRow.{TimeRow}
use Rattle.airport_rules.specs.declared.rows.ClearanceRow.{ClearanceRow}
use Rattle.airport_rules.specs.declared.version.Version.{Version}
use Rattle.airport_rules.specs.declared.faults.LimitKind.TheVariants.{Nodes, Classes, Segments, Ends, Forbids, Sets}
use Rattle.airport_rules.specs.declared.faults.AirportFault.{AirportFault}
use Rattle.airport_rules.specs.declared.faults.AirportFault.TheVariants.{UnknownRow, FieldCount, BadName, NameTwice, UnknownName, BadWord, BadNumber, NoSuchArc, RowTwice, Limit}
use Rattle.airport_rules.specs.Versions.{gives_clearances}
use Rattle.airport_rules.specs.Plan.{Plan, layout_of_plan}

-- ---- rules

infixl 10 ◌>>=◌
abbrev pub ◌>>=◌ : {A B : Type 0} → Result A AirportFault → (A → Result B AirportFault) → Result B AirportFault
(Ok x) >>= f = f x
(Err why) >>= f = Err why

-- what there is, or else the fault
abbrev pub some_or : {A : Type 0} → AirportFault → Option A → Result A AirportFault
some_or why (Some x) = Ok x
some_or why None = Err why

-- the fault where the test passes
abbrev pub refused : AirportFault → Bool → Result (Unit {0}) AirportFault
refused why test = if test then Err why else Ok tt

-- ---- words

-- whether a name was given
abbrev pub is_given : List ℕ → List (List ℕ) → Bool
is_given name names = is_some (place_of name names)

abbrev pub kind_of : List ℕ → Option Kind
kind_of word =
    if bytes_eq word (codes "runway") then Some Runway
    else (if bytes_eq word (codes "junction") then Some Junction
    else (if bytes_eq word (codes "stand") then Some Stand
    else None))

-- whether the direction is both ways
abbrev pub both_of : List ℕ → Option Bool
both_of word = if bytes_eq word (codes "both") then Some true else (if bytes_eq word (codes "one") then Some false else None)

-- a number from the least to the most
abbrev pub within : ℕ → ℕ → Option ℕ → Option ℕ
within least most (Some n) = if nat_le least n && nat_le n most then Some n else None
within least most None = None

abbrev pub number_within : ℕ → ℕ → List ℕ → Option ℕ
number_within least most word = within least most (number_of word)

-- ---- the rows

-- HORIZON
abbrev pub judge_horizon : Plan → List ℕ → Result Plan AirportFault
judge_horizon plan number = do
  horizon ← some_or BadNumber (number_within 1 604800 number)
  _ ← refused RowTwice (is_some plan.horizon)
  Ok (record plan { horizon = Some horizon })

-- NAME KIND
abbrev pub judge_node : Plan → List ℕ → List ℕ → Result Plan AirportFault
judge_node plan name kind = do
  _ ← refused BadName (not (is_name name))
  _ ← refused NameTwice (is_given name plan.nodes)
  kind ← some_or BadWord (kind_of kind)
  _ ← refused (Limit Nodes) (nat_le 10000 (length plan.nodes))
  Ok (record plan { nodes = plan.nodes ++ name ∷ []; kinds = plan.kinds ++ kind ∷ [] })

-- NAME
abbrev pub judge_class : Plan → List ℕ → Result Plan AirportFault
judge_class plan name = do
  _ ← refused BadName (not (is_name name))
  _ ← refused NameTwice (is_given name plan.classes)
  _ ← refused (Limit Classes) (nat_le 32 (length plan.classes))
  Ok (record plan { classes = plan.classes ++ name ∷ [] })

-- whether at an end of the last link there are more than 32 ends of segments
abbrev pub is_crowded : List Link → Link → Bool
is_crowded links link = nat_lt 32 (link_ends link.from (links ++ link ∷ [])) || nat_lt 32 (link_ends link.to (links ++ link ∷ []))

-- a segment from a node to another
abbrev pub judge_link : Plan → List ℕ → Link → Result Plan AirportFault
judge_link plan name link = do
  _ ← refused (Limit Segments) (nat_le 10000 (length plan.segments))
  _ ← refused (Limit Ends) (is_crowded plan.links link)
  Ok (record plan { segments = plan.segments ++ name ∷ []; links = plan.links ++ link ∷ [] })

-- NAME NODE NODE DIRECTION
abbrev pub judge_segment : Plan → List ℕ → List ℕ → List ℕ → List ℕ → Result Plan AirportFault
judge_segment plan name from to direction = do
  _ ← refused BadName (not (is_name name && is_name from && is_name to))
  _ ← refused NameTwice (is_given name plan.segments)
  from ← some_or UnknownName (place_of from plan.nodes)
  to ← some_or UnknownName (place_of to plan.nodes)
  both ← some_or BadWord (both_of direction)
  judge_link plan name (record { from = record { 0 = from }; to = record { 0 = to }; both = both })

-- whether a class has a time on a segment
abbrev pub is_timed : Segment → Class → List TimeRow → Bool
is_timed segment class times = list_any (λ t. t.segment.0 == segment.0 && t.class.0 == class.0) times

-- SEGMENT CLASS SECONDS
abbrev pub judge_seconds : Plan → List ℕ → List ℕ → List ℕ → Result Plan AirportFault
judge_seconds plan segment class number = do
  _ ← refused BadName (not (is_name segment && is_name class))
  segment ← some_or UnknownName (place_of segment plan.segments)
  class ← some_or UnknownName (place_of class plan.classes)
  seconds ← some_or BadNumber (number_within 1 3600 number)
  _ ← refused RowTwice (is_timed (record { 0 = segment }) (record { 0 = class }) plan.times)
  Ok (record plan { times = plan.times ++ record { segment = record { 0 = segment }; class = record { 0 = class }; seconds = seconds } ∷ [] })

-- whether a class was given its clearance, be it 0
abbrev pub has_clearance : Class → List ClearanceRow → Bool
has_clearance class rows = list_any (λ r. r.class.0 == class.0) rows

-- CLASS SECONDS
abbrev pub judge_clearance : Plan → List ℕ → List ℕ → Result Plan AirportFault
judge_clearance plan class number = do
  _ ← refused BadName (not (is_name class))
  class ← some_or UnknownName (place_of class plan.classes)
  seconds ← some_or BadNumber (number_within 0 600 number)
  _ ← refused RowTwice (has_clearance (record { 0 = class }) plan.clearances)
  Ok (record plan { clearances = plan.clearances ++ record { class = record { 0 = class }; seconds = seconds } ∷ [] })

-- whether the way goes on from the first arc to the second, on another segment
abbrev pub goes_on : Layout → Arc → Arc → Bool
goes_on layout x y = meet (head layout x) (tail layout y) && not (x.0 / 2 == y.0 / 2)

-- the pairs with one more, before the first that it precedes
abbrev pub with_pair : Arc × Arc → List (Arc × Arc) → List (Arc × Arc)
with_pair pair [] = pair ∷ []
with_pair pair (p ∷ pairs) = if pair_precedes pair p then pair ∷ p ∷ pairs else p ∷ with_pair pair pairs

-- a turn that is to be forbidden
abbrev pub judge_turn : Plan → Arc → Arc → Result Plan AirportFault
judge_turn plan x y = do
  _ ← refused NoSuchArc (not (goes_on (layout_of_plan plan) x y))
  _ ← refused RowTwice (is_forbidden plan.forbidden x y)
  _ ← refused (Limit Forbids) (nat_le 50000 (length plan.forbidden))
  Ok (record plan { forbidden = with_pair (x, y) plan.forbidden })

-- ARC ARC
abbrev pub judge_forbid : Plan → List ℕ → List ℕ → Result Plan AirportFault
judge_forbid plan x y = do
  x ← some_or BadName (arc_word_of x)
  y ← some_or BadName (arc_word_of y)
  first ← some_or UnknownName (place_of x.0 plan.segments)
  second ← some_or UnknownName (place_of y.0 plan.segments)
  judge_turn plan (arc_of (record { 0 = first }) x.1) (arc_of (record { 0 = second }) y.1)

abbrev pub with_segment : Option ℕ → Option (List Segment) → Option (List Segment)
with_segment (Some s) (Some members) = Some (record { 0 = s } ∷ members)
with_segment (Some s) None = None
with_segment None members = None

-- the segments of names; none where one was not given
abbrev pub members_of : List (List ℕ) → List (List ℕ) → Option (List Segment)
members_of segments [] = Some []
members_of segments (name ∷ names) = with_segment (place_of name segments) (members_of segments names)

-- whether a segment stands twice
abbrev pub repeats : List Segment → Bool
repeats [] = false
repeats (m ∷ members) = has_member members m || repeats members

-- segments with one more, before the first that is not below it
abbrev pub with_member : List Segment → Segment → List Segment
with_member set m = insert set (position_or_len (λ s. nat_le m.0 s.0) set) m

abbrev pub in_order : List Segment → List Segment
in_order members = fold with_member [] members

-- segments that are to conflict
abbrev pub judge_members : Plan → List Segment → Result Plan AirportFault
judge_members plan members = do
  _ ← refused RowTwice (repeats members)
  _ ← refused (Limit Sets) (nat_le 10000 (length plan.conflicts))
  Ok (record plan { conflicts = plan.conflicts ++ in_order members ∷ [] })

-- SEGMENT SEGMENT ..
abbrev pub judge_conflict : Plan → List (List ℕ) → Result Plan AirportFault
judge_conflict plan names = do
  _ ← refused BadName (not (list_all is_name names))
  members ← some_or UnknownName (members_of plan.segments names)
  judge_members plan members

-- ---- a record

abbrev pub judge_horizon_row : Plan → List (List ℕ) → Result Plan AirportFault
judge_horizon_row plan (number ∷ []) = judge_horizon plan number
judge_horizon_row plan _ = Err FieldCount

abbrev pub judge_node_row : Plan → List (List ℕ) → Result Plan AirportFault
judge_node_row plan (name ∷ kind ∷ []) = judge_node plan name kind
judge_node_row plan _ = Err FieldCount

abbrev pub judge_class_row : Plan → List (List ℕ) → Result Plan AirportFault
judge_class_row plan (name ∷ []) = judge_class plan name
judge_class_row plan _ = Err FieldCount

abbrev pub judge_segment_row : Plan → List (List ℕ) → Result Plan AirportFault
judge_segment_row plan (name ∷ from ∷ to ∷ direction ∷ []) = judge_segment plan name from to direction
judge_segment_row plan _ = Err FieldCount

abbrev pub judge_seconds_row : Plan → List (List ℕ) → Result Plan AirportFault
judge_seconds_row plan (segment ∷ class ∷ number ∷ []) = judge_seconds plan segment class number
judge_seconds_row plan _ = Err FieldCount

abbrev pub judge_clearance_row : Plan → List (List ℕ) → Result Plan AirportFault
judge_clearance_row plan (class ∷ number ∷ []) = judge_clearance plan class number
judge_clearance_row plan _ = Err FieldCount

abbrev pub judge_forbid_row : Plan → List (List ℕ) → Result Plan AirportFault
judge_forbid_row plan (x ∷ y ∷ []) = judge_forbid plan x y
judge_forbid_row plan _ = Err FieldCount

-- 2 to 16 members
abbrev pub judge_conflict_row : Plan → List (List ℕ) → Result Plan AirportFault
judge_conflict_row plan names = if nat_le 2 (length names) && nat_le (length names) 16 then judge_conflict plan names else Err FieldCount

-- the row that the first field names in a file of this version
abbrev pub judge_row : Version → Plan → List ℕ → List (List ℕ) → Result Plan AirportFault
judge_row version plan word fields =
    if bytes_eq word (codes "horizon") then judge_horizon_row plan fields
    else (if bytes_eq word (codes "node") then judge_node_row plan fields
    else (if bytes_eq word (codes "class") then judge_class_row plan fields
    else (if bytes_eq word (codes "segment") then judge_segment_row plan fields
    else (if bytes_eq word (codes "seconds") then judge_seconds_row plan fields
    else (if bytes_eq word (codes "forbid") then judge_forbid_row plan fields
    else (if bytes_eq word (codes "conflict") then judge_conflict_row plan fields
    else (if bytes_eq word (codes "clearance") && gives_clearances version then judge_clearance_row plan fields
    else Err UnknownRow)))))))

-- a record after the first: the plan with it, or the first rule that it breaks
unfoldable pub judge : Version → Plan → List (List ℕ) → Result Plan AirportFault
judge version plan [] = Err UnknownRow
judge version plan (word ∷ fields) = judge_row version plan word fields
