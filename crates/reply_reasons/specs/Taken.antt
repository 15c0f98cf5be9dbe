-- Which hold is a filed route or a work party refused that a holder stands in the way of, and what is held there meanwhile?
use Rattle.std.specs.Prelude.{ℕ, ◌≡◌, ◌-◌, max, min, Bool, nat_lt, List, ◌∷◌, map, filter, slice_get, Option, Some, None, option_map, option_and_then, if◌then◌else◌, ◌==◌}
use Rattle.std.specs.Option.{option_map_or}
use Rattle.taxi_base.specs.declared.rows.Span.{Span}
use Rattle.taxi_base.specs.declared.rows.HeldRow.{HeldRow}
use Rattle.taxi_base.specs.declared.answers.StepCause.{StepCause}
use Rattle.taxi_base.specs.declared.answers.StepCause.TheVariants.{Taken}
use Rattle.taxi_base.specs.declared.answers.Refusal.{Refusal}
use Rattle.taxi_base.specs.declared.answers.Refusal.TheVariants as refusal
use Rattle.taxi_base.specs.Airport.{Airport, class_named, segment_named, clearance_of}
use Rattle.taxi_base.specs.Windows.{Hold, hold_of}
use Rattle.taxi_base.specs.State.{State, party_hold}
use Rattle.taxi_base.specs.Reports.{AreHeldRows}
use Rattle.taxi_text.specs.declared.command.Filed.{Filed}
use Rattle.taxi_text.specs.declared.command.Command.{Command}
use Rattle.taxi_text.specs.declared.command.Command.TheVariants as command
use Rattle.replies.specs.Asked.{route_filed, party_of}
use Rattle.replies.specs.Refusals.{first_refusal}
use Rattle.reply_reasons.specs.declared.reason.Reason.{Reason}
use Rattle.reply_reasons.specs.declared.reason.Reason.TheVariants as reason

-- a step that a holder stands in the way of: which it is, from which second on, and who that is
pub record Blocked : Type 0 where
  pub step : ℕ
  pub at : ℕ
  pub by : List ℕ

abbrev pub blocked_by : ℕ → StepCause → Option Blocked
blocked_by step (Taken at by) = Some (record { step = step; at = at; by = by })
blocked_by step _ = None

abbrev pub blocked_in : Refusal → Option Blocked
blocked_in (refusal.Step fault) = blocked_by fault.number fault.cause
blocked_in _ = None

-- what the step of a number of a filed route, or a work party, asks to hold
abbrev pub step_asked : Airport → Filed → ℕ → Option Hold
step_asked airport filed number =
    option_and_then (λ class. option_and_then (λ steps. option_map (hold_of airport.horizon (clearance_of airport class)) (slice_get steps (number - 1))) (route_filed airport filed))
    (class_named airport filed.class)

abbrev pub hold_asked : Airport → Command → ℕ → Option Hold
hold_asked airport (command.File filed) number = step_asked airport filed number
hold_asked airport (command.Work shut) number = option_map (λ segment. party_hold (party_of shut segment)) (segment_named airport shut.segment)
hold_asked airport _ number = None

-- such a step for which a command is refused, with the hold that was asked for
pub record Taking : Type 0 where
  pub blocked : Blocked
  pub hold : Hold

abbrev pub taking_due : Airport → State → Command → Option Taking
taking_due airport state command =
    option_and_then (λ blocked. option_map (λ hold. record { blocked = blocked; hold = hold }) (hold_asked airport command blocked.step))
    (option_and_then blocked_in (first_refusal airport state command))

-- a row has a second in common with a span
abbrev pub shares : Span → HeldRow → Bool
shares span row = nat_lt (max span.from row.from) (min span.until row.until)

-- what a row tells
abbrev pub held_reason : HeldRow → Reason
held_reason row = reason.Held row.from row.until row.flight row.segment

-- the refusal, and then what is held of the segment and of those in conflict with it at a second of the span
abbrev pub AreTakenReasons : Airport → State → Taking → List Reason → Type 0
AreTakenReasons airport state taking reasons =
    (rows : List HeldRow) × AreHeldRows airport state taking.hold.segment rows
    × (reasons ≡ reason.Refused taking.blocked.step taking.blocked.at taking.blocked.by ∷ map held_reason (filter (shares taking.hold.span) rows))

-- ---- no public clause cites this

-- when the step at a place of a filed route is entered: at its start, or when the step before is left
abbrev pub entered : Filed → ℕ → ℕ
entered filed place = if place == 0 then filed.start else option_map_or (λ before. before.leave) (slice_get filed.steps (place - 1)) 0
