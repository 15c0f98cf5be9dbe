-- What a command is due, from what is known of the names in it.
use Rattle.std.proofs.Common.{◌≡◌, ℕ, List, true, false, Some, None, refl}
use Rattle.taxi_base.specs.declared.numbers.Segment.{Segment}
use Rattle.taxi_base.specs.declared.rows.HeldRow.{HeldRow}
use Rattle.taxi_base.specs.declared.answers.Refusal.{Refusal}
use Rattle.taxi_base.specs.declared.answers.Refusal.TheVariants as refusal
use Rattle.taxi_base.specs.Airport.{Airport, segment_named}
use Rattle.taxi_base.specs.State.{State, parties_without, without}
use Rattle.taxi_base.specs.Reports.{AreHeldRows}
use Rattle.taxi_text.specs.declared.command.Command.{Command}
use Rattle.taxi_text.specs.declared.command.Command.TheVariants as command
use Rattle.replies.specs.declared.block.Block.TheVariants.{Refused, Cancelled, Windows, Occupancy}
use Rattle.replies.specs.Refusals.{is_in_force, is_at_work, first_refusal}
use Rattle.replies.specs.CarriedOut.{windows_among}
use Rattle.replies.specs.Replies.{IsDueTo}

module _ (airport : Airport) (state : State) where
  pub refusal-due : (c : Command) (why : Refusal) → first_refusal airport state c ≡ Some why → IsDueTo airport state c (Refused why) state
  refusal-due c why e = rw e (refl, refl)

  pub cancel-due : (name : List ℕ) → is_in_force name state ≡ true → IsDueTo airport state (command.Cancel name) (Cancelled name) (without name state)
  cancel-due name e = rw e (refl, refl)

  pub cancel-refused : (name : List ℕ) → is_in_force name state ≡ false → IsDueTo airport state (command.Cancel name) (Refused refusal.NotInForce) state
  cancel-refused name e = rw e (refl, refl)

  pub windows-due : (name : List ℕ) (segment : Segment) → segment_named airport name ≡ Some segment
      → IsDueTo airport state (command.Windows name) (Windows segment (windows_among airport state segment)) state
  windows-due name segment e = rw e (record { segment = segment; known = e; reply = (refl, refl) })

  pub windows-refused : (name : List ℕ) → segment_named airport name ≡ None → IsDueTo airport state (command.Windows name) (Refused refusal.UnknownSegment) state
  windows-refused name e = rw e (refl, refl)

  pub occupancy-refused : (name : List ℕ) → segment_named airport name ≡ None → IsDueTo airport state (command.Occupancy name) (Refused refusal.UnknownSegment) state
  occupancy-refused name e = rw e (refl, refl)

  pub occupancy-due : (name : List ℕ) (segment : Segment) (rows : List HeldRow) → segment_named airport name ≡ Some segment → AreHeldRows airport state segment rows
      → IsDueTo airport state (command.Occupancy name) (Occupancy segment rows) state
  occupancy-due name segment rows e held = rw e (record { segment = segment; rows = rows; known = e; held = held; reply = (refl, refl) })

  pub work_done-due : (name : List ℕ) → is_at_work name state ≡ true
      → IsDueTo airport state (command.WorkDone name) (Cancelled name) (record state { parties = parties_without name state.parties })
  work_done-due name e = rw e (refl, refl)

  pub work_done-refused : (name : List ℕ) → is_at_work name state ≡ false → IsDueTo airport state (command.WorkDone name) (Refused refusal.NotInForce) state
  work_done-refused name e = rw e (refl, refl)
