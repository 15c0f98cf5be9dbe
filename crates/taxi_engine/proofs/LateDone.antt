-- Of a flight that is late and refused nothing: what comes of it can be written, keeps the state sound, and is due.
use Rattle.std.proofs.Common.{◌≡◌, ℕ, List, Some, None, Result, Ok, Err, OnOk, inl, inr}
use Rattle.std.specs.Prelude.{All}
use Rattle.std.proofs.lemmas.List.Elements.{All-weaker}
use Rattle.taxi_base.specs.Airport.{Airport, IsWellFormed}
use Rattle.taxi_base.specs.State.{State, IsSound}
use Rattle.taxi_base.specs.Late.{Delay}
use Rattle.taxi_text.specs.declared.command.Command.TheVariants as command
use Rattle.replies.specs.declared.entries.Entry.{Entry}
use Rattle.replies.specs.declared.block.Block.TheVariants.{Late}
use Rattle.replies.specs.Printable.{IsName, IsPrintable, IsPrintableEntry}
use Rattle.block_writer.specs.Printed.{IsWritableEntry}
use Rattle.replies.specs.Refusals.{first_refusal}
use Rattle.replies.specs.Replies.{HaveNames}
use Rattle.replies.specs.Repairs.{delay_of, IsRepairTold}
use Rattle.replies.proofs.LateKept.{late-kept}
use Rattle.replies.proofs.LatePrintable.{late-printable, repair-names}
use Rattle.late_repair.specs.Repairing.{IsRepairedAs}
use Rattle.taxi_engine.specs.Engine.{EngineState}
use Rattle.taxi_engine.specs.Done.{IsDoneOrMemory}
use Rattle.taxi_engine.specs.Repaired.{IsRepairedTold}
use Rattle.taxi_engine.proofs.BatchLaws.{printable-writable}

module _ (airport : Airport) (state : State) (well : IsWellFormed airport) (sound : IsSound airport state) (names : HaveNames state) (name : List ℕ) (named : IsName name) (time until : ℕ)
    (none : first_refusal airport state (command.Late name time until) ≡ None) (delay : Delay) (known : delay_of state name time until ≡ Some delay)
    (entries : List (List ℕ × Entry)) (after : State) (done : IsRepairedAs airport state delay entries after) where
  pub told-so : IsRepairTold airport state name time until (Late name entries) after
  told-so = record {
    delay = delay;
    known = known;
    meetings = done.meetings;
    tells = done.tells;
    repaired = done.repaired;
    block_is = λ i. Late name (done.entries_are i);
  }

  fine : IsPrintable airport (Late name entries)
  fine = late-printable airport well state names sound name time until (Late name entries) after named none told-so

  pub told-writable : All (IsWritableEntry airport) entries
  told-writable = All-weaker (IsPrintableEntry airport) (IsWritableEntry airport) (printable-writable airport) entries fine.1.1

  pub told-sound : IsSound airport after
  told-sound = (late-kept airport state sound name time until (Late name entries) after none told-so).stays_sound

  pub told-named : HaveNames after
  told-named = repair-names airport state entries after names (late-kept airport state sound name time until (Late name entries) after none told-so).as_it_says fine.1.1

-- ---- where it is printed

-- what follows from two promises of a call that goes well
pub follows-ok : {A E : Type 0} (r : Result A E) (P Q R : Type 0) → (P → Q → R) → OnOk r P → OnOk r Q → OnOk r R
follows-ok (Ok x) P Q R follows p q = follows p q
follows-ok (Err e) P Q R follows p q = tt

-- ---- it is due

pub late-done : (old new : EngineState) (name : List ℕ) (time until : ℕ) → first_refusal old.airport old.state (command.Late name time until) ≡ None
    → IsRepairedTold name time until old new → IsDoneOrMemory (command.Late name time until) old new
late-done old new name time until none (inr memory) = inr (none, memory)
late-done old new name time until none (inl told) = inl (record {
  reply = record { block = told.block; after = told.after };
  due = rw none told.told;
  done = told.done;
})
