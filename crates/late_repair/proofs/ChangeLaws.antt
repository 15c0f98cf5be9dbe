-- Changes of one holder, and of those that were taken out: what comes back stays the same.
use Rattle.std.proofs.Common.{◌≡◌, ◌∙◌, ℕ, List, map, refl, ap}
use Rattle.std.specs.Prelude.{Contains}
use Rattle.taxi_base.specs.State.{without}
use Rattle.replies.proofs.FlightLaws.{without-none}
use Rattle.commitments.specs.Book.{Book}
use Rattle.commitments.specs.Room.{LosesNoRoom}
use Rattle.late_repair.specs.declared.holder.Holder.{Holder}
use Rattle.late_repair.specs.TakenOut.{name_of, with_holder, with_holders, ChangesOnly, ChangesTheirs}
use Rattle.late_repair.proofs.HolderLaws.{without_all-others, out-absent, with-without}
use Rattle.late_repair.proofs.RoomSteps.{no_loss, no_loss-both}

-- ---- one holder

-- room is made for it
pub only-room : (name : List ℕ) (old new : Book) → new.state ≡ old.state → LosesNoRoom old new → ChangesOnly name old new
only-room name old new same room = record { others = ap (without name) same; room = room }

-- it goes in
pub only-in : (h : Holder) (old new : Book) → new.state ≡ with_holder h old.state → LosesNoRoom old new → ChangesOnly (name_of h) old new
only-in h old new is room = record { others = ap (without (name_of h)) is ∙ with-without h old.state; room = room }

-- or out
pub only-out : (name : List ℕ) (old new : Book) → new.state ≡ without name old.state → LosesNoRoom old new → ChangesOnly name old new
only-out name old new is room = record {
  others = ap (without name) is ∙ without-none name (without name old.state) (out-absent name old.state);
  room = room;
}

pub only-both : (name : List ℕ) (old now new : Book) → ChangesOnly name old now → ChangesOnly name now new → ChangesOnly name old new
only-both name old now new first second = record { others = second.others ∙ first.others; room = no_loss-both old now new first.room second.room }

-- ---- those that were taken out

pub theirs-none : (holders : List Holder) (book : Book) → ChangesTheirs holders book book
theirs-none holders book = record { back = refl; room = no_loss book }

-- a change of one of them
pub theirs-one : (holders : List Holder) (h : Holder) (old new : Book) → Contains (map name_of holders) (name_of h) → ChangesOnly (name_of h) old new → ChangesTheirs holders old new
theirs-one holders h old new there only = record {
  back = ap (with_holders holders) (without_all-others (map name_of holders) (name_of h) old.state new.state there only.others);
  room = only.room;
}

pub theirs-both : (holders : List Holder) (old now new : Book) → ChangesTheirs holders old now → ChangesTheirs holders now new → ChangesTheirs holders old new
theirs-both holders old now new first second = record { back = second.back ∙ first.back; room = no_loss-both old now new first.room second.room }
