-- The searches of entries in turn: one for each entry that is not dropped, for what is sought in the state after those before it.
use Rattle.std.proofs.Common.{◌≡◌, ℕ, List, [], ◌∷◌, Some, refl, ap}
use Rattle.std.specs.Prelude.{flat_map}
use Rattle.std.specs.Option.{option_map_or}
use Rattle.taxi_base.specs.Airport.{Airport}
use Rattle.taxi_base.specs.State.{State}
use Rattle.taxi_text.specs.declared.command.Command.{Command}
use Rattle.replies.specs.declared.block.Block.{Block}
use Rattle.replies.specs.declared.block.Block.TheVariants.{Route, NoRoute}
use Rattle.replies.specs.declared.entries.Entry.{Entry}
use Rattle.replies.specs.declared.entries.Entry.TheVariants as entry
use Rattle.replies.specs.Printable.{IsTold}
use Rattle.replies.specs.Sought.{Sought}
use Rattle.replies.specs.Turns.{Turn, told_of, after_told, sought_for, tellings_of, in_turns}

-- what an entry tells, as a block of its own
abbrev pub block_of : List ℕ × Entry → Block
block_of (name, entry.Route second steps labels) = Route name second steps labels
block_of (name, entry.NoRoute labels) = NoRoute labels
block_of (name, entry.Dropped) = NoRoute []

pub told-block : (told : List ℕ × Entry) → IsTold told → told_of told ≡ block_of told ∷ []
told-block (name, entry.Route second steps labels) is = refl
told-block (name, entry.NoRoute labels) is = refl
told-block (name, entry.Dropped) is = absurd is

module _ (airport : Airport) (before : State) (command : Command) where
  -- the searches of entries that answer a command given in a state
  abbrev pub turns_from : State → List (List ℕ × Entry) → List Turn
  turns_from state entries = in_turns state (flat_map (tellings_of airport before command) entries)

  abbrev pub turn_of : Sought → List ℕ × Entry → Turn
  turn_of s told = record { sought = s; told = block_of told }

  -- the first of them, and then those in the state after it
  pub turns-cons : (state : State) (told : List ℕ × Entry) (entries : List (List ℕ × Entry)) (s : Sought) → IsTold told → sought_for airport before command told.0 state ≡ Some s
      → turns_from state (told ∷ entries) ≡ turn_of s told ∷ turns_from (after_told s (block_of told)) entries
  turns-cons state (name, entry.Route second steps labels) entries s is sought =
      ap (λ o. option_map_or (λ s. record { sought = s; told = Route name second steps labels } ∷ turns_from (after_told s (Route name second steps labels)) entries) o []) sought
  turns-cons state (name, entry.NoRoute labels) entries s is sought =
      ap (λ o. option_map_or (λ s. record { sought = s; told = NoRoute labels } ∷ turns_from (after_told s (NoRoute labels)) entries) o []) sought
  turns-cons state (name, entry.Dropped) entries s is sought = absurd is
