-- What is found of the entries of a block, one after the other?
use Rattle.std.specs.Prelude.{ℕ, List, [], ◌∷◌, flat_map, All, Option, Result, Ok, Err, ⊤}
use Rattle.taxi_base.specs.State.{State}
use Rattle.replies.specs.declared.entries.Entry.{Entry}
use Rattle.replies.specs.declared.entries.Entry.TheVariants as entry
use Rattle.replies.specs.declared.block.Block.TheVariants.{Route, NoRoute}
use Rattle.replies.specs.declared.rule.Rule.{Rule}
use Rattle.replies.specs.Sought.{Sought}
use Rattle.replies.specs.Turns.{Turn, Telling, in_turns}
use Rattle.replies.specs.Passes.{KeepsTurn, BreaksFirst}
use Rattle.transcripts.specs.declared.refused.CheckRefused.{CheckRefused}
use Rattle.transcripts.specs.declared.refused.CheckRefused.TheVariants.{Wrong, Memory}

-- what an entry tells of a search, with what is sought for its name in the state that it finds
abbrev pub tellings_by : (List ℕ → State → Option Sought) → List ℕ × Entry → List Telling
tellings_by seek (name, entry.Route second steps labels) = record { sought_in = seek name; told = Route name second steps labels } ∷ []
tellings_by seek (name, entry.NoRoute labels) = record { sought_in = seek name; told = NoRoute labels } ∷ []
tellings_by seek (name, entry.Dropped) = []

-- the searches of entries, each in the state after the entry before it
abbrev pub turns_by : (List ℕ → State → Option Sought) → State → List (List ℕ × Entry) → List Turn
turns_by seek state entries = in_turns state (flat_map (tellings_by seek) entries)

-- all searches keep every rule, or this one is the first that they break, or memory ran out
abbrev pub AreChecked : List Turn → Result Unit CheckRefused → Type 0
AreChecked turns (Ok done) = (rule : Rule) → All (λ turn. KeepsTurn turn rule) turns
AreChecked turns (Err (Wrong broken)) = BreaksFirst turns broken
AreChecked turns (Err Memory) = ⊤
