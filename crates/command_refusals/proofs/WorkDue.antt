-- When a work party is due to be accepted.
use Rattle.std.proofs.Common.{◌≡◌, ◌<◌, false, Some, None, refl}
use Rattle.std.proofs.lemmas.Bool.{lt-leb}
use Rattle.taxi_base.specs.declared.numbers.Segment.{Segment}
use Rattle.taxi_base.specs.Airport.{Airport, segment_named}
use Rattle.taxi_base.specs.State.{State, holder_count, has_holder, with_party}
use Rattle.taxi_base.specs.Faults.{hold_fault}
use Rattle.taxi_text.specs.declared.command.Shut.{Shut}
use Rattle.taxi_text.specs.declared.command.Command.TheVariants as command
use Rattle.replies.specs.declared.block.Block.TheVariants.{Filed}
use Rattle.replies.specs.Refusals.{most_holders}
use Rattle.replies.specs.Asked.{party_of}
use Rattle.replies.specs.Replies.{IsDueTo}

module _ (airport : Airport) (state : State) where
  pub work-due : (shut : Shut) (segment : Segment) → has_holder shut.name state ≡ false → segment_named airport shut.segment ≡ Some segment
      → holder_count state < most_holders → hold_fault airport state (record { segment = segment; span = record { from = shut.from; until = shut.until } }) ≡ None
      → IsDueTo airport state (command.Work shut) (Filed shut.name shut.from shut.until) (with_party (party_of shut segment) state)
  work-due shut segment absent known room faultless =
      rw (absent, known, lt-leb most_holders (holder_count state) room, faultless) (record { segment = segment; segment_known = known; reply = (refl, refl) })
