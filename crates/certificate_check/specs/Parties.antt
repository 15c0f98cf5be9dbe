-- When may a work party be put in force?
use Rattle.std.specs.Prelude.{◌≡◌, Some, None}
use Rattle.taxi_base.specs.declared.numbers.Segment.{Segment}
use Rattle.taxi_base.specs.Airport.{Airport, segment_named}
use Rattle.taxi_base.specs.State.{State}
use Rattle.taxi_text.specs.declared.command.Shut.{Shut}
use Rattle.taxi_text.specs.declared.command.Command.TheVariants as command
use Rattle.replies.specs.Refusals.{first_refusal}

-- it is not refused, and this is its segment
pub record MayShut (airport : Airport) (state : State) (asked : Shut) (segment : Segment) : Type 0 where
  pub unrefused : first_refusal airport state (command.Work asked) ≡ None
  pub segment_known : segment_named airport asked.segment ≡ Some segment
