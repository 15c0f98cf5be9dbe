-- When a filed route is due to be accepted.
use Rattle.std.proofs.Common.{◌≡◌, ◌<◌, false, List, Some, None, refl, arith}
use Rattle.std.specs.Prelude.{nat_le}
use Rattle.std.proofs.lemmas.Bool.{lt-leb, leb-false}
use Rattle.taxi_base.specs.declared.numbers.Class.{Class}
use Rattle.taxi_base.specs.declared.rows.Step.{Step}
use Rattle.taxi_base.specs.Airport.{Airport, class_named}
use Rattle.taxi_base.specs.Walks.{begin_of, end_of}
use Rattle.taxi_base.specs.State.{State, holder_count, has_holder, with_flight}
use Rattle.taxi_base.specs.Faults.{route_fault}
use Rattle.taxi_text.specs.declared.command.Filed as text
use Rattle.taxi_text.specs.declared.command.Command.TheVariants.{File}
use Rattle.replies.specs.declared.block.Block.TheVariants.{Filed}
use Rattle.replies.specs.Asked.{route_filed}
use Rattle.replies.specs.Refusals.{most_holders}
use Rattle.replies.specs.CarriedOut.{filed_flight}
use Rattle.replies.specs.Replies.{IsDueTo}

module _ (airport : Airport) (state : State) (filed : text.Filed) (class : Class) (steps : List Step) where
  pub file-due : has_holder filed.flight state ≡ false → class_named airport filed.class ≡ Some class → route_filed airport filed ≡ Some steps
      → holder_count state < most_holders → route_fault airport class state steps ≡ None
      → IsDueTo airport state (File filed) (Filed filed.flight (begin_of steps) (end_of steps)) (with_flight (filed_flight filed.flight class steps) state)
  file-due absent known made room faultless =
      rw (absent, known, made, lt-leb most_holders (holder_count state) room, faultless)
      (record { class = class; steps = steps; class_known = known; steps_known = made; reply = (refl, refl) })

-- there is room where the holders are not too many
pub not-full : (state : State) → nat_le most_holders (holder_count state) ≡ false → holder_count state < most_holders
not-full state e = omega (arith, leb-false most_holders (holder_count state) e)
