-- Walks that are sought, by how they begin and end.
use Rattle.std.proofs.Common.{List, Option, Some, None}
use Rattle.taxi_base.specs.declared.rows.Step.{Step}
use Rattle.taxi_base.specs.declared.answers.Request.{Request}
use Rattle.taxi_base.specs.declared.answers.Request.TheVariants.{Filed, Arrival, Departure}
use Rattle.taxi_base.specs.Airport.{layout_of}
use Rattle.taxi_base.specs.Walks.{Conditions, IsFeasibleWalk}
use Rattle.replies.specs.Sought.{UnderWay}
use Rattle.check_walks.specs.Course.{IsWalkIn}
use Rattle.check_walks.specs.Steps.{GoesAsAsked}
use Rattle.check_walks.specs.Told.{CanBeSought}
use Rattle.check_walks.proofs.CourseLaws.{goes-walk, walk-goes, walk-feasible}

pub asked-walk : (c : Conditions) (r : Request) (way : Option UnderWay) (steps : List Step) → IsFeasibleWalk c steps → GoesAsAsked (layout_of c.airport) r way steps → CanBeSought c.airport r → IsWalkIn c r way steps
asked-walk c Filed way steps walk goes can = absurd can
asked-walk c (Arrival from to time hold) way steps walk goes can = goes-walk c from to time hold way steps walk goes
asked-walk c (Departure from to time queue) None steps walk goes can = record { walk = walk; begins = goes.0; ends = goes.1 }
asked-walk c (Departure from to time queue) (Some w) steps walk goes can = record { walk = walk; begins = goes.0; ends = goes.1 }

pub walk-asked : (c : Conditions) (r : Request) (way : Option UnderWay) (steps : List Step) → IsWalkIn c r way steps → IsFeasibleWalk c steps × GoesAsAsked (layout_of c.airport) r way steps
walk-asked c Filed None steps met = (met, tt)
walk-asked c Filed (Some w) steps met = absurd met
walk-asked c (Arrival from to time hold) way steps met = (walk-feasible c from to time hold way steps met, walk-goes c from to time hold way steps met)
walk-asked c (Departure from to time queue) None steps met = (met.walk, (met.begins, met.ends))
walk-asked c (Departure from to time queue) (Some w) steps met = (met.walk, (met.begins, met.ends))
