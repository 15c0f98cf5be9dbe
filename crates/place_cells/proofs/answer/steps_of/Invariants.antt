use Rattle.std.proofs.Common.{◌≡◌, map, take}
use Rattle.label_search.specs.Answer.{step_of}
use Rattle.walk_labels.specs.Places.{place_at}
use Rattle.walk_labels.specs.Requests.{steps_at}
use Rattle.place_cells.specs.Ground.{cells_of}
use Rattle.place_cells.specs.Grounds.{ground_of}
use Rattle.place_cells.proofs.answer.steps_of.Given as goal

abbrev pub invariant-loop-step : goal.invariant-loop-step
invariant-loop-step l = l.steps ≡ steps_at (place_at (cells_of (ground_of l.ground))) (map step_of (take l.step-index l.walk))
