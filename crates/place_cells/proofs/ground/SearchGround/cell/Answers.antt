use Rattle.std.proofs.Common.{◌≡◌, unwrap_or, ◌∙◌, ap}
use Rattle.taxi_base.specs.Airport.{segment_of, seconds_in}
use Rattle.walk_labels.specs.Places.{Place, place_at}
use Rattle.place_cells.specs.Ground.{last_in, cells_of}
use Rattle.place_cells.specs.Grounds.{ground_of, place_of}
use Rattle.place_cells.proofs.ground.SearchGround.cell.Goals as goal

pub returns : goal.returns
returns c =
    let s = c.args.self.now in
    let at : place_of c.place-place.result ≡ place_at (cells_of (ground_of s)) c.args.cell = c.place-place.ensures in
    let last = c.last.ensures ∙ ap (λ (p : Place). last_in s.horizon s.clearance p.window) at in
    let seconds = c.seconds.ensures ∙ ap (λ (p : Place). unwrap_or (seconds_in s.classes.now.table s.class (segment_of p.arc)) 1) at in
    λ i. record { from = (at i).window.from; last = last i; seconds = seconds i }
