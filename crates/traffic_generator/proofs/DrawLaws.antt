-- One draw after the other.
use Rattle.std.proofs.Common.{◌≡◌, ℕ, ◌+◌, refl, ap, add-one, ◌∙◌}
use Rattle.std.specs.Prelude.{◌==◌}
use Rattle.traffic_generator.specs.declared.flights.Flight.{Flight}
use Rattle.traffic_generator.specs.Draws.{next_state, state_after, drawn}
use Rattle.traffic_generator.specs.Flights.{drawn_flight}

pub state-first : (number : ℕ) → state_after number 0 ≡ number
unfolding state_after
state-first number = refl

pub state-more : (number before count old new : ℕ) → old ≡ state_after number before → count ≡ before + 1 → new ≡ next_state old → new ≡ state_after number count
unfolding state_after
state-more number before count old new so_far counted next = rw (counted, add-one) (next ∙ ap next_state so_far)

pub flight-drawn : (number side before : ℕ) (s1 s2 s3 s4 s5 : ℕ) (k q a b t : ℕ) → s1 ≡ state_after number (before + 1) → s2 ≡ state_after number (before + 1 + 1)
    → s3 ≡ state_after number (before + 2 + 1) → s4 ≡ state_after number (before + 3 + 1) → s5 ≡ state_after number (before + 4 + 1)
    → k ≡ drawn s1 2 → q ≡ drawn s2 2 → a ≡ drawn s3 side → b ≡ drawn s4 side → t ≡ drawn s5 7200
    → ◌≡◌ {A = Flight} (record { arrives = k == 0; medium = q == 0; runway = a; stand = b; time = t }) (drawn_flight number side before)
flight-drawn number side before s1 s2 s3 s4 s5 k q a b t e1 e2 e3 e4 e5 d1 d2 d3 d4 d5 = rw (d1, d2, d3, d4, d5, e1, e2, e3, e4, e5) refl
