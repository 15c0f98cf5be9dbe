-- The windows that are told: they are those that the holders leave, of a segment that is there, and they are few and early.
use Rattle.std.proofs.Common.{◌≡◌, ◌<◌, ◌≤◌, ◌+◌, ℕ, Bool, List, [], ◌∷◌, length, map, get_or, Option, Some, None, bytes_eq, refl, arith}
use Rattle.std.specs.Prelude.{All}
use Rattle.std.proofs.lemmas.Bool.{le-ltb}
use Rattle.std.proofs.lemmas.List.{length-map}
use Rattle.std.proofs.lemmas.List.Elements.{All-head, All-tail, Contains-get_or}
use Rattle.std.proofs.lemmas.List.Quantifiers.{position-Some}
use Rattle.taxi_base.specs.declared.numbers.Segment.{Segment}
use Rattle.taxi_base.specs.declared.rows.Span.{Span}
use Rattle.taxi_base.specs.Airport.{Airport, segment_named, place_of}
use Rattle.taxi_base.specs.Windows.{is_free, AreApart, AreWindows}
use Rattle.taxi_base.specs.State.{State, holds_in}
use Rattle.taxi_base.proofs.WindowLaws.{AreWindows-member, IsWindow-by}
use Rattle.taxi_base.proofs.WindowsMade.{windows_before-are}
use Rattle.replies.specs.CarriedOut.{windows_among}

-- the windows of a segment are those that the holders leave: no second from the horizon on is free
pub windows_among-are : (airport : Airport) (state : State) (segment : Segment)
    → AreWindows (is_free airport.conflicts airport.horizon (holds_in airport state) segment) (windows_among airport state segment)
windows_among-are airport state segment =
    windows_before-are (is_free airport.conflicts airport.horizon (holds_in airport state) segment) airport.horizon (λ t past. rw (le-ltb t airport.horizon past) refl)

-- each begins and ends by the horizon
pub windows_among-by : (airport : Airport) (state : State) (segment : Segment)
    → All (λ w. (w.from < w.until) × (w.until ≤ airport.horizon)) (windows_among airport state segment)
windows_among-by airport state segment = λ k d low.
    let w : Span = get_or windows k d in
    let window = AreWindows-member free windows w (windows_among-are airport state segment) (Contains-get_or windows k d low) in
    (window.some, IsWindow-by free w airport.horizon (λ t past. rw (le-ltb t airport.horizon past) refl) window)
  where
    free : ℕ → Bool
    free = is_free airport.conflicts airport.horizon (holds_in airport state) segment

    windows : List Span
    windows = windows_among airport state segment

count-apart : (low stop : ℕ) (ws : List Span) → AreApart low ws → All (λ w. (w.from < w.until) × (w.until ≤ stop)) ws → low ≤ stop + 1 → low + length ws ≤ stop + 1
count-apart low stop [] apart by early = omega (arith, early)
count-apart low stop (w ∷ ws) apart by early =
    let here = All-head (λ v. (v.from < v.until) × (v.until ≤ stop)) w ws by in
    let rest = count-apart (w.until + 1) stop ws apart.2 (All-tail (λ v. (v.from < v.until) × (v.until ≤ stop)) w ws by) (omega (arith, here.1)) in
    omega (arith, rest, apart.0, apart.1)

-- there are at most as many as there are seconds, and one
pub windows_among-count : (airport : Airport) (state : State) (segment : Segment) → length (windows_among airport state segment) ≤ airport.horizon + 1
windows_among-count airport state segment =
    let count = count-apart 0 airport.horizon (windows_among airport state segment) (windows_among-are airport state segment).apart (windows_among-by airport state segment) (omega arith) in
    omega (arith, count)

-- a segment that has a name is there
pub segment_named-exists : (airport : Airport) (name : List ℕ) (segment : Segment) → segment_named airport name ≡ Some segment → segment.0 < length airport.segments
unfolding segment_named
segment_named-exists airport name segment e = go (place_of name names) refl where
  names : List (List ℕ)
  names = map (λ s. s.name) airport.segments

  go : (o : Option ℕ) → place_of name names ≡ o → segment.0 < length airport.segments
  go None none = absurd (cc (rw none at e))
  go (Some k) found =
      let same : k ≡ segment.0 = cc (rw found at e) in
      let low : k < length names = (position-Some (bytes_eq name) names k [] found).0 in
      omega (arith, same, low, length-map airport.segments (λ s. s.name))
