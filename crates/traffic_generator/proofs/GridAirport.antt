-- The airport of a grid keeps the rules.
use Rattle.std.proofs.Common.{◌≡◌, ◌≢◌, ℕ, ◌<◌, ◌≤◌, ◌+◌, ◌*◌, ◌-◌, ◌/◌, ◌%◌, ◌^◌, zero, suc, true, [], ◌∷◌, length, map, refl, sym, ap, subst, arith, ◌∙◌, inl, inr, Some}
use Rattle.std.specs.Prelude.{All, AllPairs, IfSome, ◌==◌, sum_by, codes}
use Rattle.std.proofs.lemmas.Bool.{cases_lt}
use Rattle.std.proofs.lemmas.List.{length-map}
use Rattle.std.proofs.lemmas.List.Elements.{All-nil, All-cons, All-map, All-filter, All-weaker}
use Rattle.std.proofs.lemmas.List.Folds.{fold-map}
use Rattle.std.proofs.lemmas.List.Sums.{length-filter, count_by-le-length}
use Rattle.std.proofs.lemmas.Nat.{mul-le, mul-add-lt, same_from_place, mod_below}
use Rattle.taxi_base.specs.declared.numbers.Node.{Node}
use Rattle.taxi_base.specs.declared.numbers.Segment.{Segment}
use Rattle.taxi_base.specs.Words.{is_name}
use Rattle.taxi_base.specs.Airport.{Airport, AreNames, IsWellFormed, IsConflictSet, ends_at, own_ends, link_of}
use Rattle.airport_text.specs.Canonical.{numbers_below}
use Rattle.traffic_generator.specs.declared.places.Place.{Place}
use Rattle.traffic_generator.specs.declared.places.Way.{Way}
use Rattle.traffic_generator.specs.Draws.{draw, state_after}
use Rattle.traffic_generator.specs.Places.{place_at, places}
use Rattle.traffic_generator.specs.Grid.{node_name, along_row, to_next_row, along_rows, way_at, way_name, node_of, node_row, segment_row, conflict_places, conflict_set, grid_airport, least_time, least_time_of_heavy}
use Rattle.traffic_generator.proofs.TextLaws.{map-map}
use Rattle.traffic_generator.proofs.Below.{length-map-below, All-below, names-below, sum-below-both, sum-below-plus, sum-below-same, one_if_same, once-at-most}
use Rattle.traffic_generator.proofs.PlaceNames.{IsNear, place_name-same, place_name-letter, place_name-valid}
use Rattle.traffic_generator.proofs.GridLaws.{IsSide, IsWithin, place-within, within-near, number-again, place-same, along_rows-most, square-most, way-along, way-down, along-within, down-within, node-low}

-- ---- names

node-names : (side : ℕ) → IsSide side → AreNames 10000 (map (λ k. node_name (place_at side k)) (numbers_below (side * side)))
node-names side is =
    let most = square-most side is in
    let some = is.least in
    let near : (k : ℕ) → k < side * side → IsNear (place_at side k) = λ k low.
    within-near side side (place_at side k) is.most (let high = is.most in omega (arith, high)) (place-within side side k (omega (arith, some)) low) in
    names-below 10000 (side * side) (λ k. node_name (place_at side k)) (omega (arith, most))
    (λ k low. place_name-valid 78 (place_at side k) refl (near k low))
    (λ i j before low e.
    let same = place_name-same 78 78 (place_at side i) (place_at side j) (near i (omega (arith, before, low))) (near j low) e in
    let one : i ≡ j = place-same side i j same.0 same.1 in
    omega (arith, before, one))

-- where a segment begins
pub way-near : (side s : ℕ) → IsSide side → s < 2 * along_rows side → IsNear (way_at side s).from
way-near side s is low = elim (cases_lt s (along_rows side)) [
  | inl along ↦ let high = is.most in
      subst (λ w. IsNear w.from) (sym (way-along side s along)) (within-near side (side - 1) (place_at (side - 1) s) is.most (omega (arith, high)) (along-within side s is along))
  | inr down ↦ let high = is.most in
      subst (λ w. IsNear w.from) (sym (way-down side s down))
      (within-near (side - 1) side (place_at side (s - along_rows side)) (omega (arith, high)) (omega (arith, high)) (down-within side (s - along_rows side) is (omega (arith, low, down))))
]

way-valid : (side s : ℕ) → IsSide side → s < 2 * along_rows side → is_name (way_name (way_at side s)) ≡ true
way-valid side s is low = elim (cases_lt s (along_rows side)) [
  | inl along ↦ subst (λ w. IsNear w.from → is_name (way_name w) ≡ true) (sym (way-along side s along)) (place_name-valid 69 (place_at (side - 1) s) refl) (way-near side s is low)
  | inr down ↦ subst (λ w. IsNear w.from → is_name (way_name w) ≡ true) (sym (way-down side s down)) (place_name-valid 86 (place_at side (s - along_rows side)) refl) (way-near side s is low)
]

ways-differ : (side i j : ℕ) → IsSide side → i < j → j < 2 * along_rows side → way_name (way_at side i) ≢ way_name (way_at side j)
ways-differ side i j is before low e =
    let near : IsNear (way_at side i).from = way-near side i is (omega (arith, before, low)) in
    let close : IsNear (way_at side j).from = way-near side j is low in
    elim (cases_lt j (along_rows side)) [
      | inl along ↦
          let first = way-along side i (omega (arith, before, along)) in
          let second = way-along side j along in
          let same = place_name-same 69 69 (place_at (side - 1) i) (place_at (side - 1) j) (subst (λ w. IsNear w.from) first near) (subst (λ w. IsNear w.from) second close)
          (ap way_name (sym first) ∙ e ∙ ap way_name second) in
          let one : i ≡ j = place-same (side - 1) i j same.0 same.1 in
          omega (arith, before, one)
      | inr down ↦ elim (cases_lt i (along_rows side)) [
        | inl along ↦
            let first = way-along side i along in
            let second = way-down side j down in
            let letters : 69 ≡ 86 = place_name-letter 69 86 (place_at (side - 1) i) (place_at side (j - along_rows side)) (ap way_name (sym first) ∙ e ∙ ap way_name second) in
            absurd (omega (arith, letters))
        | inr past ↦
            let first = way-down side i past in
            let second = way-down side j down in
            let same = place_name-same 86 86 (place_at side (i - along_rows side)) (place_at side (j - along_rows side)) (subst (λ w. IsNear w.from) first near) (subst (λ w. IsNear w.from) second close)
            (ap way_name (sym first) ∙ e ∙ ap way_name second) in
            let one : i - along_rows side ≡ j - along_rows side = place-same side (i - along_rows side) (j - along_rows side) same.0 same.1 in
            omega (arith, before, one, past)
      ]
    ]

segment-names : (side : ℕ) → IsSide side → AreNames 10000 (map (λ s. way_name (way_at side s)) (numbers_below (2 * along_rows side)))
segment-names side is =
    let most = along_rows-most side is in
    names-below 10000 (2 * along_rows side) (λ s. way_name (way_at side s)) (omega (arith, most)) (λ s low. way-valid side s is low) (λ i j before low. ways-differ side i j is before low)

-- ---- ends

pub record JoinsPlaces (side : ℕ) (w : Way) : Type 0 where
  pub from : IsWithin side side w.from
  pub to : IsWithin side side w.to

along-joins : (side : ℕ) (p : Place) → IsSide side → IsWithin side (side - 1) p → JoinsPlaces side (along_row p)
along-joins side p is within =
    let column = within.column in
    record { from = record { row = within.row; column = omega (arith, column) }; to = record { row = within.row; column = omega (arith, column) } }

down-joins : (side : ℕ) (p : Place) → IsSide side → IsWithin (side - 1) side p → JoinsPlaces side (to_next_row p)
down-joins side p is within =
    let row = within.row in
    record { from = record { row = omega (arith, row); column = within.column }; to = record { row = omega (arith, row); column = within.column } }

pub way-joins : (side s : ℕ) → IsSide side → s < 2 * along_rows side → JoinsPlaces side (way_at side s)
way-joins side s is low = elim (cases_lt s (along_rows side)) [
  | inl along ↦ subst (JoinsPlaces side) (sym (way-along side s along)) (along-joins side (place_at (side - 1) s) is (along-within side s is along))
  | inr down ↦ subst (JoinsPlaces side) (sym (way-down side s down))
      (down-joins side (place_at side (s - along_rows side)) is (down-within side (s - along_rows side) is (omega (arith, low, down))))
]

-- ---- how many ends are at a node

-- of segments that all begin at different nodes and end at different nodes, two ends at most are at one
few-ends : (n k : ℕ) (from to : ℕ → ℕ) → ((i j : ℕ) → i < j → j < n → from i ≢ from j) → ((i j : ℕ) → i < j → j < n → to i ≢ to j)
    → sum_by (λ s. one_if_same (from s) k + one_if_same (to s) k) (numbers_below n) ≤ 2
few-ends n k from to one two =
    let both = sum-below-plus (λ s. one_if_same (from s) k) (λ s. one_if_same (to s) k) n in
    let first = once-at-most from n k one in
    let second = once-at-most to n k two in
    omega (arith, both, first, second)

along-few : (side k : ℕ) → IsSide side → sum_by (λ s. own_ends (record { 0 = k }) (link_of (segment_row side (along_row (place_at (side - 1) s))))) (numbers_below (along_rows side)) ≤ 2
along-few side k is =
    few-ends (along_rows side) k (λ s. (node_of side (place_at (side - 1) s)).0) (λ s. (node_of side (along_row (place_at (side - 1) s)).to).0)
    (λ i j before low e.
    let a = along-within side i is (omega (arith, before, low)) in
    let b = along-within side j is low in
    let left = a.column in
    let right = b.column in
    let same = same_from_place (place_at (side - 1) i).row (place_at (side - 1) i).column (place_at (side - 1) j).row (place_at (side - 1) j).column side (omega (arith, left)) (omega (arith, right)) e in
    let one : i ≡ j = place-same (side - 1) i j same.0 same.1 in
    omega (arith, before, one))
    (λ i j before low e.
    let a = along-within side i is (omega (arith, before, low)) in
    let b = along-within side j is low in
    let left = a.column in
    let right = b.column in
    let same = same_from_place (place_at (side - 1) i).row ((place_at (side - 1) i).column + 1) (place_at (side - 1) j).row ((place_at (side - 1) j).column + 1) side (omega (arith, left)) (omega (arith, right)) e in
    let column = same.1 in
    let one : i ≡ j = place-same (side - 1) i j same.0 (omega (arith, column)) in
    omega (arith, before, one))

down-few : (side k : ℕ) → IsSide side → sum_by (λ t. own_ends (record { 0 = k }) (link_of (segment_row side (to_next_row (place_at side t))))) (numbers_below (along_rows side)) ≤ 2
down-few side k is =
    few-ends (along_rows side) k (λ t. (node_of side (place_at side t)).0) (λ t. (node_of side (to_next_row (place_at side t)).to).0)
    (λ i j before low e.
    let one : i ≡ j = sym (number-again side i) ∙ e ∙ number-again side j in
    omega (arith, before, one))
    (λ i j before low e.
    let a = down-within side i is (omega (arith, before, low)) in
    let b = down-within side j is low in
    let same = same_from_place ((place_at side i).row + 1) (place_at side i).column ((place_at side j).row + 1) (place_at side j).column side a.column b.column e in
    let row = same.0 in
    let one : i ≡ j = place-same side i j (omega (arith, row)) same.1 in
    omega (arith, before, one))

ends-few : (side k : ℕ) → IsSide side → ends_at (record { 0 = k }) (map (λ s. segment_row side (way_at side s)) (numbers_below (2 * along_rows side))) ≤ 32
ends-few side k is =
    let node : Node = record { 0 = k } in
    let ends_of : Way → ℕ = λ w. own_ends node (link_of (segment_row side w)) in
    let twice : 2 * along_rows side ≡ along_rows side + along_rows side = omega arith in
    let whole : sum_by (λ s. own_ends node (link_of s)) (map (λ s. segment_row side (way_at side s)) (numbers_below (2 * along_rows side))) ≡ sum_by (λ s. ends_of (way_at side s)) (numbers_below (along_rows side + along_rows side)) =
    fold-map (λ n s. n + own_ends node (link_of s)) (λ s. segment_row side (way_at side s)) 0 (numbers_below (2 * along_rows side)) ∙ ap (λ n. sum_by (λ s. ends_of (way_at side s)) (numbers_below n)) twice in
    let split = sum-below-both (λ s. ends_of (way_at side s)) (along_rows side) (along_rows side) in
    let first : sum_by (λ s. ends_of (way_at side s)) (numbers_below (along_rows side)) ≡ sum_by (λ s. ends_of (along_row (place_at (side - 1) s))) (numbers_below (along_rows side)) =
    sum-below-same _ _ (along_rows side) (λ s low. ap ends_of (way-along side s low)) in
    let second : sum_by (λ t. ends_of (way_at side (along_rows side + t))) (numbers_below (along_rows side)) ≡ sum_by (λ t. ends_of (to_next_row (place_at side t))) (numbers_below (along_rows side)) =
    sum-below-same _ _ (along_rows side) (λ t low. let back : along_rows side + t - along_rows side ≡ t = omega arith in
    ap ends_of (way-down side (along_rows side + t) (omega arith)) ∙ ap (λ u. ends_of (to_next_row (place_at side u))) back) in
    let one = along-few side k is in
    let two = down-few side k is in
    omega (arith, whole, split, first, second, one, two)

-- ---- times

time-range : (least number s : ℕ) → 1 ≤ least → least ≤ 30 → (1 ≤ least + draw number s 41) × (least + draw number s 41 ≤ 3600)
time-range least number s some few =
    let drawn = mod_below (state_after number (s + 1) / 2 ^ 33) 41 (omega arith) in
    (omega (arith, some), omega (arith, few, drawn))

class-times : (least number side : ℕ) → 1 ≤ least → least ≤ 30
    → (length (map (λ s. Some (least + draw number s 41)) (numbers_below (2 * along_rows side))) ≡ length (map (λ s. segment_row side (way_at side s)) (numbers_below (2 * along_rows side))))
    × All (λ n. IfSome n (λ k. (1 ≤ k) × (k ≤ 3600))) (map (λ s. Some (least + draw number s 41)) (numbers_below (2 * along_rows side)))
class-times least number side some few = (
  length-map-below (λ s. Some (least + draw number s 41)) (2 * along_rows side) ∙ sym (length-map-below (λ s. segment_row side (way_at side s)) (2 * along_rows side)),
  All-below (λ n. IfSome n (λ k. (1 ≤ k) × (k ≤ 3600))) (λ s. Some (least + draw number s 41)) (2 * along_rows side) (λ s low. time-range least number s some few),
)

-- ---- conflicts

pub conflict-within : (side : ℕ) → IsSide side → All (IsWithin (side - 1) (side - 1)) (conflict_places side)
conflict-within side is =
    let least = is.least in
    All-filter (λ p. (p.row + p.column) % 5 == 0) (IsWithin (side - 1) (side - 1)) (places (side - 1) (side - 1))
    (All-below (IsWithin (side - 1) (side - 1)) (place_at (side - 1)) ((side - 1) * (side - 1)) (λ k low. place-within (side - 1) (side - 1) k (omega (arith, least)) low))

pub few-conflicts : (side : ℕ) → IsSide side → length (conflict_places side) ≤ 1521
few-conflicts side is =
    let most = is.most in
    let all : (side - 1) * (side - 1) ≤ 1521 = mul-le (side - 1) (side - 1) 39 39 (omega (arith, most)) (omega (arith, most)) in
    let kept = length-filter (λ (p : Place). (p.row + p.column) % 5 == 0) (places (side - 1) (side - 1)) in
    let fewer = count_by-le-length (λ (p : Place). (p.row + p.column) % 5 == 0) (places (side - 1) (side - 1)) in
    let long = length-map-below (place_at (side - 1)) ((side - 1) * (side - 1)) in
    omega (arith, all, kept, fewer, long)

of-two : {A : Type 0} (R : A → A → Type 0) (a b : A) → R a b → AllPairs R (a ∷ b ∷ [])
of-two R a b r zero zero d low few = absurd (omega (arith, low))
of-two R a b r zero (suc zero) d low few = r
of-two R a b r (suc i) (suc zero) d low few = absurd (omega (arith, low))
of-two R a b r i (suc (suc j)) d low few = absurd (omega (arith, few))
of-two R a b r (suc i) zero d low few = absurd (omega (arith, low))

both-of : {A : Type 0} (P : A → Type 0) (a b : A) → P a → P b → All P (a ∷ b ∷ [])
both-of P a b one two = All-cons P a (b ∷ []) one (All-cons P b [] two (All-nil P))

set-valid : (side count : ℕ) (p : Place) → IsSide side → count ≡ 2 * along_rows side → IsWithin (side - 1) (side - 1) p → IsConflictSet count (conflict_set side p)
set-valid side count p is counted within =
    let column = within.column in
    let first : Segment = record { 0 = along_rows side + (p.row * side + p.column) } in
    let second : Segment = record { 0 = along_rows side + (p.row * side + (p.column + 1)) } in
    let low : p.row * side + (p.column + 1) < along_rows side = mul-add-lt p.row side (p.column + 1) (side - 1) within.row (omega (arith, column)) in (
      omega arith,
      omega arith,
      both-of (λ (m : Segment). m.0 < count) first second (omega (arith, counted, low)) (omega (arith, counted, low)),
      of-two (λ (m n : Segment). m.0 < n.0) first second (omega arith),
    )

-- ---- classes

classes-differ : codes "M" ≢ codes "H"
classes-differ e = let letters : ◌≡◌ {A = ℕ} 77 72 = cc e in absurd (omega (arith, letters))

-- ---- all rules

pub grid-well_formed : (number side : ℕ) → IsSide side → IsWellFormed (grid_airport number side)
grid-well_formed number side is =
    let airport : Airport = grid_airport number side in
    let nodes : length airport.nodes ≡ side * side = length-map (places side side) (node_row side) ∙ length-map-below (place_at side) (side * side) in
    let segments : length airport.segments ≡ 2 * along_rows side = length-map-below (λ s. segment_row side (way_at side s)) (2 * along_rows side) in
    record {
      horizon = (omega arith, omega arith);
      nodes = subst (AreNames 10000) (sym (map-map (λ n. n.name) (node_row side) (places side side) ∙ map-map node_name (place_at side) (numbers_below (side * side)))) (node-names side is);
      segments = subst (AreNames 10000) (sym (map-map (λ s. s.name) (λ s. segment_row side (way_at side s)) (numbers_below (2 * along_rows side)))) (segment-names side is);
      classes = record {
        few = omega arith;
        each = both-of (λ name. is_name name ≡ true) (codes "M") (codes "H") refl refl;
        differ = of-two ◌≢◌ (codes "M") (codes "H") classes-differ;
      };
      ends = All-below (λ s. (s.from.0 < length airport.nodes) × (s.to.0 < length airport.nodes)) (λ s. segment_row side (way_at side s)) (2 * along_rows side) (λ s low.
          let joins = way-joins side s is low in
          let from = node-low side (way_at side s).from joins.from in
          let to = node-low side (way_at side s).to joins.to in
          (omega (arith, nodes, from), omega (arith, nodes, to)));
      degree = λ k low. ends-few side k is;
      times = both-of (λ c. (length c.seconds ≡ length airport.segments) × All (λ n. IfSome n (λ k. (1 ≤ k) × (k ≤ 3600))) c.seconds)
          (record { name = codes "M"; seconds = map (λ s. Some (least_time number s)) (numbers_below (2 * along_rows side)) })
          (record { name = codes "H"; seconds = map (λ s. Some (least_time_of_heavy number s)) (numbers_below (2 * along_rows side)) })
          (class-times 20 number side (omega arith) (omega arith)) (class-times 30 number side (omega arith) (omega arith));
      clearances = (refl, both-of (λ g. g ≤ 600) 0 0 (omega arith) (omega arith));
      few_forbidden = omega arith;
      forbidden = λ k d low. absurd (omega (arith, low));
      forbidden_order = λ i j d before low. absurd (omega (arith, low));
      few_conflicts = let few = few-conflicts side is in let long = length-map (conflict_places side) (conflict_set side) in omega (arith, few, long);
      conflicts = All-map (IsConflictSet (length airport.segments)) (conflict_set side) (conflict_places side)
          (All-weaker (IsWithin (side - 1) (side - 1)) (λ p. IsConflictSet (length airport.segments) (conflict_set side p)) (λ p within. set-valid side (length airport.segments) p is segments within)
          (conflict_places side) (conflict-within side is));
    }
