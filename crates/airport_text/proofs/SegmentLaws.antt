-- The arcs of an airport's segments, and those of its turns.
use Rattle.std.proofs.Common.{codes, ◌≡◌, ℕ, suc, ◌<◌, ◌+◌, ◌*◌, ◌/◌, ◌%◌, Bool, true, false, List, [], ◌∷◌, length, get_or, Option, Some, None, refl, sym, ap, subst, arith, ◌∙◌, inl, inr}
use Rattle.std.specs.Prelude.{unwrap_or, IfSome, IsTrue, slice_get, option_map, option_and_then, is_some, if◌then◌else◌}
use Rattle.std.proofs.lemmas.Option.{slice_get-map, slice_get_cases}
use Rattle.taxi_base.specs.declared.numbers.Arc.{Arc}
use Rattle.taxi_base.specs.declared.numbers.Node.{Node}
use Rattle.taxi_base.specs.declared.numbers.Segment.{Segment}
use Rattle.taxi_base.specs.Airport.{Airport, SegmentRow, Layout, Ends, IsWellFormed, link_of, layout_of, ends, ends_of_link, arc_exists, head, tail, meet, segment_name, node_name, node_word}
use Rattle.airport_text.specs.Canonical.{direction_word, segment_record}
use Rattle.taxi_base.proofs.AirportLaws.{arc_exists-segment, meet-exist}

-- ---- the two arcs of a segment

ends-at : (airport : Airport) (arc : Arc) (row : SegmentRow) → slice_get airport.segments (arc.0 / 2) ≡ Some row
    → ends (layout_of airport) arc ≡ ends_of_link (arc.0 % 2) (link_of row)
unfolding ends
ends-at airport arc row found =
    ap (option_and_then (ends_of_link (arc.0 % 2))) (slice_get-map link_of airport.segments (arc.0 / 2) ∙ ap (option_map link_of) found)

forward-ends : (airport : Airport) (s : ℕ) (row : SegmentRow) → slice_get airport.segments s ≡ Some row
    → ends (layout_of airport) (record { 0 = 2 * s }) ≡ Some (record { tail = row.from; head = row.to })
forward-ends airport s row found =
    let half : (2 * s) / 2 ≡ s = omega arith in
    let even : (2 * s) % 2 ≡ 0 = omega arith in
    ends-at airport (record { 0 = 2 * s }) row (ap (slice_get airport.segments) half ∙ found) ∙ rw even refl

pub backward-exists : (airport : Airport) (s : ℕ) (row : SegmentRow) → slice_get airport.segments s ≡ Some row
    → arc_exists (layout_of airport) (record { 0 = 2 * s + 1 }) ≡ row.both
backward-exists airport s row found =
    let half : (2 * s + 1) / 2 ≡ s = omega arith in
    let odd : (2 * s + 1) % 2 ≡ suc 0 = omega arith in
    ap is_some (ends-at airport (record { 0 = 2 * s + 1 }) row (ap (slice_get airport.segments) half ∙ found) ∙ rw odd refl)
    ∙ choice row.both (record { tail = row.to; head = row.from })
  where
    choice : (b : Bool) (e : Ends) → is_some (if b then Some e else None) ≡ b
    choice true e = refl
    choice false e = refl

pub forward-exists : (airport : Airport) (s : ℕ) → s < length airport.segments → IsTrue (arc_exists (layout_of airport) (record { 0 = 2 * s }))
forward-exists airport s low = elim (slice_get_cases airport.segments s).1 [
  | inl there ↦ ap is_some (forward-ends airport s there.0 there.2)
  | inr past ↦ absurd (let far = past.0 in omega arith)
]

-- ---- the arcs of a forbidden turn

pub turn-segments : (airport : Airport) (turns : List (Arc × Arc)) (i : ℕ) (d : Arc × Arc) → IsWellFormed airport → turns ≡ airport.forbidden → i < length turns
    → ((get_or turns i d).0.0 / 2 < length airport.segments) × ((get_or turns i d).1.0 / 2 < length airport.segments)
turn-segments airport turns i d well same low =
    let turn = get_or turns i d in
    let rule : IsTrue (meet (head (layout_of airport) turn.0) (tail (layout_of airport) turn.1)) =
    subst (λ ts. IsTrue (meet (head (layout_of airport) (get_or ts i d).0) (tail (layout_of airport) (get_or ts i d).1))) (sym same)
    (well.forbidden i d (subst (λ ts. i < length ts) same low)).0 in
    let exist = meet-exist (ends (layout_of airport) turn.0) (ends (layout_of airport) turn.1) rule in
    (arc_exists-segment airport turn.0 exist.0, arc_exists-segment airport turn.1 exist.1)

-- ---- the words of a segment's row

-- what holds of each row that may stand at a place
pub each_row : {A : Type 0} (xs : List A) (i : ℕ) (P : A → Type 0) → ((x : A) → slice_get xs i ≡ Some x → P x) → IfSome (slice_get xs i) P
each_row {A = A} xs i P h = go (slice_get xs i) refl
  where
    go : (o : Option A) → slice_get xs i ≡ o → IfSome o P
    go None e = tt
    go (Some x) e = h x e

own_name : (airport : Airport) (s : Segment) (row : SegmentRow) (name : List ℕ) → slice_get airport.segments s.0 ≡ Some row → segment_name airport s ≡ Some name → name ≡ row.name
own_name airport s row name found named = cc (rw found at named)

end_word : (airport : Airport) (node end : Node) (name : List ℕ) → Some node ≡ Some end → node_name airport node ≡ Some name → name ≡ node_word airport end
end_word airport node end name same named =
    let one : node ≡ end = cc same in
    sym (ap (λ n. node_word airport n) (sym one) ∙ ap (λ o. unwrap_or o []) named)

-- what the names of a segment and of its forward arc's ends are, and whether it has a backward arc
pub segment-fields : (airport : Airport) (layout : Layout) (s : Segment) (row : SegmentRow) (node next : Node) (name from to : List ℕ)
    → layout ≡ layout_of airport → slice_get airport.segments s.0 ≡ Some row → segment_name airport s ≡ Some name
    → Some node ≡ tail layout (record { 0 = 2 * s.0 }) → node_name airport node ≡ Some from
    → Some next ≡ head layout (record { 0 = 2 * s.0 }) → node_name airport next ≡ Some to
    → segment_record airport row ≡ codes "segment" ∷ name ∷ from ∷ to ∷ direction_word (arc_exists layout (record { 0 = 2 * s.0 + 1 })) ∷ []
segment-fields airport layout s row node next name from to same found named at from_named at_next to_named =
    let forward = forward-ends airport s.0 row found in
    let one : name ≡ row.name = own_name airport s row name found named in
    let two : from ≡ node_word airport row.from =
    end_word airport node row.from from (at ∙ ap (λ g. tail g (record { 0 = 2 * s.0 })) same ∙ ap (option_map (λ e. e.tail)) forward) from_named in
    let three : to ≡ node_word airport row.to =
    end_word airport next row.to to (at_next ∙ ap (λ g. head g (record { 0 = 2 * s.0 })) same ∙ ap (option_map (λ e. e.head)) forward) to_named in
    let four : arc_exists layout (record { 0 = 2 * s.0 + 1 }) ≡ row.both =
    ap (λ g. arc_exists g (record { 0 = 2 * s.0 + 1 })) same ∙ backward-exists airport s.0 row found in
    cc (one, two, three, four)
