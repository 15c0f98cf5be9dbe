-- The records of segments are let through.
use Rattle.std.proofs.Common.{◌≡◌, ℕ, ◌<◌, ◌≤◌, Bool, true, false, List, [], ◌∷◌, ◌++◌, length, map, Some, Ok, refl, sym, subst, arith, append_assoc, append-nil, ◌∙◌, ap}
use Rattle.std.specs.Prelude.{All}
use Rattle.std.proofs.lemmas.Bool.Decides.{nat_tests}
use Rattle.std.proofs.lemmas.List.Sums.{sum_by-append}
use Rattle.std.proofs.lemmas.List.Elements.{All-head, All-tail}
use Rattle.taxi_base.specs.declared.numbers.Node.{Node}
use Rattle.taxi_base.specs.Airport.{Airport, SegmentRow, Link, AreNames, link_of, own_ends, link_ends, node_word}
use Rattle.airport_rules.specs.declared.version.Version.TheVariants.{Two}
use Rattle.airport_rules.specs.Plan.{Plan}
use Rattle.airport_rules.specs.Rules.{judge, judge_segment, both_of, is_crowded}
use Rattle.airport_text.specs.Canonical.{direction_word, segment_record}
use Rattle.airport_file.proofs.NamedPlaces.{IsFound, word-found}
use Rattle.airport_text.proofs.Names.{IsNext, names-next}
use Rattle.airport_text.proofs.Judging.{AreTaken}

direction-again : (both : Bool) → both_of (direction_word both) ≡ Some both
direction-again true = refl
direction-again false = refl

-- the plan with these segments
abbrev pub with_segments : Plan → List (List ℕ) → List Link → Plan
with_segments plan segments links = record plan { segments = segments; links = links }

way-judged : (plan : Plan) (name from to direction : List ℕ) (link : Link) → IsNext 10000 plan.segments name → IsFound from plan.nodes link.from.0 → IsFound to plan.nodes link.to.0
    → both_of direction ≡ Some link.both → is_crowded plan.links link ≡ false
    → judge_segment plan name from to direction ≡ Ok (with_segments plan (plan.segments ++ name ∷ []) (plan.links ++ link ∷ []))
way-judged plan name from to direction link next first second read room =
    rw (next.valid, first.valid, second.valid, next.fresh, first.place, second.place, read, next.room, room) refl

-- so many ends at a node as all have, some have at most
ends-fewer : (node : Node) (before : List Link) (link : Link) (after : List Link) → link_ends node (before ++ link ∷ after) ≤ 32 → link_ends node (before ++ link ∷ []) ≤ 32
ends-fewer node before link after few =
    let split = sum_by-append (own_ends node) (before ++ link ∷ []) after in
    let joined = ap (link_ends node) (append_assoc before (link ∷ []) after) in
    omega (arith, few, split, joined)

not-crowded : (before : List Link) (link : Link) (after : List Link) → link_ends link.from (before ++ link ∷ after) ≤ 32 → link_ends link.to (before ++ link ∷ after) ≤ 32
    → is_crowded before link ≡ false
not-crowded before link after from to =
    let one = ends-fewer link.from before link after from in
    let two = ends-fewer link.to before link after to in
    grind (arith, nat_tests, one, two)

abbrev IsWithin : ℕ → SegmentRow → Type 0
IsWithin nodes s = (s.from.0 < nodes) × (s.to.0 < nodes)

way-taken : (airport : Airport) (plan : Plan) (s : SegmentRow) (after : List Link) → plan.nodes ≡ map (λ n. n.name) airport.nodes → AreNames 10000 (map (λ n. n.name) airport.nodes)
    → IsWithin (length airport.nodes) s → IsNext 10000 plan.segments s.name
    → ((k : ℕ) → k < length airport.nodes → link_ends (record { 0 = k }) (plan.links ++ link_of s ∷ after) ≤ 32)
    → judge Two plan (segment_record airport s) ≡ Ok (with_segments plan (plan.segments ++ s.name ∷ []) (plan.links ++ link_of s ∷ []))
unfolding judge
way-taken airport plan s after nodes names within next degree =
    way-judged plan s.name (node_word airport s.from) (node_word airport s.to) (direction_word s.both) (link_of s) next
    (subst (λ ns. IsFound (node_word airport s.from) ns s.from.0) (sym nodes) (word-found (λ n. n.name) airport.nodes s.from.0 10000 names within.0))
    (subst (λ ns. IsFound (node_word airport s.to) ns s.to.0) (sym nodes) (word-found (λ n. n.name) airport.nodes s.to.0 10000 names within.1))
    (direction-again s.both) (not-crowded plan.links (link_of s) after (degree s.from.0 within.0) (degree s.to.0 within.1))

pub ways-taken : (airport : Airport) (plan new : Plan) (segments : List SegmentRow) → plan.nodes ≡ map (λ n. n.name) airport.nodes → AreNames 10000 (map (λ n. n.name) airport.nodes)
    → All (λ s. (s.from.0 < length airport.nodes) × (s.to.0 < length airport.nodes)) segments
    → AreNames 10000 (plan.segments ++ map (λ s. s.name) segments)
    → ((k : ℕ) → k < length airport.nodes → link_ends (record { 0 = k }) (plan.links ++ map link_of segments) ≤ 32)
    → new ≡ with_segments plan (plan.segments ++ map (λ s. s.name) segments) (plan.links ++ map link_of segments) → AreTaken plan (map (segment_record airport) segments) new
ways-taken airport plan new [] nodes known within names degree e = sym (e ∙ rw (append-nil plan.segments, append-nil plan.links) refl)
ways-taken airport plan new (s ∷ segments) nodes known within names degree e =
    let next : Plan = with_segments plan (plan.segments ++ s.name ∷ []) (plan.links ++ link_of s ∷ []) in
    let links = append_assoc plan.links (link_of s ∷ []) (map link_of segments) in (
      next,
      way-taken airport plan s (map link_of segments) nodes known (All-head (IsWithin (length airport.nodes)) s segments within)
          (names-next 10000 plan.segments s.name (map (λ s. s.name) segments) names) degree,
      ways-taken airport next new segments nodes known (All-tail (IsWithin (length airport.nodes)) s segments within)
          (subst (AreNames 10000) (sym (append_assoc plan.segments (s.name ∷ []) (map (λ s. s.name) segments))) names)
          (λ k low. subst (λ ls. link_ends (record { 0 = k }) ls ≤ 32) (sym links) (degree k low))
          (rw (append_assoc plan.segments (s.name ∷ []) (map (λ s. s.name) segments), links) e),
    )
