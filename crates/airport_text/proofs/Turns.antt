-- The records of forbidden turns are let through.
use Rattle.std.proofs.Common.{◌≡◌, ◌≢◌, ℕ, ◌<◌, ◌≤◌, ◌+◌, ◌*◌, ◌/◌, ◌%◌, Bool, true, false, List, [], ◌∷◌, ◌++◌, length, length-append, map, get_or, Some, Ok, refl, sym, subst, arith, append_assoc, append-nil, ◌∙◌, ap}
use Rattle.std.specs.Prelude.{nat_le, ◌==◌, ◌&&◌, IsTrue, All, AllPairs, if◌then◌else◌}
use Rattle.std.proofs.lemmas.Bool.{false_from_ne_true, eqb-true}
use Rattle.std.proofs.lemmas.Bool.Decides.{nat_tests}
use Rattle.std.proofs.lemmas.List.{get_or_append_left}
use Rattle.std.proofs.lemmas.List.Elements.{All-head, All-tail}
use Rattle.taxi_base.specs.declared.numbers.Arc.{Arc}
use Rattle.taxi_base.specs.Airport.{Airport, Layout, ends, link_of, layout_of, segment_of, arc_of, meet, head, tail, pair_precedes, is_forbidden}
use Rattle.taxi_base.proofs.AirportLaws.{arc_exists-segment, meet-exist}
use Rattle.taxi_text.specs.Fields.{arc_word_of}
use Rattle.taxi_text.proofs.ArcWords.{arc_word-again}
use Rattle.airport_file.specs.Words.{segment_word, word_of_arc}
use Rattle.airport_rules.specs.declared.version.Version.TheVariants.{Two}
use Rattle.airport_rules.specs.Plan.{Plan, layout_of_plan}
use Rattle.airport_rules.specs.Rules.{judge, judge_turn, judge_forbid, goes_on, with_pair}
use Rattle.airport_text.specs.Canonical.{forbid_record}
use Rattle.airport_file.proofs.NamedPlaces.{IsFound}
use Rattle.airport_text.proofs.Names.{get_or-next}
use Rattle.airport_text.proofs.Judging.{AreTaken}
use Rattle.airport_text.proofs.Times.{IsNamed, segment-found}

-- ---- pairs that rise

precedes-apart : (p q : Arc × Arc) → pair_precedes p q ≡ true → (p.0.0 == q.0.0 && p.1.0 == q.1.0) ≡ false
precedes-apart p q e = grind (arith, nat_tests, e)

precedes-one_way : (p q : Arc × Arc) → pair_precedes p q ≡ true → pair_precedes q p ≡ false
precedes-one_way p q e = grind (arith, nat_tests, e)

-- a pair above all goes to the end
pair-last : (pairs : List (Arc × Arc)) (pair : Arc × Arc) → All (λ p. pair_precedes p pair ≡ true) pairs → with_pair pair pairs ≡ pairs ++ pair ∷ []
pair-last [] pair above = refl
pair-last (p ∷ pairs) pair above =
    rw (precedes-one_way p pair (All-head (λ p. pair_precedes p pair ≡ true) p pairs above), pair-last pairs pair (All-tail (λ p. pair_precedes p pair ≡ true) p pairs above)) refl

-- and is not among them
pair-fresh : (pairs : List (Arc × Arc)) (pair : Arc × Arc) → All (λ p. pair_precedes p pair ≡ true) pairs → is_forbidden pairs pair.0 pair.1 ≡ false
pair-fresh [] pair above = refl
pair-fresh (p ∷ pairs) pair above =
    rw (precedes-apart p pair (All-head (λ p. pair_precedes p pair ≡ true) p pairs above), pair-fresh pairs pair (All-tail (λ p. pair_precedes p pair ≡ true) p pairs above)) refl

pairs-before : (before : List (Arc × Arc)) (pair : Arc × Arc) (after : List (Arc × Arc)) → AllPairs (λ p q. IsTrue (pair_precedes p q)) (before ++ pair ∷ after)
    → All (λ p. pair_precedes p pair ≡ true) before
pairs-before before pair after order k d low =
    let longer = length-append before (pair ∷ after) in
    subst (λ p. pair_precedes p pair ≡ true) (get_or_append_left before (pair ∷ after) d k low)
    (subst (λ q. pair_precedes (get_or (before ++ pair ∷ after) k d) q ≡ true) (get_or-next before pair after d) (order k (length before) d low (omega (arith, longer))))

-- ---- one record

-- arcs depend on the links alone
goes_on-links : (a b : Layout) (x y : Arc) → a.links ≡ b.links → goes_on a x y ≡ goes_on b x y
unfolding ends
goes_on-links a b x y e = rw e refl

-- an arc by its segment and its direction
arc-again : (arc : Arc) → arc_of (segment_of arc) (arc.0 % 2 == 0) ≡ arc
arc-again arc = ap (λ n. record { 0 = n }) (go (arc.0 % 2 == 0) refl)
  where
    go : (b : Bool) → (arc.0 % 2 == 0) ≡ b → 2 * (arc.0 / 2) + (if b then 0 else 1) ≡ arc.0
    go true e = let even : arc.0 % 2 ≡ 0 = eqb-true (arc.0 % 2) 0 e in omega (arith, even)
    go false e = let odd : arc.0 % 2 ≢ 0 = grind (arith, nat_tests, e) in omega (arith, odd)

-- a turn of the airport that may be forbidden
pub record IsTurn (airport : Airport) (turn : Arc × Arc) : Type 0 where
  pub meets : IsTrue (meet (head (layout_of airport) turn.0) (tail (layout_of airport) turn.1))
  pub turns : turn.0.0 / 2 ≢ turn.1.0 / 2

-- the plan with these forbidden turns
abbrev pub with_forbidden : Plan → List (Arc × Arc) → Plan
with_forbidden plan forbidden = record plan { forbidden = forbidden }

turn-judged : (plan : Plan) (x y : List ℕ) (first second : List ℕ) (a b : Arc) → arc_word_of x ≡ Some (first, a.0 % 2 == 0) → arc_word_of y ≡ Some (second, b.0 % 2 == 0)
    → IsFound first plan.segments (segment_of a).0 → IsFound second plan.segments (segment_of b).0
    → judge_forbid plan x y ≡ judge_turn plan (arc_of (segment_of a) (a.0 % 2 == 0)) (arc_of (segment_of b) (b.0 % 2 == 0))
turn-judged plan x y first second a b one two found_first found_second = rw (one, two, found_first.place, found_second.place) refl

turn-passed : (plan : Plan) (a b : Arc) → goes_on (layout_of_plan plan) a b ≡ true → All (λ p. pair_precedes p (a, b) ≡ true) plan.forbidden → nat_le 50000 (length plan.forbidden) ≡ false
    → judge_turn plan a b ≡ Ok (with_forbidden plan (plan.forbidden ++ (a, b) ∷ []))
turn-passed plan a b on above room = rw (on, pair-fresh plan.forbidden (a, b) above, room, pair-last plan.forbidden (a, b) above) refl

turn-goes_on : (airport : Airport) (plan : Plan) (turn : Arc × Arc) → plan.links ≡ map link_of airport.segments → IsTurn airport turn → goes_on (layout_of_plan plan) turn.0 turn.1 ≡ true
turn-goes_on airport plan turn links is =
    let other : (turn.0.0 / 2 == turn.1.0 / 2) ≡ false = false_from_ne_true _ (λ same. is.turns (eqb-true (turn.0.0 / 2) (turn.1.0 / 2) same)) in
    let meets : meet (head (layout_of airport) turn.0) (tail (layout_of airport) turn.1) ≡ true = is.meets in
    goes_on-links (layout_of_plan plan) (layout_of airport) turn.0 turn.1 links ∙ rw (meets, other) refl

turn-taken : (airport : Airport) (plan : Plan) (turn : Arc × Arc) → IsNamed airport plan → plan.links ≡ map link_of airport.segments → IsTurn airport turn
    → All (λ p. pair_precedes p turn ≡ true) plan.forbidden → nat_le 50000 (length plan.forbidden) ≡ false
    → judge Two plan (forbid_record airport turn) ≡ Ok (with_forbidden plan (plan.forbidden ++ turn ∷ []))
unfolding judge
turn-taken airport plan turn named links is above room =
    let there = meet-exist (ends (layout_of airport) turn.0) (ends (layout_of airport) turn.1) is.meets in
    let first : IsFound (segment_word airport (segment_of turn.0)) plan.segments (segment_of turn.0).0 =
    segment-found airport plan (segment_of turn.0) named (arc_exists-segment airport turn.0 there.0) in
    let second : IsFound (segment_word airport (segment_of turn.1)) plan.segments (segment_of turn.1).0 =
    segment-found airport plan (segment_of turn.1) named (arc_exists-segment airport turn.1 there.1) in
    turn-judged plan (word_of_arc airport turn.0) (word_of_arc airport turn.1) (segment_word airport (segment_of turn.0)) (segment_word airport (segment_of turn.1)) turn.0 turn.1
    (arc_word-again (segment_word airport (segment_of turn.0)) (turn.0.0 % 2 == 0) first.valid) (arc_word-again (segment_word airport (segment_of turn.1)) (turn.1.0 % 2 == 0) second.valid) first second
    ∙ ap (λ a. judge_turn plan a (arc_of (segment_of turn.1) (turn.1.0 % 2 == 0))) (arc-again turn.0)
    ∙ ap (judge_turn plan turn.0) (arc-again turn.1)
    ∙ turn-passed plan turn.0 turn.1 (turn-goes_on airport plan turn links is) above room

-- ---- all records

pub turns-taken : (airport : Airport) (plan new : Plan) (turns : List (Arc × Arc)) → IsNamed airport plan → plan.links ≡ map link_of airport.segments → All (IsTurn airport) turns
    → AllPairs (λ p q. IsTrue (pair_precedes p q)) (plan.forbidden ++ turns) → length (plan.forbidden ++ turns) ≤ 50000
    → new ≡ with_forbidden plan (plan.forbidden ++ turns) → AreTaken plan (map (forbid_record airport) turns) new
turns-taken airport plan new [] named links all order few e = sym (e ∙ rw (append-nil plan.forbidden) refl)
turns-taken airport plan new (t ∷ turns) named links all order few e =
    let next : Plan = with_forbidden plan (plan.forbidden ++ t ∷ []) in
    let joined = append_assoc plan.forbidden (t ∷ []) turns in
    let longer = length-append plan.forbidden (t ∷ turns) in
    let less : length plan.forbidden < 50000 = omega (arith, longer, few) in
    let room : nat_le 50000 (length plan.forbidden) ≡ false = grind (arith, nat_tests, less) in (
      next,
      turn-taken airport plan t named links (All-head (IsTurn airport) t turns all) (pairs-before plan.forbidden t turns order) room,
      turns-taken airport next new turns (record { well = named.well; segments = named.segments; classes = named.classes }) links (All-tail (IsTurn airport) t turns all)
          (subst (AllPairs (λ p q. IsTrue (pair_precedes p q))) (sym joined) order)
          (subst (λ ps. length ps ≤ 50000) (sym joined) few)
          (rw joined e),
    )
