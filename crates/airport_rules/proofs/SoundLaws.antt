-- The rules let only sound plans through.
use Rattle.std.proofs.Common.{◌≡◌, ◌≢◌, ℕ, ◌<◌, ◌≤◌, ◌+◌, Bool, true, false, List, [], ◌∷◌, ◌++◌, length, length-append, Option, Some, None, Ok, Err, refl, ap, subst, arith, ◌∙◌, lit≤}
use Rattle.std.specs.Prelude.{Result, All, AllPairs, IsTrue, ◌==◌, ◌&&◌, not, nat_le, is_some, bytes_eq, codes, if◌then◌else◌}
use Rattle.std.specs.List.{list_all}
use Rattle.std.proofs.lemmas.Bool.{and_parts, or_parts}
use Rattle.std.proofs.lemmas.Bool.Decides.{nat_tests}
use Rattle.std.proofs.lemmas.List.Elements.{All-push, All-weaker, All-nil, All-cons, All-head, All-tail}
use Rattle.std.proofs.lemmas.List.Kept.{AllPairs-cons}
use Rattle.taxi_base.proofs.ListLaws.{AllPairs-first, AllPairs-rest}
use Rattle.std.proofs.lemmas.List.Quantifiers.{all_pairs_push}
use Rattle.taxi_base.specs.declared.numbers.Segment.{Segment}
use Rattle.taxi_base.specs.declared.numbers.Arc.{Arc}
use Rattle.taxi_base.specs.Words.{is_name}
use Rattle.taxi_base.specs.Airport.{Link, Layout, AreNames, place_of, IsConflictSet, pair_precedes, arc_of, is_forbidden}
use Rattle.taxi_text.specs.Fields.{number_of, arc_word_of}
use Rattle.airport_rules.specs.declared.rows.TimeRow.{TimeRow}
use Rattle.airport_rules.specs.declared.rows.ClearanceRow.{ClearanceRow}
use Rattle.airport_rules.specs.declared.version.Version.{Version}
use Rattle.airport_rules.specs.Versions.{gives_clearances}
use Rattle.airport_rules.specs.declared.faults.AirportFault.{AirportFault}
use Rattle.airport_rules.specs.Plan.{Plan, empty_plan, layout_of_plan}
use Rattle.airport_rules.specs.Rules.{◌>>=◌, kind_of, both_of, refused, some_or, is_given, is_crowded, judge, judge_horizon, judge_node, judge_class, judge_link, judge_segment, judge_seconds, judge_clearance, judge_turn, judge_forbid, judge_members, judge_conflict, judge_horizon_row, judge_node_row, judge_class_row, judge_segment_row, judge_seconds_row, judge_clearance_row, judge_forbid_row, judge_conflict_row, members_of, repeats, number_within, within, is_timed, has_clearance, goes_on, with_pair, in_order}
use Rattle.airport_rules.specs.declared.faults.AirportFault.TheVariants.{FieldCount}
use Rattle.airport_rules.proofs.ConflictLaws.{order-in_order, length-in_order, All-in_order, members-of}
use Rattle.airport_rules.proofs.LinkLaws.{goes_on-links, goes_on-more, degree-more}
use Rattle.airport_rules.proofs.AirportViews.{place-within}
use Rattle.airport_rules.proofs.PlaceLaws.{not_found-differs}
use Rattle.airport_rules.specs.Sound.{IsSound, IsSoundTime, IsSoundClearance}

-- ---- what a step says that lets a record through

pub refused-passed : {A : Type 0} (why : AirportFault) (test : Bool) (f : Unit {0} → Result A AirportFault) (x : A) → (refused why test >>= f) ≡ Ok x → (test ≡ false) × (f tt ≡ Ok x)
refused-passed why true f x e = absurd (cc e)
refused-passed why false f x e = (refl, e)

pub some_or-passed : {A B : Type 0} (why : AirportFault) (o : Option A) (f : A → Result B AirportFault) (x : B) → (some_or why o >>= f) ≡ Ok x → (y : A) × (o ≡ Some y) × (f y ≡ Ok x)
some_or-passed why (Some y) f x e = (y, refl, e)
some_or-passed why None f x e = absurd (cc e)

-- ---- names

not_given : (o : Option ℕ) → is_some o ≡ false → o ≡ None
not_given (Some k) e = absurd (cc e)
not_given None e = refl

-- one more name
pub AreNames-push : (limit : ℕ) (names : List (List ℕ)) (name : List ℕ) → AreNames limit names → not (is_name name) ≡ false → is_given name names ≡ false → nat_le limit (length names) ≡ false
    → AreNames limit (names ++ name ∷ [])
AreNames-push limit names name h valid fresh room = record {
  few = rw length-append (grind (arith, nat_tests, room));
  each = All-push (λ (x : List ℕ). is_name x ≡ true) names name h.each (grind (arith, valid));
  differ = all_pairs_push ◌≢◌ names name h.differ (not_found-differs names name (not_given (place_of name names) fresh));
}

-- ---- the empty plan

pub IsSound-empty : IsSound empty_plan
IsSound-empty = record {
  horizon = tt;
  nodes = record { few = lit≤ tt; each = All-nil _; differ = λ i j d low high. absurd (omega (arith, high)) };
  kinds = refl;
  classes = record { few = lit≤ tt; each = All-nil _; differ = λ i j d low high. absurd (omega (arith, high)) };
  segments = record { few = lit≤ tt; each = All-nil _; differ = λ i j d low high. absurd (omega (arith, high)) };
  links = refl;
  within = All-nil _;
  degree = λ node. omega arith;
  times = All-nil _;
  clearances = All-nil _;
  few_forbidden = lit≤ tt;
  forbidden = All-nil _;
  forbidden_order = λ i j d low high. absurd (omega (arith, high));
  few_conflicts = lit≤ tt;
  conflicts = All-nil _;
}

-- ---- the rows

number-range : (least most n : ℕ) (word : List ℕ) → number_within least most word ≡ Some n → (least ≤ n) × (n ≤ most)
number-range least most n word e = within-range (number_of word) e
  where
    within-range : (o : Option ℕ) → within least most o ≡ Some n → (least ≤ n) × (n ≤ most)
    within-range (Some m) h = grind (arith, nat_tests, h)
    within-range None h = absurd (cc h)

pub IsSound-horizon : (plan new : Plan) (number : List ℕ) → IsSound plan → judge_horizon plan number ≡ Ok new → IsSound new
IsSound-horizon plan new number h e =
    let one = some_or-passed _ (number_within 1 604800 number) _ new e in
    let two = refused-passed _ (is_some plan.horizon) _ new one.2 in
    let same : record plan { horizon = Some one.0 } ≡ new = cc two.1 in
    subst IsSound same (record {
      nodes = h.nodes;
      kinds = h.kinds;
      classes = h.classes;
      segments = h.segments;
      links = h.links;
      within = h.within;
      degree = h.degree;
      times = h.times;
      clearances = h.clearances;
      few_forbidden = h.few_forbidden;
      forbidden = h.forbidden;
      forbidden_order = h.forbidden_order;
      few_conflicts = h.few_conflicts;
      conflicts = h.conflicts;
      horizon = number-range 1 604800 one.0 number one.1;
    })

pub IsSound-class : (plan new : Plan) (name : List ℕ) → IsSound plan → judge_class plan name ≡ Ok new → IsSound new
IsSound-class plan new name h e =
    let one = refused-passed _ (not (is_name name)) _ new e in
    let two = refused-passed _ (is_given name plan.classes) _ new one.1 in
    let three = refused-passed _ (nat_le 32 (length plan.classes)) _ new two.1 in
    let grown : Plan = record plan { classes = plan.classes ++ name ∷ [] } in
    let same : grown ≡ new = cc three.1 in
    subst IsSound same (record {
      horizon = h.horizon;
      nodes = h.nodes;
      kinds = h.kinds;
      segments = h.segments;
      links = h.links;
      within = h.within;
      degree = h.degree;
      few_forbidden = h.few_forbidden;
      forbidden = h.forbidden;
      forbidden_order = h.forbidden_order;
      few_conflicts = h.few_conflicts;
      conflicts = h.conflicts;
      classes = AreNames-push 32 plan.classes name h.classes one.0 two.0 three.0;
      times = All-weaker (IsSoundTime plan) (IsSoundTime grown) (λ t s. (s.0, rw length-append (omega (arith, s.1)), s.2, s.3)) plan.times h.times;
      clearances = All-weaker (IsSoundClearance plan) (IsSoundClearance grown) (λ r s. (rw length-append (omega (arith, s.0)), s.1)) plan.clearances h.clearances;
    })

abbrev GoOn : Layout → Arc × Arc → Type 0
GoOn layout p = IsTrue (goes_on layout p.0 p.1)

pub IsSound-node : (plan new : Plan) (name kind : List ℕ) → IsSound plan → judge_node plan name kind ≡ Ok new → IsSound new
IsSound-node plan new name kind h e =
    let one = refused-passed _ (not (is_name name)) _ new e in
    let two = refused-passed _ (is_given name plan.nodes) _ new one.1 in
    let three = some_or-passed _ (kind_of kind) _ new two.1 in
    let four = refused-passed _ (nat_le 10000 (length plan.nodes)) _ new three.2 in
    let grown : Plan = record plan { nodes = plan.nodes ++ name ∷ []; kinds = plan.kinds ++ three.0 ∷ [] } in
    let same : grown ≡ new = cc four.1 in
    subst IsSound same (record {
      horizon = h.horizon;
      classes = h.classes;
      segments = h.segments;
      links = h.links;
      degree = h.degree;
      times = h.times;
      clearances = h.clearances;
      few_forbidden = h.few_forbidden;
      forbidden_order = h.forbidden_order;
      few_conflicts = h.few_conflicts;
      conflicts = h.conflicts;
      nodes = AreNames-push 10000 plan.nodes name h.nodes one.0 two.0 four.0;
      kinds = rw (length-append, length-append) (ap (λ n. n + 1) h.kinds);
      within = All-weaker (λ (l : Link). (l.from.0 < length plan.nodes) × (l.to.0 < length plan.nodes)) (λ (l : Link). (l.from.0 < length grown.nodes) × (l.to.0 < length grown.nodes))
          (λ l w. (rw length-append (omega (arith, w.0)), rw length-append (omega (arith, w.1)))) plan.links h.within;
      forbidden = All-weaker (GoOn (layout_of_plan plan)) (GoOn (layout_of_plan grown)) (λ p g. goes_on-links (layout_of_plan grown) (layout_of_plan plan) p.0 p.1 refl ∙ g) plan.forbidden h.forbidden;
    })

-- ---- one more segment

pub IsSound-link : (plan new : Plan) (name : List ℕ) (l : Link) → IsSound plan → not (is_name name) ≡ false → is_given name plan.segments ≡ false → l.from.0 < length plan.nodes → l.to.0 < length plan.nodes
    → judge_link plan name l ≡ Ok new → IsSound new
IsSound-link plan new name l h valid fresh from to e =
    let one = refused-passed _ (nat_le 10000 (length plan.segments)) _ new e in
    let two = refused-passed _ (is_crowded plan.links l) _ new one.1 in
    let grown : Plan = record plan { segments = plan.segments ++ name ∷ []; links = plan.links ++ l ∷ [] } in
    let same : grown ≡ new = cc two.1 in
    subst IsSound same (record {
      horizon = h.horizon;
      nodes = h.nodes;
      kinds = h.kinds;
      classes = h.classes;
      few_forbidden = h.few_forbidden;
      forbidden_order = h.forbidden_order;
      few_conflicts = h.few_conflicts;
      segments = AreNames-push 10000 plan.segments name h.segments valid fresh one.0;
      links = rw (length-append, length-append) (ap (λ n. n + 1) h.links);
      within = All-push (λ (l : Link). (l.from.0 < length plan.nodes) × (l.to.0 < length plan.nodes)) plan.links l h.within (from, to);
      degree = degree-more plan.links l h.degree two.0;
      times = All-weaker (IsSoundTime plan) (IsSoundTime grown) (λ t s. (rw length-append (omega (arith, s.0)), s.1, s.2, s.3)) plan.times h.times;
      clearances = h.clearances;
      forbidden = All-weaker (GoOn (layout_of_plan plan)) (GoOn (layout_of_plan grown)) (λ p g. goes_on-more plan.links l (layout_of_plan plan) (layout_of_plan grown) p.0 p.1 refl refl g) plan.forbidden h.forbidden;
      conflicts = All-weaker (IsConflictSet (length plan.segments)) (IsConflictSet (length grown.segments))
          (λ set s. (s.0, s.1, All-weaker (λ m. m.0 < length plan.segments) (λ m. m.0 < length grown.segments) (λ m low. rw length-append (omega (arith, low))) set s.2, s.3)) plan.conflicts h.conflicts;
    })

pub IsSound-segment : (plan new : Plan) (name from to direction : List ℕ) → IsSound plan → judge_segment plan name from to direction ≡ Ok new → IsSound new
IsSound-segment plan new name from to direction h e =
    let one = refused-passed _ (not (is_name name && is_name from && is_name to)) _ new e in
    let two = refused-passed _ (is_given name plan.segments) _ new one.1 in
    let three = some_or-passed _ (place_of from plan.nodes) _ new two.1 in
    let four = some_or-passed _ (place_of to plan.nodes) _ new three.2 in
    let five = some_or-passed _ (both_of direction) _ new four.2 in
    IsSound-link plan new name (record { from = record { 0 = three.0 }; to = record { 0 = four.0 }; both = five.0 }) h
    (grind (arith, one.0)) two.0 (place-within from plan.nodes three.0 three.1) (place-within to plan.nodes four.0 four.1) five.2

pub IsSound-seconds : (plan new : Plan) (segment class number : List ℕ) → IsSound plan → judge_seconds plan segment class number ≡ Ok new → IsSound new
IsSound-seconds plan new segment class number h e =
    let one = refused-passed _ (not (is_name segment && is_name class)) _ new e in
    let two = some_or-passed _ (place_of segment plan.segments) _ new one.1 in
    let three = some_or-passed _ (place_of class plan.classes) _ new two.2 in
    let four = some_or-passed _ (number_within 1 3600 number) _ new three.2 in
    let five = refused-passed _ (is_timed (record { 0 = two.0 }) (record { 0 = three.0 }) plan.times) _ new four.2 in
    let row : TimeRow = record { segment = record { 0 = two.0 }; class = record { 0 = three.0 }; seconds = four.0 } in
    let grown : Plan = record plan { times = plan.times ++ row ∷ [] } in
    let same : grown ≡ new = cc five.1 in
    let range = number-range 1 3600 four.0 number four.1 in
    subst IsSound same (record {
      horizon = h.horizon;
      nodes = h.nodes;
      kinds = h.kinds;
      classes = h.classes;
      segments = h.segments;
      links = h.links;
      within = h.within;
      degree = h.degree;
      few_forbidden = h.few_forbidden;
      forbidden = h.forbidden;
      forbidden_order = h.forbidden_order;
      few_conflicts = h.few_conflicts;
      conflicts = h.conflicts;
      clearances = h.clearances;
      times = All-push (IsSoundTime plan) plan.times row h.times (place-within segment plan.segments two.0 two.1, place-within class plan.classes three.0 three.1, range.0, range.1);
    })

pub IsSound-clearance : (plan new : Plan) (class number : List ℕ) → IsSound plan → judge_clearance plan class number ≡ Ok new → IsSound new
IsSound-clearance plan new class number h e =
    let one = refused-passed _ (not (is_name class)) _ new e in
    let two = some_or-passed _ (place_of class plan.classes) _ new one.1 in
    let three = some_or-passed _ (number_within 0 600 number) _ new two.2 in
    let four = refused-passed _ (has_clearance (record { 0 = two.0 }) plan.clearances) _ new three.2 in
    let row : ClearanceRow = record { class = record { 0 = two.0 }; seconds = three.0 } in
    let grown : Plan = record plan { clearances = plan.clearances ++ row ∷ [] } in
    let same : grown ≡ new = cc four.1 in
    let range = number-range 0 600 three.0 number three.1 in
    subst IsSound same (record {
      horizon = h.horizon;
      nodes = h.nodes;
      kinds = h.kinds;
      classes = h.classes;
      segments = h.segments;
      links = h.links;
      within = h.within;
      degree = h.degree;
      times = h.times;
      few_forbidden = h.few_forbidden;
      forbidden = h.forbidden;
      forbidden_order = h.forbidden_order;
      few_conflicts = h.few_conflicts;
      conflicts = h.conflicts;
      clearances = All-push (IsSoundClearance plan) plan.clearances row h.clearances (place-within class plan.classes two.0 two.1, range.1);
    })

-- ---- one more forbidden turn

length-with_pair_by : (b : Bool) (pair p : Arc × Arc) (pairs : List (Arc × Arc)) → length (with_pair pair pairs) ≡ length pairs + 1
    → length (if b then pair ∷ p ∷ pairs else p ∷ with_pair pair pairs) ≡ length (p ∷ pairs) + 1
length-with_pair_by true pair p pairs e = omega arith
length-with_pair_by false pair p pairs e = omega (arith, e)

length-with_pair : (pair : Arc × Arc) (pairs : List (Arc × Arc)) → length (with_pair pair pairs) ≡ length pairs + 1
length-with_pair pair [] = refl
length-with_pair pair (p ∷ pairs) = length-with_pair_by (pair_precedes pair p) pair p pairs (length-with_pair pair pairs)

All-with_pair_by : (P : Arc × Arc → Type 0) (b : Bool) (pair p : Arc × Arc) (pairs : List (Arc × Arc)) → P pair → P p → All P pairs → All P (with_pair pair pairs)
    → All P (if b then pair ∷ p ∷ pairs else p ∷ with_pair pair pairs)
All-with_pair_by P true pair p pairs one here later rest = All-cons P pair (p ∷ pairs) one (All-cons P p pairs here later)
All-with_pair_by P false pair p pairs one here later rest = All-cons P p (with_pair pair pairs) here rest

All-with_pair : (P : Arc × Arc → Type 0) (pair : Arc × Arc) (pairs : List (Arc × Arc)) → P pair → All P pairs → All P (with_pair pair pairs)
All-with_pair P pair [] one all = All-cons P pair [] one all
All-with_pair P pair (p ∷ pairs) one all =
    All-with_pair_by P (pair_precedes pair p) pair p pairs one (All-head P p pairs all) (All-tail P p pairs all) (All-with_pair P pair pairs one (All-tail P p pairs all))

abbrev Precedes : Arc × Arc → Arc × Arc → Type 0
Precedes p q = IsTrue (pair_precedes p q)

precedes-trans : (p q r : Arc × Arc) → Precedes p q → Precedes q r → Precedes p r
precedes-trans p q r a b = grind (arith, nat_tests, a, b)

-- of two pairs that differ one precedes the other
precedes-other : (p q : Arc × Arc) → pair_precedes p q ≡ false → (q.0.0 == p.0.0 && q.1.0 == p.1.0) ≡ false → Precedes q p
precedes-other p q a b = grind (arith, nat_tests, a, b)

order-with_pair_by : (b : Bool) (pair p : Arc × Arc) (pairs : List (Arc × Arc)) → pair_precedes pair p ≡ b → (p.0.0 == pair.0.0 && p.1.0 == pair.1.0) ≡ false
    → AllPairs Precedes (p ∷ pairs) → AllPairs Precedes (with_pair pair pairs) → AllPairs Precedes (if b then pair ∷ p ∷ pairs else p ∷ with_pair pair pairs)
order-with_pair_by true pair p pairs e other order rest =
    AllPairs-cons Precedes pair (p ∷ pairs)
    (All-cons (Precedes pair) p pairs e (All-weaker (Precedes p) (Precedes pair) (λ q after. precedes-trans pair p q e after) pairs (AllPairs-first Precedes p pairs order)))
    order
order-with_pair_by false pair p pairs e other order rest =
    AllPairs-cons Precedes p (with_pair pair pairs) (All-with_pair (Precedes p) pair pairs (precedes-other pair p e other) (AllPairs-first Precedes p pairs order)) rest

order-with_pair : (pair : Arc × Arc) (pairs : List (Arc × Arc)) → is_forbidden pairs pair.0 pair.1 ≡ false → AllPairs Precedes pairs → AllPairs Precedes (with_pair pair pairs)
order-with_pair pair [] none order = λ i j d low high. absurd (omega (arith, low, high))
order-with_pair pair (p ∷ pairs) none order =
    let parts = or_parts (p.0.0 == pair.0.0 && p.1.0 == pair.1.0) (is_forbidden pairs pair.0 pair.1) none in
    order-with_pair_by (pair_precedes pair p) pair p pairs refl parts.0 order (order-with_pair pair pairs parts.1 (AllPairs-rest Precedes p pairs order))

not_false : (b : Bool) → not b ≡ false → b ≡ true
not_false true e = refl
not_false false e = absurd (cc e)

pub IsSound-turn : (plan new : Plan) (x y : Arc) → IsSound plan → judge_turn plan x y ≡ Ok new → IsSound new
IsSound-turn plan new x y h e =
    let one = refused-passed _ (not (goes_on (layout_of_plan plan) x y)) _ new e in
    let two = refused-passed _ (is_forbidden plan.forbidden x y) _ new one.1 in
    let three = refused-passed _ (nat_le 50000 (length plan.forbidden)) _ new two.1 in
    let grown : Plan = record plan { forbidden = with_pair (x, y) plan.forbidden } in
    let same : grown ≡ new = cc three.1 in
    let longer = length-with_pair (x, y) plan.forbidden in
    let all : All (GoOn (layout_of_plan plan)) grown.forbidden = All-with_pair (GoOn (layout_of_plan plan)) (x, y) plan.forbidden (not_false _ one.0) h.forbidden in
    subst IsSound same (record {
      horizon = h.horizon;
      nodes = h.nodes;
      kinds = h.kinds;
      classes = h.classes;
      segments = h.segments;
      links = h.links;
      within = h.within;
      degree = h.degree;
      times = h.times;
      clearances = h.clearances;
      few_conflicts = h.few_conflicts;
      conflicts = h.conflicts;
      few_forbidden = rw longer (grind (arith, nat_tests, three.0));
      forbidden = All-weaker (GoOn (layout_of_plan plan)) (GoOn (layout_of_plan grown)) (λ p g. goes_on-links (layout_of_plan grown) (layout_of_plan plan) p.0 p.1 refl ∙ g) grown.forbidden all;
      forbidden_order = order-with_pair (x, y) plan.forbidden two.0 h.forbidden_order;
    })

pub IsSound-forbid : (plan new : Plan) (x y : List ℕ) → IsSound plan → judge_forbid plan x y ≡ Ok new → IsSound new
IsSound-forbid plan new x y h e =
    let one = some_or-passed _ (arc_word_of x) _ new e in
    let two = some_or-passed _ (arc_word_of y) _ new one.2 in
    let three = some_or-passed _ (place_of one.0.0 plan.segments) _ new two.2 in
    let four = some_or-passed _ (place_of two.0.0 plan.segments) _ new three.2 in
    IsSound-turn plan new (arc_of (record { 0 = three.0 }) one.0.1) (arc_of (record { 0 = four.0 }) two.0.1) h four.2

-- ---- one more set

pub IsSound-members : (plan new : Plan) (ms : List Segment) → IsSound plan → 2 ≤ length ms → length ms ≤ 16 → All (λ m. m.0 < length plan.segments) ms → judge_members plan ms ≡ Ok new → IsSound new
IsSound-members plan new ms h low high all e =
    let one = refused-passed _ (repeats ms) _ new e in
    let two = refused-passed _ (nat_le 10000 (length plan.conflicts)) _ new one.1 in
    let grown : Plan = record plan { conflicts = plan.conflicts ++ in_order ms ∷ [] } in
    let same : grown ≡ new = cc two.1 in
    let set : IsConflictSet (length plan.segments) (in_order ms) =
    (rw (length-in_order ms) low, rw (length-in_order ms) high, All-in_order (λ m. m.0 < length plan.segments) ms all, order-in_order ms one.0) in
    subst IsSound same (record {
      horizon = h.horizon;
      nodes = h.nodes;
      kinds = h.kinds;
      classes = h.classes;
      segments = h.segments;
      links = h.links;
      within = h.within;
      degree = h.degree;
      times = h.times;
      clearances = h.clearances;
      few_forbidden = h.few_forbidden;
      forbidden = h.forbidden;
      forbidden_order = h.forbidden_order;
      few_conflicts = rw length-append (grind (arith, nat_tests, two.0));
      conflicts = All-push (IsConflictSet (length plan.segments)) plan.conflicts (in_order ms) h.conflicts set;
    })

pub IsSound-conflict : (plan new : Plan) (names : List (List ℕ)) → IsSound plan → 2 ≤ length names → length names ≤ 16 → judge_conflict plan names ≡ Ok new → IsSound new
IsSound-conflict plan new names h low high e =
    let one = refused-passed _ (not (list_all is_name names)) _ new e in
    let two = some_or-passed _ (members_of plan.segments names) _ new one.1 in
    let found = members-of plan.segments names two.0 two.1 in
    IsSound-members plan new two.0 h (omega (arith, low, found.0)) (omega (arith, high, found.0)) found.1 two.2

-- ---- a record

horizon-row : (plan new : Plan) (fields : List (List ℕ)) → IsSound plan → judge_horizon_row plan fields ≡ Ok new → IsSound new
horizon-row plan new [] h e = absurd (cc e)
horizon-row plan new (a ∷ []) h e = IsSound-horizon plan new a h e
horizon-row plan new (a ∷ b ∷ rest) h e = absurd (cc e)

class-row : (plan new : Plan) (fields : List (List ℕ)) → IsSound plan → judge_class_row plan fields ≡ Ok new → IsSound new
class-row plan new [] h e = absurd (cc e)
class-row plan new (a ∷ []) h e = IsSound-class plan new a h e
class-row plan new (a ∷ b ∷ rest) h e = absurd (cc e)

node-row : (plan new : Plan) (fields : List (List ℕ)) → IsSound plan → judge_node_row plan fields ≡ Ok new → IsSound new
node-row plan new [] h e = absurd (cc e)
node-row plan new (a ∷ []) h e = absurd (cc e)
node-row plan new (a ∷ b ∷ []) h e = IsSound-node plan new a b h e
node-row plan new (a ∷ b ∷ c ∷ rest) h e = absurd (cc e)

forbid-row : (plan new : Plan) (fields : List (List ℕ)) → IsSound plan → judge_forbid_row plan fields ≡ Ok new → IsSound new
forbid-row plan new [] h e = absurd (cc e)
forbid-row plan new (a ∷ []) h e = absurd (cc e)
forbid-row plan new (a ∷ b ∷ []) h e = IsSound-forbid plan new a b h e
forbid-row plan new (a ∷ b ∷ c ∷ rest) h e = absurd (cc e)

seconds-row : (plan new : Plan) (fields : List (List ℕ)) → IsSound plan → judge_seconds_row plan fields ≡ Ok new → IsSound new
seconds-row plan new [] h e = absurd (cc e)
seconds-row plan new (a ∷ []) h e = absurd (cc e)
seconds-row plan new (a ∷ b ∷ []) h e = absurd (cc e)
seconds-row plan new (a ∷ b ∷ c ∷ []) h e = IsSound-seconds plan new a b c h e
seconds-row plan new (a ∷ b ∷ c ∷ d ∷ rest) h e = absurd (cc e)

clearance-row : (plan new : Plan) (fields : List (List ℕ)) → IsSound plan → judge_clearance_row plan fields ≡ Ok new → IsSound new
clearance-row plan new [] h e = absurd (cc e)
clearance-row plan new (a ∷ []) h e = absurd (cc e)
clearance-row plan new (a ∷ b ∷ []) h e = IsSound-clearance plan new a b h e
clearance-row plan new (a ∷ b ∷ c ∷ rest) h e = absurd (cc e)

segment-row : (plan new : Plan) (fields : List (List ℕ)) → IsSound plan → judge_segment_row plan fields ≡ Ok new → IsSound new
segment-row plan new [] h e = absurd (cc e)
segment-row plan new (a ∷ []) h e = absurd (cc e)
segment-row plan new (a ∷ b ∷ []) h e = absurd (cc e)
segment-row plan new (a ∷ b ∷ c ∷ []) h e = absurd (cc e)
segment-row plan new (a ∷ b ∷ c ∷ d ∷ []) h e = IsSound-segment plan new a b c d h e
segment-row plan new (a ∷ b ∷ c ∷ d ∷ f ∷ rest) h e = absurd (cc e)

conflict-row : (plan new : Plan) (names : List (List ℕ)) → IsSound plan → judge_conflict_row plan names ≡ Ok new → IsSound new
conflict-row plan new names h e = go (nat_le 2 (length names) && nat_le (length names) 16) refl e
  where
    go : (b : Bool) → (nat_le 2 (length names) && nat_le (length names) 16) ≡ b → (if b then judge_conflict plan names else Err FieldCount) ≡ Ok new → IsSound new
    go true is f = let parts = and_parts (nat_le 2 (length names)) (nat_le (length names) 16) is in IsSound-conflict plan new names h (grind (arith, nat_tests, parts.0)) (grind (arith, nat_tests, parts.1)) f
    go false is f = absurd (cc f)

either-row : (new : Plan) (b : Bool) (x y : Result Plan AirportFault) → (x ≡ Ok new → IsSound new) → (y ≡ Ok new → IsSound new) → (if b then x else y) ≡ Ok new → IsSound new
either-row new true x y f g e = f e
either-row new false x y f g e = g e

pub IsSound-judge : (version : Version) (plan new : Plan) (fields : List (List ℕ)) → IsSound plan → judge version plan fields ≡ Ok new → IsSound new
unfolding judge
IsSound-judge version plan new [] h e = absurd (cc e)
IsSound-judge version plan new (word ∷ fields) h e =
    either-row new (bytes_eq word (codes "horizon")) _ _ (horizon-row plan new fields h)
    (either-row new (bytes_eq word (codes "node")) _ _ (node-row plan new fields h)
    (either-row new (bytes_eq word (codes "class")) _ _ (class-row plan new fields h)
    (either-row new (bytes_eq word (codes "segment")) _ _ (segment-row plan new fields h)
    (either-row new (bytes_eq word (codes "seconds")) _ _ (seconds-row plan new fields h)
    (either-row new (bytes_eq word (codes "forbid")) _ _ (forbid-row plan new fields h)
    (either-row new (bytes_eq word (codes "conflict")) _ _ (conflict-row plan new fields h)
    (either-row new (bytes_eq word (codes "clearance") && gives_clearances version) _ _ (clearance-row plan new fields h)
    (λ f. absurd (cc f))))))))) e
