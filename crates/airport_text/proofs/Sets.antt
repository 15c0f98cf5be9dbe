-- The records of conflict sets are let through.
use Rattle.std.proofs.Common.{◌≡◌, ℕ, ◌<◌, ◌≤◌, true, false, List, [], ◌∷◌, ◌++◌, length, length-append, map, get_or, Some, Ok, refl, sym, subst, arith, append_assoc, append-nil, ◌∙◌, ap}
use Rattle.std.specs.Prelude.{nat_le, ◌==◌, All, AllPairs, fold, insert}
use Rattle.std.specs.List.{list_all, position_or_len}
use Rattle.std.proofs.lemmas.Bool.Decides.{nat_tests}
use Rattle.std.proofs.lemmas.List.{length-map}
use Rattle.std.proofs.lemmas.List.Edits.{insert_end}
use Rattle.std.proofs.lemmas.List.Sums.{position_or_len_is}
use Rattle.std.proofs.lemmas.List.Elements.{All-head, All-tail, All-push, All-nil}
use Rattle.taxi_base.proofs.ListLaws.{AllPairs-first, AllPairs-rest}
use Rattle.taxi_base.specs.declared.numbers.Segment.{Segment}
use Rattle.taxi_base.specs.Words.{is_name}
use Rattle.taxi_base.specs.Airport.{Airport, IsConflictSet, has_member}
use Rattle.airport_file.specs.Words.{segment_word}
use Rattle.airport_rules.specs.declared.version.Version.TheVariants.{Two}
use Rattle.airport_rules.specs.Plan.{Plan}
use Rattle.airport_rules.specs.Rules.{judge, judge_conflict_row, members_of, repeats, with_member, in_order}
use Rattle.airport_text.specs.Canonical.{conflict_record}
use Rattle.airport_text.proofs.Judging.{AreTaken}
use Rattle.airport_text.proofs.Times.{IsNamed, segment-found}

abbrev Below : Segment → Segment → Type 0
Below m n = m.0 < n.0

-- ---- members that rise

-- the last member goes to the end
member-last : (set : List Segment) (m : Segment) → All (λ s. s.0 < m.0) set → with_member set m ≡ set ++ m ∷ []
member-last set m above =
    let at : position_or_len (λ s. nat_le m.0 s.0) set ≡ length set =
    position_or_len_is (λ s. nat_le m.0 s.0) set (length set) m (omega arith)
    (λ k low. let less = above k m low in grind (arith, nat_tests, less)) (λ past. absurd (omega (arith, past))) in
    ap (λ k. insert set k m) at ∙ insert_end set m

order-fold : (set members : List Segment) → AllPairs Below members → All (λ m. All (λ s. s.0 < m.0) set) members → fold with_member set members ≡ set ++ members
order-fold set [] rising above = sym (append-nil set)
order-fold set (m ∷ members) rising above =
    let after : All (Below m) members = AllPairs-first Below m members rising in
    rw (member-last set m (All-head (λ m. All (λ s. s.0 < m.0) set) m members above))
    (order-fold (set ++ m ∷ []) members (AllPairs-rest Below m members rising)
    (λ k d low. All-push (λ s. s.0 < (get_or members k d).0) set m (All-tail (λ m. All (λ s. s.0 < m.0) set) m members above k d low) (after k d low))
    ∙ append_assoc set (m ∷ []) members)

order-again : (members : List Segment) → AllPairs Below members → in_order members ≡ members
order-again members rising = order-fold [] members rising (λ k d low. All-nil (λ s. s.0 < (get_or members k d).0))

-- and none stands twice
member-once : (members : List Segment) (m : Segment) → All (Below m) members → has_member members m ≡ false
member-once [] m above = refl
member-once (n ∷ members) m above =
    let less : m.0 < n.0 = All-head (Below m) n members above in
    let other : (n.0 == m.0) ≡ false = grind (arith, nat_tests, less) in
    rw (other, member-once members m (All-tail (Below m) n members above)) refl

members-once : (members : List Segment) → AllPairs Below members → repeats members ≡ false
members-once [] rising = refl
members-once (m ∷ members) rising = rw (member-once members m (AllPairs-first Below m members rising), members-once members (AllPairs-rest Below m members rising)) refl

-- ---- their names

names-again : (airport : Airport) (plan : Plan) (members : List Segment) → IsNamed airport plan → All (λ m. m.0 < length airport.segments) members
    → (list_all is_name (map (segment_word airport) members) ≡ true) × (members_of plan.segments (map (segment_word airport) members) ≡ Some members)
names-again airport plan [] named all = (refl, refl)
names-again airport plan (m ∷ members) named all =
    let first = segment-found airport plan m named (All-head (λ m. m.0 < length airport.segments) m members all) in
    let rest = names-again airport plan members named (All-tail (λ m. m.0 < length airport.segments) m members all) in
    (rw (first.valid, rest.0) refl, rw (first.place, rest.1) refl)

-- ---- one record

-- the plan with these sets
abbrev pub with_conflicts : Plan → List (List Segment) → Plan
with_conflicts plan conflicts = record plan { conflicts = conflicts }

set-judged : (plan : Plan) (names : List (List ℕ)) (members : List Segment) → 2 ≤ length names → length names ≤ 16 → list_all is_name names ≡ true → members_of plan.segments names ≡ Some members
    → repeats members ≡ false → in_order members ≡ members → nat_le 10000 (length plan.conflicts) ≡ false
    → judge_conflict_row plan names ≡ Ok (with_conflicts plan (plan.conflicts ++ members ∷ []))
set-judged plan names members low high valid found once order room =
    let some : nat_le 2 (length names) ≡ true = grind (arith, nat_tests, low) in
    let few : nat_le (length names) 16 ≡ true = grind (arith, nat_tests, high) in
    rw (some, few, valid, found, once, room, order) refl

set-taken : (airport : Airport) (plan : Plan) (members : List Segment) → IsNamed airport plan → IsConflictSet (length airport.segments) members → nat_le 10000 (length plan.conflicts) ≡ false
    → judge Two plan (conflict_record airport members) ≡ Ok (with_conflicts plan (plan.conflicts ++ members ∷ []))
unfolding judge
set-taken airport plan members named set room =
    let names = names-again airport plan members named set.2 in
    let long = length-map members (segment_word airport) in
    let low = set.0 in
    let high = set.1 in
    set-judged plan (map (segment_word airport) members) members (omega (arith, long, low)) (omega (arith, long, high)) names.0 names.1
    (members-once members set.3) (order-again members set.3) room

-- ---- all records

pub sets-taken : (airport : Airport) (plan new : Plan) (sets : List (List Segment)) → IsNamed airport plan → All (IsConflictSet (length airport.segments)) sets
    → length (plan.conflicts ++ sets) ≤ 10000 → new ≡ with_conflicts plan (plan.conflicts ++ sets) → AreTaken plan (map (conflict_record airport) sets) new
sets-taken airport plan new [] named all few e = sym (e ∙ rw (append-nil plan.conflicts) refl)
sets-taken airport plan new (set ∷ sets) named all few e =
    let next : Plan = with_conflicts plan (plan.conflicts ++ set ∷ []) in
    let joined = append_assoc plan.conflicts (set ∷ []) sets in
    let longer = length-append plan.conflicts (set ∷ sets) in
    let less : length plan.conflicts < 10000 = omega (arith, longer, few) in
    let room : nat_le 10000 (length plan.conflicts) ≡ false = grind (arith, nat_tests, less) in (
      next,
      set-taken airport plan set named (All-head (IsConflictSet (length airport.segments)) set sets all) room,
      sets-taken airport next new sets (record { well = named.well; segments = named.segments; classes = named.classes })
          (All-tail (IsConflictSet (length airport.segments)) set sets all)
          (subst (λ ss. length ss ≤ 10000) (sym joined) few) (rw joined e),
    )
