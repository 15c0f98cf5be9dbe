-- The records of clearances are let through, and the clearances that they give.
use Rattle.std.proofs.Common.{◌≡◌, ℕ, ◌≤◌, ◌<◌, ◌+◌, zero, suc, Bool, true, false, List, [], ◌∷◌, ◌++◌, length, take, replicate, get_or, set, Option, Some, None, Ok, refl, sym, subst, arith, append_assoc, append-nil, ◌∙◌, ap, add-one}
use Rattle.std.specs.Prelude.{◌==◌, nat_lt, fold, filter_map, decimal, codes, if◌then◌else◌}
use Rattle.std.specs.List.{cons_option}
use Rattle.std.proofs.Math.Seq.{set-append_seam, take-length}
use Rattle.std.proofs.lemmas.Bool.Decides.{nat_tests}
use Rattle.std.proofs.lemmas.List.{take_more, length-take-le}
use Rattle.std.proofs.lemmas.List.Elements.{filter_map-append}
use Rattle.std.proofs.lemmas.List.Folds.{list_any-append}
use Rattle.std.proofs.lemmas.List.Sums.{fold-append}
use Rattle.taxi_base.specs.declared.numbers.Class.{Class}
use Rattle.taxi_base.specs.Airport.{Airport, IsWellFormed, clearance_of}
use Rattle.airport_file.specs.Words.{class_word}
use Rattle.airport_file.proofs.NamedPlaces.{IsFound}
use Rattle.airport_rules.specs.declared.rows.ClearanceRow.{ClearanceRow}
use Rattle.airport_rules.specs.declared.version.Version.TheVariants.{Two}
use Rattle.airport_rules.specs.Plan.{Plan, with_clearance, clearances_of}
use Rattle.airport_rules.specs.Rules.{judge, judge_clearance, number_within, has_clearance}
use Rattle.airport_text.specs.Canonical.{numbers_below, clearance_record, clearance_records}
use Rattle.airport_text.proofs.Judging.{AreTaken, taken-append}
use Rattle.airport_text.proofs.Times.{IsNamed, number-taken, class-found}

-- ---- the rows

-- what an airport has for the class of a number
abbrev own : Airport → ℕ → ℕ
own airport class = clearance_of airport (record { 0 = class })

abbrev row_with : ℕ → ℕ → ClearanceRow
row_with class n = record { class = record { 0 = class }; seconds = n }

-- the row of a class, if it has a clearance
abbrev pub clearance_row : Airport → ℕ → Option ClearanceRow
clearance_row airport class = if nat_lt 0 (own airport class) then Some (row_with class (own airport class)) else None

-- those of the classes below a number
abbrev pub clearances_below : Airport → ℕ → List ClearanceRow
clearances_below airport many = filter_map (clearance_row airport) (numbers_below many)

-- ---- one record

-- the plan with these clearances
abbrev pub with_clearances : Plan → List ClearanceRow → Plan
with_clearances plan rows = record plan { clearances = rows }

clearance-judged : (plan : Plan) (name number : List ℕ) (class n : ℕ) → IsFound name plan.classes class → number_within 0 600 number ≡ Some n
    → has_clearance (record { 0 = class }) plan.clearances ≡ false
    → judge_clearance plan name number ≡ Ok (with_clearances plan (plan.clearances ++ row_with class n ∷ []))
clearance-judged plan name number class n found read fresh = rw (found.valid, found.place, read, fresh) refl

clearance-range : (airport : Airport) (class : ℕ) → IsWellFormed airport → class < length airport.classes → own airport class ≤ 600
clearance-range airport class well low = let long = well.clearances.0 in well.clearances.1 class 0 (omega (arith, low, long))

clearance-taken : (airport : Airport) (plan : Plan) (class : ℕ) → IsNamed airport plan → class < length airport.classes → has_clearance (record { 0 = class }) plan.clearances ≡ false
    → judge Two plan (codes "clearance" ∷ class_word airport (record { 0 = class }) ∷ decimal (own airport class) ∷ [])
    ≡ Ok (with_clearances plan (plan.clearances ++ row_with class (own airport class) ∷ []))
unfolding judge
clearance-taken airport plan class named low fresh =
    let short = clearance-range airport class named.well low in
    clearance-judged plan (class_word airport (record { 0 = class })) (decimal (own airport class)) class (own airport class) (class-found airport plan (record { 0 = class }) named low)
    (number-taken 0 600 (own airport class) (omega arith) short (omega (arith, short))) fresh

-- the record of a class, where it has a clearance
one-taken : (airport : Airport) (plan : Plan) (class : ℕ) → IsNamed airport plan → class < length airport.classes → has_clearance (record { 0 = class }) plan.clearances ≡ false
    → AreTaken plan (filter_map (λ c. clearance_record airport (record { 0 = c })) (class ∷ [])) (with_clearances plan (plan.clearances ++ filter_map (clearance_row airport) (class ∷ [])))
one-taken airport plan class named low fresh = go (nat_lt 0 (own airport class))
  where
    go : (b : Bool)
        → AreTaken plan
        (cons_option (if b then Some (codes "clearance" ∷ class_word airport (record { 0 = class }) ∷ decimal (own airport class) ∷ []) else None) [])
        (with_clearances plan (plan.clearances ++ cons_option (if b then Some (row_with class (own airport class)) else None) []))
    go true = (with_clearances plan (plan.clearances ++ row_with class (own airport class) ∷ []), clearance-taken airport plan class named low fresh, refl)
    go false = rw (append-nil plan.clearances) refl

-- ---- no clearance is given twice

given-append : (class : Class) (before after : List ClearanceRow) → has_clearance class before ≡ false → has_clearance class after ≡ false → has_clearance class (before ++ after) ≡ false
given-append class before after e f = list_any-append (λ r. r.class.0 == class.0) before after ∙ rw (e, f) refl

-- a class has none yet among those of the classes below it
given-above : (airport : Airport) (class many : ℕ) → many ≤ class → has_clearance (record { 0 = class }) (clearances_below airport many) ≡ false
given-above airport class zero low = refl
given-above airport class (suc many) low =
    rw (filter_map-append (clearance_row airport) (numbers_below many) (many ∷ []))
    (given-append (record { 0 = class }) (clearances_below airport many) (filter_map (clearance_row airport) (many ∷ []))
    (given-above airport class many (omega (arith, low))) (go (nat_lt 0 (own airport many))))
  where
    apart : (many == class) ≡ false
    apart = grind (arith, nat_tests, low)

    go : (b : Bool) → has_clearance (record { 0 = class }) (cons_option (if b then Some (row_with many (own airport many)) else None) []) ≡ false
    go true = grind (arith, nat_tests, apart)
    go false = refl

-- ---- all records

below-taken : (airport : Airport) (plan : Plan) (many : ℕ) → IsNamed airport plan → many ≤ length airport.classes → plan.clearances ≡ []
    → AreTaken plan (filter_map (λ c. clearance_record airport (record { 0 = c })) (numbers_below many)) (with_clearances plan (clearances_below airport many))
below-taken airport plan zero named low none = rw (sym none) refl
below-taken airport plan (suc many) named low none =
    let middle : Plan = with_clearances plan (clearances_below airport many) in
    rw (
      filter_map-append (λ c. clearance_record airport (record { 0 = c })) (numbers_below many) (many ∷ []),
      filter_map-append (clearance_row airport) (numbers_below many) (many ∷ []),
    )
    (taken-append plan middle _ _ _ (below-taken airport plan many named (omega (arith, low)) none)
    (one-taken airport middle many (record { well = named.well; segments = named.segments; classes = named.classes }) (omega (arith, low)) (given-above airport many many (omega arith))))

pub clearances-taken : (airport : Airport) (plan : Plan) → IsNamed airport plan → plan.clearances ≡ []
    → AreTaken plan (clearance_records airport) (with_clearances plan (clearances_below airport (length airport.classes)))
clearances-taken airport plan named none = below-taken airport plan (length airport.classes) named (omega arith) none

-- ---- the clearances are given again

-- one more of them, at the first place that has 0 still
more-written : (given : List ℕ) (many rest : ℕ) → many < length given
    → fold with_clearance (take many given ++ 0 ∷ replicate rest 0) (cons_option (if nat_lt 0 (get_or given many 0) then Some (row_with many (get_or given many 0)) else None) [])
    ≡ take (suc many) given ++ replicate rest 0
more-written given many rest low =
    go (nat_lt 0 (get_or given many 0)) refl
    ∙ sym (append_assoc (take many given) (get_or given many 0 ∷ []) (replicate rest 0))
    ∙ ap (λ xs. xs ++ replicate rest 0) (sym (take_more given many 0 low) ∙ ap (λ n. take n given) (add-one many))
  where
    long : length (take many given) ≡ many
    long = length-take-le many given (omega (arith, low))

    go : (b : Bool) → nat_lt 0 (get_or given many 0) ≡ b
        → fold with_clearance (take many given ++ 0 ∷ replicate rest 0) (cons_option (if b then Some (row_with many (get_or given many 0)) else None) [])
        ≡ take many given ++ get_or given many 0 ∷ replicate rest 0
    go true e =
        subst (λ k. set (take many given ++ 0 ∷ replicate rest 0) k (get_or given many 0) ≡ take many given ++ get_or given many 0 ∷ replicate rest 0) long
        (set-append_seam (take many given) 0 (replicate rest 0) (get_or given many 0))
    go false e = let none : 0 ≡ get_or given many 0 = grind (arith, nat_tests, e) in ap (λ g. take many given ++ g ∷ replicate rest 0) none

written-below : (airport : Airport) (many rest : ℕ) → many + rest ≡ length airport.clearances
    → fold with_clearance (replicate (length airport.clearances) 0) (clearances_below airport many) ≡ take many airport.clearances ++ replicate rest 0
written-below airport zero rest e = let all : length airport.clearances ≡ rest = omega (arith, e) in ap (λ n. replicate {A = ℕ} n 0) all
written-below airport (suc many) rest e =
    let start = replicate (length airport.clearances) 0 in
    ap (fold with_clearance start) (filter_map-append (clearance_row airport) (numbers_below many) (many ∷ []))
    ∙ fold-append with_clearance start (clearances_below airport many) (filter_map (clearance_row airport) (many ∷ []))
    ∙ ap (λ xs. fold with_clearance xs (filter_map (clearance_row airport) (many ∷ []))) (written-below airport many (suc rest) (omega (arith, e)))
    ∙ more-written airport.clearances many rest (omega (arith, e))

pub clearances-again : (airport : Airport) → IsWellFormed airport → clearances_of (length airport.classes) (clearances_below airport (length airport.classes)) ≡ airport.clearances
clearances-again airport well =
    let given = airport.clearances in
    subst (λ n. clearances_of n (clearances_below airport n) ≡ given) well.clearances.0
    (written-below airport (length given) 0 (omega arith) ∙ append-nil (take (length given) given) ∙ take-length given)
