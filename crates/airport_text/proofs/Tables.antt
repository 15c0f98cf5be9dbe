-- The table of the rows is that of the airport.
use Rattle.std.proofs.Common.{◌≡◌, ◌≢◌, ℕ, ◌<◌, ◌≤◌, zero, suc, false, List, [], ◌∷◌, ◌++◌, length, replicate, get_or, set, Option, Some, None, refl, sym, subst, arith, ◌∙◌, ap, inl, inr, ◌⊎◌, length-set, get_or-set_same, get_or-set_other, ext_get_or}
use Rattle.std.specs.Prelude.{◌==◌, IfSome, All, Contains, fold, option_map, filter_map}
use Rattle.std.specs.List.{cons_option}
use Rattle.std.proofs.lemmas.Bool.{cases_Bool, cases_lt, eqb-true, eq-eqb, both_ways}
use Rattle.std.proofs.lemmas.List.{length-map, length-replicate, get_or-replicate, get_or_past}
use Rattle.std.proofs.lemmas.List.Elements.{All-head, All-tail, All-set, All-replicate, All-weaker, All-map, All-contains_itself, Contains-push_cases, Contains-push, Contains-append_left}
use Rattle.taxi_base.proofs.ListLaws.{Contains-cons_cases, Contains-first, Contains-rest, Contains-flat_map, flat_map-Contains}
use Rattle.taxi_base.specs.Airport.{Airport, ClassRow, IsWellFormed, seconds, seconds_in, times_of}
use Rattle.airport_rules.specs.declared.rows.TimeRow.{TimeRow}
use Rattle.airport_rules.specs.Plan.{with_time, table_of}
use Rattle.airport_text.specs.Canonical.{numbers_below}
use Rattle.airport_text.proofs.Times.{time_row, rows_on, rows_below}

abbrev Table : Type 0
Table = List (List (Option ℕ))

-- what a table has for a class and a segment
abbrev look : Table → ℕ → ℕ → Option ℕ
look table class segment = get_or (get_or table class []) segment None

-- ---- a table of so many classes and segments

abbrev IsLong : ℕ → List (Option ℕ) → Type 0
IsLong segments row = length row ≡ segments

record IsTable (classes segments : ℕ) (table : Table) : Type 0 where
  pub height : length table ≡ classes
  pub width : All (λ row. length row ≡ segments) table

empty-table : (classes segments : ℕ) → IsTable classes segments (replicate classes (replicate segments None))
empty-table classes segments = record {
  height = length-replicate classes (replicate segments None);
  width = All-replicate (IsLong segments) classes (replicate segments None) (length-replicate segments None);
}

-- a row within the table
record IsInside (classes segments : ℕ) (t : TimeRow) : Type 0 where
  pub class : t.class.0 < classes
  pub segment : t.segment.0 < segments

table-with_time : (classes segments : ℕ) (table : Table) (t : TimeRow) → IsTable classes segments table → IsInside classes segments t → IsTable classes segments (with_time table t)
table-with_time classes segments table t h inside = record {
  height = length-set table t.class.0 (set (get_or table t.class.0 []) t.segment.0 (Some t.seconds)) ∙ h.height;
  width = All-set (IsLong segments) table t.class.0 (set (get_or table t.class.0 []) t.segment.0 (Some t.seconds))
      (length-set (get_or table t.class.0 []) t.segment.0 (Some t.seconds) ∙ h.width t.class.0 [] (let low = inside.class in omega (arith, low, h.height))) h.width;
}

-- ---- one row written in

look-written : (classes segments : ℕ) (table : Table) (t : TimeRow) → IsTable classes segments table → IsInside classes segments t
    → look (with_time table t) t.class.0 t.segment.0 ≡ Some t.seconds
look-written classes segments table t h inside =
    let row = set (get_or table t.class.0 []) t.segment.0 (Some t.seconds) in
    let class : t.class.0 < length table = let low = inside.class in omega (arith, low, h.height) in
    let segment : t.segment.0 < length (get_or table t.class.0 []) = let low = inside.segment in let wide = h.width t.class.0 [] class in omega (arith, low, wide) in
    ap (λ r. get_or r t.segment.0 None) (get_or-set_same table t.class.0 row [] class) ∙ get_or-set_same (get_or table t.class.0 []) t.segment.0 (Some t.seconds) None segment

-- elsewhere nothing changes
look-kept : (classes segments : ℕ) (table : Table) (t : TimeRow) (class segment : ℕ) → IsTable classes segments table → IsInside classes segments t
    → ((class ≡ t.class.0) × (segment ≡ t.segment.0)) ⊎ (look (with_time table t) class segment ≡ look table class segment)
look-kept classes segments table t class segment h inside = elim (cases_Bool (class == t.class.0)) [
  | inl same ↦
      let c : class ≡ t.class.0 = eqb-true class t.class.0 same in
      elim (cases_Bool (segment == t.segment.0)) [
        | inl here ↦ inl (c, eqb-true segment t.segment.0 here)
        | inr other ↦ inr (
            let row = set (get_or table t.class.0 []) t.segment.0 (Some t.seconds) in
            let low : t.class.0 < length table = let low = inside.class in omega (arith, low, h.height) in
            subst (λ k. look (with_time table t) k segment ≡ look table k segment) (sym c)
            (ap (λ r. get_or r segment None) (get_or-set_same table t.class.0 row [] low)
            ∙ get_or-set_other (get_or table t.class.0 []) t.segment.0 segment (Some t.seconds) None (apart segment t.segment.0 other)))
      ]
  | inr other ↦ inr (ap (λ r. get_or r segment None)
      (get_or-set_other table t.class.0 class (set (get_or table t.class.0 []) t.segment.0 (Some t.seconds)) [] (apart class t.class.0 other)))
]
  where
    apart : (a b : ℕ) → (a == b) ≡ false → a ≢ b
    apart a b other same = both_ways (a == b) other (eq-eqb a b same)

-- ---- the rows of an airport

-- the row is inside, and is what the airport has there
record IsRowOf (airport : Airport) (t : TimeRow) : Type 0 where
  pub inside : IsInside (length airport.classes) (length airport.segments) t
  pub given : seconds airport t.class t.segment ≡ Some t.seconds

-- the table has what the airport has there
abbrev Holds : Airport → Table → ℕ → ℕ → Type 0
Holds airport table class segment = look table class segment ≡ seconds airport (record { 0 = class }) (record { 0 = segment })

-- or nothing
abbrev IsPartial : Airport → Table → Type 0
IsPartial airport table = (class segment : ℕ) → (look table class segment ≡ None) ⊎ Holds airport table class segment

abbrev IsTableOf : Airport → Table → Type 0
IsTableOf airport table = IsTable (length airport.classes) (length airport.segments) table

holds-written : (airport : Airport) (table : Table) (t : TimeRow) → IsTableOf airport table → IsRowOf airport t → Holds airport (with_time table t) t.class.0 t.segment.0
holds-written airport table t h row = look-written (length airport.classes) (length airport.segments) table t h row.inside ∙ sym row.given

holds-kept : (airport : Airport) (table : Table) (t : TimeRow) (class segment : ℕ) → IsTableOf airport table → IsRowOf airport t → Holds airport table class segment
    → Holds airport (with_time table t) class segment
holds-kept airport table t class segment h row holds =
    elim (look-kept (length airport.classes) (length airport.segments) table t class segment h row.inside) [
      | inl same ↦ subst (λ k. Holds airport (with_time table t) k segment) (sym same.0) (subst (λ k. Holds airport (with_time table t) t.class.0 k) (sym same.1) (holds-written airport table t h row))
      | inr kept ↦ kept ∙ holds
    ]

partial-kept : (airport : Airport) (table : Table) (t : TimeRow) → IsTableOf airport table → IsRowOf airport t → IsPartial airport table → IsPartial airport (with_time table t)
partial-kept airport table t h row part class segment =
    elim (look-kept (length airport.classes) (length airport.segments) table t class segment h row.inside) [
      | inl same ↦ inr (subst (λ k. Holds airport (with_time table t) k segment) (sym same.0) (subst (λ k. Holds airport (with_time table t) t.class.0 k) (sym same.1) (holds-written airport table t h row)))
      | inr kept ↦ elim (part class segment) [ inl none ↦ inl (kept ∙ none) | inr holds ↦ inr (kept ∙ holds) ]
    ]

-- ---- all rows written in

fold-table : (airport : Airport) (table : Table) (rows : List TimeRow) → IsTableOf airport table → All (IsRowOf airport) rows → IsTableOf airport (fold with_time table rows)
fold-table airport table [] h all = h
fold-table airport table (t ∷ rows) h all =
    let row = All-head (IsRowOf airport) t rows all in
    fold-table airport (with_time table t) rows (table-with_time (length airport.classes) (length airport.segments) table t h row.inside) (All-tail (IsRowOf airport) t rows all)

fold-partial : (airport : Airport) (table : Table) (rows : List TimeRow) → IsTableOf airport table → All (IsRowOf airport) rows → IsPartial airport table → IsPartial airport (fold with_time table rows)
fold-partial airport table [] h all part = part
fold-partial airport table (t ∷ rows) h all part =
    let row = All-head (IsRowOf airport) t rows all in
    fold-partial airport (with_time table t) rows (table-with_time (length airport.classes) (length airport.segments) table t h row.inside) (All-tail (IsRowOf airport) t rows all)
    (partial-kept airport table t h row part)

fold-kept : (airport : Airport) (table : Table) (rows : List TimeRow) (class segment : ℕ) → IsTableOf airport table → All (IsRowOf airport) rows → Holds airport table class segment
    → Holds airport (fold with_time table rows) class segment
fold-kept airport table [] class segment h all holds = holds
fold-kept airport table (t ∷ rows) class segment h all holds =
    let row = All-head (IsRowOf airport) t rows all in
    fold-kept airport (with_time table t) rows class segment (table-with_time (length airport.classes) (length airport.segments) table t h row.inside) (All-tail (IsRowOf airport) t rows all)
    (holds-kept airport table t class segment h row holds)

fold-written : (airport : Airport) (table : Table) (rows : List TimeRow) (t : TimeRow) → IsTableOf airport table → All (IsRowOf airport) rows → Contains rows t
    → Holds airport (fold with_time table rows) t.class.0 t.segment.0
fold-written airport table [] t h all among = absurd (omega (arith, among.1))
fold-written airport table (u ∷ rows) t h all among =
    let row = All-head (IsRowOf airport) u rows all in
    let rest = All-tail (IsRowOf airport) u rows all in
    let next = table-with_time (length airport.classes) (length airport.segments) table u h row.inside in
    elim (Contains-cons_cases u t rows among) [
      | inl same ↦ subst (λ v. Holds airport (fold with_time (with_time table u) rows) v.class.0 v.segment.0) same
          (fold-kept airport (with_time table u) rows u.class.0 u.segment.0 next rest (holds-written airport table u h row))
      | inr later ↦ fold-written airport (with_time table u) rows t next rest later
    ]

-- ---- the rows are those of the airport

below-low : (n k : ℕ) → Contains (numbers_below n) k → k < n
below-low zero k among = absurd (omega (arith, among.1))
below-low (suc n) k among = elim (Contains-push_cases (numbers_below n) n k among) [
  | inl before ↦ let low = below-low n k before in omega (arith, low)
  | inr same ↦ omega (arith, same)
]

low-below : (n k : ℕ) → k < n → Contains (numbers_below n) k
low-below zero k low = absurd (omega (arith, low))
low-below (suc n) k low = elim (cases_lt k n) [
  | inl before ↦ Contains-append_left (numbers_below n) (n ∷ []) k (low-below n k before)
  | inr last ↦ let same : n ≡ k = omega (arith, low, last) in subst (λ m. Contains (numbers_below n ++ n ∷ []) m) same (Contains-push (numbers_below n) n)
]

pub Contains-filter_map : {X Y : Type 0} (h : X → Option Y) (xs : List X) (x : X) (y : Y) → Contains xs x → h x ≡ Some y → Contains (filter_map h xs) y
Contains-filter_map {X} {Y} h [] x y among e = absurd (omega (arith, among.1))
Contains-filter_map {X} {Y} h (z ∷ xs) x y among e = elim (Contains-cons_cases z x xs among) [
  | inl same ↦ let first : h z ≡ Some y = ap h same ∙ e in rw first (Contains-first y (filter_map h xs))
  | inr later ↦ go (h z) (Contains-filter_map h xs x y later e)
]
  where
    go : (o : Option Y) → Contains (filter_map h xs) y → Contains (cons_option o (filter_map h xs)) y
    go (Some w) rest = Contains-rest w y (filter_map h xs) rest
    go None rest = rest

pub filter_map-Contains : {X Y : Type 0} (h : X → Option Y) (xs : List X) (y : Y) → Contains (filter_map h xs) y → (x : X) × Contains xs x × (h x ≡ Some y)
filter_map-Contains {X} {Y} h [] y among = absurd (omega (arith, among.1))
filter_map-Contains {X} {Y} h (z ∷ xs) y among = go (h z) refl (λ later. filter_map-Contains h xs y later) among
  where
    go : (o : Option Y) → h z ≡ o → (Contains (filter_map h xs) y → (x : X) × Contains xs x × (h x ≡ Some y)) → Contains (cons_option o (filter_map h xs)) y
        → (x : X) × Contains (z ∷ xs) x × (h x ≡ Some y)
    go (Some w) e rest k = elim (Contains-cons_cases w y (filter_map h xs) k) [
      | inl same ↦ (z, Contains-first z xs, e ∙ ap Some same)
      | inr later ↦ let found = rest later in (found.0, Contains-rest z found.0 xs found.1, found.2)
    ]
    go None e rest k = let found = rest k in (found.0, Contains-rest z found.0 xs found.1, found.2)

-- what a row of a class on a segment is
row-is : (airport : Airport) (segment class : ℕ) (t : TimeRow) → segment < length airport.segments → class < length airport.classes → time_row airport segment class ≡ Some t → IsRowOf airport t
row-is airport segment class t s c e = go (seconds airport (record { 0 = class }) (record { 0 = segment })) refl e
  where
    go : (o : Option ℕ) → seconds airport (record { 0 = class }) (record { 0 = segment }) ≡ o
        → option_map (λ n. record { segment = record { 0 = segment }; class = record { 0 = class }; seconds = n }) o ≡ Some t → IsRowOf airport t
    go (Some n) given is =
        let row : TimeRow = record { segment = record { 0 = segment }; class = record { 0 = class }; seconds = n } in
        let same : row ≡ t = cc is in
        subst (IsRowOf airport) same (record { inside = record { class = c; segment = s }; given = given })
    go None given is = absurd (cc is)

rows-are : (airport : Airport) → All (IsRowOf airport) (rows_below airport (length airport.segments))
rows-are airport =
    let rows = rows_below airport (length airport.segments) in
    All-weaker (Contains rows) (IsRowOf airport) (λ t among.
    let s = flat_map-Contains (λ s. rows_on airport s (length airport.classes)) (numbers_below (length airport.segments)) t among in
    let c = filter_map-Contains (time_row airport s.0) (numbers_below (length airport.classes)) t s.2 in
    row-is airport s.0 c.0 t (below-low (length airport.segments) s.0 s.1) (below-low (length airport.classes) c.0 c.1) c.2) rows (All-contains_itself rows)

-- ---- the table

get_or-nothing : (n k : ℕ) → get_or {A = Option ℕ} (replicate n None) k None ≡ None
get_or-nothing n k = elim (cases_lt k n) [
  | inl low ↦ get_or-replicate n k None None low
  | inr past ↦ get_or_past (replicate n None) k None (let long = length-replicate {A = Option ℕ} n None in omega (arith, past, long))
]

look-empty : (classes segments class segment : ℕ) → look (replicate classes (replicate segments None)) class segment ≡ None
look-empty classes segments class segment = elim (cases_lt class classes) [
  | inl low ↦ ap (λ r. get_or r segment None) (get_or-replicate classes class (replicate segments None) [] low) ∙ get_or-nothing segments segment
  | inr past ↦ ap (λ r. get_or r segment None)
      (get_or_past (replicate classes (replicate segments None)) class [] (let long = length-replicate {A = List (Option ℕ)} classes (replicate segments None) in omega (arith, past, long)))
]

holds-all : (airport : Airport) (class segment : ℕ) → class < length airport.classes → segment < length airport.segments
    → Holds airport (table_of (length airport.classes) (length airport.segments) (rows_below airport (length airport.segments))) class segment
holds-all airport class segment c s = go (seconds airport (record { 0 = class }) (record { 0 = segment })) refl
  where
    rows : List TimeRow
    rows = rows_below airport (length airport.segments)

    start : Table
    start = replicate (length airport.classes) (replicate (length airport.segments) None)

    go : (o : Option ℕ) → seconds airport (record { 0 = class }) (record { 0 = segment }) ≡ o → look (fold with_time start rows) class segment ≡ seconds airport (record { 0 = class }) (record { 0 = segment })
    go (Some n) given =
        let t : TimeRow = record { segment = record { 0 = segment }; class = record { 0 = class }; seconds = n } in
        fold-written airport start rows t (empty-table (length airport.classes) (length airport.segments)) (rows-are airport)
        (Contains-flat_map (λ s. rows_on airport s (length airport.classes)) (numbers_below (length airport.segments)) segment t (low-below (length airport.segments) segment s)
        (Contains-filter_map (time_row airport segment) (numbers_below (length airport.classes)) class t (low-below (length airport.classes) class c) (ap (option_map (λ n. record { segment = record { 0 = segment }; class = record { 0 = class }; seconds = n })) given)))
    go None given =
        elim (fold-partial airport start rows (empty-table (length airport.classes) (length airport.segments)) (rows-are airport)
        (λ k m. inl (look-empty (length airport.classes) (length airport.segments) k m)) class segment) [
          | inl none ↦ none ∙ sym given
          | inr holds ↦ holds
        ]

abbrev airport-wide : (airport : Airport) → IsWellFormed airport → All (λ row. length row ≡ length airport.segments) (times_of airport)
airport-wide airport well =
    All-map (IsLong (length airport.segments)) (λ c. c.seconds) airport.classes
    (All-weaker (λ (c : ClassRow). (length c.seconds ≡ length airport.segments) × All (λ n. IfSome n (λ k. (1 ≤ k) × (k ≤ 3600))) c.seconds)
    (λ (c : ClassRow). length c.seconds ≡ length airport.segments) (λ c h. h.0) airport.classes well.times)

pub table-again : (airport : Airport) → IsWellFormed airport
    → table_of (length airport.classes) (length airport.segments) (rows_below airport (length airport.segments)) ≡ times_of airport
unfolding seconds_in
table-again airport well =
    let table = table_of (length airport.classes) (length airport.segments) (rows_below airport (length airport.segments)) in
    let shape : IsTableOf airport table =
    fold-table airport (replicate (length airport.classes) (replicate (length airport.segments) None)) (rows_below airport (length airport.segments))
    (empty-table (length airport.classes) (length airport.segments)) (rows-are airport) in
    let wide = airport-wide airport well in
    let high : length (times_of airport) ≡ length airport.classes = length-map airport.classes (λ c. c.seconds) in
    ext_get_or [] table (times_of airport) (shape.height ∙ sym high) (λ class c.
    let low : class < length airport.classes = omega (arith, c, shape.height) in
    let here : class < length (times_of airport) = omega (arith, low, high) in
    ext_get_or None (get_or table class []) (get_or (times_of airport) class []) (shape.width class [] c ∙ sym (wide class [] here))
    (λ segment s. let wide = shape.width class [] c in holds-all airport class segment low (omega (arith, s, wide))))
