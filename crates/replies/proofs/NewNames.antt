-- Names that are new: no holder has one of them, none of them is there twice, and all have room. They are new in any order, and the
-- others stay new when one of them goes in.
use Rattle.std.proofs.Common.{◌≡◌, ◌∙◌, ℕ, ◌+◌, ◌≤◌, Bool, cond, List, [], ◌∷◌, length, map, IsFalse, Some, None, is_some, inl, inr, refl, ap, subst, arith, bytes_eq}
use Rattle.std.specs.Prelude.{All, AllPairs, Contains, IsPermutation, count_by}
use Rattle.std.specs.Cmp.Lexicographic.{bytes_decides}
use Rattle.std.proofs.lemmas.Bool.{cases_Bool, both_ways, or_parts}
use Rattle.std.proofs.lemmas.List.Elements.{All-nil, All-cons, All-head, All-tail, All-contains}
use Rattle.std.proofs.lemmas.List.Sums.{sum_by-cons}
use Rattle.std.proofs.lemmas.List.Sorted.{All-permutation, sum_by-IsPermutation, length_permutation}
use Rattle.taxi_base.specs.declared.answers.Flight.{Flight}
use Rattle.taxi_base.specs.State.{State, flight_named, party_named, named, put_in, has_holder, holder_count, with_flight}
use Rattle.taxi_base.proofs.ListLaws.{Contains-cons_cases, AllPairs-first, AllPairs-rest}
use Rattle.taxi_base.proofs.NameLaws.{differ-turned, none_named, All-put_in, length-put_in}
use Rattle.replies.specs.Refusals.{most_holders}
use Rattle.replies.proofs.RefusalLaws.{HasRoom}

-- ---- names that differ

-- how often a name is there
abbrev pub times : List ℕ → List (List ℕ) → ℕ
times name names = count_by (λ n. bytes_eq n name) names

-- none is there twice
abbrev pub AreDifferent : List (List ℕ) → Type 0
AreDifferent names = (name : List ℕ) → times name names ≤ 1

-- once where a test holds
abbrev once : Bool → ℕ
once b = cond b 1 0

times-cons : (name n : List ℕ) (names : List (List ℕ)) → times name (n ∷ names) ≡ once (bytes_eq n name) + times name names
times-cons name n names = sum_by-cons (λ m. cond (bytes_eq m name) 1 0) n names

times-itself : (n : List ℕ) (names : List (List ℕ)) → times n (n ∷ names) ≡ 1 + times n names
times-itself n names = times-cons n n names ∙ ap (λ (b : Bool). once b + times n names) ((bytes_decides n n).1 refl)

times-none : (name : List ℕ) (names : List (List ℕ)) → times name names ≡ 0 → All (λ n. IsFalse (bytes_eq n name)) names
times-none name [] e = All-nil (λ n. IsFalse (bytes_eq n name))
times-none name (n ∷ names) e =
    elim (cases_Bool (bytes_eq n name)) [
      | inl same ↦ absurd (omega (arith, e, times-cons name n names, ap once same))
      | inr other ↦ All-cons (λ n. IsFalse (bytes_eq n name)) n names other (times-none name names (omega (arith, e, times-cons name n names)))
    ]

none-times : (name : List ℕ) (names : List (List ℕ)) → All (λ n. IsFalse (bytes_eq n name)) names → times name names ≡ 0
none-times name [] others = refl
none-times name (n ∷ names) others =
    omega (arith, times-cons name n names, ap once (All-head (λ n. IsFalse (bytes_eq n name)) n names others), none-times name names (All-tail (λ n. IsFalse (bytes_eq n name)) n names others))

pub different-first : (n : List ℕ) (names : List (List ℕ)) → AreDifferent (n ∷ names) → All (λ m. IsFalse (bytes_eq m n)) names
different-first n names differ = times-none n names (omega (arith, differ n, times-itself n names))

pub different-rest : (n : List ℕ) (names : List (List ℕ)) → AreDifferent (n ∷ names) → AreDifferent names
different-rest n names differ = λ name. omega (arith, differ name, times-cons name n names)

-- names are different, where each differs from those behind it
pub different-pairs : (names : List (List ℕ)) → AllPairs (λ m n. IsFalse (bytes_eq n m)) names → AreDifferent names
different-pairs [] pairs = λ name. omega arith
different-pairs (n ∷ names) pairs = λ name. (
    let rest = different-pairs names (AllPairs-rest (λ m n. IsFalse (bytes_eq n m)) n names pairs) in
    elim (cases_Bool (bytes_eq n name)) [
      | inl same ↦
          let others = AllPairs-first (λ m n. IsFalse (bytes_eq n m)) n names pairs in
          let none = none-times name names (subst (λ k. All (λ m. IsFalse (bytes_eq m k)) names) ((bytes_decides n name).0 same) others) in
          omega (arith, none, times-cons name n names, ap once same)
      | inr other ↦ omega (arith, rest name, times-cons name n names, ap once other)
    ]
    )

pub different-permutation : (names others : List (List ℕ)) → IsPermutation names others → AreDifferent names → AreDifferent others
different-permutation names others same differ = λ name. omega (arith, differ name, sum_by-IsPermutation (λ n. cond (bytes_eq n name) 1 0) names others same)

-- ---- what has a name among things of different names

module _ {X : Type 0} (name_of : X → List ℕ) where
  -- where nothing has a name, none is found
  pub named-none : (name : List ℕ) (xs : List X) → All (λ x. IsFalse (bytes_eq (name_of x) name)) xs → named name_of name xs ≡ None
  named-none name [] others = refl
  named-none name (x ∷ xs) others =
      rw (All-head (λ x. IsFalse (bytes_eq (name_of x) name)) x xs others) (named-none name xs (All-tail (λ x. IsFalse (bytes_eq (name_of x) name)) x xs others))

  map-all : (P : List ℕ → Type 0) (xs : List X) → All P (map name_of xs) → All (λ x. P (name_of x)) xs
  map-all P [] all = All-nil (λ x. P (name_of x))
  map-all P (x ∷ xs) all = All-cons (λ x. P (name_of x)) x xs (All-head P (name_of x) (map name_of xs) all) (map-all P xs (All-tail P (name_of x) (map name_of xs) all))

  -- each is what its name finds
  pub named-own : (xs : List X) → AreDifferent (map name_of xs) → (x : X) → Contains xs x → named name_of (name_of x) xs ≡ Some x
  named-own [] differ x there = absurd (omega (arith, there.1))
  named-own (y ∷ ys) differ x there = elim (Contains-cons_cases y x ys there) [
    | inl here ↦ subst (λ z. named name_of (name_of z) (y ∷ ys) ≡ Some z) here (rw ((bytes_decides (name_of y) (name_of y)).1 refl) refl)
    | inr behind ↦
        let others = map-all (λ m. IsFalse (bytes_eq m (name_of y))) ys (different-first (name_of y) (map name_of ys) differ) in
        let other = differ-turned (name_of x) (name_of y) (All-contains (λ z. IsFalse (bytes_eq (name_of z) (name_of y))) ys x others behind) in
        rw other (named-own ys (different-rest (name_of y) (map name_of ys) differ) x behind)
  ]

  -- a name that is there finds something
  pub named-there : (xs : List X) (name : List ℕ) → Contains (map name_of xs) name → (x : X) × (named name_of name xs ≡ Some x)
  named-there [] name there = absurd (omega (arith, there.1))
  named-there (y ∷ ys) name there = elim (cases_Bool (bytes_eq (name_of y) name)) [
    | inl here ↦ (y, rw here refl)
    | inr other ↦ elim (Contains-cons_cases (name_of y) name (map name_of ys) there) [
      | inl same ↦ absurd (both_ways _ other ((bytes_decides (name_of y) name).1 same))
      | inr behind ↦ let found = named-there ys name behind in (found.0, rw other found.1)
    ]
  ]

-- ---- new names

pub record AreNew (state : State) (names : List (List ℕ)) : Type 0 where
  pub absent : All (λ n. IsFalse (has_holder n state)) names
  pub differ : AreDifferent names
  pub room : holder_count state + length names ≤ most_holders

pub new-permutation : (state : State) (names others : List (List ℕ)) → IsPermutation names others → AreNew state names → AreNew state others
new-permutation state names others same new = record {
  absent = All-permutation (λ n. IsFalse (has_holder n state)) names others same new.absent;
  differ = different-permutation names others same new.differ;
  room = omega (arith, new.room, length_permutation names others same);
}

pub new-first : (state : State) (n : List ℕ) (names : List (List ℕ)) → AreNew state (n ∷ names) → HasRoom state n
new-first state n names new = record { absent = All-head (λ m. IsFalse (has_holder m state)) n names new.absent; room = omega (arith, new.room) }

pub new-rest : (state : State) (n : List ℕ) (names : List (List ℕ)) → AreNew state (n ∷ names) → AreNew state names
new-rest state n names new = record {
  absent = All-tail (λ m. IsFalse (has_holder m state)) n names new.absent;
  differ = different-rest n names new.differ;
  room = omega (arith, new.room);
}

-- a holder of another name goes in
with_flight-absent : (flight : Flight) (state : State) (name : List ℕ) → IsFalse (bytes_eq name flight.name) → IsFalse (has_holder name state) → IsFalse (has_holder name (with_flight flight state))
with_flight-absent flight state name other absent =
    let neither = or_parts (is_some (party_named name state.parties)) (is_some (flight_named name state.flights)) absent in
    let flights = All-put_in (λ (f : Flight). f.name) (λ f. IsFalse (bytes_eq f.name name)) flight (differ-turned name flight.name other) state.flights
    (none_named (λ (f : Flight). f.name) name state.flights neither.1) in
    rw neither.0 (ap is_some (named-none (λ (f : Flight). f.name) name (put_in (λ (f : Flight). f.name) flight state.flights) flights))

pub new-with_flight : (flight : Flight) (state : State) (names : List (List ℕ)) → AreNew state (flight.name ∷ names) → AreNew (with_flight flight state) names
new-with_flight flight state names new =
    let others = different-first flight.name names new.differ in
    record {
      absent = both names others (All-tail (λ m. IsFalse (has_holder m state)) flight.name names new.absent);
      differ = different-rest flight.name names new.differ;
      room = omega (arith, new.room, length-put_in (λ (f : Flight). f.name) flight state.flights);
    }
  where
    both : (names : List (List ℕ)) → All (λ m. IsFalse (bytes_eq m flight.name)) names → All (λ m. IsFalse (has_holder m state)) names → All (λ m. IsFalse (has_holder m (with_flight flight state))) names
    both names others absent = λ k d within. with_flight-absent flight state _ (others k d within) (absent k d within)
