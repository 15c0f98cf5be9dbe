-- Names each of which is told of, and no more: they are the same in another order.
use Rattle.std.proofs.Common.{◌≡◌, ◌∙◌, ℕ, ◌+◌, ◌≤◌, true, false, List, [], ◌∷◌, length, map, get_or, cond, IsFalse, inl, inr, refl, sym, ap, subst, arith}
use Rattle.std.specs.Prelude.{All, AllPairs, Contains, bytes_eq}
use Rattle.std.specs.List.{sum_by, remove}
use Rattle.std.specs.List.Sorted.{IsPermutation}
use Rattle.std.specs.Cmp.Lexicographic.{bytes_decides}
use Rattle.std.proofs.lemmas.Bool.{cases_Bool, both_ways}
use Rattle.std.proofs.lemmas.List.Elements.{All-head, All-tail, All-weaker, All-contains_itself, All-nil, All-cons}
use Rattle.std.proofs.lemmas.List.Kept.{AllPairs-cons}
use Rattle.std.proofs.lemmas.List.Sorted.{IsPermutation-refl, IsPermutation-trans, IsPermutation-cons, IsPermutation-remove, Contains-permutation, length_permutation, All-permutation, sum_by-IsPermutation}
use Rattle.std.proofs.lemmas.List.Sums.{sum_by-cons}
use Rattle.taxi_base.proofs.ListLaws.{Contains-cons_cases, AllPairs-first, AllPairs-rest}

abbrev pub Differ : List ℕ → List ℕ → Type 0
Differ sooner later = IsFalse (bytes_eq later sooner)

-- where each of the names that differ is among as many, those are the same in another order
abbrev Contains-kept : List (List ℕ) → List (List ℕ) → Type 0
Contains-kept xs ys = (m : List ℕ) → Contains xs m → Contains ys m

pub each-named : (told names : List (List ℕ)) → length told ≡ length names → AllPairs Differ names → All (Contains told) names → IsPermutation told names
each-named [] [] long differ all = IsPermutation-refl []
each-named (t ∷ told) [] long differ all = absurd (omega (arith, long))
each-named told (n ∷ names) long differ all =
    let there = All-head (Contains told) n names all in
    let moved = IsPermutation-remove told there.0 n there.1 (sym there.2) in
    let more : Contains-kept told (n ∷ remove told there.0) = λ m h. Contains-permutation told (n ∷ remove told there.0) m moved h in
    let as_long = length_permutation _ _ moved in
    IsPermutation-trans _ _ _ moved (IsPermutation-cons n _ _ (each-named (remove told there.0) names (omega arith) (AllPairs-rest Differ n names differ)
    (others (remove told there.0) names (AllPairs-first Differ n names differ) (All-weaker (Contains told) (Contains (n ∷ remove told there.0)) more names (All-tail (Contains told) n names all)))))
  where
    others : (rest names : List (List ℕ)) → All (Differ n) names → All (Contains (n ∷ rest)) names → All (Contains rest) names
    others rest names apart all k d low =
        elim (Contains-cons_cases n (get_or names k d) rest (all k d low)) [
          | inl same ↦ absurd (both_ways _ (apart k d low) ((bytes_decides (get_or names k d) n).1 (sym same)))
          | inr there ↦ there
        ]

-- each of the names stands among those that are told where they are the same in another order, and they are as many
pub each-there : (told names : List (List ℕ)) → IsPermutation told names → All (Contains told) names
each-there told names same = All-permutation (Contains told) told names same (All-contains_itself told)

-- how often a name stands in a list
abbrev pub times_in : List (List ℕ) → List ℕ → ℕ
times_in names name = sum_by (λ n. cond (bytes_eq n name) 1 0) names

times-cons : (n : List ℕ) (names : List (List ℕ)) (name : List ℕ) → times_in (n ∷ names) name ≡ cond (bytes_eq n name) 1 0 + times_in names name
times-cons n names name = sum_by-cons (λ n. cond (bytes_eq n name) 1 0) n names

times-here : (n : List ℕ) (names : List (List ℕ)) (name : List ℕ) → bytes_eq n name ≡ true → times_in (n ∷ names) name ≡ 1 + times_in names name
times-here n names name same = times-cons n names name ∙ ap (λ b. cond b 1 0 + times_in names name) same

times-other : (n : List ℕ) (names : List (List ℕ)) (name : List ℕ) → bytes_eq n name ≡ false → times_in (n ∷ names) name ≡ times_in names name
times-other n names name other =
    let none : cond {A = ℕ} (bytes_eq n name) 1 0 ≡ 0 = rw other refl in
    omega (arith, times-cons n names name)

pub times-same : (told names : List (List ℕ)) → IsPermutation told names → (name : List ℕ) → times_in told name ≡ times_in names name
times-same told names same name = sym (sum_by-IsPermutation (λ n. cond (bytes_eq n name) 1 0) told names same)

-- in names that differ each stands once at most
never-in : (name : List ℕ) (names : List (List ℕ)) → All (Differ name) names → times_in names name ≡ 0
never-in name [] apart = refl
never-in name (n ∷ names) apart =
    times-other n names name (All-head (Differ name) n names apart) ∙ never-in name names (All-tail (Differ name) n names apart)

pub at_most-once : (names : List (List ℕ)) → AllPairs Differ names → (name : List ℕ) → times_in names name ≤ 1
at_most-once [] differ name = omega arith
at_most-once (n ∷ names) differ name =
    elim (cases_Bool (bytes_eq n name)) [
      | inl same ↦ omega (arith, times-here n names name same, never-in name names (subst (λ m. All (Differ m) names) ((bytes_decides n name).0 same) (AllPairs-first Differ n names differ)))
      | inr other ↦ omega (arith, times-other n names name other, at_most-once names (AllPairs-rest Differ n names differ) name)
    ]

-- names of which each stands once at most differ
pub differ-once : (names : List (List ℕ)) → ((name : List ℕ) → times_in names name ≤ 1) → AllPairs Differ names
differ-once [] once = λ i j d lt low. absurd (omega arith)
differ-once (n ∷ names) once = AllPairs-cons Differ n names (not-there n names none) (differ-once names (λ name. omega (arith, once name, more name))) where
  none : times_in names n ≡ 0
  none = omega (arith, once n, times-here n names n ((bytes_decides n n).1 refl))

  more : (name : List ℕ) → times_in names name ≤ times_in (n ∷ names) name
  more name = elim (cases_Bool (bytes_eq n name)) [ inl same ↦ omega (arith, times-here n names name same) | inr other ↦ omega (arith, times-other n names name other) ]

  not-there : (name : List ℕ) (names : List (List ℕ)) → times_in names name ≡ 0 → All (Differ name) names
  not-there name [] none = All-nil (Differ name)
  not-there name (m ∷ names) none =
      elim (cases_Bool (bytes_eq m name)) [
        | inl same ↦ absurd (omega (arith, none, times-here m names name same))
        | inr other ↦ All-cons (Differ name) m names other (not-there name names (omega (arith, none, times-other m names name other)))
      ]

-- the same names in another order differ too
pub differ-moved : (told names : List (List ℕ)) → IsPermutation told names → AllPairs Differ names → AllPairs Differ told
differ-moved told names same differ = differ-once told (λ name. omega (arith, times-same told names same name, at_most-once names differ name))

-- ---- what holds of all names holds of all that have them

pub unmap-all : {X Y : Type 0} (P : Y → Type 0) (f : X → Y) (xs : List X) → All P (map f xs) → All (λ x. P (f x)) xs
unmap-all P f [] all = All-nil (λ x. P (f x))
unmap-all P f (x ∷ xs) all = All-cons (λ x. P (f x)) x xs (All-head P (f x) (map f xs) all) (unmap-all P f xs (All-tail P (f x) (map f xs) all))

pub unmap-pairs : {X Y : Type 0} (R : Y → Y → Type 0) (f : X → Y) (xs : List X) → AllPairs R (map f xs) → AllPairs (λ a b. R (f a) (f b)) xs
unmap-pairs R f [] all = λ i j d lt low. absurd (omega arith)
unmap-pairs R f (x ∷ xs) all =
    AllPairs-cons (λ a b. R (f a) (f b)) x xs (unmap-all (R (f x)) f xs (AllPairs-first R (f x) (map f xs) all)) (unmap-pairs R f xs (AllPairs-rest R (f x) (map f xs) all))
