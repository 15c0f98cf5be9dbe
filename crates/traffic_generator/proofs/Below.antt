-- Lists made of the numbers below a number.
use Rattle.std.proofs.Common.{◌≡◌, ◌≢◌, ℕ, ◌<◌, ◌≤◌, ◌+◌, zero, suc, true, List, [], ◌∷◌, ◌++◌, length, map, get_or, refl, sym, ap, ap₂, subst, arith, ◌∙◌, length-append, inl, inr}
use Rattle.std.specs.Prelude.{All, AllPairs, ◌==◌, if◌then◌else◌, sum_by, flat_map}
use Rattle.std.proofs.lemmas.Bool.{cases_lt, cases_Bool, eqb-true, ne_eqb}
use Rattle.std.proofs.lemmas.List.{get_or_append_left, length-map}
use Rattle.std.proofs.lemmas.List.Sums.{sum_by-append}
use Rattle.std.proofs.lemmas.Grind.{flat_map-append}
use Rattle.taxi_base.specs.Words.{is_name}
use Rattle.taxi_base.specs.Airport.{AreNames}
use Rattle.airport_text.specs.Canonical.{numbers_below}
use Rattle.airport_text.proofs.Names.{get_or-next}
use Rattle.traffic_generator.proofs.TextLaws.{map-append}

pub length-below : (n : ℕ) → length (numbers_below n) ≡ n
length-below zero = refl
length-below (suc n) = let l = length-append (numbers_below n) (n ∷ []) in omega (arith, l, length-below n)

pub length-map-below : {A : Type 0} (f : ℕ → A) (n : ℕ) → length (map f (numbers_below n)) ≡ n
length-map-below f n = length-map (numbers_below n) f ∙ length-below n

pub get_or-below : {A : Type 0} (f : ℕ → A) (n k : ℕ) (d : A) → k < n → get_or (map f (numbers_below n)) k d ≡ f k
get_or-below f zero k d low = absurd (omega (arith, low))
get_or-below f (suc n) k d low = ap (λ xs. get_or xs k d) (map-append f (numbers_below n) (n ∷ [])) ∙ go (get_or-below f n k d)
  where
    long : length (map f (numbers_below n)) ≡ n
    long = length-map-below f n

    go : (k < n → get_or (map f (numbers_below n)) k d ≡ f k) → get_or (map f (numbers_below n) ++ f n ∷ []) k d ≡ f k
    go known = elim (cases_lt k n) [
      | inl before ↦ get_or_append_left (map f (numbers_below n)) (f n ∷ []) d k (omega (arith, long, before)) ∙ known before
      | inr last ↦
          let same : k ≡ n = omega (arith, low, last) in
          ap (λ (j : ℕ). get_or (map f (numbers_below n) ++ f n ∷ []) j d) (same ∙ sym long) ∙ get_or-next (map f (numbers_below n)) (f n) [] d ∙ ap f (sym same)
    ]

pub All-below : {A : Type 0} (P : A → Type 0) (f : ℕ → A) (n : ℕ) → ((k : ℕ) → k < n → P (f k)) → All P (map f (numbers_below n))
All-below P f n each k d low =
    let long = length-map-below f n in
    let within : k < n = omega (arith, low, long) in
    subst P (sym (get_or-below f n k d within)) (each k within)

pub AllPairs-below : {A : Type 0} (R : A → A → Type 0) (f : ℕ → A) (n : ℕ) → ((i j : ℕ) → i < j → j < n → R (f i) (f j)) → AllPairs R (map f (numbers_below n))
AllPairs-below R f n each i j d before low =
    let long = length-map-below f n in
    let within : j < n = omega (arith, low, long) in
    subst (λ x. R x (get_or (map f (numbers_below n)) j d)) (sym (get_or-below f n i d (omega (arith, before, within))))
    (subst (R (f i)) (sym (get_or-below f n j d within)) (each i j before within))

-- so many different names
pub names-below : (limit n : ℕ) (f : ℕ → List ℕ) → n ≤ limit → ((k : ℕ) → k < n → is_name (f k) ≡ true) → ((i j : ℕ) → i < j → j < n → f i ≢ f j)
    → AreNames limit (map f (numbers_below n))
names-below limit n f few valid differ = record {
  few = let long = length-map-below f n in omega (arith, few, long);
  each = All-below (λ name. is_name name ≡ true) f n valid;
  differ = AllPairs-below ◌≢◌ f n differ;
}

-- the same of functions that agree below
pub map-below-same : {A : Type 0} (f g : ℕ → A) (n : ℕ) → ((k : ℕ) → k < n → f k ≡ g k) → map f (numbers_below n) ≡ map g (numbers_below n)
map-below-same f g zero same = refl
map-below-same f g (suc n) same =
    map-append f (numbers_below n) (n ∷ [])
    ∙ ap₂ (λ xs x. xs ++ x ∷ []) (map-below-same f g n (λ k low. same k (omega (arith, low)))) (same n (omega arith))
    ∙ sym (map-append g (numbers_below n) (n ∷ []))

pub flat_map-below-same : {A : Type 0} (f g : ℕ → List A) (n : ℕ) → ((k : ℕ) → k < n → f k ≡ g k) → flat_map f (numbers_below n) ≡ flat_map g (numbers_below n)
flat_map-below-same f g zero same = refl
flat_map-below-same f g (suc n) same =
    flat_map-append f (numbers_below n) (n ∷ [])
    ∙ ap₂ (λ xs x. xs ++ (x ++ [])) (flat_map-below-same f g n (λ k low. same k (omega (arith, low)))) (same n (omega arith))
    ∙ sym (flat_map-append g (numbers_below n) (n ∷ []))

-- ---- sums

-- the numbers below a sum are those below the first, and those below the second moved up
pub sum-below-both : (f : ℕ → ℕ) (a b : ℕ) → sum_by f (numbers_below (a + b)) ≡ sum_by f (numbers_below a) + sum_by (λ k. f (a + k)) (numbers_below b)
sum-below-both f a zero =
    let same : a + zero ≡ a = omega arith in
    rw same (omega arith)
sum-below-both f a (suc b) =
    let up : a + suc b ≡ suc (a + b) = omega arith in
    let left = sum_by-append f (numbers_below (a + b)) ((a + b) ∷ []) in
    let right = sum_by-append (λ k. f (a + k)) (numbers_below b) (b ∷ []) in
    let before = sum-below-both f a b in
    rw up (omega (arith, left, right, before))

pub sum-below-plus : (f g : ℕ → ℕ) (n : ℕ) → sum_by (λ k. f k + g k) (numbers_below n) ≡ sum_by f (numbers_below n) + sum_by g (numbers_below n)
sum-below-plus f g zero = refl
sum-below-plus f g (suc n) =
    let whole = sum_by-append (λ k. f k + g k) (numbers_below n) (n ∷ []) in
    let left = sum_by-append f (numbers_below n) (n ∷ []) in
    let right = sum_by-append g (numbers_below n) (n ∷ []) in
    let before = sum-below-plus f g n in
    omega (arith, whole, left, right, before)

pub sum-below-same : (f g : ℕ → ℕ) (n : ℕ) → ((k : ℕ) → k < n → f k ≡ g k) → sum_by f (numbers_below n) ≡ sum_by g (numbers_below n)
sum-below-same f g zero same = refl
sum-below-same f g (suc n) same =
    let left = sum_by-append f (numbers_below n) (n ∷ []) in
    let right = sum_by-append g (numbers_below n) (n ∷ []) in
    let before = sum-below-same f g n (λ k low. same k (omega (arith, low))) in
    let last = same n (omega arith) in
    omega (arith, left, right, before, last)

-- 1 where the numbers are the same
abbrev pub one_if_same : ℕ → ℕ → ℕ
one_if_same a k = if a == k then 1 else 0

never : (a : ℕ → ℕ) (n k : ℕ) → ((i : ℕ) → i < n → a i ≢ k) → sum_by (λ i. one_if_same (a i) k) (numbers_below n) ≡ 0
never a zero k apart = refl
never a (suc n) k apart =
    let split = sum_by-append (λ i. one_if_same (a i) k) (numbers_below n) (n ∷ []) in
    let before = never a n k (λ i low. apart i (omega (arith, low))) in
    let last : one_if_same (a n) k ≡ 0 = rw (ne_eqb (a n) k (apart n (omega arith))) refl in
    omega (arith, split, before, last)

-- where all are different, a number stands there once at most
pub once-at-most : (a : ℕ → ℕ) (n k : ℕ) → ((i j : ℕ) → i < j → j < n → a i ≢ a j) → sum_by (λ i. one_if_same (a i) k) (numbers_below n) ≤ 1
once-at-most a zero k differ = omega arith
once-at-most a (suc n) k differ = elim (cases_Bool (a n == k)) [
  | inl same ↦
      let here : a n ≡ k = eqb-true (a n) k same in
      let before = never a n k (λ i low e. differ i n low (omega arith) (e ∙ sym here)) in
      let last : one_if_same (a n) k ≡ 1 = rw same refl in
      omega (arith, split, before, last)
  | inr other ↦
      let before = once-at-most a n k (λ i j low within. differ i j low (omega (arith, within))) in
      let last : one_if_same (a n) k ≡ 0 = rw other refl in
      omega (arith, split, before, last)
]
  where
    split : sum_by (λ i. one_if_same (a i) k) (numbers_below n ++ n ∷ []) ≡ sum_by (λ i. one_if_same (a i) k) (numbers_below n) + sum_by (λ i. one_if_same (a i) k) (n ∷ [])
    split = sum_by-append (λ i. one_if_same (a i) k) (numbers_below n) (n ∷ [])
