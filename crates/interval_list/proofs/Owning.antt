-- How often an id is owned, and that one that is drawn was not owned before.
use Rattle.std.proofs.Common.{◌≡◌, ℕ, zero, suc, ◌+◌, ◌-◌, ◌<◌, ◌≤◌, inl, inr, List, [], ◌∷◌, ◌++◌, length, refl, ap, ◌∙◌, subst, arith}
use Rattle.std.specs.Prelude.{◌==◌, All}
use Rattle.std.proofs.lemmas.Bool.{cases_lt, cases_eq, cond-false, cond-true, ne_eqb, eq-eqb}
use Rattle.interval_list.specs.declared.window.Window.{Window}
use Rattle.interval_list.specs.Intervals.{Intervals, ids_of, times, owned, drawn, OwnsSame, IsNormal}

pub times-append : (id : ℕ) (xs ys : List ℕ) → times id (xs ++ ys) ≡ times id xs + times id ys
times-append id [] ys = omega arith
times-append id (x ∷ xs) ys = omega (arith, times-append id xs ys)

pub times-other : (id x : ℕ) (xs : List ℕ) → (x ≡ id → ⊥) → times id (x ∷ xs) ≡ times id xs
times-other id x xs other = omega (arith, cond-false {A = ℕ} (x == id) 1 0 (ne_eqb x id other))

pub times-here : (id : ℕ) (xs : List ℕ) → times id (id ∷ xs) ≡ 1 + times id xs
times-here id xs = omega (arith, cond-true {A = ℕ} (id == id) 1 0 (eq-eqb id id refl))

pub times-below : (n : ℕ) (xs : List ℕ) → All (λ x. x < n) xs → times n xs ≡ 0
times-below n [] all = refl
times-below n (x ∷ xs) all = times-other n x xs (λ e. absurd (omega (arith, e, all 0 0 (omega arith)))) ∙ times-below n xs (λ k d h. all (suc k) d (omega (arith, h)))

pub once-drawn : (n : ℕ) (xs ys : List ℕ) → ((id : ℕ) → times id (xs ++ ys) ≤ 1) → All (λ x. x < n) (xs ++ ys) → (id : ℕ) → times id (xs ++ n ∷ ys) ≤ 1
once-drawn n xs ys once all id =
    elim (cases_eq n id) [
      | inl same ↦ subst (λ k. times k (xs ++ n ∷ ys) ≤ 1) same (omega (arith, times-append n xs (n ∷ ys), times-here n ys, times-append n xs ys, times-below n (xs ++ ys) all))
      | inr other ↦ omega (arith, times-append id xs (n ∷ ys), times-other id n ys other, times-append id xs ys, once id)
    ]

pub below-drawn : (n : ℕ) (xs ys : List ℕ) → All (λ x. x < n) (xs ++ ys) → All (λ x. x < n + 1) (xs ++ n ∷ ys)
below-drawn n [] ys all zero d h = omega arith
below-drawn n [] ys all (suc k) d h = omega (arith, all k d (omega (arith, h)))
below-drawn n (x ∷ xs) ys all zero d h = omega (arith, all 0 d (omega arith))
below-drawn n (x ∷ xs) ys all (suc k) d h = below-drawn n xs ys (λ j e g. all (suc j) e (omega (arith, g))) k d (omega (arith, h))

pub drawn-more : (from next : ℕ) → from ≤ next → drawn from (next + 1 - from) ≡ next ∷ drawn from (next - from)
drawn-more from next low =
    let more : next + 1 - from ≡ suc (next - from) = omega (arith, low) in
    let last : from + (next - from) ≡ next = omega (arith, low) in
    rw more (ap (λ k. k ∷ drawn from (next - from)) last)

-- a list with an id more that was not drawn before
pub normal-drawn : (l : Intervals) (n : ℕ) → IsNormal l → All (λ x. x < n) (owned l) → IsNormal (record { windows = l.windows; spare = n ∷ l.spare })
normal-drawn l n normal below = record { apart = normal.apart; once = once-drawn n (ids_of l.windows) l.spare normal.once below }

pub length-ids_of : (ws : List Window) → length (ids_of ws) ≡ length ws
length-ids_of [] = refl
length-ids_of (w ∷ ws) = ap suc (length-ids_of ws)

-- ---- ids that stay below a bound

times-tail : (id x : ℕ) (xs : List ℕ) → times id xs ≤ times id (x ∷ xs)
times-tail id x xs = omega arith

none-above : (n x : ℕ) (xs : List ℕ) → All (λ y. y < n) xs → n ≤ x → times x xs ≡ 0
none-above n x [] all high = refl
none-above n x (y ∷ xs) all high = times-other x y xs (λ e. absurd (omega (arith, e, high, all 0 0 (omega arith)))) ∙ none-above n x xs (λ k d h. all (suc k) d (omega (arith, h))) high

below-by_times : (n : ℕ) (xs : List ℕ) → ((x : ℕ) → n ≤ x → times x xs ≡ 0) → All (λ y. y < n) xs
below-by_times n [] none k d h = absurd (omega (arith, h))
below-by_times n (x ∷ xs) none zero d h =
    elim (cases_lt x n) [ inl low ↦ low | inr high ↦ absurd (omega (arith, none x high, times-here x xs)) ]
below-by_times n (x ∷ xs) none (suc k) d h = below-by_times n xs (λ y high. omega (arith, none y high, times-tail y x xs)) k d (omega (arith, h))

-- the same ids are below the same bound
pub below-same : (old new : Intervals) (n : ℕ) → OwnsSame old new → All (λ y. y < n) (owned old) → All (λ y. y < n) (owned new)
below-same old new n same all = below-by_times n (owned new) (λ x high. same x ∙ none-above n x (owned old) all high)
