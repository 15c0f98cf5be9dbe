-- The spots that stretches stand for, by number.
use Rattle.std.proofs.Common.{◌≡◌, ℕ, zero, suc, ◌+◌, ◌-◌, ◌*◌, ◌/◌, ◌%◌, ◌<◌, ◌≤◌, List, [], ◌∷◌, ◌++◌, length, get_or, inl, inr, refl, sym, ◌∙◌, ap, subst, arith}
use Rattle.std.proofs.lemmas.Bool.{cases_lt}
use Rattle.std.proofs.lemmas.List.{append_assoc, append-nil, get_or_append_left, get_or-append_right, get_or_push, length-append}
use Rattle.taxi_base.specs.declared.numbers.Arc.{Arc}
use Rattle.place_cells.specs.declared.spots.Spot.{Spot}
use Rattle.place_cells.specs.declared.blocks.Stretch.{Stretch}
use Rattle.place_cells.specs.Laid.{no_spot, spot_in}
use Rattle.place_cells.specs.Blocks.{block}
use Rattle.place_cells.specs.Stretches.{spots_from, spots_after, spots_of, AreBegun}

-- ---- one run of windows

length-from : (arc : Arc) (first n : ℕ) → length (spots_from arc first n) ≡ n
length-from arc first zero = refl
length-from arc first (suc n) = omega (arith, length-from arc first n, length-append (spots_from arc first n) (record { arc = arc; window = first + n } ∷ []))

from_at : (arc : Arc) (first n j : ℕ) (d : Spot) → j < n → get_or (spots_from arc first n) j d ≡ record { arc = arc; window = first + j }
from_at arc first zero j d on = absurd (omega arith)
from_at arc first (suc n) j d on =
    elim (cases_lt j n) [
      | inl earlier ↦ get_or_append_left (spots_from arc first n) (record { arc = arc; window = first + n } ∷ []) d j (omega (arith, earlier, length-from arc first n)) ∙ from_at arc first n j d earlier
      | inr last ↦
          let e : n ≡ j = omega arith in
          get_or_push (spots_from arc first n) (record { arc = arc; window = first + n }) d j (length-from arc first n ∙ e) ∙ ap (λ (w : ℕ). record { arc = arc; window = first + w }) e
    ]

-- a block goes on with the windows that follow
block-from : (arc : Arc) (first n : ℕ) → block arc (first + n) ≡ block arc first ++ spots_from arc first n
block-from arc first zero =
    let same : first + 0 ≡ first = omega arith in
    ap (block arc) same ∙ sym (append-nil (block arc first))
block-from arc first (suc n) =
    let next : first + suc n ≡ suc (first + n) = omega arith in
    ap (block arc) next ∙ ap (λ (spots : List Spot). spots ++ record { arc = arc; window = first + n } ∷ []) (block-from arc first n)
    ∙ append_assoc (block arc first) (spots_from arc first n) (record { arc = arc; window = first + n } ∷ [])

-- ---- stretches

length-after : (n : ℕ) (ss : List Stretch) → length (spots_after n ss) ≡ 8 * length ss
unfolding spots_after
length-after n [] = refl
length-after n (s ∷ rest) = omega (arith, length-append (spots_from s.arc (n - s.first) 8) (spots_after (n + 8) rest), length-from s.arc (n - s.first) 8, length-after (n + 8) rest)

pub length-spots : (ss : List Stretch) → length (spots_of ss) ≡ 8 * length ss
length-spots ss = length-after 0 ss

after_at : (n : ℕ) (ss : List Stretch) (k : ℕ) (d : Stretch) → k < 8 * length ss
    → spot_in (spots_after n ss) k ≡ record { arc = (get_or ss (k / 8) d).arc; window = (n + 8 * (k / 8) - (get_or ss (k / 8) d).first) + k % 8 }
unfolding spots_after
after_at n [] k d on = absurd (omega (arith, on))
after_at n (s ∷ rest) k d on =
    elim (cases_lt k 8) [
      | inl here ↦
          let none : 0 ≡ k / 8 = omega (arith, here) in
          let window : (n - s.first) + k ≡ (n + 8 * (k / 8) - s.first) + k % 8 = omega (arith, here) in
          get_or_append_left (spots_from s.arc (n - s.first) 8) (spots_after (n + 8) rest) no_spot k (omega (arith, here, length-from s.arc (n - s.first) 8))
          ∙ from_at s.arc (n - s.first) 8 k no_spot here
          ∙ ap (λ (w : ℕ). record { arc = s.arc; window = w }) window
          ∙ ap (λ (i : ℕ). record { arc = (get_or (s ∷ rest) i d).arc; window = (n + 8 * (k / 8) - (get_or (s ∷ rest) i d).first) + k % 8 }) none
      | inr later ↦
          let m : ℕ = k - 8 in
          let next : suc (m / 8) ≡ k / 8 = omega (arith, later) in
          let window : ((n + 8) + 8 * (m / 8) - (get_or rest (m / 8) d).first) + m % 8 ≡ (n + 8 * (k / 8) - (get_or rest (m / 8) d).first) + k % 8 = omega (arith, later) in
          get_or-append_right (spots_from s.arc (n - s.first) 8) (spots_after (n + 8) rest) 8 k no_spot (length-from s.arc (n - s.first) 8) later
          ∙ after_at (n + 8) rest m d (omega (arith, on, later))
          ∙ ap (λ (w : ℕ). record { arc = (get_or rest (m / 8) d).arc; window = w }) window
          ∙ ap (λ (i : ℕ). record { arc = (get_or (s ∷ rest) i d).arc; window = (n + 8 * (k / 8) - (get_or (s ∷ rest) i d).first) + k % 8 }) next
    ]

-- a number's window is its place in its block
pub spots_of-at : (ss : List Stretch) (k : ℕ) (d : Stretch) → AreBegun ss → k < 8 * length ss
    → ((get_or ss (k / 8) d).first ≤ k) × (spot_in (spots_of ss) k ≡ record { arc = (get_or ss (k / 8) d).arc; window = k - (get_or ss (k / 8) d).first })
spots_of-at ss k d begun on =
    let by : (get_or ss (k / 8) d).first ≤ 8 * (k / 8) = begun (k / 8) d (omega (arith, on)) in
    let window : (0 + 8 * (k / 8) - (get_or ss (k / 8) d).first) + k % 8 ≡ k - (get_or ss (k / 8) d).first = omega (arith, by) in
    (omega (arith, by), after_at 0 ss k d on ∙ ap (λ (w : ℕ). record { arc = (get_or ss (k / 8) d).arc; window = w }) window)

after-push : (n : ℕ) (ss : List Stretch) (s : Stretch) → spots_after n (ss ++ s ∷ []) ≡ spots_after n ss ++ spots_from s.arc (n + 8 * length ss - s.first) 8
unfolding spots_after
after-push n [] s =
    let same : n - s.first ≡ n + 8 * 0 - s.first = omega arith in
    append-nil (spots_from s.arc (n - s.first) 8) ∙ ap (λ (w : ℕ). spots_from s.arc w 8) same
after-push n (x ∷ rest) s =
    let same : (n + 8) + 8 * length rest - s.first ≡ n + 8 * length (x ∷ rest) - s.first = omega arith in
    ap (λ (spots : List Spot). spots_from x.arc (n - x.first) 8 ++ spots) (after-push (n + 8) rest s ∙ ap (λ (w : ℕ). spots_after (n + 8) rest ++ spots_from s.arc w 8) same)
    ∙ sym (append_assoc (spots_from x.arc (n - x.first) 8) (spots_after (n + 8) rest) (spots_from s.arc (n + 8 * length (x ∷ rest) - s.first) 8))

-- a block of one stretch more
pub block-push : (before : List Spot) (ss : List Stretch) (arc : Arc) (n first : ℕ) → first + 8 * n ≡ 8 * length ss → spots_of ss ≡ before ++ block arc (8 * n)
    → spots_of (ss ++ record { arc = arc; first = first } ∷ []) ≡ before ++ block arc (8 * (n + 1))
block-push before ss arc n first at so_far =
    let place : 0 + 8 * length ss - first ≡ 8 * n = omega (arith, at) in
    let next : 8 * n + 8 ≡ 8 * (n + 1) = omega arith in
    after-push 0 ss (record { arc = arc; first = first })
    ∙ ap (λ (w : ℕ). spots_of ss ++ spots_from arc w 8) place
    ∙ ap (λ (spots : List Spot). spots ++ spots_from arc (8 * n) 8) so_far
    ∙ append_assoc before (block arc (8 * n)) (spots_from arc (8 * n) 8)
    ∙ ap (λ (spots : List Spot). before ++ spots) (sym (block-from arc (8 * n) 8))
    ∙ ap (λ (k : ℕ). before ++ block arc k) next

pub begun-push : (ss : List Stretch) (s : Stretch) → AreBegun ss → s.first ≤ 8 * length ss → AreBegun (ss ++ s ∷ [])
begun-push ss s begun by k d on =
    elim (cases_lt k (length ss)) [
      | inl old ↦ subst (λ (x : Stretch). x.first ≤ 8 * k) (sym (get_or_append_left ss (s ∷ []) d k old)) (begun k d old)
      | inr new ↦
          let is : length ss ≡ k = omega (arith, new, on, length-append ss (s ∷ [])) in
          subst (λ (x : Stretch). x.first ≤ 8 * k) (sym (get_or_push ss s d k is)) (omega (arith, by, is))
    ]

-- ---- none

-- no stretches have no spots
pub spots_of-none : (ss : List Stretch) → ss ≡ [] → spots_of ss ≡ []
unfolding spots_after
spots_of-none ss none = ap spots_of none
