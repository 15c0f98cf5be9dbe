-- What the links of a chain lead to, and that they lead there still once a node comes, goes or is written.
use Rattle.std.proofs.Common.{◌≡◌, ℕ, zero, suc, ◌-◌, ◌<◌, ◌≤◌, List, [], ◌∷◌, length, refl, sym, ap, ◌∙◌, subst, arith}
use denote.RawPtr.{Ptr}
use Rattle.interval_list.specs.declared.node.Node.{Node}
use Rattle.interval_list.specs.Edits.{inserted, removed, replaced}
use Rattle.interval_list.specs.Cells.{Cell, places, windows_of, no_cell, place_of, node_of, with_node, LeadsForward, LeadsBackTo, LeadsBack, first_leading, cells_leading, last_leading, cells_leading_back}
use Rattle.interval_list.proofs.Edited.{map-replaced, item-map, replaced-same, length-replaced}

-- ---- where the links lead

pub next_is : (p : Ptr) (cs : List Cell) (i : ℕ) → LeadsForward p cs → suc i < length cs → (node_of cs i).next.at ≡ place_of cs (suc i)
next_is p [] i linked within = absurd (omega arith)
next_is p (c ∷ []) i linked within = absurd (omega arith)
next_is p (c ∷ d ∷ cs) zero linked within = linked.1.0
next_is p (c ∷ d ∷ cs) (suc i) linked within = next_is c.1.next.at (d ∷ cs) i linked.1 (omega arith)

last_in : (c : Cell) (cs : List Cell) (p : Ptr) → LeadsBackTo c.0 cs p → p ≡ place_of (c ∷ cs) (length cs)
last_in c [] p linked = linked
last_in c (d ∷ cs) p linked = last_in d cs p linked.1

pub last_is : (cs : List Cell) (p : Ptr) → LeadsBack cs p → 0 < length cs → p ≡ place_of cs (length cs - 1)
last_is [] p linked some = absurd (omega arith)
last_is (c ∷ cs) p linked some = let e : length (c ∷ cs) - 1 ≡ length cs = omega arith in rw e (last_in c cs p linked)

prev_in : (c : Cell) (cs : List Cell) (p : Ptr) (i : ℕ) → LeadsBackTo c.0 cs p → i < length cs → (node_of cs i).prev.at ≡ place_of (c ∷ cs) i
prev_in c [] p i linked within = absurd (omega arith)
prev_in c (d ∷ cs) p zero linked within = linked.0
prev_in c (d ∷ cs) p (suc i) linked within = prev_in d cs p i linked.1 (omega arith)

pub prev_is : (cs : List Cell) (p : Ptr) (i : ℕ) → LeadsBack cs p → suc i < length cs → (node_of cs (suc i)).prev.at ≡ place_of cs i
prev_is [] p i linked within = absurd (omega arith)
prev_is (c ∷ cs) p i linked within = prev_in c cs p i linked (omega arith)

-- ---- a node is written

pub places-with_node : (cs : List Cell) (i : ℕ) (n : Node) → places (with_node cs i n) ≡ places cs
places-with_node cs i n =
    map-replaced (λ (c : Cell). c.0) cs i (place_of cs i, n) ∙ ap (λ (p : Ptr). replaced (places cs) i p) (sym (item-map (λ (c : Cell). c.0) no_cell cs i)) ∙ replaced-same no_cell.0 (places cs) i

pub windows_of-with_node : (cs : List Cell) (i : ℕ) (n : Node) → windows_of (with_node cs i n) ≡ replaced (windows_of cs) i n.window
windows_of-with_node cs i n = map-replaced (λ (c : Cell). c.1.window) cs i (place_of cs i, n)

-- where only the links of a node are written, the windows stay
pub windows_of-with_links : (cs : List Cell) (i : ℕ) (n : Node) → n.window ≡ (node_of cs i).window → windows_of (with_node cs i n) ≡ windows_of cs
windows_of-with_links cs i n same =
    windows_of-with_node cs i n ∙ ap (replaced (windows_of cs) i) (same ∙ sym (item-map (λ (c : Cell). c.1.window) no_cell cs i)) ∙ replaced-same no_cell.1.window (windows_of cs) i

pub forward-with_node : (p : Ptr) (cs : List Cell) (i : ℕ) (n : Node) → LeadsForward p cs → n.next.at ≡ (node_of cs i).next.at → LeadsForward p (with_node cs i n)
forward-with_node p [] i n linked same = tt
forward-with_node p (c ∷ cs) zero n linked same = (linked.0, subst (λ (q : Ptr). LeadsForward q cs) (sym same) linked.1)
forward-with_node p (c ∷ cs) (suc i) n linked same = (linked.0, forward-with_node c.1.next.at cs i n linked.1 same)

back_to-with_node : (a : Ptr) (cs : List Cell) (p : Ptr) (i : ℕ) (n : Node) → LeadsBackTo a cs p → n.prev.at ≡ (node_of cs i).prev.at → LeadsBackTo a (with_node cs i n) p
back_to-with_node a [] p i n linked same = linked
back_to-with_node a (c ∷ cs) p zero n linked same = (same ∙ linked.0, linked.1)
back_to-with_node a (c ∷ cs) p (suc i) n linked same = (linked.0, back_to-with_node c.0 cs p i n linked.1 same)

pub back-with_node : (cs : List Cell) (p : Ptr) (i : ℕ) (n : Node) → LeadsBack cs p → n.prev.at ≡ (node_of cs i).prev.at → LeadsBack (with_node cs i n) p
back-with_node [] p i n linked same = tt
back-with_node (c ∷ cs) p zero n linked same = linked
back-with_node (c ∷ cs) p (suc i) n linked same = back_to-with_node c.0 cs p i n linked same

-- ---- a node comes

-- the node that comes leads on to the one that stood in its place, and what led there leads to it
pub forward-inserted : (p : Ptr) (cs : List Cell) (i : ℕ) (at : Ptr) (n : Node) → LeadsForward p cs → i ≤ length cs → (i < length cs → n.next.at ≡ place_of cs i)
    → LeadsForward (first_leading p i at) (cells_leading (inserted cs i (at, n)) i at)
forward-inserted p [] zero at n linked within leads = (refl, tt)
forward-inserted p (c ∷ cs) zero at n linked within leads = (refl, (leads (omega arith), linked.1))
forward-inserted p [] (suc i) at n linked within leads = absurd (omega arith)
forward-inserted p (c ∷ cs) (suc zero) at n linked within leads =
    (linked.0, forward-inserted c.1.next.at cs zero at n linked.1 (omega arith) (λ more. leads (omega arith)))
forward-inserted p (c ∷ cs) (suc (suc i)) at n linked within leads =
    (linked.0, forward-inserted c.1.next.at cs (suc i) at n linked.1 (omega arith) (λ more. leads (omega arith)))

back_to-inserted : (c : Cell) (cs : List Cell) (p : Ptr) (i : ℕ) (at : Ptr) (n : Node) → LeadsBackTo c.0 cs p → i ≤ length cs → n.prev.at ≡ place_of (c ∷ cs) i
    → LeadsBackTo c.0 (cells_leading_back (inserted cs i (at, n)) (suc i) at) (last_leading (inserted cs i (at, n)) p (suc i) at)
back_to-inserted c [] p zero at n linked within leads = (leads, refl)
back_to-inserted c (d ∷ cs) p zero at n linked within leads = (leads, (refl, linked.1))
back_to-inserted c [] p (suc i) at n linked within leads = absurd (omega arith)
back_to-inserted c (d ∷ cs) p (suc i) at n linked within leads = (linked.0, back_to-inserted d cs p i at n linked.1 (omega arith) leads)

pub back-inserted : (cs : List Cell) (p : Ptr) (i : ℕ) (at : Ptr) (n : Node) → LeadsBack cs p → i ≤ length cs → (0 < i → n.prev.at ≡ place_of cs (i - 1))
    → LeadsBack (cells_leading_back (inserted cs i (at, n)) (suc i) at) (last_leading (inserted cs i (at, n)) p (suc i) at)
back-inserted [] p zero at n linked within leads = refl
back-inserted (c ∷ cs) p zero at n linked within leads = (refl, linked)
back-inserted [] p (suc i) at n linked within leads = absurd (omega arith)
back-inserted (c ∷ cs) p (suc i) at n linked within leads =
    let e : suc i - 1 ≡ i = omega arith in back_to-inserted c cs p i at n linked (omega arith) (rw e at (leads (omega arith)))

-- ---- a node goes

pub forward-removed : (p : Ptr) (cs : List Cell) (i : ℕ) → LeadsForward p cs → i < length cs
    → LeadsForward (first_leading p i (node_of cs i).next.at) (cells_leading (removed cs i) i (node_of cs i).next.at)
forward-removed p [] i linked within = absurd (omega arith)
forward-removed p (c ∷ cs) zero linked within = linked.1
forward-removed p (c ∷ cs) (suc zero) linked within = (linked.0, forward-removed c.1.next.at cs zero linked.1 (omega arith))
forward-removed p (c ∷ cs) (suc (suc i)) linked within = (linked.0, forward-removed c.1.next.at cs (suc i) linked.1 (omega arith))

back_to-removed : (a : Ptr) (cs : List Cell) (p : Ptr) (i : ℕ) → LeadsBackTo a cs p → i < length cs
    → LeadsBackTo a (cells_leading_back (removed cs i) i (node_of cs i).prev.at) (last_leading (removed cs i) p i (node_of cs i).prev.at)
back_to-removed a [] p i linked within = absurd (omega arith)
back_to-removed a (c ∷ []) p zero linked within = linked.0
back_to-removed a (c ∷ d ∷ cs) p zero linked within = (linked.0, linked.1.1)
back_to-removed a (c ∷ cs) p (suc i) linked within = (linked.0, back_to-removed c.0 cs p i linked.1 (omega arith))

pub back-removed : (cs : List Cell) (p : Ptr) (i : ℕ) → LeadsBack cs p → i < length cs
    → LeadsBack (cells_leading_back (removed cs i) i (node_of cs i).prev.at) (last_leading (removed cs i) p i (node_of cs i).prev.at)
back-removed [] p i linked within = absurd (omega arith)
back-removed (c ∷ []) p zero linked within = tt
back-removed (c ∷ d ∷ cs) p zero linked within = linked.1
back-removed (c ∷ cs) p (suc i) linked within = back_to-removed c.0 cs p i linked (omega arith)

-- ---- what leads on and what leads back are written one after the other

back_to-led : (a : Ptr) (cs : List Cell) (i j : ℕ) (p q at : Ptr) → i ≤ j → LeadsBackTo a (cells_leading_back cs j q) p
    → LeadsBackTo a (cells_leading_back (cells_leading cs i at) j q) p
back_to-led a cs zero j p q at low linked = linked
back_to-led a [] (suc i) j p q at low linked = linked
back_to-led a (c ∷ cs) (suc i) zero p q at low linked = absurd (omega arith)
back_to-led a (c ∷ cs) (suc zero) (suc j) p q at low linked = linked
back_to-led a (c ∷ cs) (suc (suc i)) (suc j) p q at low linked = (linked.0, back_to-led c.0 cs (suc i) j p q at (omega arith) linked.1)

pub back-led : (cs : List Cell) (i j : ℕ) (p q at : Ptr) → i ≤ j → LeadsBack (cells_leading_back cs j q) p
    → LeadsBack (cells_leading_back (cells_leading cs i at) j q) p
back-led cs zero j p q at low linked = linked
back-led [] (suc i) j p q at low linked = linked
back-led (c ∷ cs) (suc i) zero p q at low linked = absurd (omega arith)
back-led (c ∷ cs) (suc zero) (suc j) p q at low linked = linked
back-led (c ∷ cs) (suc (suc i)) (suc j) p q at low linked = back_to-led c.0 cs (suc i) j p q at (omega arith) linked

last_leading-replaced : (cs : List Cell) (i : ℕ) (x : Cell) (p : Ptr) (j : ℕ) (q : Ptr) → last_leading (replaced cs i x) p j q ≡ last_leading cs p j q
last_leading-replaced [] i x p j q = refl
last_leading-replaced (c ∷ cs) zero x p zero q = refl
last_leading-replaced (c ∷ cs) zero x p (suc j) q = refl
last_leading-replaced (c ∷ cs) (suc i) x p zero q = refl
last_leading-replaced (c ∷ cs) (suc i) x p (suc j) q = last_leading-replaced cs i x p j q

pub last_leading-led : (cs : List Cell) (i : ℕ) (at p : Ptr) (j : ℕ) (q : Ptr) → last_leading (cells_leading cs i at) p j q ≡ last_leading cs p j q
last_leading-led cs zero at p j q = refl
last_leading-led cs (suc i) at p j q = last_leading-replaced cs i _ p j q

pub last_leading-end : (cs : List Cell) (p : Ptr) (i : ℕ) (q : Ptr) → i ≡ length cs → last_leading cs p i q ≡ q
last_leading-end [] p i q e = refl
last_leading-end (c ∷ cs) p zero q e = absurd (omega arith)
last_leading-end (c ∷ cs) p (suc i) q e = last_leading-end cs p i q (omega arith)

pub last_leading-inside : (cs : List Cell) (p : Ptr) (i : ℕ) (q : Ptr) → i < length cs → last_leading cs p i q ≡ p
last_leading-inside [] p i q within = absurd (omega arith)
last_leading-inside (c ∷ cs) p zero q within = refl
last_leading-inside (c ∷ cs) p (suc i) q within = last_leading-inside cs p i q (omega arith)

-- ---- what the links that are written leave

pub place_of-with_node : (cs : List Cell) (i k : ℕ) (n : Node) → place_of (with_node cs i n) k ≡ place_of cs k
place_of-with_node [] i k n = refl
place_of-with_node (c ∷ cs) zero zero n = refl
place_of-with_node (c ∷ cs) zero (suc k) n = refl
place_of-with_node (c ∷ cs) (suc i) zero n = refl
place_of-with_node (c ∷ cs) (suc i) (suc k) n = place_of-with_node cs i k n

pub place_of-led : (cs : List Cell) (i k : ℕ) (at : Ptr) → place_of (cells_leading cs i at) k ≡ place_of cs k
place_of-led cs zero k at = refl
place_of-led cs (suc i) k at = place_of-with_node cs i k _

pub length-led : (cs : List Cell) (i : ℕ) (at : Ptr) → length (cells_leading cs i at) ≡ length cs
length-led cs zero at = refl
length-led cs (suc i) at = length-replaced cs i _

pub places-led : (cs : List Cell) (i : ℕ) (at : Ptr) → places (cells_leading cs i at) ≡ places cs
places-led cs zero at = refl
places-led cs (suc i) at = places-with_node cs i _

pub windows_of-led : (cs : List Cell) (i : ℕ) (at : Ptr) → windows_of (cells_leading cs i at) ≡ windows_of cs
windows_of-led cs zero at = refl
windows_of-led cs (suc i) at = windows_of-with_links cs i _ refl
