-- As many steps pass each test where one comes or goes, and what that says of lists by segment.
use Rattle.std.proofs.Common.{◌≡◌, ℕ, zero, suc, ◌+◌, ◌<◌, ◌≤◌, eqb, Bool, ◌&&◌, cond, List, [], ◌∷◌, ◌++◌, length, map, get_or, set, take, drop, IsTrue, refl, sym, ap, ◌∙◌, inl, inr, subst, arith}
use Rattle.std.specs.Prelude.{All, Contains, count_by, sum_by, flat_map, bytes_eq}
use Rattle.std.specs.Cmp.Lexicographic.{bytes_decides}
use Rattle.std.specs.List.Sorted.{IsPermutation}
use Rattle.std.proofs.lemmas.Bool.{cases_Bool, and_parts, and_from, eqb-true, eq-eqb, cond-true, cond-false, both_ways}
use Rattle.std.proofs.lemmas.List.{take-append-drop, map-append, map_more, get_or_default, length-set, get_or-set_same, get_or-set_other}
use Rattle.std.proofs.lemmas.List.Elements.{All-contains}
use Rattle.std.proofs.lemmas.List.Sorted.{sum_by-IsPermutation}
use Rattle.std.proofs.lemmas.List.Sums.{sum_by-append, sum_by-cons, sum_by-set, count_by_more_yes}
use Rattle.taxi_base.specs.declared.numbers.Segment.{Segment}
use Rattle.taxi_base.specs.declared.rows.Step.{Step}
use Rattle.taxi_base.specs.Airport.{segment_of}
use Rattle.taxi_base.proofs.ListLaws.{Contains-first, Contains-rest, flat_map-Contains}
use Rattle.commitments.specs.declared.segment_holds.HeldStep.{HeldStep}
use Rattle.commitments.specs.declared.segment_holds.Holder.{Holder}
use Rattle.commitments.specs.Held.{StepList, no_step, list_of, all_steps, steps_with, AreAsMany, AreAmong, AreBySegment, KeepsHoldRoom}

-- ---- how many pass a test

pub count-append : {X : Type 0} (p : X → Bool) (xs ys : List X) → count_by p (xs ++ ys) ≡ count_by p xs + count_by p ys
count-append p xs ys = sum_by-append (λ x. cond (p x) 1 0) xs ys

pub count-cons : {X : Type 0} (p : X → Bool) (x : X) (xs : List X) → count_by p (x ∷ xs) ≡ cond (p x) 1 0 + count_by p xs
count-cons p x xs = sum_by-cons (λ x. cond (p x) 1 0) x xs

pub count-joined : {X Y : Type 0} (p : Y → Bool) (f : X → List Y) (xs : List X) → count_by p (flat_map f xs) ≡ sum_by (λ x. count_by p (f x)) xs
count-joined p f [] = refl
count-joined p f (x ∷ xs) =
    count-append p (f x) (flat_map f xs) ∙ ap (λ n. count_by p (f x) + n) (count-joined p f xs) ∙ sym (sum_by-cons (λ x. count_by p (f x)) x xs)

pub count-map : {X Y : Type 0} (p : Y → Bool) (f : X → Y) (xs : List X) → count_by p (map f xs) ≡ count_by (λ x. p (f x)) xs
count-map p f [] = refl
count-map p f (x ∷ xs) = count-cons p (f x) (map f xs) ∙ ap (λ n. cond (p (f x)) 1 0 + n) (count-map p f xs) ∙ sym (count-cons (λ x. p (f x)) x xs)

-- where some pass, there is one that does
some-passes : {X : Type 0} (p : X → Bool) (xs : List X) → 1 ≤ count_by p xs → (x : X) × Contains xs x × IsTrue (p x)
some-passes p [] some = absurd (omega arith)
some-passes p (x ∷ xs) some =
    elim (cases_Bool (p x)) [
      | inl here ↦ (x, Contains-first x xs, here)
      | inr other ↦
          let e = cond-false {A = ℕ} (p x) 1 0 other in
          let rest = some-passes p xs (omega (arith, count-cons p x xs, e, some)) in
          (rest.0, Contains-rest x rest.0 xs rest.1, rest.2)
    ]

-- one pass more of the elements that pass a test
pub count-part : {X : Type 0} (p : X → Bool) (xs : List X) (i : ℕ) (d : X) → i < length xs → IsTrue (p (get_or xs i d)) → count_by p (take i xs) + 1 ≤ count_by p xs
count-part p xs i d low passes =
    omega (arith, count_by_more_yes p xs i d low passes, count-append p (take (i + 1) xs) (drop (i + 1) xs), ap (count_by p) (take-append-drop (i + 1) xs))

-- a list and its permutation pass each test alike
pub permuted : (xs ys : List HeldStep) → IsPermutation xs ys → AreAsMany xs ys
permuted xs ys moved test = sym (sum_by-IsPermutation (λ x. cond (test x) 1 0) xs ys moved)

-- ---- a test of one step

abbrev is_step : Step → Step → Bool
is_step x y = eqb x.arc.0 y.arc.0 && (eqb x.enter y.enter && eqb x.leave y.leave)

abbrev is_holder : Holder → Holder → Bool
is_holder x y = eqb x.class.0 y.class.0 && (eqb x.party y.party && bytes_eq x.name y.name)

abbrev is_one : HeldStep → HeldStep → Bool
is_one x y = is_step x.step y.step && is_holder x.holder y.holder

one-is : (x : HeldStep) → IsTrue (is_one x x)
one-is x = and_from _ _ (and_from _ _ (eq-eqb x.step.arc.0 x.step.arc.0 refl) (and_from _ _ (eq-eqb x.step.enter x.step.enter refl) (eq-eqb x.step.leave x.step.leave refl)))
    (and_from _ _ (eq-eqb x.holder.class.0 x.holder.class.0 refl) (and_from _ _ (eq-eqb x.holder.party x.holder.party refl) ((bytes_decides x.holder.name x.holder.name).1 refl)))

is-one : (x y : HeldStep) → IsTrue (is_one x y) → x ≡ y
is-one x y h =
    let both = and_parts (is_step x.step y.step) (is_holder x.holder y.holder) h in
    let holder = and_parts (eqb x.holder.class.0 y.holder.class.0) (eqb x.holder.party y.holder.party && bytes_eq x.holder.name y.holder.name) both.1 in
    let rest = and_parts (eqb x.holder.party y.holder.party) (bytes_eq x.holder.name y.holder.name) holder.1 in
    let step = and_parts (eqb x.step.arc.0 y.step.arc.0) (eqb x.step.enter y.step.enter && eqb x.step.leave y.step.leave) both.0 in
    let times = and_parts (eqb x.step.enter y.step.enter) (eqb x.step.leave y.step.leave) step.1 in
    let arc = eqb-true x.step.arc.0 y.step.arc.0 step.0 in
    let enter = eqb-true x.step.enter y.step.enter times.0 in
    let leave = eqb-true x.step.leave y.step.leave times.1 in
    let class = eqb-true x.holder.class.0 y.holder.class.0 holder.0 in
    let party = eqb-true x.holder.party y.holder.party rest.0 in
    let name = (bytes_decides x.holder.name y.holder.name).0 rest.1 in
    λ i. record { step = record { arc = record { 0 = arc i }; enter = enter i; leave = leave i }; holder = record { name = name i; class = record { 0 = class i }; party = party i } }

-- what is among some steps is among as many
pub as_many-there : (xs ys : List HeldStep) → AreAsMany xs ys → (x : HeldStep) → Contains xs x → Contains ys x
as_many-there xs ys same x there =
    let p = is_one x in
    let passes : IsTrue (p (get_or xs there.0 x)) = subst (λ (y : HeldStep). IsTrue (is_one x y)) (sym there.2) (one-is x) in
    let found = some-passes p ys (omega (arith, same p, count-part p xs there.0 x there.1 passes)) in
    subst (λ (y : HeldStep). Contains ys y) (sym (is-one x found.0 found.2)) found.1

-- the next of some steps that are taken out one by one is there still
pub next-there : (old now : List HeldStep) (holder : Holder) (steps : List Step) (i : ℕ) (d : Step) → i < length steps → AreAmong (steps_with holder steps) old
    → AreAsMany old (now ++ steps_with holder (take i steps)) → Contains now (record { step = get_or steps i d; holder = holder })
next-there old now holder steps i d low among gone =
    let x : HeldStep = record { step = get_or steps i d; holder = holder } in
    let p = is_one x in
    let more : steps_with holder (take (i + 1) steps) ≡ steps_with holder (take i steps) ++ x ∷ [] = map_more (λ step. record { step = step; holder = holder }) steps i d low in
    let all : steps_with holder steps ≡ steps_with holder (take (i + 1) steps) ++ steps_with holder (drop (i + 1) steps) =
    ap (steps_with holder) (sym (take-append-drop (i + 1) steps)) ∙ map-append (λ step. record { step = step; holder = holder }) (take (i + 1) steps) (drop (i + 1) steps) in
    let one = cond-true {A = ℕ} (p x) 1 0 (one-is x) in
    let found = some-passes p now (omega (
      arith,
      among.1 p,
      gone p,
      count-append p among.0 (steps_with holder steps),
      count-append p now (steps_with holder (take i steps)),
      ap (count_by p) more,
      count-append p (steps_with holder (take i steps)) (x ∷ []),
      count-cons p x [],
      one,
      ap (count_by p) all,
      count-append p (steps_with holder (take (i + 1) steps)) (steps_with holder (drop (i + 1) steps)),
    )) in
    subst (λ (y : HeldStep). Contains now y) (sym (is-one x found.0 found.2)) found.1

-- ---- the lists by segment

-- a step that is in one of the lists is in that of its segment
pub there-in_list : (lists : List StepList) (held : HeldStep) → AreBySegment lists → Contains (all_steps lists) held → Contains (list_of lists (segment_of held.step.arc)).steps held
there-in_list lists held by_segment there =
    let found = flat_map-Contains (λ (l : StepList). l.steps) lists held there in
    let k = found.1.0 in
    let segment : Segment = record { 0 = k } in
    let is : list_of lists segment ≡ found.0 = sym (get_or_default lists k found.0 no_step found.1.1) ∙ found.1.2 in
    let here : Contains (list_of lists segment).steps held = subst (λ (l : StepList). Contains l.steps held) (sym is) found.2 in
    let on = All-contains (λ (h : HeldStep). segment_of h.step.arc ≡ segment) (list_of lists segment).steps held (by_segment segment found.1.1) here in
    subst (λ (s : Segment). Contains (list_of lists s).steps held) (sym on) here

-- ---- one list of an index changed

pub count-set : (p : HeldStep → Bool) (lists : List StepList) (k : ℕ) (l d : StepList) → k < length lists
    → count_by p (all_steps (set lists k l)) + count_by p (get_or lists k d).steps ≡ count_by p (all_steps lists) + count_by p l.steps
count-set p lists k l d low =
    omega (arith, count-joined p (λ (l : StepList). l.steps) (set lists k l), count-joined p (λ (l : StepList). l.steps) lists, sum_by-set (λ (l : StepList). count_by p l.steps) lists k l d low)

pub steps-kept : (lists : List StepList) (k : ℕ) (l : StepList) → k < length lists → l.steps ≡ (get_or lists k no_step).steps → all_steps (set lists k l) ≡ all_steps lists
steps-kept [] k l low same = absurd (omega arith)
steps-kept (m ∷ lists) zero l low same = ap (λ (steps : List HeldStep). steps ++ all_steps lists) same
steps-kept (m ∷ lists) (suc k) l low same = ap (λ (steps : List HeldStep). m.steps ++ steps) (steps-kept lists k l (omega arith) same)

module _ (lists : List StepList) (k : ℕ) (low : k < length lists) where
  pub inserted : (held : HeldStep) (l : StepList) → IsPermutation (held ∷ (get_or lists k no_step).steps) l.steps → AreAsMany (held ∷ all_steps lists) (all_steps (set lists k l))
  inserted held l moved test =
      omega (arith, count-set test lists k l no_step low, permuted _ _ moved test, count-cons test held (get_or lists k no_step).steps, count-cons test held (all_steps lists))

  pub removed : (held : HeldStep) (l : StepList) → IsPermutation (get_or lists k no_step).steps (held ∷ l.steps) → AreAsMany (all_steps lists) (held ∷ all_steps (set lists k l))
  removed held l moved test =
      omega (arith, count-set test lists k l no_step low, permuted _ _ moved test, count-cons test held l.steps, count-cons test held (all_steps (set lists k l)))

  -- the list of each segment afterwards
  pub list-set : (l : StepList) (segment : Segment) → segment.0 ≡ k → list_of (set lists k l) segment ≡ l
  list-set l segment here = rw here (get_or-set_same lists k l no_step low)

  pub list-other : (l : StepList) (segment : Segment) → (segment.0 ≡ k → ⊥) → list_of (set lists k l) segment ≡ list_of lists segment
  list-other l segment other = get_or-set_other lists k segment.0 l no_step other

  -- what holds of the changed list and of the others holds of each
  pub each-list : (P : Segment → StepList → Type 0) (l : StepList) → P (record { 0 = k }) l → ((s : Segment) → P s (list_of lists s)) → (s : Segment) → P s (list_of (set lists k l) s)
  each-list P l here others s =
      elim (cases_Bool (eqb k s.0)) [
        | inl is ↦
            let e : k ≡ s.0 = eqb-true k s.0 is in
            let same : record { 0 = k } ≡ s = λ i. record { 0 = e i } in
            subst (P s) (sym (list-set l s (sym e))) (subst (λ (t : Segment). P t l) same here)
        | inr other ↦ subst (P s) (sym (list-other l s (λ e. both_ways _ other (eq-eqb k s.0 (sym e))))) (others s)
      ]

  pub by_segment-set : (l : StepList) → All (λ held. segment_of held.step.arc ≡ record { 0 = k }) l.steps → AreBySegment lists → AreBySegment (set lists k l)
  by_segment-set l here others s on =
      each-list (λ s l. s.0 < length lists → All (λ held. segment_of held.step.arc ≡ s) l.steps) l (λ _. here) others s (omega (arith, on, length-set lists k l))

  -- a step put in at its segment makes that list longer by one
  pub lengths-inserted : (l : StepList) → length l.steps ≡ length (get_or lists k no_step).steps + 1 → (s : Segment)
      → length (list_of (set lists k l) s).steps ≡ length (list_of lists s).steps + cond (eqb k s.0) 1 0
  lengths-inserted l longer s =
      elim (cases_Bool (eqb k s.0)) [
        | inl here ↦
            let e : k ≡ s.0 = eqb-true k s.0 here in
            let at = list-set l s (sym e) in
            let one = cond-true {A = ℕ} (eqb k s.0) 1 0 here in
            let old = ap (λ (j : ℕ). length (get_or lists j no_step).steps) e in
            omega (arith, ap (λ (l : StepList). length l.steps) at, one, longer, old)
        | inr other ↦
            let at = list-other l s (λ e. both_ways _ other (eq-eqb k s.0 (sym e))) in
            let none = cond-false {A = ℕ} (eqb k s.0) 1 0 other in
            omega (arith, ap (λ (l : StepList). length l.steps) at, none)
      ]

  -- the room of each list stays
  pub room-set : (l : StepList) → l.capacity ≡ (get_or lists k no_step).capacity → KeepsHoldRoom lists (set lists k l)
  room-set l same = record { lists = length-set lists k l; capacity = each-list (λ s l. l.capacity ≡ (list_of lists s).capacity) l same (λ t. refl) }
