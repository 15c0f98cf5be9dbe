-- While flights are served those that are still to come are new, and what was served is taken out again one by one, the last first.
use Rattle.std.proofs.Common.{◌≡◌, ℕ, ◌+◌, ◌≤◌, ◌<◌, zero, suc, List, [], ◌∷◌, length, take, drop, get_or, drop-cons, refl, sym, ap, subst, arith, Option, Some, None}
use Rattle.std.specs.Prelude.{IfSome, IfNone}
use Rattle.std.proofs.lemmas.List.{take_all}
use Rattle.taxi_base.specs.declared.answers.Flight.{Flight}
use Rattle.taxi_base.specs.Airport.{Airport}
use Rattle.taxi_base.specs.State.{State, flight_named, without, holder_count}
use Rattle.replies.specs.declared.wish.Wish.{Wish}
use Rattle.replies.specs.Batches.{IsServedAs, IsServed}
use Rattle.replies.proofs.ServedLaws.{served-by}
use Rattle.commitments.specs.Book.{Book, Fits}
use Rattle.sequence_exchange.specs.Serving.{AreNew}
use Rattle.sequence_exchange.proofs.ServedLaws.{Told, after_entry, IsServedAs-after, IsServed-length}
use Rattle.sequence_exchange.proofs.NewLaws.{AreNew-after, count-after, taken_out}

module _ (airport : Airport) where
  -- ---- those that are still to come

  pub AreNew-rest : (k : ℕ) (before : State) (wishes : List Wish) (entries : List Told) (mid : State) → AreNew before wishes → IsServed airport before (take k wishes) entries mid
      → AreNew mid (drop k wishes)
  AreNew-rest zero before wishes [] mid new served = subst (λ (s : State). AreNew s wishes) (sym served) new
  AreNew-rest zero before wishes (told ∷ entries) mid new served = absurd served
  AreNew-rest (suc k) before [] [] mid new served = tt
  AreNew-rest (suc k) before [] (told ∷ entries) mid new served = absurd served
  AreNew-rest (suc k) before (wish ∷ wishes) [] mid new served = absurd served
  AreNew-rest (suc k) before (wish ∷ wishes) (told ∷ entries) mid new served =
      let same : served.0 ≡ after_entry before wish told.1 = IsServedAs-after airport before wish told served.0 served.1 in
      AreNew-rest k served.0 wishes entries mid (subst (λ (s : State). AreNew s wishes) (sym same) (AreNew-after before wish told.1 wishes new)) served.2

  pub count-rest : (k : ℕ) (before : State) (wishes : List Wish) (entries : List Told) (mid : State) → IsServed airport before (take k wishes) entries mid
      → holder_count mid + length (drop k wishes) ≤ holder_count before + length wishes
  count-rest zero before wishes [] mid served = rw served (omega arith)
  count-rest zero before wishes (told ∷ entries) mid served = absurd served
  count-rest (suc k) before [] [] mid served = rw served (omega arith)
  count-rest (suc k) before [] (told ∷ entries) mid served = absurd served
  count-rest (suc k) before (wish ∷ wishes) [] mid served = absurd served
  count-rest (suc k) before (wish ∷ wishes) (told ∷ entries) mid served =
      let same : holder_count served.0 ≡ holder_count (after_entry before wish told.1) = ap holder_count (IsServedAs-after airport before wish told served.0 served.1) in
      omega (arith, same, count-after before wish told.1, count-rest k served.0 wishes entries mid served.2)

  -- ---- the last one

  served-last : (k : ℕ) (before : State) (wishes : List Wish) (entries : List Told) (now : State) (d : Wish) (e : Told) → k < length wishes
      → IsServed airport before (take (suc k) wishes) (take (suc k) entries) now
      → (mid : State) × IsServed airport before (take k wishes) (take k entries) mid × IsServedAs airport mid (get_or wishes k d) (get_or entries k e) now
  served-last k before [] entries now d e low served = absurd (omega (arith, low))
  served-last k before (wish ∷ wishes) [] now d e low served = absurd served
  served-last zero before (wish ∷ wishes) (told ∷ entries) now d e low served =
      (before, refl, subst (λ (s : State). IsServedAs airport before wish told s) (sym served.2) served.1)
  served-last (suc k) before (wish ∷ wishes) (told ∷ entries) now d e low served =
      let rest = served-last k served.0 wishes entries now d e (omega (arith, low)) served.2 in
      (rest.0, (served.0, served.1, rest.1), rest.2)

  undone-one : (k : ℕ) (before : State) (wishes : List Wish) (entries : List Told) (old new : State) (d : Wish) (e : Told) (o : Option Flight) → k < length wishes → AreNew before wishes
      → IsServed airport before (take (suc k) wishes) (take (suc k) entries) old → o ≡ flight_named (get_or entries k e).0 old.flights
      → IfSome o (λ _. new ≡ without (get_or entries k e).0 old) → IfNone o (new ≡ old) → IsServed airport before (take k wishes) (take k entries) new
  undone-one k before wishes entries old new d e o low are_new served found left kept =
      let last = served-last k before wishes entries old d e low served in
      let wish : Wish = get_or wishes k d in
      let told : Told = get_or entries k e in
      let named : told.0 ≡ wish.name = (served-by airport last.0 wish told old last.2).named in
      let rest : AreNew last.0 (wish ∷ drop (suc k) wishes) = rw (drop-cons wishes k d) at (AreNew-rest k before wishes (take k entries) last.0 are_new last.1) in
      let same : new ≡ last.0 = taken_out last.0 wish told.1 old new o (IsServedAs-after airport last.0 wish told old last.2) rest.0
      (subst (λ (n : List ℕ). o ≡ flight_named n old.flights) named found) (subst (λ (n : List ℕ). IfSome o (λ _. new ≡ without n old)) named left) kept in
      subst (λ (s : State). IsServed airport before (take k wishes) (take k entries) s) (sym same) last.1

  -- ---- one by one

  -- Entries are taken out, and so many are left: what was served before is in force.
  pub record IsUndoing (entries : List Told) (left : ℕ) (now : State) (book : Book) : Type 0 where
    pub low : left ≤ length entries
    pub under : (before : State) (wishes : List Wish) → AreNew before wishes → IsServed airport before wishes entries now → IsServed airport before (take left wishes) (take left entries) book.state
    pub unlifted : book.lifted ≡ None
    pub fits : Fits airport book

  pub undoing-first : (entries : List Told) (left : ℕ) (book : Book) → left ≡ length entries → book.lifted ≡ None → Fits airport book → IsUndoing entries left book.state book
  undoing-first entries left book all unlifted fits = record {
    low = omega (arith, all);
    under = λ before wishes new served.
        let same : length entries ≡ length wishes = IsServed-length airport before wishes entries book.state served in
        rw (take_all left wishes (omega (arith, all, same)), take_all left entries (omega (arith, all))) served;
    unlifted = unlifted;
    fits = fits;
  }

  pub undoing-next : (entries : List Told) (k left : ℕ) (now : State) (old new : Book) (told : Told) (o : Option Flight) → suc k ≡ left → IsUndoing entries left now old
      → told ≡ get_or entries k told → o ≡ flight_named told.0 old.state.flights → IfSome o (λ _. new.state ≡ without told.0 old.state) → IfNone o (new ≡ old) → new.lifted ≡ None → Fits airport new
      → IsUndoing entries k now new
  undoing-next entries k left now old new told o next undoing here found gone kept unlifted fits = record {
    low = omega (arith, undoing.low, next);
    under = λ before wishes are_new served.
        let same : length entries ≡ length wishes = IsServed-length airport before wishes entries now served in
        under before wishes are_new (omega (arith, undoing.low, next, same))
        (subst (λ (n : ℕ). IsServed airport before (take n wishes) (take n entries) old.state) (sym next) (undoing.under before wishes are_new served));
    unlifted = unlifted;
    fits = fits;
  } where
    as_before : (p : Option Flight) → IfNone p (new ≡ old) → IfNone p (new.state ≡ old.state)
    as_before None kept = ap (λ (b : Book). b.state) kept
    as_before (Some x) kept = tt

    under : (before : State) (wishes : List Wish) → AreNew before wishes → k < length wishes → IsServed airport before (take (suc k) wishes) (take (suc k) entries) old.state
        → IsServed airport before (take k wishes) (take k entries) new.state
    under before [] are_new low served = absurd (omega (arith, low))
    under before (wish ∷ wishes) are_new low served =
        undone-one k before (wish ∷ wishes) entries old.state new.state wish told o low are_new served (subst (λ (t : Told). o ≡ flight_named t.0 old.state.flights) here found)
        (subst (λ (t : Told). IfSome o (λ _. new.state ≡ without t.0 old.state)) here gone) (as_before o kept)
