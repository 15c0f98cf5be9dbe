-- Serving all, and putting all back: one more each time.
use Rattle.std.proofs.Common.{◌≡◌, ◌∙◌, ℕ, ◌+◌, ◌≤◌, ◌<◌, suc, List, [], ◌∷◌, ◌++◌, length, take, drop, get_or, drop-cons, refl, sym, ap, subst, arith, IsFalse, true, false, None}
use Rattle.std.specs.Prelude.{Result, Ok, Err, OnOk, OnErr, is_err}
use Rattle.std.proofs.Math.Seq.{take-suc}
use Rattle.std.proofs.lemmas.List.{length-drop}
use Rattle.taxi_base.specs.declared.rows.Step.{Step}
use Rattle.taxi_base.specs.declared.rows.LabelRow.{LabelRow}
use Rattle.taxi_base.specs.declared.answers.Found.{Found}
use Rattle.taxi_base.specs.declared.answers.Found.TheVariants as found
use Rattle.taxi_base.specs.Airport.{Airport}
use Rattle.taxi_base.specs.Walks.{Meets}
use Rattle.taxi_base.specs.Faults.{conditions_in}
use Rattle.taxi_base.specs.State.{State, with_flight, has_holder, holder_count}
use Rattle.replies.specs.declared.entries.Entry.{Entry}
use Rattle.replies.specs.declared.entries.Entry.TheVariants as entry
use Rattle.replies.specs.declared.wish.Wish.{Wish}
use Rattle.replies.specs.Asked.{AnswersRequest}
use Rattle.replies.specs.declared.block.Block.TheVariants.{Route}
use Rattle.replies.specs.Routed.{found_reply, routed_flight}
use Rattle.replies.specs.Batches.{IsServedAs, IsServed}
use Rattle.replies.proofs.FoundLaws.{found-meets}
use Rattle.replies.proofs.ServedLaws.{served-by}
use Rattle.commitments.specs.Book.{Book, Fits}
use Rattle.sequence_exchange.specs.Serving.{AreNew}
use Rattle.sequence_exchange.proofs.ServedLaws.{Told, IsServed-append}
use Rattle.sequence_exchange.proofs.UndoneLaws.{AreNew-rest, count-rest}

-- what an answer that is no error ensures
pub not-err : {A B : Type 0} {P : Type 0} (r : Result A B) → is_err r ≡ false → OnOk r P → P
not-err (Ok x) none p = p
not-err (Err e) none p = absurd (cc none)

-- and what one that is an error does
pub is-err : {A B : Type 0} {P : Type 0} (r : Result A B) → is_err r ≡ true → OnErr r P → P
is-err (Ok x) some p = absurd (cc some)
is-err (Err e) some p = p

module _ (airport : Airport) where
  -- ---- one flight

  -- its route does what was asked
  pub served-met : (state : State) (wish : Wish) (name : List ℕ) (second : ℕ) (steps : List Step) (labels : List LabelRow) (after : State)
      → IsServedAs airport state wish (name, entry.Route second steps labels) after → Meets (conditions_in airport wish.class state) wish.request steps
  served-met state wish name second steps labels after served = met served.1.found served.1.answers served.1.reply.0 where
    met : (answer : Found) → AnswersRequest (conditions_in airport wish.class state) wish.request answer
        → Route name second steps labels ≡ (found_reply state wish.name wish.request (λ s. with_flight (routed_flight wish.name wish.class wish.request s) state) answer).block
        → Meets (conditions_in airport wish.class state) wish.request steps
    met (found.Route s l) answers told =
        let e : s ≡ steps = cc told in
        subst (λ (x : List Step). Meets (conditions_in airport wish.class state) wish.request x) e (found-meets (conditions_in airport wish.class state) wish.request s l answers)
    met (found.NoRoute l) answers told = absurd (cc told)

  -- ---- one more

  served-next : (k : ℕ) (before : State) (wishes : List Wish) (entries : List Told) (mid after : State) (d : Wish) → k < length wishes → (told : Told)
      → IsServed airport before (take k wishes) entries mid → IsServedAs airport mid (get_or wishes k d) told after → IsServed airport before (take (suc k) wishes) (entries ++ told ∷ []) after
  served-next k before wishes entries mid after d low told served told_as =
      rw (take-suc wishes k d low) (IsServed-append airport before (take k wishes) entries mid (get_or wishes k d ∷ []) (told ∷ []) after served (after, told_as, refl))

  module _ (k : ℕ) (before : State) (wishes : List Wish) (low : k < length wishes) (new : AreNew before wishes) (few : holder_count before + length wishes ≤ 4096)
      (entries : List Told) (mid : State) (served : IsServed airport before (take k wishes) entries mid) where
    pub next-absent : (wish : Wish) → wish ≡ get_or wishes k wish → IsFalse (has_holder wish.name mid)
    next-absent wish here =
        subst (λ (w : Wish). IsFalse (has_holder w.name mid)) (sym here) (rw (drop-cons wishes k wish) at (AreNew-rest airport k before wishes entries mid new served)).0

    pub next-few : holder_count mid < 4096
    next-few =
        let more : length (drop k wishes) + k ≡ length wishes = omega (arith, length-drop k wishes) in
        omega (arith, count-rest airport k before wishes entries mid served, more, few)

  -- ---- all of them

  pub record IsServing (wishes : List Wish) (entries : List Told) (place : ℕ) (now : State) (book : Book) : Type 0 where
    pub served : IsServed airport now (take place wishes) entries book.state
    pub unlifted : book.lifted ≡ None
    pub fits : Fits airport book

  pub serving-next : (wishes : List Wish) (entries more : List Told) (place next : ℕ) (now : State) (old new : Book) (wish : Wish) (told : Entry) → next ≡ suc place → place < length wishes
      → wish ≡ get_or wishes place wish → IsServing wishes entries place now old → IsServedAs airport old.state wish (wish.name, told) new.state → more ≡ entries ++ (wish.name, told) ∷ []
      → new.lifted ≡ None → Fits airport new → IsServing wishes more next now new
  serving-next wishes entries more place next now old new wish told is low here serving told_as joined unlifted fits = rw (is, joined) (record {
    served = served-next place now wishes entries old.state new.state wish low (wish.name, told) serving.served
        (subst (λ (w : Wish). IsServedAs airport old.state w (wish.name, told) new.state) here told_as);
    unlifted = unlifted;
    fits = fits;
  })

  -- ---- all of them again

  pub record IsPuttingBack (wishes : List Wish) (entries : List Told) (place : ℕ) (now : State) (book : Book) : Type 0 where
    pub served : IsServed airport now (take place wishes) (take place entries) book.state
    pub later : (after : State) → IsServed airport now wishes entries after → IsServed airport book.state (drop place wishes) (drop place entries) after
    pub unlifted : book.lifted ≡ None
    pub fits : Fits airport book

  module _ (wishes : List Wish) (entries : List Told) (place : ℕ) (now : State) (book : Book) (putting : IsPuttingBack wishes entries place now book) (wish : Wish) (told : Told)
      (low : place < length wishes) (there : place < length entries) (at_place : wish ≡ get_or wishes place wish) (here : told ≡ get_or entries place told) where
    -- what is served next
    record IsNext (after : State) : Type 0 where
      mid : State
      told_as : IsServedAs airport book.state wish told mid
      named_as : IsServedAs airport book.state wish (wish.name, told.1) mid
      rest : IsServed airport mid (drop (suc place) wishes) (drop (suc place) entries) after

    putting-as : (after : State) → IsServed airport now wishes entries after → IsNext after
    putting-as after served =
        let later = rw (drop-cons wishes place wish, drop-cons entries place told) at (putting.later after served) in
        let own : IsServedAs airport book.state wish (get_or entries place told) later.0 =
        subst (λ (w : Wish). IsServedAs airport book.state w (get_or entries place told) later.0) (sym at_place) later.1 in
        let told_as : IsServedAs airport book.state wish told later.0 = subst (λ (t : Told). IsServedAs airport book.state wish t later.0) (sym here) own in
        let named : told.0 ≡ wish.name = (served-by airport book.state wish told later.0 told_as).named in
        record { mid = later.0; told_as = told_as; named_as = subst (λ (n : List ℕ). IsServedAs airport book.state wish (n, told.1) later.0) named told_as; rest = later.2 }

    pub putting-next : (next : ℕ) (new : Book) (after : State) → next ≡ suc place → IsServed airport now wishes entries after
        → ((mid : State) → IsServedAs airport book.state wish (wish.name, told.1) mid → new.state ≡ mid) → new.lifted ≡ None → Fits airport new
        → IsPuttingBack wishes entries next now new
    putting-next next new after is served put unlifted fits =
        let one = putting-as after served in
        let told_as : IsServedAs airport book.state (get_or wishes place wish) told new.state =
        subst (λ (w : Wish). IsServedAs airport book.state w told new.state) at_place
        (subst (λ (s : State). IsServedAs airport book.state wish told s) (sym (put one.mid one.named_as)) one.told_as) in
        rw is (record {
          served = subst (λ (ts : List Told). IsServed airport now (take (suc place) wishes) ts new.state)
              (ap (λ (t : Told). take place entries ++ t ∷ []) here ∙ sym (take-suc entries place told there))
              (served-next place now wishes (take place entries) book.state new.state wish low told putting.served told_as);
          later = λ others served. let other = putting-as others served in
              subst (λ (s : State). IsServed airport s (drop (suc place) wishes) (drop (suc place) entries) others) (sym (put other.mid other.named_as)) other.rest;
          unlifted = unlifted;
          fits = fits;
        })
