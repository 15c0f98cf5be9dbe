-- Holders are taken out one by one, and put back one by one, the last first.
use Rattle.std.proofs.Common.{◌≡◌, ◌∙◌, ℕ, suc, ◌<◌, ◌≤◌, List, [], ◌∷◌, ◌++◌, length, map, take, get_or, length-append, IsTrue, IsFalse, None, refl, sym, ap, subst, arith}
use Rattle.std.specs.Prelude.{All, AllPairs, Contains, bytes_eq}
use Rattle.std.proofs.lemmas.List.{take_all, map-append, length-map, get_or-map, get_or_append_left, get_or_push}
use Rattle.std.proofs.lemmas.List.Elements.{All-contains, All-head, All-tail, Contains-push, Contains-append_left, Contains-get_or}
use Rattle.taxi_base.specs.Airport.{Airport}
use Rattle.taxi_base.specs.State.{State, has_holder, holder_count, without, IsFeasibleState}
use Rattle.commitments.specs.Book.{Book, Fits}
use Rattle.commitments.specs.Room.{HasRoomForAll, LosesNoRoom}
use Rattle.commitments.proofs.RoomLaws.{room-kept}
use Rattle.late_repair.specs.declared.holder.Holder.{Holder}
use Rattle.late_repair.specs.TakenOut.{name_of, with_holder, with_holders, without_all, taken_back, AreOthers, AreOut, IsIn, IsFeasibleAmong}
use Rattle.late_repair.proofs.HolderLaws.{without_all-more, present-without, are-out, nothing-out, with_holders-more, absent-with, all-stays, all-there, all-count, room-but}
use Rattle.late_repair.proofs.OthersLaws.{feasible-among}
use Rattle.late_repair.proofs.RoomSteps.{no_loss-both}
use Rattle.late_repair.proofs.WayLaws.{take-more, before-next}

-- ---- pairs of a list

pairs-map : {X Y : Type 0} (R : Y → Y → Type 0) (f : X → Y) (xs : List X) → AllPairs R (map f xs) → AllPairs (λ a b. R (f a) (f b)) xs
pairs-map R f xs pairs i j d low high =
    let a = get_or-map f xs i d (f d) (omega (arith, low, high)) in
    let b = get_or-map f xs j d (f d) high in
    subst (λ y. R (f (get_or xs i d)) y) b (subst (λ x. R x (get_or (map f xs) j (f d))) a (pairs i j (f d) low (omega (arith, high, length-map xs f))))

module _ {X : Type 0} (R : X → X → Type 0) (xs : List X) (x : X) (pairs : AllPairs R (xs ++ x ∷ [])) where
  pairs-front : AllPairs R xs
  pairs-front i j d low high =
      subst (λ b. R (get_or xs i d) b) (get_or_append_left xs (x ∷ []) d j high)
      (subst (λ a. R a (get_or (xs ++ x ∷ []) j d)) (get_or_append_left xs (x ∷ []) d i (omega (arith, low, high))) (pairs i j d low (omega (arith, high, length-append xs (x ∷ [])))))

  pairs-last : All (λ a. R a x) xs
  pairs-last i d low =
      subst (λ b. R (get_or xs i d) b) (get_or_push xs x d (length xs) refl)
      (subst (λ a. R a (get_or (xs ++ x ∷ []) (length xs) d)) (get_or_append_left xs (x ∷ []) d i low) (pairs i (length xs) d low (omega (arith, length-append xs (x ∷ [])))))

-- ---- taken out

module _ (airport : Airport) (names : List (List ℕ)) (old : Book) where
  -- the first of the holders of some names are out
  pub record IsTakingOut (i : ℕ) (holders : List Holder) (book : Book) : Type 0 where
    pub named : map name_of holders ≡ take i names
    pub state : book.state ≡ without_all (take i names) old.state
    pub back : with_holders holders book.state ≡ old.state
    pub room : LosesNoRoom old book
    pub unlifted : book.lifted ≡ None
    pub fits : Fits airport book

  module _ (i : ℕ) (holders : List Holder) (book : Book) (taking : IsTakingOut i holders book) (name : List ℕ) (low : i < length names) (here : name ≡ get_or names i name) where
    present-all : (others : List (List ℕ)) (state : State) → All (λ n. IsFalse (bytes_eq name n)) others → has_holder name (without_all others state) ≡ has_holder name state
    present-all [] state differ = refl
    present-all (n ∷ others) state differ =
        present-all others (without n state) (All-tail (λ m. IsFalse (bytes_eq name m)) n others differ)
        ∙ present-without name n state (All-head (λ m. IsFalse (bytes_eq name m)) n others differ)

    -- the next is in force still
    pub next-present : All (λ n. IsTrue (has_holder n old.state)) names → AllPairs (λ a b. IsFalse (bytes_eq b a)) names → IsTrue (has_holder name book.state)
    next-present in_force once =
        let others : All (λ n. IsFalse (bytes_eq name n)) (take i names) = before-next (λ a b. IsFalse (bytes_eq b a)) names i name once low here in
        ap (has_holder name) taking.state ∙ present-all (take i names) old.state others ∙ subst (λ n. IsTrue (has_holder n old.state)) (sym here) (in_force i name low)

    -- and is taken out
    pub taking-next : (h : Holder) (next : Book) (more : List Holder) → more ≡ holders ++ h ∷ [] → name_of h ≡ name → with_holder h next.state ≡ book.state → next.state ≡ without name book.state
        → LosesNoRoom book next → next.lifted ≡ None → Fits airport next → IsTakingOut (suc i) more next
    taking-next h next more pushed named was is room unlifted fits =
        let taken : take (suc i) names ≡ take i names ++ name ∷ [] = take-more names i name low here in
        record {
          named = ap (map name_of) pushed ∙ map-append name_of holders (h ∷ []) ∙ ap (λ ns. ns ++ name_of h ∷ []) taking.named ∙ ap (λ n. take i names ++ n ∷ []) named ∙ sym taken;
          state = is ∙ ap (without name) taking.state ∙ sym (without_all-more (take i names) name old.state) ∙ ap (λ ns. without_all ns old.state) (sym taken);
          back = ap (λ hs. with_holders hs next.state) pushed ∙ with_holders-more holders h next.state ∙ ap (with_holders holders) was ∙ taking.back;
          room = no_loss-both old book next taking.room room;
          unlifted = unlifted;
          fits = fits;
        }

  module _ (i : ℕ) (holders : List Holder) (book : Book) (taking : IsTakingOut i holders book) (over : length names ≤ i) where
    pub taking-names : map name_of holders ≡ names
    taking-names = taking.named ∙ take_all i names over

    pub taking-out : AreOut book.state holders
    taking-out = subst (λ s. AreOut s holders) (sym taking.state) (are-out holders old.state (take i names) taking.named)

    -- putting them back gives the state of before
    pub taking-back : taken_back holders book.state ≡ old.state
    taking-back = ap (with_holders holders) (nothing-out holders book.state taking-out) ∙ taking.back

    pub taking-others : AllPairs (λ a b. IsFalse (bytes_eq b a)) names → AreOthers holders
    taking-others once = pairs-map (λ a b. IsFalse (bytes_eq b a)) name_of holders (subst (AllPairs (λ a b. IsFalse (bytes_eq b a))) (sym taking-names) once)

-- ---- whoever has their names

module _ (airport : Airport) (holders : List Holder) (old : Book) where
  -- who had the names of the first of some holders is out
  pub record IsMakingWay (i : ℕ) (book : Book) : Type 0 where
    pub state : book.state ≡ without_all (take i (map name_of holders)) old.state
    pub room : LosesNoRoom old book
    pub unlifted : book.lifted ≡ None
    pub fits : Fits airport book

  pub making-next : (i : ℕ) (book : Book) → IsMakingWay i book → (h : Holder) → i < length holders → h ≡ get_or holders i h → (next : Book) → next.state ≡ without (name_of h) book.state
      → LosesNoRoom book next → next.lifted ≡ None → Fits airport next → IsMakingWay (suc i) next
  making-next i book making h low here next is room unlifted fits =
      let name_here : name_of h ≡ get_or (map name_of holders) i (name_of h) = ap name_of here ∙ sym (get_or-map name_of holders i h (name_of h) low) in
      let taken : take (suc i) (map name_of holders) ≡ take i (map name_of holders) ++ name_of h ∷ [] =
      take-more (map name_of holders) i (name_of h) (omega (arith, low, length-map holders name_of)) name_here in
      record {
        state = is ∙ ap (without (name_of h)) making.state ∙ sym (without_all-more (take i (map name_of holders)) (name_of h) old.state) ∙ ap (λ ns. without_all ns old.state) (sym taken);
        room = no_loss-both old book next making.room room;
        unlifted = unlifted;
        fits = fits;
      }

-- ---- put back

module _ (airport : Airport) (whole : State) where
  -- the first of the holders of a state are out, and the others are in force
  pub record IsPuttingBack (holders : List Holder) (book : Book) : Type 0 where
    pub whole_is : with_holders holders book.state ≡ whole
    pub out : AreOut book.state holders
    pub others : AreOthers holders
    pub room : HasRoomForAll airport whole book
    pub unlifted : book.lifted ≡ None
    pub fits : Fits airport book

  module _ (feasible : IsFeasibleState airport whole) (holders left : List Holder) (h : Holder) (popped : holders ≡ left ++ h ∷ []) (book : Book) (putting : IsPuttingBack holders book) where
    last-there : Contains holders h
    last-there = subst (λ hs. Contains hs h) (sym popped) (Contains-push left h)

    whole-so : with_holders left (with_holder h book.state) ≡ whole
    whole-so = sym (with_holders-more left h book.state) ∙ ap (λ hs. with_holders hs book.state) (sym popped) ∙ putting.whole_is

    pub last-out : IsFalse (has_holder (name_of h) book.state)
    last-out = All-contains (λ holder. IsFalse (has_holder (name_of holder) book.state)) holders h putting.out last-there

    pub last-few : holder_count book.state < 4096
    last-few = omega (arith, feasible.few, ap holder_count putting.whole_is, all-count holders book.state, ap length popped, length-append left (h ∷ []))

    pub last-feasible : IsFeasibleAmong airport book.state h
    last-feasible =
        feasible-among airport whole feasible book.state (λ x there. subst (λ s. IsIn s x) putting.whole_is (all-stays holders x book.state there)) h last-out
        (subst (λ s. IsIn s h) putting.whole_is (all-there holders h book.state last-there))

    pub last-room : HasRoomForAll airport (with_holder h book.state) book
    last-room = room-but airport book left (with_holder h book.state) (subst (λ s. HasRoomForAll airport s book) (sym whole-so) putting.room)

    pub putting-next : (next : Book) → next.state ≡ with_holder h book.state → LosesNoRoom book next → next.lifted ≡ None → Fits airport next → IsPuttingBack left next
    putting-next next is room unlifted fits =
        let pairs : AreOthers (left ++ h ∷ []) = subst AreOthers popped putting.others in
        record {
          whole_is = ap (with_holders left) is ∙ whole-so;
          out = λ k d low.
              let x : Holder = get_or left k d in
              subst (λ s. IsFalse (has_holder (name_of x) s)) (sym is)
              (absent-with (name_of x) h book.state (pairs-last (λ a b. IsFalse (bytes_eq (name_of b) (name_of a))) left h pairs k d low)
              (All-contains (λ holder. IsFalse (has_holder (name_of holder) book.state)) holders x putting.out
              (subst (λ hs. Contains hs x) (sym popped) (Contains-append_left left (h ∷ []) x (Contains-get_or left k d low)))));
          others = pairs-front (λ a b. IsFalse (bytes_eq (name_of b) (name_of a))) left h pairs;
          room = room-kept airport whole book next putting.room room;
          unlifted = unlifted;
          fits = fits;
        }
