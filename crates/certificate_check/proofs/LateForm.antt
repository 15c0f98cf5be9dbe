-- The form of a late flight's block: its first entry, those in the way in order, and who is dropped.
use Rattle.std.proofs.Common.{◌≡◌, ◌↔◌, ◌∙◌, ℕ, ◌-◌, ◌≤◌, List, [], ◌∷◌, length, map, take, drop, get_or, None, IsTrue, refl, sym, ap, subst, arith}
use Rattle.std.specs.Prelude.{All, Contains}
use Rattle.std.specs.List.{list_all}
use Rattle.std.proofs.lemmas.Bool.{and_parts, and_from, not_from_false, not-true}
use Rattle.std.proofs.lemmas.List.{take_all}
use Rattle.std.proofs.lemmas.List.Elements.{All-nil, All-cons, All-head, All-tail, All-contains, Contains-get_or}
use Rattle.taxi_base.specs.Airport.{Airport}
use Rattle.taxi_base.specs.State.{State, IsFeasibleState}
use Rattle.taxi_base.specs.Late.{Delay, Meeting, IsInTheWay}
use Rattle.taxi_base.proofs.ListLaws.{Contains-map, map-Contains}
use Rattle.replies.specs.declared.entries.Entry.{Entry}
use Rattle.replies.specs.declared.entries.Entry.TheVariants as entry
use Rattle.replies.specs.declared.block.Block.{Block}
use Rattle.replies.specs.Repairs.{delay_of, IsDroppedAsDue, TellsRepair}
use Rattle.certificate_check.specs.Late.{AreInOrder, AreAllNamed, IsToldFirst, drops_as_due, TellInTurn}
use Rattle.certificate_check.proofs.LateWay.{way-one}

-- ---- who is dropped

one-due : (state : State) (told : List ℕ × Entry) → IsTrue (drops_as_due state told) ↔ IsDroppedAsDue state told
one-due state (name, entry.Dropped) = (λ h. h, λ h. h)
one-due state (name, entry.Route second steps labels) = (λ h. not-true _ h, λ h. not_from_false _ h)
one-due state (name, entry.NoRoute labels) = (λ h. not-true _ h, λ h. not_from_false _ h)

pub all-due : (state : State) (entries : List (List ℕ × Entry)) → IsTrue (list_all (drops_as_due state) entries) ↔ All (IsDroppedAsDue state) entries
all-due state [] = (λ _. All-nil (IsDroppedAsDue state), λ _. refl)
all-due state (told ∷ entries) = (
  λ e. (let parts = and_parts (drops_as_due state told) (list_all (drops_as_due state) entries) e in
      All-cons (IsDroppedAsDue state) told entries ((one-due state told).0 parts.0) ((all-due state entries).0 parts.1)),
  λ all. and_from (drops_as_due state told) (list_all (drops_as_due state) entries) ((one-due state told).1 (All-head (IsDroppedAsDue state) told entries all))
      ((all-due state entries).1 (All-tail (IsDroppedAsDue state) told entries all)),
)

-- ---- in turn

module _ (airport : Airport) (state : State) (delay : Delay) (feasible : IsFeasibleState airport state) where
  abbrev names_told : List (List ℕ × Entry) → List (List ℕ)
  names_told entries = map (λ (t : List ℕ × Entry). t.0) entries

  head-same : {a b : List ℕ} {xs ys : List (List ℕ)} → a ∷ xs ≡ b ∷ ys → a ≡ b
  head-same e = cc e

  tail-same : {a b : List ℕ} {xs ys : List (List ℕ)} → a ∷ xs ≡ b ∷ ys → xs ≡ ys
  tail-same e = cc e

  pub tell-none : TellInTurn airport state delay [] → ⊥
  tell-none tell = cc tell.in_turn

  module _ (told : List ℕ × Entry) (entries : List (List ℕ × Entry)) where
    pub tell-first : TellInTurn airport state delay (told ∷ entries) → told.0 ≡ delay.flight.name
    tell-first tell = head-same tell.in_turn

    pub tell-order : TellInTurn airport state delay (told ∷ entries) → AreInOrder airport state delay (names_told entries)
    tell-order tell = record {
      meetings = tell.meetings;
      named = sym (tail-same tell.in_turn);
      in_way = λ k d low. (tell.in_the_way.whole (get_or tell.meetings k d)).0 (Contains-get_or tell.meetings k d low);
      ordered = tell.in_the_way.ordered;
    }

    pub tell-named : TellInTurn airport state delay (told ∷ entries) → AreAllNamed airport state delay (names_told entries)
    tell-named tell = λ m way. subst (λ ns. Contains ns m.name) (sym (tail-same tell.in_turn)) (Contains-map (λ (m : Meeting). m.name) tell.meetings m ((tell.in_the_way.whole m).1 way))

    pub tell-from : told.0 ≡ delay.flight.name → AreInOrder airport state delay (names_told entries) → AreAllNamed airport state delay (names_told entries) → All (IsDroppedAsDue state) (told ∷ entries)
        → TellInTurn airport state delay (told ∷ entries)
    tell-from first order named dropped = record {
      meetings = order.meetings;
      in_the_way = record { ordered = order.ordered; whole = λ m. (All-contains (IsInTheWay airport state delay) order.meetings m order.in_way, among m) };
      in_turn = ap (λ n. n ∷ names_told entries) first ∙ ap (λ (ns : List (List ℕ)). delay.flight.name ∷ ns) (sym order.named);
      dropped = dropped;
    } where
      among : (m : Meeting) → IsInTheWay airport state delay m → Contains order.meetings m
      among m way =
          let found = map-Contains (λ (m : Meeting). m.name) order.meetings m.name (subst (λ ns. Contains ns m.name) (sym order.named) (named m way)) in
          let second = way-one airport state delay feasible found.0 m (All-contains (IsInTheWay airport state delay) order.meetings found.0 order.in_way found.1) way found.2 in
          let one : found.0 ≡ m = (λ i. record { second = second i; name = found.2 i }) in
          subst (Contains order.meetings) one found.1

  -- ---- the same of entries from which the first is taken

  abbrev pub others_of : List (List ℕ × Entry) → List (List ℕ × Entry)
  others_of entries = take (length entries - 1) (drop 1 entries)

  others-are : (told : List ℕ × Entry) (entries : List (List ℕ × Entry)) → others_of (told ∷ entries) ≡ entries
  others-are told entries = take_all (length (told ∷ entries) - 1) entries (omega arith)

  pub told-first : (entries : List (List ℕ × Entry)) → TellInTurn airport state delay entries → IsToldFirst delay.flight.name entries
  told-first [] tell = tell-none tell
  told-first (told ∷ entries) tell = tell-first told entries tell

  pub told-some : (entries : List (List ℕ × Entry)) → IsToldFirst delay.flight.name entries → 1 ≤ length entries
  told-some [] first = absurd first
  told-some (told ∷ entries) first = omega arith

  pub told-order : (entries : List (List ℕ × Entry)) → TellInTurn airport state delay entries → AreInOrder airport state delay (names_told (others_of entries))
  told-order [] tell = absurd (tell-none tell)
  told-order (told ∷ entries) tell = subst (λ es. AreInOrder airport state delay (names_told es)) (sym (others-are told entries)) (tell-order told entries tell)

  pub told-named : (entries : List (List ℕ × Entry)) → TellInTurn airport state delay entries → AreAllNamed airport state delay (names_told (others_of entries))
  told-named [] tell = absurd (tell-none tell)
  told-named (told ∷ entries) tell = subst (λ es. AreAllNamed airport state delay (names_told es)) (sym (others-are told entries)) (tell-named told entries tell)

  pub told-from : (entries : List (List ℕ × Entry)) → IsToldFirst delay.flight.name entries → AreInOrder airport state delay (names_told (others_of entries))
      → AreAllNamed airport state delay (names_told (others_of entries)) → All (IsDroppedAsDue state) entries → TellInTurn airport state delay entries
  told-from [] first order named dropped = absurd first
  told-from (told ∷ entries) first order named dropped =
      tell-from told entries first (subst (λ es. AreInOrder airport state delay (names_told es)) (others-are told entries) order)
      (subst (λ es. AreAllNamed airport state delay (names_told es)) (others-are told entries) named) dropped

-- ---- the block

module _ (airport : Airport) (state : State) (name : List ℕ) (time until : ℕ) where
  -- of no flight that is on a step
  pub nobody-tells : delay_of state name time until ≡ None → (block : Block) → TellsRepair airport state name time until block → ⊥
  nobody-tells none block tells = cc (sym none ∙ tells.known)
