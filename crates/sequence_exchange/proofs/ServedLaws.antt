-- Serving one after the other: the state afterwards follows from the wishes and the entries, and what is served can be split at a
-- place, joined, and taken out again.
use Rattle.std.proofs.Common.{◌≡◌, ◌∙◌, ℕ, zero, suc, List, [], ◌∷◌, ◌++◌, length, take, drop, refl, sym, ap, subst}
use Rattle.taxi_base.specs.declared.rows.Step.{Step}
use Rattle.taxi_base.specs.declared.rows.LabelRow.{LabelRow}
use Rattle.taxi_base.specs.declared.answers.Found.{Found}
use Rattle.taxi_base.specs.declared.answers.Found.TheVariants as found
use Rattle.taxi_base.specs.Airport.{Airport}
use Rattle.taxi_base.specs.State.{State, with_flight}
use Rattle.replies.specs.declared.entries.Entry.{Entry}
use Rattle.replies.specs.declared.entries.Entry.TheVariants as entry
use Rattle.replies.specs.declared.wish.Wish.{Wish}
use Rattle.replies.specs.declared.block.Block.TheVariants.{Route, NoRoute}
use Rattle.replies.specs.Routed.{IsOf, found_reply, routed_flight}
use Rattle.replies.specs.Batches.{IsServedAs, IsServed}

abbrev pub Told : Type 0
Told = List ℕ × Entry

-- the state after one flight is served
abbrev pub after_entry : State → Wish → Entry → State
after_entry state wish (entry.Route second steps labels) = with_flight (routed_flight wish.name wish.class wish.request steps) state
after_entry state wish (entry.NoRoute labels) = state
after_entry state wish entry.Dropped = state

module _ (state : State) (wish : Wish) where
  route-after : (answer : Found) (name : List ℕ) (second : ℕ) (steps : List Step) (labels : List LabelRow) (after : State)
      → IsOf (found_reply state wish.name wish.request (λ s. with_flight (routed_flight wish.name wish.class wish.request s) state) answer) (Route name second steps labels) after
      → after ≡ with_flight (routed_flight wish.name wish.class wish.request steps) state
  route-after (found.Route s l) name second steps labels after of =
      let e : s ≡ steps = cc (of.0) in of.1 ∙ ap (λ (x : List Step). with_flight (routed_flight wish.name wish.class wish.request x) state) e
  route-after (found.NoRoute l) name second steps labels after of = absurd (cc (of.0))

  no_route-after : (answer : Found) (labels : List LabelRow) (after : State)
      → IsOf (found_reply state wish.name wish.request (λ s. with_flight (routed_flight wish.name wish.class wish.request s) state) answer) (NoRoute labels) after
      → after ≡ state
  no_route-after (found.Route s l) labels after of = absurd (cc (of.0))
  no_route-after (found.NoRoute l) labels after of = of.1

module _ (airport : Airport) where
  pub IsServedAs-after : (state : State) (wish : Wish) (told : Told) (after : State) → IsServedAs airport state wish told after → after ≡ after_entry state wish told.1
  IsServedAs-after state wish (name, entry.Route second steps labels) after served = route-after state wish served.1.found name second steps labels after served.1.reply
  IsServedAs-after state wish (name, entry.NoRoute labels) after served = no_route-after state wish served.1.found labels after served.1.reply
  IsServedAs-after state wish (name, entry.Dropped) after served = absurd served

  -- so there is one
  pub IsServed-one : (state : State) (wishes : List Wish) (entries : List Told) (after other : State) → IsServed airport state wishes entries after → IsServed airport state wishes entries other
      → after ≡ other
  IsServed-one state [] [] after other one two = one ∙ sym two
  IsServed-one state [] (told ∷ entries) after other one two = absurd one
  IsServed-one state (wish ∷ wishes) [] after other one two = absurd one
  IsServed-one state (wish ∷ wishes) (told ∷ entries) after other one two =
      let same : one.0 ≡ two.0 = IsServedAs-after state wish told one.0 one.1 ∙ sym (IsServedAs-after state wish told two.0 two.1) in
      IsServed-one two.0 wishes entries after other (subst (λ (s : State). IsServed airport s wishes entries after) same one.2) two.2

  pub IsServed-length : (state : State) (wishes : List Wish) (entries : List Told) (after : State) → IsServed airport state wishes entries after → length entries ≡ length wishes
  IsServed-length state [] [] after served = refl
  IsServed-length state [] (told ∷ entries) after served = absurd served
  IsServed-length state (wish ∷ wishes) [] after served = absurd served
  IsServed-length state (wish ∷ wishes) (told ∷ entries) after served = ap (λ (n : ℕ). suc n) (IsServed-length served.0 wishes entries after served.2)

  pub IsServed-append : (state : State) (wishes : List Wish) (entries : List Told) (mid : State) (more : List Wish) (others : List Told) (after : State)
      → IsServed airport state wishes entries mid → IsServed airport mid more others after → IsServed airport state (wishes ++ more) (entries ++ others) after
  IsServed-append state [] [] mid more others after one two = subst (λ (s : State). IsServed airport s more others after) one two
  IsServed-append state [] (told ∷ entries) mid more others after one two = absurd one
  IsServed-append state (wish ∷ wishes) [] mid more others after one two = absurd one
  IsServed-append state (wish ∷ wishes) (told ∷ entries) mid more others after one two =
      (one.0, one.1, IsServed-append one.0 wishes entries mid more others after one.2 two)

  pub IsServed-split : (k : ℕ) (state : State) (wishes : List Wish) (entries : List Told) (after : State) → IsServed airport state wishes entries after
      → (mid : State) × IsServed airport state (take k wishes) (take k entries) mid × IsServed airport mid (drop k wishes) (drop k entries) after
  IsServed-split zero state wishes entries after served = (state, refl, served)
  IsServed-split (suc k) state [] [] after served = (state, refl, served)
  IsServed-split (suc k) state [] (told ∷ entries) after served = absurd served
  IsServed-split (suc k) state (wish ∷ wishes) [] after served = absurd served
  IsServed-split (suc k) state (wish ∷ wishes) (told ∷ entries) after served =
      let rest = IsServed-split k served.0 wishes entries after served.2 in
      (rest.0, (served.0, served.1, rest.1), rest.2)
