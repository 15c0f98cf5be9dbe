-- Wishes are served in one way, and each is told of.
use Rattle.std.proofs.Common.{◌≡◌, ℕ, List, [], ◌∷◌, map, refl, sym, ◌∙◌, ap, subst}
use Rattle.std.specs.Prelude.{All}
use Rattle.std.proofs.lemmas.List.Elements.{All-nil, All-cons}
use Rattle.taxi_base.specs.Airport.{Airport, IsWellFormed}
use Rattle.taxi_base.specs.State.{State}
use Rattle.replies.specs.declared.block.Block.{Block}
use Rattle.replies.specs.declared.block.Block.TheVariants.{Route, NoRoute}
use Rattle.replies.specs.declared.entries.Entry.{Entry}
use Rattle.replies.specs.declared.entries.Entry.TheVariants as entry
use Rattle.replies.specs.declared.wish.Wish.{Wish}
use Rattle.replies.specs.Routed.{IsRoutedAs}
use Rattle.replies.specs.Printable.{IsTold}
use Rattle.replies.specs.Batches.{names_of, IsServedAs, IsServed}
use Rattle.replies.proofs.RoutedLaws.{IsRoutedAs-same}

-- ---- one flight

-- the entry that tells what a block tells
abbrev pub entry_by : List ℕ → Block → List ℕ × Entry
entry_by name (Route other second steps labels) = (other, entry.Route second steps labels)
entry_by name (NoRoute labels) = (name, entry.NoRoute labels)
entry_by name _ = (name, entry.Dropped)

-- a wish is served: a route, or that there is none, answers it, and the entry tells this
pub record IsServedBy (airport : Airport) (state : State) (wish : Wish) (told : List ℕ × Entry) (after : State) : Type 0 where
  pub block : Block
  pub routed : IsRoutedAs airport state wish.name wish.class wish.request block after
  pub named : told.0 ≡ wish.name
  pub told_is : told ≡ entry_by wish.name block

pub served-by : (airport : Airport) (state : State) (wish : Wish) (told : List ℕ × Entry) (after : State) → IsServedAs airport state wish told after → IsServedBy airport state wish told after
served-by airport state wish (name, entry.Route second steps labels) after served = record { block = Route name second steps labels; routed = served.1; named = served.0; told_is = refl }
served-by airport state wish (name, entry.NoRoute labels) after served = record { block = NoRoute labels; routed = served.1; named = served.0; told_is = ap (λ n. (n, entry.NoRoute labels)) served.0 }
served-by airport state wish (name, entry.Dropped) after served = absurd served

module _ (airport : Airport) (well : IsWellFormed airport) where
  IsServedAs-same : (state : State) (wish : Wish) (told other : List ℕ × Entry) (after others : State) → IsServedAs airport state wish told after → IsServedAs airport state wish other others
      → (told ≡ other) × (after ≡ others)
  IsServedAs-same state wish told other after others a b =
      let one = served-by airport state wish told after a in
      let two = served-by airport state wish other others b in
      let same = IsRoutedAs-same airport state well wish.name wish.class wish.request one.routed two.routed in
      (one.told_is ∙ ap (entry_by wish.name) same.0 ∙ sym two.told_is, same.1)

  -- ---- several, one after the other

  -- an order is served in one way
  pub IsServed-same : (state : State) (order : List Wish) (entries others : List (List ℕ × Entry)) (after afters : State) → IsServed airport state order entries after → IsServed airport state order others afters
      → (entries ≡ others) × (after ≡ afters)
  IsServed-same state [] [] [] after afters a b = (refl, a ∙ sym b)
  IsServed-same state [] [] (other ∷ others) after afters a b = absurd b
  IsServed-same state [] (told ∷ entries) others after afters a b = absurd a
  IsServed-same state (wish ∷ order) [] others after afters a b = absurd a
  IsServed-same state (wish ∷ order) (told ∷ entries) [] after afters a b = absurd b
  IsServed-same state (wish ∷ order) (told ∷ entries) (other ∷ others) after afters a b =
      let first = IsServedAs-same state wish told other a.0 b.0 a.1 b.1 in
      let later = IsServed-same a.0 order entries others after afters a.2 (subst (λ s. IsServed airport s order others afters) (sym first.1) b.2) in
      (λ i. first.0 i ∷ later.0 i, later.1)

-- ---- each wish is told of

module _ (airport : Airport) where
  told-served : (state : State) (wish : Wish) (told : List ℕ × Entry) (after : State) → IsServedAs airport state wish told after → IsTold told
  told-served state wish (name, entry.Route second steps labels) after served = tt
  told-served state wish (name, entry.NoRoute labels) after served = tt
  told-served state wish (name, entry.Dropped) after served = absurd served

  pub IsServed-told : (state : State) (order : List Wish) (entries : List (List ℕ × Entry)) (after : State) → IsServed airport state order entries after → All IsTold entries
  IsServed-told state [] [] after served = All-nil IsTold
  IsServed-told state [] (told ∷ entries) after served = absurd served
  IsServed-told state (wish ∷ order) [] after served = absurd served
  IsServed-told state (wish ∷ order) (told ∷ entries) after served =
      All-cons IsTold told entries (told-served state wish told served.0 served.1) (IsServed-told served.0 order entries after served.2)

  pub IsServed-names : (state : State) (order : List Wish) (entries : List (List ℕ × Entry)) (after : State) → IsServed airport state order entries after → map (λ told. told.0) entries ≡ names_of order
  IsServed-names state [] [] after served = refl
  IsServed-names state [] (told ∷ entries) after served = absurd served
  IsServed-names state (wish ∷ order) [] after served = absurd served
  IsServed-names state (wish ∷ order) (told ∷ entries) after served =
      let named : told.0 ≡ wish.name = (served-by airport state wish told served.0 served.1).named in
      let later = IsServed-names served.0 order entries after served.2 in
      λ i. named i ∷ later i
