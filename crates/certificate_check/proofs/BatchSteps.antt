-- The entries of a batch, checked one after the other: what holds of the first, and what of the later ones after it.
use Rattle.std.proofs.Common.{◌≡◌, ◌∙◌, ℕ, false, List, [], ◌∷◌, Some, IsFalse, refl, sym, ap, subst, arith}
use Rattle.std.specs.Prelude.{All, bytes_eq, is_none, IsSome}
use Rattle.std.proofs.lemmas.List.Elements.{All-head, All-tail, All-cons, All-nil}
use Rattle.taxi_base.specs.Airport.{Airport}
use Rattle.taxi_base.specs.State.{State, has_holder, holder_count}
use Rattle.taxi_base.proofs.ListLaws.{AllPairs-first, AllPairs-rest}
use Rattle.taxi_base.proofs.NameLaws.{differ-turned}
use Rattle.taxi_base.proofs.NamedLists.{find-named}
use Rattle.replies.specs.declared.entries.Entry.{Entry}
use Rattle.replies.specs.declared.entries.Entry.TheVariants as entry
use Rattle.replies.specs.declared.wish.Wish.{Wish}
use Rattle.replies.specs.declared.block.Block.{Block}
use Rattle.replies.specs.declared.block.Block.TheVariants.{Route, NoRoute}
use Rattle.replies.specs.Printable.{IsTold}
use Rattle.replies.specs.Batches.{wish_named}
use Rattle.replies.specs.Sought.{sought_wish}
use Rattle.replies.specs.Turns.{told_of, after_told}
use Rattle.certificate_check.specs.Batch.{without_all, CanBeChecked}
use Rattle.certificate_check.proofs.BatchState.{after-holder, after-count, after-others}

pub block-told : (name : List ℕ) (e : Entry) → IsTold (name, e) → (block : Block) × (told_of (name, e) ≡ block ∷ [])
block-told name (entry.Route second steps labels) told = (Route name second steps labels, refl)
block-told name (entry.NoRoute labels) told = (NoRoute labels, refl)
block-told name entry.Dropped told = absurd told

module _ (wishes : List Wish) (state : State) (name : List ℕ) (e : Entry) (rest : List (List ℕ × Entry)) (can : CanBeChecked wishes state ((name, e) ∷ rest)) where
  pub first-told : IsTold (name, e)
  first-told = All-head IsTold (name, e) rest can.told

  pub first-named : IsSome (wish_named name wishes)
  first-named = All-head (λ told. IsSome (wish_named told.0 wishes)) (name, e) rest can.named

  pub first-new : IsFalse (has_holder name state)
  first-new = All-head (λ told. IsFalse (has_holder told.0 state)) (name, e) rest can.new

  module _ (airport : Airport) (wish : Wish) (found : wish_named name wishes ≡ Some wish) (block : Block) (new : State) (is : new ≡ after_told (sought_wish airport state wish) block) where
    own : wish.name ≡ name
    own = find-named (λ (w : Wish). w.name) name wishes wish found

    later-new : (entries : List (List ℕ × Entry)) → All (λ told. IsFalse (has_holder told.0 state)) entries → All (λ b. IsFalse (bytes_eq b.0 name)) entries → All (λ told. IsFalse (has_holder told.0 new)) entries
    later-new [] none apart = All-nil (λ told. IsFalse (has_holder told.0 new))
    later-new (t ∷ entries) none apart =
        All-cons (λ told. IsFalse (has_holder told.0 new)) t entries
        (ap (has_holder t.0) is
        ∙ after-holder airport state wish block t.0 (subst (λ n. IsFalse (bytes_eq n t.0)) (sym own) (differ-turned t.0 name (All-head (λ b. IsFalse (bytes_eq b.0 name)) t entries apart)))
        ∙ All-head (λ told. IsFalse (has_holder told.0 state)) t entries none)
        (later-new entries (All-tail (λ told. IsFalse (has_holder told.0 state)) t entries none) (All-tail (λ b. IsFalse (bytes_eq b.0 name)) t entries apart))

    -- the later ones can be checked then
    pub rest-can : CanBeChecked wishes new rest
    rest-can = record {
      told = All-tail IsTold (name, e) rest can.told;
      named = All-tail (λ told. IsSome (wish_named told.0 wishes)) (name, e) rest can.named;
      new = later-new rest (All-tail (λ told. IsFalse (has_holder told.0 state)) (name, e) rest can.new) (AllPairs-first (λ a b. IsFalse (bytes_eq b.0 a.0)) (name, e) rest can.differ);
      differ = AllPairs-rest (λ a b. IsFalse (bytes_eq b.0 a.0)) (name, e) rest can.differ;
      fit = (let count = ap holder_count is in omega (arith, can.fit, count, after-count airport state wish block));
    }

    -- and no flight but those of the wishes comes in
    pub first-others : without_all wishes new ≡ without_all wishes state
    first-others = ap (without_all wishes) is ∙ after-others airport state wish wishes block (subst (λ n. is_none (wish_named n wishes) ≡ false) (sym own) (ap is_none found))
