-- The exchange of neighbours ends at one order, and lowers the total.
use Rattle.std.proofs.Common.{◌≡◌, ℕ, zero, suc, ◌<◌, List, [], ◌∷◌, length, inl, inr, refl, sym, ◌∙◌, ap, subst, arith}
use Rattle.std.specs.Prelude.{ℤ, pos, ◌<ℤ◌, ◌≤ℤ◌, IsPermutation}
use Rattle.std.proofs.lemmas.Bool.{cases_lt}
use Rattle.std.proofs.lemmas.Int.{ints}
use Rattle.std.proofs.lemmas.List.Sorted.{IsPermutation-refl, IsPermutation-sym, IsPermutation-cons, IsPermutation-trans, IsPermutation-append_left, IsPermutation-append_comm}
use Rattle.taxi_base.specs.Airport.{Airport, IsWellFormed}
use Rattle.taxi_base.specs.State.{State}
use Rattle.taxi_text.specs.declared.command.BatchRequest.{BatchRequest}
use Rattle.replies.specs.declared.block.Block.{Block}
use Rattle.replies.specs.declared.block.Block.TheVariants.{Batch}
use Rattle.replies.specs.declared.entries.Entry.{Entry}
use Rattle.replies.specs.declared.wish.Wish.{Wish}
use Rattle.replies.specs.Batches.{wishes_of, IsServed, total_of, exchanged, ComesTo, IsCheaper, IsAsCheap, IsSettled, EndsAt, settled, exchanging, IsSequenced, IsNoDearer, IsBatched}
use Rattle.replies.proofs.RoutedLaws.{one-some, AreSame}
use Rattle.replies.proofs.ServedLaws.{IsServed-same}

-- ---- whole numbers

less-not_more : (a b : ℤ) → a <ℤ b → b ≤ℤ a → ⊥
less-not_more a b less more = omega (arith, ints)

as_cheap-through : (a b c : ℤ) → a ≤ℤ b → b <ℤ c → a ≤ℤ c
as_cheap-through a b c at_most less = omega (arith, ints)

pos-one : (m n : ℕ) → pos m ≡ pos n → m ≡ n
pos-one m n e = omega (arith, ints)

module _ (airport : Airport) (state : State) (well : IsWellFormed airport) (wishes : List Wish) where
  -- ---- an order comes to one total

  pub ComesTo-one : (order : List Wish) (total other : ℤ) → ComesTo airport state wishes order total → ComesTo airport state wishes order other → total ≡ other
  ComesTo-one order total other a b =
      let same = IsServed-same airport well state order a.entries b.entries a.after b.after a.served b.served in
      a.total_is ∙ ap (total_of wishes) same.0 ∙ sym b.total_is

  -- an order that is cheaper than another is not as dear
  cheaper-not_dearer : (order other : List Wish) → IsCheaper airport state wishes order other → IsAsCheap airport state wishes other order → ⊥
  cheaper-not_dearer order other cheaper as_cheap =
      let less = ComesTo-one order cheaper.less as_cheap.others cheaper.comes_to_less as_cheap.other_comes_to in
      let more = ComesTo-one other cheaper.more as_cheap.total cheaper.comes_to_more as_cheap.comes_to in
      less-not_more cheaper.less cheaper.more cheaper.cheaper (subst (λ n. cheaper.more ≤ℤ n) (sym less) (subst (λ n. n ≤ℤ as_cheap.others) (sym more) as_cheap.as_cheap))

  -- ---- the exchange of neighbours ends at one order

  settled-one : (order other : List Wish) → IsSettled airport state wishes order → EndsAt airport state wishes order other → order ≡ other
  settled-one order other none (settled _ _) = refl
  settled-one order other none (exchanging _ _ k within cheaper before later) = absurd (cheaper-not_dearer (exchanged k order) order cheaper (none k within))

  -- the first two neighbours whose exchange is cheaper are two
  same-place : (order : List Wish) (j k : ℕ) → IsCheaper airport state wishes (exchanged j order) order → IsCheaper airport state wishes (exchanged k order) order
      → ((i : ℕ) → i < j → IsAsCheap airport state wishes order (exchanged i order)) → ((i : ℕ) → i < k → IsAsCheap airport state wishes order (exchanged i order)) → j ≡ k
  same-place order j k one two none nor =
      elim (cases_lt j k) [
        | inl sooner ↦ absurd (cheaper-not_dearer (exchanged j order) order one (nor j sooner))
        | inr later ↦ elim (cases_lt k j) [
          | inl sooner ↦ absurd (cheaper-not_dearer (exchanged k order) order two (none k sooner))
          | inr same ↦ omega (arith, later, same)
        ]
      ]

  exchanging-one : (order last other : List Wish) (k : ℕ) → suc k < length order → IsCheaper airport state wishes (exchanged k order) order → ((i : ℕ) → i < k → IsAsCheap airport state wishes order (exchanged i order))
      → ((other : List Wish) → EndsAt airport state wishes (exchanged k order) other → last ≡ other) → EndsAt airport state wishes order other → last ≡ other
  exchanging-one order last other k some cheaper none one (settled _ settles) = absurd (cheaper-not_dearer (exchanged k order) order cheaper (settles k some))
  exchanging-one order last other k some cheaper none one (exchanging _ _ j within also before later) =
      one other (subst (λ i. EndsAt airport state wishes (exchanged i order) other) (sym (same-place order k j cheaper also none before)) later)

  pub EndsAt-one : (order last other : List Wish) → EndsAt airport state wishes order last → EndsAt airport state wishes order other → last ≡ other
  EndsAt-one order last other (settled _ settles) second = settled-one order other settles second
  EndsAt-one order last other (exchanging _ _ k within cheaper before later) second =
      exchanging-one order last other k within cheaper before (λ other ends. EndsAt-one (exchanged k order) last other later ends) second

-- ---- the exchange of neighbours leaves the same wishes, and lowers the total

pub exchanged-permutation : {X : Type 0} (k : ℕ) (items : List X) → IsPermutation items (exchanged k items)
exchanged-permutation zero [] = IsPermutation-refl []
exchanged-permutation zero (a ∷ []) = IsPermutation-refl (a ∷ [])
exchanged-permutation zero (a ∷ b ∷ later) = IsPermutation-append_left later (a ∷ b ∷ []) (b ∷ a ∷ []) (IsPermutation-append_comm (a ∷ []) (b ∷ []))
exchanged-permutation (suc k) [] = IsPermutation-refl []
exchanged-permutation (suc k) (a ∷ later) = IsPermutation-cons a later (exchanged k later) (exchanged-permutation k later)

module _ (airport : Airport) (state : State) (wishes : List Wish) where
  pub ends-permutation : (order last : List Wish) → EndsAt airport state wishes order last → IsPermutation order last
  ends-permutation order last (settled _ settles) = IsPermutation-refl order
  ends-permutation order last (exchanging _ _ k within cheaper before later) =
      IsPermutation-trans order (exchanged k order) last (exchanged-permutation k order) (ends-permutation (exchanged k order) last later)

  pub ends-settled : (order last : List Wish) → EndsAt airport state wishes order last → IsSettled airport state wishes last
  ends-settled order last (settled _ settles) = settles
  ends-settled order last (exchanging _ _ k within cheaper before later) = ends-settled (exchanged k order) last later

  -- where the last order comes to a total, so does the first, and it is no less
  pub ends-as_cheap : IsWellFormed airport → (order last : List Wish) (total : ℤ) → EndsAt airport state wishes order last → ComesTo airport state wishes last total → IsAsCheap airport state wishes last order
  ends-as_cheap well order last total (settled _ settles) comes = record { total = total; others = total; comes_to = comes; other_comes_to = comes; as_cheap = omega (arith, ints) }
  ends-as_cheap well order last total (exchanging _ _ k within cheaper before later) comes =
      let rest = ends-as_cheap well (exchanged k order) last total later comes in
      let same = ComesTo-one airport state well wishes (exchanged k order) rest.others cheaper.less rest.other_comes_to cheaper.comes_to_less in
      record {
        total = rest.total;
        others = cheaper.more;
        comes_to = rest.comes_to;
        other_comes_to = cheaper.comes_to_more;
        as_cheap = as_cheap-through rest.total cheaper.less cheaper.more (subst (λ n. rest.total ≤ℤ n) same rest.as_cheap) cheaper.cheaper;
      }

  pub sequenced-no_dearer : (total : ℕ) (entries : List (List ℕ × Entry)) (after : State) → IsWellFormed airport → IsSequenced airport state wishes total entries after
      → IsNoDearer airport state wishes total entries after
  sequenced-no_dearer total entries after well done = record {
    order = done.order;
    same_wishes = IsPermutation-sym wishes done.order (ends-permutation wishes done.order done.ends_at);
    served = done.served;
    total_is = done.total_is;
    as_cheap = ends-as_cheap well wishes done.order (pos total) done.ends_at (record { entries = entries; after = after; served = done.served; total_is = done.total_is });
    no_exchange = ends-settled wishes done.order done.ends_at;
  }

-- ---- a batch is answered in one way

pub IsSequenced-same : (airport : Airport) (state : State) (well : IsWellFormed airport) (wishes : List Wish) (total other : ℕ) (entries others : List (List ℕ × Entry)) (after afters : State)
    → IsSequenced airport state wishes total entries after → IsSequenced airport state wishes other others afters → (total ≡ other) × (entries ≡ others) × (after ≡ afters)
IsSequenced-same airport state well wishes total other entries others after afters a b =
    let orders : a.order ≡ b.order = EndsAt-one airport state well wishes wishes a.order b.order a.ends_at b.ends_at in
    let served : IsServed airport state a.order others afters = subst (λ (o : List Wish). IsServed airport state o others afters) (sym orders) b.served in
    let same = IsServed-same airport well state a.order entries others after afters a.served served in
    (pos-one total other (a.total_is ∙ ap (total_of wishes) same.0 ∙ sym b.total_is), same.0, same.1)

pub IsBatched-same : (airport : Airport) (state : State) → IsWellFormed airport → (requests : List BatchRequest) → {block : Block} → {after : State} → {other : Block} → {others : State}
    → IsBatched airport state requests block after → IsBatched airport state requests other others → AreSame block after other others
IsBatched-same airport state well requests {after = after} {others = others} a b =
    let wishes : a.wishes ≡ b.wishes = one-some (wishes_of airport requests) a.wishes b.wishes a.known b.known in
    let sequenced : IsSequenced airport state a.wishes b.total b.entries others = subst (λ (ws : List Wish). IsSequenced airport state ws b.total b.entries others) (sym wishes) b.sequenced in
    let same = IsSequenced-same airport state well a.wishes a.total b.total a.entries b.entries after others a.sequenced sequenced in
    (a.block_is ∙ (λ i. Batch (same.0 i) (same.1 i)) ∙ sym b.block_is, same.2)
