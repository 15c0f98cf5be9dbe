-- The entries that tell of wishes, each exactly once; and that each wish can be sought.
use Rattle.std.proofs.Common.{◌≡◌, ℕ, ◌+◌, ◌<◌, ◌≤◌, List, [], ◌∷◌, length, map, Option, Some, None, IsFalse, inl, inr, refl, ap, subst, arith}
use Rattle.std.specs.Prelude.{All, AllPairs, Contains, IsPermutation, IsSome, bytes_eq, option_map, option_and_then}
use Rattle.std.specs.Cmp.Lexicographic.{bytes_decides}
use Rattle.std.proofs.lemmas.Bool.{cases_Bool, both_ways}
use Rattle.std.proofs.lemmas.List.{length-map}
use Rattle.std.proofs.lemmas.List.Elements.{All-map, All-weaker, All-contains_itself}
use Rattle.std.proofs.lemmas.List.Sorted.{All-permutation, IsPermutation-sym, length_permutation}
use Rattle.taxi_base.specs.declared.numbers.Node.{Node}
use Rattle.taxi_base.specs.declared.answers.Request.{Request}
use Rattle.taxi_base.specs.declared.answers.Request.TheVariants as request
use Rattle.taxi_base.specs.Airport.{Airport, node_named}
use Rattle.taxi_base.specs.State.{State, has_holder, holder_count}
use Rattle.taxi_base.proofs.AirportLaws.{node_named-exists}
use Rattle.taxi_base.proofs.ListLaws.{Contains-cons_cases}
use Rattle.taxi_text.specs.declared.command.BatchRequest.{BatchRequest}
use Rattle.taxi_text.specs.declared.command.BatchRequest.TheVariants as requested
use Rattle.taxi_text.specs.declared.command.Command.TheVariants as command
use Rattle.replies.specs.declared.entries.Entry.{Entry}
use Rattle.replies.specs.declared.wish.Wish.{Wish}
use Rattle.replies.specs.Asked.{asked_in, IsAskedInGrammar}
use Rattle.replies.specs.Refusals.{first_refusal}
use Rattle.replies.specs.Batches.{names_of, wish_named, wish_of, wishes_of}
use Rattle.check_walks.specs.Told.{CanBeSought}
use Rattle.replies.proofs.BatchNames.{wish-is, wishes-all, batch-free}
use Rattle.certificate_check.proofs.EachNamed.{Differ, differ-moved, unmap-all, unmap-pairs}

-- ---- the entries

-- a wish is found by its name, or another of that name is
wish-there : (w : Wish) (wishes : List Wish) → Contains wishes w → IsSome (wish_named w.name wishes)
wish-there w [] there = absurd (let low : there.0 < 0 = there.1 in omega arith)
wish-there w (v ∷ wishes) there =
    elim (cases_Bool (bytes_eq v.name w.name)) [
      | inl same ↦ rw same refl
      | inr other ↦ rw other (elim (Contains-cons_cases v w wishes there) [
        | inl is ↦ absurd (both_ways _ other ((bytes_decides v.name w.name).1 (ap (λ (u : Wish). u.name) is)))
        | inr later ↦ wish-there w wishes later
      ])
    ]

module _ (wishes : List Wish) (entries : List (List ℕ × Entry)) (each : IsPermutation (map (λ told. told.0) entries) (names_of wishes)) where
  -- what holds of the name of each wish holds of each name that is told
  names-all : (P : List ℕ → Type 0) → All P (names_of wishes) → All (λ told. P told.0) entries
  names-all P all =
      unmap-all P (λ (t : List ℕ × Entry). t.0) entries (All-permutation P (names_of wishes) (map (λ told. told.0) entries) (IsPermutation-sym _ _ each) all)

  pub entries-named : All (λ told. IsSome (wish_named told.0 wishes)) entries
  entries-named =
      names-all (λ name. IsSome (wish_named name wishes)) (All-map (λ name. IsSome (wish_named name wishes)) (λ (w : Wish). w.name) wishes
      (All-weaker (Contains wishes) (λ w. IsSome (wish_named w.name wishes)) (λ w there. wish-there w wishes there) wishes (All-contains_itself wishes)))

  pub entries-new : (state : State) → All (λ name. IsFalse (has_holder name state)) (names_of wishes) → All (λ told. IsFalse (has_holder told.0 state)) entries
  entries-new state new = names-all (λ name. IsFalse (has_holder name state)) new

  pub entries-differ : AllPairs Differ (names_of wishes) → AllPairs (λ a b. IsFalse (bytes_eq b.0 a.0)) entries
  entries-differ differ = unmap-pairs Differ (λ (t : List ℕ × Entry). t.0) entries (differ-moved (map (λ told. told.0) entries) (names_of wishes) each differ)

  many_told : length (map (λ (t : List ℕ × Entry). t.0) entries) ≡ length entries
  many_told = simp length-map refl

  many_names : length (names_of wishes) ≡ length wishes
  many_names = simp length-map refl

  pub entries-many : length entries ≡ length wishes
  entries-many = omega (arith, length_permutation _ _ each, many_told, many_names)

-- ---- the wishes of words can be sought

ends-known : (o p : Option Node) (f : Node → Node → Request) (r : Request) → option_and_then (λ start. option_map (λ target. f start target) p) o ≡ Some r
    → (start : Node) × (target : Node) × (o ≡ Some start) × (p ≡ Some target) × (f start target ≡ r)
ends-known None p f r is = absurd (cc is)
ends-known (Some start) None f r is = absurd (cc is)
ends-known (Some start) (Some target) f r is = (start, target, refl, refl, one is) where
  one : {a b : Request} → Some a ≡ Some b → a ≡ b
  one e = cc e

module _ (airport : Airport) where
  wish-sought : (r : BatchRequest) (w : Wish) → wish_of airport r ≡ Some w → IsAskedInGrammar (asked_in r) → CanBeSought airport w.request
  wish-sought (requested.Arrival asked) w is grammar =
      let ends = ends-known (node_named airport asked.from) (node_named airport asked.to) (λ start target. request.Arrival start target asked.time asked.slack) w.request (wish-is airport (requested.Arrival asked) w is).1 in
      subst (CanBeSought airport) ends.4 (node_named-exists airport asked.from ends.0 ends.2, (grammar.1, grammar.2))
  wish-sought (requested.Departure asked) w is grammar =
      let ends = ends-known (node_named airport asked.from) (node_named airport asked.to) (λ start target. request.Departure start target asked.time asked.slack) w.request (wish-is airport (requested.Departure asked) w is).1 in
      subst (CanBeSought airport) ends.4 (node_named-exists airport asked.to ends.1 ends.3, (grammar.1, grammar.2))

  pub wishes-sought : (requests : List BatchRequest) (wishes : List Wish) → wishes_of airport requests ≡ Some wishes → All (λ request. IsAskedInGrammar (asked_in request)) requests
      → All (λ wish. CanBeSought airport wish.request) wishes
  wishes-sought requests wishes known grammar =
      wishes-all airport (λ r. IsAskedInGrammar (asked_in r)) (λ w. CanBeSought airport w.request) wish-sought requests wishes known grammar

-- there is room for all of them
pub wishes-room : (airport : Airport) (state : State) (requests : List BatchRequest) (wishes : List Wish) → wishes_of airport requests ≡ Some wishes
    → first_refusal airport state (command.Batch requests) ≡ None → holder_count state + length wishes ≤ 4096
wishes-room airport state requests wishes known none =
    let names : length (names_of wishes) ≡ length wishes = simp length-map refl in
    omega (arith, (batch-free airport state requests wishes known none).2)
