-- The holder that is told for a second is the first by name of all that hold a conflicting segment at it.
use Rattle.std.proofs.Common.{◌≡◌, ℕ, Bool, List, [], ◌∷◌, IsTrue, IsFalse, Option, Some, None, refl, sym, subst, arith, inl, inr, ◌⊎◌, ◌↔◌}
use Rattle.std.specs.Prelude.{AllPairs, Contains, option_map, bytes_eq}
use Rattle.std.specs.List.{find, list_any}
use Rattle.std.proofs.lemmas.Bool.{cases_Bool, both_ways, false_from_ne_true}
use Rattle.std.proofs.lemmas.List.Elements.{All-contains}
use Rattle.std.specs.Cmp.Lexicographic.{bytes_decides}
use Rattle.taxi_base.specs.declared.numbers.Segment.{Segment}
use Rattle.taxi_base.specs.declared.answers.Flight.{Flight}
use Rattle.taxi_base.specs.declared.answers.Party.{Party}
use Rattle.taxi_base.specs.Airport.{Airport}
use Rattle.taxi_base.specs.Windows.{blocks}
use Rattle.taxi_base.specs.State.{State, IsInOrder, name_precedes, flight_holds, party_hold}
use Rattle.taxi_base.specs.Faults.{first_name, IsFirstOf, party_at, flight_at, holder_at, IsHolderAt, IsFirstHolder}
use Rattle.taxi_base.proofs.ListLaws.{Contains-first, Contains-rest, Contains-cons_cases, AllPairs-first, AllPairs-rest}
use Rattle.taxi_base.proofs.NameLaws.{name_precedes-trans, name_precedes-turned, name_precedes-one_way, name_precedes-not_itself}

-- the same names, of another kind
pub IsFirstOf-same : (Has Too : List ℕ → Type 0) → ((name : List ℕ) → Has name → Too name) → ((name : List ℕ) → Too name → Has name)
    → (o : Option (List ℕ)) → IsFirstOf Has o → IsFirstOf Too o
IsFirstOf-same Has Too into back None none = λ name h. none name (back name h)
IsFirstOf-same Has Too into back (Some name) first = (into name first.0, λ other h. first.1 other (back other h))

-- of two names, neither of which has one of the kind before it
not_before : (a b m : List ℕ) → IsFalse (name_precedes b a) → IsFalse (name_precedes m b) → IsFalse (name_precedes m a)
not_before a b m ba mb = false_from_ne_true _ (λ ma.
    elim (cases_Bool (bytes_eq b m)) [
      | inl e ↦ both_ways _ ba (subst (λ n. IsTrue (name_precedes n a)) (sym ((bytes_decides b m).0 e)) ma)
      | inr differ ↦ both_ways _ ba (name_precedes-trans b m a (name_precedes-turned m b mb differ) ma)
    ])

-- the first of the names of two kinds
pub first_name-first : (Has Too : List ℕ → Type 0) (a b : Option (List ℕ)) → IsFirstOf Has a → IsFirstOf Too b → IsFirstOf (λ name. Has name ⊎ Too name) (first_name a b)
first_name-first Has Too None b none first =
    IsFirstOf-same Too (λ name. Has name ⊎ Too name) (λ name h. inr h) (λ name h. elim h [ inl one ↦ absurd (none name one) | inr other ↦ other ]) b first
first_name-first Has Too (Some a) None first none =
    IsFirstOf-same Has (λ name. Has name ⊎ Too name) (λ name h. inl h) (λ name h. elim h [ inl one ↦ one | inr other ↦ absurd (none name other) ]) (Some a) first
first_name-first Has Too (Some a) (Some b) is_a is_b =
    elim (cases_Bool (name_precedes b a)) [
      | inl before ↦ rw before (
        inr is_b.0,
        λ m h. elim h [
          | inl one ↦ not_before b a m (name_precedes-one_way b a before) (is_a.1 m one)
          | inr other ↦ is_b.1 m other
        ],
      )
      | inr after ↦ rw after (
        inl is_a.0,
        λ m h. elim h [
          | inl one ↦ is_a.1 m one
          | inr other ↦ not_before a b m after (is_b.1 m other)
        ],
      )
    ]

-- in a list by rising names the first that passes a test has the first name of all that do
module _ {X : Type 0} (name_of : X → List ℕ) (p : X → Bool) where
  abbrev IsNameOf : List X → List ℕ → Type 0
  IsNameOf xs name = (x : X) × Contains xs x × (name_of x ≡ name) × IsTrue (p x)

  find-first : (xs : List X) → AllPairs (λ x y. IsTrue (name_precedes (name_of x) (name_of y))) xs → IsFirstOf (IsNameOf xs) (option_map name_of (find p xs))
  find-first [] ordered = λ name h. absurd (omega (arith, h.1.1))
  find-first (x ∷ xs) ordered =
      elim (cases_Bool (p x)) [
        | inl passes ↦ rw passes ((x, Contains-first x xs, refl, passes), λ other h. subst (λ n. IsFalse (name_precedes n (name_of x))) h.2 (first h.0 h.1))
        | inr fails ↦ rw fails (IsFirstOf-same (IsNameOf xs) (IsNameOf (x ∷ xs)) (λ name h. (h.0, Contains-rest x h.0 xs h.1, h.2, h.3)) (λ name h. later fails name h)
            (option_map name_of (find p xs)) (find-first xs (AllPairs-rest (λ x y. IsTrue (name_precedes (name_of x) (name_of y))) x xs ordered)))
      ]
    where
      first : (y : X) → Contains (x ∷ xs) y → IsFalse (name_precedes (name_of y) (name_of x))
      first y h = elim (Contains-cons_cases x y xs h) [
        | inl e ↦ subst (λ z. IsFalse (name_precedes (name_of z) (name_of x))) e (name_precedes-not_itself (name_of x))
        | inr rest ↦ name_precedes-one_way (name_of x) (name_of y)
            (All-contains (λ z. IsTrue (name_precedes (name_of x) (name_of z))) xs y (AllPairs-first (λ x y. IsTrue (name_precedes (name_of x) (name_of y))) x xs ordered) rest)
      ]

      later : IsFalse (p x) → (name : List ℕ) → IsNameOf (x ∷ xs) name → IsNameOf xs name
      later fails name h = elim (Contains-cons_cases x h.0 xs h.1) [
        | inl e ↦ absurd (both_ways _ fails (subst (λ z. IsTrue (p z)) (sym e) h.3))
        | inr rest ↦ (h.0, rest, h.2, h.3)
      ]

module _ (airport : Airport) (state : State) (s : Segment) (t : ℕ) (ordered : IsInOrder state) where
  holder_at-first : IsFirstOf (IsHolderAt airport state s t) (holder_at airport state s t)
  holder_at-first =
      first_name-first
      (IsNameOf (λ p. p.name) (λ (p : Party). blocks airport.conflicts s t (party_hold p)) state.parties)
      (IsNameOf (λ f. f.name) (λ (f : Flight). list_any (blocks airport.conflicts s t) (flight_holds airport f)) state.flights)
      (party_at airport state s t) (flight_at airport state s t)
      (find-first (λ p. p.name) (λ (p : Party). blocks airport.conflicts s t (party_hold p)) state.parties ordered.1)
      (find-first (λ f. f.name) (λ (f : Flight). list_any (blocks airport.conflicts s t) (flight_holds airport f)) state.flights ordered.0)

  -- two first names are one
  one_first : (a b : List ℕ) → IsFalse (name_precedes a b) → IsFalse (name_precedes b a) → a ≡ b
  one_first a b ab ba = elim (cases_Bool (bytes_eq a b)) [
    | inl e ↦ (bytes_decides a b).0 e
    | inr differ ↦ absurd (both_ways _ ab (name_precedes-turned b a ba differ))
  ]

  pub holder_at-told : (name : List ℕ) → (holder_at airport state s t ≡ Some name) ↔ IsFirstHolder airport state s t name
  holder_at-told name = (
    λ e. let first : IsFirstOf (IsHolderAt airport state s t) (Some name) = subst (IsFirstOf (IsHolderAt airport state s t)) e holder_at-first in
        record { one = first.0; first = first.1 },
    λ is. back is (holder_at airport state s t) refl holder_at-first,
  ) where
    back : IsFirstHolder airport state s t name → (o : Option (List ℕ)) → holder_at airport state s t ≡ o → IsFirstOf (IsHolderAt airport state s t) o
        → holder_at airport state s t ≡ Some name
    back is None e none = absurd (none name is.one)
    back is (Some other) e first = subst (λ n. holder_at airport state s t ≡ Some n) (one_first other name (is.first other first.0) (first.1 name is.one)) e

  pub holder_at-none : (holder_at airport state s t ≡ None) ↔ ((name : List ℕ) → IsHolderAt airport state s t name → ⊥)
  holder_at-none = (
    λ e. subst (IsFirstOf (IsHolderAt airport state s t)) e holder_at-first,
    λ none. back none (holder_at airport state s t) refl holder_at-first,
  ) where
    back : ((name : List ℕ) → IsHolderAt airport state s t name → ⊥) → (o : Option (List ℕ)) → holder_at airport state s t ≡ o → IsFirstOf (IsHolderAt airport state s t) o
        → holder_at airport state s t ≡ None
    back none None e first = e
    back none (Some name) e first = absurd (none name first.0)
