-- Flights in the order of their names: what a place among them finds, and what an edit there does.
use Rattle.std.proofs.Common.{◌≡◌, ◌≢◌, ℕ, List, IsTrue, IsFalse, Some, refl, ap, subst}
use Rattle.std.specs.Prelude.{bytes_eq}
use Rattle.std.specs.Ordering.{nat_cmp, is_lt}
use Rattle.std.specs.declared.cmp.Ordering.{Ordering}
use Rattle.std.specs.declared.cmp.Ordering.TheVariants.{Less, Equal, Greater}
use Rattle.std.specs.Cmp.Lexicographic.{slice_cmp, bytes_decides}
use Rattle.std.proofs.lemmas.Bool.{false_from_ne_true}
use Rattle.std.proofs.lemmas.Cmp.{nat_list_cmp_total, tied_itself}
use Rattle.taxi_base.specs.declared.answers.Flight.{Flight}
use Rattle.taxi_base.specs.State.{name_precedes, flight_named}
use Rattle.taxi_base.proofs.NamedLists as lists

abbrev pub Precedes : Flight → Flight → Type 0
Precedes f g = IsTrue (name_precedes f.name g.name)

-- ---- names

lt_is_less : (o : Ordering) → IsTrue (is_lt o) → o ≡ Less
lt_is_less Less lt = refl
lt_is_less Equal lt = cc
lt_is_less Greater lt = cc

-- no name stands before itself
pub precedes_itself : (a b : List ℕ) → IsTrue (name_precedes a b) → a ≢ b
precedes_itself a b before same =
    let tie : slice_cmp nat_cmp a b ≡ Equal = subst (λ x. slice_cmp nat_cmp a x ≡ Equal) same (tied_itself nat_list_cmp_total a) in
    let less : slice_cmp nat_cmp a b ≡ Less = lt_is_less (slice_cmp nat_cmp a b) before in
    cc

-- of two names only one stands before the other
pub precedes_back : (a b : List ℕ) → IsTrue (name_precedes a b) → IsFalse (name_precedes b a)
precedes_back a b before =
    false_from_ne_true _ (λ after. precedes_itself a a
    (ap is_lt (nat_list_cmp_total.trans a b a (lt_is_less (slice_cmp nat_cmp a b) before) (lt_is_less (slice_cmp nat_cmp b a) after))) refl)

pub differ : (a b : List ℕ) → a ≢ b → IsFalse (bytes_eq a b)
differ a b other = false_from_ne_true _ (λ e. other ((bytes_decides a b).0 e))

pub same : (a b : List ℕ) → a ≡ b → IsTrue (bytes_eq a b)
same a b e = (bytes_decides a b).1 e

-- ---- flights by their names

-- a flight that is found by a name has it
pub find-named : (name : List ℕ) (fs : List Flight) (x : Flight) → flight_named name fs ≡ Some x → x.name ≡ name
find-named name fs x found = lists.find-named (λ (f : Flight). f.name) name fs x found
