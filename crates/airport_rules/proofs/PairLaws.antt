-- Pairs of numbers in order, as a set keeps them, and the pairs of arcs that they are.
use Rattle.std.proofs.Common.{◌≡◌, ◌<◌, ◌+◌, ◌*◌, ℕ, true, false, List, [], ◌∷◌, ◌++◌, map, refl, sym, ap, arith, ◌∙◌}
use Rattle.std.proofs.lemmas.Bool.{or_parts}
use Rattle.std.specs.Prelude.{◌==◌, ◌&&◌, ◌||◌, nat_lt, nat_eq}
use Rattle.std.specs.List.{list_any}
use Rattle.std.specs.Ordering.{is_eq, is_lt, match_ordering}
use Rattle.std.specs.BTreeMap.{is_at}
use Rattle.std.specs.BTreeSet.{insert_key}
use Rattle.std.specs.declared.cmp.Ordering.{Ordering}
use Rattle.std.specs.declared.cmp.Ordering.TheVariants.{Less, Equal, Greater}
use Rattle.std.proofs.lemmas.Bool.Decides.{nat_tests}
use Rattle.taxi_base.specs.Airport.{pair_precedes, is_forbidden}
use Rattle.airport_rules.specs.Rules.{with_pair}
use Rattle.airport_rules.specs.Indexed.{pair_cmp, arcs_of_pair}

pub pair-equal : (x y a b : ℕ) → is_eq (pair_cmp (x, y) (a, b)) ≡ (a == x && b == y)
pair-equal x y a b = grind (arith, nat_tests)

pub pair-less : (x y a b : ℕ) → is_lt (pair_cmp (x, y) (a, b)) ≡ (nat_lt x a || (x == a && nat_lt y b))
pair-less x y a b = grind (arith, nat_tests)

pub contains-arcs : (x y : ℕ) (keys : List (ℕ × ℕ)) → list_any (is_at (pair_cmp (x, y))) keys ≡ is_forbidden (map arcs_of_pair keys) (record { 0 = x }) (record { 0 = y })
contains-arcs x y [] = refl
contains-arcs x y (k ∷ keys) = rw (pair-equal x y k.0 k.1, contains-arcs x y keys) refl

insert-arcs_by : (x y : ℕ) (k : ℕ × ℕ) (keys : List (ℕ × ℕ)) (o : Ordering) → pair_cmp (x, y) k ≡ o → is_eq o ≡ false
    → map arcs_of_pair (insert_key pair_cmp keys (x, y)) ≡ with_pair (arcs_of_pair (x, y)) (map arcs_of_pair keys)
    → map arcs_of_pair (match_ordering o ((x, y) ∷ k ∷ keys) (k ∷ keys) (k ∷ insert_key pair_cmp keys (x, y))) ≡ with_pair (arcs_of_pair (x, y)) (arcs_of_pair k ∷ map arcs_of_pair keys)
insert-arcs_by x y k keys Less e differ rest =
    let less : pair_precedes (arcs_of_pair (x, y)) (arcs_of_pair k) ≡ true = sym (pair-less x y k.0 k.1) ∙ ap is_lt e in rw less refl
insert-arcs_by x y k keys Equal e differ rest = absurd (cc differ)
insert-arcs_by x y k keys Greater e differ rest =
    let less : pair_precedes (arcs_of_pair (x, y)) (arcs_of_pair k) ≡ false = sym (pair-less x y k.0 k.1) ∙ ap is_lt e in
    rw less (ap (λ zs. arcs_of_pair k ∷ zs) rest)

-- a pair that is not among them goes to its place
pub insert-arcs : (x y : ℕ) (keys : List (ℕ × ℕ)) → is_forbidden (map arcs_of_pair keys) (record { 0 = x }) (record { 0 = y }) ≡ false
    → map arcs_of_pair (insert_key pair_cmp keys (x, y)) ≡ with_pair (record { 0 = x }, record { 0 = y }) (map arcs_of_pair keys)
insert-arcs x y [] none = refl
insert-arcs x y (k ∷ keys) none =
    let parts = or_parts (k.0 == x && k.1 == y) (is_forbidden (map arcs_of_pair keys) (record { 0 = x }) (record { 0 = y })) none in
    insert-arcs_by x y k keys (pair_cmp (x, y) k) refl (pair-equal x y k.0 k.1 ∙ parts.0) (insert-arcs x y keys parts.1)
