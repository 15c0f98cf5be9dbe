-- The numbers of names compare as the names do; and what they are where a flight comes or goes.
use Rattle.std.proofs.Common.{◌≡◌, ◌≢◌, ℕ, zero, suc, ◌+◌, ◌-◌, ◌*◌, ◌<◌, ◌≤◌, List, [], ◌∷◌, true, length, get_or, drop, Some, None, refl, sym, ap, subst, ◌∙◌, arith, ⊎_elim}
use Rattle.std.specs.Prelude.{IsTrue, slice_set}
use Rattle.std.specs.List.{list_all}
use Rattle.std.specs.Ordering.{nat_cmp, ordering_then}
use Rattle.std.specs.Cmp.{nat_cmp_is}
use Rattle.std.specs.Cmp.Lexicographic.{slice_cmp}
use Rattle.std.specs.declared.cmp.Ordering.{Ordering}
use Rattle.std.specs.declared.cmp.Ordering.TheVariants.{Less, Equal, Greater}
use Rattle.std.proofs.lemmas.Bool.{cases_order, and_parts}
use Rattle.std.proofs.lemmas.Cmp.{ranked}
use Rattle.std.proofs.lemmas.Bool.Decides.{nat_tests}
use Rattle.std.proofs.lemmas.List.{drop-drop, get_or-drop, get_or-set_same, get_or-set_other}
use Rattle.slab.specs.Slab.{Slab, get, Updates}
use Rattle.taxi_base.specs.declared.answers.Flight.{Flight}
use Rattle.taxi_base.specs.Words.{is_name, is_name_byte}
use Rattle.taxi_base.proofs.NameDigits.{byte-range, name-bytes}
use Rattle.holder_lists.specs.NameOrder.{order_after, order_of, order_at, AreNumbered}

name-short : (name : List ℕ) → IsTrue (is_name name) → length name ≤ 16
name-short name e = grind (arith, nat_tests)

-- ---- numbers in the order of names

-- whatever digits come behind, the lower number stays lower
below : (k n m : ℕ) (xs ys : List ℕ) → list_all is_name_byte xs ≡ true → n < m → order_after k n xs < order_after k m ys
below zero n m xs ys each low = low
below (suc k) n m [] [] each low = below k (n * 256) (m * 256) [] [] each (omega arith)
below (suc k) n m [] (y ∷ ys) each low = below k (n * 256) (m * 256 + y) [] ys refl (omega arith)
below (suc k) n m (x ∷ xs) [] each low =
    let both = and_parts (is_name_byte x) (list_all is_name_byte xs) each in
    let range = byte-range x both.0 in
    below k (n * 256 + x) (m * 256) xs [] both.1 (omega (arith, range))
below (suc k) n m (x ∷ xs) (y ∷ ys) each low =
    let both = and_parts (is_name_byte x) (list_all is_name_byte xs) each in
    let range = byte-range x both.0 in
    below k (n * 256 + x) (m * 256 + y) xs ys both.1 (omega (arith, range))

compared : (k n : ℕ) (xs ys : List ℕ) → length xs ≤ k → length ys ≤ k → list_all is_name_byte xs ≡ true → list_all is_name_byte ys ≡ true
    → nat_cmp (order_after k n xs) (order_after k n ys) ≡ slice_cmp nat_cmp xs ys
compared zero n [] [] short_x short_y each_x each_y = sym (nat_cmp_is n n Equal refl)
compared zero n [] (y ∷ ys) short_x short_y each_x each_y = absurd (omega arith)
compared zero n (x ∷ xs) ys short_x short_y each_x each_y = absurd (omega arith)
compared (suc k) n [] [] short_x short_y each_x each_y = sym (nat_cmp_is (order_after k (n * 256) []) (order_after k (n * 256) []) Equal refl)
compared (suc k) n [] (y ∷ ys) short_x short_y each_x each_y =
    let range = byte-range y (and_parts (is_name_byte y) (list_all is_name_byte ys) each_y).0 in
    sym (nat_cmp_is (order_after k (n * 256) []) (order_after k (n * 256 + y) ys) Less (below k (n * 256) (n * 256 + y) [] ys refl (omega (arith, range))))
compared (suc k) n (x ∷ xs) [] short_x short_y each_x each_y =
    let range = byte-range x (and_parts (is_name_byte x) (list_all is_name_byte xs) each_x).0 in
    sym (nat_cmp_is (order_after k (n * 256 + x) xs) (order_after k (n * 256) []) Greater (below k (n * 256) (n * 256 + x) [] xs refl (omega (arith, range))))
compared (suc k) n (x ∷ xs) (y ∷ ys) short_x short_y each_x each_y = by_first (compared k (n * 256 + y) xs ys (omega arith) (omega arith) all_x all_y) (nat_cmp x y) refl where
  all_x : list_all is_name_byte xs ≡ true
  all_x = (and_parts (is_name_byte x) (list_all is_name_byte xs) each_x).1

  all_y : list_all is_name_byte ys ≡ true
  all_y = (and_parts (is_name_byte y) (list_all is_name_byte ys) each_y).1

  by_first : nat_cmp (order_after k (n * 256 + y) xs) (order_after k (n * 256 + y) ys) ≡ slice_cmp nat_cmp xs ys → (r : Ordering) → r ≡ nat_cmp x y → nat_cmp (order_after k (n * 256 + x) xs) (order_after k (n * 256 + y) ys) ≡ ordering_then (nat_cmp x y) (slice_cmp nat_cmp xs ys)
  by_first rest Less e =
      let low : x < y = ranked x y Less e in
      rw (sym e) (sym (nat_cmp_is (order_after k (n * 256 + x) xs) (order_after k (n * 256 + y) ys) Less (below k (n * 256 + x) (n * 256 + y) xs ys all_x (omega arith))))
  by_first rest Equal e =
      let same : x ≡ y = ranked x y Equal e in
      rw (sym e) (rw same rest)
  by_first rest Greater e =
      let high : y < x = ranked x y Greater e in
      rw (sym e) (sym (nat_cmp_is (order_after k (n * 256 + x) xs) (order_after k (n * 256 + y) ys) Greater (below k (n * 256 + y) (n * 256 + x) ys xs all_y (omega arith))))

pub order-compares : (own other : List ℕ) → IsTrue (is_name own) → IsTrue (is_name other) → nat_cmp (order_of own) (order_of other) ≡ slice_cmp nat_cmp own other
unfolding order_of
order-compares own other is_own is_other = compared 16 0 own other (name-short own is_own) (name-short other is_other) (name-bytes own is_own) (name-bytes other is_other)

-- ---- a number that is made byte by byte

one-more : (places n : ℕ) (xs : List ℕ) → order_after (suc places) n xs ≡ order_after places (n * 256 + get_or xs 0 0) (drop 1 xs)
one-more places n [] = ap (λ number. order_after places number []) (omega arith)
one-more places n (x ∷ xs) = refl

-- the byte at a place is the next digit
pub next-digit : (place n : ℕ) (name : List ℕ) → place < 16
    → order_after (16 - place) n (drop place name) ≡ order_after (16 - (place + 1)) (n * 256 + get_or name place 0) (drop (place + 1) name)
next-digit place n name low =
    let left : 16 - place ≡ suc (16 - (place + 1)) = omega arith in
    let digit : get_or (drop place name) 0 0 ≡ get_or name place 0 = get_or-drop place name 0 0 ∙ ap (λ k. get_or name k 0) (omega arith) in
    let rest : drop 1 (drop place name) ≡ drop (place + 1) name = drop-drop 1 place name in
    ap (λ places. order_after places n (drop place name)) left ∙ one-more (16 - (place + 1)) n (drop place name)
    ∙ ap (λ d. order_after (16 - (place + 1)) (n * 256 + d) (drop 1 (drop place name))) digit
    ∙ ap (λ (ds : List ℕ). order_after (16 - (place + 1)) (n * 256 + get_or name place 0) ds) rest

-- ---- the numbers of flights

-- at the key of a flight a name compares with its number as with its name
pub order-agrees : (s : Slab Flight) (orders : List ℕ) (name : List ℕ) → AreNumbered s orders → IsTrue (is_name name) → (key : ℕ) (f : Flight) → get s key ≡ Some f
    → order_at orders (order_of name) key ≡ slice_cmp nat_cmp f.name name
order-agrees s orders name numbered is key f here =
    let own = numbered key f here in
    rw own.0 (order-compares f.name name own.1 is)

pub numbered-insert : (old new : Slab Flight) (orders : List ℕ) (key : ℕ) (x : Flight) → AreNumbered old orders → Updates old new key (Some x) → key < length orders
    → IsTrue (is_name x.name) → AreNumbered new (slice_set orders key (order_of x.name))
numbered-insert old new orders key x numbered u low is other f here = ⊎_elim same (λ o. apart (⊎_elim (λ l e. omega (arith, l, e)) (λ l e. omega (arith, l, e)) o)) (cases_order other key) where
  same : other ≡ key → (get_or (slice_set orders key (order_of x.name)) other 0 ≡ order_of f.name) × IsTrue (is_name f.name)
  same e =
      let found : get new key ≡ Some f = subst (λ k. get new k ≡ Some f) e here in
      let one : x ≡ f = cc in
      rw e (subst (λ (g : Flight). (get_or (slice_set orders key (order_of x.name)) key 0 ≡ order_of g.name) × IsTrue (is_name g.name)) one
      (get_or-set_same orders key (order_of x.name) 0 low, is))

  apart : other ≢ key → (get_or (slice_set orders key (order_of x.name)) other 0 ≡ order_of f.name) × IsTrue (is_name f.name)
  apart differ =
      let own = numbered other f (sym (u.others other differ) ∙ here) in
      (get_or-set_other orders key other (order_of x.name) 0 differ ∙ own.0, own.1)

pub numbered-remove : (old new : Slab Flight) (orders : List ℕ) (key : ℕ) → AreNumbered old orders → Updates old new key None → AreNumbered new orders
numbered-remove old new orders key numbered u other f here = numbered other f (sym (u.others other differ) ∙ here) where
  differ : other ≢ key
  differ e =
      let found : get new key ≡ Some f = subst (λ k. get new k ≡ Some f) e here in
      absurd (cc (found, u.changed))
