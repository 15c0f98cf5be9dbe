-- What a read leaves a reader to read.
use Rattle.std.proofs.Common.{◌≡◌, ◌<◌, ◌≤◌, ◌+◌, ◌∷◌, ◌∙◌, [], ℕ, zero, suc, List, Option, Some, None, refl, ap, arith, length, true, false, inl, add-one}
use Rattle.std.specs.Borrow.{Bor}
use Rattle.csv.specs.Machine.{next_record, Read, ends_at_end}
use Rattle.csv.specs.Reading.{records_from, records_next, default_config, ReadsNext, NextIs, ReadRecord, pending_of, took_first, strip_bom, is_flexible, ExplainsRead}
use Rattle.csv.specs.declared.reader.Reader.{Reader}
use Rattle.csv.specs.declared.parser.Config.{Config}
use Rattle.csv.specs.declared.parser.State.{State}
use Rattle.csv.specs.declared.parser.State.TheVariants as st
use Rattle.airport_file.specs.Rows.{bytes_left, rows_of, rows_left, IsReading, IsOfMemory}
use Rattle.csv.specs.declared.error.ErrorKind.{ErrorKind}
use Rattle.csv.specs.declared.error.ErrorKind.TheVariants as kind
use Rattle.airport_file.proofs.CsvRecords.{rest-lt, good-after, no-record, length-strip}

-- a record leaves fewer bytes
rest-fewer : (cfg : Config) (s : State) (xs : List ℕ) (q : Read) → ends_at_end s ≡ false → next_record cfg s [] [] xs ≡ Some q → length q.2 < length xs
rest-fewer cfg s [] q good e = absurd (no-record cfg s q good e)
rest-fewer cfg s (c ∷ rest) q good e = let less = rest-lt cfg s [] [] c rest q e in omega (arith, less)

-- more turns than bytes give the same records
same-turns : (cfg : Config) (n m : ℕ) (s : State) (xs : List ℕ) → ends_at_end s ≡ false → length xs < n → length xs < m → records_from cfg n s xs ≡ records_from cfg m s xs
unfolding records_from
same-turns cfg zero m s xs good few low = absurd (omega (arith, few))
same-turns cfg (suc n) zero s xs good few low = absurd (omega (arith, low))
same-turns cfg (suc n) (suc m) s xs good few low =
    go (next_record cfg s [] [] xs) refl (λ q is.
    let fewer = rest-fewer cfg s xs q good is in
    same-turns cfg n m q.1 q.2 (good-after cfg s [] [] xs q is) (omega (arith, few, fewer)) (omega (arith, low, fewer)))
  where
    go : (o : Option Read) → next_record cfg s [] [] xs ≡ o → ((q : Read) → next_record cfg s [] [] xs ≡ Some q → records_from cfg n q.1 q.2 ≡ records_from cfg m q.1 q.2)
        → records_next (records_from cfg n) o ≡ records_next (records_from cfg m) o
    go None is more = refl
    go (Some q) is more = ap (λ rows. q.0 ∷ rows) (more q is)

-- the first record, and then those after it
pub first-row : (s : State) (xs : List ℕ) (q : Read) → ends_at_end s ≡ false → next_record default_config s [] [] xs ≡ Some q
    → rows_of s (Some xs) ≡ q.0 ∷ rows_of q.1 (Some q.2)
unfolding records_from
first-row s xs q good is =
    let fewer = rest-fewer default_config s xs q good is in
    let same = same-turns default_config (length xs) (length q.2 + 1) q.1 q.2 (good-after default_config s [] [] xs q is) fewer (omega arith) in
    rw (add-one, is) (ap (λ rows. q.0 ∷ rows) same)

pub no-row : (s : State) (xs : List ℕ) → next_record default_config s [] [] xs ≡ None → rows_of s (Some xs) ≡ []
unfolding records_from
no-row s xs is = rw (add-one, is) refl

-- there are at most as many records as bytes
few-rows_from : (n : ℕ) (s : State) (xs : List ℕ) → ends_at_end s ≡ false → length (records_from default_config n s xs) ≤ length xs
unfolding records_from
few-rows_from zero s xs good = omega arith
few-rows_from (suc n) s xs good = go (next_record default_config s [] [] xs) refl (λ q is. few-rows_from n q.1 q.2 (good-after default_config s [] [] xs q is))
  where
    go : (o : Option Read) → next_record default_config s [] [] xs ≡ o → ((q : Read) → next_record default_config s [] [] xs ≡ Some q → length (records_from default_config n q.1 q.2) ≤ length q.2)
        → length (records_next (records_from default_config n) o) ≤ length xs
    go None is more = omega arith
    go (Some q) is more =
        let fewer = rest-fewer default_config s xs q good is in
        let most = more q is in
        omega (arith, fewer, most)

pub few-rows : (s : State) (left : Option (List ℕ)) (bytes : List ℕ) → s ≡ st.StartRecord → left ≡ Some (strip_bom bytes) → length (rows_of s left) ≤ length bytes
few-rows s left bytes start known =
    let few = few-rows_from (length (strip_bom bytes) + 1) st.StartRecord (strip_bom bytes) refl in
    let less = length-strip bytes in
    rw (start, known) (omega (arith, few, less))

-- ---- reads

next-some : (o : Option Read) (f : List (List ℕ)) (s : State) (z : List ℕ) → NextIs o true f s z → (q : Read) × (o ≡ Some q) × (f ≡ q.0) × (s ≡ q.1) × (z ≡ q.2)
next-some None f s z n = absurd (cc n)
next-some (Some q) f s z n = (q, refl, n.1, n.2, n.3)

next-none : (o : Option Read) (f : List (List ℕ)) (s : State) (z : List ℕ) → NextIs o false f s z → o ≡ None
next-none None f s z n = refl
next-none (Some q) f s z n = absurd (cc n.0)

end-go : (s s2 : State) (y : List ℕ) (k : Option (List ℕ)) (f : List (List ℕ)) → ReadsNext default_config s (Some y) k false f s2 → rows_of s (Some y) ≡ []
end-go s s2 y None f r = absurd r
end-go s s2 y (Some z) f r = no-row s y (next-none (next_record default_config s [] [] y) f s2 z r)

as-told : (q : Read) (f : List (List ℕ)) (s : State) (z : List ℕ) → f ≡ q.0 → s ≡ q.1 → z ≡ q.2 → q.0 ∷ rows_of q.1 (Some q.2) ≡ f ∷ rows_of s (Some z)
as-told q f s z same_f same_s same_z = rw (same_f, same_s, same_z) refl

read-go : (s s2 : State) (y : List ℕ) (k : Option (List ℕ)) (f : List (List ℕ)) → ends_at_end s ≡ false → ReadsNext default_config s (Some y) k true f s2
    → (z : List ℕ) × (k ≡ Some z) × (rows_of s (Some y) ≡ f ∷ rows_of s2 (Some z)) × (ends_at_end s2 ≡ false)
read-go s s2 y None f good r = absurd r
read-go s s2 y (Some z) f good r =
    let n = next-some (next_record default_config s [] [] y) f s2 z r in
    (z, refl, first-row s y n.0 good n.1 ∙ as-told n.0 f s2 z n.2 n.3 n.4, ap ends_at_end n.3 ∙ good-after default_config s [] [] y n.0 n.1)

-- a read that found a record
pub read-more : (a b : Reader (Bor (List ℕ))) (f : List (List ℕ)) → IsReading a → took_first b ≡ true → is_flexible b ≡ is_flexible a → ReadRecord (λ (s : Bor (List ℕ)). Some s.now) a b true f
    → (rows_left a ≡ f ∷ rows_left b) × IsReading b
read-more a b f reading first flexible r =
    let g = read-go a.state b.state reading.bytes (pending_of (Some b.rdr.now) b) f reading.between (rw (reading.config, reading.known) at r.0) in
    let left : bytes_left b ≡ Some g.0 = rw r.1 g.1 in (
      rw (reading.known, left) g.2,
      record {
        flexible = flexible ∙ reading.flexible;
        config = r.2 ∙ reading.config;
        trim = r.3 ∙ reading.trim;
        ready = inl first;
        between = g.3;
        bytes = g.0;
        known = left;
      },
    )

-- a read that found none
pub read-end : (a b : Reader (Bor (List ℕ))) (f : List (List ℕ)) → IsReading a → ReadRecord (λ (s : Bor (List ℕ)). Some s.now) a b false f → rows_left a ≡ []
read-end a b f reading r =
    rw reading.known (end-go a.state b.state reading.bytes (pending_of (Some b.rdr.now) b) f (rw (reading.config, reading.known) at r.0))

-- why a read fails where records may have any length
pub error-of-memory : (a b : Reader (Bor (List ℕ))) (k : ErrorKind) → is_flexible a ≡ true → ExplainsRead (λ (s : Bor (List ℕ)). Some s.now) a b false k → IsOfMemory k
error-of-memory a b kind.OutOfMemory flexible why = tt
error-of-memory a b (kind.Io error) flexible why = tt
error-of-memory a b (kind.UnequalLengths pos expected len) flexible why = absurd (cc (flexible, why.0))
error-of-memory a b (kind.Utf8 pos error) flexible why = absurd (cc why.0)
error-of-memory a b (kind.Serialize text) flexible why = why
error-of-memory a b (kind.Deserialize pos error) flexible why = why
