-- What is known of a row that was read, and of a time that was taken.
use Rattle.std.proofs.Common.{◌≡◌, ◌<◌, ◌^◌, ◌∷◌, ◌⊎◌, ◌-ℤ◌, [], ℕ, ℤ, pos, negsuc, List, Bool, true, false, Option, Some, None, Result, Ok, refl, ap, subst, inl, inr, nat_lt}
use Rattle.std.proofs.lemmas.Bool.{cases_Bool, ltb-true}
use Rattle.taxi_base.specs.Words.{is_name}
use Rattle.taxi_base.specs.Airport.{Airport}
use Rattle.taxi_text.specs.Commands.{◌>>=◌}
use Rattle.taxi_text.specs.Fields.{name_of, number_of}
use Rattle.taxi_text.proofs.Numbers.{number_of-short}
use Rattle.schedule_import.specs.declared.row.Movement.{Movement}
use Rattle.schedule_import.specs.declared.row.Names.{Names}
use Rattle.schedule_import.specs.declared.row.Row.{Row}
use Rattle.schedule_import.specs.declared.row.RowFault.{RowFault}
use Rattle.schedule_import.specs.declared.row.RowFault.TheVariants as fault
use Rattle.civil_times.specs.Times.{second_of}
use Rattle.schedule_import.specs.Rows.{needs, checks, movement_of, names_of, row_of_words, row_of_fields, row_of, are_known, are_of_kinds, time_within, time_of_row}

pub record AreNames (names : Names) : Type 0 where
  pub flight : is_name names.flight ≡ true
  pub class : is_name names.class ≡ true
  pub from : is_name names.from ≡ true
  pub to : is_name names.to ≡ true

-- the names are names, and the hold or queue has at most seven digits
pub record IsRead (row : Row) : Type 0 where
  pub names : AreNames row.names
  pub slack : row.slack < 10 ^ 7

-- ---- what a value came from

needs-Ok : {A B : Type 0} (o : Option A) (why : RowFault) (next : A → Result B RowFault) (b : B) → needs o why next ≡ Ok b → (a : A) × (o ≡ Some a) × (next a ≡ Ok b)
needs-Ok (Some a) why next b e = (a, refl, e)
needs-Ok None why next b e = absurd (cc e)

checks-Ok : {B : Type 0} (test : Bool) (why : RowFault) (next : Result B RowFault) (b : B) → checks test why next ≡ Ok b → (test ≡ true) × (next ≡ Ok b)
checks-Ok true why next b e = (refl, e)
checks-Ok false why next b e = absurd (cc e)

-- ---- a row that was read

named : (word name : List ℕ) → name_of word ≡ Some name → is_name name ≡ true
named word name e = go (cases_Bool (is_name word))
  where
    go : (is_name word ≡ true) ⊎ (is_name word ≡ false) → is_name name ≡ true
    go (inl it_is) = let same : word ≡ name = cc (rw it_is at e) in subst (λ w. is_name w ≡ true) same it_is
    go (inr fails) = absurd (cc (rw fails at e))

names_of-names : (flight class from to : List ℕ) (names : Names) → names_of flight class from to ≡ Some names → AreNames names
names_of-names flight class from to names e =
    let found = each (name_of flight) (name_of class) (name_of from) (name_of to) e in
    record {
      flight = named flight names.flight found.0;
      class = named class names.class found.1;
      from = named from names.from found.2;
      to = named to names.to found.3;
    }
  where
    each : (f c s t : Option (List ℕ)) → f >>= (λ flight. c >>= (λ class. s >>= (λ from. t >>= (λ to. Some (record { flight = flight; class = class; from = from; to = to }))))) ≡ Some names
        → (f ≡ Some names.flight) × (c ≡ Some names.class) × (s ≡ Some names.from) × (t ≡ Some names.to)
    each (Some f) (Some c) (Some s) (Some t) e =
        let same : record { flight = f; class = c; from = s; to = t } ≡ names = cc e in
        (ap (λ (n : Names). Some n.flight) same, ap (λ (n : Names). Some n.class) same, ap (λ (n : Names). Some n.from) same, ap (λ (n : Names). Some n.to) same)
    each (Some f) (Some c) (Some s) None e = absurd (cc e)
    each (Some f) (Some c) None t e = absurd (cc e)
    each (Some f) None s t e = absurd (cc e)
    each None c s t e = absurd (cc e)

words-read : (movement : Movement) (names : Option Names) (time slack : List ℕ) (row : Row)
    → ((n : Names) → names ≡ Some n → AreNames n) → row_of_words movement names time slack ≡ Ok row → IsRead row
words-read movement names time slack row valid e =
    let n = needs-Ok names fault.BadName _ row e in
    let second = needs-Ok (second_of time) fault.BadTime _ row n.2 in
    let number = needs-Ok (number_of slack) fault.BadNumber _ row second.2 in
    let same : record { movement = movement; names = n.0; second = second.0; slack = number.0 } ≡ row = cc number.2 in
    subst IsRead same (record { names = valid n.0 n.1; slack = number_of-short slack number.0 number.1 })

fields-read : (movement : Movement) (fields : List (List ℕ)) (row : Row) → row_of_fields movement fields ≡ Ok row → IsRead row
fields-read movement (word ∷ flight ∷ class ∷ from ∷ to ∷ time ∷ slack ∷ []) row e =
    words-read movement (names_of flight class from to) time slack row (λ names. names_of-names flight class from to names) e
fields-read movement [] row e = absurd (cc e)
fields-read movement (a ∷ []) row e = absurd (cc e)
fields-read movement (a ∷ b ∷ []) row e = absurd (cc e)
fields-read movement (a ∷ b ∷ c ∷ []) row e = absurd (cc e)
fields-read movement (a ∷ b ∷ c ∷ d ∷ []) row e = absurd (cc e)
fields-read movement (a ∷ b ∷ c ∷ d ∷ f ∷ []) row e = absurd (cc e)
fields-read movement (a ∷ b ∷ c ∷ d ∷ f ∷ g ∷ []) row e = absurd (cc e)
fields-read movement (a ∷ b ∷ c ∷ d ∷ f ∷ g ∷ h ∷ i ∷ more) row e = absurd (cc e)

pub row_of-read : (fields : List (List ℕ)) (row : Row) → row_of fields ≡ Ok row → IsRead row
row_of-read fields row e =
    let movement = needs-Ok (movement_of fields) fault.UnknownRow _ row e in
    fields-read movement.0 fields row movement.2

-- ---- a time that was taken

time_within-low : (horizon : ℕ) (seconds : ℤ) (time : ℕ) → time_within horizon seconds ≡ Some time → time < horizon
time_within-low horizon (pos n) time e = go (cases_Bool (nat_lt n horizon))
  where
    go : (nat_lt n horizon ≡ true) ⊎ (nat_lt n horizon ≡ false) → time < horizon
    go (inl low) = let same : n ≡ time = cc (rw low at e) in subst (λ t. t < horizon) same (ltb-true n horizon low)
    go (inr high) = absurd (cc (rw high at e))
time_within-low horizon (negsuc n) time e = absurd (cc e)

pub time_of_row-low : (airport : Airport) (start : ℤ) (row : Row) (time : ℕ) → time_of_row airport start row ≡ Ok time → time < airport.horizon
time_of_row-low airport start row time e =
    let known = checks-Ok (are_known airport row.names) fault.UnknownName _ time e in
    let kinds = checks-Ok (are_of_kinds airport row.movement row.names) fault.WrongKind _ time known.1 in
    let within = needs-Ok (time_within airport.horizon (row.second -ℤ start)) fault.OutOfDay _ time kinds.1 in
    let same : within.0 ≡ time = cc within.2 in
    subst (λ t. t < airport.horizon) same (time_within-low airport.horizon (row.second -ℤ start) within.0 within.1)
