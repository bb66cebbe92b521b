-- How one record takes bytes from a text.
use Rattle.std.proofs.Common.{ℕ, zero, suc, ◌+◌, ◌<◌, ◌≤◌, ◌≡◌, ◌==◌, ◌||◌, List, [], ◌∷◌, Option, Some, None, Bool, true, false, if◌then◌else◌, length, ◌-◌, refl, sym, ap, subst, ◌∙◌, arith}
use Rattle.csv.specs.Machine.{Read, next_record, step, is_end, ends_at_end, in_field, start_field, start_record, fields_after, field_after}
use Rattle.md_records.specs.Text.{records_of}
use Rattle.csv.specs.Reading.{is_bom, strip_bom, default_config, records_from, records_next}
use Rattle.csv.specs.declared.parser.State.{State}
use Rattle.csv.specs.declared.parser.State.TheVariants as st
use Rattle.csv.specs.declared.parser.Action.{Action}
use Rattle.csv.specs.declared.parser.Action.TheVariants as act

-- where a byte ends a record, the end of the text would end none after it
abbrev IsBetween : State × Action → Type 0
IsBetween p = is_end p.1 ≡ true → ends_at_end p.0 ≡ false

between-if : (b : Bool) (p q : State × Action) → IsBetween p → IsBetween q → IsBetween (if b then p else q)
between-if true p q hp hq = hp
between-if false p q hp hq = hq

after_end-between : (b : Bool) → ends_at_end (if b then st.AfterCr else st.StartRecord) ≡ false
after_end-between true = refl
after_end-between false = refl

in_field-between : (c : ℕ) → IsBetween (in_field default_config c)
in_field-between c =
    between-if (c == 44) (st.StartField, act.EndField) _ (λ h. cc)
    (between-if ((c == 13) || (c == 10)) (if (c == 13) then st.AfterCr else st.StartRecord, act.EndRecord) (st.InField, act.Copy) (λ _. after_end-between (c == 13)) (λ h. cc))

start_field-between : (c : ℕ) → IsBetween (start_field default_config c)
start_field-between c = between-if (c == 34) (st.InQuoted, act.Skip) _ (λ h. cc) (in_field-between c)

start_record-between : (c : ℕ) → IsBetween (start_record default_config c)
start_record-between c = between-if ((c == 13) || (c == 10)) (st.StartRecord, act.Skip) _ (λ h. cc) (start_field-between c)

step-between : (s : State) (c : ℕ) → IsBetween (step default_config s c)
step-between st.StartRecord c = start_record-between c
step-between st.StartField c = start_field-between c
step-between st.InField c = in_field-between c
step-between st.InQuoted c = between-if (c == 34) (st.AfterQuote, act.Skip) (st.InQuoted, act.Copy) (λ h. cc) (λ h. cc)
step-between st.InEscape c = λ h. cc
step-between st.AfterQuote c = between-if (c == 34) (st.InQuoted, act.Copy) _ (λ h. cc) (in_field-between c)
step-between st.InComment c = between-if (c == 10) (st.StartRecord, act.Skip) (st.InComment, act.Skip) (λ h. cc) (λ h. cc)
step-between st.AfterCr c = between-if (c == 10) (st.StartRecord, act.Skip) _ (λ h. cc) (start_record-between c)

-- what one record leaves of the bytes, and the state after it
pub record Takes (xs : List ℕ) (p : Read) : Type 0 where
  pub left : length p.2 ≤ length xs - 1
  pub between : ends_at_end p.1 ≡ false

takes-end : (b : Bool) (fields : List (List ℕ)) (p : Read) → (if b then Some (fields, st.StartRecord, []) else None) ≡ Some p → Takes [] p
takes-end true fields p h =
    let e : (fields, st.StartRecord, []) ≡ p = cc in
    subst (λ (q : Read). Takes [] q) e (record { left = omega arith; between = refl })
takes-end false fields p h = cc

takes-if : (b : Bool) (c : ℕ) (rest : List ℕ) (fields : List (List ℕ)) (s : State) (more : Option Read) (p : Read)
    → (b ≡ true → ends_at_end s ≡ false)
    → (more ≡ Some p → Takes rest p)
    → (if b then Some (fields, s, rest) else more) ≡ Some p → Takes (c ∷ rest) p
takes-if true c rest fields s more p between later h =
    let e : (fields, s, rest) ≡ p = cc in
    subst (λ (q : Read). Takes (c ∷ rest) q) e (record { left = omega arith; between = between refl })
takes-if false c rest fields s more p between later h =
    let t = later h in
    record { left = let l : length p.2 ≤ length rest - 1 = t.left in omega arith; between = t.between }

pub next_record-takes : (s : State) (fields : List (List ℕ)) (field xs : List ℕ) (p : Read) → next_record default_config s fields field xs ≡ Some p → Takes xs p
unfolding next_record
next_record-takes s fields field [] p h = takes-end (ends_at_end s) _ p h
next_record-takes s fields field (c ∷ rest) p h =
    takes-if (is_end (step default_config s c).1) c rest _ _ _ p (step-between s c)
    (next_record-takes (step default_config s c).0 (fields_after (step default_config s c).1 fields field) (field_after (step default_config s c).1 c field) rest p) h

-- no record stands at the end of the text between two records
pub next_record-end : (s : State) → ends_at_end s ≡ false → next_record default_config s [] [] [] ≡ None
unfolding next_record
next_record-end s h = rw h refl

none_is_not_some : (o : Option Read) (p : Read) → o ≡ None → o ≡ Some p → ⊥
none_is_not_some o p a b = let e : None ≡ Some p = sym a ∙ b in cc

some_bytes : (s : State) (xs : List ℕ) (p : Read) → ends_at_end s ≡ false → next_record default_config s [] [] xs ≡ Some p → 0 < length xs
some_bytes s [] p e h = absurd (none_is_not_some _ p (next_record-end s e) h)
some_bytes s (c ∷ rest) p e h = omega arith

-- the records of a text are the same however many more are asked for than it has bytes
pub records_from-enough : (m n : ℕ) (s : State) (xs : List ℕ) → length xs < m → length xs < n → ends_at_end s ≡ false → records_from default_config m s xs ≡ records_from default_config n s xs
unfolding records_from
records_from-enough zero n s xs lm ln e = absurd (omega arith)
records_from-enough (suc m) zero s xs lm ln e = absurd (omega arith)
records_from-enough (suc m) (suc n) s xs lm ln e =
    next_same (next_record default_config s [] [] xs) (λ p h.
    let t = next_record-takes s [] [] xs p h in
    let ne : 0 < length xs = some_bytes s xs p e h in
    let l : length p.2 ≤ length xs - 1 = t.left in
    records_from-enough m n p.1 p.2 (omega arith) (omega arith) t.between)
  where
    next_same : (o : Option Read) → ((p : Read) → o ≡ Some p → records_from default_config m p.1 p.2 ≡ records_from default_config n p.1 p.2) → records_next (records_from default_config m) o ≡ records_next (records_from default_config n) o
    next_same None f = refl
    next_same (Some p) f = ap (λ (rs : List (List (List ℕ))). p.0 ∷ rs) (f p refl)

-- the first record and the others
pub records_from-step : (n : ℕ) (s : State) (xs : List ℕ) (p : Read) → length xs < n → ends_at_end s ≡ false → next_record default_config s [] [] xs ≡ Some p → records_from default_config n s xs ≡ p.0 ∷ records_from default_config (length p.2 + 1) p.1 p.2
unfolding records_from
records_from-step zero s xs p l e h = absurd (omega arith)
records_from-step (suc n) s xs p l e h =
    let t = next_record-takes s [] [] xs p h in
    let ne : 0 < length xs = some_bytes s xs p e h in
    let k : length p.2 ≤ length xs - 1 = t.left in
    rw h (ap (λ (rs : List (List (List ℕ))). p.0 ∷ rs) (records_from-enough n (length p.2 + 1) p.1 p.2 (omega arith) (omega arith) t.between))

pub records_from-none : (n : ℕ) (s : State) (xs : List ℕ) → next_record default_config s [] [] xs ≡ None → records_from default_config n s xs ≡ []
unfolding records_from
records_from-none zero s xs h = refl
records_from-none (suc n) s xs h = rw h refl

-- there are no more records than bytes
pub length-records_from : (n : ℕ) (s : State) (xs : List ℕ) → ends_at_end s ≡ false → length (records_from default_config n s xs) ≤ length xs
unfolding records_from
length-records_from zero s xs e = omega arith
length-records_from (suc n) s xs e =
    few (next_record default_config s [] [] xs) (λ p h.
    let t = next_record-takes s [] [] xs p h in
    let ne : 0 < length xs = some_bytes s xs p e h in
    let l : length p.2 ≤ length xs - 1 = t.left in
    let r = length-records_from n p.1 p.2 t.between in
    omega arith)
  where
    few : (o : Option Read) → ((p : Read) → o ≡ Some p → length (records_from default_config n p.1 p.2) < length xs) → length (records_next (records_from default_config n) o) ≤ length xs
    few None f = omega arith
    few (Some p) f = let l = f p refl in omega arith

length-strip_bom : (xs : List ℕ) → length (strip_bom xs) ≤ length xs
unfolding strip_bom
length-strip_bom [] = omega arith
length-strip_bom (a ∷ []) = omega arith
length-strip_bom (a ∷ b ∷ []) = omega arith
length-strip_bom (a ∷ b ∷ c ∷ rest) = elim (is_bom a b c) as (λ t. length (if t then rest else a ∷ b ∷ c ∷ rest) ≤ length (a ∷ b ∷ c ∷ rest)) [ true ↦ omega arith | false ↦ omega arith ]

pub length-records_of : (text : List ℕ) → length (records_of text) ≤ length text
length-records_of text =
    let few = length-records_from (length (strip_bom text) + 1) st.StartRecord (strip_bom text) refl in
    let bom = length-strip_bom text in
    omega arith

pub few-records : (rows : List (List (List ℕ))) (text : List ℕ) → rows ≡ records_of text → length rows ≤ length text
few-records rows text e = rw e (length-records_of text)
