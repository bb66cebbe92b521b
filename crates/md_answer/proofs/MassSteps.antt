-- The records of a mass table, by the steps over their fields and over the ranks.
use Rattle.std.proofs.Common.{◌≡◌, ℕ, zero, suc, ◌+◌, ◌*◌, ◌<◌, ◌≤◌, ◌^◌, ℤ, pos, ◌*ℤ◌, ◌≤ℤ◌, min, Bool, true, false, ◌&&◌, int_le, nat_le, List, [], ◌∷◌, ◌++◌, map, drop, length, codes, Result, Ok, Err, add-one, refl, sym, ap, subst, ◌∙◌, arith, mul-le-mul, inl, inr}
use Rattle.std.specs.Prelude.{unsigned_abs, slice_index}
use Rattle.std.proofs.lemmas.Bool.{cases_lt}
use Rattle.std.proofs.lemmas.Int.{ints}
use Rattle.std.proofs.Math.Seq.{drop-append_seam}
use Rattle.md_math.specs.Lists.{number_at, list_to}
use Rattle.md_math.specs.Sums.{total}
use Rattle.md_math.proofs.Builders.{length-list_to, list_to-more, map-list_to}
use Rattle.md_math.proofs.SumLaws.{sum_to-nonneg}
use Rattle.md_math.proofs.TotalLaws.{total_by-places}
use Rattle.md_setting.specs.Auction.{SymmetricAuction, value_count}
use Rattle.md_setting.specs.AuctionShaped.{IsAuction}
use Rattle.md_counts.specs.Weights.{weight_of_counts}
use Rattle.md_expost.specs.Masses.{rank_count, counts_in, cap_at}
use Rattle.md_expost.proofs.MassLaws.{weight-small}
use Rattle.md_parts.specs.declared.refusal.AnswerRefusal.{AnswerRefusal}
use Rattle.md_parts.specs.declared.refusal.AnswerRefusal.TheVariants.{Sum}
use Rattle.md_parts.specs.Fields.{Field, place_field, is_amount, amount_field}
use Rattle.md_parts.specs.Left.{Left}
use Rattle.md_parts.specs.Reading.{Rest, read_record}
use Rattle.md_parts.specs.Records.{record_with}
use Rattle.md_parts.specs.FieldsRead.{Reads, FailsIn}
use Rattle.md_parts.proofs.FieldSteps.{reads-then, fails-then}
use Rattle.md_parts.proofs.NumbersRead.{number_field-is}
use Rattle.md_parts.proofs.RecordSteps.{named-read, names-fail, numbers-fail, named-missing}
use Rattle.md_answer.specs.MassRecords.{count_numbers}
use Rattle.md_answer.specs.MassReading.{count_field, count_fields, most_mass, most_masses, weight_at, mass_fields, masses_at, masses_to, masses_over}
use Rattle.md_answer.specs.Supplies.{units_in}
use Rattle.md_answer.specs.declared.supply.Supply.{Supply}
use Rattle.md_answer.proofs.FieldsKnown.{built-fail, reads-known, built-known}

-- ---- counts

abbrev pub count_of : SymmetricAuction → ℕ → ℕ → ℕ
count_of a rank v = slice_index (counts_in a rank) v

-- the counts of the first kinds
abbrev pub AreCountsTo : SymmetricAuction → ℕ → ℕ → Left → Left → Type 0
AreCountsTo a rank kind start now = Reads (list_to kind (λ v. count_field (count_of a rank v))) start now (list_to kind (λ v. pos (count_of a rank v)))

pub counts-more : (a : SymmetricAuction) (rank kind : ℕ) (start now next : Left) (count place : ℕ) → AreCountsTo a rank kind start now → count ≡ count_of a rank kind
    → Reads (place_field count (count + 1) ∷ []) now next (pos place ∷ []) → (count ≤ place) × (place < count + 1) → AreCountsTo a rank (kind + 1) start next
counts-more a rank kind start now next count place h is reads inside =
    let same : place ≡ count_of a rank kind = omega (arith, is, inside.0, inside.1) in
    let one : Reads (count_field (count_of a rank kind) ∷ []) now next (pos (count_of a rank kind) ∷ []) =
    subst (λ (n : ℕ). Reads (count_field (count_of a rank kind) ∷ []) now next (pos n ∷ [])) same (subst (λ (n : ℕ). Reads (count_field n ∷ []) now next (pos place ∷ [])) is reads) in
    rw (list_to-more kind (λ v. count_field (count_of a rank v)), list_to-more kind (λ v. pos (count_of a rank v)))
    (reads-then (list_to kind (λ v. count_field (count_of a rank v))) (count_field (count_of a rank kind) ∷ []) start now next (list_to kind (λ v. pos (count_of a rank v))) (pos (count_of a rank kind) ∷ []) h one)

pub counts-fail : (a : SymmetricAuction) (rank kind : ℕ) (start now : Left) (count : ℕ) (refusal : AnswerRefusal) → kind < value_count a → AreCountsTo a rank kind start now → count ≡ count_of a rank kind
    → FailsIn (place_field count (count + 1) ∷ []) now refusal → FailsIn (count_fields a rank) start refusal
counts-fail a rank kind start now count refusal l h is fails =
    let one : FailsIn (count_field (count_of a rank kind) ∷ []) now refusal = subst (λ (n : ℕ). FailsIn (count_field n ∷ []) now refusal) is fails in
    let first : FailsIn (list_to (kind + 1) (λ v. count_field (count_of a rank v))) start refusal =
    rw (list_to-more kind (λ v. count_field (count_of a rank v)))
    (fails-then (list_to kind (λ v. count_field (count_of a rank v))) (count_field (count_of a rank kind) ∷ []) start now (list_to kind (λ v. pos (count_of a rank v))) refusal h one) in
    built-fail (value_count a) (kind + 1) (λ v. count_field (count_of a rank v)) start refusal (omega arith) first

-- ---- what there is to give

pub weight-most : (a : SymmetricAuction) (rank den weight : ℕ) → IsAuction a → rank < rank_count a → den < 2 ^ 62 → weight ≡ weight_of_counts a.weights a.bidders (counts_in a rank) → den * weight ≤ 2 ^ 62 * 10 ^ 12
weight-most a rank den weight h b l e =
    let small = weight-small a rank h b in
    mul-le-mul (let k : den ≤ 2 ^ 62 = omega arith in k) (let k : weight ≤ 10 ^ 12 = omega (arith, e, small) in k)

-- ---- the record of a rank

-- the fields of amounts are those of masses
pub mass-fields : (supply : Supply) (a : SymmetricAuction) (den : ℤ) (rank : ℕ) → map amount_field (most_masses supply a den rank) ≡ mass_fields supply a den rank
mass-fields supply a den rank = map-list_to amount_field (value_count a) (λ v. most_mass supply (weight_at a den rank) (count_of a rank v))

pub counts-long : (a : SymmetricAuction) (rank : ℕ) → length (count_fields a rank) ≡ value_count a
counts-long a rank = length-list_to (value_count a) (λ v. count_field (count_of a rank v))

pub mosts-long : (supply : Supply) (a : SymmetricAuction) (den : ℤ) (rank : ℕ) → length (most_masses supply a den rank) ≡ value_count a
mosts-long supply a den rank = length-list_to (value_count a) (λ v. most_mass supply (weight_at a den rank) (count_of a rank v))

fields-long : (supply : Supply) (a : SymmetricAuction) (den : ℤ) (rank count : ℕ) → count ≡ 2 * value_count a → length (count_fields a rank) + length (mass_fields supply a den rank) ≡ count
fields-long supply a den rank count e =
    let counts = length-list_to (value_count a) (λ v. count_field (count_of a rank v)) in
    let masses = length-list_to (value_count a) (λ v. amount_field (most_mass supply (weight_at a den rank) (count_of a rank v))) in
    omega (arith, e, counts, masses)

both-tests : (x y : Bool) → (x && y) ≡ true → x ≡ true
both-tests true y h = refl
both-tests false y h = h

amount-nonneg : (most : ℕ) (z : ℤ) → is_amount most z ≡ true → pos 0 ≤ℤ z
amount-nonneg most z h = from_zero (both-tests (int_le (pos 0) z) (nat_le (unsigned_abs z) most) h)
  where
    from_zero : int_le (pos 0) z ≡ true → pos 0 ≤ℤ z
    from_zero e = grind (arith, ints)

-- masses that were read are not negative together
total-nonneg : (supply : Supply) (a : SymmetricAuction) (den : ℤ) (rank : ℕ) (mid end : Left) (numbers : List ℤ) → Reads (mass_fields supply a den rank) mid end numbers → pos 0 ≤ℤ total numbers
total-nonneg supply a den rank mid end numbers reads =
    let known = reads-known (mass_fields supply a den rank) mid end numbers reads in
    let long : length numbers ≡ value_count a = known.long ∙ length-list_to (value_count a) (λ v. amount_field (most_mass supply (weight_at a den rank) (count_of a rank v))) in
    subst (λ (z : ℤ). pos 0 ≤ℤ z) (sym (total_by-places (λ x. x) numbers (pos 0)))
    (sum_to-nonneg (length numbers) (λ k. number_at numbers k) (λ k l.
    let one = built-known (value_count a) (λ v. amount_field (most_mass supply (weight_at a den rank) (count_of a rank v))) numbers k known (omega (arith, long, l)) in
    amount-nonneg (most_mass supply (weight_at a den rank) (count_of a rank k)) (number_at numbers k) (number_field-is 126 (is_amount (most_mass supply (weight_at a den rank) (count_of a rank k))) one.text (number_at numbers k) (omega arith) one.holds).passes))

-- the numbers of a record are its counts and then its masses
pub masses-behind : (a : SymmetricAuction) (rank : ℕ) (numbers : List ℤ) → drop (value_count a) (count_numbers a rank ++ numbers) ≡ numbers
masses-behind a rank numbers =
    ap (λ (k : ℕ). drop k (count_numbers a rank ++ numbers)) (sym (length-list_to (value_count a) (λ v. pos (count_of a rank v)))) ∙ drop-append_seam (count_numbers a rank) numbers

within-test : (z c : ℤ) (most sum : ℕ) → pos most ≡ c → sum ≡ min (unsigned_abs z) (most + 1) → sum ≤ most → int_le z c ≡ true
within-test z c most sum e s l = rw (← e) (test (below e s l))
  where
    below : pos most ≡ c → sum ≡ min (unsigned_abs z) (most + 1) → sum ≤ most → z ≤ℤ pos most
    below e s l = omega (arith, ints)

    test : z ≤ℤ pos most → int_le z (pos most) ≡ true
    test l = grind (arith, ints)

over-test : (z c : ℤ) (most sum : ℕ) → pos most ≡ c → sum ≡ min (unsigned_abs z) (most + 1) → pos 0 ≤ℤ z → most < sum → int_le z c ≡ false
over-test z c most sum e s n l = rw (← e) (test (above s n l))
  where
    above : sum ≡ min (unsigned_abs z) (most + 1) → pos 0 ≤ℤ z → most < sum → most < unsigned_abs z
    above s n l = omega (arith, ints)

    test : most < unsigned_abs z → int_le z (pos most) ≡ false
    test l = grind (arith, ints)

-- a record that was read so far: its counts, and then amounts
pub record IsRankRead (supply : Supply) (a : SymmetricAuction) (den : ℤ) (rank : ℕ) (rest after : Rest) (numbers : List ℤ) : Type 0 where
  pub read : read_record (codes "mass") (count_fields a rank ++ mass_fields supply a den rank) rest ≡ Ok (count_numbers a rank ++ numbers, after)
  pub nonneg : pos 0 ≤ℤ total numbers

pub rank-read : (supply : Supply) (a : SymmetricAuction) (den : ℤ) (rank count : ℕ) (rest after : Rest) (left mid end : Left) (mosts : List ℕ) (numbers : List ℤ) → count ≡ 2 * value_count a → mosts ≡ most_masses supply a den rank
    → record_with (codes "mass") count rest ≡ Ok (left, after) → Reads (count_fields a rank) left mid (count_numbers a rank) → Reads (map amount_field mosts) mid end numbers → IsRankRead supply a den rank rest after numbers
rank-read supply a den rank count rest after left mid end mosts numbers e same h first second =
    let masses : Reads (mass_fields supply a den rank) mid end numbers = subst (λ (fs : List Field). Reads fs mid end numbers) (ap (map amount_field) same ∙ mass-fields supply a den rank) second in
    record {
      read = named-read (codes "mass") (count_fields a rank) (mass_fields supply a den rank) count rest after left mid end (count_numbers a rank) numbers (fields-long supply a den rank count e) h first masses;
      nonneg = total-nonneg supply a den rank mid end numbers masses;
    }

pub rank-within : (supply : Supply) (a : SymmetricAuction) (den : ℤ) (rank whole sum : ℕ) (rest after : Rest) (numbers : List ℤ) → IsRankRead supply a den rank rest after numbers → pos whole ≡ pos (units_in supply) *ℤ cap_at a den rank
    → sum ≡ min (unsigned_abs (total numbers)) (whole + 1) → sum ≤ whole → masses_at supply a den rank rest ≡ Ok (numbers, after)
rank-within supply a den rank whole sum rest after numbers h e s l =
    let inside = within-test (total numbers) (pos (units_in supply) *ℤ cap_at a den rank) whole sum e s l in
    rw (h.read, masses-behind a rank numbers, inside) refl

pub rank-over : (supply : Supply) (a : SymmetricAuction) (den : ℤ) (rank whole sum : ℕ) (rest after : Rest) (numbers : List ℤ) → IsRankRead supply a den rank rest after numbers → pos whole ≡ pos (units_in supply) *ℤ cap_at a den rank
    → sum ≡ min (unsigned_abs (total numbers)) (whole + 1) → whole < sum → masses_at supply a den rank rest ≡ Err (Sum after.read)
rank-over supply a den rank whole sum rest after numbers h e s l =
    let outside = over-test (total numbers) (pos (units_in supply) *ℤ cap_at a den rank) whole sum e s h.nonneg l in
    rw (h.read, masses-behind a rank numbers, outside) refl

rank-fails : (supply : Supply) (a : SymmetricAuction) (den : ℤ) (rank : ℕ) (rest : Rest) (refusal : AnswerRefusal) → read_record (codes "mass") (count_fields a rank ++ mass_fields supply a den rank) rest ≡ Err refusal → masses_at supply a den rank rest ≡ Err refusal
rank-fails supply a den rank rest refusal h = rw h refl

pub rank-missing : (supply : Supply) (a : SymmetricAuction) (den : ℤ) (rank count : ℕ) (rest : Rest) (refusal : AnswerRefusal) → count ≡ 2 * value_count a → record_with (codes "mass") count rest ≡ Err refusal → masses_at supply a den rank rest ≡ Err refusal
rank-missing supply a den rank count rest refusal e h =
    rank-fails supply a den rank rest refusal (named-missing (codes "mass") (count_fields a rank) (mass_fields supply a den rank) count rest refusal (fields-long supply a den rank count e) h)

pub rank-counts-fail : (supply : Supply) (a : SymmetricAuction) (den : ℤ) (rank count : ℕ) (rest after : Rest) (left : Left) (refusal : AnswerRefusal) → count ≡ 2 * value_count a
    → record_with (codes "mass") count rest ≡ Ok (left, after) → FailsIn (count_fields a rank) left refusal → masses_at supply a den rank rest ≡ Err refusal
rank-counts-fail supply a den rank count rest after left refusal e h fails =
    rank-fails supply a den rank rest refusal (names-fail (codes "mass") (count_fields a rank) (mass_fields supply a den rank) count rest after left refusal (fields-long supply a den rank count e) h fails)

pub rank-masses-fail : (supply : Supply) (a : SymmetricAuction) (den : ℤ) (rank count : ℕ) (rest after : Rest) (left mid : Left) (mosts : List ℕ) (refusal : AnswerRefusal) → count ≡ 2 * value_count a → mosts ≡ most_masses supply a den rank
    → record_with (codes "mass") count rest ≡ Ok (left, after) → Reads (count_fields a rank) left mid (count_numbers a rank) → FailsIn (map amount_field mosts) mid refusal → masses_at supply a den rank rest ≡ Err refusal
rank-masses-fail supply a den rank count rest after left mid mosts refusal e same h first fails =
    let masses : FailsIn (mass_fields supply a den rank) mid refusal = subst (λ (fs : List Field). FailsIn fs mid refusal) (ap (map amount_field) same ∙ mass-fields supply a den rank) fails in
    rank-fails supply a den rank rest refusal (numbers-fail (codes "mass") (count_fields a rank) (mass_fields supply a den rank) count rest after left mid (count_numbers a rank) refusal (fields-long supply a den rank count e) h first masses)

-- ---- all ranks

pub masses-more : (supply : Supply) (a : SymmetricAuction) (den : ℤ) (rank : ℕ) (start now next : Rest) (numbers more : List ℤ) → masses_to supply a den rank start ≡ Ok (numbers, now) → masses_at supply a den rank now ≡ Ok (more, next)
    → masses_to supply a den (rank + 1) start ≡ Ok (numbers ++ more, next)
masses-more supply a den rank start now next numbers more h one = ap (λ (n : ℕ). masses_to supply a den n start) (add-one rank) ∙ rw (h, one) refl

pub masses-fail : (supply : Supply) (a : SymmetricAuction) (den : ℤ) (n rank : ℕ) (start now : Rest) (numbers : List ℤ) (refusal : AnswerRefusal) → rank < n → masses_to supply a den rank start ≡ Ok (numbers, now) → masses_at supply a den rank now ≡ Err refusal
    → masses_to supply a den n start ≡ Err refusal
masses-fail supply a den zero rank start now numbers refusal l h one = absurd (omega arith)
masses-fail supply a den (suc n) rank start now numbers refusal l h one = elim (cases_lt rank n) [
  | inl below ↦ rw (masses-fail supply a den n rank start now numbers refusal below h one) refl
  | inr past ↦ (let e : rank ≡ n = omega arith in let first = rw e at h in let second = rw e at one in rw (first, second) refl)
]

plain-fails : (supply : Supply) (a : SymmetricAuction) (den : ℤ) (start : Rest) (refusal : AnswerRefusal) → masses_to supply a den (rank_count a) start ≡ Err refusal → masses_over supply a den start ≡ Err refusal
plain-fails supply a den start refusal h = rw h refl

pub over-fails : (supply : Supply) (a : SymmetricAuction) (den over : ℤ) (start : Rest) (refusal : AnswerRefusal) → den ≡ over → masses_to supply a den (rank_count a) start ≡ Err refusal → masses_over supply a over start ≡ Err refusal
over-fails supply a den over start refusal e h = subst (λ (z : ℤ). masses_over supply a z start ≡ Err refusal) e (plain-fails supply a den start refusal h)

pub over-read : (supply : Supply) (a : SymmetricAuction) (den : ℤ) (rank : ℕ) (start after : Rest) (rows : List ℤ) → rank ≡ rank_count a → masses_to supply a den rank start ≡ Ok (rows, after)
    → masses_over supply a den start ≡ Ok (record { den = den; rows = rows }, after)
over-read supply a den rank start after rows e h = let whole = rw e at h in rw whole refl
