-- What is known of masses that were read.
use Rattle.std.proofs.Common.{◌≡◌, ℕ, zero, suc, ◌+◌, ◌*◌, ◌<◌, ◌≤◌, ◌^◌, ℤ, pos, ◌*ℤ◌, ◌≤ℤ◌, Bool, true, false, ◌&&◌, ◌==◌, int_le, nat_le, List, [], ◌∷◌, ◌++◌, drop, length, codes, Result, Ok, Err, if◌then◌else◌, refl, sym, ap, subst, ◌∙◌, arith, length-append, length-drop, eq-eqb, inl, inr}
use Rattle.std.specs.Prelude.{unsigned_abs, slice_index}
use Rattle.std.proofs.lemmas.Bool.{cases_lt}
use Rattle.std.proofs.lemmas.Int.{ints}
use Rattle.std.proofs.lemmas.List.{get_or_append_left, get_or-drop}
use Rattle.std.proofs.lemmas.Nat.{mul-add-lt}
use Rattle.md_math.specs.Lists.{number_at, list_to}
use Rattle.md_math.specs.Sums.{total, sum_to}
use Rattle.md_math.proofs.Builders.{length-list_to, number_at-behind}
use Rattle.md_math.proofs.SumLaws.{sum_to-same}
use Rattle.md_math.proofs.TotalLaws.{total_by-places}
use Rattle.md_setting.specs.Auction.{SymmetricAuction, value_count}
use Rattle.md_mech.specs.Accepted.{number_limit}
use Rattle.md_expost.specs.declared.masses.Masses.{Masses}
use Rattle.md_expost.specs.Masses.{rank_count, cap_at, mass_at}
use Rattle.md_parts.specs.declared.refusal.AnswerRefusal.{AnswerRefusal}
use Rattle.md_parts.specs.declared.refusal.AnswerRefusal.TheVariants.{Sum}
use Rattle.md_parts.specs.Fields.{is_amount, amount_field}
use Rattle.md_parts.specs.Reading.{Rest, read_record}
use Rattle.md_parts.proofs.NumbersRead.{number_field-is, record-was_read}
use Rattle.md_parts.proofs.Repeats.{not_both}
use Rattle.md_parts.proofs.Blocks.{IsBlockAt, in_two}
use Rattle.md_answer.specs.MassReading.{count_field, count_fields, most_mass, weight_at, mass_fields, adding_at_most, masses_at, masses_to, masses_over}
use Rattle.md_answer.specs.Supplies.{AreMassesOf, units_in}
use Rattle.md_answer.specs.declared.supply.Supply.{Supply}
use Rattle.md_answer.proofs.FieldsKnown.{fields-known, built-behind-known}
use Rattle.md_answer.proofs.MassSteps.{count_of}
use Rattle.md_answer.proofs.MassTables.{AreTold, table-of_told}

-- ---- one rank

-- the masses of a rank that was read
record AreMassesAt (supply : Supply) (a : SymmetricAuction) (den : ℤ) (rank : ℕ) (numbers : List ℤ) : Type 0 where
  pub long : length numbers ≡ value_count a
  pub nonneg : (v : ℕ) → v < value_count a → pos 0 ≤ℤ number_at numbers v
  pub most : (v : ℕ) → v < value_count a → unsigned_abs (number_at numbers v) ≤ most_mass supply (weight_at a den rank) (count_of a rank v)
  pub over : total numbers ≤ℤ (pos (units_in supply) *ℤ cap_at a den rank)

int_le-true : (a z : ℤ) → int_le a z ≡ true → a ≤ℤ z
int_le-true a z h = grind (arith, ints)

adding-if : (b : Bool) (numbers more : List ℤ) (rest after : Rest) → if◌then◌else◌ {A = Result (List ℤ × Rest) AnswerRefusal} b (Ok (numbers, rest)) (Err (Sum rest.read)) ≡ Ok (more, after) → (b ≡ true) × (numbers ≡ more)
adding-if true numbers more rest after h =
    let same : (numbers, rest) ≡ (more, after) = cc in (refl, ap (λ (p : List ℤ × Rest). p.0) same)
adding-if false numbers more rest after h = absurd (not_both (Sum rest.read) (more, after) h)

adding-known : (most : ℤ) (numbers more : List ℤ) (rest after : Rest) → adding_at_most most numbers rest ≡ Ok (more, after) → (total numbers ≤ℤ most) × (numbers ≡ more)
adding-known most numbers more rest after h =
    let p = adding-if (int_le (total numbers) most) numbers more rest after h in
    (int_le-true (total numbers) most p.0, p.1)

both-tests : (x y : Bool) → (x && y) ≡ true → (x ≡ true) × (y ≡ true)
both-tests true y h = (refl, h)
both-tests false y h = absurd (let e : false ≡ true = h in cc)

amount-known : (most : ℕ) (z : ℤ) → is_amount most z ≡ true → (pos 0 ≤ℤ z) × (unsigned_abs z ≤ most)
amount-known most z h =
    let p = both-tests (int_le (pos 0) z) (nat_le (unsigned_abs z) most) h in
    (int_le-true (pos 0) z p.0, small p.1)
  where
    small : nat_le (unsigned_abs z) most ≡ true → unsigned_abs z ≤ most
    small e = grind (arith, ints)

rank-known : (supply : Supply) (a : SymmetricAuction) (den : ℤ) (rank : ℕ) (rest after : Rest) (numbers : List ℤ) → masses_at supply a den rank rest ≡ Ok (numbers, after) → AreMassesAt supply a den rank numbers
rank-known supply a den rank rest after numbers h =
    let k = value_count a in
    let fields = count_fields a rank ++ mass_fields supply a den rank in
    let two = in_two (read_record (codes "mass") fields rest) _ numbers after h in
    let r = record-was_read (codes "mass") fields rest two.one two.mid two.first_is in
    let known = fields-known 2 fields r.texts two.one (let l = r.long in omega (arith, l)) r.read in
    let added = adding-known (pos (units_in supply) *ℤ cap_at a den rank) (drop k two.one) numbers two.mid after two.next_is in
    let counts : length (count_fields a rank) ≡ k = length-list_to k (λ v. count_field (count_of a rank v)) in
    let masses : length (mass_fields supply a den rank) ≡ k = length-list_to k (λ v. amount_field (most_mass supply (weight_at a den rank) (count_of a rank v))) in
    let long : length (drop k two.one) ≡ k = let l = known.long in length-drop k two.one ∙ omega (arith, l, length-append (count_fields a rank) (mass_fields supply a den rank), counts, masses) in
    let each : (v : ℕ) → v < k → (pos 0 ≤ℤ number_at (drop k two.one) v) × (unsigned_abs (number_at (drop k two.one) v) ≤ most_mass supply (weight_at a den rank) (count_of a rank v)) = λ v l.
    let one = built-behind-known k k (λ v. count_field (count_of a rank v)) (λ v. amount_field (most_mass supply (weight_at a den rank) (count_of a rank v))) two.one v known l in
    let field = number_field-is 126 (is_amount (most_mass supply (weight_at a den rank) (count_of a rank v))) one.text (number_at two.one (k + v)) (omega arith) one.holds in
    let behind : number_at (drop k two.one) v ≡ number_at two.one (k + v) = get_or-drop k two.one v (pos 0) in
    rw behind (amount-known (most_mass supply (weight_at a den rank) (count_of a rank v)) (number_at two.one (k + v)) field.passes) in
    subst (AreMassesAt supply a den rank) added.1 (record {
      long = long;
      nonneg = λ v l. (each v l).0;
      most = λ v l. (each v l).1;
      over = added.0;
    })

-- ---- all ranks

record AreRanked (supply : Supply) (a : SymmetricAuction) (den : ℤ) (n : ℕ) (rows : List ℤ) : Type 0 where
  pub long : length rows ≡ n * value_count a
  pub at : (rank : ℕ) → rank < n → IsBlockAt rows (value_count a) rank (AreMassesAt supply a den rank)

no-row : (w : ℕ) → 0 ≡ 0 * w
no-row w = grind arith

next-row : (n w : ℕ) → n * w + w ≡ suc n * w
next-row n w = grind arith

last-block : (supply : Supply) (a : SymmetricAuction) (den : ℤ) (n : ℕ) (before last : List ℤ) → length before ≡ n * value_count a → AreMassesAt supply a den n last → IsBlockAt (before ++ last) (value_count a) n (AreMassesAt supply a den n)
last-block supply a den n before last long h = record { block = last; long = h.long; has = h; at = λ o l. number_at-behind before last (n * value_count a) o long }

ranked-push : (supply : Supply) (a : SymmetricAuction) (den : ℤ) (n : ℕ) (before last : List ℤ) → AreRanked supply a den n before → AreMassesAt supply a den n last → AreRanked supply a den (suc n) (before ++ last)
ranked-push supply a den n before last h one = record {
  long = let l = h.long in let m = one.long in let e = next-row n (value_count a) in omega (arith, l, m, e, length-append before last);
  at = λ rank l. block_at rank l;
}
  where
    block_at : (rank : ℕ) → rank < suc n → IsBlockAt (before ++ last) (value_count a) rank (AreMassesAt supply a den rank)
    block_at rank l = elim (cases_lt rank n) [
      | inl below ↦ (
          let b = h.at rank below in
          let long = h.long in
          record {
            block = b.block;
            long = b.long;
            has = b.has;
            at = λ o m. get_or_append_left before last (pos 0) (rank * value_count a + o) (omega (arith, long, mul-add-lt rank (value_count a) o n below m)) ∙ b.at o m;
          }
          )
      | inr past ↦ (
          let e : n ≡ rank = omega arith in
          subst (λ (r : ℕ). IsBlockAt (before ++ last) (value_count a) r (AreMassesAt supply a den r)) e (last-block supply a den n before last h.long one)
          )
    ]

ranked-known : (supply : Supply) (a : SymmetricAuction) (den : ℤ) (n : ℕ) (rest after : Rest) (rows : List ℤ) → masses_to supply a den n rest ≡ Ok (rows, after) → AreRanked supply a den n rows
ranked-known supply a den zero rest after rows h =
    let same : ([], rest) ≡ (rows, after) = cc in
    subst (AreRanked supply a den zero) (ap (λ (p : List ℤ × Rest). p.0) same) (record { long = no-row (value_count a); at = λ rank l. absurd (omega arith) })
ranked-known supply a den (suc n) rest after rows h =
    let before = in_two (masses_to supply a den n rest) _ rows after h in
    let last = in_two (masses_at supply a den n before.mid) _ rows after before.next_is in
    let same : (before.one ++ last.one, last.mid) ≡ (rows, after) = cc in
    subst (AreRanked supply a den (suc n)) (ap (λ (p : List ℤ × Rest). p.0) same)
    (ranked-push supply a den n before.one last.one (ranked-known supply a den n rest before.mid before.one before.first_is) (rank-known supply a den n before.mid last.mid last.one last.first_is))

ranked-masses : (supply : Supply) (a : SymmetricAuction) (y : Masses) → pos 1 ≤ℤ y.den → y.den ≤ℤ pos number_limit → AreRanked supply a y.den (rank_count a) y.rows → AreTold supply a y
ranked-masses supply a y positive small h = record {
  den_positive = positive;
  den_size = small;
  whole = h.long;
  nonneg = λ rank v b l. let block = h.at rank b in rw (block.at v l) (block.has.nonneg v l);
  most = λ rank v b l. let block = h.at rank b in rw (block.at v l) (block.has.most v l);
  over = λ rank b. let block = h.at rank b in whole_at rank (pos (units_in supply) *ℤ cap_at a y.den rank) block.block block.long block.at block.has.over;
}
  where
    whole_at : (rank : ℕ) (given : ℤ) (block : List ℤ) → length block ≡ value_count a → ((v : ℕ) → v < value_count a → mass_at a y rank v ≡ number_at block v) → total block ≤ℤ given
        → sum_to (value_count a) (mass_at a y rank) ≤ℤ given
    whole_at rank given block long at over =
        let same : sum_to (value_count a) (mass_at a y rank) ≡ total block =
        sum_to-same (value_count a) (mass_at a y rank) (λ v. number_at block v) at ∙ ap (λ (n : ℕ). sum_to n (λ v. number_at block v)) (sym long) ∙ sym (total_by-places (λ x. x) block (pos 0)) in
        rw same over

-- masses that were read over a denominator in its range
pub masses-known : (supply : Supply) (a : SymmetricAuction) (den : ℤ) (rest after : Rest) (y : Masses) → pos 1 ≤ℤ den → den ≤ℤ pos number_limit → masses_over supply a den rest ≡ Ok (y, after)
    → AreMassesOf supply a y × (y.den ≡ den)
masses-known supply a den rest after y positive small h =
    let rows = in_two (masses_to supply a den (rank_count a) rest) _ y after h in
    let made : Masses = record { den = den; rows = rows.one } in
    let pair : (made, rows.mid) ≡ (y, after) = cc in
    subst (λ (m : Masses). AreMassesOf supply a m × (m.den ≡ den)) (ap (λ (p : Masses × Rest). p.0) pair)
    (table-of_told supply a made (ranked-masses supply a made positive small (ranked-known supply a den (rank_count a) rest rows.mid rows.one rows.first_is)), refl)
