-- Masses that are written are read as the same masses.
use Rattle.std.proofs.Common.{◌≡◌, ℕ, zero, suc, ◌+◌, ◌*◌, ◌/◌, ◌%◌, ◌<◌, ◌≤◌, ℤ, pos, ◌*ℤ◌, ◌≤ℤ◌, true, ◌&&◌, int_le, nat_le, List, [], ◌∷◌, ◌++◌, map, drop, get_or, length, codes, Some, Ok, refl, sym, ap, subst, ◌∙◌, arith, add-zero, append-nil, le_trans, All}
use Rattle.std.specs.Prelude.{unsigned_abs}
use Rattle.std.proofs.lemmas.Int.{ints}
use Rattle.std.proofs.lemmas.List.{ext_get_or}
use Rattle.std.proofs.lemmas.Nat.{div_below, mod_below, div-add-mod'}
use Rattle.std.proofs.lemmas.List.Elements.{All-nil}
use Rattle.md_math.specs.Lists.{number_at, list_to, up_to}
use Rattle.md_math.specs.Sizes.{IsWithin}
use Rattle.md_math.specs.Sums.{total, sum_to}
use Rattle.md_math.proofs.Builders.{length-list_to, get_or-list_to, length-up_to, get_or-up_to, All-list_to}
use Rattle.md_math.proofs.TotalLaws.{total_by-list_to}
use Rattle.md_num.specs.WholeText.{text_of}
use Rattle.md_setting.specs.Auction.{SymmetricAuction, value_count}
use Rattle.md_setting.specs.AuctionShaped.{IsAuction}
use Rattle.md_mech.specs.Accepted.{number_limit}
use Rattle.md_expost.specs.declared.masses.Masses.{Masses}
use Rattle.md_expost.specs.Masses.{rank_count, cap_at, mass_at}
use Rattle.md_unit_tables.proofs.NetLaws.{count-few}
use Rattle.md_parts.specs.Fields.{Field, is_place, is_amount, amount_field}
use Rattle.md_parts.specs.Reading.{◌>>=◌, nothing_more, read_record}
use Rattle.md_parts.specs.Rows.{number_row}
use Rattle.md_parts.specs.Written.{Holds, IsWrittenBefore}
use Rattle.md_parts.proofs.NumbersRead.{IsInField}
use Rattle.md_parts.proofs.WrittenRecords.{holds-none, number_field-holds}
use Rattle.md_parts.proofs.WrittenTables.{written-then, written-as, written-record}
use Rattle.md_parts.proofs.WrittenParts.{IsSome}
use Rattle.md_answer.specs.MassRecords.{count_numbers, mass_row, mass_rows}
use Rattle.md_answer.specs.MassReading.{count_field, count_fields, most_mass, weight_at, mass_fields, adding_at_most, masses_at, masses_to, masses_over}
use Rattle.md_answer.specs.Supplies.{AreMassesOf, units_in}
use Rattle.md_answer.specs.declared.supply.Supply.{Supply}
use Rattle.md_answer.proofs.FieldsKnown.{built-hold}
use Rattle.md_answer.proofs.MassSteps.{count_of, masses-behind}
use Rattle.md_answer.proofs.MassTables.{AreTold, told-of_table, told-small}

abbrev Rows : Type 0
Rows = List (List (List ℕ))

-- ---- one rank

count-passes : (count : ℕ) → is_place count (count + 1) (pos count) ≡ true
count-passes count = grind (arith, ints)

count-holds : (count : ℕ) → count ≤ 12 → count_field count (text_of (pos count)) ≡ Some (pos count)
count-holds count l = number_field-holds 62 (is_place count (count + 1)) (pos count) (omega arith) (record { passes = count-passes count; small = record { within = omega arith } })

amount-passes : (most : ℕ) (z : ℤ) → pos 0 ≤ℤ z → unsigned_abs z ≤ most → is_amount most z ≡ true
amount-passes most z n l = both (first n) (second l)
  where
    first : pos 0 ≤ℤ z → int_le (pos 0) z ≡ true
    first n = grind (arith, ints)

    second : unsigned_abs z ≤ most → nat_le (unsigned_abs z) most ≡ true
    second l = grind (arith, ints)

    both : int_le (pos 0) z ≡ true → nat_le (unsigned_abs z) most ≡ true → is_amount most z ≡ true
    both e f = rw (e, f) refl

true-int_le : (a z : ℤ) → a ≤ℤ z → int_le a z ≡ true
true-int_le a z h = grind (arith, ints)

adding-written : (others : Rows) (most : ℤ) (numbers : List ℤ) → total numbers ≤ℤ most → IsWrittenBefore others (adding_at_most most numbers) [] numbers
adding-written others most numbers l = record { read = λ n. rw (true-int_le (total numbers) most l, add-zero n) refl }

abbrev masses_in : SymmetricAuction → Masses → ℕ → List ℤ
masses_in a y rank = list_to (value_count a) (mass_at a y rank)

module _ (supply : Supply) (a : SymmetricAuction) (y : Masses) (shaped : IsAuction a) (are : AreMassesOf supply a y) (small : y.den ≤ℤ pos number_limit) where
  told : AreTold supply a y
  told = told-of_table supply a y shaped are small

  mass-holds : (rank v : ℕ) → rank < rank_count a → v < value_count a → amount_field (most_mass supply (weight_at a y.den rank) (count_of a rank v)) (text_of (mass_at a y rank v)) ≡ Some (mass_at a y rank v)
  mass-holds rank v b l =
      let z = mass_at a y rank v in
      let most = most_mass supply (weight_at a y.den rank) (count_of a rank v) in
      number_field-holds 126 (is_amount most) z (omega arith)
      (record { passes = amount-passes most z (told.nonneg rank v b l) (told.most rank v b l); small = told-small supply a y rank v shaped are small b l })

  row-holds : (rank : ℕ) → rank < rank_count a
      → Holds (count_fields a rank ++ mass_fields supply a y.den rank) (map text_of (count_numbers a rank ++ masses_in a y rank)) (count_numbers a rank ++ masses_in a y rank)
  row-holds rank b =
      let k = value_count a in
      let fields = mass_fields supply a y.den rank in
      let second = built-hold k (λ v. amount_field (most_mass supply (weight_at a y.den rank) (count_of a rank v))) (mass_at a y rank) [] [] (λ v l. mass-holds rank v b l) holds-none in
      let ends = append-nil fields in
      let numbers = append-nil (masses_in a y rank) in
      let masses_hold : Holds fields (map text_of (masses_in a y rank)) (masses_in a y rank) =
      subst (λ (fs : List Field). Holds fs (map text_of (masses_in a y rank)) (masses_in a y rank)) ends (subst (λ (xs : List ℤ). Holds (fields ++ []) (map text_of xs) xs) numbers second) in
      built-hold k (λ v. count_field (count_of a rank v)) (λ v. pos (count_of a rank v)) fields (masses_in a y rank)
      (λ v l. count-holds (count_of a rank v) (le_trans (count-few a rank v b l) shaped.few_bidders)) masses_hold

  rank-written : (rank : ℕ) (others : Rows) → rank < rank_count a → IsWrittenBefore others (masses_at supply a y.den rank) (mass_row a y rank ∷ []) (masses_in a y rank)
  rank-written rank others b =
      let numbers = count_numbers a rank ++ masses_in a y rank in
      let fields = count_fields a rank ++ mass_fields supply a y.den rank in
      let most = pos (units_in supply) *ℤ cap_at a y.den rank in
      let adds : total (masses_in a y rank) ≤ℤ most = subst (λ (z : ℤ). z ≤ℤ most) (sym (total_by-list_to (λ x. x) (value_count a) (mass_at a y rank))) (told.over rank b) in
      let behind = masses-behind a rank (masses_in a y rank) in
      written-then others (read_record (codes "mass") fields) (λ found. adding_at_most most (drop (value_count a) found)) (mass_row a y rank ∷ []) [] numbers (masses_in a y rank)
      (written-record others (codes "mass") fields (map text_of numbers) numbers (row-holds rank b))
      (rw behind (adding-written others most (masses_in a y rank) adds))

  -- ---- all ranks

  ranks-written : (n : ℕ) (others : Rows) → n ≤ rank_count a → IsWrittenBefore others (masses_to supply a y.den n) (list_to n (mass_row a y)) (up_to n (masses_in a y))
  ranks-written zero others l = record { read = λ n. rw (add-zero n) refl }
  ranks-written (suc n) others l =
      written-then others (masses_to supply a y.den n) (λ before. masses_at supply a y.den n >>= (λ last. nothing_more (before ++ last))) (list_to n (mass_row a y)) (mass_row a y n ∷ []) (up_to n (masses_in a y)) (up_to (suc n) (masses_in a y))
      (ranks-written n (mass_row a y n ∷ others) (omega arith))
      (written-as others (masses_at supply a y.den n) (λ last. up_to n (masses_in a y) ++ last) (mass_row a y n ∷ []) (masses_in a y n) (rank-written n others (omega arith)))

  -- the masses of all ranks are those of the table
  all-masses : up_to (rank_count a) (masses_in a y) ≡ y.rows
  all-masses =
      let w = value_count a in
      let some : 0 < w = let l = shaped.some_value in omega (arith, l) in
      let each : (r : ℕ) → r < rank_count a → length (masses_in a y r) ≡ w = λ r l. length-list_to w (mass_at a y r) in
      let long = length-up_to (rank_count a) w (masses_in a y) each in
      let whole = told.whole in
      ext_get_or (pos 0) (up_to (rank_count a) (masses_in a y)) y.rows (long ∙ sym whole) (λ i l.
      let below : i < rank_count a * w = omega (arith, long, l) in
      let rest = mod_below i w some in
      let place : i ≡ (i / w) * w + i % w = omega (arith, div-add-mod' i w) in
      ap (λ k. get_or (up_to (rank_count a) (masses_in a y)) k (pos 0)) place
      ∙ get_or-up_to (rank_count a) w (i / w) (i % w) (masses_in a y) (pos 0) each (div_below i w (rank_count a) some below) rest
      ∙ get_or-list_to w (mass_at a y (i / w)) (i % w) (pos 0) rest ∙ ap (λ k. number_at y.rows k) (sym place))

  pub masses-written : (others : Rows) → IsWrittenBefore others (masses_over supply a y.den) (mass_rows a y) y
  masses-written others =
      written-as others (masses_to supply a y.den (rank_count a)) (λ rows. record { den = y.den; rows = rows }) (mass_rows a y) y.rows
      (subst (λ (xs : List ℤ). IsWrittenBefore others (masses_to supply a y.den (rank_count a)) (mass_rows a y) xs) all-masses (ranks-written (rank_count a) others (omega arith)))

-- no record is empty
pub masses-some : (a : SymmetricAuction) (y : Masses) → All IsSome (mass_rows a y)
masses-some a y = All-list_to IsSome (rank_count a) (mass_row a y) (λ rank l. omega arith)
