-- What the code reads of a condensed dictionary is the certificate of the dictionary.
use Rattle.std.proofs.Common.{◌≡◌, ◌≢◌, ℕ, ◌+◌, ◌-◌, ◌*◌, ◌^◌, ◌<◌, ◌≤◌, ◌&&◌, ◌==◌, nat_le, Bool, true, false, if◌then◌else◌, ℤ, pos, ◌*ℤ◌, neg_ℤ, None, Some, List, length, slice_index, inl, inr, sym, ap, ◌∙◌, subst, arith, pow_mono}
use Rattle.std.proofs.lemmas.Bool.{cases_lt}
use Rattle.md_num.specs.Limits.{limit_of}
use Rattle.md_math.specs.Lists.{list_to, number_at}
use Rattle.md_math.specs.Sizes.{IsWithin}
use Rattle.md_math.proofs.Builders.{length-list_to, get_or-list_to}
use Rattle.md_math.proofs.LexLaws.{IsLexNonNegative-from_positive}
use Rattle.md_math.proofs.SizeLaws.{IsWithin-wider, IsWithin-neg_ℤ, IsWithin-zero, AllWithin-number_at}
use Rattle.md_lp.specs.Program.{Program, row_count}
use Rattle.md_cert.specs.Certified.{Certified}
use Rattle.md_cert.specs.Fitting.{Fits}
use Rattle.md_cert.specs.declared.certificate.Certificate.{Certificate}
use Rattle.md_dict.specs.Condensed.{Condensed, Holds, basic_at, entry_at, IsShapedDictionary}
use Rattle.md_dict.specs.Dictionary.{basic_value, IsScaledDictionary}
use Rattle.md_dict.specs.FirstTable.{column_count, sign_at, first_entry}
use Rattle.md_dict.proofs.Exchange.{entry-kept, entry-basic, entry-right}
use Rattle.md_simplex.specs.declared.step.Step.{Step}
use Rattle.md_simplex.specs.Rules.{HasNoRow, key}
use Rattle.md_simplex.specs.Reading.{IsAtBasis, multiplier_at, IsReadList, IsReadOver, IsPointReading, IsRayReading, IsReading, HasRightSides, IsLast}
use Rattle.md_simplex.specs.ReadingSteps.{IsPut, basic_number_at}
use Rattle.md_simplex.proofs.PositiveRows.{HasPositiveRows}
use Rattle.md_simplex.proofs.RawReading.{not_basic}
use Rattle.md_simplex.proofs.ReadCertified.{reading_certified, last_in}
use Rattle.md_simplex.proofs.Reduced.{list-of_same, over-of_same}
use Rattle.md_simplex.proofs.ReadFits.{reading_fits}

-- rows whose lists are lexicographically positive have right sides of at least 0
pub HasRightSides-positive : (m n : ℕ) (e : ℕ → ℕ → ℤ) → HasPositiveRows m n e → HasRightSides m n e
HasRightSides-positive m n e h = record {
  nonneg = λ r a. (IsLexNonNegative-from_positive (m + 1) (λ k. e r (key m n k)) (h.rows r a)).at 0 (omega arith) (λ j b. absurd (omega arith));
}

-- ---- the numbers of the code

module _ (p : Program) (d : Condensed) (h : Holds p d) where
  pub scaled_of : IsScaledDictionary (row_count p) (column_count p) (first_entry p) (basic_at d) d.den (entry_at d)
  scaled_of =
      subst (λ m. IsScaledDictionary m (column_count p) (first_entry p) (basic_at d) d.den (entry_at d)) h.rows
      (subst (λ n. IsScaledDictionary d.rows n (first_entry p) (basic_at d) d.den (entry_at d)) h.columns h.dictionary.scaled)

  -- the list has the multipliers
  multipliers-are : (row : ℕ) (numbers : List ℤ) → numbers ≡ list_to d.rows (λ k. sign_at p k *ℤ entry_at d row (d.columns + k)) → (k : ℕ) → k < row_count p → number_at numbers k ≡ multiplier_at p (entry_at d) row k
  multipliers-are row numbers e k b =
      let rows : d.rows ≡ row_count p = h.rows in
      ap (λ xs. number_at xs k) e
      ∙ get_or-list_to d.rows (λ k. sign_at p k *ℤ entry_at d row (d.columns + k)) k (pos 0) (omega arith)
      ∙ ap (λ n. sign_at p k *ℤ entry_at d row (n + k)) h.columns

  multipliers-long : (row : ℕ) (numbers : List ℤ) → numbers ≡ list_to d.rows (λ k. sign_at p k *ℤ entry_at d row (d.columns + k)) → length numbers ≡ row_count p
  multipliers-long row numbers e = ap length e ∙ length-list_to d.rows (λ k. sign_at p k *ℤ entry_at d row (d.columns + k)) ∙ h.rows

  pub face_read : (numbers face : List ℤ) → numbers ≡ list_to d.rows (λ k. sign_at p k *ℤ entry_at d d.rows (d.columns + k)) → IsReadList (length numbers) (number_at numbers) face → IsReadList (row_count p) (multiplier_at p (entry_at d) (row_count p)) face
  face_read numbers face e q =
      list-of_same (row_count p) (number_at numbers) (multiplier_at p (entry_at d) (row_count p)) face
      (λ k b. multipliers-are d.rows numbers e k b ∙ ap (λ m. multiplier_at p (entry_at d) m k) h.rows)
      (subst (λ n. IsReadList n (number_at numbers) face) (multipliers-long d.rows numbers e) q)

  pub main_read : (numbers main : List ℤ) (over : ℤ) → numbers ≡ list_to d.rows (λ k. sign_at p k *ℤ entry_at d (d.rows + 1) (d.columns + k)) → IsReadOver (length numbers) d.den (number_at numbers) over main → IsReadOver (row_count p) d.den (multiplier_at p (entry_at d) (row_count p + 1)) over main
  main_read numbers main over e q =
      over-of_same (row_count p) d.den (number_at numbers) (multiplier_at p (entry_at d) (row_count p + 1)) over main
      (λ k b. multipliers-are (d.rows + 1) numbers e k b ∙ ap (λ m. multiplier_at p (entry_at d) (m + 1) k) h.rows)
      (subst (λ n. IsReadOver n d.den (number_at numbers) over main) (multipliers-long (d.rows + 1) numbers e) q)

  pub point_read : (numbers point : List ℤ) (over : ℤ) → length numbers ≡ p.columns → IsAtBasis p.columns d.rows (basic_at d) (basic_number_at d.rows d.columns (entry_at d) None) (number_at numbers) → IsReadOver (length numbers) d.den (number_at numbers) over point → IsPointReading p (basic_at d) d.den (entry_at d) over point
  point_read numbers point over long at q = record {
    x = number_at numbers;
    read = record {
      basic = λ r a b. at.basic r (let e : d.rows ≡ row_count p = h.rows in omega arith) b ∙ ap (entry_at d r) (let e : d.rows ≡ row_count p = h.rows in let f : d.columns ≡ column_count p = h.columns in let g : d.columns + d.rows ≡ column_count p + row_count p = omega arith in g);
      other = λ j b none. at.other j b (λ r a. none r (let e : d.rows ≡ row_count p = h.rows in omega arith));
    };
    divided = subst (λ n. IsReadOver n d.den (number_at numbers) over point) long q;
  }

  pub ray_read : (column : ℕ) (before numbers ray : List ℤ) → column < d.columns → HasNoRow d.rows (entry_at d) column → length before ≡ p.columns → IsAtBasis p.columns d.rows (basic_at d) (basic_number_at d.rows d.columns (entry_at d) (Some column)) (number_at before) → IsPut column d.den before numbers → IsReadList (length numbers) (number_at numbers) ray → IsRayReading p (basic_at d) d.den (entry_at d) column ray
  ray_read column before numbers ray inside none long at put q = record {
    x = number_at numbers;
    read = record {
      entering = λ b. put.there (omega arith);
      basic = λ r a b. put.others (basic_at d r) (apart r a) ∙ at.basic r (let e : d.rows ≡ row_count p = h.rows in omega arith) b;
      other = λ j b o free. put.others j o ∙ at.other j b (λ r a. free r (let e : d.rows ≡ row_count p = h.rows in omega arith));
    };
    divided = subst (λ n. IsReadList n (number_at numbers) ray) (put.same_length ∙ long) q;
  }
    where
      apart : (r : ℕ) → r < row_count p → basic_at d r ≢ column
      apart r a =
          not_basic p (basic_at d) d.den (entry_at d) scaled_of column (let f : d.columns ≡ column_count p = h.columns in omega arith)
          (subst (λ m. HasNoRow m (entry_at d) column) h.rows none) r a

  -- ---- the certificate

  module _ (step : Step) (sides : HasRightSides d.rows d.columns (entry_at d)) (last : IsLast d.rows d.columns (entry_at d) step) where
    last_of : IsLast (row_count p) (column_count p) (entry_at d) step
    last_of = subst (λ m. IsLast m (column_count p) (entry_at d) step) h.rows (subst (λ n. IsLast d.rows n (entry_at d) step) h.columns last)

    sides_of : HasRightSides (row_count p) (column_count p) (entry_at d)
    sides_of = subst (λ m. HasRightSides m (column_count p) (entry_at d)) h.rows (subst (λ n. HasRightSides d.rows n (entry_at d)) h.columns sides)

    pub certified_of : (c : Certificate) → IsReading p (basic_at d) d.den (entry_at d) step c → Certified p c
    certified_of c q = reading_certified p (basic_at d) d.den (entry_at d) scaled_of sides_of step c last_of q

    pub fits_of : (c : Certificate) → IsShapedDictionary d → IsReading p (basic_at d) d.den (entry_at d) step c → Fits p c
    fits_of c shape q =
        reading_fits p (basic_at d) d.den (entry_at d) (narrow_size d.den shape.den_size)
        (record { entries = λ r j a b. narrow_size (entry_at d r j) (within r j) }) step c (last_in (row_count p) (column_count p) (entry_at d) step last_of) q (certified_of c q)
      where
        narrow_size : (z : ℤ) → IsWithin (limit_of d.bits) z → IsWithin (2 ^ 62 - 1) z
        narrow_size z w = IsWithin-wider (limit_of d.bits) (2 ^ 62 - 1) z (let l : 2 ^ d.bits ≤ 2 ^ 62 = pow_mono shape.most_bits in omega arith) w

        basic_within : (k j r : ℕ) → IsWithin (limit_of d.bits) (basic_value d.rows d.columns d.den k j r)
        basic_within k j r = by_tests (r == k) ((r == d.rows) && nat_le d.columns j)
          where
            by_tests : (own face : Bool) → IsWithin (limit_of d.bits) (if own then d.den else (if face then neg_ℤ d.den else pos 0))
            by_tests true face = shape.den_size
            by_tests false true = IsWithin-neg_ℤ (limit_of d.bits) d.den shape.den_size
            by_tests false false = IsWithin-zero (limit_of d.bits)

        within : (r j : ℕ) → IsWithin (limit_of d.bits) (entry_at d r j)
        within r j =
            elim (cases_lt j (d.columns + d.rows)) [
              | inr l ↦ subst (IsWithin (limit_of d.bits)) (sym (entry-right d r j l)) (AllWithin-number_at (limit_of d.bits) d.kept (r * (d.columns + 1) + d.columns) shape.kept_size)
              | inl l ↦
                  elim (cases_lt (slice_index d.seat j) d.columns) [
                    | inl k ↦ subst (IsWithin (limit_of d.bits)) (sym (entry-kept d r j l k)) (AllWithin-number_at (limit_of d.bits) d.kept (r * (d.columns + 1) + slice_index d.seat j) shape.kept_size)
                    | inr k ↦ subst (IsWithin (limit_of d.bits)) (sym (entry-basic d r j l k)) (basic_within (slice_index d.seat j - d.columns) j r)
                  ]
            ]
