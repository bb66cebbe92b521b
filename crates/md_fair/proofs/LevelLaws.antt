-- A level behind numbers for the setting's columns.
use Rattle.std.proofs.Common.{◌≡◌, ℕ, ◌+◌, ◌<◌, ℤ, pos, negsuc, ◌-ℤ◌, ◌≤ℤ◌, List, [], ◌∷◌, length, sym, ap, ◌∙◌, arith, length-append}
use Rattle.std.proofs.lemmas.Int.{ints}
use Rattle.std.proofs.lemmas.List.{get_or_append_left}
use Rattle.std.proofs.lemmas.List.Elements.{All-append, All-from_get_or, All-get_or}
use Rattle.md_math.specs.Lists.{number_at}
use Rattle.md_math.specs.Sizes.{IsWithin}
use Rattle.md_math.proofs.Builders.{number_at-behind}
use Rattle.md_setting.specs.Setting.{GeneralSetting}
use Rattle.md_setting.specs.Rows.{column_count}
use Rattle.md_mech.specs.Accepted.{number_limit}
use Rattle.md_lp.specs.Program.{Program}
use Rattle.md_cert.specs.Fitting.{FitsColumns}
use Rattle.md_forms.proofs.PointLaws.{all-one}
use Rattle.md_rows.specs.Points.{plus_part, minus_part}
use Rattle.md_fair.specs.FairPoints.{with_level}
use Rattle.md_fair.specs.FairProgram.{level_in}
use Rattle.md_fair.proofs.SameNumbers.{SameBelow}

-- ---- its parts

level-parts : (z : ℤ) → plus_part z -ℤ minus_part z ≡ z
level-parts (pos n) = omega (arith, ints)
level-parts (negsuc n) = omega (arith, ints)

plus-above : (z : ℤ) → pos 0 ≤ℤ plus_part z
plus-above (pos n) = omega (arith, ints)
plus-above (negsuc n) = omega (arith, ints)

minus-above : (z : ℤ) → pos 0 ≤ℤ minus_part z
minus-above (pos n) = omega (arith, ints)
minus-above (negsuc n) = omega (arith, ints)

parts-within : (limit : ℕ) (z : ℤ) → IsWithin limit z → IsWithin limit (plus_part z) × IsWithin limit (minus_part z)
parts-within limit (pos n) h = (h, record { within = omega arith })
parts-within limit (negsuc n) h = (record { within = omega arith }, record { within = h.within })

-- ---- behind the numbers

module _ (s : GeneralSetting) (xs : List ℤ) (level : ℤ) (size : length xs ≡ column_count s) where
  pub own-below : SameBelow (column_count s) (number_at xs) (number_at (with_level xs level))
  own-below j l = sym (get_or_append_left xs (plus_part level ∷ minus_part level ∷ []) (pos 0) j (rw size l))

  pub level-there : level_in s (number_at (with_level xs level)) ≡ level
  level-there =
      let start : column_count s ≡ column_count s + 0 = omega arith in
      let plus : number_at (with_level xs level) (column_count s) ≡ plus_part level =
      ap (number_at (with_level xs level)) start ∙ number_at-behind xs (plus_part level ∷ minus_part level ∷ []) (column_count s) 0 size in
      let minus : number_at (with_level xs level) (column_count s + 1) ≡ minus_part level =
      number_at-behind xs (plus_part level ∷ minus_part level ∷ []) (column_count s) 1 size in
      rw (plus, minus) (level-parts level)

  pub level-length : length (with_level xs level) ≡ column_count s + 2
  level-length = length-append xs (plus_part level ∷ minus_part level ∷ []) ∙ ap (λ n. n + 2) size

  -- what holds of the numbers and of both parts holds of each
  all-with : (P : ℤ → Type 0) → ((j : ℕ) → j < length xs → P (number_at xs j)) → P (plus_part level) → P (minus_part level)
      → (j : ℕ) → j < length (with_level xs level) → P (number_at (with_level xs level) j)
  all-with P own plus minus j l =
      All-get_or P (with_level xs level) j (pos 0) l
      (All-append P xs (plus_part level ∷ minus_part level ∷ []) (All-from_get_or P xs (pos 0) own)
      (All-append P (plus_part level ∷ []) (minus_part level ∷ []) (all-one P (plus_part level) plus) (all-one P (minus_part level) minus)))

  pub level-nonneg : ((j : ℕ) → j < column_count s → pos 0 ≤ℤ number_at xs j) → (j : ℕ) → j < column_count s + 2 → pos 0 ≤ℤ number_at (with_level xs level) j
  level-nonneg own j l = all-with (λ z. pos 0 ≤ℤ z) (λ k b. own k (omega (arith, b, size))) (plus-above level) (minus-above level) j (omega (arith, l, level-length))

  -- they fit a program of two columns more
  pub level-fits : (p own : Program) → p.columns ≡ column_count s + 2 → own.columns ≡ column_count s → FitsColumns own xs → IsWithin number_limit level → FitsColumns p (with_level xs level)
  level-fits p own columns own_columns h narrow =
      let parts = parts-within number_limit level narrow in
      record {
        one_each = level-length ∙ sym columns;
        sizes = record { at = λ k l. all-with (IsWithin number_limit) h.sizes.at parts.0 parts.1 k l };
        nonneg = λ j l. level-nonneg (λ k b. h.nonneg k (omega (arith, b, own_columns))) j (omega (arith, l, columns));
      }
