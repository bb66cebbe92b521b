-- The programs of a sale are what a cut run goes over.
use Rattle.std.proofs.Common.{◌≡◌, ℕ, ◌<◌, ℤ, pos, ◌-ℤ◌, ◌*ℤ◌, ◌≤ℤ◌, ◌<ℤ◌, List, length, refl, sym, ap, ◌∙◌, subst, arith}
use Rattle.std.proofs.lemmas.Int.{ints}
use Rattle.md_math.specs.Lists.{number_at}
use Rattle.md_math.specs.Sizes.{IsWithin, AllWithin}
use Rattle.md_math.proofs.Builders.{length-list_to, get_or-list_to}
use Rattle.md_math.proofs.SizeLaws.{AllWithin-number_at, IsWithin-difference}
use Rattle.md_setting.specs.Setting.{GeneralSetting}
use Rattle.md_setting.specs.Shaped.{IsShaped}
use Rattle.md_lp.proofs.WorstLaws.{worst-same, none_over-same}
use Rattle.md_mech.specs.Accepted.{number_limit}
use Rattle.md_cut_runs.specs.Cutting.{IsCutPoint, IsCutting}
use Rattle.md_cut_runs.specs.Worst.{IsWorst, NoneOver}
use Rattle.md_cut_runs.proofs.OneProgram.{shown-of}
use Rattle.md_asym_sale.specs.Forms.{pay_in}
use Rattle.md_asym_sale.specs.ProgramOf.{column_count}
use Rattle.md_asym_sale.specs.Sale.{IsSale}
use Rattle.md_asym_sale.specs.Sides.{demands_in, right_of}
use Rattle.md_asym_sale.specs.Values.{pairs_of}
use Rattle.md_asym_laws.specs.Points.{MeetsSale}
use Rattle.md_asym_laws.proofs.BoundLaws.{bounded}
use Rattle.md_asym_laws.proofs.CutRunLaws.{cut-kept, empty-kept, has-point, one-program}
use Rattle.md_asym_laws.proofs.OddsLaws.{listed-demands}
use Rattle.md_asym_laws.proofs.PointLaws.{odds-at_most, odds-nonneg}
use Rattle.md_asym_tables.specs.Odds.{AreOdds, IsWorstSet, MeetsBorder, excess_of}
use Rattle.md_asym.specs.Gains.{odds_in, pays_in}
use Rattle.md_asym_solve.specs.SaleCuts.{sale_cutting}

-- ---- the cutting

-- a set whose demands keep to its right side is not over
less : (d r : ℤ) → d ≤ℤ r → (d -ℤ r) ≤ℤ pos 0
less d r l = omega (arith, ints, l)

pub IsCutting-sale : (s : GeneralSetting) → IsSale s → IsShaped s → IsCutting (sale_cutting s)
IsCutting-sale s sale shaped = record {
  few = sale.few_types;
  one = λ cuts p q h k. shown-of p q (one-program s cuts p q h k);
  kept = λ cuts p den x k is meets b. less _ _ (cut-kept s cuts p den x k is meets b);
  empty = λ cuts p den x is meets. less _ _ (empty-kept s den x shaped meets.point.positive);
  has_point = λ cuts p is. has-point s cuts p shaped is;
  bounded = λ cuts p den x ray singles is. bounded s cuts p sale shaped is singles den x ray;
}

-- ---- points

meets-sale : (s : GeneralSetting) (den : ℤ) (point : List ℤ) → IsCutPoint (sale_cutting s) den point → MeetsSale s den (number_at point)
meets-sale s den point h = record { cuts = h.cuts; program = h.program; is_program = h.is_program; singles = h.singles; meets = h.meets }

pub point-length : (s : GeneralSetting) (den : ℤ) (point : List ℤ) → IsCutPoint (sale_cutting s) den point → length point ≡ column_count s
point-length s den point h = h.point_fits.one_each ∙ h.is_program.columns

pub odds-fit : (s : GeneralSetting) (den : ℤ) (point : List ℤ) → IsShaped s → IsCutPoint (sale_cutting s) den point → AreOdds s den (odds_in s (number_at point))
odds-fit s den point shaped h =
    let x = number_at point in
    let meets = meets-sale s den point h in
    record {
      den_positive = above den h.den_fits.positive;
      den_size = below den h.den_fits.size;
      one_each = length-list_to (pairs_of s) x;
      each = λ p b.
          subst (λ z. (pos 0 ≤ℤ z) × (z ≤ℤ den)) (sym (get_or-list_to (pairs_of s) x p (pos 0) b))
          (odds-nonneg s den x p meets b, odds-at_most s den x p shaped meets b);
    }
  where
    above : (z : ℤ) → pos 0 <ℤ z → pos 1 ≤ℤ z
    above z l = omega (arith, ints, l)

    below : (z : ℤ) → IsWithin number_limit z → z ≤ℤ pos number_limit
    below z w = omega (arith, ints, w.within)

pub pays-small : (s : GeneralSetting) (den : ℤ) (point : List ℤ) → IsCutPoint (sale_cutting s) den point → AllWithin number_limit (pays_in s (number_at point))
pays-small s den point h = record { at = λ p b. small p (subst (λ n. p < n) (length-list_to (pairs_of s) (pay_in s (number_at point))) b) }
  where
    x : ℕ → ℤ
    x = number_at point

    nonneg : (j : ℕ) → j < column_count s → pos 0 ≤ℤ x j
    nonneg j b = h.point_fits.nonneg j (subst (λ n. j < n) (sym h.is_program.columns) b)

    small : (p : ℕ) → p < pairs_of s → IsWithin number_limit (number_at (pays_in s x) p)
    small p b =
        subst (IsWithin number_limit) (sym (get_or-list_to (pairs_of s) (pay_in s x) p (pos 0) b))
        (IsWithin-difference number_limit _ _ (nonneg _ (omega (arith, b))) (nonneg _ (omega (arith, b)))
        (AllWithin-number_at number_limit point _ h.point_fits.sizes) (AllWithin-number_at number_limit point _ h.point_fits.sizes))

-- ---- worst sets

excess-listed : (s : GeneralSetting) (den : ℤ) (x : ℕ → ℤ) (set : ℕ) → excess_of s den (odds_in s x) set ≡ demands_in s x set -ℤ den *ℤ right_of s set
excess-listed s den x set = ap (λ d. d -ℤ den *ℤ right_of s set) (listed-demands s x set)

pub worst-of : (s : GeneralSetting) (den : ℤ) (x : ℕ → ℤ) (set : ℕ) → IsWorstSet s den (odds_in s x) set → IsWorst (sale_cutting s) den x set
worst-of s den x set = worst-same (pairs_of s) (pairs_of s) (excess_of s den (odds_in s x)) (λ other. demands_in s x other -ℤ den *ℤ right_of s other) set refl (excess-listed s den x)

pub none-over : (s : GeneralSetting) (den : ℤ) (x : ℕ → ℤ) → MeetsBorder s den (odds_in s x) → NoneOver (sale_cutting s) den x
none-over s den x = none_over-same (pairs_of s) (pairs_of s) (excess_of s den (odds_in s x)) (λ set. demands_in s x set -ℤ den *ℤ right_of s set) refl (excess-listed s den x)
