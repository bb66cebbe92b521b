-- A row that a pivot changed, and its old numbers.
use Rattle.std.proofs.Common.{◌≡◌, ℕ, ◌+◌, ◌*◌, ◌<◌, ◌≤◌, List, length, Option, Some, None, IfSome, ℤ, ◌-ℤ◌, ◌*ℤ◌, sym, ap, ap₂, ◌∙◌, arith}
use borrow.Rule.Slice.PartMut.{put_mid}
use Rattle.md_math.specs.Lists.{number_at}
use Rattle.md_math.proofs.Ring.{linear, ring, *ℤ_assoc}
use Rattle.md_dict.specs.declared.step.Step.{Step}
use Rattle.md_dict.specs.declared.rows.Rows.{Rows}
use Rattle.md_dict_rows.specs.declared.combination.Combination.{Combination}
use Rattle.md_dict_rows.specs.declared.combination.LeastRow.{LeastRow}
use Rattle.md_dict.specs.Step.{number_in, IsTable}
use Rattle.md_dict_rows.specs.Combination.{IsReducedTo}
use Rattle.md_dict.specs.RowStep.{CanBeTurnedBack, IsCombinationOf, IsOwnRow, IsRowStep}
use Rattle.md_dict.proofs.Parts.{end_inside, within_part}
use Rattle.md_dict_rows.proofs.Reducing.{combined_beside}

-- a difference of two products, each of whose factors is multiplied
difference_times : (k m a f b : ℤ) → k *ℤ (m *ℤ a -ℤ f *ℤ b) ≡ (k *ℤ m) *ℤ a -ℤ (k *ℤ f) *ℤ b
difference_times k m a f b = simp ring (omega (arith, linear))

-- a combined row that is written in least terms can be turned back
pub turned_combined : (step : Step) (rows : Rows) (i : ℕ) (c : Combination) (own taken fresh new : List ℤ) (k : ℕ) (result : Option LeastRow) → IsRowStep step rows → i < step.rows + 2 → IsCombinationOf step rows i c → IsOwnRow rows i own → IsOwnRow rows step.row taken → IsTable step fresh → length new ≡ step.columns + 1 → IfSome result (λ least. IsReducedTo c own taken least new) → IfSome result (λ least. CanBeTurnedBack step rows i least.den (number_in step (put_mid (i * (step.columns + 1)) k fresh new) i))
turned_combined step rows i c own taken fresh new k None h b is o t table long told = told
turned_combined step rows i c own taken fresh new k (Some least) h b is o t table long told =
    let terms = told.terms in
    let start : i * (step.columns + 1) ≤ length fresh = omega (arith, end_inside (step.columns + 1) i 0 (step.rows + 2) b (omega arith), table.kept_length) in
    record {
      divisor = is.common *ℤ terms.divisor;
      den_is =
          *ℤ_assoc is.common terms.divisor least.den
          ∙ ap (λ z. is.common *ℤ z) terms.den_is
          ∙ sym (*ℤ_assoc is.common c.multiplier c.den)
          ∙ ap₂ (λ x y. x *ℤ y) is.multiplier is.den;
      numbers = record {
        at = λ s a p.
            ap (λ z. (is.common *ℤ terms.divisor) *ℤ z) (within_part (i * (step.columns + 1)) k s fresh new start (omega (arith, a, long)))
            ∙ *ℤ_assoc is.common terms.divisor (number_at new s)
            ∙ ap (λ z. is.common *ℤ z) (terms.numbers s (omega (arith, a, o.long, h.width)) ∙ combined_beside c own taken s (λ e. p (e ∙ is.place)))
            ∙ difference_times is.common c.multiplier (number_at own s) c.factor (number_at taken s)
            ∙ ap₂ (λ x y. x -ℤ y) (ap₂ (λ x y. x *ℤ y) is.multiplier (o.numbers s (omega (arith, a, h.width)))) (ap₂ (λ x y. x *ℤ y) is.factor (t.numbers s (omega (arith, a, h.width))));
      };
    }
