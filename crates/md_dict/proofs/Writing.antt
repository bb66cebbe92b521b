-- A number that is written into a table whose rows have one length.
use Rattle.std.proofs.Common.{◌≡◌, ◌≢◌, ℕ, suc, ◌+◌, ◌*◌, ◌^◌, ◌<◌, ◌≤◌, List, length, set, ℤ, pos, ◌∙◌, inl, inr, arith, mul-le-mul_right, length-set, get_or-set_same, get_or-set_other}
use Rattle.std.proofs.lemmas.Bool.{cases_lt}
use Rattle.md_math.specs.Sizes.{IsWithin}
use Rattle.md_math.proofs.SizeLaws.{AllWithin-set, IsWithin-wider}
use Rattle.md_dict.specs.declared.step.Step.{Step}
use Rattle.md_dict.specs.Step.{number_in, IsTable}

-- ---- places in rows of one length

-- rows of one length do not overlap
pub row_before : (w i s k t : ℕ) → s < w → i < k → i * w + s < k * w + t
row_before w i s k t a l =
    let le : suc i * w ≤ k * w = mul-le-mul_right w l in
    omega (arith, le)

pub same_row : (w i s k t : ℕ) → s < w → t < w → i * w + s ≡ k * w + t → i ≡ k
same_row w i s k t a b e =
    elim (cases_lt i k) [
      | inl l ↦ absurd (let h : i * w + s < k * w + t = row_before w i s k t a l in omega arith)
      | inr l ↦
          elim (cases_lt k i) [
            | inl m ↦ absurd (let h : k * w + t < i * w + s = row_before w k t i s b m in omega arith)
            | inr m ↦ omega arith
          ]
    ]

pub place_inside : (w i s rows : ℕ) → s < w → i < rows → i * w + s < rows * w
place_inside w i s rows a b = let h : i * w + s < rows * w + 0 = row_before w i s rows 0 a b in omega arith

-- ---- a number that is written

-- the number at the place that is written
pub written_here : (step : Step) (kept : List ℤ) (i s : ℕ) (x : ℤ) → i * (step.columns + 1) + s < length kept → number_in step (set kept (i * (step.columns + 1) + s) x) i s ≡ x
written_here step kept i s x a = get_or-set_same kept (i * (step.columns + 1) + s) x (pos 0) a

-- another place of the same row
pub written_beside : (step : Step) (kept : List ℤ) (i s t : ℕ) (x : ℤ) → t ≢ s → number_in step (set kept (i * (step.columns + 1) + s) x) i t ≡ number_in step kept i t
written_beside step kept i s t x o = get_or-set_other kept (i * (step.columns + 1) + s) (i * (step.columns + 1) + t) x (pos 0) (λ e. o (omega arith))

-- a place of another row
pub written_elsewhere : (step : Step) (kept : List ℤ) (i s k t : ℕ) (x : ℤ) → k ≢ i → s < step.columns + 1 → t < step.columns + 1 → number_in step (set kept (i * (step.columns + 1) + s) x) k t ≡ number_in step kept k t
written_elsewhere step kept i s k t x o a b =
    get_or-set_other kept (i * (step.columns + 1) + s) (k * (step.columns + 1) + t) x (pos 0) (λ e. o (same_row (step.columns + 1) k t i s b a e))

pub IsTable-set : (step : Step) (kept : List ℤ) (k : ℕ) (x : ℤ) → IsTable step kept → IsWithin step.limit x → IsTable step (set kept k x)
IsTable-set step kept k x h w = record {
  row_limit = h.row_limit;
  column_limit = h.column_limit;
  row_in = h.row_in;
  place_in = h.place_in;
  limit_size = h.limit_size;
  kept_length = length-set kept k x ∙ h.kept_length;
  kept_size = AllWithin-set (2 ^ 62) kept k x h.kept_size (IsWithin-wider step.limit (2 ^ 62) x h.limit_size w);
  kept_limit = AllWithin-set step.limit kept k x h.kept_limit w;
  den_size = h.den_size;
  pivot_size = h.pivot_size;
  den_positive = h.den_positive;
  pivot_positive = h.pivot_positive;
}
