-- The sums of a run of columns over the rows so far.
use Rattle.std.proofs.Common.{◌≡◌, ℕ, ◌+◌, ◌-◌, ◌*◌, ◌^◌, ◌<◌, ◌≤◌, ℤ, pos, ◌+ℤ◌, ◌*ℤ◌, unsigned_abs, List, length, sym, subst, arith}
use Rattle.md_math.specs.Lists.{number_at}
use Rattle.md_math.specs.Sizes.{IsWithin, AllWithin}
use Rattle.md_math.specs.Sums.{dot}
use Rattle.md_math.proofs.Ring.{linear}
use Rattle.md_math.proofs.SumLaws.{dot-more}
use Rattle.md_math.proofs.SizeLaws.{IsWithin-wider, AllWithin-number_at, dot-within}
use Rattle.md_lp.specs.Program.{Program, row_count, row_at, coefficient_at, right_at, cost_at}
use Rattle.md_lp.specs.Point.{row_sum, cost_sum, right_sum}
use Rattle.md_lp.specs.Runs.{AddsRow}
use Rattle.md_lp.specs.Shape.{IsShaped}
use Rattle.md_lp.proofs.ShapeLaws.{coefficient-within, right-within}
use Rattle.md_lp.proofs.SumSizes.{step_size, room}

-- the sums over the first m rows
pub record AreSumsSoFar (p : Program) (weights : List ℤ) (first m : ℕ) (sums : List ℤ) : Type 0 where
  pub at : (k : ℕ) → k < length sums → number_at sums k ≡ dot m (λ r. coefficient_at p r (first + k)) (number_at weights)

pub AreSumsSoFar-none : (p : Program) (weights : List ℤ) (first : ℕ) (sums : List ℤ) → ((k : ℕ) → k < length sums → number_at sums k ≡ pos 0) → AreSumsSoFar p weights first 0 sums
AreSumsSoFar-none p weights first sums h = record { at = h }

pub AreSumsSoFar-more : (p : Program) (weights : List ℤ) (first m : ℕ) (old new : List ℤ) → length new ≡ length old → AreSumsSoFar p weights first m old → AddsRow (row_at p m).terms first (number_at weights m) old new → AreSumsSoFar p weights first (m + 1) new
AreSumsSoFar-more p weights first m old new same h a = record {
  at = λ k b.
      let before : number_at old k ≡ dot m (λ r. coefficient_at p r (first + k)) (number_at weights) = h.at k (omega arith) in
      let added : number_at new k ≡ number_at old k +ℤ coefficient_at p m (first + k) *ℤ number_at weights m = a.sums k b in
      let more = dot-more m (λ r. coefficient_at p r (first + k)) (number_at weights) in
      omega (arith, linear);
}

-- ---- sizes

column_part-within : (p : Program) (weights : List ℤ) (j m : ℕ) → IsShaped p → AllWithin (2 ^ 62 - 1) weights → m ≤ row_count p → IsWithin (m * step_size) (dot m (λ r. coefficient_at p r j) (number_at weights))
column_part-within p weights j m shaped sizes b =
    dot-within m (2 ^ 44) (2 ^ 62 - 1) (λ r. coefficient_at p r j) (number_at weights) (λ r l. coefficient-within p r j shaped (omega arith)) (λ r _. AllWithin-number_at (2 ^ 62 - 1) weights r sizes)

-- the sums over some rows
pub AreSumsSoFar-within : (p : Program) (weights : List ℤ) (first m : ℕ) (sums : List ℤ) → IsShaped p → AllWithin (2 ^ 62 - 1) weights → m ≤ row_count p → AreSumsSoFar p weights first m sums → AllWithin (2 ^ 119) sums
AreSumsSoFar-within p weights first m sums shaped sizes b h = record {
  at = λ k l.
      let few : m ≤ 8192 = (let count = shaped.count in omega arith) in
      IsWithin-wider (m * step_size) (2 ^ 119) (number_at sums k) (omega arith) (subst (IsWithin (m * step_size)) (sym (h.at k l)) (column_part-within p weights (first + k) m shaped sizes b));
}

right_part-within : (p : Program) (weights : List ℤ) (m : ℕ) → IsShaped p → AllWithin (2 ^ 62 - 1) weights → m ≤ row_count p → IsWithin (m * step_size) (dot m (right_at p) (number_at weights))
right_part-within p weights m shaped sizes b =
    dot-within m (2 ^ 44) (2 ^ 62 - 1) (right_at p) (number_at weights) (λ r l. right-within p r shaped (omega arith)) (λ r _. AllWithin-number_at (2 ^ 62 - 1) weights r sizes)

pub right_sum-within : (p : Program) (weights : List ℤ) → IsShaped p → AllWithin (2 ^ 62 - 1) weights → IsWithin (2 ^ 119) (right_sum p (number_at weights))
right_sum-within p weights shaped sizes =
    IsWithin-wider (row_count p * step_size) (2 ^ 119) _ (let count = shaped.count in omega arith) (right_part-within p weights (row_count p) shaped sizes (omega arith))

-- the next right side has room
pub right_room : (p : Program) (weights : List ℤ) (m : ℕ) → IsShaped p → AllWithin (2 ^ 62 - 1) weights → m < row_count p → unsigned_abs (dot m (right_at p) (number_at weights)) + unsigned_abs (right_at p m) * unsigned_abs (number_at weights m) < 2 ^ 126
right_room p weights m shaped sizes b =
    room m _ (right_at p m) (number_at weights m) (right_part-within p weights m shaped sizes (omega arith)) (right-within p m shaped b) (AllWithin-number_at (2 ^ 62 - 1) weights m sizes) (let count = shaped.count in omega arith)

-- sums over the columns
pub row_sum-within : (p : Program) (numbers : List ℤ) (r : ℕ) → IsShaped p → AllWithin (2 ^ 62 - 1) numbers → r < row_count p → IsWithin (2 ^ 122) (row_sum p (number_at numbers) r)
row_sum-within p numbers r shaped sizes b =
    let whole : IsWithin (p.columns * step_size) (row_sum p (number_at numbers) r) =
    dot-within p.columns (2 ^ 44) (2 ^ 62 - 1) (coefficient_at p r) (number_at numbers) (λ j _. coefficient-within p r j shaped b) (λ j _. AllWithin-number_at (2 ^ 62 - 1) numbers j sizes) in
    IsWithin-wider (p.columns * step_size) (2 ^ 122) _ (let few = shaped.columns in omega arith) whole

pub cost_sum-within : (p : Program) (numbers : List ℤ) → IsShaped p → AllWithin (2 ^ 62 - 1) numbers → IsWithin (2 ^ 122) (cost_sum p (number_at numbers))
cost_sum-within p numbers shaped sizes =
    let whole : IsWithin (p.columns * step_size) (cost_sum p (number_at numbers)) =
    dot-within p.columns (2 ^ 44) (2 ^ 62 - 1) (cost_at p) (number_at numbers) (λ j _. AllWithin-number_at (2 ^ 44) p.cost j shaped.cost_sizes) (λ j _. AllWithin-number_at (2 ^ 62 - 1) numbers j sizes) in
    IsWithin-wider (p.columns * step_size) (2 ^ 122) _ (let few = shaped.columns in omega arith) whole
