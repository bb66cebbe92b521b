-- Pools have one bound.
use Rattle.std.proofs.Common.{◌≡◌, ℕ, ◌<◌, ℤ, pos, ◌*ℤ◌, ◌<ℤ◌, List, length, Some, refl, sym, ap, ap₂, subst, ◌∙◌, arith}
use Rattle.std.specs.Prelude.{slice_get}
use Rattle.std.proofs.lemmas.Option.{slice_get-get_or}
use lib.IntN.{*ℤ_comm}
use Rattle.md_math.specs.Lists.{number_at, list_to}
use Rattle.md_math.proofs.Builders.{list_to-get_or, list_to-same}
use Rattle.md_math.proofs.Division.{same_from_Divides}
use Rattle.md_math.proofs.Order.{*ℤ_cancel, le_from_lt, positive_from_*ℤ}
use Rattle.md_setting.specs.Auction.{SymmetricAuction, value_count}
use Rattle.md_setting.specs.AuctionShaped.{IsAuction}
use Rattle.md_lp.specs.Program.{Program, right_at, row_count}
use Rattle.md_lp.proofs.Dividing.{IsDivisorFor-positive}
use Rattle.md_cert.specs.declared.bound.Bound.{Bound}
use Rattle.md_reduced.specs.ProgramOf.{IsReducedProgram}
use Rattle.md_iron_values.specs.Pools.{Pools}
use Rattle.md_iron_values.specs.Cuts.{cuts_of}
use Rattle.md_iron_values.specs.VirtualValues.{IsPooledAuction}
use Rattle.md_iron_laws.specs.Multipliers.{AreMultipliers, multiplier_num, multiplier_den, steeper_by}
use Rattle.md_iron_laws.specs.Rows.{ProgramRow, truth_row, rational_row, cut_row, rows_of, row_right}
use Rattle.md_iron_laws.proofs.Certificates.{row_in, row-inside, factor-positive}
use Rattle.md_iron_laws.proofs.Divisors.{line-of, cut-right-positive, row-in}
use Rattle.md_iron_laws.proofs.Fractions.{den-positive}
use Rattle.md_iron_pools.specs.ByRule.{AreSamePools}
use Rattle.md_iron.specs.ShortBounds.{IsClosedBound}
use Rattle.md_iron.proofs.BoundLaws.{rows-count}
use Rattle.md_iron.proofs.SamePools.{same-cuts, same-multipliers}

same-back : (kinds : ℕ) (one other : Pools) → AreSamePools kinds one other → AreSamePools kinds other one
same-back kinds one other same = record { same_reserve = sym same.same_reserve; same_pool = λ j b. (sym (same.same_pool j b).0, sym (same.same_pool j b).1) }

module _ (a : SymmetricAuction) (units : ℕ) (pools : Pools) (p : Program) (shaped : IsAuction a) (some : 0 < units) (pooled : IsPooledAuction a pools) (is : IsReducedProgram a units (cuts_of (value_count a) pools) p) where
  -- by what the row of a cut was divided
  one-divisor : (d e : ℕ → ℤ) (number s : ℕ) → slice_get (rows_of (value_count a) pools) number ≡ Some (cut_row s) → row_right a units (cut_row s) ≡ d s *ℤ right_at p number → row_right a units (cut_row s) ≡ e s *ℤ right_at p number → d s ≡ e s
  one-divisor d e number s stands f g =
      let line = line-of a units pools p is number (cut_row s) stands in
      let inside : s < value_count a = (row-in (value_count a) pools number (cut_row s) stands).0 in
      let above : pos 0 <ℤ right_at p number =
      positive_from_*ℤ line.by (right_at p number) (IsDivisorFor-positive _ _ line.by line.divisor) (subst (λ z. pos 0 <ℤ z) line.right (cut-right-positive a units s shaped some inside)) in
      *ℤ_cancel (right_at p number) (d s) (e s) above (*ℤ_comm (right_at p number) (d s) ∙ sym f ∙ g ∙ *ℤ_comm (e s) (right_at p number))

  one-num : (d e : ℕ → ℤ) (over else_over : ℤ) (main other : ℕ → ℤ) → AreMultipliers a units pools p d over main → AreMultipliers a units pools p e else_over other → (number : ℕ) (row : ProgramRow)
      → slice_get (rows_of (value_count a) pools) number ≡ Some row → multiplier_num a pools d row ≡ multiplier_num a pools e row
  one-num d e over else_over main other h k number (truth_row v w) stands = refl
  one-num d e over else_over main other h k number (rational_row v) stands = refl
  one-num d e over else_over main other h k number (cut_row s) stands = ap (λ z. steeper_by a pools s *ℤ z) (one-divisor d e number s stands (h.divided number s stands) (k.divided number s stands))

  -- over one denominator there are no others
  one-main : (d e : ℕ → ℤ) (over : ℤ) (main other : ℕ → ℤ) → AreMultipliers a units pools p d over main → AreMultipliers a units pools p e over other → (number : ℕ) → number < row_count p → main number ≡ other number
  one-main d e over main other h k number b =
      let row = row_in a pools number in
      let stands : slice_get (rows_of (value_count a) pools) number ≡ Some (row_in a pools number) = slice_get-get_or (rows_of (value_count a) pools) number _ (omega (arith, b, rows-count a units pools p is)) in
      let den = multiplier_den a pools p.factor row in
      *ℤ_cancel den (main number) (other number) (den-positive a pools p.factor shaped pooled (factor-positive a units pools p is) row (row-inside a units pools p is number b))
      (*ℤ_comm den (main number)
      ∙ h.at number row stands
      ∙ ap (λ z. over *ℤ z) (one-num d e over over main other h k number row stands)
      ∙ sym (k.at number row stands)
      ∙ *ℤ_comm (other number) den)

pub one-bound : (a : SymmetricAuction) (units : ℕ) (one other : Pools) (bound else_bound : Bound) → IsAuction a → 0 < units → IsPooledAuction a one → AreSamePools (value_count a) one other → IsClosedBound a units one bound
    → IsClosedBound a units other else_bound → bound ≡ else_bound
one-bound a units one other bound else_bound shaped some pooled same h k =
    let p = h.program in
    let own = h.holds p h.is_program in
    let its = k.holds p (subst (λ xs. IsReducedProgram a units xs p) (same-cuts (value_count a) one other same) h.is_program) in
    let as_one = same-multipliers a units other one p its.divisor else_bound.den (number_at else_bound.main) (same-back (value_count a) one other same) its.short.multipliers in
    let as_other = same-multipliers a units one other p own.divisor bound.den (number_at bound.main) same own.short.multipliers in
    let den : bound.den ≡ else_bound.den =
    same_from_Divides bound.den else_bound.den (le_from_lt (pos 0) bound.den own.short.multipliers.positive) (le_from_lt (pos 0) else_bound.den its.short.multipliers.positive)
    (own.least its.divisor else_bound.den (number_at else_bound.main) as_one) (its.least own.divisor bound.den (number_at bound.main) as_other) in
    let over_own : AreMultipliers a units one p its.divisor bound.den (number_at else_bound.main) = subst (λ d. AreMultipliers a units one p its.divisor d (number_at else_bound.main)) (sym den) as_one in
    alike bound else_bound den
    (listed bound.main (row_count p) own.one_each
    ∙ list_to-same (row_count p) (number_at bound.main) (number_at else_bound.main)
    (λ r b. one-main a units one p shaped some pooled h.is_program own.divisor its.divisor bound.den (number_at bound.main) (number_at else_bound.main) own.short.multipliers over_own r b)
    ∙ sym (listed else_bound.main (row_count p) its.one_each))
    (own.face_is ∙ sym its.face_is)
  where
    listed : (xs : List ℤ) (n : ℕ) → length xs ≡ n → xs ≡ list_to n (number_at xs)
    listed xs n e = sym (list_to-get_or xs (pos 0)) ∙ ap (λ m. list_to m (number_at xs)) e

    alike : (x y : Bound) → x.den ≡ y.den → x.main ≡ y.main → x.face ≡ y.face → x ≡ y
    alike x y d e f = ap₂ (λ d m. record { den = d; main = m; face = x.face }) d e ∙ ap (λ l. record { den = y.den; main = y.main; face = l }) f
