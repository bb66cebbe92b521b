-- The auction of one bidder with the value 1 or 3, which the tests use, and a point that meets its reduced program.
use Rattle.std.proofs.Common.{◌≡◌, ℕ, zero, suc, ◌*◌, ◌-◌, ◌^◌, ◌<◌, ℤ, pos, ◌-ℤ◌, ◌*ℤ◌, ◌≤ℤ◌, List, [], ◌∷◌, refl, sym, ap, ◌∙◌, subst, arith}
use Rattle.std.specs.Prelude.{slice_index, slice_index_or}
use Rattle.std.proofs.lemmas.Int.{ints}
use Rattle.md_math.specs.Lists.{number_at}
use Rattle.md_setting.specs.Auction.{SymmetricAuction, auction_of, written_auction}
use Rattle.md_lp.specs.Program.{Program}
use Rattle.md_forms.specs.Forms.{Holds}
use Rattle.md_border.specs.Sides.{right_by_counts}
use Rattle.md_border.proofs.SideLaws.{right_of-counts, right_of-power}
use Rattle.md_reduced.specs.declared.condition.ReducedCondition.{ReducedCondition}
use Rattle.md_reduced.specs.declared.condition.ReducedCondition.TheVariants.{Cut}
use Rattle.md_reduced.specs.Conditions.{conditions_of}
use Rattle.md_lp.specs.Cuts.{HasSet}
use Rattle.md_reduced.specs.Points.{MeetsReduced}
use Rattle.md_reduced.specs.ProgramOf.{form_of, IsReducedProgram}
use Rattle.md_reduced.proofs.BuiltLaws.{meets-conditions}
use Rattle.md_reduced.proofs.PointLaws.{single-weight, single-demand}

abbrev pub sample : SymmetricAuction
sample = auction_of (written_auction (pos 1) (pos 1 ∷ pos 3 ∷ []) (pos 1 ∷ pos 1 ∷ []) (pos 1) (pos 0) (pos 2))

abbrev pub sample_point : List ℤ
sample_point = pos 0 ∷ pos 1 ∷ pos 0 ∷ pos 3 ∷ pos 0 ∷ pos 0 ∷ []

abbrev kept : ReducedCondition → Type 0
kept c = Holds (pos 1) (number_at sample_point) (form_of sample 1 c)

cut-kept : (v : ℕ) → v < 2 → slice_index sample.weights v ≡ 1 → (pos (1 * (slice_index sample.weights v * 2 ^ 0)) *ℤ number_at sample_point v) ≤ℤ pos 1 → kept (Cut (2 ^ v))
cut-kept v h one small =
    let right : right_by_counts sample 1 (2 ^ v) ≡ pos 1 =
    sym (right_of-counts sample (2 ^ v)) ∙ right_of-power sample (2 ^ v) refl ∙ ap (λ s. pos (2 ^ 1) -ℤ pos ((2 - s) ^ 1)) (single-weight v sample.weights h ∙ one) in
    subst (λ y. y ≤ℤ (pos 1 *ℤ right_by_counts sample 1 (2 ^ v))) (sym (single-demand sample (number_at sample_point) v h))
    (subst (λ z. (pos (1 * (slice_index sample.weights v * 2 ^ 0)) *ℤ number_at sample_point v) ≤ℤ (pos 1 *ℤ z)) (sym right) small)

all-kept : (k : ℕ) (d : ReducedCondition) → k < 6 → kept (slice_index_or (conditions_of 2 (1 ∷ 2 ∷ [])) k d)
all-kept zero d l = omega (arith, ints)
all-kept (suc zero) d l = omega (arith, ints)
all-kept (suc (suc zero)) d l = omega (arith, ints)
all-kept (suc (suc (suc zero))) d l = omega (arith, ints)
all-kept (suc (suc (suc (suc zero)))) d l = cut-kept 0 (omega arith) refl (omega (arith, ints))
all-kept (suc (suc (suc (suc (suc zero))))) d l = cut-kept 1 (omega arith) refl (omega (arith, ints))
all-kept (suc (suc (suc (suc (suc (suc k)))))) d l = absurd (omega (arith, l))

nonneg : (j : ℕ) → pos 0 ≤ℤ number_at sample_point j
nonneg zero = omega (arith, ints)
nonneg (suc zero) = omega (arith, ints)
nonneg (suc (suc zero)) = omega (arith, ints)
nonneg (suc (suc (suc zero))) = omega (arith, ints)
nonneg (suc (suc (suc (suc zero)))) = omega (arith, ints)
nonneg (suc (suc (suc (suc (suc zero))))) = omega (arith, ints)
nonneg (suc (suc (suc (suc (suc (suc j)))))) = omega (arith, ints)

single : (v : ℕ) → v < 2 → HasSet (2 ^ v) (1 ∷ 2 ∷ [])
single zero h = record { place = 0; is = refl }
single (suc zero) h = record { place = 1; is = refl }
single (suc (suc v)) h = absurd (omega (arith, h))

pub sample-meets : (p : Program) → IsReducedProgram sample 1 (1 ∷ 2 ∷ []) p → MeetsReduced sample (pos 1) (number_at sample_point)
sample-meets p is = record {
  units = 1;
  cuts = 1 ∷ 2 ∷ [];
  program = p;
  is_program = is;
  singles = record { single = single };
  meets = (meets-conditions sample 1 (1 ∷ 2 ∷ []) p is (pos 1) (number_at sample_point) (record { positive = omega (arith, ints); nonneg = λ j b. nonneg j })).1 all-kept;
}
