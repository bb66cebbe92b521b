-- Which of two sums brings more by weight.
use Rattle.std.proofs.Common.{◌≡◌, ℤ, pos, ◌≤ℤ◌, ◌<ℤ◌, inl, inr, arith}
use Rattle.md_math.specs.LexOrder.{IsPairNonNegative}
use Rattle.md_math.proofs.Ring.{linear}
use Rattle.md_list_gains.specs.declared.sums.Sums.{Sums}
use Rattle.md_list_gains.specs.Places.{more_gain_by, more_benefit_by}

module _ (sums other : Sums) (g : ℤ) (gain : g ≡ more_gain_by sums other) where
  -- the other one has a greater virtual value
  pub less-gain : g <ℤ pos 0 → IsPairNonNegative (more_gain_by other sums) (more_benefit_by other sums)
  less-gain l = inl (omega (arith, linear, gain, l))

  -- both have the same, and the other one no smaller mean value
  pub no-more-benefit : (h : ℤ) → h ≡ more_benefit_by sums other → g ≤ℤ pos 0 → pos 0 ≤ℤ g → h ≤ℤ pos 0 → IsPairNonNegative (more_gain_by other sums) (more_benefit_by other sums)
  no-more-benefit h benefit low high l = inr (omega (arith, linear, gain, low, high), omega (arith, linear, benefit, l))
