-- What is left of what there is to give, as the masses of a rank are taken away from it.
use Rattle.std.proofs.Common.{◌≡◌, ℕ, ◌+◌, ◌*◌, ◌<◌, ℤ, pos, ◌≤ℤ◌, ◌<ℤ◌, List, subst, sym, arith}
use Rattle.std.specs.Prelude.{◌-ℤ◌}
use Rattle.std.proofs.lemmas.Int.{ints}
use Rattle.md_math.specs.Lists.{number_at}
use Rattle.md_math.specs.Sums.{sum_to}
use Rattle.md_math.proofs.SumLaws.{sum_to-more}
use Rattle.md_math.proofs.Prefixes.{sum_to-prefix}
use Rattle.md_setting.specs.Auction.{SymmetricAuction, value_count}
use Rattle.md_expost.specs.Masses.{cap_at, mass_in}
use Rattle.md_expost.specs.Refusals.{IsKeptAt}

-- a number that is larger than what is left makes the sum larger than the whole
pub spills_over : (whole left mass : ℤ) (n k : ℕ) (f : ℕ → ℤ) → k < n → ((j : ℕ) → j < n → pos 0 ≤ℤ f j) → left ≡ whole -ℤ sum_to k f → mass ≡ f k →
    left <ℤ mass → sum_to n f ≤ℤ whole → ⊥
spills_over whole left mass n k f h p e g l w =
    omega (arith, ints, e, g, l, w, sum_to-more k f, sum_to-prefix n (k + 1) f (omega arith) p)

-- the sum of the numbers of a rank, by the number of kinds as it is known
pub kept-from : (a : SymmetricAuction) (den whole : ℤ) (rows : List ℤ) (rank kinds : ℕ) → kinds ≡ value_count a → whole ≡ cap_at a den rank
    → sum_to kinds (λ v. number_at rows (rank * kinds + v)) ≤ℤ whole → IsKeptAt a den rows rank
kept-from a den whole rows rank kinds e f h = subst (λ z. sum_to (value_count a) (mass_in a rows rank) ≤ℤ z) f (subst (λ k. sum_to k (λ v. number_at rows (rank * k + v)) ≤ℤ whole) e h)

pub kept-into : (a : SymmetricAuction) (den whole : ℤ) (rows : List ℤ) (rank kinds : ℕ) → kinds ≡ value_count a → whole ≡ cap_at a den rank
    → IsKeptAt a den rows rank → sum_to kinds (λ v. number_at rows (rank * kinds + v)) ≤ℤ whole
kept-into a den whole rows rank kinds e f h = subst (λ k. sum_to k (λ v. number_at rows (rank * k + v)) ≤ℤ whole) (sym e) (subst (λ z. sum_to (value_count a) (mass_in a rows rank) ≤ℤ z) (sym f) h)
