-- Lists that may be the numbers of a point or of a ray.
use Rattle.std.proofs.Common.{◌≡◌, ◌-◌, ◌^◌, ℤ, pos, ◌≤ℤ◌, List, length, arith}
use Rattle.std.specs.Prelude.{All}
use Rattle.std.proofs.lemmas.List.Elements.{All-get_or}
use Rattle.md_math.specs.Sizes.{AllWithin}
use Rattle.md_lp.specs.Program.{Program}
use Rattle.md_cert.specs.Fitting.{FitsColumns}

pub fits_from : (p : Program) (numbers : List ℤ) → length numbers ≡ p.columns → AllWithin (2 ^ 62 - 1) numbers → All (λ number. pos 0 ≤ℤ number) numbers → FitsColumns p numbers
fits_from p numbers one small nonneg = record {
  one_each = one;
  sizes = small;
  nonneg = λ j h. All-get_or (λ number. pos 0 ≤ℤ number) numbers j (pos 0) (omega arith) nonneg;
}
