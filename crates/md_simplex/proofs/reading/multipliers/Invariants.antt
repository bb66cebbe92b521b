use Rattle.std.proofs.Common.{◌≡◌, ◌+◌, ◌^◌, ◌*ℤ◌}
use Rattle.md_math.specs.Lists.{list_to}
use Rattle.md_math.specs.Sizes.{AllWithin}
use Rattle.md_dict.specs.Condensed.{entry_at}
use Rattle.md_dict.specs.FirstTable.{sign_at}
use Rattle.md_simplex.proofs.reading.multipliers.Given as goal

abbrev pub invariant-loop-of : goal.invariant-loop-of
invariant-loop-of l = record {
  value : l.numbers.items ≡ list_to l.of (λ k. sign_at l.lp k *ℤ entry_at l.dict l.row (l.dict.columns + k));
  small : AllWithin (2 ^ 62) l.numbers.items;
}
