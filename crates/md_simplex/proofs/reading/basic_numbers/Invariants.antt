use Rattle.std.proofs.Common.{◌≡◌, ◌^◌, length}
use Rattle.md_math.specs.Lists.{number_at}
use Rattle.md_math.specs.Sizes.{AllWithin}
use Rattle.md_dict.specs.Condensed.{basic_at, entry_at}
use Rattle.md_simplex.specs.Reading.{IsAtBasis}
use Rattle.md_simplex.specs.ReadingSteps.{basic_number_at}
use Rattle.md_simplex.proofs.reading.basic_numbers.Given as goal

abbrev pub invariant-loop-row : goal.invariant-loop-row
invariant-loop-row l = record {
  value : IsAtBasis l.columns l.row (basic_at l.dict) (basic_number_at l.dict.rows l.dict.columns (entry_at l.dict) l.along) (number_at l.numbers.items);
  long : length l.numbers.items ≡ l.columns;
  small : AllWithin (2 ^ 62) l.numbers.items;
}
