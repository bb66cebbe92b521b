-- The records of cuts: sets of the kinds of values, each a number whose bit j stands for kind j.
use Rattle.std.specs.Prelude.{ℕ, ◌^◌, ℤ, List, [], ◌∷◌, ◌++◌, map, codes, unsigned_abs}
use Rattle.md_math.specs.Lists.{number_at}
use Rattle.md_parts.specs.Fields.{Field, free_place_field}
use Rattle.md_parts.specs.Reading.{Reading, ◌>>=◌, nothing_more}
use Rattle.md_parts.specs.Repeated.{repeated}

-- a set of so many kinds that is not empty, and none of those that came before
abbrev pub cut_fields : ℕ → List ℕ → List Field
cut_fields kinds before = free_place_field 1 (2 ^ kinds) before ∷ []

abbrev pub set_of : List ℤ → ℕ
set_of numbers = unsigned_abs (number_at numbers 0)

-- the sets that came before the next record
abbrev pub with_cut : List ℕ → List ℤ → List ℕ
with_cut before numbers = before ++ set_of numbers ∷ []

-- the sets that the records list, in their order
abbrev pub cuts_of : ℕ → Reading (List ℕ)
cuts_of kinds = do
  records ← repeated (codes "cut") (cut_fields kinds) with_cut []
  nothing_more (map set_of records)
