-- What the records of the masses of an auction, or of several units, say: one record for each list of counts, in the order of the ranks.
use Rattle.std.specs.Prelude.{ℕ, zero, suc, ◌+◌, ◌-◌, ◌*◌, ◌^◌, ◌==◌, ℤ, pos, ◌*ℤ◌, unsigned_abs, List, [], ◌++◌, drop, slice_index, codes, int_le, Ok, Err, if◌then◌else◌}
use Rattle.md_math.specs.Lists.{list_to}
use Rattle.md_math.specs.Sums.{total}
use Rattle.md_setting.specs.Auction.{SymmetricAuction, value_count}
use Rattle.md_expost.specs.declared.masses.Masses.{Masses}
use Rattle.md_expost.specs.Masses.{rank_count, counts_in, cap_at}
use Rattle.md_answer.specs.declared.supply.Supply.{Supply}
use Rattle.md_answer.specs.declared.supply.Supply.TheVariants.{Item, Units}
use Rattle.md_answer.specs.Supplies.{units_in}
use Rattle.md_parts.specs.declared.refusal.AnswerRefusal.TheVariants.{Sum}
use Rattle.md_parts.specs.Fields.{Field, place_field, amount_field}
use Rattle.md_parts.specs.Reading.{Reading, ◌>>=◌, nothing_more, read_record}

-- a field that holds this count and no other number
abbrev pub count_field : ℕ → Field
count_field count = place_field count (count + 1)

-- the counts at a rank
abbrev pub count_fields : SymmetricAuction → ℕ → List Field
count_fields a rank = list_to (value_count a) (λ v. count_field (slice_index (counts_in a rank) v))

-- the greatest number that may stand for the mass of a value which so many bidders have, by the weight of the profiles: of units one
-- for each of them; of the item any, but none where no bidder has the value
abbrev pub most_mass : Supply → ℕ → ℕ → ℕ
most_mass Item weight count = if count == 0 then 0 else 2 ^ 126 - 1
most_mass (Units units) weight count = weight * count

-- the weight of the profiles with the counts at a rank, in units of one over the denominator
abbrev pub weight_at : SymmetricAuction → ℤ → ℕ → ℕ
weight_at a den rank = unsigned_abs (cap_at a den rank)

abbrev pub most_masses : Supply → SymmetricAuction → ℤ → ℕ → List ℕ
most_masses supply a den rank = list_to (value_count a) (λ v. most_mass supply (weight_at a den rank) (slice_index (counts_in a rank) v))

-- the masses of the values at a rank
abbrev pub mass_fields : Supply → SymmetricAuction → ℤ → ℕ → List Field
mass_fields supply a den rank = list_to (value_count a) (λ v. amount_field (most_mass supply (weight_at a den rank) (slice_index (counts_in a rank) v)))

-- numbers of the record that was read last, which add to this at most
abbrev pub adding_at_most : ℤ → List ℤ → Reading (List ℤ)
adding_at_most most numbers rest = if int_le (total numbers) most then Ok (numbers, rest) else Err (Sum rest.read)

-- the masses at a rank behind its counts: together no more than there is to give
abbrev pub masses_at : Supply → SymmetricAuction → ℤ → ℕ → Reading (List ℤ)
masses_at supply a den rank = do
  numbers ← read_record (codes "mass") (count_fields a rank ++ mass_fields supply a den rank)
  adding_at_most (pos (units_in supply) *ℤ cap_at a den rank) (drop (value_count a) numbers)

-- the masses at the first ranks, one rank after another
abbrev pub masses_to : Supply → SymmetricAuction → ℤ → ℕ → Reading (List ℤ)
masses_to supply a den zero = nothing_more []
masses_to supply a den (suc rank) = do
  before ← masses_to supply a den rank
  last ← masses_at supply a den rank
  nothing_more (before ++ last)

-- a table over a denominator
abbrev pub masses_over : Supply → SymmetricAuction → ℤ → Reading Masses
masses_over supply a den = do
  rows ← masses_to supply a den (rank_count a)
  nothing_more record { den = den; rows = rows }
