-- The term of the row of an outcome that is fixed.
use Rattle.std.proofs.Common.{ℕ, ◌+◌, ◌*◌, ◌<◌, ◌^◌, pos, [], ◌∷◌, arith, lit≤}
use Rattle.std.proofs.lemmas.Nat.{mul-add-lt}
use Rattle.md_math.specs.Sizes.{IsWithin}
use Rattle.md_space.specs.Profiles.{profile_count}
use Rattle.md_setting.specs.Setting.{GeneralSetting}
use Rattle.md_setting.specs.Meaning.{outcome_count, sizes_of}
use Rattle.md_setting.specs.Rows.{column_count}
use Rattle.md_forms.specs.Terms.{AreTermsBelow}
use Rattle.md_forms.proofs.TermLaws.{below-none, below-push, below-wider}

small : IsWithin (2 ^ 44) (pos 1)
small = record { within = lit≤ tt }

-- one term at a column of the program
pub one-term : (column columns : ℕ) → column < columns → AreTermsBelow (2 ^ 44) columns (record { column = column; value = pos 1 } ∷ [])
one-term column columns inside =
    below-wider (2 ^ 44) (column + 1) columns (record { column = column; value = pos 1 } ∷ []) (omega (arith, inside))
    (below-push (2 ^ 44) 0 [] (record { column = column; value = pos 1 }) (below-none (2 ^ 44) 0) (omega arith) small)

-- the column of a chance is one of the setting's
pub chance-inside : (s : GeneralSetting) (r o : ℕ) → r < profile_count (sizes_of s) → o < outcome_count s → r * outcome_count s + o < column_count s
chance-inside s r o rank outcome = omega (arith, mul-add-lt r (outcome_count s) o (profile_count (sizes_of s)) rank outcome)
