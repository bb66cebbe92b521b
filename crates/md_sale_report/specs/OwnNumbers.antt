-- Interim odds and payments of a sale as numbers in the form of a mechanism.
use Rattle.std.specs.Prelude.{ℕ, zero, suc, ℤ, pos, List, slice_index}
use Rattle.md_math.specs.Lists.{number_at}
use Rattle.md_border.specs.declared.interim.Interim.{Interim}
use Rattle.md_setting.specs.Setting.{GeneralSetting}
use Rattle.md_setting.specs.Meaning.{sizes_of}
use Rattle.md_mech.specs.declared.mechanism.Mechanism.{Mechanism}
use Rattle.md_mech.specs.ByProfiles.{mechanism_by}
use Rattle.md_asym_sale.specs.Pairs.{pair_number}

-- of numbers by pair, that of the type which agent i, counted from 0, has at the profile t
abbrev pub own_number : GeneralSetting → List ℤ → ℕ → List ℕ → ℤ
own_number s numbers i t = number_at numbers (pair_number (sizes_of s) i (slice_index t i))

-- How often an outcome comes at the profile t: agent i gets the item at outcome i + 1. That it is kept is worth nothing to any
-- agent, so that it is left out.
abbrev pub own_chance : GeneralSetting → List ℤ → List ℕ → ℕ → ℤ
own_chance s odds t zero = pos 0
own_chance s odds t (suc i) = own_number s odds i t

-- The numbers in which each agent has the item as often as the odds of its type say, and pays what its type pays, whatever the
-- others' types. They need not be a mechanism, since the chances of a profile need not add to the whole.
abbrev pub own_numbers : GeneralSetting → Interim → Mechanism
own_numbers s interim = mechanism_by s interim.den (own_chance s interim.odds) (own_number s interim.pays)
