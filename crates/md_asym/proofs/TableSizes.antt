-- How large the masses of a profile table are.
use Rattle.std.proofs.Common.{ℕ, ◌*◌, ◌/◌, ◌%◌, ◌^◌, ◌<◌, ℤ, pos, ◌≤ℤ◌, List, length, subst, arith}
use Rattle.std.proofs.lemmas.Int.{ints}
use Rattle.std.proofs.lemmas.Nat.{div_below, mod_below, div-add-mod'}
use Rattle.md_math.specs.Lists.{number_at}
use Rattle.md_math.specs.Sizes.{AllWithin, IsWithin}
use Rattle.md_math.specs.Sums.{sum_to}
use Rattle.md_math.proofs.SizeLaws.{IsWithin-from_bounds, IsWithin-high}
use Rattle.md_math.proofs.SumLaws.{sum_to-at_least}
use Rattle.md_space.specs.Profiles.{profile_count}
use Rattle.md_space.proofs.Ranks.{pos-factor}
use Rattle.md_setting.specs.Setting.{GeneralSetting}
use Rattle.md_setting.specs.Meaning.{agent_count, sizes_of}
use Rattle.md_setting.specs.Shaped.{IsShaped}
use Rattle.md_mech.specs.Accepted.{number_limit}
use Rattle.md_asym_tables.specs.PairNets.{cap_at}
use Rattle.md_asym_tables.specs.Tables.{IsProfileTable, mass_at}
use Rattle.md_asym_tables.proofs.NetLaws.{cap-within}

between : (z cap : ℤ) → pos 0 ≤ℤ z → z ≤ℤ cap → cap ≤ℤ pos (number_limit * 1000000) → IsWithin (2 ^ 82) z
between z cap l m h = IsWithin-from_bounds (2 ^ 82) z (omega (arith, ints, l)) (omega (arith, ints, l, m, h))

pub table-sizes : (s : GeneralSetting) (den : ℤ) (y : List ℤ) → IsShaped s → pos 1 ≤ℤ den → den ≤ℤ pos number_limit → IsProfileTable s den y → AllWithin (2 ^ 82) y
table-sizes s den y shaped l m h = record { at = small }
  where
    small : (k : ℕ) → k < length y → IsWithin (2 ^ 82) (number_at y k)
    small k b =
        let n = agent_count s in
        let profiles = profile_count (sizes_of s) in
        let below : k < profiles * n = omega (arith, b, h.one_each) in
        let some : 0 < n = pos-factor k profiles n below in
        let row : k / n < profiles = div_below k n profiles some below in
        let column : k % n < n = mod_below k n some in
        let part : mass_at s y (k / n) (k % n) ≤ℤ sum_to n (mass_at s y (k / n)) = sum_to-at_least n (k % n) (mass_at s y (k / n)) column (λ i inside. h.nonneg (k / n) i row inside) in
        let most : sum_to n (mass_at s y (k / n)) ≤ℤ cap_at s den (k / n) = h.inside (k / n) row in
        let whole : mass_at s y (k / n) (k % n) ≤ℤ cap_at s den (k / n) = omega (arith, ints, part, most) in
        subst (λ q. IsWithin (2 ^ 82) (number_at y q)) (div-add-mod' k n)
        (between (mass_at s y (k / n) (k % n)) (cap_at s den (k / n)) (h.nonneg (k / n) (k % n) row column) whole (IsWithin-high (number_limit * 1000000) (cap_at s den (k / n)) (cap-within s den (k / n) shaped l m row)))
