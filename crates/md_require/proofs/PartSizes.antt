-- How large what is read of a setting and of a mechanism can become.
use Rattle.std.proofs.Common.{◌≡◌, ℕ, ◌*◌, ◌^◌, ◌≤◌, ℤ, pos, ◌*ℤ◌, ◌<ℤ◌, neg_ℤ, List, sym, subst, arith, mul-le-mul, le_refl, unsigned_abs}
use Rattle.std.proofs.lemmas.Int.{ints, unsigned_abs-mul}
use Rattle.md_math.specs.Sizes.{IsWithin}
use Rattle.md_math.specs.Sums.{sum_to}
use Rattle.md_math.proofs.SizeLaws.{sum_to-within, IsWithin-wider, IsWithin-neg_ℤ}
use Rattle.md_math.proofs.Ring.{neg_ℤ-*ℤ, one-*ℤ}
use Rattle.md_setting.specs.Setting.{GeneralSetting}
use Rattle.md_setting.specs.Meaning.{utility_of}
use Rattle.md_setting.specs.Shaped.{IsShaped}
use Rattle.md_require.specs.Amounts.{Amount}
use Rattle.md_require.specs.Parts.{IsNarrow, chance_part, pay_part}

-- what an outcome is worth to the first agents
pub utilities-within : (s : GeneralSetting) (k : ℕ) (t : List ℕ) (o : ℕ) → IsShaped s → k ≤ 6 → IsWithin 6000000 (sum_to k (λ i. utility_of s i t o))
utilities-within s k t o shaped few =
    IsWithin-wider (k * 1000000) 6000000 (sum_to k (λ i. utility_of s i t o)) (omega (arith, mul-le-mul few (le_refl 1000000)))
    (sum_to-within k 1000000 (λ i. utility_of s i t o) (λ i _. shaped.small.utility i t o))

-- the number turned over
pub narrow-neg : (s : GeneralSetting) (scale : ℤ) (amount : Amount) → IsNarrow s scale amount → IsNarrow s (neg_ℤ scale) amount
narrow-neg s scale amount h = record {
  chances = λ r o b l. turned (chance_part s amount r o) (h.chances r o b l);
  pays = λ r i b l. turned (pay_part s amount r i) (h.pays r i b l);
}
  where
    turned : (z : ℤ) → IsWithin (2 ^ 44) (scale *ℤ z) → IsWithin (2 ^ 44) (neg_ℤ scale *ℤ z)
    turned z w = subst (IsWithin (2 ^ 44)) (sym (neg_ℤ-*ℤ scale z)) (IsWithin-neg_ℤ (2 ^ 44) (scale *ℤ z) w)

-- the number 1 in place of one of at least 1
pub narrow-one : (s : GeneralSetting) (scale : ℤ) (amount : Amount) → pos 0 <ℤ scale → IsNarrow s scale amount → IsNarrow s (pos 1) amount
narrow-one s scale amount above h = record {
  chances = λ r o b l. smaller (chance_part s amount r o) (h.chances r o b l);
  pays = λ r i b l. smaller (pay_part s amount r i) (h.pays r i b l);
}
  where
    some : 1 ≤ unsigned_abs scale
    some = grind (arith, ints)

    smaller : (z : ℤ) → IsWithin (2 ^ 44) (scale *ℤ z) → IsWithin (2 ^ 44) (pos 1 *ℤ z)
    smaller z w =
        let product : unsigned_abs (scale *ℤ z) ≡ unsigned_abs scale * unsigned_abs z = unsigned_abs-mul scale z in
        let more : 1 * unsigned_abs z ≤ unsigned_abs scale * unsigned_abs z = mul-le-mul some (le_refl (unsigned_abs z)) in
        subst (IsWithin (2 ^ 44)) (sym (one-*ℤ z)) (record { within = omega (arith, w.within, product, more) })
