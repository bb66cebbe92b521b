-- What an outcome is worth to the designer, added up agent by agent.
use Rattle.std.proofs.Common.{◌≡◌, ℕ, ◌+◌, ◌*◌, ◌^◌, ◌<◌, ℤ, ◌*ℤ◌, unsigned_abs, List, sym, ap, ◌∙◌, subst, arith}
use Rattle.std.specs.Prelude.{◌+ℤ◌}
use Rattle.std.proofs.lemmas.Nat.{mul-le}
use Rattle.std.proofs.Math.IntN.{+ℤ_assoc}
use Rattle.md_math.specs.Lists.{number_at}
use Rattle.md_math.specs.Sums.{sum_to}
use Rattle.md_math.specs.Sizes.{IsWithin}
use Rattle.md_math.proofs.SizeLaws.{IsWithin-+ℤ, IsWithin-*ℤ, sum_to-within}
use Rattle.md_math.proofs.SumLaws.{sum_to-more, sum_to-*ℤ}
use Rattle.std.specs.List.{list_all}
use Rattle.md_space.specs.Profiles.{profile_count, profile_at}
use Rattle.md_space.proofs.InOrder.{profiles_of-by_rank}
use Rattle.md_setting.specs.Refusals.{all_below, is_small, has_small_values}
use Rattle.md_setting.proofs.TestLaws.{list_all-list_to}
use Rattle.md_setting.specs.Setting.{GeneralSetting}
use Rattle.md_setting.specs.Meaning.{utility_of, value_of, agent_count, outcome_count, sizes_of}
use Rattle.md_setting.specs.Shaped.{IsSmall}

-- the value with the utilities of the first n agents
abbrev pub value_so_far : GeneralSetting → List ℕ → ℕ → ℕ → ℤ
value_so_far s t o n = number_at s.values o +ℤ sum_to n (λ i. s.welfare *ℤ utility_of s i t o)

pub value_so_far-within : (s : GeneralSetting) (t : List ℕ) (o n : ℕ) → IsSmall s → IsWithin (1000000 + n * 1000000000) (value_so_far s t o n)
value_so_far-within s t o n h =
    IsWithin-+ℤ 1000000 (n * 1000000000) (number_at s.values o) (sum_to n (λ i. s.welfare *ℤ utility_of s i t o)) (h.value o)
    (sum_to-within n 1000000000 (λ i. s.welfare *ℤ utility_of s i t o)
    (λ i l. IsWithin-*ℤ 1000 1000000 s.welfare (utility_of s i t o) h.welfare (h.utility i t o)))

-- one agent more fits
pub value_fits : (s : GeneralSetting) (t : List ℕ) (o n : ℕ) (v w u : ℤ) → IsSmall s → n < 7 → v ≡ value_so_far s t o n → w ≡ s.welfare → u ≡ utility_of s n t o →
    unsigned_abs v + unsigned_abs w * unsigned_abs u < 2 ^ 126
value_fits s t o n v w u h l e f g =
    let size : IsWithin (1000000 + n * 1000000000) v = subst (IsWithin (1000000 + n * 1000000000)) (sym e) (value_so_far-within s t o n h) in
    let welfare : IsWithin 1000 w = subst (IsWithin 1000) (sym f) h.welfare in
    let utility : IsWithin 1000000 u = subst (IsWithin 1000000) (sym g) (h.utility n t o) in
    omega (arith, size.within, mul-le (unsigned_abs w) (unsigned_abs u) 1000 1000000 welfare.within utility.within)

pub value_more : (s : GeneralSetting) (t : List ℕ) (o n : ℕ) (v w u : ℤ) → v ≡ value_so_far s t o n → w ≡ s.welfare → u ≡ utility_of s n t o →
    (v +ℤ w *ℤ u) ≡ value_so_far s t o (n + 1)
value_more s t o n v w u e f g =
    rw (e, f, g, sum_to-more n (λ i. s.welfare *ℤ utility_of s i t o))
    (+ℤ_assoc (number_at s.values o) (sum_to n (λ i. s.welfare *ℤ utility_of s i t o)) (s.welfare *ℤ utility_of s n t o))

pub value_end : (s : GeneralSetting) (t : List ℕ) (o n : ℕ) → n ≡ agent_count s → value_so_far s t o n ≡ value_of s t o
value_end s t o n e = rw e (ap (λ x. number_at s.values o +ℤ x) (sum_to-*ℤ (agent_count s) s.welfare (λ i. utility_of s i t o)))

-- the values by the ranks of the profiles
pub small_values-by_rank : (s : GeneralSetting) →
    has_small_values s
    ≡ all_below (profile_count (sizes_of s)) (λ r. all_below (outcome_count s) (λ o. is_small 10000000 (value_of s (profile_at (sizes_of s) r) o)))
unfolding has_small_values
small_values-by_rank s =
    ap (list_all (λ t. all_below (outcome_count s) (λ o. is_small 10000000 (value_of s t o)))) (profiles_of-by_rank (sizes_of s))
    ∙ list_all-list_to (λ t. all_below (outcome_count s) (λ o. is_small 10000000 (value_of s t o))) (profile_count (sizes_of s)) (profile_at (sizes_of s))
