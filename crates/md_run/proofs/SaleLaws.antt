-- What is drawn of a profile table of a sale, and how often.
use Rattle.std.proofs.Common.{◌≡◌, ℕ, suc, ◌+◌, ◌*◌, ◌<◌, ℤ, pos, ◌-ℤ◌, ◌*ℤ◌, ◌≤ℤ◌, List, sym, ap, ◌∙◌, subst, arith, add-one}
use Rattle.md_math.specs.Sums.{sum_to}
use Rattle.md_math.proofs.Ring.{ring}
use Rattle.md_math.proofs.SumLaws.{sum_to-same, sum_to-*ℤ}
use lib.IntN.{*ℤ_comm}
use Rattle.md_space.specs.Profiles.{IsProfile, profile_count, rank_of}
use Rattle.md_space.proofs.Ranks.{profile_at-rank_of, rank_of-below}
use Rattle.md_setting.specs.Setting.{GeneralSetting}
use Rattle.md_setting.specs.Meaning.{agent_count, sizes_of, weight_of}
use Rattle.md_mech.specs.Mechanism.{chance_of}
use Rattle.md_mech.proofs.ByProfileLaws.{chance_of-mechanism_by}
use Rattle.md_asym_sale.specs.Sale.{IsSale}
use Rattle.md_asym_tables.specs.Mechanisms.{all_weights, other_weights, win_of, whole_of, lottery_of, payment_of, mechanism_of}
use Rattle.md_asym_tables.specs.Tables.{IsProfileTable}
use Rattle.md_asym_tables.proofs.WeightLaws.{others-all}
use Rattle.md_run.specs.Lottery.{IsDrawnPlace, IsNoPlace, chances_from}
use Rattle.md_run.specs.OfMasses.{HasChance}
use Rattle.md_run.specs.OfSale.{AreSaleLotteries, IsSaleOutcome, mass_for, cap_for}
use Rattle.md_run.proofs.LotteryLaws.{drawn-count, none-count}

-- ---- the masses at a rank, as the code reads them

pub outcome-agent : (s : GeneralSetting) (y : List ℤ) (t : List ℕ) (rank agents i : ℕ) (d : ℤ) → rank ≡ rank_of (sizes_of s) t → agents ≡ agent_count s → IsDrawnPlace agents (chances_from y (rank * agents)) d i → IsSaleOutcome s y t d (i + 1)
outcome-agent s y t rank agents i d e f h =
    subst (IsSaleOutcome s y t d) (sym (add-one i))
    (subst (λ n. IsDrawnPlace n (chances_from y (rank_of (sizes_of s) t * n)) d i) f
    (subst (λ r. IsDrawnPlace agents (chances_from y (r * agents)) d i) e h))

pub outcome-kept : (s : GeneralSetting) (y : List ℤ) (t : List ℕ) (rank agents : ℕ) (d : ℤ) → rank ≡ rank_of (sizes_of s) t → agents ≡ agent_count s → IsNoPlace agents (chances_from y (rank * agents)) d → IsSaleOutcome s y t d 0
outcome-kept s y t rank agents d e f h =
    subst (λ n. IsNoPlace n (chances_from y (rank_of (sizes_of s) t * n)) d) f
    (subst (λ r. IsNoPlace agents (chances_from y (r * agents)) d) e h)

-- ---- the mechanism of the profile table

module _ (s : GeneralSetting) (den : ℤ) (y pays : List ℤ) (t : List ℕ) (sale : IsSale s) (p : IsProfile (sizes_of s) t) where
  chance-is : (outcome : ℕ) → outcome < agent_count s + 1 → chance_of s (mechanism_of s den y pays) t outcome ≡ lottery_of s den y t outcome
  chance-is outcome b =
      chance_of-mechanism_by s (whole_of s den) (lottery_of s den y) (payment_of s pays) t outcome p (omega (arith, sale.one_more, b))

  -- the other weights times that of the profile
  all-weighed : other_weights s (rank_of (sizes_of s) t) *ℤ weight_of s t ≡ all_weights s
  all-weighed =
      ap (λ u. other_weights s (rank_of (sizes_of s) t) *ℤ weight_of s u) (sym (profile_at-rank_of (sizes_of s) t p))
      ∙ others-all s (rank_of (sizes_of s) t) (rank_of-below (sizes_of s) t p)

  -- an agent gets the item as often as its mass says
  chance-won : (i : ℕ) → i < agent_count s → HasChance s (mechanism_of s den y pays) t (i + 1) (mass_for s y t i) (cap_for s den t)
  chance-won i b =
      let others = other_weights s (rank_of (sizes_of s) t) in
      let mass = mass_for s y t i in
      ap (λ z. z *ℤ cap_for s den t) (chance-is (i + 1) (omega (arith, b)) ∙ ap (lottery_of s den y t) (let e : i + 1 ≡ suc i = omega arith in e))
      ∙ turned mass others den (weight_of s t)
      ∙ ap (λ z. (den *ℤ z) *ℤ mass) all-weighed
    where
      turned : (m o d w : ℤ) → (m *ℤ o) *ℤ (d *ℤ w) ≡ (d *ℤ (o *ℤ w)) *ℤ m
      turned m o d w = simp ring

  -- the item is kept as often as the masses leave it
  chance-kept : HasChance s (mechanism_of s den y pays) t 0 (cap_for s den t -ℤ sum_to (agent_count s) (mass_for s y t)) (cap_for s den t)
  chance-kept =
      let others = other_weights s (rank_of (sizes_of s) t) in
      let masses = sum_to (agent_count s) (mass_for s y t) in
      let wins : sum_to (agent_count s) (win_of s y t) ≡ others *ℤ masses =
      sum_to-same (agent_count s) (win_of s y t) (λ i. others *ℤ mass_for s y t i) (λ i c. *ℤ_comm (mass_for s y t i) others) ∙ sum_to-*ℤ (agent_count s) others (mass_for s y t) in
      ap (λ z. z *ℤ cap_for s den t) (chance-is 0 (omega arith) ∙ ap (λ z. whole_of s den -ℤ z) wins)
      ∙ first den (all_weights s) (weight_of s t) others masses
      ∙ ap (λ z. (den *ℤ all_weights s) *ℤ cap_for s den t -ℤ (den *ℤ z) *ℤ masses) all-weighed
      ∙ second den (all_weights s) (cap_for s den t) masses
    where
      first : (d a w o m : ℤ) → ((d *ℤ a) -ℤ (o *ℤ m)) *ℤ (d *ℤ w) ≡ (d *ℤ a) *ℤ (d *ℤ w) -ℤ (d *ℤ (o *ℤ w)) *ℤ m
      first d a w o m = simp ring

      second : (d a c m : ℤ) → (d *ℤ a) *ℤ c -ℤ (d *ℤ a) *ℤ m ≡ (d *ℤ a) *ℤ (c -ℤ m)
      second d a c m = simp ring

-- ---- lotteries

pub sale-lotteries : (s : GeneralSetting) (den : ℤ) (y : List ℤ) → IsSale s → IsProfileTable s den y → AreSaleLotteries s den y
sale-lotteries s den y sale table = λ t p.
    let r = rank_of (sizes_of s) t in
    let b : r < profile_count (sizes_of s) = rank_of-below (sizes_of s) t p in
    let nonneg : (i : ℕ) → i < agent_count s → pos 0 ≤ℤ mass_for s y t i = λ i l. table.nonneg r i b l in
    let over : sum_to (agent_count s) (mass_for s y t) ≤ℤ cap_for s den t =
    subst (λ u. sum_to (agent_count s) (mass_for s y t) ≤ℤ cap_for s den u) (profile_at-rank_of (sizes_of s) t p) (table.inside r b) in
    record {
      agent = λ i l. drawn-count (agent_count s) i (mass_for s y t) (cap_for s den t) nonneg l over;
      kept = none-count (agent_count s) (mass_for s y t) (cap_for s den t) nonneg over;
      wins = λ pays i l. chance-won s den y pays t sale p i l;
      keeps = λ pays. chance-kept s den y pays t sale p;
    }
