-- The threshold rule is a mechanism of the units, in which each bidder wins by its chance and pays its payment.
use Rattle.std.proofs.Common.{◌≡◌, ℕ, ◌<◌, pos, ◌≤ℤ◌, true, false, Bool, if◌then◌else◌, List, length, sym, ap, ◌∙◌, subst, arith}
use Rattle.std.specs.Prelude.{slice_index}
use Rattle.std.proofs.lemmas.Int.{ints}
use Rattle.std.proofs.lemmas.List.{length-replicate}
use Rattle.md_math.specs.Sums.{sum_to}
use Rattle.md_math.proofs.SumLaws.{sum_to-same}
use Rattle.md_space.specs.Profiles.{IsProfile}
use Rattle.md_space.proofs.Ranks.{length-IsProfile}
use Rattle.md_setting.specs.Meaning.{outcome_count, sizes_of}
use Rattle.md_setting.specs.Auction.{SymmetricAuction, value_count}
use Rattle.md_setting.specs.AuctionShaped.{IsAuction}
use Rattle.md_setting.specs.General.{general_of}
use Rattle.md_setting.proofs.GeneralLaws.{sizes_of-general}
use Rattle.md_mech.specs.Mechanism.{IsMechanism}
use Rattle.md_mech.proofs.ByProfileLaws.{chance_of-mechanism_by, pay_of-mechanism_by, IsMechanism-mechanism_by}
use Rattle.md_border.proofs.MechanismWorth.{has-values}
use Rattle.md_winners.specs.Sets.{holds, set_at}
use Rattle.md_winners.specs.Setting.{units_of}
use Rattle.md_winners.specs.Odds.{win_in, paid_in}
use Rattle.md_winners.proofs.SettingLaws.{units-payments, agent_count-units, outcome_count-units, sizes_of-units}
use Rattle.md_iron_values.specs.Pools.{Pools}
use Rattle.md_iron_values.specs.VirtualValues.{weight_to, virtual_to, IsPooledAuction}
use Rattle.md_threshold_laws.specs.Rule.{draw_count, chance, payment, wins_at}
use Rattle.md_threshold_laws.specs.Mechanisms.{set_draws, threshold_mechanism}
use Rattle.md_threshold_laws.proofs.Profiles.{some-draws, wins-chance, wins-all}
use Rattle.md_threshold_laws.proofs.LotteryLaws.{draws-all, draws-with}

-- ---- profiles of an auction

-- each of its bidders has one of its values
pub record IsReport (a : SymmetricAuction) (t : List ℕ) : Type 0 where
  pub long : length t ≡ a.bidders
  pub below : (i : ℕ) → i < length t → slice_index t i < value_count a

pub is-report : (a : SymmetricAuction) (t : List ℕ) → IsProfile (sizes_of (general_of a)) t → IsReport a t
is-report a t p =
    let long : length t ≡ a.bidders = length-IsProfile _ t (subst (λ sizes. IsProfile sizes t) (sizes_of-general a) p) ∙ length-replicate a.bidders (value_count a) in
    record { long = long; below = λ i b. (has-values a t p).value i (omega (arith, b, long)) }

pub general-profile : (a : SymmetricAuction) (units : ℕ) (t : List ℕ) → IsProfile (sizes_of (units_of a units)) t → IsProfile (sizes_of (general_of a)) t
general-profile a units t p = subst (λ sizes. IsProfile sizes t) (sizes_of-units a units) p

pub units-profile : (a : SymmetricAuction) (units : ℕ) (t : List ℕ) → IsProfile (sizes_of (general_of a)) t → IsProfile (sizes_of (units_of a units)) t
units-profile a units t p = subst (λ sizes. IsProfile sizes t) (sym (sizes_of-units a units)) p

module _ (a : SymmetricAuction) (units : ℕ) (pools : Pools) (shaped : IsAuction a) (p : IsPooledAuction a pools) where
  -- at no draw more bidders win than there are units
  pub enough : (t : List ℕ) → IsReport a t → (draw : ℕ) → sum_to a.bidders (λ i. if wins_at units pools t draw i then pos 1 else pos 0) ≤ℤ pos units
  enough t is draw =
      subst (λ n. sum_to n (λ i. if wins_at units pools t draw i then pos 1 else pos 0) ≤ℤ pos units) is.long
      (wins-all (value_count a) (weight_to a) (virtual_to a) pools p units t is.below draw)

  pub is-mechanism : IsMechanism (units_of a units) (threshold_mechanism a units pools)
  is-mechanism =
      IsMechanism-mechanism_by (units_of a units) (pos draw_count) (set_draws a units pools) (payment a units pools)
      (record {
        positive = some;
        not_negative = λ t o h l. nonneg _;
        whole = λ t h. all t (is-report a t (general-profile a units t h));
        no_payment = λ off t i h l. off_is_on (units-payments a units) off;
      })
    where
      some : pos 1 ≤ℤ pos draw_count
      some = omega (arith, ints, some-draws)

      nonneg : (m : ℕ) → pos 0 ≤ℤ pos m
      nonneg m = omega (arith, ints)

      off_is_on : {P : Type 0} {b : Bool} → b ≡ true → b ≡ false → P
      off_is_on e f = cc

      all : (t : List ℕ) → IsReport a t → sum_to (outcome_count (units_of a units)) (set_draws a units pools t) ≡ pos draw_count
      all t is =
          ap (λ n. sum_to n (set_draws a units pools t)) (outcome_count-units a units)
          ∙ draws-all a.bidders units draw_count (wins_at units pools t) (λ draw b. enough t is draw)

  -- a bidder wins by its chance
  pub wins-are : (i : ℕ) (t : List ℕ) → i < a.bidders → IsProfile (sizes_of (general_of a)) t → win_in a units (threshold_mechanism a units pools) i t ≡ pos (chance units pools t (slice_index t i))
  wins-are i t b h =
      let s = units_of a units in
      let is = is-report a t h in
      sum_to-same (outcome_count s) _ (λ o. if holds (set_at a.bidders units o) i then set_draws a units pools t o else pos 0)
      (λ o l. ap (λ z. if holds (set_at a.bidders units o) i then z else pos 0) (chance_of-mechanism_by s (pos draw_count) (set_draws a units pools) (payment a units pools) t o (units-profile a units t h) l))
      ∙ ap (λ n. sum_to n (λ o. if holds (set_at a.bidders units o) i then set_draws a units pools t o else pos 0)) (outcome_count-units a units)
      ∙ draws-with a.bidders units draw_count (wins_at units pools t) (λ draw c. enough t is draw) i b
      ∙ wins-chance units pools t i (omega (arith, is.long, shaped.few_bidders)) (omega (arith, is.long, b))

  -- and pays its payment
  pub pays-are : (i : ℕ) (t : List ℕ) → i < a.bidders → IsProfile (sizes_of (general_of a)) t → paid_in a units (threshold_mechanism a units pools) i t ≡ payment a units pools i t
  pays-are i t b h =
      pay_of-mechanism_by (units_of a units) (pos draw_count) (set_draws a units pools) (payment a units pools) t i (units-profile a units t h) (subst (λ n. i < n) (sym (agent_count-units a units)) b)
