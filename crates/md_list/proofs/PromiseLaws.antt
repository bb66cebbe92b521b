-- What a list of the right form promises: no slot goes to two bidders; whatever the others report, truth is best and nobody has
-- less than nothing; who gets nothing pays nothing, and each unit costs the least value with which it would still be had.
use Rattle.std.proofs.Common.{◌≡◌, ℕ, suc, ◌<◌, ◌≤◌, ℤ, pos, ◌-ℤ◌, ◌*ℤ◌, ◌≤ℤ◌, true, false, Bool, List, length, sym, ap, subst, ◌∙◌, arith}
use Rattle.std.specs.Prelude.{slice_index}
use Rattle.std.proofs.lemmas.Int.{ints}
use Rattle.std.proofs.lemmas.List.{set-set, set-get_or, get_or-set_same}
use Rattle.md_math.specs.Sums.{sum_to}
use Rattle.md_math.proofs.Order.{le_from_lt}
use Rattle.md_math.proofs.Ring.{linear}
use Rattle.md_space.specs.Profiles.{IsProfile, replaced}
use Rattle.md_space.proofs.Ranks.{replaced-IsProfile}
use Rattle.md_setting.specs.Meaning.{sizes_of, outside_of}
use Rattle.md_mech.specs.Admissible.{IsAdmissible}
use Rattle.md_mech.specs.Rationality.{IsExPostRational, IsRationalBy}
use Rattle.md_mech.specs.Truth.{IsDominantTruth, IsTruthfulBy}
use Rattle.md_mech.specs.Utility.{expected_utility}
use Rattle.md_setting.specs.Grouped.{GroupedAuction, bidder_count, value_count, value_at}
use Rattle.md_bidders.specs.Setting.{setting_of}
use Rattle.md_setting.specs.GroupedShaped.{IsOrdered}
use Rattle.md_bidders.proofs.BidderLaws.{values-ascend}
use Rattle.md_bidders.proofs.SettingLaws.{setting-truth, setting-rational, setting-no_deficit, agent_count-setting, size_at-setting, IsReport, is-report, weight-nonneg, outside_of-setting}
use Rattle.md_list.specs.Ranks.{Rank, IsList}
use Rattle.md_list.specs.Rule.{pay_by, amount_at, amount_with, payment, least_value}
use Rattle.md_list.specs.Mechanisms.{list_mechanism, LosersPayNothing, UnitsCostLeast, KeepsPromises}
use Rattle.md_list.proofs.AmountLaws.{slots-differ, amount-rises}
use Rattle.md_list.proofs.AverageLaws.{bayes-from_dominant, interim-from_ex_post}
use Rattle.md_list.proofs.MechanismLaws.{is-mechanism, utility-is}
use Rattle.md_list.proofs.PayLaws.{pay-most, pay-best, pay-same, pay-none}
use Rattle.md_list.proofs.PriceLaws.{pay-by_unit}

pos-le : (m n : ℕ) → m ≤ n → pos m ≤ℤ pos n
pos-le m n l = omega (arith, ints, l)

pos-nonneg : (m : ℕ) → pos 0 ≤ℤ pos m
pos-nonneg m = omega (arith, ints)

module _ (a : GroupedAuction) (ranks : List Rank) (ordered : IsOrdered a) (is : IsList a ranks) where
  -- ---- one bidder, where the others stay

  module _ (t : List ℕ) (i : ℕ) (report : IsReport a t) (b : i < bidder_count a) where
    inside : i < length t
    inside = omega (arith, b, report.long)

    -- what it would get with each value
    abbrev amounts : ℕ → ℤ
    amounts v = pos (amount_with a ranks t i v)

    values-rise : (v : ℕ) → suc v < value_count a i → value_at a i v ≤ℤ value_at a i (suc v)
    values-rise v l = le_from_lt (value_at a i v) (value_at a i (suc v)) (values-ascend a ordered i b v l)

    amounts-rise : (v : ℕ) → suc v < value_count a i → amounts v ≤ℤ amounts (suc v)
    amounts-rise v l =
        pos-le (amount_with a ranks t i v) (amount_with a ranks t i (suc v)) (amount-rises a ranks t i ordered is v (suc v) inside (omega arith) l)

    -- what it gets is that with its own value
    own-amount : amount_at a ranks t i ≡ amount_with a ranks t i (slice_index t i)
    own-amount = ap (λ u. amount_at a ranks u i) (sym (set-get_or t i 0))

    payment-replaced : (w : ℕ) → payment a ranks i (replaced t i w) ≡ pay_by (value_at a i) amounts w
    payment-replaced w =
        ap (pay_by (value_at a i) (λ v. pos (amount_with a ranks (replaced t i w) i v))) (get_or-set_same t i w 0 inside)
        ∙ pay-same (value_at a i) _ amounts w (λ v l. ap (λ u. pos (amount_at a ranks u i)) (set-set t i w v))

    payment-most : payment a ranks i t ≤ℤ (value_at a i (slice_index t i) *ℤ amounts (slice_index t i))
    payment-most =
        pay-most (value_count a i) (value_at a i) amounts values-rise amounts-rise (pos-nonneg (amount_with a ranks t i 0)) (slice_index t i) (report.below i b)

    best : (v w : ℕ) → v < value_count a i → w < value_count a i
        → (value_at a i v *ℤ amounts w -ℤ pay_by (value_at a i) amounts w) ≤ℤ (value_at a i v *ℤ amounts v -ℤ pay_by (value_at a i) amounts v)
    best v w h l = pay-best (value_count a i) (value_at a i) amounts values-rise amounts-rise v w h l

    loser-pays : amount_at a ranks t i ≡ 0 → payment a ranks i t ≡ pos 0
    loser-pays none =
        pay-none (value_at a i) amounts (slice_index t i)
        (λ v l. ap (λ n. pos n) (let more = amount-rises a ranks t i ordered is v (slice_index t i) inside l (report.below i b) in omega (arith, more, own-amount, none)))

    prices-least : payment a ranks i t ≡ sum_to (amount_at a ranks t i) (least_value a ranks i t)
    prices-least =
        pay-by_unit (value_count a i) (value_at a i) (amount_with a ranks t i) (λ v w l h. amount-rises a ranks t i ordered is v w inside l h) (slice_index t i) (report.below i b)
        ∙ ap (λ n. sum_to n (least_value a ranks i t)) (sym own-amount)

  -- ---- the mechanism

  has-with : (t : List ℕ) (i w : ℕ) → IsProfile (sizes_of (setting_of a)) t → i < bidder_count a → w < value_count a i
      → expected_utility (setting_of a) (list_mechanism a ranks) i t (replaced t i w)
      ≡ value_at a i (slice_index t i) *ℤ pos (amount_with a ranks t i w) -ℤ pay_by (value_at a i) (λ v. pos (amount_with a ranks t i v)) w
  has-with t i w p b l =
      let report = is-report a t p in
      let there : IsProfile (sizes_of (setting_of a)) (replaced t i w) = replaced-IsProfile (sizes_of (setting_of a)) t i w p (subst (λ k. w < k) (sym (size_at-setting a i b)) l) in
      utility-is a ranks i t (replaced t i w) b (report.below i b) there
      ∙ ap (λ z. value_at a i (slice_index t i) *ℤ pos (amount_with a ranks t i w) -ℤ z) (payment-replaced t i report b w)

  has-own : (t : List ℕ) (i : ℕ) → IsProfile (sizes_of (setting_of a)) t → i < bidder_count a
      → expected_utility (setting_of a) (list_mechanism a ranks) i t t
      ≡ value_at a i (slice_index t i) *ℤ pos (amount_with a ranks t i (slice_index t i)) -ℤ payment a ranks i t
  has-own t i p b =
      let report = is-report a t p in
      utility-is a ranks i t t b (report.below i b) p
      ∙ ap (λ n. value_at a i (slice_index t i) *ℤ pos n -ℤ payment a ranks i t) (own-amount t i report b)

  pub dominant-truth : IsDominantTruth (setting_of a) (list_mechanism a ranks)
  dominant-truth i t w h p l =
      let b : i < bidder_count a = subst (λ n. i < n) (agent_count-setting a) h in
      let c : w < value_count a i = subst (λ k. w < k) (size_at-setting a i b) l in
      let report = is-report a t p in
      rw (has-with t i w p b c, has-own t i p b) (best t i report b (slice_index t i) w (report.below i b) c)

  pub ex-post : IsExPostRational (setting_of a) (list_mechanism a ranks)
  ex-post i t h p =
      let b : i < bidder_count a = subst (λ n. i < n) (agent_count-setting a) h in
      let outside : pos 1 *ℤ outside_of (setting_of a) i (slice_index t i) ≡ pos 0 = ap (λ z. pos 1 *ℤ z) (outside_of-setting a i (slice_index t i) b) in
      enough _ _ _ _ outside (has-own t i p b) (payment-most t i (is-report a t p) b)
    where
      enough : (z u x w : ℤ) → z ≡ pos 0 → u ≡ x -ℤ w → w ≤ℤ x → z ≤ℤ u
      enough z u x w e f l = omega (arith, linear, e, f, l)

  pub losers-pay_nothing : LosersPayNothing a ranks
  losers-pay_nothing i t b p none = loser-pays t i (is-report a t p) b none

  pub units-cost_least : UnitsCostLeast a ranks
  units-cost_least i t b p = prices-least t i (is-report a t p) b

  pub admissible : IsAdmissible (setting_of a) (list_mechanism a ranks)
  admissible =
      let s = setting_of a in
      let m = list_mechanism a ranks in
      record {
        mechanism = is-mechanism a ranks;
        truthful = subst (λ kind. IsTruthfulBy kind s m) (sym (setting-truth a)) (bayes-from_dominant s m (weight-nonneg a) dominant-truth);
        rational = subst (λ kind. IsRationalBy kind s m) (sym (setting-rational a)) (interim-from_ex_post s m (weight-nonneg a) ex-post);
        no_deficit = λ on t p. off_is_on (setting-no_deficit a) on;
      }
    where
      off_is_on : {P : Type 0} {c : Bool} → c ≡ false → c ≡ true → P
      off_is_on e f = cc

  pub keeps-promises : KeepsPromises a ranks
  keeps-promises = record { admissible = admissible; truthful = dominant-truth; rational = ex-post; slots = slots-differ a ranks; losers = losers-pay_nothing; prices = units-cost_least }
