-- The masses at the counts of a profile, and the lotteries of an answer.
use Rattle.std.proofs.Common.{◌≡◌, ℕ, suc, ◌+◌, ◌<◌, ℤ, pos, ◌-ℤ◌, ◌*ℤ◌, ◌≤ℤ◌, List, sym, ap, ap₂, subst, ◌∙◌, arith, if◌then◌else◌}
use Rattle.std.specs.Prelude.{slice_index}
use Rattle.std.proofs.lemmas.Int.{ints}
use Rattle.md_math.specs.Lists.{number_at}
use Rattle.md_math.specs.Sums.{sum_to}
use Rattle.md_math.proofs.Builders.{get_or-list_to}
use Rattle.md_math.proofs.Ring.{ring, *ℤ_assoc}
use Rattle.md_math.proofs.SumLaws.{sum_to-single, sum_to-same}
use Rattle.md_space.specs.Profiles.{IsProfile}
use Rattle.md_setting.specs.Setting.{GeneralSetting}
use Rattle.md_setting.specs.Meaning.{outcome_count, sizes_of}
use Rattle.md_setting.specs.Auction.{SymmetricAuction, value_count}
use Rattle.md_setting.specs.AuctionShaped.{IsAuction}
use Rattle.md_setting.specs.General.{general_of}
use Rattle.md_setting.specs.declared.file.SettingFile.TheVariants.{General}
use Rattle.md_setting.proofs.GeneralLaws.{outcome_count-general, sizes_of-general}
use Rattle.md_mech.specs.declared.mechanism.Mechanism.{Mechanism}
use Rattle.md_mech.specs.Mechanism.{IsMechanism, chance_of}
use Rattle.md_mech.proofs.ByProfileLaws.{chance_of-mechanism_by}
use Rattle.md_counts.specs.Weights.{count_in, counts_of, weight_of_counts}
use Rattle.md_counts.proofs.ListsOfValues.{HasOneRank, one_rank}
use Rattle.md_counts.proofs.RankLaws.{ranks-apart}
use Rattle.md_expost.specs.declared.masses.Masses.{Masses}
use Rattle.md_expost.specs.Masses.{AreMasses, rank_count, counts_in, cap_at, mass_at}
use Rattle.md_expost.specs.Mechanisms.{all_orders, share, win_of, whole_of, lottery_of, mechanism_of}
use Rattle.md_expost.proofs.Winners.{shared, win-at, wins-of_counts, value-below}
use Rattle.md_answer.specs.declared.answer.Answer.{Answer}
use Rattle.md_answer.specs.declared.answer.Answer.TheVariants.{Table, Optimal, Infeasible, Unbounded, AuctionOptimal, TooWide}
use Rattle.md_answer.specs.AnswerTo.{IsAnswerTo}
use Rattle.md_run.specs.OfMechanism.{IsLottery}
use Rattle.md_run.specs.OfMasses.{AreReports, HasChance, IsAuctionLottery, mass_for, cap_for}
use Rattle.md_run.specs.Drawn.{AreLotteries}
use Rattle.md_run.proofs.LotteryLaws.{drawn-count, none-count}
use Rattle.md_run.proofs.ReportLaws.{numbered-count, reports-length}

-- ---- at one rank

-- of all ranks the profile has the counts of one alone
pub mass-at_rank : (a : SymmetricAuction) (y : Masses) (t : List ℕ) (rank v : ℕ) → AreReports a t → rank < rank_count a → counts_in a rank ≡ counts_of (value_count a) t → mass_for a y t v ≡ mass_at a y rank v
mass-at_rank a y t rank v p b e =
    let o : HasOneRank a.bidders (value_count a) t = one_rank a.bidders (value_count a) t p in
    let same : rank ≡ o.rank = ranks-apart a.bidders (value_count a) rank o.rank b o.below (e ∙ sym o.is) in
    sum_to-single (rank_count a) o.rank _ o.below (λ r l d. ap (λ s. if s then mass_at a y r v else pos 0) (o.only r l d))
    ∙ ap (λ s. if s then mass_at a y o.rank v else pos 0) o.has
    ∙ ap (λ r. mass_at a y r v) (sym same)

pub cap-at_rank : (a : SymmetricAuction) (den : ℤ) (t : List ℕ) (rank : ℕ) → counts_in a rank ≡ counts_of (value_count a) t → cap_at a den rank ≡ cap_for a den t
cap-at_rank a den t rank e = ap (λ counts. den *ℤ pos (weight_of_counts a.weights a.bidders counts)) e

-- ---- the mechanism of the mass table

module _ (a : SymmetricAuction) (y : Masses) (pays : List ℤ) (t : List ℕ) (shaped : IsAuction a) (are : AreMasses a y) (p : AreReports a t) (o : HasOneRank a.bidders (value_count a) t) where
  chance-is : (outcome : ℕ) → outcome < a.bidders + 1 → chance_of (general_of a) (mechanism_of a y pays) t outcome ≡ lottery_of a y t outcome
  chance-is outcome b =
      chance_of-mechanism_by (general_of a) (whole_of a y) (lottery_of a y) (λ j u. number_at pays (slice_index u j) *ℤ pos (all_orders a)) t outcome
      (subst (λ sizes. IsProfile sizes t) (sym (sizes_of-general a)) p) (omega (arith, outcome_count-general a, b))

  -- a bidder gets its part of the mass of its value
  chance-won : (i : ℕ) → i < a.bidders → HasChance (general_of a) (mechanism_of a y pays) t (i + 1) (mass_for a y t (slice_index t i)) (cap_for a y.den t *ℤ pos (count_in (slice_index t i) t))
  chance-won i b =
      let v = slice_index t i in
      let below : v < value_count a = value-below a.bidders (value_count a) t i p b in
      let weight = pos (weight_of_counts a.weights a.bidders (counts_in a o.rank)) in
      let part = mass_at a y o.rank v *ℤ pos (share a (counts_in a o.rank) v) in
      let chance : chance_of (general_of a) (mechanism_of a y pays) t (i + 1) ≡ part =
      chance-is (i + 1) (omega (arith, b)) ∙ ap (lottery_of a y t) (let e : i + 1 ≡ suc i = omega arith in e) ∙ win-at a y t i o in
      let count : slice_index (counts_in a o.rank) v ≡ count_in v t = ap (λ counts. slice_index counts v) o.is ∙ get_or-list_to (value_count a) (λ u. count_in u t) v 0 below in
      ap₂ (λ x z. x *ℤ z) chance (ap₂ (λ x z. x *ℤ pos z) (sym (cap-at_rank a y.den t o.rank o.is)) (sym count))
      ∙ turned part y.den weight (pos (slice_index (counts_in a o.rank) v))
      ∙ ap (λ z. y.den *ℤ z) (shared a y o.rank v shaped are.absent o.below below)
      ∙ sym (*ℤ_assoc y.den (pos (all_orders a)) (mass_at a y o.rank v))
      ∙ ap (λ z. whole_of a y *ℤ z) (sym (mass-at_rank a y t o.rank v p o.below o.is))
    where
      turned : (x d w c : ℤ) → x *ℤ ((d *ℤ w) *ℤ c) ≡ d *ℤ (x *ℤ (w *ℤ c))
      turned x d w c = simp ring

  -- the item is kept as often as the masses leave it
  chance-kept : HasChance (general_of a) (mechanism_of a y pays) t 0 (cap_for a y.den t -ℤ sum_to (value_count a) (mass_for a y t)) (cap_for a y.den t)
  chance-kept =
      let weight = pos (weight_of_counts a.weights a.bidders (counts_in a o.rank)) in
      let wins = sum_to a.bidders (win_of a y t) in
      let masses = sum_to (value_count a) (mass_at a y o.rank) in
      let cap : y.den *ℤ weight ≡ cap_for a y.den t = cap-at_rank a y.den t o.rank o.is in
      let same : masses ≡ sum_to (value_count a) (mass_for a y t) = sum_to-same (value_count a) (mass_at a y o.rank) (mass_for a y t) (λ v b. sym (mass-at_rank a y t o.rank v p o.below o.is)) in
      ap₂ (λ x z. x *ℤ z) (chance-is 0 (omega arith)) (sym cap)
      ∙ first y.den (pos (all_orders a)) weight wins
      ∙ ap (λ z. (y.den *ℤ pos (all_orders a)) *ℤ (y.den *ℤ weight) -ℤ y.den *ℤ z) (wins-of_counts a y t o shaped are.absent p)
      ∙ second y.den (pos (all_orders a)) (y.den *ℤ weight) masses
      ∙ ap₂ (λ c m. whole_of a y *ℤ (c -ℤ m)) cap same
    where
      first : (d o w s : ℤ) → ((d *ℤ o) -ℤ s) *ℤ (d *ℤ w) ≡ (d *ℤ o) *ℤ (d *ℤ w) -ℤ d *ℤ (w *ℤ s)
      first d o w s = simp ring

      second : (d o c m : ℤ) → (d *ℤ o) *ℤ c -ℤ d *ℤ (o *ℤ m) ≡ (d *ℤ o) *ℤ (c -ℤ m)
      second d o c m = simp ring

-- ---- lotteries

pub mechanism-lottery : (s : GeneralSetting) (m : Mechanism) (t : List ℕ) → IsMechanism s m → IsProfile (sizes_of s) t → IsLottery s m t
mechanism-lottery s m t h p = λ o b.
    drawn-count (outcome_count s) o (chance_of s m t) m.den (λ j l. h.not_negative t j p l) b (at_most _ _ (h.whole t p))
  where
    at_most : (x y : ℤ) → x ≡ y → x ≤ℤ y
    at_most x y e = omega (arith, ints, e)

pub masses-lottery : (a : SymmetricAuction) (y : Masses) (t : List ℕ) → IsAuction a → AreMasses a y → AreReports a t → IsAuctionLottery a y t
masses-lottery a y t shaped h p =
    let o : HasOneRank a.bidders (value_count a) t = one_rank a.bidders (value_count a) t p in
    let at : (v : ℕ) → mass_for a y t v ≡ mass_at a y o.rank v = λ v. mass-at_rank a y t o.rank v p o.below o.is in
    let nonneg : (v : ℕ) → v < value_count a → pos 0 ≤ℤ mass_for a y t v = λ v b. subst (λ z. pos 0 ≤ℤ z) (sym (at v)) (h.nonneg o.rank v o.below b) in
    let sums : sum_to (value_count a) (mass_for a y t) ≡ sum_to (value_count a) (mass_at a y o.rank) = sum_to-same (value_count a) _ _ (λ v b. at v) in
    let over : sum_to (value_count a) (mass_for a y t) ≤ℤ cap_for a y.den t =
    subst (λ z. z ≤ℤ cap_for a y.den t) (sym sums) (subst (λ z. sum_to (value_count a) (mass_at a y o.rank) ≤ℤ z) (cap-at_rank a y.den t o.rank o.is) (h.over o.rank o.below)) in
    record {
      value = λ v b. drawn-count (value_count a) v (mass_for a y t) (cap_for a y.den t) nonneg b over;
      kept = none-count (value_count a) (mass_for a y t) (cap_for a y.den t) nonneg over;
      bidder = λ i b. numbered-count t i (subst (λ n. i < n) (sym (reports-length a.bidders (value_count a) t p)) b);
      wins = λ pays i b. chance-won a y pays t shaped h p o i b;
      keeps = λ pays. chance-kept a y pays t shaped h p o;
    }

pub lotteries : (s : GeneralSetting) (answer : Answer) → IsAnswerTo s answer → AreLotteries (General s) answer
lotteries s (Table mechanism) h = λ t p. mechanism-lottery s mechanism t h.mechanism p
lotteries s (Optimal value mechanism bound) h = λ t p. mechanism-lottery s mechanism t h.1.mechanism p
lotteries s (Infeasible face) h = tt
lotteries s (Unbounded mechanism ray) h = λ t p. mechanism-lottery s mechanism t h.0.mechanism p
lotteries s (AuctionOptimal value interim masses cuts bound) h = absurd h
lotteries s (TooWide cuts first second) h = tt
