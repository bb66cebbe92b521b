-- Two numbers in the form of a mechanism with the same odds and payments, which need not be mechanisms: what is measured of
-- them is the same, by their denominators.
use Rattle.std.proofs.Common.{◌≡◌, ℕ, ◌<◌, ℤ, pos, ◌*ℤ◌, ◌<ℤ◌, Bool, [], ◌∷◌, ◌++◌, All, sym, subst}
use Rattle.std.specs.Prelude.{slice_index}
use Rattle.std.proofs.lemmas.List.Elements.{All-nil, All-append}
use lib.IntN.{*ℤ_comm}
use Rattle.md_math.specs.Sums.{sum_to}
use Rattle.md_math.proofs.Builders.{All-up_to}
use Rattle.md_space.specs.Profiles.{replaced}
use Rattle.md_setting.specs.declared.kinds.Rational.{Rational}
use Rattle.md_setting.specs.declared.kinds.Truth.{Truth}
use Rattle.md_setting.specs.Setting.{GeneralSetting}
use Rattle.md_setting.specs.Meaning.{agent_count, sizes_of, outside_of, marginal_of}
use Rattle.md_setting.specs.Shaped.{IsShaped}
use Rattle.md_mech.specs.declared.mechanism.Mechanism.{Mechanism}
use Rattle.md_mech.specs.Rows.{bayes_row, interim_row, left_of, right_of, by_report, truth_rows, rational_rows, deficit_rows, demand_rows, bayes_rows, interim_rows}
use Rattle.md_mech.specs.Utility.{expected_utility, weighted_given}
use Rattle.md_mech.proofs.RowLaws.{all-by_report, all-one}
use Rattle.md_asym_sale.specs.Pairs.{pair_number}
use Rattle.md_asym_sale.specs.Sale.{IsSale}
use Rattle.md_asym_sale.specs.Values.{pairs_of, value_at, marginal_at}
use Rattle.md_asym_laws.specs.Odds.{HasPairOdds, HasPairPays}
use Rattle.md_report.proofs.FigureLaws.{IsScaled, AllScaled, AreAlike}
use Rattle.md_report.proofs.MissedLaws.{bayes-missed, interim-missed}
use Rattle.md_report.proofs.Scaling.{alike, less-scaled, weighed, lacks}
use Rattle.md_sale_report.proofs.OddsGiven.{share, own-by, told-by, payments-by, welfare-by}

-- what agents have by the truth, and by other reports
record HaveAlike (s : GeneralSetting) (m n : Mechanism) (d e : ℤ) : Type 0 where
  dens : d *ℤ m.den ≡ e *ℤ n.den
  told : (i a b : ℕ) → i < agent_count s → a < slice_index (sizes_of s) i → b < slice_index (sizes_of s) i
      → d *ℤ weighted_given s i a (λ t. expected_utility s m i t (replaced t i b)) ≡ e *ℤ weighted_given s i a (λ t. expected_utility s n i t (replaced t i b))
  own : (i a : ℕ) → i < agent_count s → a < slice_index (sizes_of s) i
      → d *ℤ weighted_given s i a (λ t. expected_utility s m i t t) ≡ e *ℤ weighted_given s i a (λ t. expected_utility s n i t t)

-- ---- one condition

bayes-scaled : (s : GeneralSetting) (m n : Mechanism) (d e : ℤ) (i a b : ℕ) → HaveAlike s m n d e → i < agent_count s → a < slice_index (sizes_of s) i → b < slice_index (sizes_of s) i → IsScaled s m n d e (bayes_row i a b)
bayes-scaled s m n d e i a b are h l k =
    let told = are.told i a b h l k in
    let own = are.own i a h l in
    record {
      lack = lacks d e (right_of s m (bayes_row i a b)) (right_of s n (bayes_row i a b)) (left_of s m (bayes_row i a b)) (left_of s n (bayes_row i a b)) _ _ (bayes-missed s m i a b) (bayes-missed s n i a b) (less-scaled d e _ _ _ _ told own);
      scale = weighed d e m.den n.den (marginal_of s i a) are.dens;
      sides = less-scaled d e _ _ _ _ own told;
    }

interim-scaled : (s : GeneralSetting) (m n : Mechanism) (d e : ℤ) (i a : ℕ) → HaveAlike s m n d e → i < agent_count s → a < slice_index (sizes_of s) i → IsScaled s m n d e (interim_row i a)
interim-scaled s m n d e i a are h l =
    let own = are.own i a h l in
    let outside : d *ℤ ((m.den *ℤ outside_of s i a) *ℤ marginal_of s i a) ≡ e *ℤ ((n.den *ℤ outside_of s i a) *ℤ marginal_of s i a) =
    weighed d e (m.den *ℤ outside_of s i a) (n.den *ℤ outside_of s i a) (marginal_of s i a) (weighed d e m.den n.den (outside_of s i a) are.dens) in
    record {
      lack = lacks d e (right_of s m (interim_row i a)) (right_of s n (interim_row i a)) (left_of s m (interim_row i a)) (left_of s n (interim_row i a)) _ _ (interim-missed s m i a) (interim-missed s n i a) (less-scaled d e _ _ _ _ outside own);
      scale = weighed d e m.den n.den (marginal_of s i a) are.dens;
      sides = less-scaled d e _ _ _ _ own outside;
    }

-- ---- all conditions

truths-scaled : (s : GeneralSetting) (m n : Mechanism) (d e : ℤ) → IsSale s → HaveAlike s m n d e → AllScaled s m n d e (truth_rows s.truth s)
truths-scaled s m n d e sale are =
    subst (λ (kind : Truth). AllScaled s m n d e (truth_rows kind s)) (sym sale.interim.truth)
    (record {
      each = All-up_to (IsScaled s m n d e) (agent_count s) (bayes_rows s)
          (λ i h. All-up_to (IsScaled s m n d e) (slice_index (sizes_of s) i) (λ a. by_report (slice_index (sizes_of s) i) a (bayes_row i a))
          (λ a l. all-by_report (IsScaled s m n d e) (slice_index (sizes_of s) i) a (bayes_row i a) (λ b k. bayes-scaled s m n d e i a b are h l k)));
    })

rationals-scaled : (s : GeneralSetting) (m n : Mechanism) (d e : ℤ) → IsSale s → HaveAlike s m n d e → AllScaled s m n d e (rational_rows s.rational s)
rationals-scaled s m n d e sale are =
    subst (λ (kind : Rational). AllScaled s m n d e (rational_rows kind s)) (sym sale.interim.rational)
    (record {
      each = All-up_to (IsScaled s m n d e) (agent_count s) (interim_rows s)
          (λ i h. All-up_to (IsScaled s m n d e) (slice_index (sizes_of s) i) (λ a. interim_row i a ∷ [])
          (λ a l. all-one (IsScaled s m n d e) (interim_row i a) (interim-scaled s m n d e i a are h l)));
    })

demands-scaled : (s : GeneralSetting) (m n : Mechanism) (d e : ℤ) → IsSale s → HaveAlike s m n d e → AllScaled s m n d e (demand_rows s)
demands-scaled s m n d e sale are = record {
  each = All-append (IsScaled s m n d e) (truth_rows s.truth s ++ rational_rows s.rational s) (deficit_rows s.no_deficit s)
      (All-append (IsScaled s m n d e) (truth_rows s.truth s) (rational_rows s.rational s) (truths-scaled s m n d e sale are).each (rationals-scaled s m n d e sale are).each)
      (subst (λ (on : Bool). All (IsScaled s m n d e) (deficit_rows on s)) (sym sale.paid.no_deficit) (All-nil (IsScaled s m n d e)));
}

-- ---- all that is measured

-- by the denominator of the one, which is that of the odds
pub same-odds : (s : GeneralSetting) (m n : Mechanism) (odds pays : ℕ → ℤ) → IsSale s → IsShaped s → pos 0 <ℤ m.den → pos 0 <ℤ n.den
    → HasPairOdds s m n.den odds → HasPairPays s m n.den pays → HasPairOdds s n n.den odds → HasPairPays s n n.den pays → AreAlike s m n n.den m.den
same-odds s m n odds pays sale shaped up positive has paid own-has own-paid = record {
  first = positive;
  second = up;
  dens = have.dens;
  own = have.own;
  paid = λ i a h l. alike n.den m.den _ _ (marginal_of s i a *ℤ pays (pair_number (sizes_of s) i a)) positive (paid.paid i a h l) (own-paid.paid i a h l);
  payments = alike n.den m.den _ _ (sum_to (pairs_of s) (λ p. marginal_at s p *ℤ pays p)) positive (payments-by s m n.den pays paid) (payments-by s n n.den pays own-paid);
  welfare = alike n.den m.den _ _ (sum_to (pairs_of s) (λ p. marginal_at s p *ℤ (value_at s p *ℤ odds p))) positive
      (welfare-by s m n.den odds pays sale shaped has paid) (welfare-by s n n.den odds pays sale shaped own-has own-paid);
  demands = demands-scaled s m n n.den m.den sale have;
}
  where
    have : HaveAlike s m n n.den m.den
    have = record {
      dens = *ℤ_comm n.den m.den;
      told = λ i a b h l k. alike n.den m.den _ _ (marginal_of s i a *ℤ share s odds pays i a b) positive
          (told-by s m n.den odds pays i a b sale shaped has paid h l k) (told-by s n n.den odds pays i a b sale shaped own-has own-paid h l k);
      own = λ i a h l. alike n.den m.den _ _ (marginal_of s i a *ℤ share s odds pays i a a) positive
          (own-by s m n.den odds pays i a sale shaped has paid h l) (own-by s n n.den odds pays i a sale shaped own-has own-paid h l);
    }
