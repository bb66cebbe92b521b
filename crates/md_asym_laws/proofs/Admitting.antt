-- A mechanism with the odds and the payments of a point that meets the program of a sale is admissible.
use Rattle.std.proofs.Common.{◌≡◌, ℕ, ◌<◌, ℤ, pos, ◌-ℤ◌, ◌*ℤ◌, ◌≤ℤ◌, ◌<ℤ◌, Bool, true, false, List, sym, ap, ap₂, ◌∙◌, subst, arith}
use Rattle.std.specs.Prelude.{slice_index}
use Rattle.std.proofs.lemmas.Int.{ints}
use Rattle.md_math.proofs.Order.{*ℤ-le, le_from_*ℤ, le_from_lt, nonneg_from_*ℤ, nonneg-*ℤ, *ℤ_cancel}
use Rattle.md_math.proofs.Ring.{linear, ring}
use Rattle.md_space.specs.Profiles.{replaced}
use Rattle.md_setting.specs.declared.kinds.Truth.{Truth as TruthKind}
use Rattle.md_setting.specs.declared.kinds.Rational.{Rational as RationalKind}
use Rattle.md_setting.specs.Setting.{GeneralSetting}
use Rattle.md_setting.specs.Meaning.{agent_count, sizes_of, marginal_of}
use Rattle.md_setting.specs.Shaped.{IsShaped}
use Rattle.md_mech.specs.declared.mechanism.Mechanism.{Mechanism}
use Rattle.md_mech.specs.Admissible.{IsAdmissible}
use Rattle.md_mech.specs.Mechanism.{IsMechanism}
use Rattle.md_mech.specs.Rationality.{IsInterimRational, IsRationalBy}
use Rattle.md_mech.specs.Truth.{IsBayesTruth, IsTruthfulBy}
use Rattle.md_mech.specs.Utility.{expected_utility, weighted_given}
use Rattle.md_lp.specs.Program.{Program}
use Rattle.md_asym_sale.specs.Forms.{pay_in, utility_in}
use Rattle.md_asym_sale.specs.Pairs.{pair_number}
use Rattle.md_asym_sale.specs.ProgramOf.{IsSaleProgram}
use Rattle.md_asym_sale.specs.Sale.{IsSale}
use Rattle.md_asym_sale.specs.Values.{own_value}
use Rattle.md_asym_laws.specs.Averages.{win_in, paid_in}
use Rattle.md_asym_laws.specs.Mechanisms.{AdmitsPoints}
use Rattle.md_asym_laws.specs.Odds.{HasPairOdds, HasPairPays}
use Rattle.md_asym_laws.proofs.OnAverage.{truthful-given, rational-given}
use Rattle.md_asym_laws.proofs.Replacing.{given-replaced}
use Rattle.md_asym_laws.proofs.RowLaws.{KeepsRows, keeps-rows}
use Rattle.md_asym_laws.proofs.Utilities.{gain_at, gain-given, utility-given, nothing-outside}

-- what an agent with the type b would have where the item is worth to it what it is to the type a, by odds and payments
gain-by_odds : (s : GeneralSetting) (m : Mechanism) (den : ℤ) (x : ℕ → ℤ) (i a b : ℕ) → HasPairOdds s m den x → HasPairPays s m den (pay_in s x) → i < agent_count s → b < slice_index (sizes_of s) i
    → den *ℤ weighted_given s i b (gain_at s (win_in s m) (paid_in s m) i a) ≡ m.den *ℤ (marginal_of s i b *ℤ utility_in s x i a b)
gain-by_odds s m den x i a b odds pays h k =
    let p = pair_number (sizes_of s) i b in
    let v = own_value s i a in
    let won = weighted_given s i b (win_in s m i) in
    let paid = weighted_given s i b (paid_in s m i) in
    ap (λ z. den *ℤ z) (gain-given s (win_in s m) (paid_in s m) i a b)
    ∙ first den v won paid
    ∙ ap₂ (λ y z. v *ℤ y -ℤ z) (odds.wins i b h k) (pays.paid i b h k)
    ∙ second m.den (marginal_of s i b) v (x p) (pay_in s x p)
  where
    first : (d v y z : ℤ) → d *ℤ (v *ℤ y -ℤ z) ≡ v *ℤ (d *ℤ y) -ℤ d *ℤ z
    first d v y z = simp ring (omega (arith, linear))

    second : (m g v y z : ℤ) → v *ℤ (m *ℤ (g *ℤ y)) -ℤ m *ℤ (g *ℤ z) ≡ m *ℤ (g *ℤ (v *ℤ y -ℤ z))
    second m g v y z = simp ring (omega (arith, linear))

-- what an agent with the type a has where it tells the type b
told-by_odds : (s : GeneralSetting) (m : Mechanism) (den : ℤ) (x : ℕ → ℤ) (i a b : ℕ) → IsSale s → IsShaped s → HasPairOdds s m den x → HasPairPays s m den (pay_in s x) → i < agent_count s → a < slice_index (sizes_of s) i → b < slice_index (sizes_of s) i
    → den *ℤ weighted_given s i a (λ t. gain_at s (win_in s m) (paid_in s m) i a (replaced t i b)) ≡ m.den *ℤ (marginal_of s i a *ℤ utility_in s x i a b)
told-by_odds s m den x i a b sale shaped odds pays h l k =
    let f = marginal_of s i in
    let g = gain_at s (win_in s m) (paid_in s m) i a in
    let told = weighted_given s i a (λ t. g (replaced t i b)) in
    let there = weighted_given s i b g in
    *ℤ_cancel (f b) (den *ℤ told) (m.den *ℤ (f a *ℤ utility_in s x i a b)) (shaped.marginal i b h k)
    (first (f b) den told
    ∙ ap (λ z. den *ℤ z) (given-replaced s i a b g sale shaped h l k)
    ∙ first den (f a) there
    ∙ ap (λ z. f a *ℤ z) (gain-by_odds s m den x i a b odds pays h k)
    ∙ second (f a) (f b) m.den (utility_in s x i a b))
  where
    first : (x y z : ℤ) → x *ℤ (y *ℤ z) ≡ y *ℤ (x *ℤ z)
    first x y z = simp ring

    second : (x y m u : ℤ) → x *ℤ (m *ℤ (y *ℤ u)) ≡ y *ℤ (m *ℤ (x *ℤ u))
    second x y m u = simp ring

-- a mechanism with the odds and the payments of a point that keeps the conditions on truth and on taking part is admissible
pub admits-rows : (s : GeneralSetting) (m : Mechanism) (den : ℤ) (x : ℕ → ℤ) → IsSale s → IsShaped s → pos 0 <ℤ den → KeepsRows s x → IsMechanism s m → HasPairOdds s m den x → HasPairPays s m den (pay_in s x) → IsAdmissible s m
admits-rows s m den x sale shaped positive rows mechanism odds pays = record {
  mechanism = mechanism;
  truthful = subst (λ (k : TruthKind). IsTruthfulBy k s m) (sym sale.interim.truth) truthful;
  rational = subst (λ (k : RationalKind). IsRationalBy k s m) (sym sale.interim.rational) rational;
  no_deficit = λ on. off_is_on sale.paid.no_deficit on;
}
  where
    off_is_on : {P : Type 0} {b : Bool} → b ≡ false → b ≡ true → P
    off_is_on e f = cc

    some : (z : ℤ) → pos 1 ≤ℤ z → pos 0 ≤ℤ z
    some z l = omega (arith, ints)

    up : (i a : ℕ) → i < agent_count s → a < slice_index (sizes_of s) i → pos 0 ≤ℤ marginal_of s i a
    up i a h l = le_from_lt (pos 0) (marginal_of s i a) (shaped.marginal i a h l)

    truthful : IsBayesTruth s m
    truthful i a b h l k =
        let g = gain_at s (win_in s m) (paid_in s m) i a in
        let less : (m.den *ℤ (marginal_of s i a *ℤ utility_in s x i a b)) ≤ℤ (m.den *ℤ (marginal_of s i a *ℤ utility_in s x i a a)) =
        *ℤ-le m.den _ _ (some m.den mechanism.den) (*ℤ-le (marginal_of s i a) _ _ (up i a h l) (rows.truth i a b h l k)) in
        subst (λ z. z ≤ℤ weighted_given s i a (λ t. expected_utility s m i t t)) (sym (utility-given s m i a (λ t. replaced t i b) sale shaped h))
        (subst (λ z. weighted_given s i a (λ t. g (replaced t i b)) ≤ℤ z) (sym (utility-given s m i a (λ t. t) sale shaped h))
        (le_from_*ℤ den (weighted_given s i a (λ t. g (replaced t i b))) (weighted_given s i a g) positive
        (subst (λ z. z ≤ℤ (den *ℤ weighted_given s i a g)) (sym (told-by_odds s m den x i a b sale shaped odds pays h l k))
        (subst (λ z. (m.den *ℤ (marginal_of s i a *ℤ utility_in s x i a b)) ≤ℤ z) (sym (gain-by_odds s m den x i a a odds pays h l)) less))))

    rational : IsInterimRational s m
    rational i a h l =
        let g = gain_at s (win_in s m) (paid_in s m) i a in
        subst (λ z. z ≤ℤ weighted_given s i a (λ t. expected_utility s m i t t)) (sym (nothing-outside s m i a sale h l))
        (subst (λ z. pos 0 ≤ℤ z) (sym (utility-given s m i a (λ t. t) sale shaped h))
        (nonneg_from_*ℤ den (weighted_given s i a g) positive
        (subst (λ z. pos 0 ≤ℤ z) (sym (gain-by_odds s m den x i a a odds pays h l))
        (nonneg-*ℤ m.den _ (some m.den mechanism.den) (nonneg-*ℤ (marginal_of s i a) _ (up i a h l) (rows.rational i a h l))))))

pub admits : (s : GeneralSetting) (cuts : List ℕ) (p : Program) → IsSale s → IsShaped s → IsSaleProgram s cuts p → AdmitsPoints s p
admits s cuts p sale shaped is m den x meets mechanism odds pays = admits-rows s m den x sale shaped meets.point.positive (keeps-rows s cuts p den x is meets) mechanism odds pays

-- ---- from a mechanism back to its odds and payments

-- the odds and the payments of an admissible mechanism keep the conditions on truth and on taking part
pub rows-kept : (s : GeneralSetting) (m : Mechanism) (den : ℤ) (x : ℕ → ℤ) → IsSale s → IsShaped s → pos 0 <ℤ den → HasPairOdds s m den x → HasPairPays s m den (pay_in s x) → IsAdmissible s m → KeepsRows s x
rows-kept s m den x sale shaped positive odds pays admissible = record {
  truth = λ i a b h l k.
      let told = weighted_given s i a (λ t. gain_at s (win_in s m) (paid_in s m) i a (replaced t i b)) in
      let own = weighted_given s i a (gain_at s (win_in s m) (paid_in s m) i a) in
      let less : (den *ℤ told) ≤ℤ (den *ℤ own) = *ℤ-le den told own (le_from_lt (pos 0) den positive) (truthful-given s m i a b sale shaped admissible h l k) in
      without (marginal_of s i a) (utility_in s x i a b) (utility_in s x i a a) (shaped.marginal i a h l)
      (subst (λ z. z ≤ℤ (m.den *ℤ (marginal_of s i a *ℤ utility_in s x i a a))) (told-by_odds s m den x i a b sale shaped odds pays h l k)
      (subst (λ z. (den *ℤ told) ≤ℤ z) (gain-by_odds s m den x i a a odds pays h l) less));
  rational = λ i a h l.
      let own = weighted_given s i a (gain_at s (win_in s m) (paid_in s m) i a) in
      nonneg_from_*ℤ (marginal_of s i a) (utility_in s x i a a) (shaped.marginal i a h l)
      (nonneg_from_*ℤ m.den (marginal_of s i a *ℤ utility_in s x i a a) (above m.den admissible.mechanism.den)
      (subst (λ z. pos 0 ≤ℤ z) (gain-by_odds s m den x i a a odds pays h l)
      (nonneg-*ℤ den own (le_from_lt (pos 0) den positive) (rational-given s m i a sale shaped admissible h l))));
}
  where
    above : (z : ℤ) → pos 1 ≤ℤ z → pos 0 <ℤ z
    above z l = omega (arith, ints)

    without : (g y z : ℤ) → pos 0 <ℤ g → (m.den *ℤ (g *ℤ y)) ≤ℤ (m.den *ℤ (g *ℤ z)) → y ≤ℤ z
    without g y z up h = le_from_*ℤ g y z up (le_from_*ℤ m.den (g *ℤ y) (g *ℤ z) (above m.den admissible.mechanism.den) h)
