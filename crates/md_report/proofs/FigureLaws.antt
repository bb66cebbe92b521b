-- The figures of numbers are those of all numbers of which the same is measured, by their denominators.
use Rattle.std.proofs.Common.{◌≡◌, ℕ, ◌<◌, ℤ, pos, ◌-ℤ◌, ◌*ℤ◌, ◌<ℤ◌, if◌then◌else◌, false, List, [], ◌∷◌, ◌++◌, length, All, Option, None, Some, get_or, refl, sym, ap, ◌∙◌, subst}
use Rattle.std.specs.Prelude.{slice_index, slice_get, slice_index_or}
use Rattle.std.proofs.lemmas.Bool.{true≢false}
use Rattle.std.proofs.lemmas.Option.{slice_get_within, get_or_from_slice_get}
use Rattle.md_math.proofs.Builders.{All-up_to_at, All-left, All-right, up_to-same}
use Rattle.md_setting.specs.Setting.{GeneralSetting}
use Rattle.md_setting.specs.Meaning.{agent_count, sizes_of, marginal_of, total_of}
use Rattle.md_mech.specs.declared.mechanism.Mechanism.{Mechanism}
use Rattle.md_mech.specs.Conditions.{named}
use Rattle.md_mech.specs.Mechanism.{pay_of}
use Rattle.md_mech.specs.Rows.{Condition, left_of, right_of, truth_rows, rational_rows, deficit_rows, demand_rows}
use Rattle.md_mech.specs.Utility.{expected_utility, weighted_given}
use Rattle.md_report.specs.declared.deficit.Deficit.{Deficit}
use Rattle.md_report.specs.declared.demand.Demand.{Demand}
use Rattle.md_report.specs.declared.demand.Demand.TheVariants.{Truthful, Willing}
use Rattle.md_report.specs.declared.report.Report.{Report}
use Rattle.md_report.specs.declared.type_numbers.TypeNumbers.{TypeNumbers}
use Rattle.md_report.specs.declared.worst.Worst.{Worst}
use Rattle.md_report.specs.Averages.{weighted}
use Rattle.md_report.specs.Blocks.{rows_of}
use Rattle.md_report.specs.Deficits.{IsDeficitOf}
use Rattle.md_report.specs.Regret.{payments_at, welfare_at}
use Rattle.md_report.specs.ReportOf.{AreFigures}
use Rattle.md_report.specs.Shortfalls.{missed, scale_of}
use Rattle.md_report.specs.Tight.{is_tight, tight_at, tight_rows}
use Rattle.md_report.specs.Types.{all_types, AreTold, IsToldOf}
use Rattle.md_report.specs.Worst.{IsWorst, IsWorstOf, AreWorstOf}
use Rattle.md_report.proofs.BlockLaws.{all-truth, all-rational}
use Rattle.md_report.proofs.Scaling.{weighed, ratio-scaled, le-scaled, lt-scaled, test-scaled}

-- ---- one condition

-- what is missed of a condition by the one is what is missed of it by the other, by their denominators
pub record IsScaled (s : GeneralSetting) (m n : Mechanism) (d e : ℤ) (c : Condition) : Type 0 where
  pub lack : d *ℤ missed s m c ≡ e *ℤ missed s n c
  pub scale : d *ℤ scale_of s m c ≡ e *ℤ scale_of s n c
  pub sides : d *ℤ (left_of s m c -ℤ right_of s m c) ≡ e *ℤ (left_of s n c -ℤ right_of s n c)

-- ---- all conditions

pub record AllScaled (s : GeneralSetting) (m n : Mechanism) (d e : ℤ) (rows : List Condition) : Type 0 where
  pub each : All (IsScaled s m n d e) rows

-- d times what is measured of m is e times what is measured of n
pub record AreAlike (s : GeneralSetting) (m n : Mechanism) (d e : ℤ) : Type 0 where
  pub first : pos 0 <ℤ d
  pub second : pos 0 <ℤ e
  pub dens : d *ℤ m.den ≡ e *ℤ n.den
  pub own : (i a : ℕ) → i < agent_count s → a < slice_index (sizes_of s) i
      → d *ℤ weighted_given s i a (λ t. expected_utility s m i t t) ≡ e *ℤ weighted_given s i a (λ t. expected_utility s n i t t)
  pub paid : (i a : ℕ) → i < agent_count s → a < slice_index (sizes_of s) i
      → d *ℤ weighted_given s i a (pay_of s m i) ≡ e *ℤ weighted_given s i a (pay_of s n i)
  pub payments : d *ℤ weighted s (payments_at s m) ≡ e *ℤ weighted s (payments_at s n)
  pub welfare : d *ℤ weighted s (welfare_at s m) ≡ e *ℤ weighted s (welfare_at s n)
  pub demands : AllScaled s m n d e (demand_rows s)

-- those of one agent
rows-scaled : (s : GeneralSetting) (m n : Mechanism) (d e : ℤ) (demand : Demand) (i : ℕ) → AreAlike s m n d e → i < agent_count s → AllScaled s m n d e (rows_of s demand i)
rows-scaled s m n d e Truthful i are h =
    let both = All-left (IsScaled s m n d e) (truth_rows s.truth s ++ rational_rows s.rational s) (deficit_rows s.no_deficit s) are.demands.each in
    let truths = All-left (IsScaled s m n d e) (truth_rows s.truth s) (rational_rows s.rational s) both in
    record { each = All-up_to_at (IsScaled s m n d e) (agent_count s) i (rows_of s Truthful) h (subst (All (IsScaled s m n d e)) (sym (all-truth s.truth s)) truths) }
rows-scaled s m n d e Willing i are h =
    let both = All-left (IsScaled s m n d e) (truth_rows s.truth s ++ rational_rows s.rational s) (deficit_rows s.no_deficit s) are.demands.each in
    let rationals = All-right (IsScaled s m n d e) (truth_rows s.truth s) (rational_rows s.rational s) both in
    record { each = All-up_to_at (IsScaled s m n d e) (agent_count s) i (rows_of s Willing) h (subst (All (IsScaled s m n d e)) (sym (all-rational s.rational s)) rationals) }

scaled-at : (s : GeneralSetting) (m n : Mechanism) (d e : ℤ) (rows : List Condition) (c : Condition) (k : ℕ) → AllScaled s m n d e rows → slice_get rows k ≡ Some c → IsScaled s m n d e c
scaled-at s m n d e rows c k all at =
    let inside : k < length rows = slice_get_within rows k c at in
    subst (IsScaled s m n d e) (get_or_from_slice_get rows k c c at) (all.each k c inside)

-- ---- the worst of some conditions

worst-scaled : (s : GeneralSetting) (m n : Mechanism) (d e : ℤ) (rows : List Condition) (told : Worst) → AreAlike s m n d e → AllScaled s m n d e rows → IsWorst s n rows told → IsWorst s m rows told
worst-scaled s m n d e rows told are all is =
    let c = named s told.condition in
    let whole = scaled-at s m n d e rows c is.place all is.here in
    record {
      place = is.place;
      here = is.here;
      inside = is.inside;
      shortfall = ratio-scaled d e (missed s m c) (missed s n c) (scale_of s m c) (scale_of s n c) told.shortfall are.first whole.lack whole.scale is.shortfall;
      most = λ k x at. (let part = scaled-at s m n d e rows x k all at in
          le-scaled d e (missed s m x) (missed s n x) (scale_of s m c) (scale_of s n c) (missed s m c) (missed s n c) (scale_of s m x) (scale_of s n x)
          are.first are.second part.lack whole.scale whole.lack part.scale (is.most k x at));
      first = λ k x b at. (let part = scaled-at s m n d e rows x k all at in
          lt-scaled d e (missed s m x) (missed s n x) (scale_of s m c) (scale_of s n c) (missed s m c) (missed s n c) (scale_of s m x) (scale_of s n x)
          are.first are.second part.lack whole.scale whole.lack part.scale (is.first k x b at));
    }

one-scaled : (s : GeneralSetting) (m n : Mechanism) (d e : ℤ) (rows : List Condition) (told : Option Worst) → AreAlike s m n d e → AllScaled s m n d e rows → IsWorstOf s n rows told → IsWorstOf s m rows told
one-scaled s m n d e rows None are all none = none
one-scaled s m n d e rows (Some told) are all is = worst-scaled s m n d e rows told are all is

all-scaled : (s : GeneralSetting) (m n : Mechanism) (d e : ℤ) (demand : Demand) (told : List (Option Worst)) → AreAlike s m n d e → AreWorstOf s n demand told → AreWorstOf s m demand told
all-scaled s m n d e demand told are is = record {
  count = is.count;
  each = λ i h. one-scaled s m n d e (rows_of s demand i) (slice_index_or told i None) are (rows-scaled s m n d e demand i are h) (is.each i h);
}

-- ---- the other parts

tight-scaled : (s : GeneralSetting) (m n : Mechanism) (d e : ℤ) → AreAlike s m n d e → tight_rows s n ≡ tight_rows s m
tight-scaled s m n d e are = up_to-same (length (demand_rows s)) (tight_at s n) (tight_at s m) at
  where
    test : (c : Option Condition) (r : ℕ) → slice_get (demand_rows s) r ≡ c → is_tight s n c ≡ is_tight s m c
    test None r here = refl
    test (Some c) r here =
        let one = scaled-at s m n d e (demand_rows s) c r are.demands here in
        test-scaled d e (left_of s m c -ℤ right_of s m c) (left_of s n c -ℤ right_of s n c) are.first are.second one.sides

    at : (r : ℕ) → r < length (demand_rows s) → tight_at s n r ≡ tight_at s m r
    at r h = ap (λ b. if b then r ∷ [] else []) (test (slice_get (demand_rows s) r) r refl)

types-scaled : (s : GeneralSetting) (m n : Mechanism) (d e : ℤ) (told : List TypeNumbers) → AreAlike s m n d e → AreTold s n (all_types s) told → AreTold s m (all_types s) told
types-scaled s m n d e told are is = record { are = is.are; each = λ k x h. one (get_or told k x) (is.each k x h) }
  where
    one : (x : TypeNumbers) → IsToldOf s n x → IsToldOf s m x
    one x t = record {
      agent_in = t.agent_in;
      kind_in = t.kind_in;
      utility = ratio-scaled d e _ _ _ _ x.utility are.first (are.own x.agent x.kind t.agent_in t.kind_in) (weighed d e m.den n.den (marginal_of s x.agent x.kind) are.dens) t.utility;
      payment = ratio-scaled d e _ _ _ _ x.payment are.first (are.paid x.agent x.kind t.agent_in t.kind_in) (weighed d e m.den n.den (marginal_of s x.agent x.kind) are.dens) t.payment;
    }

deficit-scaled : (s : GeneralSetting) (m n : Mechanism) (told : Option Deficit) → s.no_deficit ≡ false → IsDeficitOf s n told → IsDeficitOf s m told
deficit-scaled s m n None off is = is
deficit-scaled s m n (Some told) off (on, is) = absurd (true≢false (sym on ∙ off))

-- ---- all together

pub figures-scaled : (s : GeneralSetting) (m n : Mechanism) (d e : ℤ) (report : Report) → s.no_deficit ≡ false → AreAlike s m n d e → AreFigures s n report → AreFigures s m report
figures-scaled s m n d e report off are is = record {
  revenue = ratio-scaled d e (weighted s (payments_at s m)) (weighted s (payments_at s n)) (m.den *ℤ total_of s) (n.den *ℤ total_of s) report.revenue are.first are.payments
      (weighed d e m.den n.den (total_of s) are.dens) is.revenue;
  welfare = ratio-scaled d e (weighted s (welfare_at s m)) (weighted s (welfare_at s n)) (m.den *ℤ total_of s) (n.den *ℤ total_of s) report.welfare are.first are.welfare
      (weighed d e m.den n.den (total_of s) are.dens) is.welfare;
  types = types-scaled s m n d e report.types.items are is.types;
  gains = all-scaled s m n d e Truthful report.gains.items are is.gains;
  losses = all-scaled s m n d e Willing report.losses.items are is.losses;
  deficit = deficit-scaled s m n report.deficit off is.deficit;
  tight = is.tight ∙ tight-scaled s m n d e are;
}
