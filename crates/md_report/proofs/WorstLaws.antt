-- The worst of some rows, one row after another.
use Rattle.std.proofs.Common.{◌≡◌, ℕ, ◌+◌, ◌<◌, ◌≤◌, ◌⊎◌, inl, inr, pos, ◌<ℤ◌, ◌*ℤ◌, Some, refl, sym, subst, arith}
use Rattle.std.specs.Prelude.{slice_get}
use Rattle.std.proofs.lemmas.Bool.{cases_lt}
use Rattle.md_math.proofs.Order.{le_from_same, le_from_lt}
use Rattle.md_setting.specs.Setting.{GeneralSetting}
use Rattle.md_mech.specs.declared.mechanism.Mechanism.{Mechanism}
use Rattle.md_mech.specs.Conditions.{named}
use Rattle.md_mech.specs.Rows.{Condition, conditions_of}
use Rattle.md_report.specs.declared.worst.Worst.{Worst}
use Rattle.md_report.specs.Shortfalls.{missed, scale_of, MissesAtMost, MissesLess}
use Rattle.md_report.specs.Worst.{IsMissed, IsNoMore, IsLess, IsWorstIn}
use Rattle.md_report.proofs.RatioLaws.{at_most-of, less-of, at_most-next}

-- the condition of a row is one
one_condition : (s : GeneralSetting) (k row : ℕ) (c d : Condition) → k ≡ row → slice_get (conditions_of s) k ≡ Some c → slice_get (conditions_of s) row ≡ Some d → d ≡ c
one_condition s k row c d e here there = (let moved : slice_get (conditions_of s) row ≡ Some c = subst (λ j. slice_get (conditions_of s) j ≡ Some c) e here in cc)

same_missed : (s : GeneralSetting) (m : Mechanism) (c d : Condition) → d ≡ c → MissesAtMost s m c d
same_missed s m c d e = subst (λ x. MissesAtMost s m x d) e (le_from_same (missed s m d *ℤ scale_of s m d) (missed s m d *ℤ scale_of s m d) refl)

pub worst-first : (s : GeneralSetting) (m : Mechanism) (start : ℕ) (told : Worst) → IsMissed s m start told → IsWorstIn s m start (start + 1) told
worst-first s m start told is = record {
  row = start;
  from = omega arith;
  below = omega arith;
  missed = is;
  most = λ k c l h e. same_missed s m c (named s told.condition) (one_condition s k start c (named s told.condition) (omega (arith, l, h)) e is.here);
  first = λ k c l h. absurd (omega (arith, l, h));
  scales = λ k c l h e. subst (λ x. pos 0 <ℤ scale_of s m x) (one_condition s k start c (named s told.condition) (omega (arith, l, h)) e is.here) is.scale;
}

scales-more : (s : GeneralSetting) (m : Mechanism) (start end : ℕ) (old next : Worst) → IsWorstIn s m start end old → IsMissed s m end next
    → (k : ℕ) (c : Condition) → start ≤ k → k < end + 1 → slice_get (conditions_of s) k ≡ Some c → pos 0 <ℤ scale_of s m c
scales-more s m start end old next h told k c l b e = elim (cases_lt k end) [
  | inl before ↦ h.scales k c l before e
  | inr last ↦ subst (λ x. pos 0 <ℤ scale_of s m x) (one_condition s k end c (named s next.condition) (omega (arith, last, b)) e told.here) told.scale
]

-- one row more, of which no more is missed
stays : (s : GeneralSetting) (m : Mechanism) (start end : ℕ) (old next : Worst) → IsWorstIn s m start end old → IsMissed s m end next → IsNoMore next old → IsWorstIn s m start (end + 1) old
stays s m start end old next h told l = record {
  row = h.row;
  from = h.from;
  below = omega (arith, h.below);
  missed = h.missed;
  most = λ k c low high e. elim (cases_lt k end) [
    | inl before ↦ h.most k c low before e
    | inr last ↦ subst (λ x. MissesAtMost s m x (named s old.condition)) (one_condition s k end c (named s next.condition) (omega (arith, last, high)) e told.here) here
  ];
  first = h.first;
  scales = scales-more s m start end old next h told;
}
  where
    here : MissesAtMost s m (named s next.condition) (named s old.condition)
    here = at_most-of (missed s m (named s next.condition)) (scale_of s m (named s next.condition)) (missed s m (named s old.condition)) (scale_of s m (named s old.condition)) next.shortfall old.shortfall
        told.scale h.missed.scale told.shortfall h.missed.shortfall l

-- one of which more is
moves : (s : GeneralSetting) (m : Mechanism) (start end : ℕ) (old next : Worst) → IsWorstIn s m start end old → IsMissed s m end next → IsLess old next → IsWorstIn s m start (end + 1) next
moves s m start end old next h told l = record {
  row = end;
  from = omega (arith, h.from, h.below);
  below = omega arith;
  missed = told;
  most = λ k c low high e. elim (cases_lt k end) [
    | inl before ↦ le_from_lt _ _ (less k c low before e)
    | inr last ↦ same_missed s m c (named s next.condition) (one_condition s k end c (named s next.condition) (omega (arith, last, high)) e told.here)
  ];
  first = less;
  scales = scales-more s m start end old next h told;
}
  where
    less : (k : ℕ) (c : Condition) → start ≤ k → k < end → slice_get (conditions_of s) k ≡ Some c → MissesLess s m c (named s next.condition)
    less k c low before e =
        at_most-next (missed s m c) (missed s m (named s old.condition)) (missed s m (named s next.condition)) (scale_of s m c) (scale_of s m (named s old.condition)) (scale_of s m (named s next.condition))
        (h.scales k c low before e) h.missed.scale told.scale (h.most k c low before e)
        (less-of (missed s m (named s old.condition)) (scale_of s m (named s old.condition)) (missed s m (named s next.condition)) (scale_of s m (named s next.condition)) old.shortfall next.shortfall
        h.missed.scale told.scale h.missed.shortfall told.shortfall l)

pub worst-more : (s : GeneralSetting) (m : Mechanism) (start end : ℕ) (old next new : Worst) → IsWorstIn s m start end old → IsMissed s m end next
    → ((new ≡ old) × IsNoMore next old) ⊎ ((new ≡ next) × IsLess old next) → IsWorstIn s m start (end + 1) new
worst-more s m start end old next new h told (inl kept) = subst (IsWorstIn s m start (end + 1)) (sym kept.0) (stays s m start end old next h told kept.1)
worst-more s m start end old next new h told (inr worse) = subst (IsWorstIn s m start (end + 1)) (sym worse.0) (moves s m start end old next h told worse.1)
