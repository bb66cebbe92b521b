-- Where least is paid, one profile after another.
use Rattle.std.proofs.Common.{◌≡◌, ℕ, ◌+◌, ◌⊎◌, inl, inr, ℤ, ◌≤ℤ◌, ◌<ℤ◌, sym, ap, subst, arith}
use Rattle.std.proofs.lemmas.Bool.{cases_lt}
use Rattle.md_math.proofs.Order.{le_from_same, le_from_lt}
use Rattle.md_math.proofs.Ring.{linear}
use Rattle.md_setting.specs.Setting.{GeneralSetting}
use Rattle.md_mech.specs.declared.mechanism.Mechanism.{Mechanism}
use Rattle.md_report.specs.Deficits.{paid_at, IsLeastPaid}

pub least-first : (s : GeneralSetting) (m : Mechanism) → IsLeastPaid s m 1 0
least-first s m = record {
  inside = omega arith;
  least = λ r l. (let e : 0 ≡ r = omega (arith, l) in le_from_same (paid_at s m 0) (paid_at s m r) (ap (paid_at s m) e));
  first = λ r l. absurd (omega (arith, l));
}

less-then : (a b c : ℤ) → a <ℤ b → b ≤ℤ c → a <ℤ c
less-then a b c h k = omega (arith, linear, h, k)

pub least-more : (s : GeneralSetting) (m : Mechanism) (count old new : ℕ) → IsLeastPaid s m count old
    → ((new ≡ old) × (paid_at s m old ≤ℤ paid_at s m count)) ⊎ ((new ≡ count) × (paid_at s m count <ℤ paid_at s m old)) → IsLeastPaid s m (count + 1) new
least-more s m count old new h (inl kept) = subst (IsLeastPaid s m (count + 1)) (sym kept.0) (record {
  inside = omega (arith, h.inside);
  least = λ r l. elim (cases_lt r count) [
    | inl before ↦ h.least r before
    | inr last ↦ (let e : count ≡ r = omega (arith, l, last) in subst (λ j. paid_at s m old ≤ℤ paid_at s m j) e kept.1)
  ];
  first = h.first;
})
least-more s m count old new h (inr lower) = subst (IsLeastPaid s m (count + 1)) (sym lower.0) (record {
  inside = omega arith;
  least = λ r l. elim (cases_lt r count) [
    | inl before ↦ le_from_lt (paid_at s m count) (paid_at s m r) (less-then (paid_at s m count) (paid_at s m old) (paid_at s m r) lower.1 (h.least r before))
    | inr last ↦ (let e : count ≡ r = omega (arith, l, last) in le_from_same (paid_at s m count) (paid_at s m r) (ap (paid_at s m) e))
  ];
  first = λ r l. less-then (paid_at s m count) (paid_at s m old) (paid_at s m r) lower.1 (h.least r l);
})
