-- Each admissible mechanism of a sale stands at a point of its program, that of its averages.
use Rattle.std.proofs.Common.{◌≡◌, ℕ, ◌+◌, ◌<◌, ℤ, pos, ◌+ℤ◌, ◌*ℤ◌, ◌≤ℤ◌, ◌<ℤ◌, List, get_or, sym, ap, ◌∙◌, arith}
use Rattle.std.proofs.lemmas.Int.{ints}
use Rattle.md_math.proofs.Order.{positive-*ℤ}
use Rattle.md_math.proofs.Ring.{ring}
use Rattle.md_space.specs.Profiles.{IsProfile}
use Rattle.md_setting.specs.Setting.{GeneralSetting}
use Rattle.md_setting.specs.Meaning.{agent_count, sizes_of}
use Rattle.md_setting.specs.Shaped.{IsShaped}
use Rattle.md_mech.specs.declared.mechanism.Mechanism.{Mechanism}
use Rattle.md_mech.specs.Admissible.{IsAdmissible}
use Rattle.md_mech.specs.Mechanism.{IsMechanism}
use Rattle.md_lp.specs.Program.{Program}
use Rattle.md_lp.specs.Point.{IsPoint, Meets}
use Rattle.md_asym_sale.specs.ProgramOf.{IsSaleProgram}
use Rattle.md_asym_sale.specs.Sale.{IsSale}
use Rattle.md_asym_sale.proofs.BuiltLaws.{costs-points}
use Rattle.md_asym_laws.specs.Averages.{all_marginals, win_in, paid_in, point_of}
use Rattle.md_asym_laws.specs.Mechanisms.{HoldsAdmissible}
use Rattle.md_asym_laws.specs.Worth.{base_of}
use Rattle.md_asym_laws.proofs.MeanLaws.{all-positive, averages-nonneg, mean-nonneg, averaged-truth, averaged-rational, averaged-cost}
use Rattle.md_asym_laws.proofs.MechanismWorth.{gains_of, worth-by_pairs}
use Rattle.md_asym_laws.proofs.Necessity.{averaged-cut}
use Rattle.md_asym_laws.proofs.OnAverage.{truthful-given, rational-given}
use Rattle.md_asym_laws.proofs.RowLaws.{rows-meet}

-- ---- its point

wins-nonneg : (s : GeneralSetting) (m : Mechanism) (i : ℕ) (t : List ℕ) → IsSale s → IsMechanism s m → i < agent_count s → IsProfile (sizes_of s) t → pos 0 ≤ℤ win_in s m i t
wins-nonneg s m i t sale mechanism h p = mechanism.not_negative t (i + 1) p (omega (arith, h, sale.one_more))

above : (z : ℤ) → pos 1 ≤ℤ z → pos 0 <ℤ z
above z l = omega (arith, ints, l)

averages-point : (s : GeneralSetting) (p : Program) (m : Mechanism) → IsSale s → IsShaped s → IsMechanism s m → IsPoint p (all_marginals s *ℤ m.den) (point_of s m)
averages-point s p m sale shaped mechanism = record {
  positive = positive-*ℤ (all_marginals s) m.den (all-positive s shaped) (above m.den mechanism.den);
  nonneg = λ j b. averages-nonneg s (win_in s m) (paid_in s m) j (λ q h. mean-nonneg s (win_in s m) q shaped h (λ i t c r. wins-nonneg s m i t sale mechanism c r));
}

averages-meet : (s : GeneralSetting) (cuts : List ℕ) (p : Program) (m : Mechanism) → IsSale s → IsShaped s → IsSaleProgram s cuts p → IsAdmissible s m → Meets p (all_marginals s *ℤ m.den) (point_of s m)
averages-meet s cuts p m sale shaped is admissible =
    rows-meet s cuts p (all_marginals s *ℤ m.den) (point_of s m) is (averages-point s p m sale shaped admissible.mechanism)
    (record {
      truth = λ i a b h l k. averaged-truth s (win_in s m) (paid_in s m) i a b sale shaped h l k (truthful-given s m i a b sale shaped admissible h l k);
      rational = λ i a h l. averaged-rational s (win_in s m) (paid_in s m) i a shaped h l (rational-given s m i a sale shaped admissible h l);
    })
    (λ k d b. averaged-cut s m (paid_in s m) (get_or cuts k d) sale shaped admissible.mechanism)

pub stands-in : (s : GeneralSetting) (cuts : List ℕ) (p : Program) → IsSale s → IsShaped s → IsSaleProgram s cuts p → HoldsAdmissible s p
stands-in s cuts p sale shaped is m admissible =
    let all = all_marginals s in
    let gains = gains_of s (win_in s m) (paid_in s m) in
    record {
      meets = averages-meet s cuts p m sale shaped is admissible;
      costs = ap (λ z. all *ℤ z) (worth-by_pairs s m sale shaped admissible.mechanism)
          ∙ parts all (base_of s) m.den gains
          ∙ ap (λ z. base_of s *ℤ (all *ℤ m.den) +ℤ z) (sym (averaged-cost s (win_in s m) (paid_in s m)) ∙ costs-points s cuts p is (point_of s m));
    }
  where
    parts : (t b d g : ℤ) → t *ℤ (b *ℤ d +ℤ g) ≡ b *ℤ (t *ℤ d) +ℤ t *ℤ g
    parts t b d g = simp ring
