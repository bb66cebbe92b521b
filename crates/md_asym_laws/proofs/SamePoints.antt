-- What is certified of a point of a sale's program is certified of another point with the same odds and payments.
use Rattle.std.proofs.Common.{◌≡◌, ℕ, ◌<◌, ℤ, pos, ◌+ℤ◌, ◌-ℤ◌, ◌*ℤ◌, ◌≤ℤ◌, List, get_or, sym, ap, ap₂, ◌∙◌, subst}
use Rattle.std.specs.Prelude.{slice_index}
use Rattle.md_math.proofs.Order.{*ℤ_cancel}
use Rattle.md_math.proofs.SumLaws.{sum_to-same}
use Rattle.md_setting.specs.Setting.{GeneralSetting}
use Rattle.md_setting.specs.Meaning.{agent_count, sizes_of}
use Rattle.md_lp.specs.Program.{Program}
use Rattle.md_lp.specs.Point.{IsPoint, Meets, cost_sum}
use Rattle.md_cert.specs.Certified.{IsOptimalCertified}
use Rattle.md_asym_sale.specs.Forms.{cost_of, pay_in, utility_in}
use Rattle.md_asym_sale.specs.Pairs.{pair_number}
use Rattle.md_asym_sale.specs.ProgramOf.{IsSaleProgram}
use Rattle.md_asym_sale.specs.Sides.{demands_in, right_of}
use Rattle.md_asym_sale.specs.Values.{marginal_at, own_value, pairs_of, surplus_at}
use Rattle.md_asym_sale.proofs.BuiltLaws.{costs-points}
use Rattle.md_asym_laws.proofs.OddsLaws.{same-demands}
use Rattle.md_asym_laws.proofs.OptimalLaws.{factor-positive}
use Rattle.md_asym_laws.proofs.PairFacts.{number-in}
use Rattle.md_asym_laws.proofs.RowLaws.{keeps-cuts, keeps-rows, rows-meet}

-- two points have the same odds, and the same payments
pub record AreSame (s : GeneralSetting) (x y : ℕ → ℤ) : Type 0 where
  pub odds : (p : ℕ) → p < pairs_of s → x p ≡ y p
  pub pays : (p : ℕ) → p < pairs_of s → pay_in s x p ≡ pay_in s y p

module _ (s : GeneralSetting) (x y : ℕ → ℤ) (same : AreSame s x y) where
  same-utility : (i a b : ℕ) → i < agent_count s → b < slice_index (sizes_of s) i → utility_in s x i a b ≡ utility_in s y i a b
  same-utility i a b h l =
      let q = pair_number (sizes_of s) i b in
      ap₂ (λ o z. own_value s i a *ℤ o -ℤ z) (same.odds q (number-in s i b h l)) (same.pays q (number-in s i b h l))

  same-cost : cost_of s x ≡ cost_of s y
  same-cost =
      sum_to-same (pairs_of s) (λ p. marginal_at s p *ℤ (surplus_at s p *ℤ x p +ℤ s.revenue *ℤ pay_in s x p)) (λ p. marginal_at s p *ℤ (surplus_at s p *ℤ y p +ℤ s.revenue *ℤ pay_in s y p))
      (λ p b. ap₂ (λ o z. marginal_at s p *ℤ (surplus_at s p *ℤ o +ℤ s.revenue *ℤ z)) (same.odds p b) (same.pays p b))

  module _ (cuts : List ℕ) (p : Program) (den : ℤ) (is : IsSaleProgram s cuts p) where
    pub same-meets : IsPoint p den y → Meets p den x → Meets p den y
    same-meets point meets =
        let rows = keeps-rows s cuts p den x is meets in
        let kept = keeps-cuts s cuts p den x is meets in
        rows-meet s cuts p den y is point
        (record {
          truth = λ i a b h l k.
              subst (λ z. z ≤ℤ utility_in s y i a a) (same-utility i a b h k) (subst (λ z. utility_in s x i a b ≤ℤ z) (same-utility i a a h l) (rows.truth i a b h l k));
          rational = λ i a h l. subst (λ z. pos 0 ≤ℤ z) (same-utility i a a h l) (rows.rational i a h l);
        })
        (λ k d b. subst (λ z. z ≤ℤ (den *ℤ right_of s (get_or cuts k d))) (same-demands s x y (get_or cuts k d) same.odds) (kept k d b))

    same-cost_sum : cost_sum p x ≡ cost_sum p y
    same-cost_sum = *ℤ_cancel p.factor (cost_sum p x) (cost_sum p y) (factor-positive s cuts p is) (sym (costs-points s cuts p is x) ∙ same-cost ∙ costs-points s cuts p is y)

    pub same-certified : (over : ℤ) (main face : ℕ → ℤ) → IsPoint p den y → IsOptimalCertified p den x over main face → IsOptimalCertified p den y over main face
    same-certified over main face point c = record {
      meets = same-meets point c.meets;
      positive = c.positive;
      pairs = c.pairs;
      columns = c.columns;
      face_right = c.face_right;
      main_right = c.main_right ∙ ap (λ z. over *ℤ z) same-cost_sum;
    }
