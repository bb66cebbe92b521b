-- The least of a fairest mechanism that was found has at most 62 bits: it is the level of the point that was found.
use Rattle.std.proofs.Common.{◌≡◌, ℕ, ◌+◌, ◌<◌, ℤ, pos, ◌*ℤ◌, ◌≤ℤ◌, ◌<ℤ◌, sym, ◌∙◌, subst, arith}
use Rattle.md_math.specs.Lists.{number_at}
use Rattle.md_math.specs.Sizes.{IsWithin}
use Rattle.md_math.proofs.Order.{*ℤ-le, ≤ℤ_antisymm, le_from_*ℤ, le_from_lt}
use Rattle.md_math.proofs.SizeLaws.{IsWithin-difference}
use Rattle.md_setting.specs.Setting.{GeneralSetting}
use Rattle.md_setting.specs.Meaning.{agent_count}
use Rattle.md_setting.specs.Rows.{column_count}
use Rattle.md_lp.specs.Program.{Program}
use Rattle.md_lp.specs.Point.{cost_sum, Meets}
use Rattle.md_lp.proofs.Dividing.{IsDivisorFor-positive}
use Rattle.md_mech.specs.Accepted.{number_limit}
use Rattle.md_mech.specs.declared.mechanism.Mechanism.{Mechanism}
use Rattle.md_cert.specs.Claims.{IsOptimalPoint}
use Rattle.md_forms.specs.Forms.{unit}
use Rattle.md_rows.specs.Points.{mechanism_of}
use Rattle.md_question.specs.Findings.{WhereOptimal}
use Rattle.md_question.specs.declared.finding.Finding.{Finding}
use Rattle.md_question.specs.declared.finding.Finding.TheVariants.{Optimal, Infeasible, Unbounded}
use Rattle.md_question_solve.specs.Found.{IsOfPoint}
use Rattle.md_fair.specs.FairPoints.{fair_point_of}
use Rattle.md_fair.specs.FairProgram.{IsFairProgram, level_in}
use Rattle.md_fair.specs.FairQuestion.{fair_question}
use Rattle.md_fair.specs.Least.{IsLeast, least_of}
use Rattle.md_fair.proofs.LeastLaws.{below-least, is-least}
use Rattle.md_fair.proofs.PointLaws.{admits-fair, level-meets, point-level}

module _ (s : GeneralSetting) (p : Program) (is : IsFairProgram s p) (some : 0 < agent_count s) (den : ℤ) (x : ℕ → ℤ) (greatest : IsOptimalPoint p den x) where
  abbrev fairest : Mechanism
  fairest = mechanism_of s den x

  abbrev least : ℤ
  least = least_of s fairest

  there : IsLeast s fairest least
  there = is-least s fairest some

  -- the level of a best point is at least the least of its mechanism, since a point with that level meets the program
  least-below : least ≤ℤ level_in s x
  least-below =
      let own = admits-fair s p is den x greatest.meets in
      let y = number_at (fair_point_of s fairest least) in
      let meets : Meets p den y = level-meets s fairest least own.0.mechanism p is own.0 there.at_most in
      let cheaper : cost_sum p y ≤ℤ cost_sum p x = le_from_*ℤ den (cost_sum p y) (cost_sum p x) greatest.meets.point.positive (greatest.greatest den y meets) in
      let up : pos 0 <ℤ p.factor = IsDivisorFor-positive (column_count s + 2) (λ j. level_in s (unit j)) p.factor is.has_cost.factor in
      let scaled : (p.factor *ℤ cost_sum p y) ≤ℤ (p.factor *ℤ cost_sum p x) = *ℤ-le p.factor (cost_sum p y) (cost_sum p x) (le_from_lt (pos 0) p.factor up) cheaper in
      let level : p.factor *ℤ cost_sum p y ≡ least = sym (is.has_cost.cost_is y) ∙ point-level s fairest least own.0.mechanism in
      subst (λ z. least ≤ℤ z) (sym (is.has_cost.cost_is x)) (subst (λ z. z ≤ℤ (p.factor *ℤ cost_sum p x)) level scaled)

  -- so it is this level
  level-least : level_in s x ≡ least
  level-least = ≤ℤ_antisymm (level_in s x) least (below-least s fairest (level_in s x) least (admits-fair s p is den x greatest.meets).1 there) least-below

  -- and has at most 62 bits where the numbers of the point have
  least-narrow : ((j : ℕ) → j < p.columns → IsWithin number_limit (x j)) → IsWithin number_limit least
  least-narrow narrow =
      let n = column_count s in
      let columns = is.columns in
      let plus : n < p.columns = omega (arith, columns) in
      let minus : n + 1 < p.columns = omega (arith, columns) in
      subst (IsWithin number_limit) level-least
      (IsWithin-difference number_limit (x n) (x (n + 1)) (greatest.meets.point.nonneg n plus) (greatest.meets.point.nonneg (n + 1) minus) (narrow n plus) (narrow (n + 1) minus))

pub where-narrow : (s : GeneralSetting) (finding : Finding) → 0 < agent_count s → WhereOptimal (λ value m bound. IsOfPoint (fair_question s) m) finding
    → WhereOptimal (λ value m bound. IsWithin number_limit (least_of s m)) finding
where-narrow s (Optimal value m bound) some h =
    let best = h.of_best in
    let each = best.fits.one_each in
    subst (λ k. IsWithin number_limit (least_of s k)) (sym best.is)
    (least-narrow s h.program h.is_program some best.den (number_at best.point) best.best (λ j l. best.fits.sizes.at j (omega (arith, l, each))))
where-narrow s (Infeasible face) some h = tt
where-narrow s (Unbounded m ray) some h = tt
