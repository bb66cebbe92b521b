-- From what a certificate claims of a setting's program to what is so of the setting: over mechanisms of any denominator,
-- with numbers of any size.
use Rattle.std.proofs.Common.{◌≡◌, ℕ, ◌+◌, ◌*◌, ◌<◌, inl, inr, length, ℤ, pos, ◌+ℤ◌, ◌*ℤ◌, ◌≤ℤ◌, ◌<ℤ◌, List, sym, ◌∙◌, subst, arith}
use Rattle.std.proofs.lemmas.Bool.{cases_Bool}
use Rattle.std.proofs.lemmas.Int.{ints}
use lib.IntN.{*ℤ_comm}
use Rattle.md_math.specs.Lists.{number_at}
use Rattle.md_math.proofs.Order.{*ℤ-le}
use Rattle.md_math.proofs.SumLaws.{dot-zero}
use Rattle.md_math.proofs.Ring.{linear, *ℤ-+ℤ, *ℤ-one, one-*ℤ, zero-*ℤ}
use Rattle.md_setting.specs.Setting.{GeneralSetting}
use Rattle.md_setting.specs.Rows.{column_count}
use Rattle.md_setting.specs.Meaning.{outcome_count, sizes_of}
use Rattle.md_space.specs.Profiles.{profile_count}
use Rattle.md_mech.specs.declared.mechanism.Mechanism.{Mechanism}
use Rattle.md_mech.specs.Mechanism.{IsMechanism}
use Rattle.md_mech.specs.Admissible.{IsAdmissible}
use Rattle.md_mech.specs.Optimal.{IsOptimal, IsInfeasible, Grows, raised, worth_of}
use Rattle.md_lp.specs.Program.{Program, cost_at}
use Rattle.md_lp.specs.Point.{Meets, cost_sum}
use Rattle.md_lp.proofs.Dividing.{IsDivisorFor-positive}
use Rattle.md_cert.specs.Claims.{IsOptimalPoint, HasNoPoint, GrowsAlong, along}
use Rattle.md_cert.specs.Certified.{IsUnboundedCertified}
use Rattle.md_cert.proofs.Duality.{unbounded-claim}
use Rattle.md_rows.specs.Points.{mechanism_of, point_of}
use Rattle.md_rows.specs.ProgramOf.{cost_of, IsProgramOf}
use Rattle.md_rows.proofs.Law.{admits-mechanisms, admits-points, costs-points, costs-mechanisms}
use Rattle.md_rows.proofs.PointLaws.{mechanism-of_point}
use Rattle.md_claims.specs.Laws.{IsProgramWithLaws}
use Rattle.md_claims.specs.Rays.{pays_along, ray_of}
use Rattle.md_cert.proofs.AffineLaws.{best-affine}
use Rattle.md_claims.proofs.RayLaws.{mechanism-along, ray-at_chance, raised-same, pays-along_ray, ray-off}

-- the program of a setting has the laws
pub with_laws : (s : GeneralSetting) (p : Program) → IsProgramOf s p → IsProgramWithLaws s p
with_laws s p is = record {
  program = is;
  admits_points = admits-points s p is;
  admits_mechanisms = admits-mechanisms s p is;
  costs_points = costs-points s p is;
  costs_mechanisms = costs-mechanisms s p is;
}

factor-positive : (s : GeneralSetting) (p : Program) → IsProgramWithLaws s p → pos 0 <ℤ p.factor
factor-positive s p is = IsDivisorFor-positive (column_count s) (cost_of s) p.factor is.program.has_cost.factor

-- ---- a greatest point

nothing-added : (m c : ℤ) → pos 0 *ℤ m +ℤ c ≡ c
nothing-added m c = (let none : pos 0 *ℤ m ≡ pos 0 = zero-*ℤ m in omega (arith, linear))

-- a mechanism that is worth what a greatest point costs
best-by_point : (s : GeneralSetting) (p : Program) (m : Mechanism) (x : ℕ → ℤ) → IsProgramWithLaws s p → p.factor *ℤ cost_sum p x ≡ worth_of s m → IsOptimalPoint p m.den x
    → (other : Mechanism) → IsAdmissible s other → (worth_of s other *ℤ m.den) ≤ℤ (worth_of s m *ℤ other.den)
best-by_point s p m x is same greatest other admissible =
    best-affine p m.den x greatest (pos 0) p.factor (pos 1) (worth_of s m) (factor-positive s p is) (omega (arith, ints)) (sym same ∙ sym (nothing-added m.den (p.factor *ℤ cost_sum p x)))
    other.den (number_at (point_of s other)) (worth_of s other)
    (record {
      meets = subst (λ d. Meets p d (number_at (point_of s other))) (sym (one-*ℤ other.den)) ((is.admits_points other admissible.mechanism).1 admissible);
      costs = one-*ℤ (worth_of s other) ∙ sym (is.costs_points other admissible.mechanism) ∙ sym (nothing-added (pos 1 *ℤ other.den) (p.factor *ℤ cost_sum p (number_at (point_of s other))));
    })

-- the mechanism of a greatest point is optimal
pub optimal : (s : GeneralSetting) (p : Program) (den : ℤ) (x : ℕ → ℤ) → IsProgramWithLaws s p → IsOptimalPoint p den x → IsOptimal s (mechanism_of s den x)
optimal s p den x is greatest = record {
  admissible = is.admits_mechanisms den x greatest.meets;
  best = best-by_point s p (mechanism_of s den x) x is (is.costs_mechanisms den x) greatest;
}

-- a mechanism whose point is greatest is optimal
pub optimal_mechanism : (s : GeneralSetting) (p : Program) (m : Mechanism) → IsProgramWithLaws s p → IsMechanism s m → IsOptimalPoint p m.den (number_at (point_of s m)) → IsOptimal s m
optimal_mechanism s p m is mechanism greatest = record {
  admissible = (is.admits_points m mechanism).0 greatest.meets;
  best = best-by_point s p m (number_at (point_of s m)) is (is.costs_points m mechanism) greatest;
}

-- ---- no point

pub infeasible : (s : GeneralSetting) (p : Program) → IsProgramWithLaws s p → HasNoPoint p → IsInfeasible s
infeasible s p is empty m admissible = empty.none m.den (number_at (point_of s m)) ((is.admits_points m admissible.mechanism).1 admissible)

-- ---- no end

worth-along : (factor here there mine other : ℤ) (k : ℕ) → pos 0 <ℤ factor → factor *ℤ here ≡ mine → factor *ℤ there ≡ other → (here +ℤ pos k) ≤ℤ there → (mine +ℤ pos k) ≤ℤ other
worth-along factor here there mine other k above same_here same_there h =
    let times : (factor *ℤ (here +ℤ pos k)) ≤ℤ (factor *ℤ there) = *ℤ-le factor (here +ℤ pos k) there (omega (arith, linear)) h in
    let parts : factor *ℤ (here +ℤ pos k) ≡ factor *ℤ here +ℤ factor *ℤ pos k = *ℤ-+ℤ factor here (pos k) in
    let one : pos 1 ≤ℤ factor = omega (arith, ints, above) in
    let more : (pos k *ℤ pos 1) ≤ℤ (pos k *ℤ factor) = *ℤ-le (pos k) (pos 1) factor (omega (arith, ints)) one in
    let same : pos k *ℤ pos 1 ≡ pos k = *ℤ-one (pos k) in
    let turn : pos k *ℤ factor ≡ factor *ℤ pos k = *ℤ_comm (pos k) factor in
    omega (arith, linear)

-- a certified ray changes no chance
pub no_chance : (s : GeneralSetting) (p : Program) (den : ℤ) (x ray : ℕ → ℤ) → IsProgramWithLaws s p → IsUnboundedCertified p den x ray
    → (r o : ℕ) → r < profile_count (sizes_of s) → o < outcome_count s → ray (r * outcome_count s + o) ≡ pos 0
no_chance s p den x ray is certified =
    ray-at_chance s den x ray (is.admits_mechanisms den x certified.meets).mechanism (is.admits_mechanisms den (along x 1 ray) (claim.meets 1)).mechanism
    (λ j below. certified.nonneg j (omega (arith, below, is.program.columns)))
  where
    claim : GrowsAlong p den x ray
    claim = unbounded-claim p den x ray certified

-- the mechanism of a point grows by the payments of the ray
pub grows : (s : GeneralSetting) (p : Program) (den : ℤ) (x ray : ℕ → ℤ) → IsProgramWithLaws s p → IsUnboundedCertified p den x ray → Grows s (mechanism_of s den x) (pays_along s ray)
grows s p den x ray is certified k = (subst (IsAdmissible s) same (admitted k), subst (λ m. (worth_of s (mechanism_of s den x) +ℤ pos k) ≤ℤ worth_of s m) same gains)
  where
    claim : GrowsAlong p den x ray
    claim = unbounded-claim p den x ray certified

    admitted : (j : ℕ) → IsAdmissible s (mechanism_of s den (along x j ray))
    admitted j = is.admits_mechanisms den (along x j ray) (claim.meets j)

    same : mechanism_of s den (along x k ray) ≡ raised (mechanism_of s den x) k (pays_along s ray)
    same = mechanism-along s den x ray k (no_chance s p den x ray is certified)

    gains : (worth_of s (mechanism_of s den x) +ℤ pos k) ≤ℤ worth_of s (mechanism_of s den (along x k ray))
    gains =
        worth-along p.factor (cost_sum p x) (cost_sum p (along x k ray)) (worth_of s (mechanism_of s den x)) (worth_of s (mechanism_of s den (along x k ray))) k
        (factor-positive s p is) (is.costs_mechanisms den x) (is.costs_mechanisms den (along x k ray)) (claim.gains k)

-- a mechanism grows by payments whose ray is certified with its point
pub grows_mechanism : (s : GeneralSetting) (p : Program) (m : Mechanism) (pays : List ℤ) → IsProgramWithLaws s p → IsMechanism s m
    → IsUnboundedCertified p m.den (number_at (point_of s m)) (number_at (ray_of s pays)) → Grows s m pays
grows_mechanism s p m pays is mechanism certified k = subst (λ n. IsAdmissible s n × ((worth_of s m +ℤ pos k) ≤ℤ worth_of s n)) same (along_ray k)
  where
    ray : ℕ → ℤ
    ray = number_at (ray_of s pays)

    along_ray : Grows s m (pays_along s ray)
    along_ray = subst (λ n. Grows s n (pays_along s ray)) (mechanism-of_point s m mechanism) (grows s p m.den (number_at (point_of s m)) ray is certified)

    -- a ray of zeros gains nothing
    same_at : (j : ℕ) → j < length m.pays → number_at (pays_along s ray) j ≡ number_at pays j
    same_at j below = elim (cases_Bool s.payments) [
      | inl on ↦ pays-along_ray s pays on j (omega (arith, below, mechanism.pay_count))
      | inr off ↦
          let nothing : cost_sum p ray ≡ pos 0 = dot-zero p.columns (cost_at p) ray (λ i b. ray-off s pays off i) in
          let gain : pos 0 <ℤ cost_sum p ray = certified.gain in
          absurd (omega (arith, linear))
    ]

    same : raised m k (pays_along s ray) ≡ raised m k pays
    same = raised-same m k (pays_along s ray) pays same_at
