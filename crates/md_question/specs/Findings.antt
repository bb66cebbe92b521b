-- What is said of a finding by its kind.
use Rattle.std.specs.Prelude.{ℤ, List}
use Rattle.md_num.specs.declared.frac.Frac.{Frac}
use Rattle.md_mech.specs.declared.mechanism.Mechanism.{Mechanism}
use Rattle.md_cert.specs.declared.bound.Bound.{Bound}
use Rattle.md_question.specs.declared.finding.Finding.{Finding}
use Rattle.md_question.specs.declared.finding.Finding.TheVariants.{Optimal, Infeasible, Unbounded}

-- where a mechanism is claimed to be best, this holds of its value, of itself and of its bound
abbrev pub WhereOptimal : (Frac → Mechanism → Bound → Type 0) → Finding → Type 0
WhereOptimal P (Optimal value mechanism bound) = P value mechanism bound
WhereOptimal P _ = Unit {0}

-- where it is claimed that there is none, this holds of the multipliers
abbrev pub WhereInfeasible : (List ℤ → Type 0) → Finding → Type 0
WhereInfeasible P (Infeasible face) = P face
WhereInfeasible P _ = Unit {0}

-- where it is claimed that none is best, this holds of the mechanism and its ray
abbrev pub WhereUnbounded : (Mechanism → List ℤ → Type 0) → Finding → Type 0
WhereUnbounded P (Unbounded mechanism ray) = P mechanism ray
WhereUnbounded P _ = Unit {0}

-- which claim it is
abbrev pub ClaimsOptimal : Finding → Type 0
ClaimsOptimal (Optimal value mechanism bound) = Unit {0}
ClaimsOptimal _ = ⊥

abbrev pub ClaimsInfeasible : Finding → Type 0
ClaimsInfeasible (Infeasible face) = Unit {0}
ClaimsInfeasible _ = ⊥

abbrev pub ClaimsUnbounded : Finding → Type 0
ClaimsUnbounded (Unbounded mechanism ray) = Unit {0}
ClaimsUnbounded _ = ⊥
