-- How a mechanism stands against the conditions of a designer: whether it meets each of them, and what each measures of it.
use Rattle.std.specs.Prelude.{◌≡◌, ◌↔◌, IsTrue, ◌*ℤ◌, List, ◌∷◌, ◌++◌, All}
use Rattle.std.specs.List.{AllZip}
use Rattle.md_math.specs.Divisors.{IsLeastTerms}
use Rattle.md_num.specs.declared.frac.Frac.{Frac}
use Rattle.md_setting.specs.Setting.{GeneralSetting}
use Rattle.md_mech.specs.declared.mechanism.Mechanism.{Mechanism}
use Rattle.md_require.specs.declared.condition.Condition.{Condition}
use Rattle.md_require.specs.declared.standing.Standing.{Standing}
use Rattle.md_require.specs.Amounts.{Amount, amount_of, amounts_of, whole_of}
use Rattle.md_require.specs.Conditions.{IsMet}

-- the condition with another bound
abbrev pub bounded_by : Condition → Frac → Condition
bounded_by c bound = record c { num = bound.num; den = bound.den }

-- A fraction in least terms is an amount of the condition, and each amount stays on the condition's side of it: of several amounts it is
-- the one that is furthest towards the wrong side of the bound.
pub record IsMeasure (s : GeneralSetting) (m : Mechanism) (c : Condition) (value : Frac) : Type 0 where
  pub least : IsLeastTerms value.num value.den
  pub before : List Amount
  pub amount : Amount
  pub after : List Amount
  pub parts : amounts_of s c.measured ≡ before ++ amount ∷ after
  pub is : value.num *ℤ (m.den *ℤ whole_of s amount) ≡ amount_of s m amount *ℤ value.den
  pub furthest : IsMet s m (bounded_by c value)

pub record IsStanding (s : GeneralSetting) (m : Mechanism) (c : Condition) (standing : Standing) : Type 0 where
  pub met : IsTrue standing.met ↔ IsMet s m c
  pub measure : IsMeasure s m c standing.amount

-- so it is with each condition, in their order
abbrev pub AreStandings : GeneralSetting → Mechanism → List Condition → List Standing → Type 0
AreStandings s m conditions standings = AllZip (IsStanding s m) conditions standings

-- each condition is met
abbrev pub AreMet : List Standing → Type 0
AreMet standings = All (λ standing. IsTrue standing.met) standings
