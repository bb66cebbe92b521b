-- What certificates of a node's program say of the setting's deterministic mechanisms: of any denominator, with numbers of any
-- size.
use Rattle.std.proofs.Common.{◌≡◌, ℕ, ◌↔◌, zero, suc, [], ◌∷◌, ◌++◌, ℤ, pos, ◌+ℤ◌, ◌*ℤ◌, ◌≤ℤ◌, ◌<ℤ◌, List, Option, Some, sym, ap, ◌∙◌, subst, arith}
use Rattle.std.specs.Prelude.{slice_get, option_map}
use Rattle.std.proofs.lemmas.Int.{ints}
use Rattle.std.proofs.lemmas.Option.{none-some, slice_get-map}
use Rattle.md_math.specs.Lists.{number_at}
use Rattle.md_math.proofs.Order.{*ℤ_cancel}
use Rattle.md_math.proofs.Ring.{one-*ℤ, zero-*ℤ, linear}
use Rattle.md_setting.specs.Setting.{GeneralSetting}
use Rattle.md_setting.specs.Rows.{column_count}
use Rattle.md_mech.specs.declared.mechanism.Mechanism.{Mechanism}
use Rattle.md_mech.specs.Mechanism.{IsMechanism}
use Rattle.md_mech.specs.Admissible.{IsAdmissible}
use Rattle.md_mech.specs.Optimal.{Grows, worth_of}
use Rattle.md_mech.specs.Rows.{conditions_of}
use Rattle.md_lp.specs.Program.{Program}
use Rattle.md_lp.specs.Point.{Meets, cost_sum}
use Rattle.md_lp.proofs.Dividing.{IsDivisorFor-positive}
use Rattle.md_lp.proofs.SamePrograms.{IsSameProgram, IsSameProgram-sym}
use Rattle.md_cert.specs.declared.bound.Bound.{Bound}
use Rattle.md_cert.specs.declared.certificate.Certificate.{Certificate}
use Rattle.md_cert.specs.declared.certificate.Certificate.TheVariants.{Optimal, Infeasible, Unbounded}
use Rattle.md_cert.specs.Certified.{Certified}
use Rattle.md_cert.specs.Claims.{IsOptimalPoint}
use Rattle.md_cert.proofs.AffineLaws.{best-affine}
use Rattle.md_cert.proofs.Duality.{optimal-claim, infeasible-claim}
use Rattle.md_cert.proofs.SameCertificates.{certified-same}
use Rattle.md_forms.specs.Forms.{Form}
use Rattle.md_forms.proofs.BuiltLaws as forms
use Rattle.md_forms.proofs.OneProgram as one
use Rattle.md_rows.specs.Points.{mechanism_of, point_of}
use Rattle.md_rows.specs.ProgramOf.{cost_of, form_of, forms_of, IsProgramOf, HasEachRow}
use Rattle.md_rows.specs.Sides.{cost_in}
use Rattle.md_rows.proofs.OneProgram as setting
use Rattle.md_claims.specs.Certificates.{optimal_certificate, unbounded_certificate}
use Rattle.md_claims.specs.Rays.{ray_of}
use Rattle.md_claims.proofs.SettingClaims.{grows_mechanism, with_laws}
use Rattle.md_determ_branching.specs.Fixed.{Agrees, IsWhole}
use Rattle.md_determ_node.specs.Deterministic.{IsDeterministic, IsChoice, HasChoice, GrowsDeterministic}
use Rattle.md_determ_node.specs.Law.{IsNodeProgramWithLaws}
use Rattle.md_determ_node.specs.NodeProgram.{IsNode, IsNodeProgram, HasFixed, fixed_forms, node_forms}
use Rattle.md_determ_node.proofs.Choices as choices
use Rattle.md_determ_node.proofs.OwnProgram.{own, own-unbounded}

-- ---- choices

-- a deterministic mechanism chooses an outcome at each profile
pub choice : (s : GeneralSetting) (m : Mechanism) → IsMechanism s m → IsDeterministic s m → HasChoice s m
choice s m mechanism deterministic = choices.choice s m mechanism deterministic

-- what it chooses agrees with a node exactly where it has what the node fixes
pub agrees : (s : GeneralSetting) (m : Mechanism) (choice : ℕ → ℕ) (node : List (Option ℕ)) → IsMechanism s m → IsChoice s m choice → IsNode s node → Agrees choice node ↔ HasFixed s node m
agrees s m choice node mechanism chosen is = (choices.agrees-fixed s m choice node chosen is, choices.fixed-agrees s m choice node mechanism chosen is)

-- where an outcome is fixed at each profile, who has what is fixed is deterministic
pub all-fixed : (s : GeneralSetting) (node : List (Option ℕ)) (m : Mechanism) → IsNode s node → IsWhole node → HasFixed s node m → IsMechanism s m → IsDeterministic s m
all-fixed s node m is whole fixed mechanism = choices.all-fixed s node m is whole fixed mechanism

-- ---- certificates

factor-positive : (s : GeneralSetting) (node : List (Option ℕ)) (p : Program) → IsNodeProgram s node p → pos 0 <ℤ p.factor
factor-positive s node p is = IsDivisorFor-positive (column_count s) (cost_of s) p.factor is.has_cost.factor

nothing-added : (d c : ℤ) → pos 0 *ℤ d +ℤ c ≡ c
nothing-added d c = (let none : pos 0 *ℤ d ≡ pos 0 = zero-*ℤ d in omega (arith, linear))

-- a mechanism that is certified as optimal for a node is admissible and has what the node fixes, and
pub leaf-admissible : (s : GeneralSetting) (node : List (Option ℕ)) (p : Program) (m : Mechanism) (bound : Bound) → IsNodeProgramWithLaws s node p → IsMechanism s m → Certified p (optimal_certificate s m bound)
    → IsAdmissible s m × HasFixed s node m
leaf-admissible s node p m bound is mechanism certified = (is.admits_points m mechanism).0 certified.meets

-- no admissible mechanism that has what the node fixes is worth more
pub leaf-optimal : (s : GeneralSetting) (node : List (Option ℕ)) (p : Program) (m : Mechanism) (bound : Bound) → IsNodeProgramWithLaws s node p → IsMechanism s m → Certified p (optimal_certificate s m bound)
    → (other : Mechanism) → IsAdmissible s other → HasFixed s node other → (worth_of s other *ℤ m.den) ≤ℤ (worth_of s m *ℤ other.den)
leaf-optimal s node p m bound is mechanism certified other admissible fixed =
    best-affine p m.den x greatest (pos 0) p.factor (pos 1) (worth_of s m) (factor-positive s node p is.program) (omega (arith, ints)) (sym (is.costs_points m mechanism) ∙ sym (nothing-added m.den (p.factor *ℤ cost_sum p x)))
    other.den (number_at (point_of s other)) (worth_of s other)
    (record {
      meets = subst (λ d. Meets p d (number_at (point_of s other))) (sym (one-*ℤ other.den)) ((is.admits_points other admissible.mechanism).1 (admissible, fixed));
      costs = one-*ℤ (worth_of s other) ∙ sym (is.costs_points other admissible.mechanism) ∙ sym (nothing-added (pos 1 *ℤ other.den) (p.factor *ℤ cost_sum p (number_at (point_of s other))));
    })
  where
    x : ℕ → ℤ
    x = number_at (point_of s m)

    greatest : IsOptimalPoint p m.den x
    greatest = optimal-claim p m.den bound.den x (number_at bound.main) (number_at bound.face) certified

-- what is certified of a point of a node is certified of the point of its mechanism, where payments stand in one part each
pub leaf-shown : (s : GeneralSetting) (node : List (Option ℕ)) (p : Program) (den : ℤ) (point : List ℤ) (bound : Bound) → IsNodeProgramWithLaws s node p → Certified p (Optimal den point bound)
    → Certified p (optimal_certificate s (mechanism_of s den (number_at point)) bound)
leaf-shown s node p den point bound is certified = record {
  meets = (is.admits_points m both.0.mechanism).1 both;
  positive = certified.positive;
  pairs = certified.pairs;
  columns = certified.columns;
  face_right = certified.face_right;
  main_right = certified.main_right ∙ ap (λ z. bound.den *ℤ z) same;
}
  where
    m : Mechanism
    m = mechanism_of s den (number_at point)

    both : IsAdmissible s m × HasFixed s node m
    both = is.admits_mechanisms den (number_at point) certified.meets

    same : cost_sum p (number_at point) ≡ cost_sum p (number_at (point_of s m))
    same =
        *ℤ_cancel p.factor (cost_sum p (number_at point)) (cost_sum p (number_at (point_of s m))) (factor-positive s node p is.program)
        (is.costs_mechanisms den (number_at point) ∙ sym (is.costs_points m both.0.mechanism))

-- where no point is certified for a node, no admissible mechanism has what it fixes
pub leaf-infeasible : (s : GeneralSetting) (node : List (Option ℕ)) (p : Program) (face : List ℤ) → IsNodeProgramWithLaws s node p → Certified p (Infeasible face)
    → (m : Mechanism) → IsAdmissible s m → ¬ HasFixed s node m
leaf-infeasible s node p face is certified m admissible fixed =
    (infeasible-claim p (number_at face) certified).none m.den (number_at (point_of s m)) ((is.admits_points m admissible.mechanism).1 (admissible, fixed))

-- a ray that is certified for a node is certified for the setting's program
pub root-certified : (s : GeneralSetting) (node : List (Option ℕ)) (p q : Program) (den : ℤ) (point ray : List ℤ) → IsNodeProgram s node p → IsProgramOf s q
    → Certified p (Unbounded den point ray) → Certified q (Unbounded den point ray)
root-certified s node p q den point ray is root certified =
    let has = own s node p is in
    certified-same (record p { rows = has.first }) q (setting.same_program s (record p { rows = has.first }) q has.is root) (Unbounded den point ray)
    (own-unbounded s p has den (number_at point) (number_at ray) certified)

-- payments that are added change no chance
pub grows-deterministic : (s : GeneralSetting) (m : Mechanism) (ray : List ℤ) → Grows s m ray → IsDeterministic s m → GrowsDeterministic s m ray
grows-deterministic s m ray grows deterministic k = (
  (grows k).0,
  record { at = λ t profile. record { holds = (deterministic.at t profile).holds } },
  (grows k).1,
)

-- a deterministic mechanism whose point has a ray that is certified for a node grows by the payments of the ray
pub leaf-grows : (s : GeneralSetting) (node : List (Option ℕ)) (p : Program) (m : Mechanism) (pays : List ℤ) → IsNodeProgram s node p → IsMechanism s m → IsDeterministic s m
    → Certified p (unbounded_certificate s m pays) → GrowsDeterministic s m pays
leaf-grows s node p m pays is mechanism deterministic certified =
    let has = own s node p is in
    let root : Certified (record p { rows = has.first }) (unbounded_certificate s m pays) = own-unbounded s p has m.den (number_at (point_of s m)) (number_at (ray_of s pays)) certified in
    grows-deterministic s m pays (grows_mechanism s (record p { rows = has.first }) m pays (with_laws s (record p { rows = has.first }) has.is) mechanism root) deterministic

-- ---- one program

-- two programs of one node have the same numbers at the same places, and so the same certificates
pub same_program : (s : GeneralSetting) (node : List (Option ℕ)) (p q : Program) → IsNodeProgram s node p → IsNodeProgram s node q → IsSameProgram p q
same_program s node p q a b = one.same_program (column_count s) (node_forms s node) (cost_in s) p q a b

pub same_certificates : (s : GeneralSetting) (node : List (Option ℕ)) (p q : Program) → IsNodeProgram s node p → IsNodeProgram s node q → (c : Certificate) → Certified p c ↔ Certified q c
same_certificates s node p q a b c =
    let same : IsSameProgram p q = same_program s node p q a b in
    (certified-same p q same c, certified-same q p (IsSameProgram-sym p q same) c)

-- ---- its first rows

front : (forms more : List Form) (number : ℕ) (form : Form) → slice_get forms number ≡ Some form → slice_get (forms ++ more) number ≡ Some form
front [] more number form e = absurd (none-some form e)
front (f ∷ forms) more zero form e = e
front (f ∷ forms) more (suc number) form e = front forms more number form e

pub each-row : (s : GeneralSetting) (node : List (Option ℕ)) (p : Program) → IsNodeProgram s node p → HasEachRow s p
each-row s node p is number condition e =
    forms.each-row (column_count s) (node_forms s node) (cost_in s) p is number (form_of s condition)
    (front (forms_of s (conditions_of s)) (fixed_forms s node) number (form_of s condition) (slice_get-map (form_of s) (conditions_of s) number ∙ ap (option_map (form_of s)) e))
