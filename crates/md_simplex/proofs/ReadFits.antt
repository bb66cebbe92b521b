-- The certificate that is read off a dictionary fits the program, and there is one.
use Rattle.std.proofs.Common.{◌≡◌, ℕ, zero, suc, ◌+◌, ◌-◌, ◌^◌, ◌<◌, Bool, true, false, if◌then◌else◌, ℤ, pos, negsuc, ◌*ℤ◌, neg_ℤ, int_lt, List, length, inl, inr, refl, sym, ap, ◌∙◌, subst, arith}
use Rattle.std.proofs.lemmas.Bool.{cases_eq}
use Rattle.md_math.specs.Lists.{number_at}
use Rattle.md_math.specs.Sizes.{IsWithin, AllWithin}
use Rattle.md_math.proofs.Ring.{one-*ℤ, neg_ℤ-*ℤ}
use Rattle.md_math.proofs.SizeLaws.{IsWithin-neg_ℤ, IsWithin-zero}
use Rattle.md_lp.specs.Program.{Program, row_count, right_at}
use Rattle.md_cert.specs.Certified.{Certified}
use Rattle.md_cert.specs.Fitting.{Fits}
use Rattle.md_cert.specs.declared.certificate.Certificate.{Certificate}
use Rattle.md_cert.specs.declared.certificate.Certificate.TheVariants as certificates
use Rattle.md_dict.specs.FirstTable.{column_count, sign_at}
use Rattle.md_dict.specs.Wide.{IsNarrow}
use Rattle.md_simplex.specs.declared.step.Step.{Step}
use Rattle.md_simplex.specs.declared.step.Step.TheVariants as steps
use Rattle.md_simplex.specs.Reading.{IsAtBasis, IsReadPoint, IsReadRay, multiplier_at, face_multiplier, main_multiplier, with_den, IsReadList, IsReadOver, IsReading}
use Rattle.md_simplex.proofs.BasisSums.{basis_cases}
use Rattle.md_simplex.proofs.Reduced.{reduced-within, one_list, one_over}

-- ---- sizes

pub signed-within : (limit : ℕ) (p : Program) (k : ℕ) (x : ℤ) → IsWithin limit x → IsWithin limit (sign_at p k *ℤ x)
signed-within limit p k x h = by_test (int_lt (right_at p k) (pos 0))
  where
    by_test : (t : Bool) → IsWithin limit ((if t then negsuc 0 else pos 1) *ℤ x)
    by_test true = subst (IsWithin limit) (sym (neg_ℤ-*ℤ (pos 1) x ∙ ap neg_ℤ (one-*ℤ x))) (IsWithin-neg_ℤ limit x h)
    by_test false = subst (IsWithin limit) (sym (one-*ℤ x)) h

pub at_basis-within : (limit columns rows : ℕ) (basis : ℕ → ℕ) (v x : ℕ → ℤ) → IsAtBasis columns rows basis v x → ((r : ℕ) → r < rows → IsWithin limit (v r)) → (j : ℕ) → j < columns → IsWithin limit (x j)
at_basis-within limit columns rows basis v x h w j b =
    elim (basis_cases rows basis j) [
      | inl found ↦ own found.0 found.1 found.2
      | inr none ↦ subst (IsWithin limit) (sym (h.other j b none)) (IsWithin-zero limit)
    ]
  where
    own : (r : ℕ) → r < rows → basis r ≡ j → IsWithin limit (x j)
    own r c q = subst (IsWithin limit) (sym (ap x (sym q) ∙ h.basic r c (subst (λ i. i < columns) (sym q) b))) (w r c)

ray-within : (limit : ℕ) (p : Program) (basis : ℕ → ℕ) (d : ℤ) (e : ℕ → ℕ → ℤ) (c : ℕ) (x : ℕ → ℤ) → IsReadRay p basis d e c x → IsWithin limit d → ((r : ℕ) → r < row_count p → IsWithin limit (e r c)) → (j : ℕ) → j < p.columns → IsWithin limit (x j)
ray-within limit p basis d e c x h small w j b =
    elim (cases_eq j c) [
      | inl q ↦ subst (IsWithin limit) (sym (ap x q ∙ h.entering (subst (λ i. i < p.columns) q b))) small
      | inr o ↦
          elim (basis_cases (row_count p) basis j) [
            | inl found ↦ own found.0 found.1 found.2
            | inr none ↦ subst (IsWithin limit) (sym (h.other j b o none)) (IsWithin-zero limit)
          ]
    ]
  where
    own : (r : ℕ) → r < row_count p → basis r ≡ j → IsWithin limit (x j)
    own r a q = subst (IsWithin limit) (sym (ap x (sym q) ∙ h.basic r a (subst (λ i. i < p.columns) (sym q) b))) (IsWithin-neg_ℤ limit (e r c) (w r a))

list-within : (limit n : ℕ) (f : ℕ → ℤ) (xs : List ℤ) → IsReadList n f xs → ((k : ℕ) → k < n → IsWithin limit (f k)) → AllWithin limit xs
list-within limit n f xs h w = record { at = λ k b. reduced-within limit n f (number_at xs) h.reduced w k (let e : length xs ≡ n = h.one_each in omega arith) }

with_den-within : (limit n : ℕ) (den : ℤ) (f : ℕ → ℤ) → IsWithin limit den → ((k : ℕ) → k < n → IsWithin limit (f k)) → (k : ℕ) → k < n + 1 → IsWithin limit (with_den den f k)
with_den-within limit n den f d w zero b = d
with_den-within limit n den f d w (suc k) b = w k (omega arith)

over-within : (limit n : ℕ) (den : ℤ) (f : ℕ → ℤ) (over : ℤ) (xs : List ℤ) → IsReadOver n den f over xs → IsWithin limit den → ((k : ℕ) → k < n → IsWithin limit (f k)) → IsWithin limit over × AllWithin limit xs
over-within limit n den f over xs h d w =
    let all : (k : ℕ) → k < n + 1 → IsWithin limit (with_den over (number_at xs) k) =
    reduced-within limit (n + 1) (with_den den f) (with_den over (number_at xs)) h.reduced (with_den-within limit n den f d w) in
    (all 0 (omega arith), record { at = λ k b. all (suc k) (let e : length xs ≡ n = h.one_each in omega arith) })

-- ---- the certificate fits

module _ (p : Program) (basis : ℕ → ℕ) (d : ℤ) (e : ℕ → ℕ → ℤ) (den_small : IsWithin (2 ^ 62 - 1) d) (narrow : IsNarrow (row_count p) (column_count p) (2 ^ 62 - 1) e) where
  multiplier-within : (row : ℕ) → row < row_count p + 2 → (k : ℕ) → k < row_count p → IsWithin (2 ^ 62 - 1) (multiplier_at p e row k)
  multiplier-within row a k b = signed-within (2 ^ 62 - 1) p k (e row (column_count p + k)) (narrow.entries row (column_count p + k) a (omega arith))

  face-within : (k : ℕ) → k < row_count p → IsWithin (2 ^ 62 - 1) (face_multiplier p e k)
  face-within k b = multiplier-within (row_count p) (omega arith) k b

  main-within : (k : ℕ) → k < row_count p → IsWithin (2 ^ 62 - 1) (main_multiplier p e k)
  main-within k b = multiplier-within (row_count p + 1) (omega arith) k b

  point-within : (x : ℕ → ℤ) → IsReadPoint p basis e x → (j : ℕ) → j < p.columns → IsWithin (2 ^ 62 - 1) (x j)
  point-within x h = at_basis-within (2 ^ 62 - 1) p.columns (row_count p) basis (λ r. e r (column_count p + row_count p)) x h (λ r b. narrow.entries r (column_count p + row_count p) (omega arith) (omega arith))

  pub reading_fits : (step : Step) (c : Certificate) → ((column : ℕ) → step ≡ steps.Unbounded column → column < column_count p) → IsReading p basis d e step c → Certified p c → Fits p c
  reading_fits steps.Optimal (certificates.Optimal over point bound) inside h c =
      let of_point = over-within (2 ^ 62 - 1) p.columns d h.0.x over point h.0.divided den_small (point-within h.0.x h.0.read) in
      let of_main = over-within (2 ^ 62 - 1) (row_count p) d (main_multiplier p e) bound.den bound.main h.1.main den_small main-within in (
        record { positive = c.meets.point.positive; size = of_point.0 },
        record { one_each = h.0.divided.one_each; sizes = of_point.1; nonneg = c.meets.point.nonneg },
        record {
          den = record { positive = c.positive; size = of_main.0 };
          main = record { one_each = h.1.main.one_each; sizes = of_main.1 };
          face = record { one_each = h.1.face.one_each; sizes = list-within (2 ^ 62 - 1) (row_count p) (face_multiplier p e) bound.face h.1.face face-within };
        },
      )
  reading_fits steps.Infeasible (certificates.Infeasible face) inside h c =
      record { one_each = h.one_each; sizes = list-within (2 ^ 62 - 1) (row_count p) (face_multiplier p e) face h face-within }
  reading_fits (steps.Unbounded column) (certificates.Unbounded over point ray) inside h c =
      let column_in : column < column_count p = inside column refl in
      let of_point = over-within (2 ^ 62 - 1) p.columns d h.0.x over point h.0.divided den_small (point-within h.0.x h.0.read) in
      let of_ray : (j : ℕ) → j < p.columns → IsWithin (2 ^ 62 - 1) (h.1.x j) =
      ray-within (2 ^ 62 - 1) p basis d e column h.1.x h.1.read den_small (λ r b. narrow.entries r column (omega arith) (omega arith)) in (
        record { positive = c.meets.point.positive; size = of_point.0 },
        record { one_each = h.0.divided.one_each; sizes = of_point.1; nonneg = c.meets.point.nonneg },
        record { one_each = h.1.divided.one_each; sizes = list-within (2 ^ 62 - 1) p.columns h.1.x ray h.1.divided of_ray; nonneg = c.nonneg },
      )
  reading_fits (steps.Pivot q) c inside h cert = absurd h
  reading_fits steps.Optimal (certificates.Infeasible face) inside h c = absurd h
  reading_fits steps.Optimal (certificates.Unbounded over point ray) inside h c = absurd h
  reading_fits steps.Infeasible (certificates.Optimal over point bound) inside h c = absurd h
  reading_fits steps.Infeasible (certificates.Unbounded over point ray) inside h c = absurd h
  reading_fits (steps.Unbounded column) (certificates.Optimal over point bound) inside h c = absurd h
  reading_fits (steps.Unbounded column) (certificates.Infeasible face) inside h c = absurd h

-- ---- there is one

same_at_basis : (columns rows : ℕ) (basis : ℕ → ℕ) (v x y : ℕ → ℤ) → IsAtBasis columns rows basis v x → IsAtBasis columns rows basis v y → (j : ℕ) → j < columns → x j ≡ y j
same_at_basis columns rows basis v x y h q j b =
    elim (basis_cases rows basis j) [
      | inl found ↦ own found.0 found.1 found.2
      | inr none ↦ h.other j b none ∙ sym (q.other j b none)
    ]
  where
    own : (r : ℕ) → r < rows → basis r ≡ j → x j ≡ y j
    own r c f =
        let inside : basis r < columns = subst (λ i. i < columns) (sym f) b in
        ap x (sym f) ∙ h.basic r c inside ∙ sym (q.basic r c inside) ∙ ap y f

same_ray : (p : Program) (basis : ℕ → ℕ) (d : ℤ) (e : ℕ → ℕ → ℤ) (c : ℕ) (x y : ℕ → ℤ) → IsReadRay p basis d e c x → IsReadRay p basis d e c y → (j : ℕ) → j < p.columns → x j ≡ y j
same_ray p basis d e c x y h q j b =
    elim (cases_eq j c) [
      | inl f ↦ (let inside : c < p.columns = subst (λ i. i < p.columns) f b in ap x f ∙ h.entering inside ∙ sym (q.entering inside) ∙ ap y (sym f))
      | inr o ↦
          elim (basis_cases (row_count p) basis j) [
            | inl found ↦ own found.0 found.1 found.2
            | inr none ↦ h.other j b o none ∙ sym (q.other j b o none)
          ]
    ]
  where
    own : (r : ℕ) → r < row_count p → basis r ≡ j → x j ≡ y j
    own r a f =
        let inside : basis r < p.columns = subst (λ i. i < p.columns) (sym f) b in
        ap x (sym f) ∙ h.basic r a inside ∙ sym (q.basic r a inside) ∙ ap y f

make_optimal : ℤ → List ℤ → ℤ → List ℤ → List ℤ → Certificate
make_optimal over point den main face = certificates.Optimal over point (record { den = den; main = main; face = face })

pub one_reading : (p : Program) (basis : ℕ → ℕ) (d : ℤ) (e : ℕ → ℕ → ℤ) (step : Step) (a b : Certificate) → IsReading p basis d e step a → IsReading p basis d e step b → a ≡ b
unfolding make_optimal
one_reading p basis d e steps.Optimal (certificates.Optimal o x u) (certificates.Optimal q y v) h k =
    let point : (o ≡ q) × (x ≡ y) = one_over p.columns d h.0.x k.0.x o q x y (same_at_basis p.columns (row_count p) basis (λ r. e r (column_count p + row_count p)) h.0.x k.0.x h.0.read k.0.read) h.0.divided k.0.divided in
    let main : (u.den ≡ v.den) × (u.main ≡ v.main) = one_over (row_count p) d (main_multiplier p e) (main_multiplier p e) u.den v.den u.main v.main (λ j b. refl) h.1.main k.1.main in
    let face : u.face ≡ v.face = one_list (row_count p) (face_multiplier p e) (face_multiplier p e) u.face v.face (λ j b. refl) h.1.face k.1.face in
    λ i. make_optimal (point.0 i) (point.1 i) (main.0 i) (main.1 i) (face i)
one_reading p basis d e steps.Infeasible (certificates.Infeasible x) (certificates.Infeasible y) h k =
    ap certificates.Infeasible (one_list (row_count p) (face_multiplier p e) (face_multiplier p e) x y (λ j b. refl) h k)
one_reading p basis d e (steps.Unbounded c) (certificates.Unbounded o x r) (certificates.Unbounded q y s) h k =
    let point : (o ≡ q) × (x ≡ y) = one_over p.columns d h.0.x k.0.x o q x y (same_at_basis p.columns (row_count p) basis (λ r. e r (column_count p + row_count p)) h.0.x k.0.x h.0.read k.0.read) h.0.divided k.0.divided in
    let ray : r ≡ s = one_list p.columns h.1.x k.1.x r s (same_ray p basis d e c h.1.x k.1.x h.1.read k.1.read) h.1.divided k.1.divided in
    λ i. certificates.Unbounded (point.0 i) (point.1 i) (ray i)
one_reading p basis d e (steps.Pivot q) a b h k = absurd h
one_reading p basis d e steps.Optimal (certificates.Infeasible x) b h k = absurd h
one_reading p basis d e steps.Optimal (certificates.Unbounded o x r) b h k = absurd h
one_reading p basis d e steps.Infeasible (certificates.Optimal o x u) b h k = absurd h
one_reading p basis d e steps.Infeasible (certificates.Unbounded o x r) b h k = absurd h
one_reading p basis d e (steps.Unbounded c) (certificates.Optimal o x u) b h k = absurd h
one_reading p basis d e (steps.Unbounded c) (certificates.Infeasible x) b h k = absurd h
one_reading p basis d e steps.Optimal (certificates.Optimal o x u) (certificates.Infeasible y) h k = absurd k
one_reading p basis d e steps.Optimal (certificates.Optimal o x u) (certificates.Unbounded q y s) h k = absurd k
one_reading p basis d e steps.Infeasible (certificates.Infeasible x) (certificates.Optimal q y v) h k = absurd k
one_reading p basis d e steps.Infeasible (certificates.Infeasible x) (certificates.Unbounded q y s) h k = absurd k
one_reading p basis d e (steps.Unbounded c) (certificates.Unbounded o x r) (certificates.Optimal q y v) h k = absurd k
one_reading p basis d e (steps.Unbounded c) (certificates.Unbounded o x r) (certificates.Infeasible y) h k = absurd k
