-- What a point says of the forms of a program.
use Rattle.std.proofs.Common.{◌≡◌, ℕ, zero, suc, ◌<◌, ℤ, pos, ◌*ℤ◌, ◌<ℤ◌, ◌↔◌, List, [], ◌∷◌, length, get_or, All, sym, ap, ◌∙◌, subst, arith}
use Rattle.std.proofs.lemmas.List.{get_or_default}
use Rattle.std.proofs.lemmas.List.Elements.{All-append, All-nil}
use Rattle.md_math.proofs.Builders.{All-left, All-right}
use Rattle.md_math.proofs.Ring.{*ℤ_left_comm}
use Rattle.md_lp.specs.declared.row_kind.RowKind.TheVariants.{AtMost}
use Rattle.md_lp.specs.Program.{Program, Row, row_at, left_of, HoldsAtPoint}
use Rattle.md_lp.specs.Point.{IsPoint, Meets}
use Rattle.md_lp.proofs.Dividing.{IsDivisorFor-positive, Keeps-times}
use Rattle.md_forms.specs.Forms.{Form, number_of, Holds}
use Rattle.md_forms.specs.ProgramOf.{IsRowOf, AreRowsOf, IsProgramOf}

pub all-one : {X : Type 0} (P : X → Type 0) (x : X) → P x → All P (x ∷ [])
all-one P x holds = λ k d within. let at : k ≡ 0 = omega arith in rw at holds

pub one-all : {X : Type 0} (P : X → Type 0) (x : X) → All P (x ∷ []) → P x
one-all P x all = all 0 x (omega arith)

pub row-holds : (n : ℕ) (form : Form) (row : Row) (den : ℤ) (x : ℕ → ℤ) → IsRowOf n form row → HoldsAtPoint n row den x ↔ Holds den x form
row-holds n form row den x r =
    let above : pos 0 <ℤ r.by = IsDivisorFor-positive (suc n) (number_of form) r.by r.divisor in
    let right : den *ℤ form.right ≡ r.by *ℤ (den *ℤ row.right) = ap (λ z. den *ℤ z) r.right ∙ *ℤ_left_comm den r.by row.right in
    let both = Keeps-times form.kind r.by (left_of n row x) (den *ℤ row.right) above in
    rw (r.kind, r.left x, right) (both.1, both.0)

-- all rows hold exactly where all forms do
all-hold : (n : ℕ) (forms : List Form) (ps : List Row) (den : ℤ) (x : ℕ → ℤ) → AreRowsOf n forms ps
    → ((r : ℕ) (d : Row) → r < length ps → HoldsAtPoint n (get_or ps r d) den x) → All (Holds den x) forms
all-hold n [] [] den x are h = All-nil (Holds den x)
all-hold n [] (row ∷ ps) den x are h = absurd are
all-hold n (c ∷ cs) [] den x are h = absurd are
all-hold n (c ∷ cs) (row ∷ ps) den x are h =
    All-append (Holds den x) (c ∷ []) cs
    (all-one (Holds den x) c ((row-holds n c row den x are.0).0 (h 0 row (omega arith))))
    (all-hold n cs ps den x are.1 (λ r d b. h (suc r) d (omega arith)))

hold-all : (n : ℕ) (forms : List Form) (ps : List Row) (den : ℤ) (x : ℕ → ℤ) → AreRowsOf n forms ps → All (Holds den x) forms
    → (r : ℕ) (d : Row) → r < length ps → HoldsAtPoint n (get_or ps r d) den x
hold-all n [] [] den x are h r d b = absurd (omega arith)
hold-all n [] (row ∷ ps) den x are h r d b = absurd are
hold-all n (c ∷ cs) [] den x are h r d b = absurd are
hold-all n (c ∷ cs) (row ∷ ps) den x are h zero d b = (row-holds n c row den x are.0).1 (one-all (Holds den x) c (All-left (Holds den x) (c ∷ []) cs h))
hold-all n (c ∷ cs) (row ∷ ps) den x are h (suc r) d b = hold-all n cs ps den x are.1 (All-right (Holds den x) (c ∷ []) cs h) r d (omega arith)

-- what meets the program holds at each form
pub meets-hold : (n : ℕ) (forms : List Form) (cost : (ℕ → ℤ) → ℤ) (p : Program) (den : ℤ) (x : ℕ → ℤ) → IsProgramOf n forms cost p → Meets p den x → All (Holds den x) forms
meets-hold n forms cost p den x is meets =
    all-hold n forms p.rows den x is.rows (λ r d b. subst (λ k. HoldsAtPoint k (get_or p.rows r d) den x) is.columns (at r d b))
  where
    at : (r : ℕ) (d : Row) → r < length p.rows → HoldsAtPoint p.columns (get_or p.rows r d) den x
    at r d b = subst (λ row. HoldsAtPoint p.columns row den x) (get_or_default p.rows r (record { kind = AtMost; terms = []; right = pos 0 }) d b) (meets.rows.holds r b)

-- a point that holds at each form meets the program
pub hold-meets : (n : ℕ) (forms : List Form) (cost : (ℕ → ℤ) → ℤ) (p : Program) (den : ℤ) (x : ℕ → ℤ) → IsProgramOf n forms cost p → IsPoint p den x → All (Holds den x) forms → Meets p den x
hold-meets n forms cost p den x is point h = record {
  point = point;
  rows = record {
    holds = λ r b.
        subst (λ k. HoldsAtPoint k (row_at p r) den x) (sym is.columns)
        (hold-all n forms p.rows den x is.rows h r (record { kind = AtMost; terms = []; right = pos 0 }) b);
  };
}
