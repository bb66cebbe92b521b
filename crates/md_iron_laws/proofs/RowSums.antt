-- The sum over all conditions is one over neighbouring values and one over the cuts.
use Rattle.std.proofs.Common.{◌≡◌, ◌≢◌, ℕ, zero, suc, ◌+◌, ◌*◌, ◌<◌, ◌==◌, Bool, true, false, nat_lt, if◌then◌else◌, ℤ, pos, ◌+ℤ◌, ◌*ℤ◌, [], ◌∷◌, ◌++◌, inl, inr, refl, sym, ap, ap₂, ◌∙◌, arith, lt-ltb, le-ltb, eq-eqb, ne_eqb}
use Rattle.std.proofs.lemmas.Bool.{cases_lt, cases_eq, cases_Bool}
use Rattle.md_math.specs.Lists.{number_at, list_to, up_to}
use Rattle.md_math.specs.Sums.{sum_to, total_by}
use Rattle.md_math.proofs.Ring.{linear, zero-*ℤ}
use Rattle.md_math.proofs.SumLaws.{sum_to-same, sum_to-+ℤ}
use Rattle.md_math.proofs.TotalLaws.{total_by-append, total_by-up_to, total_by-list_to}
use Rattle.md_setting.specs.Auction.{SymmetricAuction, value_count}
use Rattle.md_mech.specs.Rows.{unless_true, by_report}
use Rattle.md_border.specs.Odds.{weight_given}
use Rattle.md_reduced.specs.Sides.{pay_in, demands_of}
use Rattle.md_iron_values.specs.Pools.{Pools}
use Rattle.md_iron_values.specs.Cuts.{begins, set_from}
use Rattle.md_iron_laws.specs.Rows.{ProgramRow, truth_row, rational_row, cut_row, cut_rows, row_left}
use Rattle.md_iron_laws.specs.Undivided.{Undivided, times_of, left_total}
use Rattle.md_iron_laws.proofs.EdgeLaws.{at_edge, sum-edges, sum-edges-back, edge_of}
use Rattle.md_iron_values.proofs.CutLaws.{member-from, member-below}

-- ---- truth rows

abbrev side_at : SymmetricAuction → Undivided → (ℕ → ℤ) → ProgramRow → ℤ
side_at a u x row = times_of u row *ℤ row_left a row x

abbrev up_at : SymmetricAuction → Undivided → (ℕ → ℤ) → ℕ → ℕ → ℤ
up_at a u x w v = u.up w *ℤ row_left a (truth_row v w) x

abbrev down_at : SymmetricAuction → Undivided → (ℕ → ℤ) → ℕ → ℕ → ℤ
down_at a u x v w = u.down v *ℤ row_left a (truth_row v w) x

-- at most one of two tests holds
two-tests : (s t : Bool) (y z l : ℤ) → (s ≡ true → t ≡ false) → (if s then y else (if t then z else pos 0)) *ℤ l ≡ (if s then y *ℤ l else pos 0) +ℤ (if t then z *ℤ l else pos 0)
two-tests true true y z l h = absurd (clash (h refl))
  where
    clash : true ≡ false → ⊥
    clash e = cc
two-tests true false y z l h = omega (arith, linear)
two-tests false true y z l h = omega (arith, linear)
two-tests false false y z l h = omega (arith, linear, zero-*ℤ l)

apart : (v w : ℕ) → (w == v + 1) ≡ true → (v == w + 1) ≡ false
apart v w h = elim (cases_eq w (v + 1)) [
  | inl e ↦ (let other : v ≢ w + 1 = (λ f. omega (arith, e, f)) in ne_eqb v (w + 1) other)
  | inr d ↦ absurd (clash (w == v + 1) h (ne_eqb w (v + 1) d))
]
  where
    clash : (t : Bool) → t ≡ true → t ≡ false → ⊥
    clash true h k = cc
    clash false h k = cc

one-pair : (a : SymmetricAuction) (u : Undivided) (x : ℕ → ℤ) (v w : ℕ)
    → total_by (side_at a u x) (unless_true v (truth_row v) w) ≡ (if w == v + 1 then up_at a u x w v else pos 0) +ℤ (if v == w + 1 then down_at a u x v w else pos 0)
one-pair a u x v w = elim (cases_eq w v) [
  | inl e ↦
      let first : w ≢ v + 1 = (λ f. omega (arith, e, f)) in
      let second : v ≢ w + 1 = (λ f. omega (arith, e, f)) in
      rw (eq-eqb w v e, ne_eqb w (v + 1) first, ne_eqb v (w + 1) second) (omega (arith, linear))
  | inr d ↦
      let only : total_by (side_at a u x) (unless_true v (truth_row v) w) ≡ side_at a u x (truth_row v w) +ℤ pos 0 = rw (ne_eqb w v d) refl in
      omega (arith, linear, only, two-tests (w == v + 1) (v == w + 1) (u.up w) (u.down v) (row_left a (truth_row v w) x) (apart v w))
]

truths-sum : (a : SymmetricAuction) (u : Undivided) (x : ℕ → ℤ) (k : ℕ) → total_by (side_at a u x) (up_to k (λ v. by_report k v (truth_row v))) ≡ sum_to k (at_edge (up_at a u x)) +ℤ sum_to k (at_edge (down_at a u x))
truths-sum a u x k =
    let ups = λ (v w : ℕ). if w == v + 1 then up_at a u x w v else pos 0 in
    let downs = λ (v w : ℕ). if v == w + 1 then down_at a u x v w else pos 0 in
    total_by-up_to (side_at a u x) k (λ v. by_report k v (truth_row v))
    ∙ sum_to-same k _ (λ v. sum_to k (ups v) +ℤ sum_to k (downs v))
    (λ v b. total_by-up_to (side_at a u x) k (unless_true v (truth_row v)) ∙ sum_to-same k _ (λ w. ups v w +ℤ downs v w) (λ w l. one-pair a u x v w) ∙ sum_to-+ℤ k (ups v) (downs v))
    ∙ sum_to-+ℤ k (λ v. sum_to k (ups v)) (λ v. sum_to k (downs v))
    ∙ ap₂ (λ y z. y +ℤ z) (sum-edges-back k (up_at a u x)) (sum-edges k (down_at a u x))

-- ---- rational rows

abbrev rational_at : SymmetricAuction → Undivided → (ℕ → ℤ) → ℕ → ℤ
rational_at a u x v = side_at a u x (rational_row v)

rationals-sum : (a : SymmetricAuction) (u : Undivided) (x : ℕ → ℤ) (k : ℕ) → total_by (side_at a u x) (list_to k rational_row) ≡ sum_to k (rational_at a u x)
rationals-sum a u x k = total_by-list_to (side_at a u x) k rational_row

one-edge : (a : SymmetricAuction) (u : Undivided) (x : ℕ → ℤ) (j : ℕ) → (at_edge (up_at a u x) j +ℤ at_edge (down_at a u x) j) +ℤ rational_at a u x j ≡ edge_of (number_at a.values) x (pay_in a x) u.up u.down j
one-edge a u x zero = omega (arith, linear)
one-edge a u x (suc i) =
    let other : suc i ≢ 0 = (λ e. omega (arith, e)) in
    let none : rational_at a u x (suc i) ≡ pos 0 = rw (ne_eqb (suc i) 0 other) (zero-*ℤ (row_left a (rational_row (suc i)) x)) in
    omega (arith, linear, none)

-- ---- cuts

one-cut : (a : SymmetricAuction) (pools : Pools) (u : Undivided) (x : ℕ → ℤ) → ((s : ℕ) → s < value_count a → begins pools s ≡ false → u.cut s ≡ pos 0) → (s : ℕ) → s < value_count a
    → total_by (side_at a u x) (if begins pools s then cut_row s ∷ [] else []) ≡ u.cut s *ℤ demands_of a x (set_from (value_count a) s)
one-cut a pools u x none s b = elim (cases_Bool (begins pools s)) [
  | inl t ↦
      let one : total_by (side_at a u x) (cut_row s ∷ []) ≡ u.cut s *ℤ demands_of a x (set_from (value_count a) s) = omega (arith, linear) in
      ap (λ c. total_by (side_at a u x) (if c then cut_row s ∷ [] else [])) t ∙ one
  | inr f ↦
      ap (λ c. total_by (side_at a u x) (if c then cut_row s ∷ [] else [])) f
      ∙ sym (ap (λ z. z *ℤ demands_of a x (set_from (value_count a) s)) (none s b f) ∙ zero-*ℤ (demands_of a x (set_from (value_count a) s)))
]

cuts-sum : (a : SymmetricAuction) (pools : Pools) (u : Undivided) (x : ℕ → ℤ) → ((s : ℕ) → s < value_count a → begins pools s ≡ false → u.cut s ≡ pos 0)
    → total_by (side_at a u x) (cut_rows (value_count a) pools) ≡ sum_to (value_count a) (λ s. u.cut s *ℤ demands_of a x (set_from (value_count a) s))
cuts-sum a pools u x none =
    total_by-up_to (side_at a u x) (value_count a) (λ s. if begins pools s then cut_row s ∷ [] else [])
    ∙ sum_to-same (value_count a) _ _ (one-cut a pools u x none)

-- what bidders with values from one on ask for
pub demands-from : (a : SymmetricAuction) (x : ℕ → ℤ) (s : ℕ) → demands_of a x (set_from (value_count a) s) ≡ sum_to (value_count a) (λ v. if nat_lt v s then pos 0 else pos (a.bidders * weight_given a v) *ℤ x v)
demands-from a x s = sum_to-same (value_count a) _ _ (λ v b. elim (cases_lt v s) [
  | inl l ↦ rw (member-below (value_count a) s v l, lt-ltb v s l) refl
  | inr g ↦ rw (member-from (value_count a) s v g b, le-ltb v s g) refl
])

-- ---- all of them

pub left_total-is : (a : SymmetricAuction) (pools : Pools) (u : Undivided) (x : ℕ → ℤ) → ((s : ℕ) → s < value_count a → begins pools s ≡ false → u.cut s ≡ pos 0)
    → left_total a pools u x
    ≡ sum_to (value_count a) (edge_of (number_at a.values) x (pay_in a x) u.up u.down)
    +ℤ sum_to (value_count a) (λ s. u.cut s *ℤ sum_to (value_count a) (λ v. if nat_lt v s then pos 0 else pos (a.bidders * weight_given a v) *ℤ x v))
left_total-is a pools u x none =
    let k = value_count a in
    let cuts = cut_rows (value_count a) pools in
    let parts : left_total a pools u x ≡ total_by (side_at a u x) (up_to k (λ v. by_report k v (truth_row v))) +ℤ (total_by (side_at a u x) (list_to k rational_row) +ℤ total_by (side_at a u x) cuts) =
    total_by-append (side_at a u x) (up_to k (λ v. by_report k v (truth_row v))) (list_to k rational_row ++ cuts) ∙ ap (λ z. total_by (side_at a u x) (up_to k (λ v. by_report k v (truth_row v))) +ℤ z) (total_by-append (side_at a u x) (list_to k rational_row) cuts) in
    let edges : (sum_to k (at_edge (up_at a u x)) +ℤ sum_to k (at_edge (down_at a u x))) +ℤ sum_to k (rational_at a u x) ≡ sum_to k (edge_of (number_at a.values) x (pay_in a x) u.up u.down) =
    ap (λ z. z +ℤ sum_to k (rational_at a u x)) (sym (sum_to-+ℤ k (at_edge (up_at a u x)) (at_edge (down_at a u x))))
    ∙ sym (sum_to-+ℤ k (λ j. at_edge (up_at a u x) j +ℤ at_edge (down_at a u x) j) (rational_at a u x))
    ∙ sum_to-same k _ _ (λ j b. one-edge a u x j) in
    let sets : sum_to k (λ s. u.cut s *ℤ demands_of a x (set_from k s)) ≡ sum_to k (λ s. u.cut s *ℤ sum_to k (λ v. if nat_lt v s then pos 0 else pos (a.bidders * weight_given a v) *ℤ x v)) =
    sum_to-same k _ _ (λ s b. ap (λ z. u.cut s *ℤ z) (demands-from a x s)) in
    omega (arith, linear, parts, edges, sets, truths-sum a u x k, rationals-sum a u x k, cuts-sum a pools u x none)
