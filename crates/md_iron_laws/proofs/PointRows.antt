-- The point of odds by pools keeps each row, and is exact where the row has a multiplier.
use Rattle.std.proofs.Common.{◌≡◌, ℕ, suc, ◌+◌, ◌*◌, ◌<◌, Bool, true, false, if◌then◌else◌, ℤ, pos, ◌+ℤ◌, ◌-ℤ◌, ◌*ℤ◌, neg_ℤ, ◌≤ℤ◌, inl, inr, refl, sym, ap, ap₂, subst, ◌∙◌, arith, le-ltb, eq-eqb, ne_eqb}
use Rattle.std.proofs.lemmas.Bool.{cases_lt, cases_eq, cases_Bool}
use Rattle.md_math.specs.Lists.{number_at}
use Rattle.md_math.specs.Sets.{member}
use Rattle.md_math.proofs.Ring.{linear, ring, *ℤ-zero, zero-*ℤ}
use Rattle.md_math.proofs.Order.{le_from_same}
use Rattle.md_math.proofs.SumLaws.{sum_to-same}
use Rattle.md_setting.specs.Auction.{SymmetricAuction, value_count}
use Rattle.md_setting.specs.AuctionShaped.{IsAuction}
use Rattle.md_border.specs.Odds.{weight_given}
use Rattle.md_reduced.specs.Sides.{utility_in, pay_in, demands_of}
use Rattle.md_iron_values.specs.Pools.{Pools}
use Rattle.md_iron_values.specs.VirtualValues.{weight_to, virtual_to, IsPooledAuction}
use Rattle.md_iron_values.specs.Odds.{share_den, pay_by}
use Rattle.md_iron_values.specs.Cuts.{begins, set_from}
use Rattle.md_iron_values.proofs.PayLaws.{pay-between, pay-bounds}
use Rattle.md_iron_values.proofs.PoolLaws.{next-pool}
use Rattle.md_iron_values.proofs.AuctionLaws.{values-ascend}
use Rattle.md_iron_laws.specs.Rows.{ProgramRow, truth_row, rational_row, cut_row, row_left, row_right}
use Rattle.md_iron_laws.specs.RowsIn.{IsRowIn}
use Rattle.md_iron_laws.specs.PoolOdds.{ArePoolOdds}
use Rattle.md_iron_laws.specs.Closed.{IsPointOf}
use Rattle.md_iron_laws.specs.Undivided.{times_of}
use Rattle.md_iron_laws.proofs.Balance.{Multiples, gap_of, up_of, undivided_of, ironed}

-- ---- the point

pub pay-is : (a : SymmetricAuction) (q x : ℕ → ℤ) → IsPointOf a q x → (v : ℕ) → v < value_count a → pay_in a x v ≡ pay_by (number_at a.values) q v
pay-is a q x at v b = omega (arith, linear, at.pays v b, at.none v b)

utility-is : (a : SymmetricAuction) (q x : ℕ → ℤ) → IsPointOf a q x → (v w : ℕ) → w < value_count a → utility_in a x v w ≡ number_at a.values v *ℤ q w -ℤ pay_by (number_at a.values) q w
utility-is a q x at v w b = ap₂ (λ y z. number_at a.values v *ℤ y -ℤ z) (at.odds w b) (pay-is a q x at w b)

demands-are : (a : SymmetricAuction) (q x : ℕ → ℤ) → IsPointOf a q x → (set : ℕ) → demands_of a x set ≡ demands_of a q set
demands-are a q x at set = sum_to-same (value_count a) _ _ (λ v b. ap (λ z. if member set v then pos (a.bidders * weight_given a v) *ℤ z else pos 0) (at.odds v b))

pub odds-bounds : (a : SymmetricAuction) (units : ℕ) (pools : Pools) (den : ℤ) (q : ℕ → ℤ) → IsAuction a → ArePoolOdds a units pools den q → (v : ℕ) → v < value_count a
    → (pos 0 ≤ℤ pay_by (number_at a.values) q v) × (pay_by (number_at a.values) q v ≤ℤ (number_at a.values v *ℤ q v))
odds-bounds a units pools den q shaped are v b =
    pay-bounds (value_count a) (number_at a.values) q (values-ascend a shaped) are.rise (shaped.value 0 shaped.some_value).0 (are.nonneg 0 shaped.some_value) v b

-- ---- each row holds

truth-le : (v x0 x1 p0 p1 : ℤ) → (v *ℤ (x1 -ℤ x0)) ≤ℤ (p1 -ℤ p0) → ((v *ℤ x1 -ℤ p1) -ℤ (v *ℤ x0 -ℤ p0)) ≤ℤ pos 0
truth-le v x0 x1 p0 p1 h = (let k = simp ring at h in omega (arith, linear, k))

truth-ge : (v x0 x1 p0 p1 : ℤ) → (p0 -ℤ p1) ≤ℤ (v *ℤ (x0 -ℤ x1)) → ((v *ℤ x1 -ℤ p1) -ℤ (v *ℤ x0 -ℤ p0)) ≤ℤ pos 0
truth-ge v x0 x1 p0 p1 h = (let k = simp ring at h in omega (arith, linear, k))

at-most-none : (d l m : ℤ) → l ≡ m → m ≤ℤ pos 0 → l ≤ℤ (d *ℤ pos 0)
at-most-none d l m e h = omega (arith, linear, e, h, *ℤ-zero d)

cut-exact : (a : SymmetricAuction) (units : ℕ) (pools : Pools) (den : ℤ) (q x : ℕ → ℤ) → ArePoolOdds a units pools den q → IsPointOf a q x → (s : ℕ) → s < value_count a → begins pools s ≡ true
    → row_left a (cut_row s) x ≡ den *ℤ row_right a units (cut_row s)
cut-exact a units pools den q x are at s b h = demands-are a q x at (set_from (value_count a) s) ∙ are.full s b h

pub row-holds : (a : SymmetricAuction) (units : ℕ) (pools : Pools) (den : ℤ) (q x : ℕ → ℤ) → IsAuction a → ArePoolOdds a units pools den q → IsPointOf a q x → (row : ProgramRow) → IsRowIn (value_count a) pools row
    → row_left a row x ≤ℤ (den *ℤ row_right a units row)
row-holds a units pools den q x shaped are at (truth_row v w) h =
    let (b, l, d) = h in
    let pay = pay_by (number_at a.values) q in
    let between = pay-between (value_count a) (number_at a.values) q (values-ascend a shaped) are.rise in
    let sides : row_left a (truth_row v w) x ≡ (number_at a.values v *ℤ q w -ℤ pay w) -ℤ (number_at a.values v *ℤ q v -ℤ pay v) =
    ap₂ (λ y z. y -ℤ z) (utility-is a q x at v w l) (utility-is a q x at v v b) in
    at-most-none den (row_left a (truth_row v w) x) _ sides
    (elim (cases_lt v w) [
      | inl m ↦ truth-le (number_at a.values v) (q v) (q w) (pay v) (pay w) (between v w (omega (arith, m)) l).lower
      | inr m ↦ truth-ge (number_at a.values v) (q v) (q w) (pay v) (pay w) (between w v m b).upper
    ])
row-holds a units pools den q x shaped are at (rational_row v) b =
    let side : row_left a (rational_row v) x ≡ neg_ℤ (number_at a.values v *ℤ q v -ℤ pay_by (number_at a.values) q v) = ap neg_ℤ (utility-is a q x at v v b) in
    let bounds = odds-bounds a units pools den q shaped are v b in
    at-most-none den (row_left a (rational_row v) x) _ side (omega (arith, linear, bounds.1))
row-holds a units pools den q x shaped are at (cut_row s) h = le_from_same _ _ (cut-exact a units pools den q x are at s h.0 h.1)

-- ---- exact rows

up-slack : (n e g vl vh x0 x1 p0 p1 : ℤ) → g *ℤ (x1 -ℤ x0) ≡ pos 0 → p1 ≡ p0 +ℤ vh *ℤ (x1 -ℤ x0) → (n *ℤ (e *ℤ g)) *ℤ ((vl *ℤ x1 -ℤ p1) -ℤ (vl *ℤ x0 -ℤ p0)) ≡ pos 0
up-slack n e g vl vh x0 x1 p0 p1 h k =
    let known : (n *ℤ (e *ℤ (vl -ℤ vh))) *ℤ (g *ℤ (x1 -ℤ x0)) ≡ pos 0 = ap (λ z. (n *ℤ (e *ℤ (vl -ℤ vh))) *ℤ z) h ∙ *ℤ-zero (n *ℤ (e *ℤ (vl -ℤ vh))) in
    let expanded = simp ring at known in
    rw k (simp ring (omega (arith, linear, expanded)))

down-slack : (v x0 x1 p0 p1 : ℤ) → p1 ≡ p0 +ℤ v *ℤ (x1 -ℤ x0) → (v *ℤ x0 -ℤ p0) -ℤ (v *ℤ x1 -ℤ p1) ≡ pos 0
down-slack v x0 x1 p0 p1 k = rw k (simp ring (omega (arith, linear)))

-- the odds grow only where a pool begins
odds-still : (a : SymmetricAuction) (units : ℕ) (pools : Pools) (den : ℤ) (q : ℕ → ℤ) → IsPooledAuction a pools → ArePoolOdds a units pools den q → (v : ℕ) → suc v < value_count a → begins pools (suc v) ≡ false → q (suc v) ≡ q v
odds-still a units pools den q p are v b h = elim (cases_lt (suc v) pools.reserve) [
  | inl l ↦ are.none (suc v) b l ∙ sym (are.none v (omega (arith, b)) (omega (arith, l)))
  | inr g ↦ elim (next-pool (value_count a) (weight_to a) (virtual_to a) pools p v b) [
    | inl e ↦ absurd (clash (begins pools (suc v)) (rw (le-ltb (suc v) pools.reserve g) (eq-eqb (pools.first (suc v)) (suc v) e.1)) h)
    | inr e ↦ (let (buys, first, stop) = e in are.alike v b buys first)
  ]
]
  where
    clash : (t : Bool) → t ≡ true → t ≡ false → ⊥
    clash true h k = cc
    clash false h k = cc

flat-at : (a : SymmetricAuction) (units : ℕ) (pools : Pools) (den : ℤ) (q : ℕ → ℤ) (m : Multiples a pools) → IsAuction a → IsPooledAuction a pools → ArePoolOdds a units pools den q → (v : ℕ) → suc v < value_count a
    → gap_of a pools m (suc v) *ℤ (q (suc v) -ℤ q v) ≡ pos 0
flat-at a units pools den q m shaped p are v b = elim (cases_Bool (begins pools (suc v))) [
  | inl t ↦ ap (λ z. z *ℤ (q (suc v) -ℤ q v)) ((ironed a pools m shaped p).flat (suc v) b t) ∙ zero-*ℤ (q (suc v) -ℤ q v)
  | inr f ↦
      let none : q (suc v) -ℤ q v ≡ pos 0 = omega (arith, linear, odds-still a units pools den q p are v b f) in
      ap (λ z. gap_of a pools m (suc v) *ℤ z) none ∙ *ℤ-zero (gap_of a pools m (suc v))
]

up-exact : (a : SymmetricAuction) (units : ℕ) (pools : Pools) (den : ℤ) (q x : ℕ → ℤ) (m : Multiples a pools) → IsAuction a → IsPooledAuction a pools → ArePoolOdds a units pools den q → IsPointOf a q x → (v : ℕ) → suc v < value_count a
    → up_of a pools m (suc v) *ℤ row_left a (truth_row v (suc v)) x ≡ pos 0
up-exact a units pools den q x m shaped p are at v b =
    let pay = pay_by (number_at a.values) q in
    let sides : row_left a (truth_row v (suc v)) x ≡ (number_at a.values v *ℤ q (suc v) -ℤ pay (suc v)) -ℤ (number_at a.values v *ℤ q v -ℤ pay v) =
    ap₂ (λ y z. y -ℤ z) (utility-is a q x at v (suc v) b) (utility-is a q x at v v (omega (arith, b))) in
    ap (λ z. up_of a pools m (suc v) *ℤ z) sides
    ∙ up-slack (share_den a) (m.steps.part (suc v)) (gap_of a pools m (suc v)) (number_at a.values v) (number_at a.values (suc v)) (q v) (q (suc v)) (pay v) (pay (suc v)) (flat-at a units pools den q m shaped p are v b) refl

down-exact : (a : SymmetricAuction) (q x : ℕ → ℤ) → IsPointOf a q x → (w : ℕ) → suc w < value_count a → row_left a (truth_row (suc w) w) x ≡ pos 0
down-exact a q x at w b =
    let pay = pay_by (number_at a.values) q in
    ap₂ (λ y z. y -ℤ z) (utility-is a q x at (suc w) w (omega (arith, b))) (utility-is a q x at (suc w) (suc w) b)
    ∙ down-slack (number_at a.values (suc w)) (q w) (q (suc w)) (pay w) (pay (suc w)) refl

rational-exact : (a : SymmetricAuction) (q x : ℕ → ℤ) → IsPointOf a q x → 0 < value_count a → row_left a (rational_row 0) x ≡ pos 0
rational-exact a q x at b =
    ap neg_ℤ (utility-is a q x at 0 0 b) ∙ none (number_at a.values 0 *ℤ q 0)
  where
    none : (z : ℤ) → neg_ℤ (z -ℤ (pos 0 +ℤ z)) ≡ pos 0
    none z = omega (arith, linear)

no-right : (t l d : ℤ) → t *ℤ l ≡ pos 0 → t *ℤ l ≡ t *ℤ (d *ℤ pos 0)
no-right t l d e = e ∙ sym (ap (λ z. t *ℤ z) (*ℤ-zero d) ∙ *ℤ-zero t)

-- each multiplier times its row
pub row-exact : (a : SymmetricAuction) (units : ℕ) (pools : Pools) (den : ℤ) (q x : ℕ → ℤ) (m : Multiples a pools) → IsAuction a → IsPooledAuction a pools → ArePoolOdds a units pools den q → IsPointOf a q x → (row : ProgramRow) → IsRowIn (value_count a) pools row
    → times_of (undivided_of a pools m) row *ℤ row_left a row x ≡ times_of (undivided_of a pools m) row *ℤ (den *ℤ row_right a units row)
row-exact a units pools den q x m shaped p are at (truth_row v w) h =
    let (b, l, d) = h in
    no-right (times_of (undivided_of a pools m) (truth_row v w)) (row_left a (truth_row v w) x) den
    (elim (cases_eq w (v + 1)) [
      | inl e ↦
          let next : suc v ≡ w = omega (arith, e) in
          let up : up_of a pools m w *ℤ row_left a (truth_row v w) x ≡ pos 0 = subst (λ i. up_of a pools m i *ℤ row_left a (truth_row v i) x ≡ pos 0) next (up-exact a units pools den q x m shaped p are at v (omega (arith, next, l))) in
          rw (eq-eqb w (v + 1) e) up
      | inr n ↦ elim (cases_eq v (w + 1)) [
        | inl e ↦
            let next : suc w ≡ v = omega (arith, e) in
            let exact : row_left a (truth_row v w) x ≡ pos 0 = subst (λ i. row_left a (truth_row i w) x ≡ pos 0) next (down-exact a q x at w (omega (arith, next, b))) in
            ap (λ z. times_of (undivided_of a pools m) (truth_row v w) *ℤ z) exact ∙ *ℤ-zero (times_of (undivided_of a pools m) (truth_row v w))
        | inr o ↦ rw (ne_eqb w (v + 1) n, ne_eqb v (w + 1) o) (zero-*ℤ (row_left a (truth_row v w) x))
      ]
    ])
row-exact a units pools den q x m shaped p are at (rational_row v) b =
    no-right (times_of (undivided_of a pools m) (rational_row v)) (row_left a (rational_row v) x) den
    (elim (cases_eq v 0) [
      | inl e ↦
          let exact : row_left a (rational_row v) x ≡ pos 0 = subst (λ i. row_left a (rational_row i) x ≡ pos 0) (sym e) (rational-exact a q x at (omega (arith, b))) in
          ap (λ z. times_of (undivided_of a pools m) (rational_row v) *ℤ z) exact ∙ *ℤ-zero (times_of (undivided_of a pools m) (rational_row v))
      | inr n ↦ rw (ne_eqb v 0 n) (zero-*ℤ (row_left a (rational_row v) x))
    ])
row-exact a units pools den q x m shaped p are at (cut_row s) h = ap (λ z. times_of (undivided_of a pools m) (cut_row s) *ℤ z) (cut-exact a units pools den q x are at s h.0 h.1)
