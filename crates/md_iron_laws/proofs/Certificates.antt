-- The point of odds by pools with the multipliers of the pools is a certificate of the reduced program with their cuts.
use Rattle.std.proofs.Common.{◌≡◌, ◌≢◌, ℕ, zero, suc, ◌+◌, ◌-◌, ◌*◌, ◌<◌, ◌≤◌, ℤ, pos, ◌+ℤ◌, ◌-ℤ◌, ◌*ℤ◌, neg_ℤ, ◌≤ℤ◌, ◌<ℤ◌, length, map, get_or, All, Some, inl, inr, refl, sym, ap, ap₂, subst, ◌∙◌, arith, eq-eqb, ne_eqb}
use Rattle.std.specs.Prelude.{slice_get, option_map}
use lib.IntN.{*ℤ_comm}
use Rattle.std.proofs.lemmas.Bool.{cases_lt, cases_eq}
use Rattle.std.proofs.lemmas.Int.{ints}
use Rattle.std.proofs.lemmas.List.{length-map}
use Rattle.std.proofs.lemmas.List.Elements.{All-map}
use Rattle.std.proofs.lemmas.Option.{slice_get-map, slice_get-get_or}
use Rattle.md_math.specs.Lists.{number_at}
use Rattle.md_math.specs.Sums.{sum_to, total_by}
use Rattle.md_math.proofs.Ring.{linear, ring, *ℤ-zero, zero-*ℤ, *ℤ-one, *ℤ_assoc, *ℤ_left_comm, *ℤ-neg_ℤ}
use Rattle.md_math.proofs.Order.{*ℤ-le, *ℤ_cancel, nonneg-*ℤ, nonneg_from_*ℤ, positive-*ℤ, positive_from_*ℤ, le_from_lt, lt_or_le}
use Rattle.md_math.proofs.SumLaws.{sum_to-same, sum_to-*ℤ, sum_to-nonneg, sum_to-zero, dot-zero}
use Rattle.md_math.proofs.TotalLaws.{total_by-places, total_by-same, total_by-*ℤ}
use Rattle.md_setting.specs.Auction.{SymmetricAuction, value_count}
use Rattle.md_setting.specs.AuctionShaped.{IsAuction}
use Rattle.md_lp.specs.declared.row_kind.RowKind.TheVariants.{AtMost}
use Rattle.md_lp.specs.Program.{Program, Row, row_count, row_at, kind_at, right_at, coefficient_at, cost_at, value_of, left_of}
use Rattle.md_lp.specs.Point.{Meets, cost_sum, column_sum, right_sum}
use Rattle.md_lp.proofs.Dividing.{IsDivisorFor-positive}
use Rattle.md_forms.specs.Forms.{unit, number_of, Holds}
use Rattle.md_forms.specs.ProgramOf.{IsRowOf}
use Rattle.md_forms.proofs.BuiltLaws as forms
use Rattle.md_forms.proofs.OneProgram.{unit-dot}
use Rattle.md_forms.proofs.PointLaws.{hold-meets}
use Rattle.md_cert.specs.Certified.{IsOptimalCertified, reduced_cost}
use Rattle.md_cert.specs.Pairs.{IsPairFor}
use Rattle.md_reduced.specs.ProgramOf.{column_count, IsReducedProgram}
use Rattle.md_reduced.specs.Sides.{cost_of, utility_in, pay_in}
use Rattle.md_iron_values.specs.Pools.{Pools}
use Rattle.md_iron_values.specs.VirtualValues.{weight_to, virtual_to, IsPooledAuction}
use Rattle.md_iron_values.specs.Odds.{share_den}
use Rattle.md_iron_values.specs.Cuts.{cuts_of}
use Rattle.md_iron_values.proofs.AuctionLaws.{weight-ascends, values-rise, share_den-positive}
use Rattle.md_iron_values.proofs.SideLaws.{units-positive}
use Rattle.md_iron_values.proofs.GapLaws.{pool-weight}
use Rattle.md_iron_laws.specs.Rows.{ProgramRow, truth_row, rational_row, cut_row, rows_of, row_left, row_right, row_form}
use Rattle.md_iron_laws.specs.RowsIn.{IsRowIn}
use Rattle.md_iron_laws.specs.PoolOdds.{ArePoolOdds}
use Rattle.md_iron_laws.specs.Closed.{IsPointOf}
use Rattle.md_iron_laws.specs.Multipliers.{multiplier_num, multiplier_den, AreMultipliers}
use Rattle.md_iron_laws.specs.Undivided.{times_of, left_total}
use Rattle.md_iron_laws.proofs.MultipleLaws.{has-multiple}
use Rattle.md_iron_laws.proofs.Balance.{Multiples, value_step, left_of as value_left, gap_factor, cost_factor, undivided_of, ironed, balance}
use Rattle.md_iron_laws.proofs.ProgramForms.{is-program, rows-in}
use Rattle.md_iron_laws.proofs.PointRows.{odds-bounds, row-holds, row-exact}
use Rattle.md_iron_laws.proofs.Fractions.{IsBy, row-fraction, den-positive, cost_factor-positive, times-nonneg}

-- ---- the numbers exist

one-positive : pos 0 <ℤ pos 1
one-positive = omega (arith, ints)

step-positive : (a : SymmetricAuction) → IsAuction a → (j : ℕ) → j < value_count a → pos 0 <ℤ value_step (number_at a.values) j
step-positive a shaped zero b = one-positive
step-positive a shaped (suc j) b = (let rise = values-rise a shaped j b in omega (arith, linear, rise))

pub multiples : (a : SymmetricAuction) (pools : Pools) → IsAuction a → IsPooledAuction a pools → Multiples a pools
multiples a pools shaped p = record {
  weights = has-multiple (value_count a) _ (pool-weight (value_count a) (weight_to a) (virtual_to a) pools p (weight-ascends a shaped));
  steps = has-multiple (value_count a) _ (step-positive a shaped);
}

-- ---- the point is one of the program

point-nonneg : (a : SymmetricAuction) (units : ℕ) (pools : Pools) (den : ℤ) (q x : ℕ → ℤ) → IsAuction a → ArePoolOdds a units pools den q → IsPointOf a q x → (j : ℕ) → j < column_count a → pos 0 ≤ℤ x j
point-nonneg a units pools den q x shaped are at j b = elim (cases_lt j (value_count a)) [
  | inl l ↦ omega (arith, linear, at.odds j l, are.nonneg j l)
  | inr g ↦ elim (cases_lt j (2 * value_count a)) [
    | inl l ↦
        let back : value_count a + (j - value_count a) ≡ j = omega (arith, g) in
        let inside : j - value_count a < value_count a = omega (arith, l, g) in
        let pays = at.pays (j - value_count a) inside in
        let bounds = odds-bounds a units pools den q shaped are (j - value_count a) inside in
        subst (λ i. pos 0 ≤ℤ x i) back (omega (arith, linear, pays, bounds.0))
    | inr h ↦
        let back : 2 * value_count a + (j - 2 * value_count a) ≡ j = omega (arith, h) in
        let inside : j - 2 * value_count a < value_count a = omega (arith, b, h) in
        let none = at.none (j - 2 * value_count a) inside in
        subst (λ i. pos 0 ≤ℤ x i) back (omega (arith, linear, none))
  ]
]

pub point-meets : (a : SymmetricAuction) (units : ℕ) (pools : Pools) (p : Program) (den : ℤ) (q x : ℕ → ℤ) → IsAuction a → ArePoolOdds a units pools den q → IsReducedProgram a units (cuts_of (value_count a) pools) p → IsPointOf a q x → Meets p den x
point-meets a units pools p den q x shaped are is at =
    let rows = rows_of (value_count a) pools in
    let whole = is-program a units pools p is in
    let each : All (λ row. Holds den x (row_form a units row)) (rows_of (value_count a) pools) =
    λ k d b. row-holds a units pools den q x shaped are at (get_or (rows_of (value_count a) pools) k d) (rows-in (value_count a) pools k d b) in
    hold-meets (column_count a) (map (row_form a units) rows) (cost_of a) p den x whole
    (record {
      positive = are.positive;
      nonneg = λ j b. point-nonneg a units pools den q x shaped are at j (subst (λ n. j < n) whole.columns b);
    })
    (All-map (Holds den x) (row_form a units) rows each)

-- ---- by what a row is divided

one-by : (by z : ℤ) → pos 0 <ℤ by → pos 1 ≡ by *ℤ z → by ≡ pos 1
one-by by z above e = elim (lt_or_le (pos 0) z) [
  | inl l ↦
      let some : pos 1 ≤ℤ z = omega (arith, ints, l) in
      let more : (by *ℤ pos 1) ≤ℤ (by *ℤ z) = *ℤ-le by (pos 1) z (le_from_lt (pos 0) by above) some in
      let least : pos 1 ≤ℤ by = omega (arith, ints, above) in
      omega (arith, linear, more, *ℤ-one by, e, least)
  | inr g ↦
      let less : (by *ℤ z) ≤ℤ (by *ℤ pos 0) = *ℤ-le by z (pos 0) (le_from_lt (pos 0) by above) g in
      absurd (none (by *ℤ z) (omega (arith, linear, less, *ℤ-zero by)) e)
]
  where
    none : (z : ℤ) → z ≤ℤ pos 0 → pos 1 ≡ z → ⊥
    none z h k = omega (arith, ints, h, k)

minus-by : (by z : ℤ) → pos 0 <ℤ by → neg_ℤ (pos 1) ≡ by *ℤ z → by ≡ pos 1
minus-by by z above e = one-by by (neg_ℤ z) above (turned (by *ℤ z) (by *ℤ neg_ℤ z) e (*ℤ-neg_ℤ by z))
  where
    turned : (y w : ℤ) → neg_ℤ (pos 1) ≡ y → w ≡ neg_ℤ y → pos 1 ≡ w
    turned y w h k = omega (arith, ints, h, k)

unit-other : (j k : ℕ) → k ≢ j → unit j k ≡ pos 0
unit-other j k d = rw (ne_eqb k j d) refl

unit-here : (j : ℕ) → unit j j ≡ pos 1
unit-here j = rw (eq-eqb j j refl) refl

pay-here : (a : SymmetricAuction) (v : ℕ) → v < value_count a → pay_in a (unit (value_count a + v)) v ≡ pos 1
pay-here a v b =
    ap₂ (λ y z. y -ℤ z) (unit-here (value_count a + v)) (unit-other (value_count a + v) (2 * value_count a + v) (λ e. omega (arith, b, e)))

pay-other : (a : SymmetricAuction) (v w : ℕ) → v < value_count a → w < value_count a → w ≢ v → pay_in a (unit (value_count a + v)) w ≡ pos 0
pay-other a v w b l d =
    ap₂ (λ y z. y -ℤ z) (unit-other (value_count a + v) (value_count a + w) (λ e. d (omega (arith, e)))) (unit-other (value_count a + v) (2 * value_count a + w) (λ e. omega (arith, b, e)))

utility-at : (a : SymmetricAuction) (c v w : ℕ) (pay : ℤ) → w < value_count a → value_count a ≤ c → pay_in a (unit c) w ≡ pay → utility_in a (unit c) v w ≡ neg_ℤ pay
utility-at a c v w pay b l e =
    ap₂ (λ y z. number_at a.values v *ℤ y -ℤ z) (unit-other c w (λ f. omega (arith, f, b, l))) e ∙ none (number_at a.values v) pay
  where
    none : (v p : ℤ) → v *ℤ pos 0 -ℤ p ≡ neg_ℤ p
    none v p = omega (arith, linear, *ℤ-zero v)

pub row-by : (a : SymmetricAuction) (units : ℕ) (pools : Pools) (divisor : ℕ → ℤ) (row : ProgramRow) (line : Row) (r : IsRowOf (column_count a) (row_form a units row) line) → IsAuction a → 0 < units → IsRowIn (value_count a) pools row
    → ((s : ℕ) → row ≡ cut_row s → row_right a units row ≡ divisor s *ℤ line.right) → IsBy row divisor r.by
row-by a units pools divisor (truth_row v w) line r shaped some inside divided =
    let (b, l, d) = inside in
    let above : pos 0 <ℤ r.by = IsDivisorFor-positive (suc (column_count a)) (number_of (row_form a units (truth_row v w))) r.by r.divisor in
    let here : utility_in a (unit (value_count a + w)) v w ≡ neg_ℤ (pos 1) = utility-at a (value_count a + w) v w (pos 1) l (omega arith) (pay-here a w l) in
    let there : utility_in a (unit (value_count a + w)) v v ≡ neg_ℤ (pos 0) = utility-at a (value_count a + w) v v (pos 0) b (omega arith) (pay-other a w v l b (λ e. d (sym e))) in
    let side : row_left a (truth_row v w) (unit (value_count a + w)) ≡ neg_ℤ (pos 1) = ap₂ (λ y z. y -ℤ z) here there in
    minus-by r.by (left_of (column_count a) line (unit (value_count a + w))) above (sym side ∙ r.left (unit (value_count a + w)))
row-by a units pools divisor (rational_row v) line r shaped some b divided =
    let above : pos 0 <ℤ r.by = IsDivisorFor-positive (suc (column_count a)) (number_of (row_form a units (rational_row v))) r.by r.divisor in
    let here : utility_in a (unit (value_count a + v)) v v ≡ neg_ℤ (pos 1) = utility-at a (value_count a + v) v v (pos 1) b (omega arith) (pay-here a v b) in
    let side : row_left a (rational_row v) (unit (value_count a + v)) ≡ pos 1 = ap neg_ℤ here in
    one-by r.by (left_of (column_count a) line (unit (value_count a + v))) above (sym side ∙ r.left (unit (value_count a + v)))
row-by a units pools divisor (cut_row s) line r shaped some inside divided =
    let above : pos 0 <ℤ r.by = IsDivisorFor-positive (suc (column_count a)) (number_of (row_form a units (cut_row s))) r.by r.divisor in
    let side : pos 0 <ℤ row_right a units (cut_row s) = units-positive a units s shaped some inside.0 in
    let product : pos 0 <ℤ (r.by *ℤ line.right) = subst (λ z. pos 0 <ℤ z) r.right side in
    let positive : pos 0 <ℤ line.right = positive_from_*ℤ r.by line.right above product in
    *ℤ_cancel line.right r.by (divisor s) positive (*ℤ_comm line.right r.by ∙ sym r.right ∙ divided s refl ∙ *ℤ_comm (divisor s) line.right)

-- ---- one row

fraction-cancel : (mn dn nm over bh bt : ℤ) → pos 0 <ℤ dn → mn *ℤ dn ≡ over *ℤ nm → nm *ℤ bh ≡ dn *ℤ bt → mn *ℤ bh ≡ over *ℤ bt
fraction-cancel mn dn nm over bh bt above e f =
    *ℤ_cancel dn (mn *ℤ bh) (over *ℤ bt) above
    (sym (*ℤ_assoc dn mn bh) ∙ ap (λ z. z *ℤ bh) (*ℤ_comm dn mn ∙ e) ∙ *ℤ_assoc over nm bh ∙ ap (λ z. over *ℤ z) f ∙ *ℤ_left_comm over dn bt)

share-at : (c by mn bh over t whole : ℤ) → whole ≡ by *ℤ c → mn *ℤ bh ≡ over *ℤ (by *ℤ t) → bh *ℤ (c *ℤ mn) ≡ over *ℤ (t *ℤ whole)
share-at c by mn bh over t whole e f =
    let left : bh *ℤ (c *ℤ mn) ≡ c *ℤ (mn *ℤ bh) = simp ring in
    let right : over *ℤ (t *ℤ (by *ℤ c)) ≡ c *ℤ (over *ℤ (by *ℤ t)) = simp ring in
    left ∙ ap (λ z. c *ℤ z) f ∙ sym (ap (λ z. over *ℤ (t *ℤ z)) e ∙ right)

-- What is known of the row of a number with its multiplier.
pub record IsLine (a : SymmetricAuction) (units : ℕ) (pools : Pools) (p : Program) (over factor : ℤ) (m : Multiples a pools) (multiplier : ℤ) (r : ℕ) (row : ProgramRow) : Type 0 where
  pub kind : kind_at p r ≡ AtMost
  pub nonneg : pos 0 ≤ℤ multiplier
  pub left : (x : ℕ → ℤ) → factor *ℤ (left_of (column_count a) (row_at p r) x *ℤ multiplier) ≡ over *ℤ (times_of (undivided_of a pools m) row *ℤ row_left a row x)
  pub right : factor *ℤ (right_at p r *ℤ multiplier) ≡ over *ℤ (times_of (undivided_of a pools m) row *ℤ row_right a units row)

abbrev pub default_row : ProgramRow
default_row = rational_row 0

abbrev pub row_in : SymmetricAuction → Pools → ℕ → ProgramRow
row_in a pools r = get_or (rows_of (value_count a) pools) r default_row

rows-count : (a : SymmetricAuction) (units : ℕ) (pools : Pools) (p : Program) → IsReducedProgram a units (cuts_of (value_count a) pools) p → row_count p ≡ length (rows_of (value_count a) pools)
rows-count a units pools p is =
    forms.rows-count (column_count a) (map (row_form a units) (rows_of (value_count a) pools)) (cost_of a) p (is-program a units pools p is) ∙ length-map (rows_of (value_count a) pools) (row_form a units)

pub factor-positive : (a : SymmetricAuction) (units : ℕ) (pools : Pools) (p : Program) → IsReducedProgram a units (cuts_of (value_count a) pools) p → pos 0 <ℤ p.factor
factor-positive a units pools p is = IsDivisorFor-positive (column_count a) (λ j. cost_of a (unit j)) p.factor is.has_cost.factor

pub row-line : (a : SymmetricAuction) (units : ℕ) (pools : Pools) (p : Program) → IsReducedProgram a units (cuts_of (value_count a) pools) p → (r : ℕ) → r < row_count p → IsRowOf (column_count a) (row_form a units (row_in a pools r)) (row_at p r)
row-line a units pools p is r b =
    let rows = rows_of (value_count a) pools in
    let below : r < length (rows_of (value_count a) pools) = omega (arith, b, rows-count a units pools p is) in
    forms.each-row (column_count a) (map (row_form a units) rows) (cost_of a) p (is-program a units pools p is) r (row_form a units (row_in a pools r))
    (slice_get-map (row_form a units) rows r ∙ ap (option_map (row_form a units)) (slice_get-get_or rows r default_row below))

pub row-inside : (a : SymmetricAuction) (units : ℕ) (pools : Pools) (p : Program) → IsReducedProgram a units (cuts_of (value_count a) pools) p → (r : ℕ) → r < row_count p → IsRowIn (value_count a) pools (row_in a pools r)
row-inside a units pools p is r b = rows-in (value_count a) pools r default_row (omega (arith, b, rows-count a units pools p is))

-- a multiplier that is that before the division, over one factor
pub line-from : (a : SymmetricAuction) (units : ℕ) (pools : Pools) (p : Program) (m : Multiples a pools) (over multiplier : ℤ) (r : ℕ) (row : ProgramRow) → IsAuction a → IsPooledAuction a pools
    → IsReducedProgram a units (cuts_of (value_count a) pools) p → pos 0 <ℤ over → IsRowIn (value_count a) pools row → (line : IsRowOf (column_count a) (row_form a units row) (row_at p r))
    → multiplier *ℤ (cost_factor a pools m *ℤ p.factor) ≡ over *ℤ (line.by *ℤ times_of (undivided_of a pools m) row)
    → IsLine a units pools p over (cost_factor a pools m *ℤ p.factor) m multiplier r row
line-from a units pools p m over multiplier r row shaped pooled is above inside line times =
    let factor : pos 0 <ℤ (cost_factor a pools m *ℤ p.factor) = positive-*ℤ (cost_factor a pools m) p.factor (cost_factor-positive a pools m shaped) (factor-positive a units pools p is) in
    let positive : pos 0 <ℤ line.by = IsDivisorFor-positive (suc (column_count a)) (number_of (row_form a units row)) line.by line.divisor in
    let product : pos 0 ≤ℤ (over *ℤ (line.by *ℤ times_of (undivided_of a pools m) row)) =
    nonneg-*ℤ over (line.by *ℤ times_of (undivided_of a pools m) row) (le_from_lt (pos 0) over above)
    (nonneg-*ℤ line.by (times_of (undivided_of a pools m) row) (le_from_lt (pos 0) line.by positive) (times-nonneg a pools m shaped pooled row inside)) in
    let turned : (cost_factor a pools m *ℤ p.factor) *ℤ multiplier ≡ over *ℤ (line.by *ℤ times_of (undivided_of a pools m) row) = *ℤ_comm (cost_factor a pools m *ℤ p.factor) multiplier ∙ times in
    record {
      kind = line.kind;
      nonneg = nonneg_from_*ℤ (cost_factor a pools m *ℤ p.factor) multiplier factor (subst (λ z. pos 0 ≤ℤ z) (sym turned) product);
      left = λ x. share-at (left_of (column_count a) (row_at p r) x) line.by multiplier (cost_factor a pools m *ℤ p.factor) over (times_of (undivided_of a pools m) row) (row_left a row x) (line.left x) times;
      right = share-at (right_at p r) line.by multiplier (cost_factor a pools m *ℤ p.factor) over (times_of (undivided_of a pools m) row) (row_right a units row) line.right times;
    }

line-at : (a : SymmetricAuction) (units : ℕ) (pools : Pools) (p : Program) (m : Multiples a pools) (divisor : ℕ → ℤ) (over : ℤ) (main : ℕ → ℤ) → IsAuction a → 0 < units → IsPooledAuction a pools
    → IsReducedProgram a units (cuts_of (value_count a) pools) p → AreMultipliers a units pools p divisor over main → (r : ℕ) → r < row_count p
    → IsLine a units pools p over (cost_factor a pools m *ℤ p.factor) m (main r) r (row_in a pools r)
line-at a units pools p m divisor over main shaped some pooled is are r b =
    at-row (row_in a pools r) (slice_get-get_or (rows_of (value_count a) pools) r default_row (omega (arith, b, rows-count a units pools p is))) (row-inside a units pools p is r b) (row-line a units pools p is r b)
  where
    at-row : (row : ProgramRow) → slice_get (rows_of (value_count a) pools) r ≡ Some row → IsRowIn (value_count a) pools row → IsRowOf (column_count a) (row_form a units row) (row_at p r)
        → IsLine a units pools p over (cost_factor a pools m *ℤ p.factor) m (main r) r row
    at-row row stands inside line =
        let by : IsBy row divisor line.by = row-by a units pools divisor row (row_at p r) line shaped some inside
        (λ s e. subst (λ c. row_right a units c ≡ divisor s *ℤ right_at p r) (sym e) (are.divided r s (stands ∙ ap Some e))) in
        let fraction = row-fraction a pools m p.factor line.by divisor shaped pooled row inside by in
        line-from a units pools p m over (main r) r row shaped pooled is are.positive inside line
        (fraction-cancel (main r) (multiplier_den a pools p.factor row) (multiplier_num a pools divisor row) over (cost_factor a pools m *ℤ p.factor) (line.by *ℤ times_of (undivided_of a pools m) row)
        (den-positive a pools p.factor shaped pooled (factor-positive a units pools p is) row inside) (are.at r row stands) fraction)

-- ---- all rows

-- a sum over the rows of the program is one over the conditions
all-rows : (a : SymmetricAuction) (pools : Pools) (p : Program) (over factor : ℤ) (part : ℕ → ℤ) (whole : ProgramRow → ℤ) → row_count p ≡ length (rows_of (value_count a) pools)
    → ((r : ℕ) → r < row_count p → factor *ℤ part r ≡ over *ℤ whole (row_in a pools r)) → factor *ℤ sum_to (row_count p) part ≡ over *ℤ total_by whole (rows_of (value_count a) pools)
all-rows a pools p over factor part whole count h =
    sym (sum_to-*ℤ (row_count p) factor part)
    ∙ sum_to-same (row_count p) (λ r. factor *ℤ part r) (λ r. over *ℤ whole (get_or (rows_of (value_count a) pools) r default_row)) h
    ∙ sum_to-*ℤ (row_count p) over (λ r. whole (get_or (rows_of (value_count a) pools) r default_row))
    ∙ ap (λ n. over *ℤ sum_to n (λ r. whole (get_or (rows_of (value_count a) pools) r default_row))) count
    ∙ ap (λ z. over *ℤ z) (sym (total_by-places whole (rows_of (value_count a) pools) default_row))

-- ---- columns

unit-nonneg : (j v : ℕ) → pos 0 ≤ℤ unit j v
unit-nonneg j v = elim (cases_eq v j) [
  | inl e ↦ rw (eq-eqb v j e) (let one : pos 0 ≤ℤ pos 1 = omega (arith, ints) in one)
  | inr d ↦ rw (ne_eqb v j d) (let none : pos 0 ≤ℤ pos 0 = omega (arith, ints) in none)
]

-- what is left of the values, at a column and at the point
rests : (a : SymmetricAuction) (pools : Pools) → Multiples a pools → (ℕ → ℤ) → ℤ
rests a pools m x = sum_to (value_count a) (λ v. (gap_factor a pools m *ℤ value_left a pools m v) *ℤ x v)

rests-nonneg : (a : SymmetricAuction) (pools : Pools) (m : Multiples a pools) (x : ℕ → ℤ) → IsAuction a → IsPooledAuction a pools → ((v : ℕ) → pos 0 ≤ℤ x v) → pos 0 ≤ℤ rests a pools m x
unfolding rests
rests-nonneg a pools m x shaped pooled h =
    let k : pos 0 <ℤ gap_factor a pools m = positive-*ℤ (share_den a) m.steps.whole (share_den-positive a shaped) m.steps.positive in
    sum_to-nonneg (value_count a) (λ v. (gap_factor a pools m *ℤ value_left a pools m v) *ℤ x v)
    (λ v b. nonneg-*ℤ (gap_factor a pools m *ℤ value_left a pools m v) (x v) (nonneg-*ℤ (gap_factor a pools m) (value_left a pools m v) (le_from_lt (pos 0) (gap_factor a pools m) k) ((ironed a pools m shaped pooled).step v b)) (h v))

rests-none : (a : SymmetricAuction) (units : ℕ) (pools : Pools) (den : ℤ) (q x : ℕ → ℤ) (m : Multiples a pools) → IsAuction a → IsPooledAuction a pools → ArePoolOdds a units pools den q → IsPointOf a q x → rests a pools m x ≡ pos 0
unfolding rests
rests-none a units pools den q x m shaped pooled are at =
    sum_to-zero (value_count a) (λ v. (gap_factor a pools m *ℤ value_left a pools m v) *ℤ x v)
    (λ v b. elim (cases_lt v pools.reserve) [
      | inl l ↦ ap (λ z. (gap_factor a pools m *ℤ value_left a pools m v) *ℤ z) (at.odds v b ∙ are.none v b l) ∙ *ℤ-zero (gap_factor a pools m *ℤ value_left a pools m v)
      | inr g ↦
          ap (λ z. (gap_factor a pools m *ℤ z) *ℤ x v) ((ironed a pools m shaped pooled).bought v g b)
          ∙ ap (λ z. z *ℤ x v) (*ℤ-zero (gap_factor a pools m)) ∙ zero-*ℤ (x v)
    ])

-- at a column: over times the total, less over times the cost
column-parts : (b h over column cost total unit_cost rest : ℤ) → (b *ℤ h) *ℤ column ≡ over *ℤ total → total ≡ b *ℤ unit_cost +ℤ rest → unit_cost ≡ h *ℤ cost → (b *ℤ h) *ℤ (column -ℤ over *ℤ cost) ≡ over *ℤ rest
column-parts b h over column cost total unit_cost rest e f g =
    let whole : (b *ℤ h) *ℤ (column -ℤ over *ℤ cost) ≡ (b *ℤ h) *ℤ column -ℤ over *ℤ (b *ℤ (h *ℤ cost)) = simp ring (omega (arith, linear)) in
    let parts : over *ℤ (b *ℤ (h *ℤ cost) +ℤ rest) ≡ over *ℤ (b *ℤ (h *ℤ cost)) +ℤ over *ℤ rest = simp ring (omega (arith, linear)) in
    let total_is : over *ℤ total ≡ over *ℤ (b *ℤ (h *ℤ cost) +ℤ rest) = ap (λ z. over *ℤ z) (f ∙ ap (λ z. b *ℤ z +ℤ rest) g) in
    omega (arith, linear, whole, parts, total_is, e)

right-parts : (b h over den right cost total point_cost rest tight : ℤ) → (b *ℤ h) *ℤ right ≡ over *ℤ tight → total ≡ den *ℤ tight → total ≡ b *ℤ point_cost +ℤ rest → rest ≡ pos 0 → point_cost ≡ h *ℤ cost
    → (b *ℤ h) *ℤ (den *ℤ right) ≡ (b *ℤ h) *ℤ (over *ℤ cost)
right-parts b h over den right cost total point_cost rest tight e f g none k =
    let exact : den *ℤ tight ≡ b *ℤ (h *ℤ cost) = sym f ∙ g ∙ ap (λ z. b *ℤ point_cost +ℤ z) none ∙ plain (b *ℤ point_cost) ∙ ap (λ z. b *ℤ z) k in
    let last : over *ℤ (b *ℤ (h *ℤ cost)) ≡ (b *ℤ h) *ℤ (over *ℤ cost) = simp ring in
    *ℤ_left_comm (b *ℤ h) den right ∙ ap (λ z. den *ℤ z) e ∙ *ℤ_left_comm den over tight ∙ ap (λ z. over *ℤ z) exact ∙ last
  where
    plain : (z : ℤ) → z +ℤ pos 0 ≡ z
    plain z = omega (arith, linear)

-- each row's multiplier times its left side is that times its right side
tight-total : (a : SymmetricAuction) (units : ℕ) (pools : Pools) (den : ℤ) (q x : ℕ → ℤ) (m : Multiples a pools) → IsAuction a → IsPooledAuction a pools → ArePoolOdds a units pools den q → IsPointOf a q x
    → left_total a pools (undivided_of a pools m) x ≡ den *ℤ total_by (λ row. times_of (undivided_of a pools m) row *ℤ row_right a units row) (rows_of (value_count a) pools)
tight-total a units pools den q x m shaped pooled are at =
    total_by-same (λ row. times_of (undivided_of a pools m) row *ℤ row_left a row x) (λ row. den *ℤ (times_of (undivided_of a pools m) row *ℤ row_right a units row)) (rows_of (value_count a) pools)
    (λ k d b.
    let row = get_or (rows_of (value_count a) pools) k d in
    row-exact a units pools den q x m shaped pooled are at (get_or (rows_of (value_count a) pools) k d) (rows-in (value_count a) pools k d b)
    ∙ *ℤ_left_comm (times_of (undivided_of a pools m) (get_or (rows_of (value_count a) pools) k d)) den (row_right a units (get_or (rows_of (value_count a) pools) k d)))
    ∙ total_by-*ℤ den (λ row. times_of (undivided_of a pools m) row *ℤ row_right a units row) (rows_of (value_count a) pools)

-- ---- the certificate

pub certified-by : (a : SymmetricAuction) (units : ℕ) (pools : Pools) (p : Program) (den : ℤ) (q x : ℕ → ℤ) (m : Multiples a pools) (over : ℤ) (main face : ℕ → ℤ) → IsAuction a → IsPooledAuction a pools → ArePoolOdds a units pools den q → IsReducedProgram a units (cuts_of (value_count a) pools) p
    → IsPointOf a q x → pos 0 <ℤ over → ((r : ℕ) → r < row_count p → IsLine a units pools p over (cost_factor a pools m *ℤ p.factor) m (main r) r (row_in a pools r)) → ((r : ℕ) → r < row_count p → face r ≡ pos 0)
    → IsOptimalCertified p den x over main face
unfolding rests
certified-by a units pools p den q x m over main face shaped pooled are is at above line none = record {
  meets = point-meets a units pools p den q x shaped are is at;
  positive = above;
  pairs = record { holds = λ r b. subst (λ k. IsPairFor k (face r) (main r)) (sym (line r b).kind) (inr (none r b, (line r b).nonneg)) };
  columns = record { holds = λ j b. inr (dot-zero (row_count p) (λ r. coefficient_at p r j) face none, column j b) };
  face_right = dot-zero (row_count p) (right_at p) face none;
  main_right = *ℤ_cancel (cost_factor a pools m *ℤ p.factor) (den *ℤ right_sum p main) (over *ℤ cost_sum p x) factor
      (right-parts (cost_factor a pools m) p.factor over den (right_sum p main) (cost_sum p x) (left_total a pools (undivided_of a pools m) x) (cost_of a x) (rests a pools m x)
      (total_by (λ row. times_of (undivided_of a pools m) row *ℤ row_right a units row) (rows_of (value_count a) pools))
      (all-rows a pools p over (cost_factor a pools m *ℤ p.factor) (λ r. right_at p r *ℤ main r) (λ row. times_of (undivided_of a pools m) row *ℤ row_right a units row) (rows-count a units pools p is) (λ r b. (line r b).right))
      (tight-total a units pools den q x m shaped pooled are at) (balance a pools m x shaped pooled) (rests-none a units pools den q x m shaped pooled are at) (is.has_cost.cost_is x));
}
  where
    factor : pos 0 <ℤ (cost_factor a pools m *ℤ p.factor)
    factor = positive-*ℤ (cost_factor a pools m) p.factor (cost_factor-positive a pools m shaped) (factor-positive a units pools p is)

    column : (j : ℕ) → j < p.columns → pos 0 ≤ℤ reduced_cost p over main j
    column j b =
        let inside : j < column_count a = subst (λ n. j < n) is.columns b in
        let sums : (cost_factor a pools m *ℤ p.factor) *ℤ column_sum p main j ≡ over *ℤ left_total a pools (undivided_of a pools m) (unit j) =
        all-rows a pools p over (cost_factor a pools m *ℤ p.factor) (λ r. coefficient_at p r j *ℤ main r) (λ row. times_of (undivided_of a pools m) row *ℤ row_left a row (unit j)) (rows-count a units pools p is)
        (λ r l. ap (λ z. (cost_factor a pools m *ℤ p.factor) *ℤ (z *ℤ main r)) (sym (unit-dot (column_count a) j (value_of (row_at p r).terms) inside)) ∙ (line r l).left (unit j)) in
        let cost : cost_of a (unit j) ≡ p.factor *ℤ cost_at p j = is.has_cost.cost_is (unit j) ∙ ap (λ z. p.factor *ℤ z) (unit-dot p.columns j (cost_at p) b) in
        let left : (cost_factor a pools m *ℤ p.factor) *ℤ (column_sum p main j -ℤ over *ℤ cost_at p j) ≡ over *ℤ rests a pools m (unit j) =
        column-parts (cost_factor a pools m) p.factor over (column_sum p main j) (cost_at p j) (left_total a pools (undivided_of a pools m) (unit j)) (cost_of a (unit j)) (rests a pools m (unit j)) sums (balance a pools m (unit j) shaped pooled) cost in
        let product : pos 0 ≤ℤ (over *ℤ rests a pools m (unit j)) = nonneg-*ℤ over (rests a pools m (unit j)) (le_from_lt (pos 0) over above) (rests-nonneg a pools m (unit j) shaped pooled (unit-nonneg j)) in
        nonneg_from_*ℤ (cost_factor a pools m *ℤ p.factor) (reduced_cost p over main j) factor (subst (λ z. pos 0 ≤ℤ z) (sym left) product)

-- with any numbers over a positive one that are these fractions
pub certified : (a : SymmetricAuction) (units : ℕ) (pools : Pools) (p : Program) (den : ℤ) (q x divisor : ℕ → ℤ) (over : ℤ) (main face : ℕ → ℤ) → IsAuction a → 0 < units → IsPooledAuction a pools → ArePoolOdds a units pools den q → IsReducedProgram a units (cuts_of (value_count a) pools) p
    → IsPointOf a q x → AreMultipliers a units pools p divisor over main → ((r : ℕ) → r < row_count p → face r ≡ pos 0) → IsOptimalCertified p den x over main face
certified a units pools p den q x divisor over main face shaped some pooled odds is at are none =
    let m = multiples a pools shaped pooled in
    certified-by a units pools p den q x m over main face shaped pooled odds is at are.positive (λ r b. line-at a units pools p m divisor over main shaped some pooled is are r b) none
