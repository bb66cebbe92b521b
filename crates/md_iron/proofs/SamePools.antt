-- Pools that are the same have the same odds, payments, cuts and multipliers.
use Rattle.std.proofs.Common.{◌≡◌, ℕ, ◌+◌, ◌-◌, ◌<◌, ◌≤◌, ◌==◌, ℤ, pos, ◌+ℤ◌, ◌-ℤ◌, ◌*ℤ◌, [], ◌∷◌, ◌++◌, Some, refl, sym, ap, ap₂, subst, ◌∙◌, arith}
use Rattle.std.specs.Prelude.{slice_get, nat_lt, if◌then◌else◌}
use Rattle.std.proofs.lemmas.Option.{get_or_from_slice_get}
use Rattle.md_math.specs.Lists.{list_to, up_to}
use Rattle.md_math.proofs.Builders.{up_to-same}
use Rattle.md_setting.specs.Auction.{SymmetricAuction, value_count}
use Rattle.md_border.specs.declared.interim.Interim.{Interim}
use Rattle.md_lp.specs.Program.{Program}
use Rattle.md_mech.specs.Rows.{by_report}
use Rattle.md_iron_values.specs.Pools.{Pools, over_pool}
use Rattle.md_iron_values.specs.Odds.{share_den}
use Rattle.md_iron_values.specs.Cuts.{begins, set_from, cuts_of}
use Rattle.md_iron_values.specs.Gaps.{scale_in, gap_in}
use Rattle.md_iron_values.specs.VirtualValues.{weight_to, weight_from, virtual_to}
use Rattle.md_iron_laws.specs.Multipliers.{AreMultipliers, apart_by, sum_before, weight_of_before, multiplier_num, multiplier_den}
use Rattle.md_iron_laws.specs.Rows.{ProgramRow, truth_row, rational_row, cut_row, rows_of}
use Rattle.md_iron_laws.specs.RowsIn.{IsRowIn}
use Rattle.md_iron_laws.proofs.Divisors.{row-below}
use Rattle.md_iron_laws.proofs.ProgramForms.{rows-in}
use Rattle.md_iron_pools.specs.ByRule.{AreSamePools}
use Rattle.md_threshold_laws.specs.ClosedOdds.{IsClosedInterim}

-- ---- odds and payments

pub same-closed : (a : SymmetricAuction) (units : ℕ) (one other : Pools) (interim : Interim) → AreSamePools (value_count a) one other → IsClosedInterim a units one interim → IsClosedInterim a units other interim
same-closed a units one other interim same h = record {
  den_is = h.den_is;
  one_odds = h.one_odds;
  odds = record {
    positive = h.odds.positive;
    none = λ v b l. h.odds.none v b (subst (λ r. v < r) (sym same.same_reserve) l);
    some = λ v b g. rw ((same.same_pool v b).0, (same.same_pool v b).1) at (h.odds.some v b (subst (λ r. r ≤ v) (sym same.same_reserve) g));
  };
  pays_are = h.pays_are;
}

-- ---- cuts

same-begins : (kinds : ℕ) (one other : Pools) → AreSamePools kinds one other → (s : ℕ) → s < kinds → begins one s ≡ begins other s
same-begins kinds one other same s b = rw (same.same_reserve, (same.same_pool s b).0) refl

pub same-cuts : (kinds : ℕ) (one other : Pools) → AreSamePools kinds one other → cuts_of kinds one ≡ cuts_of kinds other
same-cuts kinds one other same =
    up_to-same kinds (λ s. if begins one s then set_from kinds s ∷ [] else []) (λ s. if begins other s then set_from kinds s ∷ [] else [])
    (λ s b. ap (λ t. if t then set_from kinds s ∷ [] else []) (same-begins kinds one other same s b))

same-rows : (kinds : ℕ) (one other : Pools) → AreSamePools kinds one other → rows_of kinds one ≡ rows_of kinds other
same-rows kinds one other same =
    ap (λ xs. up_to kinds (λ v. by_report kinds v (truth_row v)) ++ (list_to kinds rational_row ++ xs))
    (up_to-same kinds (λ s. if begins one s then cut_row s ∷ [] else []) (λ s. if begins other s then cut_row s ∷ [] else [])
    (λ s b. ap (λ t. if t then cut_row s ∷ [] else []) (same-begins kinds one other same s b)))

-- ---- multipliers

same-over : (g : ℕ → ℤ) (kinds : ℕ) (one other : Pools) → AreSamePools kinds one other → (j : ℕ) → j < kinds → over_pool g one j ≡ over_pool g other j
same-over g kinds one other same j b = rw ((same.same_pool j b).0, (same.same_pool j b).1) refl

same-gap : (a : SymmetricAuction) (one other : Pools) → AreSamePools (value_count a) one other → (j : ℕ) → j < value_count a → gap_in a one j ≡ gap_in a other j
same-gap a one other same j b = rw (same.same_reserve, (same.same_pool j b).0, (same.same_pool j b).1) refl

same-scale : (a : SymmetricAuction) (one other : Pools) → AreSamePools (value_count a) one other → (j : ℕ) → j < value_count a → scale_in a one j ≡ scale_in a other j
same-scale a one other same j b = rw (same.same_reserve, (same.same_pool j b).0, (same.same_pool j b).1) refl

same-sum_before : (a : SymmetricAuction) (one other : Pools) → AreSamePools (value_count a) one other → (s : ℕ) → s < value_count a → sum_before a one s ≡ sum_before a other s
same-sum_before a one other same s b =
    ap₂ (λ z x. if nat_lt z s then x else pos 0) same.same_reserve (same-over (virtual_to a) (value_count a) one other same (s - 1) (omega (arith, b)))

same-weight_of_before : (a : SymmetricAuction) (one other : Pools) → AreSamePools (value_count a) one other → (s : ℕ) → s < value_count a → weight_of_before a one s ≡ weight_of_before a other s
same-weight_of_before a one other same s b =
    ap₂ (λ z x. if nat_lt z s then x else pos 1) same.same_reserve (same-over (weight_to a) (value_count a) one other same (s - 1) (omega (arith, b)))

same-num : (a : SymmetricAuction) (one other : Pools) (divisor : ℕ → ℤ) → AreSamePools (value_count a) one other → (row : ProgramRow) → IsRowIn (value_count a) one row
    → multiplier_num a one divisor row ≡ multiplier_num a other divisor row
same-num a one other divisor same (truth_row v w) (below, beside, apart) =
    ap₂ (λ x y. if w == v + 1 then x else y) (same-gap a one other same w beside)
    (ap₂ (λ m g. if v == w + 1 then a.revenue *ℤ (weight_from a v *ℤ (m *ℤ apart_by a v w)) +ℤ g else pos 0) (same-scale a one other same v below) (same-gap a one other same v below))
same-num a one other divisor same (rational_row v) below = refl
same-num a one other divisor same (cut_row s) (below, start) =
    ap (λ z. z *ℤ divisor s)
    (ap₂ (λ x y. x -ℤ y)
    (ap₂ (λ x y. x *ℤ y) (same-over (virtual_to a) (value_count a) one other same s below) (same-weight_of_before a one other same s below))
    (ap₂ (λ x y. x *ℤ y) (same-sum_before a one other same s below) (same-over (weight_to a) (value_count a) one other same s below)))

same-den : (a : SymmetricAuction) (one other : Pools) (factor : ℤ) → AreSamePools (value_count a) one other → (row : ProgramRow) → IsRowIn (value_count a) one row
    → multiplier_den a one factor row ≡ multiplier_den a other factor row
same-den a one other factor same (truth_row v w) (below, beside, apart) =
    ap₂ (λ m n. if w == v + 1 then m *ℤ (apart_by a w v *ℤ factor) else (if v == w + 1 then n *ℤ (apart_by a v w *ℤ factor) else pos 1))
    (same-scale a one other same w beside) (same-scale a one other same v below)
same-den a one other factor same (rational_row v) below = refl
same-den a one other factor same (cut_row s) (below, start) =
    ap (λ z. z *ℤ (share_den a *ℤ factor))
    (ap₂ (λ x y. x *ℤ y) (same-over (weight_to a) (value_count a) one other same s below) (same-weight_of_before a one other same s below))

row-in : (kinds : ℕ) (pools : Pools) (number : ℕ) (row : ProgramRow) → slice_get (rows_of kinds pools) number ≡ Some row → IsRowIn kinds pools row
row-in kinds pools number row stands =
    subst (IsRowIn kinds pools) (get_or_from_slice_get (rows_of kinds pools) number row row stands) (rows-in kinds pools number row (row-below (rows_of kinds pools) number row stands))

pub same-multipliers : (a : SymmetricAuction) (units : ℕ) (one other : Pools) (p : Program) (divisor : ℕ → ℤ) (over : ℤ) (main : ℕ → ℤ) → AreSamePools (value_count a) one other
    → AreMultipliers a units one p divisor over main → AreMultipliers a units other p divisor over main
same-multipliers a units one other p divisor over main same h = record {
  positive = h.positive;
  divided = λ number s stands. h.divided number s (in_one number (cut_row s) stands);
  at = λ number row stands.
      let inside = row-in (value_count a) one number row (in_one number row stands) in
      ap (λ z. main number *ℤ z) (sym (same-den a one other p.factor same row inside)) ∙ h.at number row (in_one number row stands) ∙ ap (λ z. over *ℤ z) (same-num a one other divisor same row inside);
}
  where
    in_one : (number : ℕ) (row : ProgramRow) → slice_get (rows_of (value_count a) other) number ≡ Some row → slice_get (rows_of (value_count a) one) number ≡ Some row
    in_one number row stands = ap (λ rows. slice_get rows number) (same-rows (value_count a) one other same) ∙ stands
