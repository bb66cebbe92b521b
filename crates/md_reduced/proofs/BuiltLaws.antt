-- How a program grows by the conditions of an auction, and what its points say of them.
use Rattle.std.proofs.Common.{◌≡◌, ℕ, suc, ◌+◌, ◌≤◌, ℤ, List, [], ◌∷◌, ◌++◌, length, map, take, All, Some, refl, sym, ap, ◌∙◌, subst, arith}
use Rattle.std.specs.Prelude.{slice_get, option_map}
use Rattle.std.proofs.lemmas.List.{length-map, map-append, get_or-map, take_all}
use Rattle.std.proofs.lemmas.List.Elements.{All-map}
use Rattle.std.proofs.lemmas.Option.{slice_get-map}
use Rattle.md_math.proofs.ListLaws.{take-more}
use Rattle.md_setting.specs.Auction.{SymmetricAuction, value_count}
use Rattle.md_lp.specs.Program.{Program, row_count}
use Rattle.md_forms.specs.Forms.{Holds}
use Rattle.md_forms.specs.Built.{Extends}
use Rattle.md_forms.proofs.BuiltLaws as forms
use Rattle.md_forms.proofs.PointLaws.{meets-hold, hold-meets}
use Rattle.md_reduced.specs.declared.condition.ReducedCondition.{ReducedCondition}
use Rattle.md_reduced.specs.Conditions.{conditions_of}
use Rattle.md_lp.specs.Cuts.{AreCuts}
use Rattle.md_reduced.specs.Sides.{right_side, cost_of}
use Rattle.md_reduced.specs.ProgramOf.{column_count, form_of, form_with, forms_of, IsReducedProgram, GrowsByRows, HasEachRow, MeetsByConditions, CostsPoints}
use Rattle.md_reduced.proofs.ConditionLaws.{conditions-few}

-- ---- growing

pub extends-next : (a : SymmetricAuction) (units : ℕ) (cs : List ReducedCondition) (n : ℕ) (c : ReducedCondition) (old mid new : Program) → slice_get cs n ≡ Some c
    → Extends (forms_of a units (take n cs)) old mid → Extends (form_of a units c ∷ []) mid new → Extends (forms_of a units (take (n + 1) cs)) old new
extends-next a units cs n c old mid new e p q =
    let next : suc n ≡ n + 1 = omega arith in
    let more : take (n + 1) cs ≡ take n cs ++ c ∷ [] = ap (λ k. take k cs) (sym next) ∙ take-more cs n c e in
    subst (λ fs. Extends fs old new) (sym (ap (forms_of a units) more ∙ map-append (form_of a units) (take n cs) (c ∷ [])))
    (forms.extends-both (forms_of a units (take n cs)) (form_of a units c ∷ []) old mid new p q)

pub extends-all : (a : SymmetricAuction) (units : ℕ) (cs : List ReducedCondition) (n : ℕ) (old new : Program) → n ≡ length cs → Extends (forms_of a units (take n cs)) old new → Extends (forms_of a units cs) old new
extends-all a units cs n old new e p = subst (λ ds. Extends (forms_of a units ds) old new) (take_all n cs (omega (arith, e))) p

-- no condition yet, one more, and all of them
pub grows-none : (a : SymmetricAuction) (units : ℕ) (cuts : List ℕ) (old : Program) → GrowsByRows a units cuts 0 old old
grows-none a units cuts old = record { columns = refl; more = omega arith; extends = forms.extends-none old }

pub grows-next : (a : SymmetricAuction) (units : ℕ) (cuts : List ℕ) (n : ℕ) (c : ReducedCondition) (right : ℤ) (old mid new : Program) → slice_get (conditions_of (value_count a) cuts) n ≡ Some c → right ≡ right_side a units c
    → GrowsByRows a units cuts n old mid → Extends (form_with a right c ∷ []) mid new → GrowsByRows a units cuts (n + 1) old new
grows-next a units cuts n c right old mid new e is p q = record {
  columns = forms.same_columns (form_with a right c ∷ []) mid new q ∙ p.columns;
  more = omega (arith, forms.grown (form_with a right c ∷ []) mid new q, p.more);
  extends = extends-next a units (conditions_of (value_count a) cuts) n c old mid new e p.extends (subst (λ r. Extends (form_with a r c ∷ []) mid new) is q);
}

pub grows-all : (a : SymmetricAuction) (units : ℕ) (cuts : List ℕ) (old new : Program) → GrowsByRows a units cuts (length (conditions_of (value_count a) cuts)) old new
    → Extends (forms_of a units (conditions_of (value_count a) cuts)) old new
grows-all a units cuts old new p =
    let cs = conditions_of (value_count a) cuts in
    extends-all a units cs (length cs) old new refl p.extends

-- a program with no row has room for all conditions
pub whole-room : (a : SymmetricAuction) (cuts : List ℕ) (p : Program) → value_count a ≤ 12 → AreCuts (value_count a) cuts → p.rows ≡ [] → row_count p + length (conditions_of (value_count a) cuts) ≤ 8192
whole-room a cuts p few are none = omega (arith, ap length none, conditions-few (value_count a) cuts few are)

-- ---- all conditions

pub each-row : (a : SymmetricAuction) (units : ℕ) (cuts : List ℕ) (p : Program) → IsReducedProgram a units cuts p → HasEachRow a units cuts p
each-row a units cuts p is number condition e =
    let cs = conditions_of (value_count a) cuts in
    forms.each-row (column_count a) (forms_of a units cs) (cost_of a) p is number (form_of a units condition) (slice_get-map (form_of a units) cs number ∙ ap (option_map (form_of a units)) e)

pub rows-count : (a : SymmetricAuction) (units : ℕ) (cuts : List ℕ) (p : Program) → IsReducedProgram a units cuts p → row_count p ≡ length (conditions_of (value_count a) cuts)
rows-count a units cuts p is =
    let cs = conditions_of (value_count a) cuts in
    forms.rows-count (column_count a) (forms_of a units cs) (cost_of a) p is ∙ length-map cs (form_of a units)

pub all-of : {X Y : Type 0} (P : Y → Type 0) (f : X → Y) (xs : List X) → All P (map f xs) → All (λ x. P (f x)) xs
all-of P f xs h = λ k d b. subst P (get_or-map f xs k d (f d) b) (h k (f d) (omega (arith, b, length-map xs f)))

pub meets-conditions : (a : SymmetricAuction) (units : ℕ) (cuts : List ℕ) (p : Program) → IsReducedProgram a units cuts p → MeetsByConditions a units cuts p
meets-conditions a units cuts p is den x point =
    let cs = conditions_of (value_count a) cuts in (
      λ meets. all-of (Holds den x) (form_of a units) cs (meets-hold (column_count a) (forms_of a units cs) (cost_of a) p den x is meets),
      λ kept. hold-meets (column_count a) (forms_of a units cs) (cost_of a) p den x is point (All-map (Holds den x) (form_of a units) cs kept),
    )

pub costs-points : (a : SymmetricAuction) (units : ℕ) (cuts : List ℕ) (p : Program) → IsReducedProgram a units cuts p → CostsPoints a p
costs-points a units cuts p is x = is.has_cost.cost_is x
