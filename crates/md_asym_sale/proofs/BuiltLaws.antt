-- How a program grows by the conditions of a sale, and what its points say of them.
use Rattle.std.proofs.Common.{◌≡◌, ℕ, suc, ◌+◌, ◌<◌, ◌≤◌, List, [], ◌∷◌, ◌++◌, length, map, take, All, Some, sym, ap, ◌∙◌, subst, arith}
use Rattle.std.specs.Prelude.{slice_get, option_map}
use Rattle.std.proofs.lemmas.List.{length-map, map-append, get_or-map, take_all, length-take-le}
use Rattle.std.proofs.lemmas.List.Elements.{All-map}
use Rattle.std.proofs.lemmas.Option.{slice_get-map}
use Rattle.md_math.proofs.ListLaws.{take-more}
use Rattle.md_setting.specs.Setting.{GeneralSetting}
use Rattle.md_setting.specs.Shaped.{IsShaped}
use Rattle.md_lp.specs.Program.{Program, row_count}
use Rattle.md_forms.specs.Forms.{Holds}
use Rattle.md_forms.specs.Built.{HasRoom, Extends}
use Rattle.md_forms.proofs.BuiltLaws as forms
use Rattle.md_forms.proofs.PointLaws.{meets-hold, hold-meets}
use Rattle.md_asym_sale.specs.declared.condition.SaleCondition.{SaleCondition}
use Rattle.md_asym_sale.specs.Conditions.{conditions_of}
use Rattle.md_lp.specs.Cuts.{AreCuts}
use Rattle.md_asym_sale.specs.Forms.{cost_of}
use Rattle.md_asym_sale.specs.ProgramOf.{column_count, form_of, forms_of, IsSaleProgram, HasEachRow, MeetsByConditions, CostsPoints}
use Rattle.md_asym_sale.specs.Sale.{IsSale}
use Rattle.md_asym_sale.specs.Values.{pairs_of}
use Rattle.md_asym_sale.proofs.ConditionLaws.{conditions-few}

-- ---- growing

pub extends-next : (s : GeneralSetting) (cs : List SaleCondition) (n : ℕ) (c : SaleCondition) (old mid new : Program) → slice_get cs n ≡ Some c
    → Extends (forms_of s (take n cs)) old mid → Extends (form_of s c ∷ []) mid new → Extends (forms_of s (take (n + 1) cs)) old new
extends-next s cs n c old mid new e p q =
    let next : suc n ≡ n + 1 = omega arith in
    let more : take (n + 1) cs ≡ take n cs ++ c ∷ [] = ap (λ k. take k cs) (sym next) ∙ take-more cs n c e in
    subst (λ fs. Extends fs old new) (sym (ap (forms_of s) more ∙ map-append (form_of s) (take n cs) (c ∷ [])))
    (forms.extends-both (forms_of s (take n cs)) (form_of s c ∷ []) old mid new p q)

pub extends-all : (s : GeneralSetting) (cs : List SaleCondition) (n : ℕ) (old new : Program) → n ≡ length cs → Extends (forms_of s (take n cs)) old new → Extends (forms_of s cs) old new
extends-all s cs n old new e p = subst (λ ds. Extends (forms_of s ds) old new) (take_all n cs (omega (arith, e))) p

-- room for the next condition
pub room-next : (s : GeneralSetting) (cs : List SaleCondition) (n : ℕ) (old mid : Program) → n < length cs → HasRoom (forms_of s cs) old → Extends (forms_of s (take n cs)) old mid → row_count mid < 8192
room-next s cs n old mid below h p =
    omega (
      arith,
      h.room,
      below,
      forms.grown (forms_of s (take n cs)) old mid p,
      length-map (take n cs) (form_of s),
      length-take-le n cs (omega (arith, below)),
      length-map cs (form_of s),
    )

pub columns-kept : (s : GeneralSetting) (cs : List SaleCondition) (old mid : Program) → Extends (forms_of s cs) old mid → old.columns ≡ column_count s → mid.columns ≡ column_count s
columns-kept s cs old mid p e = forms.same_columns (forms_of s cs) old mid p ∙ e

-- a program with no row has room for all conditions
pub whole-room : (s : GeneralSetting) (cuts : List ℕ) (p : Program) → IsSale s → IsShaped s → AreCuts (pairs_of s) cuts → p.rows ≡ [] → HasRoom (forms_of s (conditions_of s cuts)) p
whole-room s cuts p sale shaped are none = record {
  room = omega (arith, ap length none, length-map (conditions_of s cuts) (form_of s), conditions-few s cuts sale shaped are);
}

-- ---- all conditions

pub each-row : (s : GeneralSetting) (cuts : List ℕ) (p : Program) → IsSaleProgram s cuts p → HasEachRow s cuts p
each-row s cuts p is number condition e =
    let cs = conditions_of s cuts in
    forms.each-row (column_count s) (forms_of s cs) (cost_of s) p is number (form_of s condition) (slice_get-map (form_of s) cs number ∙ ap (option_map (form_of s)) e)

pub rows-count : (s : GeneralSetting) (cuts : List ℕ) (p : Program) → IsSaleProgram s cuts p → row_count p ≡ length (conditions_of s cuts)
rows-count s cuts p is =
    let cs = conditions_of s cuts in
    forms.rows-count (column_count s) (forms_of s cs) (cost_of s) p is ∙ length-map cs (form_of s)

pub all-of : {X Y : Type 0} (P : Y → Type 0) (f : X → Y) (xs : List X) → All P (map f xs) → All (λ x. P (f x)) xs
all-of P f xs h = λ k d b. subst P (get_or-map f xs k d (f d) b) (h k (f d) (omega (arith, b, length-map xs f)))

pub meets-conditions : (s : GeneralSetting) (cuts : List ℕ) (p : Program) → IsSaleProgram s cuts p → MeetsByConditions s cuts p
meets-conditions s cuts p is den x point =
    let cs = conditions_of s cuts in (
      λ meets. all-of (Holds den x) (form_of s) cs (meets-hold (column_count s) (forms_of s cs) (cost_of s) p den x is meets),
      λ kept. hold-meets (column_count s) (forms_of s cs) (cost_of s) p den x is point (All-map (Holds den x) (form_of s) cs kept),
    )

pub costs-points : (s : GeneralSetting) (cuts : List ℕ) (p : Program) → IsSaleProgram s cuts p → CostsPoints s p
costs-points s cuts p is x = is.has_cost.cost_is x
