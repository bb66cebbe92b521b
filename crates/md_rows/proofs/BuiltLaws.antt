-- How a program grows by the conditions of a setting.
use Rattle.std.proofs.Common.{◌≡◌, ℕ, zero, suc, ◌+◌, ◌<◌, ◌≤◌, List, [], ◌∷◌, ◌++◌, length, take, Some, sym, ap, ◌∙◌, subst, arith}
use Rattle.std.specs.Prelude.{slice_get, option_map}
use Rattle.std.proofs.lemmas.List.{length-map, map-append, take_all, length-take-le}
use Rattle.std.proofs.lemmas.Option.{none-some, slice_get-map}
use Rattle.md_math.proofs.ListLaws.{take-more}
use Rattle.md_setting.specs.Setting.{GeneralSetting}
use Rattle.md_setting.specs.Rows.{column_count}
use Rattle.md_mech.specs.Rows.{Condition, conditions_of}
use Rattle.md_lp.specs.Program.{Program, Row, row_count}
use Rattle.md_forms.specs.ProgramOf.{AreRowsOf, HasCostOf}
use Rattle.md_forms.specs.Built.{Extends as ExtendsBy}
use Rattle.md_forms.proofs.BuiltLaws as forms
use Rattle.md_rows.specs.Sides.{cost_in}
use Rattle.md_rows.specs.ProgramOf.{form_of, forms_of, IsProgramOf, HasEachRow}
use Rattle.md_rows.specs.Built.{HasRoom, Extends}

forms-append : (s : GeneralSetting) (cs ds : List Condition) → forms_of s (cs ++ ds) ≡ forms_of s cs ++ forms_of s ds
forms-append s cs ds = map-append (form_of s) cs ds

pub rows-length : (s : GeneralSetting) (cs : List Condition) (ps : List Row) → AreRowsOf (column_count s) (forms_of s cs) ps → length ps ≡ length cs
rows-length s cs ps are = forms.rows-length (column_count s) (forms_of s cs) ps are ∙ length-map cs (form_of s)

-- ---- growing

pub extends-none : (s : GeneralSetting) (p : Program) → Extends s [] p p
extends-none s p = forms.extends-none p

pub extends-both : (s : GeneralSetting) (cs ds : List Condition) (old mid new : Program) → Extends s cs old mid → Extends s ds mid new → Extends s (cs ++ ds) old new
extends-both s cs ds old mid new p q =
    subst (λ fs. ExtendsBy fs old new) (sym (forms-append s cs ds)) (forms.extends-both (forms_of s cs) (forms_of s ds) old mid new p q)

pub extends-next : (s : GeneralSetting) (cs : List Condition) (n : ℕ) (c : Condition) (old mid new : Program) → slice_get cs n ≡ Some c
    → Extends s (take n cs) old mid → Extends s (c ∷ []) mid new → Extends s (take (n + 1) cs) old new
extends-next s cs n c old mid new e p q =
    let next : suc n ≡ n + 1 = omega arith in
    subst (λ ds. Extends s ds old new) (sym (take-more cs n c e) ∙ ap (λ k. take k cs) next) (extends-both s (take n cs) (c ∷ []) old mid new p q)

pub extends-all : (s : GeneralSetting) (cs : List Condition) (n : ℕ) (old new : Program) → n ≡ length cs → Extends s (take n cs) old new → Extends s cs old new
extends-all s cs n old new e p = subst (λ ds. Extends s ds old new) (take_all n cs (omega (arith, e))) p

-- ---- room

same_columns : (s : GeneralSetting) (cs : List Condition) (old new : Program) → Extends s cs old new → new.columns ≡ old.columns
same_columns s cs old new p = forms.same_columns (forms_of s cs) old new p

-- room for the next condition
pub room-next : (s : GeneralSetting) (cs : List Condition) (n : ℕ) (c : Condition) (old mid : Program) → n < length cs → HasRoom s cs old → Extends s (take n cs) old mid → HasRoom s (c ∷ []) mid
room-next s cs n c old mid below h p = record {
  columns = subst (λ m. column_count s ≤ m) (sym (same_columns s (take n cs) old mid p)) h.columns;
  room = record {
    room = omega (
      arith,
      h.room.room,
      below,
      forms.grown (forms_of s (take n cs)) old mid p,
      length-map (take n cs) (form_of s),
      length-take-le n cs (omega (arith, below)),
      length-map cs (form_of s),
    );
  };
}

-- ---- all conditions

pub program-of : (s : GeneralSetting) (old new : Program) → old.columns ≡ column_count s → HasCostOf (column_count s) (cost_in s) old → old.rows ≡ [] → Extends s (conditions_of s) old new → IsProgramOf s new
program-of s old new columns cost none p = forms.program-of (column_count s) (forms_of s (conditions_of s)) (cost_in s) old new columns cost none p

pub each-row : (s : GeneralSetting) (p : Program) → IsProgramOf s p → HasEachRow s p
each-row s p is number condition e =
    forms.each-row (column_count s) (forms_of s (conditions_of s)) (cost_in s) p is number (form_of s condition)
    (slice_get-map (form_of s) (conditions_of s) number ∙ ap (option_map (form_of s)) e)

pub rows-count : (s : GeneralSetting) (p : Program) → IsProgramOf s p → row_count p ≡ length (conditions_of s)
rows-count s p is = rows-length s (conditions_of s) p.rows is.rows
