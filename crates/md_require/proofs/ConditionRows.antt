-- The rows of conditions, rank by rank, and their room.
use Rattle.std.proofs.Common.{◌≡◌, ℕ, zero, suc, ◌+◌, ◌<◌, ℤ, pos, ◌*ℤ◌, List, [], ◌∷◌, ◌++◌, length, take, drop, get_or, All, refl, sym, ap, ◌∙◌, subst, arith, length-append}
use Rattle.std.specs.Prelude.{flat_map, map}
use Rattle.std.proofs.lemmas.Bool.{ne_eqb}
use Rattle.std.proofs.lemmas.List.{append-nil, take_more, take-append-drop}
use Rattle.std.proofs.lemmas.List.Concat.{flat_map-append}
use Rattle.std.proofs.lemmas.List.Elements.{All-head}
use Rattle.md_math.specs.Lists.{up_to}
use Rattle.md_math.specs.Sizes.{IsWithin}
use Rattle.md_math.proofs.Builders.{All-up_to_at, map-up_to, up_to-more}
use Rattle.md_math.proofs.Ring.{neg_ℤ-*ℤ}
use Rattle.md_math.proofs.SizeLaws.{IsWithin-neg_ℤ}
use Rattle.md_space.specs.Profiles.{profile_at, profile_count}
use Rattle.md_setting.specs.Setting.{GeneralSetting}
use Rattle.md_setting.specs.Meaning.{sizes_of}
use Rattle.md_lp.specs.Program.{Program}
use Rattle.md_forms.specs.Built.{Extends, HasRoom}
use Rattle.md_forms.proofs.BuiltLaws.{extends-both, room-left, room-right, rows-count}
use Rattle.md_mech.specs.Rows.{conditions_of}
use Rattle.md_rows.specs.ProgramOf.{forms_of, IsProgramOf}
use Rattle.md_rows.specs.Sides.{cost_in}
use Rattle.md_setting.specs.Rows.{column_count}
use Rattle.md_require.specs.declared.condition.Condition.{Condition}
use Rattle.md_require.specs.declared.condition.Measured.{Measured}
use Rattle.md_require.specs.declared.condition.Measured.TheVariants as measured
use Rattle.md_require.specs.declared.condition.Side.{Side}
use Rattle.md_require.specs.declared.condition.Side.TheVariants.{Least, Most}
use Rattle.md_require.specs.Amounts.{Amount, amounts_of, revenue, welfare, utility, chance, chance_at}
use Rattle.md_require.specs.Limits.{AreConditionsFor}
use Rattle.md_require.specs.Named.{amounts_at, at_first, forms_at}
use Rattle.md_require.specs.Parts.{IsNarrow}
use Rattle.md_require.specs.RequireProgram.{amount_form, at_most_by, condition_forms}
use Rattle.md_require.proofs.PartSizes.{narrow-neg}

-- ---- a condition, rank by rank

at-later : (n : ℕ) (amount : Amount) → at_first (suc n) amount ≡ []
at-later n amount = rw (ne_eqb (suc n) 0 (λ e. absurd (omega (arith, e)))) refl

first-once : (n : ℕ) (amount : Amount) → 0 < n → up_to n (λ r. at_first r amount) ≡ amount ∷ []
first-once zero amount some = absurd (omega arith)
first-once (suc zero) amount some = refl
first-once (suc (suc n)) amount some =
    let more : suc (suc n) ≡ suc n + 1 = omega arith in
    ap (λ k. up_to k (λ r. at_first r amount)) more ∙ up_to-more (suc n) (λ r. at_first r amount)
    ∙ ap (λ rest. up_to (suc n) (λ r. at_first r amount) ++ rest) (at-later n amount) ∙ append-nil (up_to (suc n) (λ r. at_first r amount)) ∙ first-once (suc n) amount (omega arith)

pub amounts-by_rank : (s : GeneralSetting) (m : Measured) → 0 < profile_count (sizes_of s) → amounts_of s m ≡ up_to (profile_count (sizes_of s)) (amounts_at s m)
amounts-by_rank s measured.Revenue some = sym (first-once (profile_count (sizes_of s)) revenue some)
amounts-by_rank s measured.Welfare some = sym (first-once (profile_count (sizes_of s)) welfare some)
amounts-by_rank s (measured.Utility agent) some = sym (first-once (profile_count (sizes_of s)) (utility agent) some)
amounts-by_rank s (measured.Chance outcome) some = sym (first-once (profile_count (sizes_of s)) (chance outcome) some)
amounts-by_rank s (measured.ChanceAt rank outcome) some = sym (first-once (profile_count (sizes_of s)) (chance_at (profile_at (sizes_of s) rank) outcome) some)
amounts-by_rank s (measured.Payment agent) some = refl
amounts-by_rank s (measured.PaymentAs agent kind) some = refl

pub forms-by_rank : (s : GeneralSetting) (c : Condition) → 0 < profile_count (sizes_of s) → condition_forms s c ≡ up_to (profile_count (sizes_of s)) (forms_at s c)
forms-by_rank s c some = ap (map (amount_form s c)) (amounts-by_rank s c.measured some) ∙ map-up_to (amount_form s c) (profile_count (sizes_of s)) (amounts_at s c.measured)

-- what is so of each amount of a condition is so of the one at a rank
pub at-rank : (s : GeneralSetting) (P : Amount → Type 0) (m : Measured) (r : ℕ) (amount : Amount) → r < profile_count (sizes_of s) → amount ∷ [] ≡ amounts_at s m r → All P (amounts_of s m) → P amount
at-rank s P m r amount below here all =
    All-head P amount [] (subst (All P) (sym here) (All-up_to_at P (profile_count (sizes_of s)) r (amounts_at s m) below (subst (All P) (amounts-by_rank s m (omega (arith, below))) all)))

-- ---- a number that is turned over

pub narrow-side : (s : GeneralSetting) (side : Side) (den : ℤ) (amount : Amount) → IsNarrow s den amount → IsNarrow s (at_most_by side den) amount
narrow-side s Least den amount h = narrow-neg s den amount h
narrow-side s Most den amount h = h

pub side-times : (side : Side) (den z : ℤ) → at_most_by side den *ℤ z ≡ at_most_by side (den *ℤ z)
side-times Least den z = neg_ℤ-*ℤ den z
side-times Most den z = refl

pub side-within : (side : Side) (limit : ℕ) (z : ℤ) → IsWithin limit z → IsWithin limit (at_most_by side z)
side-within Least limit z h = IsWithin-neg_ℤ limit z h
side-within Most limit z h = h

-- ---- all conditions

-- a condition that stands where there is none
abbrev pub nothing_asked : Condition
nothing_asked = record { measured = measured.Revenue; side = Least; num = pos 0; den = pos 0 }

pub forms-more : (s : GeneralSetting) (cs : List Condition) (i : ℕ) (d : Condition) → i < length cs → flat_map (condition_forms s) (take (i + 1) cs) ≡ flat_map (condition_forms s) (take i cs) ++ condition_forms s (get_or cs i d)
forms-more s cs i d l =
    ap (flat_map (condition_forms s)) (take_more cs i d l) ∙ flat_map-append (condition_forms s) (take i cs) (get_or cs i d ∷ [])
    ∙ ap (λ fs. flat_map (condition_forms s) (take i cs) ++ fs) (append-nil (condition_forms s (get_or cs i d)))

pub room-next : (s : GeneralSetting) (cs : List Condition) (i : ℕ) (d : Condition) (old mid : Program) → i < length cs → HasRoom (flat_map (condition_forms s) cs) old
    → Extends (flat_map (condition_forms s) (take i cs)) old mid → HasRoom (condition_forms s (get_or cs i d)) mid
room-next s cs i d old mid l room before =
    room-right (flat_map (condition_forms s) (take i cs)) (condition_forms s (get_or cs i d)) old mid
    (subst (λ fs. HasRoom fs old) (forms-more s cs i d l)
    (room-left (flat_map (condition_forms s) (take (i + 1) cs)) (flat_map (condition_forms s) (drop (i + 1) cs)) old
    (subst (λ fs. HasRoom fs old) (ap (flat_map (condition_forms s)) (sym (take-append-drop (i + 1) cs)) ∙ flat_map-append (condition_forms s) (take (i + 1) cs) (drop (i + 1) cs)) room)))
    before

pub extends-next : (s : GeneralSetting) (cs : List Condition) (i : ℕ) (d : Condition) (old mid new : Program) → i < length cs → Extends (flat_map (condition_forms s) (take i cs)) old mid
    → Extends (condition_forms s (get_or cs i d)) mid new → Extends (flat_map (condition_forms s) (take (i + 1) cs)) old new
extends-next s cs i d old mid new l before next =
    subst (λ fs. Extends fs old new) (sym (forms-more s cs i d l)) (extends-both (flat_map (condition_forms s) (take i cs)) (condition_forms s (get_or cs i d)) old mid new before next)

-- the setting's program has room for them
pub room-behind : (s : GeneralSetting) (conditions : List Condition) (p : Program) → AreConditionsFor s conditions → IsProgramOf s p → HasRoom (flat_map (condition_forms s) conditions) p
room-behind s conditions p are is = record {
  room = omega (
    arith,
    are.few_rows,
    rows-count (column_count s) (forms_of s (conditions_of s)) (cost_in s) p is,
    length-append (forms_of s (conditions_of s)) (flat_map (condition_forms s) conditions),
  );
}
