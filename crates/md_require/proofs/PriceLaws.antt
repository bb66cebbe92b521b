-- What the multipliers of the rows of a condition come to, row by row, and its shadow.
use Rattle.std.proofs.Common.{◌≡◌, ◌↔◌, IsTrue, ℕ, suc, ◌+◌, ◌*◌, ◌^◌, ◌<◌, ◌≤◌, ℤ, pos, ◌+ℤ◌, ◌*ℤ◌, ◌<ℤ◌, List, [], ◌∷◌, ◌++◌, length, length-append, take, get_or, All, Option, Some, None, MatchOption, refl, sym, ap, ◌∙◌, inl, inr, subst, arith}
use Rattle.std.specs.Prelude.{flat_map}
use mathlib.Core.Path.{fun_ext}
use Rattle.std.proofs.lemmas.List.{length-map, take_more}
use Rattle.std.proofs.lemmas.List.Elements.{All-head}
use Rattle.std.proofs.lemmas.List.Folds.{length-flat_map-take}
use Rattle.md_math.specs.Lists.{number_at, up_to}
use Rattle.md_math.specs.Sizes.{IsWithin}
use Rattle.md_math.proofs.Builders.{up_to-split}
use Rattle.md_math.proofs.Ring.{linear, ring, *ℤ-zero}
use Rattle.md_math.proofs.SizeLaws.{IsWithin-+ℤ, IsWithin-*ℤ, IsWithin-wider}
use Rattle.md_num.specs.declared.frac.Frac.{Frac}
use Rattle.md_setting.specs.Setting.{GeneralSetting}
use Rattle.md_setting.specs.Meaning.{total_of}
use Rattle.md_setting.specs.Rows.{column_count}
use Rattle.md_mech.specs.Accepted.{number_limit}
use Rattle.md_lp.specs.Divided.{IsDivisorFor}
use Rattle.md_lp.proofs.Dividing.{IsDivisorFor-same}
use Rattle.md_cert.specs.declared.bound.Bound.{Bound}
use Rattle.md_forms.specs.Forms.{number_of}
use Rattle.md_rows.specs.ProgramOf.{cost_of}
use Rattle.md_require.specs.declared.condition.Condition.{Condition}
use Rattle.md_require.specs.declared.condition.Side.{Side}
use Rattle.md_require.specs.declared.condition.Side.TheVariants.{Least, Most}
use Rattle.md_require.specs.declared.price.Price.{Price}
use Rattle.md_require.specs.Amounts.{Amount, amounts_of, whole_of}
use Rattle.md_require.specs.Prices.{IsLeastOf, IsLongOf, IsPricedTo, IsShortOf}
use Rattle.md_require.specs.RequireProgram.{amount_form, at_most_by, condition_forms}
use Rattle.md_require.specs.Shadows.{AreDividedBy, AreFirm, AreToldShadows, from, IsDividedBy, IsShadow, IsToldShadow, priced}
use Rattle.md_require.proofs.ConditionRows.{forms-more}
use Rattle.md_require.proofs.ShadowLaws.{from-suc, from-zero, value-by}
use Rattle.md_require.proofs.ShortLaws.{short-same}

-- ---- amounts, one list behind the other

priced-append : (s : GeneralSetting) (main : ℕ → ℤ) (xs ys : List Amount) → priced s main (xs ++ ys) ≡ priced s main xs +ℤ priced s (from (length xs) main) ys
priced-append s main [] ys =
    let same : priced s (from 0 main) ys ≡ priced s main ys = ap (λ z. priced s z ys) (from-zero main) in
    omega (arith, linear, same)
priced-append s main (x ∷ xs) ys =
    let later = priced-append s (λ r. main (suc r)) xs ys in
    let same : priced s (from (suc (length xs)) main) ys ≡ priced s (from (length xs) (λ r. main (suc r))) ys = ap (λ z. priced s z ys) (from-suc (length xs) main) in
    omega (arith, linear, later, same)

firm-append : (face : ℕ → ℤ) (xs ys : List Amount) → AreFirm face (xs ++ ys) ↔ (AreFirm face xs × AreFirm (from (length xs) face) ys)
firm-append face [] ys = (λ h. (tt, subst (λ g. AreFirm g ys) (sym (from-zero face)) h), λ h. subst (λ g. AreFirm g ys) (from-zero face) h.1)
firm-append face (x ∷ xs) ys =
    let later = firm-append (λ r. face (suc r)) xs ys in
    let next = from-suc (length xs) face in (
      λ h. (let both = later.0 h.1 in ((h.0, both.0), subst (λ g. AreFirm g ys) (sym next) both.1)),
      λ h. (h.0.0, later.1 (h.0.1, subst (λ g. AreFirm g ys) next h.1)),
    )

-- ---- prices

-- the next row
pub priced-more : (s : GeneralSetting) (bound : Bound) (first : ℕ) (xs : List Amount) (amount : Amount) (price next : Price) → next.row ≡ price.row + 1
    → next.sum ≡ price.sum +ℤ number_at bound.main price.row *ℤ whole_of s amount → IsTrue next.firm ↔ (IsTrue price.firm × (number_at bound.face price.row ≡ pos 0))
    → IsWithin (next.row * 2 ^ 82) next.sum → IsPricedTo s bound first xs price → IsPricedTo s bound first (xs ++ amount ∷ []) next
priced-more s bound first xs amount price next row sum firm size h =
    let place : price.row ≡ first + (length xs + 0) = omega (arith, h.row_is) in
    let main = from first (number_at bound.main) in
    let face = from first (number_at bound.face) in
    let firm_is = firm-append face xs (amount ∷ []) in
    let at_main : number_at bound.main price.row ≡ main (length xs + 0) = ap (number_at bound.main) place in
    let at_face : number_at bound.face price.row ≡ face (length xs + 0) = ap (number_at bound.face) place in
    let split = priced-append s main xs (amount ∷ []) in
    let one : number_at bound.main price.row *ℤ whole_of s amount ≡ main (length xs + 0) *ℤ whole_of s amount = ap (λ z. z *ℤ whole_of s amount) at_main in
    record {
      row_is = omega (arith, row, h.row_is, length-append xs (amount ∷ []));
      sum_is = omega (arith, linear, sum, h.sum_is, one, split);
      firm_is = (
        λ e. (let both = firm.0 e in firm_is.1 (h.firm_is.0 both.0, (sym at_face ∙ both.1, tt))),
        λ e. (let both = firm_is.0 e in firm.1 (h.firm_is.1 both.0, at_face ∙ both.1.0)),
      );
      size = size;
    }

-- how large the sum gets
pub grown-size : (row : ℕ) (sum multiplier whole : ℤ) → IsWithin (row * 2 ^ 82) sum → IsWithin number_limit multiplier → IsWithin 1000000 whole
    → IsWithin ((row + 1) * 2 ^ 82) (sum +ℤ multiplier *ℤ whole)
grown-size row sum multiplier whole a b c =
    IsWithin-wider (row * 2 ^ 82 + number_limit * 1000000) ((row + 1) * 2 ^ 82) (sum +ℤ multiplier *ℤ whole) (omega arith)
    (IsWithin-+ℤ (row * 2 ^ 82) (number_limit * 1000000) sum (multiplier *ℤ whole) a (IsWithin-*ℤ number_limit 1000000 multiplier whole b c))

-- ---- the shadow

side-scale : (side : Side) (a b p : ℤ) → (a *ℤ b) *ℤ at_most_by side p ≡ (a *ℤ at_most_by side b) *ℤ p
side-scale Least a b p = simp ring
side-scale Most a b p = refl

-- rows have one divisor
same-rows : (s : GeneralSetting) (c : Condition) (by other : ℤ) (main : ℕ → ℤ) (these : List Amount) → All (IsDividedBy s c by) these → All (IsDividedBy s c other) these
    → by *ℤ priced s main these ≡ other *ℤ priced s main these
same-rows s c by other main [] h k = *ℤ-zero by ∙ sym (*ℤ-zero other)
same-rows s c by other main (a ∷ these) h k =
    ap (λ z. z *ℤ priced s main (a ∷ these))
    (IsDivisorFor-same (suc (column_count s)) (number_of (amount_form s c a)) by other (All-head (IsDividedBy s c by) a these h) (All-head (IsDividedBy s c other) a these k))

module _ (s : GeneralSetting) (c : Condition) (over factor by sum : ℤ) (main face : ℕ → ℤ) (divides : IsDivisorFor (column_count s) (cost_of s) factor) (rows : AreDividedBy s c by)
    (sum_is : sum ≡ priced s main (amounts_of s c.measured)) where
  abbrev up_of : ℤ
  up_of = (factor *ℤ at_most_by c.side c.den) *ℤ sum

  abbrev down_of : ℤ
  down_of = over *ℤ (total_of s *ℤ by)

  abbrev these : List Amount
  these = amounts_of s c.measured

  up-is : up_of ≡ (factor *ℤ c.den) *ℤ at_most_by c.side (priced s main these)
  up-is = sym (side-scale c.side factor c.den sum) ∙ ap (λ z. (factor *ℤ c.den) *ℤ at_most_by c.side z) sum_is

  shadow-least : (shadow : Frac) → AreFirm face these → IsLeastOf up_of down_of shadow → IsShadow s c over main face shadow
  shadow-least shadow firm h = record {
    least = h.least;
    firm = firm;
    factor = factor;
    cost = divides;
    by = by;
    rows = rows;
    is = h.value ∙ ap (λ z. z *ℤ shadow.den) up-is;
  }

  pub least-shadow : (shadow : Frac) → IsShadow s c over main face shadow → IsLeastOf up_of down_of shadow
  least-shadow shadow h =
      let same : h.factor ≡ factor = IsDivisorFor-same (column_count s) (cost_of s) h.factor factor h.cost divides in
      record {
        least = h.least;
        value =
            value-by c.side shadow.num shadow.den over (total_of s) h.by by (factor *ℤ c.den) (priced s main these) (priced s main these) h.rows.positive
            (same-rows s c h.by by main these h.rows.each rows.each) (h.is ∙ ap (λ f. ((f *ℤ c.den) *ℤ at_most_by c.side (priced s main these)) *ℤ shadow.den) same)
            ∙ ap (λ z. z *ℤ shadow.den) (sym up-is);
      }

  pub told-firm : (o : Option Frac) → pos 0 <ℤ down_of → AreFirm face these → MatchOption o (IsLongOf up_of down_of) (IsShortOf up_of down_of) → IsToldShadow s c over main face o
  told-firm (Some shadow) above firm h = (shadow-least shadow firm h.is, h.short)
  told-firm None above firm h = record {
    cause = inr (record { shadow = h.fraction; is = shadow-least h.fraction firm h.is; long = h.long });
    none = λ shadow short is. h.long (short-same up_of down_of shadow h.fraction above (least-shadow shadow is) h.is short);
  }

-- a row with a face multiplier
pub told-face : (s : GeneralSetting) (c : Condition) (over : ℤ) (main face : ℕ → ℤ) → ¬ AreFirm face (amounts_of s c.measured) → IsToldShadow s c over main face None
told-face s c over main face loose = record { cause = inl loose; none = λ shadow short is. loose is.firm }

-- ---- the shadows of all conditions

from-from : (a b first : ℕ) (f : ℕ → ℤ) → first ≡ a + b → from first f ≡ from b (from a f)
from-from a b first f e = fun_ext (λ r. (let same : first + r ≡ a + (b + r) = omega (arith, e) in ap f same))

module _ (s : GeneralSetting) (over : ℤ) where
  pub told-push : (main face : ℕ → ℤ) (cs : List Condition) (c : Condition) (vs : List (Option Frac)) (v : Option Frac) → AreToldShadows s cs over main face vs
      → IsToldShadow s c over (from (length (flat_map (condition_forms s) cs)) main) (from (length (flat_map (condition_forms s) cs)) face) v → AreToldShadows s (cs ++ c ∷ []) over main face (vs ++ v ∷ [])
  told-push main face [] c [] v told here = (subst (λ g. IsToldShadow s c over main g v) (from-zero face) (subst (λ g. IsToldShadow s c over g (from 0 face) v) (from-zero main) here), tt)
  told-push main face [] c (w ∷ vs) v told here = absurd told
  told-push main face (e ∷ cs) c [] v told here = absurd told
  told-push main face (e ∷ cs) c (w ∷ vs) v told here =
      let width = length (amounts_of s e.measured) in
      let rest = length (flat_map (condition_forms s) cs) in
      let all = length (condition_forms s e ++ flat_map (condition_forms s) cs) in
      let split : all ≡ width + rest = omega (arith, length-append (condition_forms s e) (flat_map (condition_forms s) cs), length-map (amounts_of s e.measured) (amount_form s e)) in (
        told.0,
        told-push (from width main) (from width face) cs c vs v told.1
            (subst (λ g. IsToldShadow s c over (from rest (from width main)) g v) (from-from width rest all face split)
            (subst (λ g. IsToldShadow s c over g (from all face) v) (from-from width rest all main split) here)),
      )

  -- where the rows of a condition stand from a number on
  pub told-at : (c : Condition) (own behind first : ℕ) (main face : ℕ → ℤ) (v : Option Frac) → first ≡ own + behind → IsToldShadow s c over (from first main) (from first face) v
      → IsToldShadow s c over (from behind (from own main)) (from behind (from own face)) v
  told-at c own behind first main face v e here =
      subst (λ g. IsToldShadow s c over (from behind (from own main)) g v) (from-from own behind first face e)
      (subst (λ g. IsToldShadow s c over g (from first face) v) (from-from own behind first main e) here)

-- ---- rows and their numbers

-- the rows of the first ranks and of one more are no more than those of all
pub ranks-inside : (n r : ℕ) (f : ℕ → List Amount) → r < n → length (up_to r f) + length (f r) ≤ length (up_to n f)
ranks-inside n r f below =
    let split = up_to-split n r f below in
    omega (arith, ap length split.1, length-append (up_to r f ++ f r) split.0, length-append (up_to r f) (f r))

-- those of the first conditions and of one more, with the setting's own
pub rows-inside : (s : GeneralSetting) (cs : List Condition) (i : ℕ) (d : Condition) (own first : ℕ) → i < length cs → first ≡ own + length (flat_map (condition_forms s) (take i cs))
    → first + length (amounts_of s (get_or cs i d).measured) ≤ own + length (flat_map (condition_forms s) cs)
rows-inside s cs i d own first below e =
    let c = get_or cs i d in
    omega (arith, e, length-flat_map-take (condition_forms s) cs i d below, length-map (amounts_of s c.measured) (amount_form s c))

pub rows-next : (s : GeneralSetting) (cs : List Condition) (i : ℕ) (d : Condition) (own first next : ℕ) → i < length cs → first ≡ own + length (flat_map (condition_forms s) (take i cs))
    → next ≡ first + length (amounts_of s (get_or cs i d).measured) → next ≡ own + length (flat_map (condition_forms s) (take (i + 1) cs))
rows-next s cs i d own first next below e step =
    let c = get_or cs i d in
    let more : length (flat_map (condition_forms s) (take (i + 1) cs)) ≡ length (flat_map (condition_forms s) (take i cs)) + length (condition_forms s c) =
    ap length (forms-more s cs i d below) ∙ length-append (flat_map (condition_forms s) (take i cs)) (condition_forms s c) in
    omega (arith, e, step, more, length-map (amounts_of s c.measured) (amount_form s c))

-- one more condition
pub told-next : (s : GeneralSetting) (cs : List Condition) (i : ℕ) (d : Condition) (over : ℤ) (own first : ℕ) (main face : ℕ → ℤ) (vs : List (Option Frac)) (v : Option Frac) → i < length cs
    → first ≡ own + length (flat_map (condition_forms s) (take i cs)) → AreToldShadows s (take i cs) over (from own main) (from own face) vs
    → IsToldShadow s (get_or cs i d) over (from first main) (from first face) v → AreToldShadows s (take (i + 1) cs) over (from own main) (from own face) (vs ++ v ∷ [])
told-next s cs i d over own first main face vs v below e told here =
    subst (λ list. AreToldShadows s list over (from own main) (from own face) (vs ++ v ∷ [])) (sym (take_more cs i d below))
    (told-push s over (from own main) (from own face) (take i cs) (get_or cs i d) vs v told
    (told-at s over (get_or cs i d) own (length (flat_map (condition_forms s) (take i cs))) first main face v e here))
