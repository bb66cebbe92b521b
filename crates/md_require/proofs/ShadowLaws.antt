-- What shadows that are read off the multipliers of a certificate say of bounds that move.
use Rattle.std.proofs.Common.{◌≡◌, ℕ, suc, ◌+◌, ◌<◌, ℤ, pos, ◌+ℤ◌, ◌-ℤ◌, ◌*ℤ◌, neg_ℤ, ◌≤ℤ◌, ◌<ℤ◌, List, [], ◌∷◌, ◌++◌, length, All, Option, Some, None, refl, sym, ap, ap₂, ◌∙◌, subst, arith}
use Rattle.std.specs.Prelude.{flat_map, map}
use mathlib.Core.Path.{fun_ext}
use Rattle.std.proofs.lemmas.List.{length-map}
use Rattle.std.proofs.lemmas.List.Elements.{All-append, All-cons, All-head, All-nil, All-tail}
use Rattle.md_math.specs.Lists.{number_at}
use Rattle.md_math.specs.Sums.{total}
use Rattle.md_math.proofs.Builders.{All-left, All-right}
use Rattle.md_math.proofs.Order.{*ℤ_cancel, *ℤ-le, le_from_*ℤ, le_from_lt, positive-*ℤ}
use Rattle.md_math.proofs.Ring.{linear, ring, one-*ℤ, *ℤ_assoc, *ℤ_left_comm, *ℤ-zero, zero-*ℤ}
use Rattle.md_num.specs.declared.frac.Frac.{Frac}
use Rattle.md_setting.specs.Setting.{GeneralSetting}
use Rattle.md_setting.specs.Meaning.{total_of}
use Rattle.md_setting.specs.Rows.{column_count}
use Rattle.md_mech.specs.declared.mechanism.Mechanism.{Mechanism}
use Rattle.md_mech.specs.Mechanism.{IsMechanism}
use Rattle.md_mech.specs.Optimal.{worth_of}
use Rattle.md_mech.specs.Rows.{conditions_of}
use Rattle.md_lp.specs.Divided.{IsDivisorFor}
use Rattle.md_lp.specs.Program.{Keeps, Program, Row}
use Rattle.md_lp.specs.Point.{Meets, cost_sum, right_sum}
use Rattle.md_lp.proofs.Dividing.{IsDivisorFor-positive, IsDivisorFor-same, Keeps-times}
use Rattle.md_cert.specs.Certified.{IsOptimalCertified}
use Rattle.md_cert.specs.declared.bound.Bound.{Bound}
use Rattle.md_forms.specs.Forms.{Form, Holds, number_of}
use Rattle.md_forms.specs.ProgramOf.{AreRowsOf}
use Rattle.md_forms.proofs.PointLaws as forms
use Rattle.md_rows.specs.Points.{point_of}
use Rattle.md_rows.specs.ProgramOf.{cost_of, forms_of}
use Rattle.md_rows.specs.Sides.{cost_in}
use Rattle.md_rows.proofs.Law.{admits-points, costs-points}
use Rattle.md_rows.proofs.PointLaws.{agrees-point_of}
use Rattle.md_require.specs.declared.condition.Condition.{Condition}
use Rattle.md_require.specs.declared.condition.Side.{Side}
use Rattle.md_require.specs.declared.condition.Side.TheVariants.{Least, Most}
use Rattle.md_require.specs.Amounts.{Amount, amounts_of, whole_of}
use Rattle.md_require.specs.Places.{AreIn, IsIn}
use Rattle.md_require.specs.Required.{IsRequired}
use Rattle.md_require.specs.RequireProgram.{amount_form, amount_in, at_most_by, condition_forms, require_forms, IsRequireProgram}
use Rattle.md_require.specs.Shadows.{AreFirm, AreParts, AreShadowsBy, AreToldShadows, from, IsDividedBy, IsMoved, IsPart, IsToldShadow, LimitGains, move_of, priced}
use Rattle.md_require.proofs.OwnProgram.{is-own, own_program}
use Rattle.md_require.proofs.PointLaws.{all-held}
use Rattle.md_require.proofs.MovedForms.{AreLike, AreSharesOf, AreStill, bound-moved, gained, shared}

-- ---- numbers from a place on

pub from-zero : (f : ℕ → ℤ) → from 0 f ≡ f
from-zero f = fun_ext (λ r. (let same : 0 + r ≡ r = omega arith in ap f same))

pub from-suc : (k : ℕ) (f : ℕ → ℤ) → from (suc k) f ≡ from k (λ r. f (suc r))
from-suc k f = fun_ext (λ r. (let same : suc k + r ≡ suc (k + r) = omega arith in ap f same))

-- ---- lists of forms, one behind the other

-- the form, in other terms: so many times both its sides
abbrev scaled_form : ℤ → Form → Form
scaled_form scale f = record { kind = f.kind; left = λ x. scale *ℤ f.left x; right = scale *ℤ f.right }

holds-scaled : (scale e : ℤ) (x : ℕ → ℤ) (f : Form) → pos 0 <ℤ scale → Holds e x f → Holds e x (scaled_form scale f)
holds-scaled scale e x f up h = subst (λ z. Keeps f.kind (scale *ℤ f.left x) z) (*ℤ_left_comm scale e f.right) ((Keeps-times f.kind scale (f.left x) (e *ℤ f.right) up).1 h)

all-scaled : (scale e : ℤ) (x : ℕ → ℤ) (fs : List Form) → pos 0 <ℤ scale → All (Holds e x) fs → All (Holds e x) (map (scaled_form scale) fs)
all-scaled scale e x [] up h = All-nil (Holds e x)
all-scaled scale e x (f ∷ fs) up h =
    All-cons (Holds e x) (scaled_form scale f) (map (scaled_form scale) fs) (holds-scaled scale e x f up (All-head (Holds e x) f fs h)) (all-scaled scale e x fs up (All-tail (Holds e x) f fs h))

like-scaled : (scale : ℤ) (x : ℕ → ℤ) (fs : List Form) → AreLike scale x fs (map (scaled_form scale) fs)
like-scaled scale x [] = tt
like-scaled scale x (f ∷ fs) = (refl, refl, like-scaled scale x fs)

like-append : (scale : ℤ) (x : ℕ → ℤ) (fs gs hs ks : List Form) → AreLike scale x fs gs → AreLike scale x hs ks → AreLike scale x (fs ++ hs) (gs ++ ks)
like-append scale x [] [] hs ks a b = b
like-append scale x [] (g ∷ gs) hs ks a b = absurd a
like-append scale x (f ∷ fs) [] hs ks a b = absurd a
like-append scale x (f ∷ fs) (g ∷ gs) hs ks a b = (a.0, a.1, like-append scale x fs gs hs ks a.2 b)

nothing-moved : (z f : ℤ) → (z -ℤ z) *ℤ f ≡ pos 0
nothing-moved z f = (let none : z -ℤ z ≡ pos 0 = omega (arith, linear) in ap (λ d. d *ℤ f) none ∙ zero-*ℤ f)

still-scaled : (scale : ℤ) (face : ℕ → ℤ) (fs : List Form) → AreStill scale face fs (map (scaled_form scale) fs)
still-scaled scale face [] = tt
still-scaled scale face (f ∷ fs) = (nothing-moved (scale *ℤ f.right) (face 0), still-scaled scale (λ r. face (suc r)) fs)

still-append : (scale : ℤ) (face : ℕ → ℤ) (fs gs hs ks : List Form) → AreStill scale face fs gs → AreStill scale (from (length fs) face) hs ks → AreStill scale face (fs ++ hs) (gs ++ ks)
still-append scale face [] [] hs ks a b = subst (λ g. AreStill scale g hs ks) (from-zero face) b
still-append scale face [] (g ∷ gs) hs ks a b = absurd a
still-append scale face (f ∷ fs) [] hs ks a b = absurd a
still-append scale face (f ∷ fs) (g ∷ gs) hs ks a b = (a.0, still-append scale (λ r. face (suc r)) fs gs hs ks a.1 (subst (λ g. AreStill scale g hs ks) (from-suc (length fs) face) b))

gained-scaled : (scale : ℤ) (shares main : ℕ → ℤ) (fs : List Form) → gained scale shares main fs (map (scaled_form scale) fs) ≡ pos 0
gained-scaled scale shares main [] = refl
gained-scaled scale shares main (f ∷ fs) =
    let right = scale *ℤ f.right in
    let here : (shares 0 *ℤ (right -ℤ right)) *ℤ main 0 ≡ pos 0 = (let none : right -ℤ right ≡ pos 0 = omega (arith, linear) in ap (λ d. (shares 0 *ℤ d) *ℤ main 0) none ∙ ap (λ z. z *ℤ main 0) (*ℤ-zero (shares 0)) ∙ zero-*ℤ (main 0)) in
    let later = gained-scaled scale (λ r. shares (suc r)) (λ r. main (suc r)) fs in
    omega (arith, linear, here, later)

gained-append : (scale : ℤ) (x shares main : ℕ → ℤ) (fs gs hs ks : List Form) → AreLike scale x fs gs
    → gained scale shares main (fs ++ hs) (gs ++ ks) ≡ gained scale shares main fs gs +ℤ gained scale (from (length fs) shares) (from (length fs) main) hs ks
gained-append scale x shares main [] [] hs ks a =
    let same : gained scale (from 0 shares) (from 0 main) hs ks ≡ gained scale shares main hs ks = ap₂ (λ y z. gained scale y z hs ks) (from-zero shares) (from-zero main) in
    omega (arith, linear, same)
gained-append scale x shares main [] (g ∷ gs) hs ks a = absurd a
gained-append scale x shares main (f ∷ fs) [] hs ks a = absurd a
gained-append scale x shares main (f ∷ fs) (g ∷ gs) hs ks a =
    let later = gained-append scale x (λ r. shares (suc r)) (λ r. main (suc r)) fs gs hs ks a.2 in
    let same : gained scale (from (suc (length fs)) shares) (from (suc (length fs)) main) hs ks ≡ gained scale (from (length fs) (λ r. shares (suc r))) (from (length fs) (λ r. main (suc r))) hs ks =
    ap₂ (λ y z. gained scale y z hs ks) (from-suc (length fs) shares) (from-suc (length fs) main) in
    omega (arith, linear, later, same)

-- ---- shares of forms

record IsFormShare (n : ℕ) (times share : ℤ) (f : Form) : Type 0 where
  by : ℤ
  divisor : IsDivisorFor (suc n) (number_of f) by
  is : share *ℤ by ≡ times

abbrev AreFormShares : ℕ → ℤ → (ℕ → ℤ) → List Form → Type 0
AreFormShares n times shares [] = Unit {0}
AreFormShares n times shares (f ∷ fs) = IsFormShare n times (shares 0) f × AreFormShares n times (λ r. shares (suc r)) fs

form-shares : (n : ℕ) (times : ℤ) (shares : ℕ → ℤ) (fs : List Form) (rows : List Row) (are : AreRowsOf n fs rows) → AreSharesOf n times shares fs rows are → AreFormShares n times shares fs
form-shares n times shares [] rows are h = tt
form-shares n times shares (f ∷ fs) [] are h = absurd h
form-shares n times shares (f ∷ fs) (row ∷ rows) are h = (record { by = are.0.by; divisor = are.0.divisor; is = h.1 }, form-shares n times (λ r. shares (suc r)) fs rows are.1 h.2)

shares-left : (n : ℕ) (times : ℤ) (shares : ℕ → ℤ) (fs gs : List Form) → AreFormShares n times shares (fs ++ gs) → AreFormShares n times shares fs
shares-left n times shares [] gs h = tt
shares-left n times shares (f ∷ fs) gs h = (h.0, shares-left n times (λ r. shares (suc r)) fs gs h.1)

shares-right : (n : ℕ) (times : ℤ) (shares : ℕ → ℤ) (fs gs : List Form) → AreFormShares n times shares (fs ++ gs) → AreFormShares n times (from (length fs) shares) gs
shares-right n times shares [] gs h = subst (λ g. AreFormShares n times g gs) (sym (from-zero shares)) h
shares-right n times shares (f ∷ fs) gs h = subst (λ g. AreFormShares n times g gs) (sym (from-suc (length fs) shares)) (shares-right n times (λ r. shares (suc r)) fs gs h.1)

-- ---- one condition

-- the rows of a condition that has moved, in terms in which their left sides are `times * d.den` times those of the condition's own
abbrev moved_rows : GeneralSetting → Condition → Condition → ℤ → List Amount → List Form
moved_rows s c d times these = map (scaled_form (times *ℤ c.den)) (map (amount_form s d) these)

terms-apart : (t a b m n w : ℤ) → (t *ℤ a) *ℤ (n *ℤ w) -ℤ (t *ℤ b) *ℤ (m *ℤ w) ≡ (t *ℤ (n *ℤ a -ℤ m *ℤ b)) *ℤ w
terms-apart t a b m n w = simp ring (omega (arith, linear))

turned-apart : (t a b m n w : ℤ) → (t *ℤ a) *ℤ neg_ℤ (n *ℤ w) -ℤ (t *ℤ b) *ℤ neg_ℤ (m *ℤ w) ≡ (t *ℤ (n *ℤ a -ℤ m *ℤ b)) *ℤ neg_ℤ w
turned-apart t a b m n w = simp ring (omega (arith, linear))

module _ (s : GeneralSetting) where
  module _ (c d : Condition) (times scale : ℤ) (h : IsMoved c d) (is : scale ≡ times *ℤ d.den) where
    side-left : (side : Side) (z : ℤ) → (times *ℤ c.den) *ℤ at_most_by side (d.den *ℤ z) ≡ scale *ℤ at_most_by side (c.den *ℤ z)
    side-left side z = by_side side ∙ ap (λ k. k *ℤ at_most_by side (c.den *ℤ z)) (sym is)
      where
        by_side : (side : Side) → (times *ℤ c.den) *ℤ at_most_by side (d.den *ℤ z) ≡ (times *ℤ d.den) *ℤ at_most_by side (c.den *ℤ z)
        by_side Least = simp ring
        by_side Most = simp ring

    -- how far the right sides are apart
    side-move : (side : Side) (w : ℤ) → (times *ℤ c.den) *ℤ at_most_by side (d.num *ℤ w) -ℤ scale *ℤ at_most_by side (c.num *ℤ w) ≡ (times *ℤ move_of c d) *ℤ at_most_by side w
    side-move side w = ap (λ k. (times *ℤ c.den) *ℤ at_most_by side (d.num *ℤ w) -ℤ k *ℤ at_most_by side (c.num *ℤ w)) is ∙ by_side side
      where
        by_side : (side : Side) → (times *ℤ c.den) *ℤ at_most_by side (d.num *ℤ w) -ℤ (times *ℤ d.den) *ℤ at_most_by side (c.num *ℤ w) ≡ (times *ℤ move_of c d) *ℤ at_most_by side w
        by_side Least = turned-apart times c.den d.den c.num d.num w
        by_side Most = terms-apart times c.den d.den c.num d.num w

    right-move : (a : Amount) → (times *ℤ c.den) *ℤ at_most_by d.side (d.num *ℤ whole_of s a) -ℤ scale *ℤ at_most_by c.side (c.num *ℤ whole_of s a) ≡ (times *ℤ move_of c d) *ℤ at_most_by c.side (whole_of s a)
    right-move a =
        ap (λ side. (times *ℤ c.den) *ℤ at_most_by side (d.num *ℤ whole_of s a) -ℤ scale *ℤ at_most_by c.side (c.num *ℤ whole_of s a)) h.side ∙ side-move c.side (whole_of s a)

    like-amounts : (x : ℕ → ℤ) (these : List Amount) → AreLike scale x (map (amount_form s c) these) (moved_rows s c d times these)
    like-amounts x [] = tt
    like-amounts x (a ∷ these) = (
      refl,
      ap (λ side. (times *ℤ c.den) *ℤ at_most_by side (d.den *ℤ amount_in s x a)) h.side ∙ side-left c.side (amount_in s x a),
      like-amounts x these,
    )

    firm-still : (face : ℕ → ℤ) (these : List Amount) → AreFirm face these → AreStill scale face (map (amount_form s c) these) (moved_rows s c d times these)
    firm-still face [] firm = tt
    firm-still face (a ∷ these) firm = (
      (let apart = (times *ℤ c.den) *ℤ at_most_by d.side (d.num *ℤ whole_of s a) -ℤ scale *ℤ at_most_by c.side (c.num *ℤ whole_of s a) in
          ap (λ f. apart *ℤ f) firm.0 ∙ *ℤ-zero apart),
      firm-still (λ r. face (suc r)) these firm.1,
    )

    same-still : (face : ℕ → ℤ) (these : List Amount) → move_of c d ≡ pos 0 → AreStill scale face (map (amount_form s c) these) (moved_rows s c d times these)
    same-still face [] none = tt
    same-still face (a ∷ these) none = (
      ap (λ z. z *ℤ face 0)
          (right-move a ∙ ap (λ z. (times *ℤ z) *ℤ at_most_by c.side (whole_of s a)) none ∙ ap (λ z. z *ℤ at_most_by c.side (whole_of s a)) (*ℤ-zero times) ∙ zero-*ℤ (at_most_by c.side (whole_of s a)))
          ∙ zero-*ℤ (face 0),
      same-still (λ r. face (suc r)) these none,
    )

  side-sum : (side : Side) (a b : ℤ) → at_most_by side (a +ℤ b) ≡ at_most_by side a +ℤ at_most_by side b
  side-sum Least a b = omega (arith, linear)
  side-sum Most a b = refl

  side-part : (side : Side) (share main whole : ℤ) → at_most_by side (share *ℤ (main *ℤ whole)) ≡ (share *ℤ at_most_by side whole) *ℤ main
  side-part Least share main whole = simp ring
  side-part Most share main whole = simp ring

  side-zero : (side : Side) → at_most_by side (pos 0) ≡ pos 0
  side-zero Least = refl
  side-zero Most = refl

  -- the main multipliers, each by its share
  abbrev shared_price : (ℕ → ℤ) → (ℕ → ℤ) → List Amount → ℤ
  shared_price shares main [] = pos 0
  shared_price shares main (a ∷ these) = shares 0 *ℤ (main 0 *ℤ whole_of s a) +ℤ shared_price (λ r. shares (suc r)) (λ r. main (suc r)) these

  -- where one number divides all the rows
  shared-same : (c : Condition) (by times : ℤ) (shares main : ℕ → ℤ) (these : List Amount) → All (IsDividedBy s c by) these → AreFormShares (column_count s) times shares (map (amount_form s c) these)
      → by *ℤ shared_price shares main these ≡ times *ℤ priced s main these
  shared-same c by times shares main [] one h = *ℤ-zero by ∙ sym (*ℤ-zero times)
  shared-same c by times shares main (a ∷ these) one h =
      let mine : IsDividedBy s c by a = All-head (IsDividedBy s c by) a these one in
      let same : h.0.by ≡ by = IsDivisorFor-same (suc (column_count s)) (number_of (amount_form s c a)) h.0.by by h.0.divisor mine in
      let share : shares 0 *ℤ by ≡ times = ap (λ z. shares 0 *ℤ z) (sym same) ∙ h.0.is in
      let later = shared-same c by times (λ r. shares (suc r)) (λ r. main (suc r)) these (All-tail (IsDividedBy s c by) a these one) h.1 in
      split by (shares 0) (main 0 *ℤ whole_of s a) (shared_price (λ r. shares (suc r)) (λ r. main (suc r)) these)
      ∙ ap₂ (λ y z. y *ℤ (main 0 *ℤ whole_of s a) +ℤ z) share later ∙ join times (main 0 *ℤ whole_of s a) (priced s (λ r. main (suc r)) these)
    where
      split : (a b c d : ℤ) → a *ℤ (b *ℤ c +ℤ d) ≡ (b *ℤ a) *ℤ c +ℤ a *ℤ d
      split a b c d = simp ring

      join : (a b c : ℤ) → a *ℤ b +ℤ a *ℤ c ≡ a *ℤ (b +ℤ c)
      join a b c = simp ring

  -- what a condition gains by its move
  gained-amounts : (c d : Condition) (times scale : ℤ) (shares main : ℕ → ℤ) (these : List Amount) → IsMoved c d → scale ≡ times *ℤ d.den
      → gained scale shares main (map (amount_form s c) these) (moved_rows s c d times these) ≡ (times *ℤ move_of c d) *ℤ at_most_by c.side (shared_price shares main these)
  gained-amounts c d times scale shares main [] h is = sym (ap (λ z. (times *ℤ move_of c d) *ℤ z) (side-zero c.side) ∙ *ℤ-zero (times *ℤ move_of c d))
  gained-amounts c d times scale shares main (a ∷ these) h is =
      let w = whole_of s a in
      let move = times *ℤ move_of c d in
      let rest = shared_price (λ r. shares (suc r)) (λ r. main (suc r)) these in
      let here : (shares 0 *ℤ ((times *ℤ c.den) *ℤ at_most_by d.side (d.num *ℤ w) -ℤ scale *ℤ at_most_by c.side (c.num *ℤ w))) *ℤ main 0 ≡ move *ℤ at_most_by c.side (shares 0 *ℤ (main 0 *ℤ w)) =
      ap (λ z. (shares 0 *ℤ z) *ℤ main 0) (right-move c d times scale h is a) ∙ turn (shares 0) move (at_most_by c.side w) (main 0) ∙ ap (λ z. move *ℤ z) (sym (side-part c.side (shares 0) (main 0) w)) in
      let later = gained-amounts c d times scale (λ r. shares (suc r)) (λ r. main (suc r)) these h is in
      ap₂ (λ y z. y +ℤ z) here later ∙ join move (at_most_by c.side (shares 0 *ℤ (main 0 *ℤ w))) (at_most_by c.side rest) ∙ ap (λ z. move *ℤ z) (sym (side-sum c.side (shares 0 *ℤ (main 0 *ℤ w)) rest))
    where
      turn : (a b c d : ℤ) → (a *ℤ (b *ℤ c)) *ℤ d ≡ b *ℤ ((a *ℤ c) *ℤ d)
      turn a b c d = simp ring

      join : (a b c : ℤ) → a *ℤ b +ℤ a *ℤ c ≡ a *ℤ (b +ℤ c)
      join a b c = simp ring

-- ---- what is told of one condition

told-part : (k factor num den over whole times scale other count move price part : ℤ) → pos 0 <ℤ den → pos 0 <ℤ scale → pos 0 <ℤ other
    → num *ℤ (over *ℤ (whole *ℤ times)) ≡ ((factor *ℤ scale) *ℤ price) *ℤ den → part *ℤ (den *ℤ (scale *ℤ other)) ≡ k *ℤ (num *ℤ move)
    → k *ℤ (factor *ℤ ((count *ℤ move) *ℤ price)) ≡ (over *ℤ (whole *ℤ ((count *ℤ other) *ℤ times))) *ℤ part
told-part k factor num den over whole times scale other count move price part d s o is told =
    let w = over *ℤ (whole *ℤ times) in
    let by = den *ℤ (scale *ℤ other) in
    *ℤ_cancel by (k *ℤ (factor *ℤ ((count *ℤ move) *ℤ price))) ((over *ℤ (whole *ℤ ((count *ℤ other) *ℤ times))) *ℤ part) (positive-*ℤ den (scale *ℤ other) d (positive-*ℤ scale other s o))
    (first den scale other k factor count move price ∙ ap (λ z. ((k *ℤ move) *ℤ (count *ℤ other)) *ℤ z) (sym is) ∙ second k move (count *ℤ other) num w
    ∙ ap (λ z. ((count *ℤ other) *ℤ w) *ℤ z) (sym told) ∙ third (count *ℤ other) over whole times part by)
  where
    first : (d s o k f c m p : ℤ) → (d *ℤ (s *ℤ o)) *ℤ (k *ℤ (f *ℤ ((c *ℤ m) *ℤ p))) ≡ ((k *ℤ m) *ℤ (c *ℤ o)) *ℤ (((f *ℤ s) *ℤ p) *ℤ d)
    first d s o k f c m p = simp ring

    second : (k m c n w : ℤ) → ((k *ℤ m) *ℤ c) *ℤ (n *ℤ w) ≡ (c *ℤ w) *ℤ (k *ℤ (n *ℤ m))
    second k m c n w = simp ring

    third : (c o w t p b : ℤ) → (c *ℤ (o *ℤ (w *ℤ t))) *ℤ (p *ℤ b) ≡ b *ℤ ((o *ℤ (w *ℤ (c *ℤ t))) *ℤ p)
    third c o w t p b = simp ring

pub side-product : (side : Side) (a b : ℤ) → at_most_by side (a *ℤ b) ≡ a *ℤ at_most_by side b
side-product Least a b = simp ring
side-product Most a b = refl

-- where rows are divided by another number
pub value-by : (side : Side) (num den over whole by times up p q : ℤ) → pos 0 <ℤ by → by *ℤ q ≡ times *ℤ p → num *ℤ (over *ℤ (whole *ℤ by)) ≡ (up *ℤ at_most_by side p) *ℤ den
    → num *ℤ (over *ℤ (whole *ℤ times)) ≡ (up *ℤ at_most_by side q) *ℤ den
value-by side num den over whole by times up p q above same is =
    let sides : times *ℤ at_most_by side p ≡ by *ℤ at_most_by side q = sym (side-product side times p) ∙ ap (at_most_by side) (sym same) ∙ side-product side by q in
    *ℤ_cancel by (num *ℤ (over *ℤ (whole *ℤ times))) ((up *ℤ at_most_by side q) *ℤ den) above
    (first by num over whole times ∙ ap (λ z. times *ℤ z) is ∙ second times up (at_most_by side p) den ∙ ap (λ z. (up *ℤ z) *ℤ den) sides ∙ sym (second by up (at_most_by side q) den))
  where
    first : (b n o w t : ℤ) → b *ℤ (n *ℤ (o *ℤ (w *ℤ t))) ≡ t *ℤ (n *ℤ (o *ℤ (w *ℤ b)))
    first b n o w t = simp ring

    second : (t u p d : ℤ) → t *ℤ ((u *ℤ p) *ℤ d) ≡ (u *ℤ (t *ℤ p)) *ℤ d
    second t u p d = simp ring

-- ---- conditions that have moved, all in the same terms

-- each has moved
abbrev AreMoved : List Condition → List Condition → Type 0
AreMoved [] [] = Unit {0}
AreMoved (c ∷ cs) (d ∷ ds) = IsMoved c d × AreMoved cs ds
AreMoved _ _ = ⊥

are-moved : (k : ℤ) (cs ds : List Condition) (shadows : List (Option Frac)) (parts : List ℤ) → AreParts k cs ds shadows parts → AreMoved cs ds
are-moved k [] [] [] [] h = tt
are-moved k [] [] [] (q ∷ qs) h = absurd h
are-moved k [] [] (v ∷ vs) parts h = absurd h
are-moved k [] (d ∷ ds) shadows parts h = absurd h
are-moved k (c ∷ cs) [] shadows parts h = absurd h
are-moved k (c ∷ cs) (d ∷ ds) [] parts h = absurd h
are-moved k (c ∷ cs) (d ∷ ds) (v ∷ vs) [] h = absurd h
are-moved k (c ∷ cs) (d ∷ ds) (v ∷ vs) (q ∷ qs) h = (h.0, are-moved k cs ds vs qs h.2)

-- the product of their denominators
abbrev dens_of : List Condition → ℤ
dens_of [] = pos 1
dens_of (d ∷ ds) = d.den *ℤ dens_of ds

dens-positive : (cs ds : List Condition) → AreMoved cs ds → pos 0 <ℤ dens_of ds
dens-positive [] [] h = omega arith
dens-positive [] (d ∷ ds) h = absurd h
dens-positive (c ∷ cs) [] h = absurd h
dens-positive (c ∷ cs) (d ∷ ds) h = positive-*ℤ d.den (dens_of ds) h.0.positive (dens-positive cs ds h.1)

-- a multiple of this product as one of the first denominator, and as one of the others'
dens-first : (scale before : ℤ) (d : Condition) (ds : List Condition) → scale ≡ before *ℤ dens_of (d ∷ ds) → scale ≡ (before *ℤ dens_of ds) *ℤ d.den
dens-first scale before d ds is = is ∙ turn before d.den (dens_of ds)
  where
    turn : (a b c : ℤ) → a *ℤ (b *ℤ c) ≡ (a *ℤ c) *ℤ b
    turn a b c = simp ring

dens-others : (scale before : ℤ) (d : Condition) (ds : List Condition) → scale ≡ before *ℤ dens_of (d ∷ ds) → scale ≡ (before *ℤ d.den) *ℤ dens_of ds
dens-others scale before d ds is = is ∙ sym (*ℤ_assoc before d.den (dens_of ds))

module _ (s : GeneralSetting) where
  abbrev all_moved : ℤ → List Condition → List Condition → List Form
  all_moved before (c ∷ cs) (d ∷ ds) = moved_rows s c d (before *ℤ dens_of ds) (amounts_of s c.measured) ++ all_moved (before *ℤ d.den) cs ds
  all_moved before _ _ = []

  all-like : (x : ℕ → ℤ) (scale before : ℤ) (cs ds : List Condition) → AreMoved cs ds → scale ≡ before *ℤ dens_of ds → AreLike scale x (flat_map (condition_forms s) cs) (all_moved before cs ds)
  all-like x scale before [] [] h is = tt
  all-like x scale before [] (d ∷ ds) h is = absurd h
  all-like x scale before (c ∷ cs) [] h is = absurd h
  all-like x scale before (c ∷ cs) (d ∷ ds) h is =
      let times = before *ℤ dens_of ds in
      like-append scale x (condition_forms s c) (moved_rows s c d times (amounts_of s c.measured)) (flat_map (condition_forms s) cs) (all_moved (before *ℤ d.den) cs ds)
      (like-amounts s c d times scale h.0 (dens-first scale before d ds is) x (amounts_of s c.measured))
      (all-like x scale (before *ℤ d.den) cs ds h.1 (dens-others scale before d ds is))

  -- they hold where the moved conditions do
  all-hold : (e : ℤ) (x : ℕ → ℤ) (before : ℤ) (cs ds : List Condition) → pos 0 <ℤ before → All (λ c. pos 0 <ℤ c.den) cs → AreMoved cs ds
      → All (Holds e x) (flat_map (condition_forms s) ds) → All (Holds e x) (all_moved before cs ds)
  all-hold e x before [] [] up positive h holds = All-nil (Holds e x)
  all-hold e x before [] (d ∷ ds) up positive h holds = absurd h
  all-hold e x before (c ∷ cs) [] up positive h holds = absurd h
  all-hold e x before (c ∷ cs) (d ∷ ds) up positive h holds =
      let times = before *ℤ dens_of ds in
      let own = condition_forms s d in
      let rest = flat_map (condition_forms s) ds in
      let above : pos 0 <ℤ (times *ℤ c.den) = positive-*ℤ times c.den (positive-*ℤ before (dens_of ds) up (dens-positive cs ds h.1)) (All-head (λ k. pos 0 <ℤ k.den) c cs positive) in
      let here : All (Holds e x) (map (amount_form s d) (amounts_of s c.measured)) =
      subst (λ m. All (Holds e x) (map (amount_form s d) (amounts_of s m))) h.0.measured (All-left (Holds e x) own rest holds) in
      All-append (Holds e x) (moved_rows s c d times (amounts_of s c.measured)) (all_moved (before *ℤ d.den) cs ds)
      (all-scaled (times *ℤ c.den) e x (map (amount_form s d) (amounts_of s c.measured)) above here)
      (all-hold e x (before *ℤ d.den) cs ds (positive-*ℤ before d.den up h.0.positive) (All-tail (λ k. pos 0 <ℤ k.den) c cs positive) h.1 (All-right (Holds e x) own rest holds))

  -- what they name is there
  moved-in : (cs ds : List Condition) → AreMoved cs ds → AreIn s cs → AreIn s ds
  moved-in [] [] h placed = All-nil (λ c. IsIn s c.measured)
  moved-in [] (d ∷ ds) h placed = absurd h
  moved-in (c ∷ cs) [] h placed = absurd h
  moved-in (c ∷ cs) (d ∷ ds) h placed =
      All-cons (λ e. IsIn s e.measured) d ds (subst (IsIn s) (sym h.0.measured) (All-head (λ e. IsIn s e.measured) c cs placed))
      (moved-in cs ds h.1 (All-tail (λ e. IsIn s e.measured) c cs placed))

module _ (s : GeneralSetting) (k factor over times scale : ℤ) (divides : IsDivisorFor (column_count s) (cost_of s) factor) where
  abbrev scale_of : ℤ
  scale_of = over *ℤ (total_of s *ℤ (scale *ℤ times))

  one-part : (c d : Condition) (count : ℤ) (main face shares : ℕ → ℤ) (shadow : Option Frac) (part : ℤ) → pos 0 <ℤ c.den → IsMoved c d → scale ≡ count *ℤ d.den → IsPart k c d shadow part
      → IsToldShadow s c over main face shadow → AreFormShares (column_count s) times shares (condition_forms s c)
      → k *ℤ (factor *ℤ ((count *ℤ move_of c d) *ℤ at_most_by c.side (shared_price s shares main (amounts_of s c.measured)))) ≡ scale_of *ℤ part
  one-part c d count main face shares (Some shadow) part up moved by is told h =
      let these = amounts_of s c.measured in
      let t = told.0 in
      let price = at_most_by c.side (shared_price s shares main these) in
      let same : t.factor ≡ factor = IsDivisorFor-same (column_count s) (cost_of s) t.factor factor t.cost divides in
      let value : shadow.num *ℤ (over *ℤ (total_of s *ℤ times)) ≡ ((factor *ℤ c.den) *ℤ price) *ℤ shadow.den =
      value-by c.side shadow.num shadow.den over (total_of s) t.by times (factor *ℤ c.den) (priced s main these) (shared_price s shares main these) t.rows.positive
      (shared-same s c t.by times shares main these t.rows.each h) (t.is ∙ ap (λ f. ((f *ℤ c.den) *ℤ at_most_by c.side (priced s main these)) *ℤ shadow.den) same) in
      told-part k factor shadow.num shadow.den over (total_of s) times c.den d.den count (move_of c d) price part t.least.positive up moved.positive value is
      ∙ ap (λ z. (over *ℤ (total_of s *ℤ (z *ℤ times))) *ℤ part) (sym by)
  one-part c d count main face shares None part up moved by is told h =
      let price = at_most_by c.side (shared_price s shares main (amounts_of s c.measured)) in
      ap (λ z. k *ℤ (factor *ℤ ((count *ℤ z) *ℤ price))) is.0 ∙ ap (λ z. k *ℤ (factor *ℤ (z *ℤ price))) (*ℤ-zero count)
      ∙ ap (λ z. k *ℤ (factor *ℤ z)) (zero-*ℤ price) ∙ ap (λ z. k *ℤ z) (*ℤ-zero factor) ∙ *ℤ-zero k ∙ sym (ap (λ z. scale_of *ℤ z) is.1 ∙ *ℤ-zero scale_of)

  -- ---- all conditions

  forms-length : (c : Condition) → length (condition_forms s c) ≡ length (amounts_of s c.measured)
  forms-length c = length-map (amounts_of s c.measured) (amount_form s c)

  still-one : (c d : Condition) (count : ℤ) (main face : ℕ → ℤ) (shadow : Option Frac) (part : ℤ) → IsMoved c d → scale ≡ count *ℤ d.den → IsPart k c d shadow part
      → IsToldShadow s c over main face shadow → AreStill scale face (condition_forms s c) (moved_rows s c d count (amounts_of s c.measured))
  still-one c d count main face (Some shadow) part h by is told = firm-still s c d count scale h by face (amounts_of s c.measured) told.0.firm
  still-one c d count main face None part h by is told = same-still s c d count scale h by face (amounts_of s c.measured) is.0

  all-still : (before : ℤ) (main face : ℕ → ℤ) (cs ds : List Condition) (shadows : List (Option Frac)) (parts : List ℤ) → scale ≡ before *ℤ dens_of ds → AreParts k cs ds shadows parts
      → AreToldShadows s cs over main face shadows → AreStill scale face (flat_map (condition_forms s) cs) (all_moved s before cs ds)
  all-still before main face [] [] [] [] by h told = tt
  all-still before main face [] [] [] (q ∷ qs) by h told = absurd h
  all-still before main face [] [] (v ∷ vs) parts by h told = absurd h
  all-still before main face [] (d ∷ ds) shadows parts by h told = absurd h
  all-still before main face (c ∷ cs) [] shadows parts by h told = absurd h
  all-still before main face (c ∷ cs) (d ∷ ds) [] parts by h told = absurd h
  all-still before main face (c ∷ cs) (d ∷ ds) (v ∷ vs) [] by h told = absurd h
  all-still before main face (c ∷ cs) (d ∷ ds) (v ∷ vs) (q ∷ qs) by h told =
      let width = length (amounts_of s c.measured) in
      let count = before *ℤ dens_of ds in
      let rest = flat_map (condition_forms s) cs in
      let others = all_moved s (before *ℤ d.den) cs ds in
      still-append scale face (condition_forms s c) (moved_rows s c d count (amounts_of s c.measured)) rest others
      (still-one c d count main face v q h.0 (dens-first scale before d ds by) h.1 told.0)
      (subst (λ w. AreStill scale (from w face) rest others) (sym (forms-length c))
      (all-still (before *ℤ d.den) (from width main) (from width face) cs ds vs qs (dens-others scale before d ds by) h.2 told.1))

  all-gained : (before : ℤ) (x main face shares : ℕ → ℤ) (cs ds : List Condition) (shadows : List (Option Frac)) (parts : List ℤ) → scale ≡ before *ℤ dens_of ds
      → All (λ c. pos 0 <ℤ c.den) cs → AreParts k cs ds shadows parts → AreToldShadows s cs over main face shadows
      → AreFormShares (column_count s) times shares (flat_map (condition_forms s) cs)
      → k *ℤ (factor *ℤ gained scale shares main (flat_map (condition_forms s) cs) (all_moved s before cs ds)) ≡ scale_of *ℤ total parts
  all-gained before x main face shares [] [] [] [] by up h told are = ap (λ z. k *ℤ z) (*ℤ-zero factor) ∙ *ℤ-zero k ∙ sym (*ℤ-zero scale_of)
  all-gained before x main face shares [] [] [] (q ∷ qs) by up h told are = absurd h
  all-gained before x main face shares [] [] (v ∷ vs) parts by up h told are = absurd h
  all-gained before x main face shares [] (d ∷ ds) shadows parts by up h told are = absurd h
  all-gained before x main face shares (c ∷ cs) [] shadows parts by up h told are = absurd h
  all-gained before x main face shares (c ∷ cs) (d ∷ ds) [] parts by up h told are = absurd h
  all-gained before x main face shares (c ∷ cs) (d ∷ ds) (v ∷ vs) [] by up h told are = absurd h
  all-gained before x main face shares (c ∷ cs) (d ∷ ds) (v ∷ vs) (q ∷ qs) by up h told are =
      let n = column_count s in
      let these = amounts_of s c.measured in
      let width = length these in
      let count = before *ℤ dens_of ds in
      let first = dens-first scale before d ds by in
      let own = condition_forms s c in
      let other = moved_rows s c d count these in
      let rest = flat_map (condition_forms s) cs in
      let others = all_moved s (before *ℤ d.den) cs ds in
      let price = (count *ℤ move_of c d) *ℤ at_most_by c.side (shared_price s shares main these) in
      let mine : gained scale shares main own other ≡ price = gained-amounts s c d count scale shares main these h.0 first in
      let here : k *ℤ (factor *ℤ price) ≡ scale_of *ℤ q =
      one-part c d count main face shares v q (All-head (λ e. pos 0 <ℤ e.den) c cs up) h.0 first h.1 told.0 (shares-left n times shares own rest are) in
      let behind : AreFormShares n times (from width shares) rest = subst (λ w. AreFormShares n times (from w shares) rest) (forms-length c) (shares-right n times shares own rest are) in
      let later : k *ℤ (factor *ℤ gained scale (from width shares) (from width main) rest others) ≡ scale_of *ℤ total qs =
      all-gained (before *ℤ d.den) x (from width main) (from width face) (from width shares) cs ds vs qs (dens-others scale before d ds by) (All-tail (λ e. pos 0 <ℤ e.den) c cs up) h.2 told.1 behind in
      let split : gained scale shares main (own ++ rest) (other ++ others) ≡ price +ℤ gained scale (from width shares) (from width main) rest others =
      gained-append scale x shares main own other rest others (like-amounts s c d count scale h.0 first x these)
      ∙ ap₂ (λ y z. y +ℤ z) mine (ap (λ w. gained scale (from w shares) (from w main) rest others) (forms-length c)) in
      ap (λ z. k *ℤ (factor *ℤ z)) split ∙ apart k factor price (gained scale (from width shares) (from width main) rest others) ∙ ap₂ (λ y z. y +ℤ z) here later ∙ join scale_of q (total qs)
    where
      apart : (a b c d : ℤ) → a *ℤ (b *ℤ (c +ℤ d)) ≡ a *ℤ (b *ℤ c) +ℤ a *ℤ (b *ℤ d)
      apart a b c d = simp ring

      join : (a b c : ℤ) → a *ℤ b +ℤ a *ℤ c ≡ a *ℤ (b +ℤ c)
      join a b c = simp ring

-- ---- the law

-- bounds and costs put together
assembled : (times over factor den e whole there here right gain k part worth mine : ℤ) → pos 0 <ℤ k → pos 0 <ℤ factor → pos 0 <ℤ den → pos 0 <ℤ over → pos 0 <ℤ times
    → (times *ℤ (over *ℤ there)) ≤ℤ (times *ℤ (e *ℤ right) +ℤ e *ℤ gain) → den *ℤ right ≡ over *ℤ here → factor *ℤ there ≡ worth → factor *ℤ here ≡ mine
    → k *ℤ (factor *ℤ gain) ≡ (over *ℤ (whole *ℤ times)) *ℤ part → (k *ℤ (worth *ℤ den)) ≤ℤ (k *ℤ (mine *ℤ e) +ℤ part *ℤ ((den *ℤ e) *ℤ whole))
assembled times over factor den e whole there here right gain k part worth mine up_k up_factor up_den up_over up_times bound right_is worth_is mine_is parts =
    let t = k *ℤ (factor *ℤ den) in
    let up_t : pos 0 <ℤ t = positive-*ℤ k (factor *ℤ den) up_k (positive-*ℤ factor den up_factor up_den) in
    let scaled : (t *ℤ (times *ℤ (over *ℤ there))) ≤ℤ (t *ℤ (times *ℤ (e *ℤ right) +ℤ e *ℤ gain)) =
    *ℤ-le t (times *ℤ (over *ℤ there)) (times *ℤ (e *ℤ right) +ℤ e *ℤ gain) (le_from_lt (pos 0) t up_t) bound in
    let left : t *ℤ (times *ℤ (over *ℤ there)) ≡ (times *ℤ over) *ℤ (k *ℤ (worth *ℤ den)) = first k factor den times over there ∙ ap (λ z. (times *ℤ over) *ℤ (k *ℤ (z *ℤ den))) worth_is in
    let other : t *ℤ (times *ℤ (e *ℤ right) +ℤ e *ℤ gain) ≡ (times *ℤ over) *ℤ (k *ℤ (mine *ℤ e) +ℤ part *ℤ ((den *ℤ e) *ℤ whole)) =
    second k factor den times e right gain
    ∙ ap₂ (λ y z. (k *ℤ (factor *ℤ (times *ℤ e))) *ℤ y +ℤ (den *ℤ e) *ℤ z) right_is parts
    ∙ third k factor times e over here den whole part
    ∙ ap (λ z. (times *ℤ over) *ℤ (k *ℤ (z *ℤ e) +ℤ part *ℤ ((den *ℤ e) *ℤ whole))) mine_is in
    le_from_*ℤ (times *ℤ over) (k *ℤ (worth *ℤ den)) (k *ℤ (mine *ℤ e) +ℤ part *ℤ ((den *ℤ e) *ℤ whole)) (positive-*ℤ times over up_times up_over)
    (subst (λ z. z ≤ℤ ((times *ℤ over) *ℤ (k *ℤ (mine *ℤ e) +ℤ part *ℤ ((den *ℤ e) *ℤ whole)))) left (subst (λ z. (t *ℤ (times *ℤ (over *ℤ there))) ≤ℤ z) other scaled))
  where
    first : (k f d t o c : ℤ) → (k *ℤ (f *ℤ d)) *ℤ (t *ℤ (o *ℤ c)) ≡ (t *ℤ o) *ℤ (k *ℤ ((f *ℤ c) *ℤ d))
    first k f d t o c = simp ring

    second : (k f d t e r g : ℤ) → (k *ℤ (f *ℤ d)) *ℤ (t *ℤ (e *ℤ r) +ℤ e *ℤ g) ≡ (k *ℤ (f *ℤ (t *ℤ e))) *ℤ (d *ℤ r) +ℤ (d *ℤ e) *ℤ (k *ℤ (f *ℤ g))
    second k f d t e r g = simp ring

    third : (k f t e o h d w p : ℤ) → (k *ℤ (f *ℤ (t *ℤ e))) *ℤ (o *ℤ h) +ℤ (d *ℤ e) *ℤ ((o *ℤ (w *ℤ t)) *ℤ p) ≡ (t *ℤ o) *ℤ (k *ℤ ((f *ℤ h) *ℤ e) +ℤ p *ℤ ((d *ℤ e) *ℤ w))
    third k f t e o h d w p = simp ring

module _ (s : GeneralSetting) (conditions : List Condition) (p : Program) (is : IsRequireProgram s conditions p) where
  abbrev own_forms : List Form
  own_forms = forms_of s (conditions_of s)

  -- an admissible mechanism that meets conditions holds at all their forms
  holds-required : (others : List Condition) → AreIn s others → (m : Mechanism) → IsRequired s others m → All (Holds m.den (number_at (point_of s m))) (require_forms s others)
  holds-required others placed m h =
      let x = number_at (point_of s m) in
      let own = own_program s conditions p is in
      let there : Meets own m.den x = (admits-points s own (is-own s conditions p is) m h.admissible.mechanism).1 h.admissible in
      All-append (Holds m.den x) own_forms (flat_map (condition_forms s) others)
      (forms.meets-hold (column_count s) own_forms (cost_in s) own m.den x (is-own s conditions p is) there)
      (all-held s x m (agrees-point_of s m h.admissible.mechanism) others placed h.meets)

  nonneg-required : (others : List Condition) (m : Mechanism) → IsRequired s others m → (j : ℕ) → j < p.columns → pos 0 ≤ℤ number_at (point_of s m) j
  nonneg-required others m h j b = ((admits-points s (own_program s conditions p is) (is-own s conditions p is) m h.admissible.mechanism).1 h.admissible).point.nonneg j b

  costs-required : (m : Mechanism) → IsMechanism s m → p.factor *ℤ cost_sum p (number_at (point_of s m)) ≡ worth_of s m
  costs-required m h = costs-points s (own_program s conditions p is) (is-own s conditions p is) m h

  pub shadows-law : AreIn s conditions → All (λ c. pos 0 <ℤ c.den) conditions → (m : Mechanism) (bound : Bound) (shadows : List (Option Frac)) → IsMechanism s m
      → IsOptimalCertified p m.den (number_at (point_of s m)) bound.den (number_at bound.main) (number_at bound.face) → AreShadowsBy s conditions bound shadows → LimitGains s conditions m shadows
  shadows-law placed up m bound shadows mechanism c told = λ moved k parts up_k are other h.
      let n = column_count s in
      let x = number_at (point_of s other) in
      let main = number_at bound.main in
      let face = number_at bound.face in
      let own = length own_forms in
      let have = are-moved k conditions moved shadows parts are in
      let scale = dens_of moved in
      let up_scale : pos 0 <ℤ scale = dens-positive conditions moved have in
      let one : pos 0 <ℤ pos 1 = omega arith in
      let by : scale ≡ pos 1 *ℤ scale = sym (one-*ℤ scale) in
      let added = flat_map (condition_forms s) conditions in
      let others = all_moved s (pos 1) conditions moved in
      let same = map (scaled_form scale) own_forms in
      let all = shared n (require_forms s conditions) p.rows is.rows in
      let factor_is = is.has_cost.factor in
      let like : AreLike scale x (own_forms ++ added) (same ++ others) =
      like-append scale x own_forms same added others (like-scaled scale x own_forms) (all-like s x scale (pos 1) conditions moved have by) in
      let still : AreStill scale face (own_forms ++ added) (same ++ others) =
      still-append scale face own_forms same added others (still-scaled scale face own_forms)
      (all-still s k p.factor bound.den all.times scale factor_is (pos 1) (from own main) (from own face) conditions moved shadows parts by are told) in
      let each : AreFormShares n all.times (from own all.shares) added =
      shares-right n all.times all.shares own_forms added (form-shares n all.times all.shares (require_forms s conditions) p.rows is.rows all.each) in
      let gain = gained scale (from own all.shares) (from own main) added others in
      let gain_is : gained scale all.shares main (own_forms ++ added) (same ++ others) ≡ gain =
      (let split = gained-append scale x all.shares main own_forms same added others (like-scaled scale x own_forms) in
      let none = gained-scaled scale all.shares main own_forms in
      omega (arith, linear, split, none)) in
      let parts_are : k *ℤ (p.factor *ℤ gain) ≡ (bound.den *ℤ (total_of s *ℤ (scale *ℤ all.times))) *ℤ total parts =
      all-gained s k p.factor bound.den all.times scale factor_is (pos 1) x (from own main) (from own face) (from own all.shares) conditions moved shadows parts by up are told each in
      let there : All (Holds other.den x) (own_forms ++ flat_map (condition_forms s) moved) = holds-required moved (moved-in s conditions moved have placed) other h in
      let holds : All (Holds other.den x) (same ++ others) =
      All-append (Holds other.den x) same others
      (all-scaled scale other.den x own_forms up_scale (All-left (Holds other.den x) own_forms (flat_map (condition_forms s) moved) there))
      (all-hold s other.den x (pos 1) conditions moved one up have (All-right (Holds other.den x) own_forms (flat_map (condition_forms s) moved) there)) in
      let bounded =
      bound-moved n (require_forms s conditions) (same ++ others) (cost_in s) p is m.den bound.den other.den scale all.times (number_at (point_of s m)) main face x all.shares c up_scale all.positive all.each
      (nonneg-required moved other h) like still holds in
      let times = scale *ℤ all.times in
      assembled times bound.den p.factor m.den other.den (total_of s) (cost_sum p x) (cost_sum p (number_at (point_of s m))) (right_sum p main) gain k (total parts) (worth_of s other) (worth_of s m)
      up_k (IsDivisorFor-positive n (cost_of s) p.factor factor_is) c.meets.point.positive c.positive (positive-*ℤ scale all.times up_scale all.positive)
      (subst (λ z. (times *ℤ (bound.den *ℤ cost_sum p x)) ≤ℤ (times *ℤ (other.den *ℤ right_sum p main) +ℤ other.den *ℤ z)) gain_is bounded)
      c.main_right (costs-required other h.admissible.mechanism) (costs-required m mechanism) parts_are
