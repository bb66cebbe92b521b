-- Programs of forms whose right sides have moved: what a certificate of the one shows of points at which the other forms hold.
use Rattle.std.proofs.Common.{◌≡◌, ℕ, zero, suc, ◌+◌, ◌<◌, ℤ, pos, ◌+ℤ◌, ◌-ℤ◌, ◌*ℤ◌, ◌≤ℤ◌, ◌<ℤ◌, List, [], ◌∷◌, length, get_or, All, refl, sym, ap, ◌∙◌, subst, arith}
use Rattle.std.proofs.lemmas.List.Elements.{All-head, All-tail}
use Rattle.md_math.specs.Sums.{dot, sum_to}
use Rattle.md_math.proofs.Order.{positive-*ℤ, le_from_lt, *ℤ-le}
use Rattle.md_math.proofs.Ring.{linear, ring, *ℤ-zero, zero-*ℤ, *ℤ_assoc}
use Rattle.md_math.proofs.SumLaws.{sum_to-front, sum_to-same, *ℤ-dot}
use Rattle.md_lp.specs.declared.row_kind.RowKind.{RowKind}
use Rattle.md_lp.specs.declared.row_kind.RowKind.TheVariants.{AtMost, Exact}
use Rattle.md_lp.specs.Program.{Keeps, Program, Row, left_of, row_at, row_count}
use Rattle.md_lp.specs.Point.{cost_sum, right_sum}
use Rattle.md_lp.proofs.Dividing.{IsDivisorFor-positive}
use Rattle.md_cert.specs.Certified.{IsOptimalCertified}
use Rattle.md_forms.specs.Forms.{Form, Holds, number_of}
use Rattle.md_forms.specs.ProgramOf.{AreRowsOf, IsProgramOf}
use Rattle.md_forms.proofs.BuiltLaws.{rows-length}
use Rattle.md_require.proofs.MovedDuality.{bounded-moved}

-- ---- shares in a common multiple of what rows are divided by

-- each row's divisor times its share is the multiple
abbrev pub AreSharesOf : (n : ℕ) → ℤ → (ℕ → ℤ) → (fs : List Form) (rows : List Row) → AreRowsOf n fs rows → Type 0
AreSharesOf n times shares [] [] are = Unit {0}
AreSharesOf n times shares [] (row ∷ rows) are = ⊥
AreSharesOf n times shares (f ∷ fs) [] are = ⊥
AreSharesOf n times shares (f ∷ fs) (row ∷ rows) are = (pos 0 <ℤ shares 0) × (shares 0 *ℤ are.0.by ≡ times) × AreSharesOf n times (λ r. shares (suc r)) fs rows are.1

pub record Shared (n : ℕ) (fs : List Form) (rows : List Row) (are : AreRowsOf n fs rows) : Type 0 where
  pub times : ℤ
  pub shares : ℕ → ℤ
  pub positive : pos 0 <ℤ times
  pub each : AreSharesOf n times shares fs rows are

-- a first share, and then others times a number
abbrev pub then_shares : ℤ → ℤ → (ℕ → ℤ) → ℕ → ℤ
then_shares first by shares zero = first
then_shares first by shares (suc r) = by *ℤ shares r

shares-times : (n : ℕ) (by times : ℤ) (shares : ℕ → ℤ) (fs : List Form) (rows : List Row) (are : AreRowsOf n fs rows) → pos 0 <ℤ by → AreSharesOf n times shares fs rows are
    → AreSharesOf n (by *ℤ times) (λ r. by *ℤ shares r) fs rows are
shares-times n by times shares [] [] are up h = tt
shares-times n by times shares [] (row ∷ rows) are up h = absurd h
shares-times n by times shares (f ∷ fs) [] are up h = absurd h
shares-times n by times shares (f ∷ fs) (row ∷ rows) are up h =
    (positive-*ℤ by (shares 0) up h.0, *ℤ_assoc by (shares 0) are.0.by ∙ ap (λ z. by *ℤ z) h.1, shares-times n by times (λ r. shares (suc r)) fs rows are.1 up h.2)

pub shared : (n : ℕ) (fs : List Form) (rows : List Row) (are : AreRowsOf n fs rows) → Shared n fs rows are
shared n [] [] are = record { times = pos 1; shares = λ r. pos 0; positive = omega (arith, linear); each = tt }
shared n [] (row ∷ rows) are = absurd are
shared n (f ∷ fs) [] are = absurd are
shared n (f ∷ fs) (row ∷ rows) are =
    let rest = shared n fs rows are.1 in
    let up : pos 0 <ℤ are.0.by = IsDivisorFor-positive (suc n) (number_of f) are.0.by are.0.divisor in
    record {
      times = are.0.by *ℤ rest.times;
      shares = then_shares rest.times are.0.by rest.shares;
      positive = positive-*ℤ are.0.by rest.times up rest.positive;
      each = (rest.positive, turn rest.times are.0.by, shares-times n are.0.by rest.times rest.shares fs rows are.1 up rest.each);
    }
  where
    turn : (a b : ℤ) → a *ℤ b ≡ b *ℤ a
    turn a b = simp ring

-- ---- right sides that move

-- the same conditions with other right sides, in other terms: so many times the left sides
abbrev pub AreLike : ℤ → (ℕ → ℤ) → List Form → List Form → Type 0
AreLike scale x [] [] = Unit {0}
AreLike scale x [] (g ∷ gs) = ⊥
AreLike scale x (f ∷ fs) [] = ⊥
AreLike scale x (f ∷ fs) (g ∷ gs) = (g.kind ≡ f.kind) × (g.left x ≡ scale *ℤ f.left x) × AreLike scale x fs gs

-- where a right side moves, its row has no face multiplier
abbrev pub AreStill : ℤ → (ℕ → ℤ) → List Form → List Form → Type 0
AreStill scale face [] [] = Unit {0}
AreStill scale face [] (g ∷ gs) = ⊥
AreStill scale face (f ∷ fs) [] = ⊥
AreStill scale face (f ∷ fs) (g ∷ gs) = ((g.right -ℤ scale *ℤ f.right) *ℤ face 0 ≡ pos 0) × AreStill scale (λ r. face (suc r)) fs gs

-- what each right side moved by, times its share
abbrev pub moved_at : ℤ → (ℕ → ℤ) → List Form → List Form → ℕ → ℤ
moved_at scale shares [] gs r = pos 0
moved_at scale shares (f ∷ fs) [] r = pos 0
moved_at scale shares (f ∷ fs) (g ∷ gs) zero = shares 0 *ℤ (g.right -ℤ scale *ℤ f.right)
moved_at scale shares (f ∷ fs) (g ∷ gs) (suc r) = moved_at scale (λ q. shares (suc q)) fs gs r

-- all of it, by the main multipliers
abbrev pub gained : ℤ → (ℕ → ℤ) → (ℕ → ℤ) → List Form → List Form → ℤ
gained scale shares main [] gs = pos 0
gained scale shares main (f ∷ fs) [] = pos 0
gained scale shares main (f ∷ fs) (g ∷ gs) = (shares 0 *ℤ (g.right -ℤ scale *ℤ f.right)) *ℤ main 0 +ℤ gained scale (λ r. shares (suc r)) (λ r. main (suc r)) fs gs

gained-dot : (scale : ℤ) (shares main : ℕ → ℤ) (x : ℕ → ℤ) (fs gs : List Form) → AreLike scale x fs gs → dot (length fs) (moved_at scale shares fs gs) main ≡ gained scale shares main fs gs
gained-dot scale shares main x [] [] like = refl
gained-dot scale shares main x [] (g ∷ gs) like = absurd like
gained-dot scale shares main x (f ∷ fs) [] like = absurd like
gained-dot scale shares main x (f ∷ fs) (g ∷ gs) like =
    let each : ℕ → ℤ = λ r. moved_at scale shares (f ∷ fs) (g ∷ gs) r *ℤ main r in
    let later : sum_to (length fs) (λ r. each (r + 1)) ≡ sum_to (length fs) (λ r. each (suc r)) = sum_to-same (length fs) (λ r. each (r + 1)) (λ r. each (suc r)) (λ r l. (let next : r + 1 ≡ suc r = omega arith in ap each next)) in
    sum_to-front (length fs) each ∙ ap (λ z. each 0 +ℤ z) (later ∙ gained-dot scale (λ r. shares (suc r)) (λ r. main (suc r)) x fs gs like.2)

-- one row
module _ (scale share by times e right fixed moved : ℤ) (is : share *ℤ by ≡ times) (right_is : fixed ≡ by *ℤ right) where
  moved-right : (scale *ℤ times) *ℤ (e *ℤ right) +ℤ e *ℤ (share *ℤ (moved -ℤ scale *ℤ fixed)) ≡ share *ℤ (e *ℤ moved)
  moved-right =
      ap (λ z. z +ℤ e *ℤ (share *ℤ (moved -ℤ scale *ℤ fixed)))
      (ap (λ z. (scale *ℤ z) *ℤ (e *ℤ right)) (sym is) ∙ part scale share by e right ∙ ap (λ z. e *ℤ (share *ℤ (scale *ℤ z))) (sym right_is))
      ∙ whole e share (scale *ℤ fixed) moved
    where
      part : (s a b c d : ℤ) → (s *ℤ (a *ℤ b)) *ℤ (c *ℤ d) ≡ c *ℤ (a *ℤ (s *ℤ (b *ℤ d)))
      part s a b c d = simp ring

      whole : (c a f m : ℤ) → c *ℤ (a *ℤ f) +ℤ c *ℤ (a *ℤ (m -ℤ f)) ≡ a *ℤ (c *ℤ m)
      whole c a f m = simp ring (omega (arith, linear))

  own-left : (left row : ℤ) → left ≡ scale *ℤ (by *ℤ row) → (scale *ℤ times) *ℤ row ≡ share *ℤ left
  own-left left row left_is = ap (λ z. (scale *ℤ z) *ℤ row) (sym is) ∙ turn scale share by row ∙ ap (λ z. share *ℤ z) (sym left_is)
    where
      turn : (s a b c : ℤ) → (s *ℤ (a *ℤ b)) *ℤ c ≡ a *ℤ (s *ℤ (b *ℤ c))
      turn s a b c = simp ring

  kept-one : (kind : RowKind) (left row : ℤ) → pos 0 <ℤ share → left ≡ scale *ℤ (by *ℤ row) → Keeps kind left (e *ℤ moved)
      → Keeps kind ((scale *ℤ times) *ℤ row) ((scale *ℤ times) *ℤ (e *ℤ right) +ℤ e *ℤ (share *ℤ (moved -ℤ scale *ℤ fixed)))
  kept-one AtMost left row up left_is keeps =
      let scaled : (share *ℤ left) ≤ℤ (share *ℤ (e *ℤ moved)) = *ℤ-le share left (e *ℤ moved) (le_from_lt (pos 0) share up) keeps in
      let mine = own-left left row left_is in
      let other = moved-right in
      omega (arith, linear, scaled, mine, other)
  kept-one Exact left row up left_is keeps = own-left left row left_is ∙ ap (λ z. share *ℤ z) keeps ∙ sym moved-right

-- all rows
module _ (n : ℕ) (scale times e : ℤ) (x : ℕ → ℤ) where
  kept-at : (shares : ℕ → ℤ) (fs gs : List Form) (rows : List Row) (are : AreRowsOf n fs rows) → AreSharesOf n times shares fs rows are → AreLike scale x fs gs → All (Holds e x) gs
      → (r : ℕ) (d : Row) → r < length rows
      → Keeps (get_or rows r d).kind ((scale *ℤ times) *ℤ left_of n (get_or rows r d) x) ((scale *ℤ times) *ℤ (e *ℤ (get_or rows r d).right) +ℤ e *ℤ moved_at scale shares fs gs r)
  kept-at shares [] gs [] are h like holds r d b = absurd (omega arith)
  kept-at shares [] gs (row ∷ rows) are h like holds r d b = absurd h
  kept-at shares (f ∷ fs) gs [] are h like holds r d b = absurd h
  kept-at shares (f ∷ fs) [] (row ∷ rows) are h like holds r d b = absurd like
  kept-at shares (f ∷ fs) (g ∷ gs) (row ∷ rows) are h like holds zero d b =
      let here : Holds e x g = All-head (Holds e x) g gs holds in
      subst (λ k. Keeps k ((scale *ℤ times) *ℤ left_of n row x) ((scale *ℤ times) *ℤ (e *ℤ row.right) +ℤ e *ℤ (shares 0 *ℤ (g.right -ℤ scale *ℤ f.right)))) (like.0 ∙ sym are.0.kind)
      (kept-one scale (shares 0) are.0.by times e row.right f.right g.right h.1 are.0.right g.kind (g.left x) (left_of n row x) h.0 (like.1 ∙ ap (λ z. scale *ℤ z) (are.0.left x)) here)
  kept-at shares (f ∷ fs) (g ∷ gs) (row ∷ rows) are h like holds (suc r) d b =
      kept-at (λ q. shares (suc q)) fs gs rows are.1 h.2 like.2 (All-tail (Holds e x) g gs holds) r d (omega arith)

still-at : (scale e : ℤ) (x shares face : ℕ → ℤ) (fs gs : List Form) → AreLike scale x fs gs → AreStill scale face fs gs → (r : ℕ) → (e *ℤ moved_at scale shares fs gs r) *ℤ face r ≡ pos 0
still-at scale e x shares face [] gs like still r = ap (λ z. z *ℤ face r) (*ℤ-zero e) ∙ zero-*ℤ (face r)
still-at scale e x shares face (f ∷ fs) [] like still r = absurd like
still-at scale e x shares face (f ∷ fs) (g ∷ gs) like still zero =
    turn e (shares 0) (g.right -ℤ scale *ℤ f.right) (face 0) ∙ ap (λ z. e *ℤ (shares 0 *ℤ z)) still.0 ∙ ap (λ z. e *ℤ z) (*ℤ-zero (shares 0)) ∙ *ℤ-zero e
  where
    turn : (a b c d : ℤ) → (a *ℤ (b *ℤ c)) *ℤ d ≡ a *ℤ (b *ℤ (c *ℤ d))
    turn a b c d = simp ring
still-at scale e x shares face (f ∷ fs) (g ∷ gs) like still (suc r) = still-at scale e x (λ q. shares (suc q)) (λ q. face (suc q)) fs gs like.2 still.1 r

-- ---- the bound

module _ (n : ℕ) (forms moved : List Form) (cost : (ℕ → ℤ) → ℤ) (p : Program) (is : IsProgramOf n forms cost p) where
  -- a point at which the moved forms hold costs at most the bound and what its right sides moved by
  pub bound-moved : (den over e scale times : ℤ) (point main face x shares : ℕ → ℤ) → IsOptimalCertified p den point over main face → pos 0 <ℤ scale → pos 0 <ℤ times
      → AreSharesOf n times shares forms p.rows is.rows → ((j : ℕ) → j < p.columns → pos 0 ≤ℤ x j) → AreLike scale x forms moved → AreStill scale face forms moved → All (Holds e x) moved
      → ((scale *ℤ times) *ℤ (over *ℤ cost_sum p x)) ≤ℤ ((scale *ℤ times) *ℤ (e *ℤ right_sum p main) +ℤ e *ℤ gained scale shares main forms moved)
  bound-moved den over e scale times point main face x shares c up_scale up each nonneg like still holds =
      let up_both : pos 0 <ℤ (scale *ℤ times) = positive-*ℤ scale times up_scale up in
      let sum : dot (row_count p) (λ r. e *ℤ moved_at scale shares forms moved r) main ≡ e *ℤ gained scale shares main forms moved =
      *ℤ-dot (row_count p) e (moved_at scale shares forms moved) main
      ∙ ap (λ z. e *ℤ z) (ap (λ k. dot k (moved_at scale shares forms moved) main) (rows-length n forms p.rows is.rows) ∙ gained-dot scale shares main x forms moved like) in
      subst (λ z. ((scale *ℤ times) *ℤ (over *ℤ cost_sum p x)) ≤ℤ ((scale *ℤ times) *ℤ (e *ℤ right_sum p main) +ℤ z)) sum
      (bounded-moved p (scale *ℤ times) e x (λ r. e *ℤ moved_at scale shares forms moved r) over face main (le_from_lt (pos 0) (scale *ℤ times) up_both) nonneg c.pairs c.columns c.face_right
      (λ r b. kept r b) (λ r b. still-at scale e x shares face forms moved like still r))
    where
      kept : (r : ℕ) → r < row_count p
          → Keeps (row_at p r).kind ((scale *ℤ times) *ℤ left_of p.columns (row_at p r) x) ((scale *ℤ times) *ℤ (e *ℤ (row_at p r).right) +ℤ e *ℤ moved_at scale shares forms moved r)
      kept r b =
          subst (λ k. Keeps (row_at p r).kind ((scale *ℤ times) *ℤ left_of k (row_at p r) x) ((scale *ℤ times) *ℤ (e *ℤ (row_at p r).right) +ℤ e *ℤ moved_at scale shares forms moved r)) (sym is.columns)
          (kept-at n scale times e x shares forms moved p.rows is.rows each like holds r (record { kind = AtMost; terms = []; right = pos 0 }) b)
