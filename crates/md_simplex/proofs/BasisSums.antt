-- Numbers that stand at the basic columns alone, and the face and the main row of a dictionary by its program rows.
use Rattle.std.proofs.Common.{◌≡◌, ◌≢◌, ℕ, zero, suc, ◌+◌, ◌<◌, ◌≤◌, ◌⊎◌, ◌==◌, nat_le, Bool, true, false, if◌then◌else◌, ℤ, pos, ◌+ℤ◌, ◌-ℤ◌, ◌*ℤ◌, neg_ℤ, ◌≤ℤ◌, ◌<ℤ◌, inl, inr, refl, sym, ap, ◌∙◌, arith, eq-eqb, ne_eqb, le-leb}
use Rattle.std.proofs.lemmas.Bool.{cases_lt, cases_eq}
use Rattle.md_math.specs.Sums.{sum_to}
use Rattle.md_math.proofs.Ring.{linear, *ℤ-zero, zero-*ℤ, *ℤ_assoc, *ℤ-+ℤ, *ℤ-neg_ℤ, neg_ℤ-*ℤ}
use Rattle.md_math.proofs.Order.{*ℤ_cancel, chosen-nonneg}
use Rattle.md_math.proofs.SumLaws.{sum_to-same, sum_to-zero, sum_to-nonneg, sum_to-neg_ℤ, sum_to-*ℤ, sum_to-swap, sum_to-single, sum_to-all_zero}
use Rattle.md_dict.specs.Dictionary.{IsScaledDictionary}
use Rattle.md_dict.proofs.RawPivot.{basic_own, basic_other}
use Rattle.md_dict.proofs.Uniqueness.{through_basis}

-- ---- numbers at the basic columns

-- at each column the number of the row whose basic column it is, and 0 elsewhere
abbrev pub at_basis : ℕ → (ℕ → ℕ) → (ℕ → ℤ) → ℕ → ℤ
at_basis m basis v j = sum_to m (λ r. if j == basis r then v r else pos 0)

share_on : (j b : ℕ) (x : ℤ) → j ≡ b → (if j == b then x else pos 0) ≡ x
share_on j b x e = rw (eq-eqb j b e) refl

share_off : (j b : ℕ) (x : ℤ) → j ≢ b → (if j == b then x else pos 0) ≡ pos 0
share_off j b x o = rw (ne_eqb j b o) refl

-- a sum over all columns is one over the rows
pub at_basis-sum : (m columns : ℕ) (basis : ℕ → ℕ) (v a : ℕ → ℤ) → ((r : ℕ) → r < m → basis r < columns) → sum_to columns (λ j. a j *ℤ at_basis m basis v j) ≡ sum_to m (λ r. a (basis r) *ℤ v r)
at_basis-sum m columns basis v a h =
    sum_to-same columns _ (λ j. sum_to m (λ r. a j *ℤ (if j == basis r then v r else pos 0))) (λ j b. sym (sum_to-*ℤ m (a j) (λ r. if j == basis r then v r else pos 0)))
    ∙ sum_to-swap columns m (λ j r. a j *ℤ (if j == basis r then v r else pos 0))
    ∙ sum_to-same m (λ r. sum_to columns (λ j. a j *ℤ (if j == basis r then v r else pos 0))) (λ r. a (basis r) *ℤ v r) one
  where
    one : (r : ℕ) → r < m → sum_to columns (λ j. a j *ℤ (if j == basis r then v r else pos 0)) ≡ a (basis r) *ℤ v r
    one r c =
        sum_to-single columns (basis r) (λ j. a j *ℤ (if j == basis r then v r else pos 0)) (h r c) (λ j b o. ap (λ z. a j *ℤ z) (share_off j (basis r) (v r) o) ∙ *ℤ-zero (a j))
        ∙ ap (λ z. a (basis r) *ℤ z) (share_on (basis r) (basis r) (v r) refl)

pub at_basis-other : (m : ℕ) (basis : ℕ → ℕ) (v : ℕ → ℤ) (j : ℕ) → ((r : ℕ) → r < m → basis r ≡ j → v r ≡ pos 0) → at_basis m basis v j ≡ pos 0
at_basis-other m basis v j h = sum_to-zero m (λ r. if j == basis r then v r else pos 0) (λ r c. one r c (cases_eq j (basis r)))
  where
    one : (r : ℕ) → r < m → (j ≡ basis r) ⊎ (j ≢ basis r) → (if j == basis r then v r else pos 0) ≡ pos 0
    one r c (inl e) = share_on j (basis r) (v r) e ∙ h r c (sym e)
    one r c (inr o) = share_off j (basis r) (v r) o

pub at_basis-nonneg : (m : ℕ) (basis : ℕ → ℕ) (v : ℕ → ℤ) (j : ℕ) → ((r : ℕ) → r < m → pos 0 ≤ℤ v r) → pos 0 ≤ℤ at_basis m basis v j
at_basis-nonneg m basis v j h = sum_to-nonneg m (λ r. if j == basis r then v r else pos 0) (λ r c. chosen-nonneg (j == basis r) (v r) (h r c))

-- whether a column is basic
pub basis_cases : (m : ℕ) (basis : ℕ → ℕ) (j : ℕ) → ((r : ℕ) × (r < m) × (basis r ≡ j)) ⊎ ((r : ℕ) → r < m → basis r ≢ j)
basis_cases zero basis j = inr (λ r c. absurd (omega arith))
basis_cases (suc m) basis j =
    elim (cases_eq (basis m) j) [
      | inl e ↦ inl (m, omega arith, e)
      | inr o ↦
          elim (basis_cases m basis j) [
            | inl found ↦ inl (found.0, (let l : found.0 < m = found.1 in omega arith), found.2)
            | inr none ↦ inr (λ r c. later none o r (cases_lt r m) c)
          ]
    ]
  where
    later : ((r : ℕ) → r < m → basis r ≢ j) → basis m ≢ j → (r : ℕ) → (r < m) ⊎ (m ≤ r) → r < suc m → basis r ≢ j
    later none o r (inl l) c = none r l
    later none o r (inr l) c = λ e. o (ap basis (let s : m ≡ r = omega arith in s) ∙ e)

module _ (m n : ℕ) (t : ℕ → ℕ → ℤ) (basis : ℕ → ℕ) (d : ℤ) (e : ℕ → ℕ → ℤ) (s : IsScaledDictionary m n t basis d e) where
  -- two rows have different basic columns
  pub basis_apart : (i k : ℕ) → i < m → k < m → i ≢ k → basis i ≢ basis k
  basis_apart i k a b o same =
      let own : e i (basis i) ≡ d = s.basic i i a (omega arith) ∙ basic_own m n i (basis i) d in
      let other : e i (basis k) ≡ pos 0 = s.basic k i b (omega arith) ∙ basic_other m n k (basis k) i d o (inl (λ f. omega arith)) in
      let both : e i (basis i) ≡ e i (basis k) = ap (e i) same in
      let p : pos 0 <ℤ d = s.positive in
      omega (arith, linear)

  pub at_basis-own : (v : ℕ → ℤ) (r : ℕ) → r < m → at_basis m basis v (basis r) ≡ v r
  at_basis-own v r a =
      sum_to-single m r (λ i. if basis r == basis i then v i else pos 0) a (λ i b o. share_off (basis r) (basis i) (v i) (λ f. basis_apart i r b a o (sym f)))
      ∙ share_on (basis r) (basis r) (v r) refl

  -- ---- the face row

  -- what the face row holds in a basic column
  face_own : (i : ℕ) → i < m → e m (basis i) ≡ (if nat_le n (basis i) then neg_ℤ d else pos 0)
  face_own i a = s.basic i m a (omega arith) ∙ (rw (ne_eqb m i (λ f. omega arith), eq-eqb m m refl) refl)

  -- the entry of a row whose basic column is a start column
  start_share : ℕ → ℕ → ℤ
  start_share j i = if nat_le n (basis i) then e i j else pos 0

  face_by_rows : (j : ℕ) → j < n + m + 1 → d *ℤ e m j ≡ sum_to m (λ i. e m (basis i) *ℤ e i j)
  face_by_rows j b =
      ap (λ z. d *ℤ z) (s.rows m j (omega arith) b)
      ∙ through_basis m n t basis d e s (λ k. e m (n + k)) j b
      ∙ sum_to-same m _ _ (λ i c. ap (λ z. z *ℤ e i j) (sym (s.rows m (basis i) (omega arith) (let l : basis i < n + m = s.columns i c in omega arith))))

  -- the face row is minus the sum of these
  face_sum : (j : ℕ) → j < n + m + 1 → e m j ≡ neg_ℤ (sum_to m (start_share j))
  unfolding start_share
  face_sum j b =
      *ℤ_cancel d (e m j) (neg_ℤ (sum_to m (start_share j))) s.positive
      (face_by_rows j b
      ∙ sum_to-same m _ (λ i. neg_ℤ (d *ℤ start_share j i)) (λ i c. ap (λ z. z *ℤ e i j) (face_own i c) ∙ by_test (nat_le n (basis i)) (e i j))
      ∙ sum_to-neg_ℤ m (λ i. d *ℤ start_share j i)
      ∙ ap neg_ℤ (sum_to-*ℤ m d (start_share j))
      ∙ sym (*ℤ-neg_ℤ d (sum_to m (start_share j))))
    where
      by_test : (start : Bool) (x : ℤ) → (if start then neg_ℤ d else pos 0) *ℤ x ≡ neg_ℤ (d *ℤ (if start then x else pos 0))
      by_test true x = neg_ℤ-*ℤ d x
      by_test false x = zero-*ℤ x ∙ (let z : d *ℤ pos 0 ≡ pos 0 = *ℤ-zero d in omega (arith, linear))

  share_is : (j i : ℕ) → n ≤ basis i → start_share j i ≡ e i j
  unfolding start_share
  share_is j i l = rw (le-leb n (basis i) l) refl

  share_nonneg : (j i : ℕ) → pos 0 ≤ℤ e i j → pos 0 ≤ℤ start_share j i
  unfolding start_share
  share_nonneg j i h = by_test (nat_le n (basis i))
    where
      by_test : (start : Bool) → pos 0 ≤ℤ (if start then e i j else pos 0)
      by_test true = h
      by_test false = omega (arith, linear)

  share_nonpos : (j i : ℕ) → e i j ≤ℤ pos 0 → start_share j i ≤ℤ pos 0
  unfolding start_share
  share_nonpos j i h = by_test (nat_le n (basis i))
    where
      by_test : (start : Bool) → (if start then e i j else pos 0) ≤ℤ pos 0
      by_test true = h
      by_test false = omega (arith, linear)

  -- a column that is not negative in the program rows is at most 0 in the face row
  pub face_nonpos : (j : ℕ) → j < n + m + 1 → ((i : ℕ) → i < m → pos 0 ≤ℤ e i j) → e m j ≤ℤ pos 0
  face_nonpos j b h =
      let sum : pos 0 ≤ℤ sum_to m (start_share j) = sum_to-nonneg m (start_share j) (λ i c. share_nonneg j i (h i c)) in
      let face : e m j ≡ neg_ℤ (sum_to m (start_share j)) = face_sum j b in
      omega (arith, linear)

  -- if the face row is not negative there, each basic start column has 0
  pub start_zero : (j : ℕ) → j < n + m + 1 → ((i : ℕ) → i < m → pos 0 ≤ℤ e i j) → pos 0 ≤ℤ e m j → (i : ℕ) → i < m → n ≤ basis i → e i j ≡ pos 0
  start_zero j b h f i a l =
      let face : e m j ≡ neg_ℤ (sum_to m (start_share j)) = face_sum j b in
      let most : sum_to m (start_share j) ≤ℤ pos 0 = omega (arith, linear) in
      sym (share_is j i l) ∙ sum_to-all_zero m i (start_share j) a (λ k c. share_nonneg j k (h k c)) most

  -- the same of a column that is not positive
  turned_sum : (j : ℕ) → j < n + m + 1 → e m j ≡ sum_to m (λ i. neg_ℤ (start_share j i))
  turned_sum j b = face_sum j b ∙ sym (sum_to-neg_ℤ m (start_share j))

  turned_nonneg : (j i : ℕ) → e i j ≤ℤ pos 0 → pos 0 ≤ℤ neg_ℤ (start_share j i)
  turned_nonneg j i h = (let l : start_share j i ≤ℤ pos 0 = share_nonpos j i h in omega (arith, linear))

  pub face_nonneg : (j : ℕ) → j < n + m + 1 → ((i : ℕ) → i < m → e i j ≤ℤ pos 0) → pos 0 ≤ℤ e m j
  face_nonneg j b h =
      let sum : pos 0 ≤ℤ sum_to m (λ i. neg_ℤ (start_share j i)) = sum_to-nonneg m (λ i. neg_ℤ (start_share j i)) (λ i c. turned_nonneg j i (h i c)) in
      let face : e m j ≡ sum_to m (λ i. neg_ℤ (start_share j i)) = turned_sum j b in
      omega (arith, linear)

  pub start_zero_below : (j : ℕ) → j < n + m + 1 → ((i : ℕ) → i < m → e i j ≤ℤ pos 0) → e m j ≡ pos 0 → (i : ℕ) → i < m → n ≤ basis i → e i j ≡ pos 0
  start_zero_below j b h f i a l =
      let face : e m j ≡ sum_to m (λ k. neg_ℤ (start_share j k)) = turned_sum j b in
      let most : sum_to m (λ k. neg_ℤ (start_share j k)) ≤ℤ pos 0 = omega (arith, linear) in
      let none : neg_ℤ (start_share j i) ≡ pos 0 = sum_to-all_zero m i (λ k. neg_ℤ (start_share j k)) a (λ k c. turned_nonneg j k (h k c)) most in
      let same : start_share j i ≡ e i j = share_is j i l in
      omega (arith, linear)

  -- ---- the main row

  main_own : (i : ℕ) → i < m → sum_to m (λ k. e (m + 1) (n + k) *ℤ t k (basis i)) ≡ neg_ℤ (d *ℤ t (m + 1) (basis i))
  main_own i a =
      let whole : e (m + 1) (basis i) ≡ d *ℤ t (m + 1) (basis i) +ℤ sum_to m (λ k. e (m + 1) (n + k) *ℤ t k (basis i)) = s.main (basis i) (let l : basis i < n + m = s.columns i a in omega arith) in
      let none : e (m + 1) (basis i) ≡ pos 0 = s.basic i (m + 1) a (omega arith) ∙ basic_other m n i (basis i) (m + 1) d (λ f. omega arith) (inl (λ f. omega arith)) in
      omega (arith, linear)

  -- the main row is the first main row less the program rows, each as often as its basic column asks
  pub main_by_rows : (j : ℕ) → j < n + m + 1 → e (m + 1) j ≡ d *ℤ t (m + 1) j -ℤ sum_to m (λ i. t (m + 1) (basis i) *ℤ e i j)
  main_by_rows j b =
      let rest : d *ℤ sum_to m (λ k. e (m + 1) (n + k) *ℤ t k j) ≡ neg_ℤ (d *ℤ sum_to m (λ i. t (m + 1) (basis i) *ℤ e i j)) =
      through_basis m n t basis d e s (λ k. e (m + 1) (n + k)) j b
      ∙ sum_to-same m _ (λ i. neg_ℤ (d *ℤ (t (m + 1) (basis i) *ℤ e i j))) (λ i c. ap (λ z. z *ℤ e i j) (main_own i c) ∙ turn d (t (m + 1) (basis i)) (e i j))
      ∙ sum_to-neg_ℤ m (λ i. d *ℤ (t (m + 1) (basis i) *ℤ e i j))
      ∙ ap neg_ℤ (sum_to-*ℤ m d (λ i. t (m + 1) (basis i) *ℤ e i j)) in
      *ℤ_cancel d (e (m + 1) j) (d *ℤ t (m + 1) j -ℤ sum_to m (λ i. t (m + 1) (basis i) *ℤ e i j)) s.positive
      (ap (λ z. d *ℤ z) (s.main j b) ∙ join d (d *ℤ t (m + 1) j) (sum_to m (λ k. e (m + 1) (n + k) *ℤ t k j)) (sum_to m (λ i. t (m + 1) (basis i) *ℤ e i j)) rest)
    where
      turn : (x y z : ℤ) → neg_ℤ (x *ℤ y) *ℤ z ≡ neg_ℤ (x *ℤ (y *ℤ z))
      turn x y z = neg_ℤ-*ℤ (x *ℤ y) z ∙ ap neg_ℤ (*ℤ_assoc x y z)

      join : (x u v w : ℤ) → x *ℤ v ≡ neg_ℤ (x *ℤ w) → x *ℤ (u +ℤ v) ≡ x *ℤ (u -ℤ w)
      join x u v w h =
          let left : x *ℤ (u +ℤ v) ≡ x *ℤ u +ℤ x *ℤ v = *ℤ-+ℤ x u v in
          let right : x *ℤ (u +ℤ neg_ℤ w) ≡ x *ℤ u +ℤ x *ℤ neg_ℤ w = *ℤ-+ℤ x u (neg_ℤ w) in
          let minus : x *ℤ neg_ℤ w ≡ neg_ℤ (x *ℤ w) = *ℤ-neg_ℤ x w in
          let same : x *ℤ (u -ℤ w) ≡ x *ℤ (u +ℤ neg_ℤ w) = ap (λ z. x *ℤ z) (let k : u -ℤ w ≡ u +ℤ neg_ℤ w = omega (arith, linear) in k) in
          omega (arith, linear)
