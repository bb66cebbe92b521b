-- What dividing a row by its greatest common divisor keeps.
use Rattle.std.proofs.Common.{◌≡◌, ◌≢◌, ℕ, suc, ◌+◌, ◌*◌, ◌^◌, ◌<◌, ◌≤◌, ◌↔◌, inl, inr, eqb, if◌then◌else◌, Bool, true, false, ℤ, pos, ◌*ℤ◌, ◌≤ℤ◌, ◌<ℤ◌, unsigned_abs, List, [], ◌∷◌, ◌++◌, length, get_or, take, All, refl, sym, ap, ◌∙◌, subst, arith}
use Rattle.std.proofs.lemmas.Int.{ints, unsigned_abs-mul}
use Rattle.std.proofs.lemmas.Bool.{cases_lt}
use Rattle.std.proofs.lemmas.List.{length-map, length_push, get_or_push, get_or_append_left, take_more}
use Rattle.std.proofs.lemmas.List.Elements.{All-from_get_or}
use Rattle.md_math.specs.Divisors.{Divides, IsGcdOf}
use Rattle.md_math.specs.Lists.{number_at}
use Rattle.md_math.specs.Sizes.{IsWithin, AllWithin}
use Rattle.md_math.proofs.Ring.{linear, *ℤ-+ℤ, *ℤ-zero, zero-*ℤ, *ℤ_left_comm}
use Rattle.md_math.proofs.Order.{*ℤ-le, le_from_*ℤ, *ℤ_cancel}
use Rattle.md_math.proofs.Division.{quotient, Divides-zero}
use Rattle.md_math.proofs.Gcds.{same_from_IsGcdOf}
use Rattle.md_math.proofs.SumLaws.{dot-same, *ℤ-dot}
use Rattle.md_lp.specs.declared.row_kind.RowKind.{RowKind}
use Rattle.md_lp.specs.declared.row_kind.RowKind.TheVariants.{AtMost, Exact}
use Rattle.md_lp.specs.declared.term.Term.{Term}
use Rattle.md_lp.specs.Program.{Row, value_of, left_of, Keeps, HoldsAtPoint}
use Rattle.md_lp.specs.Shape.{numbers_of, column_in, HasPlaces, IsShapedRow}
use Rattle.md_lp.specs.Divided.{IsDivisorFor, value_in, IsDividedTerms, IsDividedRow, IsDividedList, HasSamePoints, AllZero}
use Rattle.md_lp.proofs.SparseRows.{no_term, share}
use Rattle.md_lp.proofs.ShapeLaws.{right_size, value_sizes, number_at-term, AllWithin-numbers_of}

-- ---- the divisor

pub zero-Divides : (z : ℤ) → Divides (pos 0) z → z ≡ pos 0
zero-Divides z h = (let (q, e) = quotient (pos 0) z h in e ∙ zero-*ℤ q)

-- a greatest common divisor of 0 stands for numbers that are all 0
pub IsDivisorFor-zero : (n : ℕ) (f : ℕ → ℤ) (g : ℤ) → IsGcdOf n f g → g ≡ pos 0 → IsDivisorFor n f (pos 1)
IsDivisorFor-zero n f g h e = inr (record { zero = λ k b. zero-Divides (f k) (subst (λ d. Divides d (f k)) e (h.common.at k b)) }, refl)

pub IsDivisorFor-gcd : (n : ℕ) (f : ℕ → ℤ) (g : ℤ) → IsGcdOf n f g → g ≢ pos 0 → IsDivisorFor n f g
IsDivisorFor-gcd n f g h d = inl (h, above)
  where
    above : pos 0 <ℤ g
    above = (let p : pos 0 ≤ℤ g = h.nonneg in omega (arith, linear))

pub IsDivisorFor-positive : (n : ℕ) (f : ℕ → ℤ) (g : ℤ) → IsDivisorFor n f g → pos 0 <ℤ g
IsDivisorFor-positive n f g (inl h) = h.1
IsDivisorFor-positive n f g (inr h) = (let e : g ≡ pos 1 = h.1 in omega (arith, ints))

-- it divides each number
pub IsDivisorFor-divides : (n : ℕ) (f : ℕ → ℤ) (g : ℤ) → IsDivisorFor n f g → (k : ℕ) → k < n → Divides g (f k)
IsDivisorFor-divides n f g (inl h) k b = h.0.common.at k b
IsDivisorFor-divides n f g (inr h) k b = subst (Divides g) (sym (h.0.zero k b)) (Divides-zero g)

-- numbers with a positive greatest common divisor are not all 0
not_all_zero : (n : ℕ) (f : ℕ → ℤ) (g : ℤ) → IsGcdOf n f g → pos 0 <ℤ g → AllZero n f → ⊥
not_all_zero n f g h above zeros =
    let none : g ≡ pos 0 = zero-Divides g (h.greatest (pos 0) (record { at = λ k l. subst (Divides (pos 0)) (sym (zeros.zero k l)) (Divides-zero (pos 0)) })) in
    absurd (omega (arith, ints, none, above))

-- numbers have one such divisor
pub IsDivisorFor-same : (n : ℕ) (f : ℕ → ℤ) (g h : ℤ) → IsDivisorFor n f g → IsDivisorFor n f h → g ≡ h
IsDivisorFor-same n f g h (inl a) (inl b) = same_from_IsGcdOf n f g h a.0 b.0
IsDivisorFor-same n f g h (inl a) (inr b) = absurd (not_all_zero n f g a.0 a.1 b.0)
IsDivisorFor-same n f g h (inr a) (inl b) = absurd (not_all_zero n f h b.0 b.1 a.0)
IsDivisorFor-same n f g h (inr a) (inr b) = a.1 ∙ sym b.1

-- what one divisor leaves of one number is the same
pub same_quotient : (g h a b z : ℤ) → pos 0 <ℤ g → g ≡ h → z ≡ g *ℤ a → z ≡ h *ℤ b → a ≡ b
same_quotient g h a b z above same left right = *ℤ_cancel g a b above (sym left ∙ right ∙ ap (λ k. k *ℤ b) (sym same))

-- ---- sizes

-- a factor of at least 1 makes no number smaller
pub IsWithin-divided : (limit : ℕ) (g x y : ℤ) → pos 0 <ℤ g → x ≡ g *ℤ y → IsWithin limit x → IsWithin limit y
IsWithin-divided limit g x y p e h =
    let product : unsigned_abs x ≡ unsigned_abs g * unsigned_abs y = ap unsigned_abs e ∙ unsigned_abs-mul g y in
    let one : 1 ≤ unsigned_abs g = omega (arith, ints) in
    let more : unsigned_abs y ≤ unsigned_abs g * unsigned_abs y = grind arith in
    record { within = omega (arith, h.within) }

-- ---- coefficients

IsDividedTerms-tail : (g : ℤ) (r t : Term) (raw terms : List Term) → IsDividedTerms g (r ∷ raw) (t ∷ terms) → IsDividedTerms g raw terms
IsDividedTerms-tail g r t raw terms h = record {
  length_is = (let e = h.length_is in omega arith);
  columns = λ k b. h.columns (suc k) (omega arith);
  values = λ k b. h.values (suc k) (omega arith);
}

share-times : (g : ℤ) (r t : Term) (j : ℕ) → t.column ≡ r.column → r.value ≡ g *ℤ t.value → share r j ≡ g *ℤ share t j
share-times g r t j c v = at (eqb r.column j) (eqb t.column j) (ap (λ k. eqb k j) (sym c))
  where
    at : (a b : Bool) → a ≡ b → (if a then r.value else pos 0) ≡ g *ℤ (if b then t.value else pos 0)
    at true true e = v
    at false false e = sym (*ℤ-zero g)
    at true false e = cc
    at false true e = cc

pub value_of-times : (g : ℤ) (raw terms : List Term) (j : ℕ) → IsDividedTerms g raw terms → value_of raw j ≡ g *ℤ value_of terms j
value_of-times g [] [] j h = sym (*ℤ-zero g)
value_of-times g [] (t ∷ terms) j h = absurd (let e = h.length_is in omega arith)
value_of-times g (r ∷ raw) [] j h = absurd (let e = h.length_is in omega arith)
value_of-times g (r ∷ raw) (t ∷ terms) j h =
    let first : share r j ≡ g *ℤ share t j = share-times g r t j (h.columns 0 (omega arith)) (h.values 0 (omega arith)) in
    let rest : value_of raw j ≡ g *ℤ value_of terms j = value_of-times g raw terms j (IsDividedTerms-tail g r t raw terms h) in
    omega (arith, linear, *ℤ-+ℤ g (share t j) (value_of terms j))

-- ---- points

pub Keeps-times : (kind : RowKind) (g left right : ℤ) → pos 0 <ℤ g → Keeps kind (g *ℤ left) (g *ℤ right) ↔ Keeps kind left right
Keeps-times AtMost g left right p = (λ h. le_from_*ℤ g left right p h, λ h. *ℤ-le g left right (omega (arith, linear)) h)
Keeps-times Exact g left right p = (λ h. *ℤ_cancel g left right p h, λ h. ap (λ z. g *ℤ z) h)

pub left_of-times : (n : ℕ) (g : ℤ) (raw row : Row) (x : ℕ → ℤ) → IsDividedTerms g raw.terms row.terms → left_of n raw x ≡ g *ℤ left_of n row x
left_of-times n g raw row x h =
    dot-same n (value_of raw.terms) (λ j. g *ℤ value_of row.terms j) x x (λ j b. value_of-times g raw.terms row.terms j h) (λ j b. refl)
    ∙ *ℤ-dot n g (value_of row.terms) x

pub same_points : (raw row : Row) → IsDividedRow raw row → HasSamePoints raw row
same_points raw row h = record { same = at }
  where
    at : (n : ℕ) (den : ℤ) (x : ℕ → ℤ) → HoldsAtPoint n raw den x ↔ HoldsAtPoint n row den x
    at n den x =
        let above : pos 0 <ℤ h.by = IsDivisorFor-positive _ _ h.by h.divisor in
        let left : left_of n raw x ≡ h.by *ℤ left_of n row x = left_of-times n h.by raw row x h.terms in
        let right : den *ℤ raw.right ≡ h.by *ℤ (den *ℤ row.right) = ap (λ z. den *ℤ z) h.right ∙ *ℤ_left_comm den h.by row.right in
        let kind : row.kind ≡ raw.kind = h.kind in
        rw (left, right, kind) (Keeps-times raw.kind h.by (left_of n row x) (den *ℤ row.right) above)

-- ---- shapes

pub HasPlaces-divided : (columns : ℕ) (g : ℤ) (raw terms : List Term) → IsDividedTerms g raw terms → HasPlaces columns raw → HasPlaces columns terms
HasPlaces-divided columns g raw terms h p =
    let same : length terms ≡ length raw = h.length_is in
    record {
      below = λ k b. (let here : column_in terms k ≡ column_in raw k = h.columns k (omega arith) in let inside : column_in raw k < columns = p.below k (omega arith) in omega arith);
      order = record {
        ascending = λ i k l b.
            let here : column_in terms k ≡ column_in raw k = h.columns k (omega arith) in
            let there : column_in terms i ≡ column_in raw i = h.columns i (omega arith) in
            let above : column_in raw i < column_in raw k = p.order.ascending i k l (omega arith) in
            omega arith;
      };
    }

pub IsShapedRow-divided : (columns : ℕ) (raw row : Row) → IsDividedRow raw row → HasPlaces columns raw.terms → AllWithin (2 ^ 44) (numbers_of raw) → IsShapedRow columns row
IsShapedRow-divided columns raw row h p s =
    let above : pos 0 <ℤ h.by = IsDivisorFor-positive _ _ h.by h.divisor in
    let same : length row.terms ≡ length raw.terms = h.terms.length_is in
    let right : IsWithin (2 ^ 44) row.right = IsWithin-divided (2 ^ 44) h.by raw.right row.right above h.right (right_size (2 ^ 44) raw s) in
    record {
      places = HasPlaces-divided columns h.by raw.terms row.terms h.terms p;
      sizes = AllWithin-numbers_of (2 ^ 44) row right (All-from_get_or (λ t. IsWithin (2 ^ 44) t.value) row.terms no_term
          (λ k b. IsWithin-divided (2 ^ 44) h.by (value_in raw.terms k) (value_in row.terms k) above (h.terms.values k (omega arith)) (value_sizes (2 ^ 44) raw s k no_term (omega arith))));
    }

-- ---- one more term

pub IsDividedTerms-push : (g : ℤ) (raw terms : List Term) (r t : Term) → IsDividedTerms g raw terms → t.column ≡ r.column → r.value ≡ g *ℤ t.value → IsDividedTerms g (raw ++ r ∷ []) (terms ++ t ∷ [])
IsDividedTerms-push g raw terms r t h c v =
    let same : length terms ≡ length raw = h.length_is in
    let long : length (raw ++ r ∷ []) ≡ length raw + 1 = length_push raw r in
    record {
      length_is = omega (arith, length_push terms t);
      columns = λ k b. elim (cases_lt k (length raw)) [
        | inl l ↦
            ap (λ (x : Term). x.column) (get_or_append_left terms (t ∷ []) no_term k (omega arith))
            ∙ h.columns k l
            ∙ sym (ap (λ (x : Term). x.column) (get_or_append_left raw (r ∷ []) no_term k l))
        | inr l ↦
            ap (λ (x : Term). x.column) (get_or_push terms t no_term k (omega arith))
            ∙ c
            ∙ sym (ap (λ (x : Term). x.column) (get_or_push raw r no_term k (omega arith)))
      ];
      values = λ k b. elim (cases_lt k (length raw)) [
        | inl l ↦
            ap (λ (x : Term). x.value) (get_or_append_left raw (r ∷ []) no_term k l)
            ∙ h.values k l
            ∙ sym (ap (λ (x : Term). g *ℤ x.value) (get_or_append_left terms (t ∷ []) no_term k (omega arith)))
        | inr l ↦
            ap (λ (x : Term). x.value) (get_or_push raw r no_term k (omega arith))
            ∙ v
            ∙ sym (ap (λ (x : Term). g *ℤ x.value) (get_or_push terms t no_term k (omega arith)))
      ];
    }

pub IsDividedTerms-more : (g : ℤ) (raw terms : List Term) (i : ℕ) (t : Term) → i < length raw → IsDividedTerms g (take i raw) terms → t.column ≡ (get_or raw i no_term).column → (get_or raw i no_term).value ≡ g *ℤ t.value → IsDividedTerms g (take (i + 1) raw) (terms ++ t ∷ [])
IsDividedTerms-more g raw terms i t b h c v =
    rw (take_more raw i no_term b) (IsDividedTerms-push g (take i raw) terms (get_or raw i no_term) t h c v)

-- ---- a row's divisor

pub Divides-right : (g : ℤ) (row : Row) → IsDivisorFor (length (numbers_of row)) (number_at (numbers_of row)) g → Divides g row.right
Divides-right g row h = IsDivisorFor-divides (length (numbers_of row)) (number_at (numbers_of row)) g h 0 (omega arith)

pub Divides-values : (g : ℤ) (row : Row) → IsDivisorFor (length (numbers_of row)) (number_at (numbers_of row)) g → All (λ t. Divides g t.value) row.terms
Divides-values g row h =
    All-from_get_or (λ t. Divides g t.value) row.terms no_term (λ k b.
    let inside : k + 1 < length (numbers_of row) = omega (arith, length-map row.terms (λ (t : Term). t.value)) in
    subst (Divides g) (number_at-term row.right row.terms k b) (IsDivisorFor-divides (length (numbers_of row)) (number_at (numbers_of row)) g h (k + 1) inside))

-- ---- one more number

pub IsDividedList-more : (g : ℤ) (raw divided : List ℤ) (i : ℕ) (q : ℤ) → i < length raw → IsDividedList g (take i raw) divided → number_at raw i ≡ g *ℤ q → IsDividedList g (take (i + 1) raw) (divided ++ q ∷ [])
IsDividedList-more g raw divided i q b h v =
    rw (take_more raw i (pos 0) b) (record {
      length_is = (let same : length divided ≡ length front = h.length_is in omega (arith, length_push divided q, length_push front (get_or raw i (pos 0))));
      numbers = λ k c. elim (cases_lt k (length front)) [
        | inl l ↦
            let same : length divided ≡ length front = h.length_is in
            get_or_append_left front (get_or raw i (pos 0) ∷ []) (pos 0) k l
            ∙ h.numbers k l
            ∙ sym (ap (λ z. g *ℤ z) (get_or_append_left divided (q ∷ []) (pos 0) k (omega arith)))
        | inr l ↦
            let same : length divided ≡ length front = h.length_is in
            let end : length front ≡ k = omega (arith, length_push front (get_or raw i (pos 0))) in
            get_or_push front (get_or raw i (pos 0)) (pos 0) k end
            ∙ v
            ∙ sym (ap (λ z. g *ℤ z) (get_or_push divided q (pos 0) k (omega arith)))
      ];
    })
  where
    front : List ℤ
    front = take i raw
