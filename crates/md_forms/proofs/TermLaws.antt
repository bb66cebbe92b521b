-- Terms that are added column by column.
use Rattle.std.proofs.Common.{◌≡◌, ℕ, suc, ◌+◌, ◌*◌, ◌<◌, ◌≤◌, inl, inr, ℤ, pos, ◌+ℤ◌, ◌*ℤ◌, List, [], ◌∷◌, ◌++◌, length, refl, sym, ap, ◌∙◌, arith, mul-le-mul, le_refl}
use Rattle.std.proofs.lemmas.Bool.{cases_lt}
use Rattle.std.proofs.lemmas.List.{length_push, get_or_push, get_or_append_left}
use Rattle.std.proofs.lemmas.List.Elements.{All-append}
use Rattle.std.proofs.Math.Nat.{suc-mul}
use Rattle.md_math.specs.Sizes.{IsWithin}
use Rattle.md_math.specs.Sums.{sum_to, total_by}
use Rattle.md_math.proofs.Builders.{All-left}
use Rattle.md_math.proofs.Ring.{linear}
use Rattle.md_math.proofs.SumLaws.{sum_to-more}
use Rattle.md_math.proofs.TotalLaws.{total_by-push}
use Rattle.md_forms.proofs.PointLaws.{all-one}
use Rattle.md_lp.specs.declared.term.Term.{Term}
use Rattle.md_lp.specs.Shape.{column_in, HasPlaces}
use Rattle.md_lp.proofs.SparseRows.{no_term}
use Rattle.md_forms.specs.Terms.{sum_at, AreTermsBelow, AddsTerms}

-- ---- places

column-left : (terms : List Term) (t : Term) (k : ℕ) → k < length terms → column_in (terms ++ t ∷ []) k ≡ column_in terms k
column-left terms t k l = ap (λ (x : Term). x.column) (get_or_append_left terms (t ∷ []) no_term k l)

column-last : (terms : List Term) (t : Term) (k : ℕ) → length terms ≡ k → column_in (terms ++ t ∷ []) k ≡ t.column
column-last terms t k e = ap (λ (x : Term). x.column) (get_or_push terms t no_term k e)

pub HasPlaces-push : (next : ℕ) (terms : List Term) (t : Term) → HasPlaces next terms → next ≤ t.column → HasPlaces (t.column + 1) (terms ++ t ∷ [])
HasPlaces-push next terms t h le =
    let long : length (terms ++ t ∷ []) ≡ length terms + 1 = length_push terms t in
    record {
      below = λ k b. elim (cases_lt k (length terms)) [
        | inl l ↦ (let here = column-left terms t k l in let before : column_in terms k < next = h.below k l in omega (arith, here))
        | inr l ↦ (let here = column-last terms t k (omega arith) in omega (arith, here))
      ];
      order = record {
        ascending = λ i k l b. elim (cases_lt k (length terms)) [
          | inl m ↦
              let here = column-left terms t k m in
              let there = column-left terms t i (omega arith) in
              let order : column_in terms i < column_in terms k = h.order.ascending i k l m in
              omega (arith, here, there)
          | inr m ↦
              let here = column-last terms t k (omega arith) in
              let inside : i < length terms = omega arith in
              let there = column-left terms t i inside in
              let before : column_in terms i < next = h.below i inside in
              omega (arith, here, there)
        ];
      };
    }

pub HasPlaces-before : (next : ℕ) (terms : List Term) (t : Term) → HasPlaces next (terms ++ t ∷ []) → HasPlaces t.column terms
HasPlaces-before next terms t h =
    let long : length (terms ++ t ∷ []) ≡ length terms + 1 = length_push terms t in
    record {
      below = λ k b.
          let here = column-left terms t k b in
          let last = column-last terms t (length terms) refl in
          let order : column_in (terms ++ t ∷ []) k < column_in (terms ++ t ∷ []) (length terms) = h.order.ascending k (length terms) b (omega arith) in
          omega (arith, here, last);
      order = record {
        ascending = λ i k l b.
            let here = column-left terms t k b in
            let there = column-left terms t i (omega arith) in
            let order : column_in (terms ++ t ∷ []) i < column_in (terms ++ t ∷ []) k = h.order.ascending i k l (omega arith) in
            omega (arith, here, there);
      };
    }

pub HasPlaces-last : (next : ℕ) (terms : List Term) (t : Term) → HasPlaces next (terms ++ t ∷ []) → t.column < next
HasPlaces-last next terms t h =
    let long : length (terms ++ t ∷ []) ≡ length terms + 1 = length_push terms t in
    let last = column-last terms t (length terms) refl in
    let below : column_in (terms ++ t ∷ []) (length terms) < next = h.below (length terms) (omega arith) in
    omega (arith, last)

HasPlaces-wider : (a b : ℕ) (terms : List Term) → a ≤ b → HasPlaces a terms → HasPlaces b terms
HasPlaces-wider a b terms le h = record {
  below = λ k c. (let before : column_in terms k < a = h.below k c in omega arith);
  order = h.order;
}

-- ---- terms below a column

pub below-none : (limit next : ℕ) → AreTermsBelow limit next []
below-none limit next = record {
  places = record { below = λ k b. absurd (omega arith); order = record { ascending = λ i k l b. absurd (omega arith) } };
  sizes = λ k d b. absurd (omega arith);
}

pub below-wider : (limit a b : ℕ) (terms : List Term) → a ≤ b → AreTermsBelow limit a terms → AreTermsBelow limit b terms
below-wider limit a b terms le h = record { places = HasPlaces-wider a b terms le h.places; sizes = h.sizes }

pub below-push : (limit next : ℕ) (terms : List Term) (t : Term) → AreTermsBelow limit next terms → next ≤ t.column → IsWithin limit t.value → AreTermsBelow limit (t.column + 1) (terms ++ t ∷ [])
below-push limit next terms t h le small = record {
  places = HasPlaces-push next terms t h.places le;
  sizes = All-append (λ (x : Term). IsWithin limit x.value) terms (t ∷ []) h.sizes (all-one (λ (x : Term). IsWithin limit x.value) t small);
}

pub below-before : (limit next : ℕ) (terms : List Term) (t : Term) → AreTermsBelow limit next (terms ++ t ∷ []) → AreTermsBelow limit t.column terms
below-before limit next terms t h = record {
  places = HasPlaces-before next terms t h.places;
  sizes = All-left (λ (x : Term). IsWithin limit x.value) terms (t ∷ []) h.sizes;
}

-- ---- adding terms

pub adds-one : (limit : ℕ) (terms : List Term) (t : Term) → IsWithin limit t.value → AddsTerms limit t.column (t.column + 1) (λ x. t.value *ℤ x t.column) terms (terms ++ t ∷ [])
adds-one limit terms t small = record {
  below = λ start le h. below-push limit start terms t h le small;
  sum = λ x. total_by-push (λ (u : Term). u.value *ℤ x u.column) terms t;
}

pub adds-none : (limit first next : ℕ) (form : (ℕ → ℤ) → ℤ) (terms : List Term) → first ≤ next → ((x : ℕ → ℤ) → form x ≡ pos 0) → AddsTerms limit first next form terms terms
adds-none limit first next form terms le zero = record {
  below = λ start l h. below-wider limit start next terms (omega (arith, l, le)) h;
  sum = λ x. omega (arith, linear, zero x);
}

pub adds-both : (limit a b c d : ℕ) (f g : (ℕ → ℤ) → ℤ) (old mid new : List Term) → AddsTerms limit a b f old mid → AddsTerms limit c d g mid new → b ≤ c
    → AddsTerms limit a d (λ x. f x +ℤ g x) old new
adds-both limit a b c d f g old mid new p q le = record {
  below = λ start l h. q.below b le (p.below start l h);
  sum = λ x. omega (arith, linear, p.sum x, q.sum x);
}

pub adds-as : (limit a b c d : ℕ) (f g : (ℕ → ℤ) → ℤ) (old new : List Term) → AddsTerms limit a b f old new → c ≤ a → b ≤ d → ((x : ℕ → ℤ) → f x ≡ g x)
    → AddsTerms limit c d g old new
adds-as limit a b c d f g old new p l m same = record {
  below = λ start k h. below-wider limit b d new m (p.below start (omega (arith, k, l)) h);
  sum = λ x. p.sum x ∙ ap (λ z. sum_at x old +ℤ z) (same x);
}

-- one place more
pub adds-next : (limit a b c d k : ℕ) (f : (ℕ → ℤ) → ℕ → ℤ) (old mid new : List Term) → AddsTerms limit a b (λ x. sum_to k (f x)) old mid → AddsTerms limit c d (λ x. f x k) mid new → b ≤ c
    → AddsTerms limit a d (λ x. sum_to (k + 1) (f x)) old new
adds-next limit a b c d k f old mid new p q le =
    adds-as limit a d a d (λ x. sum_to k (f x) +ℤ f x k) (λ x. sum_to (k + 1) (f x)) old new
    (adds-both limit a b c d (λ x. sum_to k (f x)) (λ x. f x k) old mid new p q le) (le_refl a) (le_refl d) (λ x. sym (sum_to-more k (f x)))

-- from nothing
pub adds-all : (limit first next : ℕ) (form : (ℕ → ℤ) → ℤ) (new : List Term) → AddsTerms limit first next form [] new → AreTermsBelow limit next new
adds-all limit first next form new p = p.below 0 (omega arith) (below-none limit 0)

pub adds-sum : (limit first next : ℕ) (form : (ℕ → ℤ) → ℤ) (new : List Term) → AddsTerms limit first next form [] new → (x : ℕ → ℤ) → sum_at x new ≡ form x
adds-sum limit first next form new p x = omega (arith, linear, p.sum x)

-- ---- adding terms share by share

-- for some shares of profiles, terms in blocks of a width were added, that of a rank at this place of the blocks
pub record AddsShares (least limit base width : ℕ) (form : (ℕ → ℤ) → Term → ℤ) (shares old new : List Term) : Type 0 where
  pub at : (end : ℕ) → AreTermsBelow least end shares → AddsTerms limit base (base + end * width) (λ x. total_by (form x) shares) old new

pub shares-none : (least limit base width : ℕ) (form : (ℕ → ℤ) → Term → ℤ) (terms : List Term) → AddsShares least limit base width form [] terms terms
shares-none least limit base width form terms = record { at = λ end h. adds-none limit base (base + end * width) (λ x. pos 0) terms (omega arith) (λ x. refl) }

pub block-fits : (k n w : ℕ) → k < n → k * w + w ≤ n * w
block-fits k n w h = (let e : suc k * w ≡ k * w + w = suc-mul k w in let fits : suc k * w ≤ n * w = mul-le-mul (omega (arith, h)) (le_refl w) in omega (arith, e, fits))

pub shares-more : (least limit base width : ℕ) (form : (ℕ → ℤ) → Term → ℤ) (shares old mid new : List Term) (t : Term) → AddsShares least limit base width form shares old mid
    → AddsTerms limit (base + t.column * width) (base + t.column * width + width) (λ x. form x t) mid new → AddsShares least limit base width form (shares ++ t ∷ []) old new
shares-more least limit base width form shares old mid new t p q = record {
  at = λ end h.
      let before : AreTermsBelow least t.column shares = below-before least end shares t h in
      let last : t.column < end = HasPlaces-last end shares t h.places in
      let both = adds-both limit base (base + t.column * width) (base + t.column * width) (base + t.column * width + width) (λ x. total_by (form x) shares) (λ x. form x t) old mid new (p.at t.column before) q (le_refl (base + t.column * width)) in
      adds-as limit base (base + t.column * width + width) base (base + end * width) (λ x. total_by (form x) shares +ℤ form x t) (λ x. total_by (form x) (shares ++ t ∷ [])) old new both (le_refl base)
      (omega (arith, block-fits t.column end width last)) (λ x. sym (total_by-push (form x) shares t));
}

-- ---- single terms with a value that is told otherwise

pub adds-told : (limit a : ℕ) (v told : ℤ) (old new : List Term) → v ≡ told → AddsTerms limit a (a + 1) (λ x. v *ℤ x a) old new → AddsTerms limit a (a + 1) (λ x. told *ℤ x a) old new
adds-told limit a v told old new e p = adds-as limit a (a + 1) a (a + 1) (λ x. v *ℤ x a) (λ x. told *ℤ x a) old new p (le_refl a) (le_refl (a + 1)) (λ x. ap (λ z. z *ℤ x a) e)

-- the next of a run of places
pub adds-place : (limit first base k : ℕ) (f : (ℕ → ℤ) → ℕ → ℤ) (v : ℤ) (old mid new : List Term) → AddsTerms limit first (base + k) (λ x. sum_to k (f x)) old mid
    → AddsTerms limit (base + k) (base + k + 1) (λ x. v *ℤ x (base + k)) mid new → ((x : ℕ → ℤ) → v *ℤ x (base + k) ≡ f x k) → AddsTerms limit first (base + (k + 1)) (λ x. sum_to (k + 1) (f x)) old new
adds-place limit first base k f v old mid new p q same =
    adds-as limit first (base + k + 1) first (base + (k + 1)) (λ x. sum_to (k + 1) (f x)) (λ x. sum_to (k + 1) (f x)) old new
    (adds-next limit first (base + k) (base + k) (base + k + 1) k f old mid new p
    (adds-as limit (base + k) (base + k + 1) (base + k) (base + k + 1) (λ x. v *ℤ x (base + k)) (λ x. f x k) mid new q (le_refl (base + k)) (le_refl (base + k + 1)) same) (le_refl (base + k)))
    (le_refl first) (omega arith) (λ x. refl)
