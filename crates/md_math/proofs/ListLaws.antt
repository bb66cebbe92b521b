-- Lists of different lengths, one after another, and sums of lists of natural numbers.
use Rattle.std.proofs.Common.{◌≡◌, ℕ, zero, suc, ◌+◌, ◌-◌, ◌*◌, ◌<◌, ◌≤◌, List, [], ◌∷◌, ◌++◌, length, get_or, take, drop, Some, sym, ap, ◌∙◌, arith, inl, inr, append_assoc, length-append}
use Rattle.std.specs.Prelude.{slice_get}
use Rattle.std.specs.List.{sum}
use Rattle.std.proofs.lemmas.Bool.{cases_lt}
use Rattle.std.proofs.lemmas.List.{get_or_append_left, get_or-append-add}
use Rattle.std.proofs.lemmas.List.Sums.{sum_by-cons}
use Rattle.std.proofs.lemmas.Option.{none-some}
use Rattle.std.proofs.Math.Seq.{drop-append_seam, take-append_seam}
use Rattle.md_math.specs.Lists.{up_to}
use Rattle.md_math.proofs.Builders.{up_to-split, length-up_to}

-- the first n + 1 of a list are the first n, and the one behind them
pub take-more : {X : Type 0} → (xs : List X) (n : ℕ) (x : X) → slice_get xs n ≡ Some x → take (suc n) xs ≡ take n xs ++ x ∷ []
take-more [] n x e = absurd (none-some x e)
take-more (a ∷ xs) zero x e = (let same : a ≡ x = cc in ap (λ y. y ∷ []) same)
take-more (a ∷ xs) (suc n) x e = ap (λ ys. a ∷ ys) (take-more xs n x e)

-- the place r of the list x
pub get_or-up_to_at : {X : Type 0} → (n x r : ℕ) (f : ℕ → List X) (d : X) → x < n → r < length (f x) → get_or (up_to n f) (length (up_to x f) + r) d ≡ get_or (f x) r d
get_or-up_to_at n x r f d b l =
    let (rest, e) = up_to-split n x f b in
    let inside : length (up_to x f) + r < length (up_to x f ++ f x) = omega (arith, length-append (up_to x f) (f x)) in
    ap (λ xs. get_or xs (length (up_to x f) + r) d) e
    ∙ get_or_append_left (up_to x f ++ f x) rest d (length (up_to x f) + r) inside
    ∙ get_or-append-add (up_to x f) (f x) r d

-- the list x is inside
pub up_to-inside : {X : Type 0} → (n x : ℕ) (f : ℕ → List X) → x < n → length (up_to x f) + length (f x) ≤ length (up_to n f)
up_to-inside n x f b =
    let (rest, e) = up_to-split n x f b in
    omega (arith, ap length e, length-append (up_to x f ++ f x) rest, length-append (up_to x f) (f x))

-- in which list a place is, and where in it
pub record IsPlaceIn {X : Type 0} (n : ℕ) (f : ℕ → List X) (r : ℕ) : Type 0 where
  pub which : ℕ
  pub place : ℕ
  pub below : which < n
  pub inside : place < length (f which)
  pub is : r ≡ length (up_to which f) + place

pub place_in : {X : Type 0} → (n : ℕ) (f : ℕ → List X) (r : ℕ) → r < length (up_to n f) → IsPlaceIn n f r
place_in zero f r h = absurd (omega arith)
place_in (suc n) f r h =
    elim (cases_lt r (length (up_to n f))) [
      | inl l ↦
          let p : IsPlaceIn n f r = place_in n f r l in
          record { which = p.which; place = p.place; below = (let b : p.which < n = p.below in omega arith); inside = p.inside; is = p.is }
      | inr l ↦ record {
        which = n;
        place = r - length (up_to n f);
        below = omega arith;
        inside = omega (arith, length-append (up_to n f) (f n));
        is = omega arith;
      }
    ]

-- the list i, cut out, where the lists have one length
pub cut-up_to : {X : Type 0} → (n m i : ℕ) (f : ℕ → List X) → ((k : ℕ) → k < n → length (f k) ≡ m) → i < n → take m (drop (i * m) (up_to n f)) ≡ f i
cut-up_to n m i f h b =
    let (rest, e) = up_to-split n i f b in
    let before : length (up_to i f) ≡ i * m = length-up_to i m f (λ k l. h k (omega arith)) in
    ap (λ xs. take m (drop (i * m) xs)) (e ∙ append_assoc (up_to i f) (f i) rest)
    ∙ ap (λ p. take m (drop p (up_to i f ++ (f i ++ rest)))) (sym before)
    ∙ ap (take m) (drop-append_seam (up_to i f) (f i ++ rest))
    ∙ ap (λ p. take p (f i ++ rest)) (sym (h i b))
    ∙ take-append_seam (f i) rest

-- ---- sums of lists of natural numbers

pub sum-cons : (x : ℕ) (xs : List ℕ) → sum (x ∷ xs) ≡ x + sum xs
sum-cons x xs = sum_by-cons (λ y. y) x xs
