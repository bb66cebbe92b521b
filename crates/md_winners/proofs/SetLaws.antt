-- The sets of at most so many bidders: how large they are, and that each stands at one place among them.
use Rattle.std.proofs.Common.{◌≡◌, ℕ, zero, suc, ◌+◌, ◌-◌, ◌<◌, ◌≤◌, ◌⊎◌, pos, ◌+ℤ◌, Bool, true, false, if◌then◌else◌, List, [], ◌∷◌, length, map, refl, sym, ap, subst, ◌∙◌, inl, inr, arith, add-one, length-append}
use mathlib.Core.List.{head-eq_of_cons-eq, tail-eq_of_cons-eq}
use Rattle.std.proofs.lemmas.Bool.{cases_lt, false≢true}
use Rattle.std.proofs.lemmas.Int.{ints}
use Rattle.std.proofs.lemmas.List.{length-map, get_or-map, get_or_append_left, get_or-append-add}
use Rattle.md_math.specs.Sums.{sum_to}
use Rattle.md_math.proofs.SumLaws.{sum_to-same, sum_to-front}
use Rattle.md_winners.specs.Sets.{holds, size, sets_of, set_count, set_at}

-- ---- where the sets stand

set_count-none : (n : ℕ) → set_count (suc n) zero ≡ set_count n zero
set_count-none n = length-map (sets_of n zero) (λ others. false ∷ others)

set_count-more : (n units : ℕ) → set_count (suc n) (suc units) ≡ set_count n (suc units) + set_count n units
set_count-more n units =
    omega (arith, length-append (map (λ others. false ∷ others) (sets_of n (suc units))) (map (λ others. true ∷ others) (sets_of n units)), length-map (sets_of n (suc units)) (λ others. false ∷ others), length-map (sets_of n units) (λ others. true ∷ others))

-- one bidder more makes no fewer sets
set_count-le : (n units : ℕ) → set_count n units ≤ set_count (suc n) units
set_count-le n zero = omega (arith, set_count-none n)
set_count-le n (suc units) = omega (arith, set_count-more n units)

-- first those without the first bidder
set_at-outside : (n units place : ℕ) → place < set_count n units → set_at (suc n) units place ≡ false ∷ set_at n units place
set_at-outside n zero place b = get_or-map (λ others. false ∷ others) (sets_of n zero) place [] [] b
set_at-outside n (suc units) place b =
    get_or_append_left (map (λ others. false ∷ others) (sets_of n (suc units))) (map (λ others. true ∷ others) (sets_of n units)) [] place (omega (arith, length-map (sets_of n (suc units)) (λ others. false ∷ others)))
    ∙ get_or-map (λ others. false ∷ others) (sets_of n (suc units)) place [] [] b

-- and then those with it
set_at-inside : (n units place : ℕ) → place < set_count n units → set_at (suc n) (suc units) (set_count n (suc units) + place) ≡ true ∷ set_at n units place
set_at-inside n units place b =
    let front : List (List Bool) = map (λ others. false ∷ others) (sets_of n (suc units)) in
    ap (λ k. set_at (suc n) (suc units) (k + place)) (sym (length-map (sets_of n (suc units)) (λ others. false ∷ others)))
    ∙ get_or-append-add front (map (λ others. true ∷ others) (sets_of n units)) place []
    ∙ get_or-map (λ others. true ∷ others) (sets_of n units) place [] [] b

-- a place is among the sets without the first bidder, or among those with it
abbrev Part : ℕ → ℕ → ℕ → Type 0
Part n units p =
    ((p < set_count n (suc units)) × (set_at (suc n) (suc units) p ≡ false ∷ set_at n (suc units) p))
    ⊎ ((rest : ℕ) × (rest < set_count n units) × (p ≡ set_count n (suc units) + rest) × (set_at (suc n) (suc units) p ≡ true ∷ set_at n units rest))

part_of : (n units p : ℕ) → p < set_count (suc n) (suc units) → Part n units p
part_of n units p b = elim (cases_lt p (set_count n (suc units))) [
  | inl c ↦ inl (c, set_at-outside n (suc units) p c)
  | inr c ↦
      let rest : ℕ = p - set_count n (suc units) in
      let d : rest < set_count n units = omega (arith, set_count-more n units) in
      let e : p ≡ set_count n (suc units) + rest = omega arith in
      inr (rest, d, e, ap (set_at (suc n) (suc units)) e ∙ set_at-inside n units rest d)
]

-- what holds of the empty set, and of a set with one more bidder, outside or inside, holds of each of the sets
each_set : (P : ℕ → ℕ → List Bool → Type 0) → ((units : ℕ) → P zero units []) → ((n units : ℕ) (set : List Bool) → P n units set → P (suc n) units (false ∷ set))
    → ((n units : ℕ) (set : List Bool) → P n units set → P (suc n) (suc units) (true ∷ set)) → (n units place : ℕ) → place < set_count n units → P n units (set_at n units place)
each_set P none outside inside zero units zero b = none units
each_set P none outside inside zero units (suc place) b = absurd (omega arith)
each_set P none outside inside (suc n) zero place b =
    let c : place < set_count n zero = omega (arith, set_count-none n) in
    subst (P (suc n) zero) (sym (set_at-outside n zero place c)) (outside n zero (set_at n zero place) (each_set P none outside inside n zero place c))
each_set P none outside inside (suc n) (suc units) place b = elim (part_of n units place b) [
  | inl (c, e) ↦ subst (P (suc n) (suc units)) (sym e) (outside n (suc units) (set_at n (suc units) place) (each_set P none outside inside n (suc units) place c))
  | inr (rest, c, _, e) ↦ subst (P (suc n) (suc units)) (sym e) (inside n units (set_at n units rest) (each_set P none outside inside n units rest c))
]

-- ---- how large they are

-- each is a set of n bidders
pub length-set_at : (n units place : ℕ) → place < set_count n units → length (set_at n units place) ≡ n
length-set_at = each_set (λ n units set. length set ≡ n) (λ units. refl) (λ n units set e. ap suc e) (λ n units set e. ap suc e)

-- with at most so many of them inside
pub size-set_at : (n units place : ℕ) → place < set_count n units → size (set_at n units place) ≤ units
size-set_at = each_set (λ n units set. size set ≤ units) (λ units. omega arith) (λ n units set b. omega arith) (λ n units set b. omega arith)

-- a size is the sum of 1 for each bidder inside
pub size-sum : (set : List Bool) → pos (size set) ≡ sum_to (length set) (λ i. if holds set i then pos 1 else pos 0)
size-sum [] = refl
size-sum (inside ∷ others) =
    split inside (size others)
    ∙ ap (λ z. (if inside then pos 1 else pos 0) +ℤ z)
    (size-sum others ∙ sum_to-same (length others) _ (λ i. if holds (inside ∷ others) (i + 1) then pos 1 else pos 0) (λ i b. ap (λ k. if holds (inside ∷ others) k then pos 1 else pos 0) (sym (add-one i))))
    ∙ sym (sum_to-front (length others) (λ i. if holds (inside ∷ others) i then pos 1 else pos 0))
  where
    split : (t : Bool) (k : ℕ) → pos ((if t then 1 else 0) + k) ≡ (if t then pos 1 else pos 0) +ℤ pos k
    split true k = omega (arith, ints)
    split false k = omega (arith, ints)

-- also where the number of bidders has another name
pub size-sum_to : (n : ℕ) (set : List Bool) → length set ≡ n → pos (size set) ≡ sum_to n (λ i. if holds set i then pos 1 else pos 0)
size-sum_to n set e = size-sum set ∙ ap (λ k. sum_to k (λ i. if holds set i then pos 1 else pos 0)) e

pub size-le-length : (set : List Bool) → size set ≤ length set
size-le-length [] = omega arith
size-le-length (true ∷ others) = omega (arith, size-le-length others)
size-le-length (false ∷ others) = omega (arith, size-le-length others)

-- ---- each set has one place

-- where a set stands among those of at most so many of n bidders
pub record IsListed (n units : ℕ) (set : List Bool) : Type 0 where
  pub place : ℕ
  pub below : place < set_count n units
  pub is : set_at n units place ≡ set

-- each set of n bidders that is no larger has a place
pub place_of : (n units : ℕ) (set : List Bool) → length set ≡ n → size set ≤ units → IsListed n units set
place_of zero units [] e b = record { place = 0; below = omega arith; is = refl }
place_of zero units (inside ∷ others) e b = absurd (omega arith)
place_of (suc n) units [] e b = absurd (omega arith)
place_of (suc n) units (false ∷ others) e b =
    let p : IsListed n units others = place_of n units others (omega arith) (omega arith) in
    record {
      place = p.place;
      below = omega (arith, p.below, set_count-le n units);
      is = set_at-outside n units p.place p.below ∙ ap (λ set. false ∷ set) p.is;
    }
place_of (suc n) zero (true ∷ others) e b = absurd (omega arith)
place_of (suc n) (suc units) (true ∷ others) e b =
    let p : IsListed n units others = place_of n units others (omega arith) (omega arith) in
    record {
      place = set_count n (suc units) + p.place;
      below = omega (arith, p.below, set_count-more n units);
      is = set_at-inside n units p.place p.below ∙ ap (λ set. true ∷ set) p.is;
    }

-- where there are as many units as bidders, each set of them has one
pub place_of_any : (n units : ℕ) (set : List Bool) → length set ≡ n → n ≤ units → IsListed n units set
place_of_any n units set e b = place_of n units set e (omega (arith, size-le-length set))

-- two places of one set, of at most one more of one more bidder, where each set of fewer has one place
same_place-more : (n units p q : ℕ)
    → (p < set_count n (suc units) → q < set_count n (suc units) → set_at n (suc units) p ≡ set_at n (suc units) q → p ≡ q)
    → ((j k : ℕ) → j < set_count n units → k < set_count n units → set_at n units j ≡ set_at n units k → j ≡ k)
    → Part n units p → Part n units q → set_at (suc n) (suc units) p ≡ set_at (suc n) (suc units) q → p ≡ q
same_place-more n units p q outside inside (inl (l, f)) (inl (m, g)) e = outside l m (tail-eq_of_cons-eq (sym f ∙ e ∙ g))
same_place-more n units p q outside inside (inl (l, f)) (inr (k, m, i, g)) e = absurd (false≢true (head-eq_of_cons-eq (sym f ∙ e ∙ g)))
same_place-more n units p q outside inside (inr (j, l, h, f)) (inl (m, g)) e = absurd (false≢true (head-eq_of_cons-eq (sym g ∙ sym e ∙ f)))
same_place-more n units p q outside inside (inr (j, l, h, f)) (inr (k, m, i, g)) e =
    let same : j ≡ k = inside j k l m (tail-eq_of_cons-eq (sym f ∙ e ∙ g)) in
    omega arith

-- the place is the only one
pub same_place : (n units p q : ℕ) → p < set_count n units → q < set_count n units → set_at n units p ≡ set_at n units q → p ≡ q
same_place zero units p q b c e = omega arith
same_place (suc n) zero p q b c e =
    let l : p < set_count n zero = omega (arith, set_count-none n) in
    let m : q < set_count n zero = omega (arith, set_count-none n) in
    same_place n zero p q l m (tail-eq_of_cons-eq (sym (set_at-outside n zero p l) ∙ e ∙ set_at-outside n zero q m))
same_place (suc n) (suc units) p q b c e =
    same_place-more n units p q (λ l m. same_place n (suc units) p q l m) (λ j k l m. same_place n units j k l m) (part_of n units p b) (part_of n units q c) e

-- ---- the empty set is the first

pub set_count-positive : (n units : ℕ) → 0 < set_count n units
set_count-positive zero units = omega arith
set_count-positive (suc n) units = omega (arith, set_count-positive n units, set_count-le n units)

pub first-empty : (n units i : ℕ) → holds (set_at n units 0) i ≡ false
first-empty zero units i = refl
first-empty (suc n) units zero = ap (λ set. holds set zero) (set_at-outside n units 0 (set_count-positive n units))
first-empty (suc n) units (suc i) = ap (λ set. holds set (suc i)) (set_at-outside n units 0 (set_count-positive n units)) ∙ first-empty n units i
