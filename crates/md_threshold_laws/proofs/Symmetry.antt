-- Sums over profiles of a function in which bidders may change places are the same for each bidder.
use Rattle.std.proofs.Common.{◌≡◌, ℕ, zero, suc, ◌+◌, ◌-◌, ◌*◌, ◌/◌, min, ◌<◌, ℤ, pos, ◌*ℤ◌, Bool, if◌then◌else◌, List, [], ◌∷◌, ◌++◌, length, refl, sym, ap, ap₂, ◌∙◌, arith}
use Rattle.std.specs.Prelude.{slice_index}
use Rattle.std.proofs.Math.ListN.{replicate}
use Rattle.md_math.specs.Products.{product_by}
use Rattle.md_math.specs.Sums.{total_by}
use Rattle.md_math.proofs.SumLaws.{sum_to-same}
use Rattle.md_space.specs.AllProfiles.{profiles_of}
use Rattle.md_space.specs.ByType.{where_type}
use Rattle.md_space.proofs.TypeSums.{total-same, by_first, first_only, behind_first}
use Rattle.md_iron_values.specs.Pools.{Pools}
use Rattle.md_threshold_laws.specs.Rule.{is_ahead, is_beside, count_to, draw_count, chance}

-- two neighbours may change places
pub record IsSymmetric (f : List ℕ → ℤ) : Type 0 where
  pub swap : (front : List ℕ) (x y : ℕ) (rest : List ℕ) → f (front ++ (x ∷ y ∷ rest)) ≡ f (front ++ (y ∷ x ∷ rest))

-- ---- sums over profiles

first-two : (k : ℕ) (ks : List ℕ) (v : ℕ) (f : List ℕ → ℤ) → IsSymmetric f → v < k → total_by (where_type 1 v f) (profiles_of (k ∷ k ∷ ks)) ≡ total_by (where_type 0 v f) (profiles_of (k ∷ k ∷ ks))
first-two k ks v f s b =
    behind_first k (k ∷ ks) 0 v f
    ∙ sum_to-same k _ (λ c. total_by (λ t. f (v ∷ c ∷ t)) (profiles_of ks)) (λ c l. first_only k v ks (λ t. f (c ∷ t)) b ∙ total-same ks _ _ (λ t p. s.swap [] c v t))
    ∙ sym (first_only k v (k ∷ ks) f b ∙ by_first k ks (λ t. f (v ∷ t)))

-- whichever bidder has the value
pub any-place : (n k v i : ℕ) (f : List ℕ → ℤ) → IsSymmetric f → v < k → i < n → total_by (where_type i v f) (profiles_of (replicate n k)) ≡ total_by (where_type 0 v f) (profiles_of (replicate n k))
any-place n k v zero f s b l = refl
any-place zero k v (suc i) f s b l = absurd (omega (arith, l))
any-place (suc zero) k v (suc i) f s b l = absurd (omega (arith, l))
any-place (suc (suc n)) k v (suc i) f s b l =
    behind_first k (replicate (suc n) k) i v f
    ∙ sum_to-same k _ (λ c. total_by (where_type 0 v (λ t. f (c ∷ t))) (profiles_of (replicate (suc n) k)))
    (λ c h. any-place (suc n) k v i (λ t. f (c ∷ t)) (record { swap = λ front x y rest. s.swap (c ∷ front) x y rest }) b (omega (arith, l)))
    ∙ sym (behind_first k (replicate (suc n) k) 0 v f)
    ∙ first-two k (replicate n k) v f s b

-- ---- functions in which bidders may change places

product-swap : (f : ℕ → ℕ) (front : List ℕ) (x y : ℕ) (rest : List ℕ) → product_by f (front ++ (x ∷ y ∷ rest)) ≡ product_by f (front ++ (y ∷ x ∷ rest))
product-swap f [] x y rest = turned (f x) (f y) (product_by f rest)
  where
    turned : (x y p : ℕ) → x * (y * p) ≡ y * (x * p)
    turned x y p = omega arith
product-swap f (z ∷ front) x y rest = ap (λ p. f z * p) (product-swap f front x y rest)

count-front : (n : ℕ) (test : ℕ → Bool) → count_to (suc n) test ≡ (if test 0 then 1 else 0) + count_to n (λ i. test (suc i))
count-front zero test = turned (if test 0 then 1 else 0)
  where
    turned : (x : ℕ) → 0 + x ≡ x + 0
    turned x = omega arith
count-front (suc n) test = ap (λ c. c + (if test (suc n) then 1 else 0)) (count-front n test) ∙ grouped (if test 0 then 1 else 0) (count_to n (λ i. test (suc i))) (if test (suc n) then 1 else 0)
  where
    grouped : (x c y : ℕ) → (x + c) + y ≡ x + (c + y)
    grouped x c y = omega arith

-- how many values of a list pass a test
abbrev count_in : (ℕ → Bool) → List ℕ → ℕ
count_in test [] = 0
count_in test (x ∷ t) = (if test x then 1 else 0) + count_in test t

count-list : (test : ℕ → Bool) (t : List ℕ) → count_to (length t) (λ i. test (slice_index t i)) ≡ count_in test t
count-list test [] = refl
count-list test (x ∷ t) = count-front (length t) (λ i. test (slice_index (x ∷ t) i)) ∙ ap (λ c. (if test x then 1 else 0) + c) (count-list test t)

count-swap : (test : ℕ → Bool) (front : List ℕ) (x y : ℕ) (rest : List ℕ) → count_in test (front ++ (x ∷ y ∷ rest)) ≡ count_in test (front ++ (y ∷ x ∷ rest))
count-swap test [] x y rest = turned (if test x then 1 else 0) (if test y then 1 else 0) (count_in test rest)
  where
    turned : (x y c : ℕ) → x + (y + c) ≡ y + (x + c)
    turned x y c = omega arith
count-swap test (z ∷ front) x y rest = ap (λ c. (if test z then 1 else 0) + c) (count-swap test front x y rest)

places-swap : (test : ℕ → Bool) (front : List ℕ) (x y : ℕ) (rest : List ℕ)
    → count_to (length (front ++ (x ∷ y ∷ rest))) (λ i. test (slice_index (front ++ (x ∷ y ∷ rest)) i)) ≡ count_to (length (front ++ (y ∷ x ∷ rest))) (λ i. test (slice_index (front ++ (y ∷ x ∷ rest)) i))
places-swap test front x y rest = count-list test (front ++ (x ∷ y ∷ rest)) ∙ count-swap test front x y rest ∙ sym (count-list test (front ++ (y ∷ x ∷ rest)))

-- the weight of a profile, times the chance with a value
abbrev pub weighed_chance : (ℕ → ℕ) → ℕ → Pools → ℕ → List ℕ → ℤ
weighed_chance weight units pools v t = pos (product_by weight t) *ℤ pos (chance units pools t v)

pub symmetric-chance : (weight : ℕ → ℕ) (units : ℕ) (pools : Pools) (v : ℕ) → IsSymmetric (weighed_chance weight units pools v)
symmetric-chance weight units pools v = record {
  swap = λ front x y rest.
      ap₂ (λ p c. pos p *ℤ pos c) (product-swap weight front x y rest)
      (ap₂ (λ m a. min m (units - a) * (draw_count / m)) (places-swap (is_beside pools v) front x y rest) (places-swap (is_ahead pools v) front x y rest));
}
