-- Sums over all profiles by the type of an agent.
use Rattle.std.proofs.Common.{◌≡◌, ◌≢◌, ℕ, zero, suc, ◌<◌, inl, inr, ℤ, pos, ◌*ℤ◌, List, [], ◌∷◌, map, length, get_or, refl, sym, ◌∙◌, arith}
use Rattle.std.specs.Prelude.{slice_index, ◌==◌}
use Rattle.std.proofs.lemmas.Bool.{cases_Bool, eqb-true, eq-eqb, ne_eqb}
use Rattle.md_math.specs.Sums.{sum_to, total_by}
use Rattle.md_math.proofs.Ring.{*ℤ-zero}
use Rattle.md_math.proofs.SumLaws.{sum_to-same, sum_to-single}
use Rattle.md_math.proofs.TotalLaws.{total_by-same, total_by-zero, total_by-up_to, total_by-map, total_by-sum_to, total_by-*ℤ}
use Rattle.md_space.specs.Profiles.{IsProfile, replaced}
use Rattle.md_space.specs.AllProfiles.{profiles_of}
use Rattle.md_space.specs.ByType.{where_type}
use Rattle.md_space.proofs.Ranks.{report-below}
use Rattle.md_space.proofs.InOrder.{All-profiles_of}

pub where-here : (i a : ℕ) (f : List ℕ → ℤ) (t : List ℕ) → slice_index t i ≡ a → where_type i a f t ≡ f t
where-here i a f t e = rw (eq-eqb (slice_index t i) a e) refl

pub where-elsewhere : (i a : ℕ) (f : List ℕ → ℤ) (t : List ℕ) → slice_index t i ≢ a → where_type i a f t ≡ pos 0
where-elsewhere i a f t d = rw (ne_eqb (slice_index t i) a d) refl

-- only the profiles with the type count
pub where-same : (i a : ℕ) (f g : List ℕ → ℤ) (t : List ℕ) → (slice_index t i ≡ a → f t ≡ g t) → where_type i a f t ≡ where_type i a g t
where-same i a f g t h = elim (cases_Bool (slice_index t i == a)) [
  | inl here ↦ rw here (h (eqb-true (slice_index t i) a here))
  | inr away ↦ rw away refl
]

pub where-*ℤ : (i a : ℕ) (c : ℤ) (f : List ℕ → ℤ) (t : List ℕ) → where_type i a (λ u. c *ℤ f u) t ≡ c *ℤ where_type i a f t
where-*ℤ i a c f t = elim (cases_Bool (slice_index t i == a)) [ inl here ↦ rw here refl | inr away ↦ rw away (sym (*ℤ-zero c)) ]

-- ---- sums over all profiles

-- two functions that agree at each profile
pub total-same : (sizes : List ℕ) (f g : List ℕ → ℤ) → ((t : List ℕ) → IsProfile sizes t → f t ≡ g t) → total_by f (profiles_of sizes) ≡ total_by g (profiles_of sizes)
total-same sizes f g h = total_by-same f g (profiles_of sizes) (λ k d l. h (get_or (profiles_of sizes) k d) (All-profiles_of sizes k d l))

-- two functions that agree at each profile in which the agent has the type
pub total_given-same : (sizes : List ℕ) (i a : ℕ) (f g : List ℕ → ℤ) → ((t : List ℕ) → IsProfile sizes t → slice_index t i ≡ a → f t ≡ g t)
    → total_by (where_type i a f) (profiles_of sizes) ≡ total_by (where_type i a g) (profiles_of sizes)
total_given-same sizes i a f g h = total-same sizes (where_type i a f) (where_type i a g) (λ t p. where-same i a f g t (h t p))

pub total_given-*ℤ : (sizes : List ℕ) (i a : ℕ) (c : ℤ) (f : List ℕ → ℤ)
    → total_by (where_type i a (λ u. c *ℤ f u)) (profiles_of sizes) ≡ c *ℤ total_by (where_type i a f) (profiles_of sizes)
total_given-*ℤ sizes i a c f = total-same sizes _ _ (λ t p. where-*ℤ i a c f t) ∙ total_by-*ℤ c (where_type i a f) (profiles_of sizes)

-- by the first agent's type
pub by_first : (n : ℕ) (ns : List ℕ) (f : List ℕ → ℤ) → total_by f (profiles_of (n ∷ ns)) ≡ sum_to n (λ c. total_by (λ t. f (c ∷ t)) (profiles_of ns))
by_first n ns f =
    total_by-up_to f n (λ c. map (λ (t : List ℕ). c ∷ t) (profiles_of ns))
    ∙ sum_to-same n (λ c. total_by f (map (λ (t : List ℕ). c ∷ t) (profiles_of ns))) (λ c. total_by (λ t. f (c ∷ t)) (profiles_of ns)) (λ c h. total_by-map f (λ (t : List ℕ). c ∷ t) (profiles_of ns))

-- of the first agent's types only one counts
pub first_only : (n a : ℕ) (ns : List ℕ) (f : List ℕ → ℤ) → a < n → total_by (where_type 0 a f) (profiles_of (n ∷ ns)) ≡ total_by (λ t. f (a ∷ t)) (profiles_of ns)
first_only n a ns f h =
    by_first n ns (where_type 0 a f)
    ∙ sum_to-single n a (λ c. total_by (λ t. where_type 0 a f (c ∷ t)) (profiles_of ns)) h
    (λ c b d. total_by-zero (λ t. where_type 0 a f (c ∷ t)) (profiles_of ns) (λ k e l. where-elsewhere 0 a f (c ∷ get_or (profiles_of ns) k e) d))
    ∙ total_by-same (λ t. where_type 0 a f (a ∷ t)) (λ t. f (a ∷ t)) (profiles_of ns) (λ k e l. where-here 0 a f (a ∷ get_or (profiles_of ns) k e) refl)

-- a type of an agent behind the first one
pub behind_first : (n : ℕ) (ns : List ℕ) (i a : ℕ) (f : List ℕ → ℤ)
    → total_by (where_type (suc i) a f) (profiles_of (n ∷ ns)) ≡ sum_to n (λ c. total_by (where_type i a (λ t. f (c ∷ t))) (profiles_of ns))
behind_first n ns i a f = by_first n ns (where_type (suc i) a f)

-- by an agent's type
pub by_type : (sizes : List ℕ) (i : ℕ) (f : List ℕ → ℤ) → i < length sizes
    → total_by f (profiles_of sizes) ≡ sum_to (get_or sizes i 0) (λ a. total_by (where_type i a f) (profiles_of sizes))
by_type sizes i f h =
    total-same sizes f (λ t. sum_to (get_or sizes i 0) (λ a. where_type i a f t)) (λ t p. sym (one t p))
    ∙ total_by-sum_to (get_or sizes i 0) (λ t a. where_type i a f t) (profiles_of sizes)
  where
    one : (t : List ℕ) → IsProfile sizes t → sum_to (get_or sizes i 0) (λ a. where_type i a f t) ≡ f t
    one t p =
        sum_to-single (get_or sizes i 0) (get_or t i 0) (λ a. where_type i a f t) (report-below sizes t i p h)
        (λ a b d. where-elsewhere i a f t (λ e. d (sym e)))
        ∙ where-here i (get_or t i 0) f t refl

-- a sum over the profiles in which an agent has one type, told as a sum over those in which it has another
pub swapped : (sizes : List ℕ) (i a b : ℕ) (f : List ℕ → List ℕ → ℤ) → i < length sizes → a < get_or sizes i 0 → b < get_or sizes i 0
    → total_by (where_type i b (λ t. f (replaced t i a) t)) (profiles_of sizes) ≡ total_by (where_type i a (λ t. f t (replaced t i b))) (profiles_of sizes)
swapped [] i a b f h p q = absurd (omega arith)
swapped (n ∷ ns) zero a b f h p q =
    first_only n b ns (λ t. f (replaced t 0 a) t) q ∙ sym (first_only n a ns (λ t. f t (replaced t 0 b)) p)
swapped (n ∷ ns) (suc i) a b f h p q =
    behind_first n ns i b (λ t. f (replaced t (suc i) a) t)
    ∙ sum_to-same n (λ c. total_by (where_type i b (λ t. f (c ∷ replaced t i a) (c ∷ t))) (profiles_of ns))
    (λ c. total_by (where_type i a (λ t. f (c ∷ t) (c ∷ replaced t i b))) (profiles_of ns))
    (λ c l. swapped ns i a b (λ u v. f (c ∷ u) (c ∷ v)) (omega arith) p q)
    ∙ sym (behind_first n ns i a (λ t. f t (replaced t (suc i) b)))
