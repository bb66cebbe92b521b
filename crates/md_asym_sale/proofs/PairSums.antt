-- Sums over the pairs, by agent and then by type, and over all profiles; and the number of the pair with an agent and a type.
use Rattle.std.proofs.Common.{◌≡◌, ℕ, zero, suc, ◌+◌, ◌-◌, ◌<◌, ◌≤◌, ℤ, pos, ◌+ℤ◌, ◌*ℤ◌, nat_lt, List, [], ◌∷◌, length, get_or, refl, sym, ap, ap₂, subst, ◌∙◌, arith, add-one, inl, inr}
use Rattle.std.proofs.lemmas.Bool.{cases_lt}
use Rattle.std.specs.Prelude.{slice_index}
use Rattle.md_math.specs.Sums.{sum_to, total_by}
use Rattle.md_math.proofs.SumLaws.{sum_to-join, sum_to-same}
use Rattle.md_math.proofs.TotalLaws.{total_by-sum_to}
use Rattle.md_space.specs.AllProfiles.{profiles_of}
use Rattle.md_space.specs.ByType.{where_type}
use Rattle.md_space.proofs.TypeSums.{by_type, total_given-same, total_given-*ℤ}
use Rattle.md_asym_sale.specs.Pairs.{pair_count, pairs_before, pair_number, agent_of, kind_of}
use Rattle.md_asym_sale.proofs.PairLaws.{before-more, before-all, pair-in, count-cons, next-number, first-number, lt_true, lt_false, agent-of, kind-of}

-- what a function of pairs adds to, over the types of an agent
abbrev pub of_agent : List ℕ → (ℕ → ℤ) → ℕ → ℤ
of_agent sizes f i = sum_to (get_or sizes i 0) (λ a. f (pair_number sizes i a))

nested : (sizes : List ℕ) (f : ℕ → ℤ) (k : ℕ) → k ≤ length sizes → sum_to (pairs_before sizes k) f ≡ sum_to k (of_agent sizes f)
nested sizes f zero h = (let none : pairs_before sizes zero ≡ 0 = refl in ap (λ n. sum_to n f) none)
nested sizes f (suc k) h =
    let more : pairs_before sizes (suc k) ≡ pairs_before sizes k + get_or sizes k 0 = subst (λ n. pairs_before sizes n ≡ pairs_before sizes k + get_or sizes k 0) (add-one k) (before-more sizes k (omega (arith, h))) in
    ap (λ n. sum_to n f) more
    ∙ sum_to-join (pairs_before sizes k) (get_or sizes k 0) f
    ∙ ap (λ z. z +ℤ of_agent sizes f k) (nested sizes f k (omega (arith, h)))

pub pairs-nested : (sizes : List ℕ) (f : ℕ → ℤ) → sum_to (pair_count sizes) f ≡ sum_to (length sizes) (of_agent sizes f)
pairs-nested sizes f = ap (λ n. sum_to n f) (sym (before-all sizes (length sizes) refl)) ∙ nested sizes f (length sizes) (omega arith)

pub number-of : (sizes : List ℕ) (p : ℕ) → p < pair_count sizes → pair_number sizes (agent_of sizes p) (kind_of sizes p) ≡ p
number-of [] p h = absurd (let none : pair_count [] ≡ 0 = refl in omega (arith, h, none))
number-of (n ∷ ns) p h = elim (cases_lt p n) [
  | inl l ↦ rw (lt_true p n l) (first-number n ns p)
  | inr l ↦ rw (lt_false p n l) (omega (arith, l, next-number n ns (agent_of ns (p - n)) (kind_of ns (p - n)), number-of ns (p - n) (omega (arith, h, l, count-cons n ns))))
]

-- each agent has some type at each profile: what its pairs have of f, so often as c says of each, it has over all profiles
pub by_pairs : (sizes : List ℕ) (c : ℕ → ℤ) (f : ℕ → List ℕ → ℤ)
    → sum_to (pair_count sizes) (λ p. c p *ℤ total_by (where_type (agent_of sizes p) (kind_of sizes p) (f (agent_of sizes p))) (profiles_of sizes))
    ≡ total_by (λ t. sum_to (length sizes) (λ i. c (pair_number sizes i (slice_index t i)) *ℤ f i t)) (profiles_of sizes)
by_pairs sizes c f =
    pairs-nested sizes given
    ∙ sum_to-same (length sizes) (of_agent sizes given) (λ i. total_by (has i) (profiles_of sizes)) at
    ∙ sym (total_by-sum_to (length sizes) (λ t i. has i t) (profiles_of sizes))
  where
    given : ℕ → ℤ
    given p = c p *ℤ total_by (where_type (agent_of sizes p) (kind_of sizes p) (f (agent_of sizes p))) (profiles_of sizes)

    has : ℕ → List ℕ → ℤ
    has i t = c (pair_number sizes i (slice_index t i)) *ℤ f i t

    one : (i a : ℕ) → i < length sizes → a < get_or sizes i 0 → given (pair_number sizes i a) ≡ total_by (where_type i a (has i)) (profiles_of sizes)
    one i a b l =
        ap₂ (λ j k. c (pair_number sizes i a) *ℤ total_by (where_type j k (f j)) (profiles_of sizes)) (agent-of sizes i a b l) (kind-of sizes i a b l)
        ∙ sym (total_given-*ℤ sizes i a (c (pair_number sizes i a)) (f i))
        ∙ total_given-same sizes i a (λ t. c (pair_number sizes i a) *ℤ f i t) (has i) (λ t p e. ap (λ k. c (pair_number sizes i k) *ℤ f i t) (sym e))

    at : (i : ℕ) → i < length sizes → of_agent sizes given i ≡ total_by (has i) (profiles_of sizes)
    at i b =
        sum_to-same (get_or sizes i 0) (λ a. given (pair_number sizes i a)) (λ a. total_by (where_type i a (has i)) (profiles_of sizes)) (λ a l. one i a b l)
        ∙ sym (by_type sizes i (has i) b)
