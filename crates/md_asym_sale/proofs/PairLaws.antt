-- The pairs of an agent and one of its types by their numbers.
use Rattle.std.proofs.Common.{◌≡◌, ℕ, zero, suc, ◌+◌, ◌-◌, ◌<◌, ◌≤◌, true, false, List, [], ◌∷◌, length, get_or, take, nat_lt, refl, sym, ap, ◌∙◌, arith, inl, inr}
use Rattle.std.specs.List.{sum_by}
use Rattle.std.proofs.lemmas.Bool.{cases_lt}
use Rattle.std.proofs.lemmas.Bool.Decides.{nat_tests}
use Rattle.std.proofs.lemmas.List.{take_all}
use Rattle.std.proofs.lemmas.List.Sums.{sum_by-cons, sum_by_more}
use Rattle.md_asym_sale.specs.Pairs.{pair_count, pairs_before, pair_number, agent_of, kind_of, IsPair}

pub lt_true : (m n : ℕ) → m < n → nat_lt m n ≡ true
lt_true m n h = grind (arith, nat_tests)

pub lt_false : (m n : ℕ) → n ≤ m → nat_lt m n ≡ false
lt_false m n h = grind (arith, nat_tests)

-- ---- how many pairs come before

pub before-more : (sizes : List ℕ) (i : ℕ) → i < length sizes → pairs_before sizes (i + 1) ≡ pairs_before sizes i + get_or sizes i 0
before-more sizes i h = sum_by_more (λ n. n) sizes i 0 h

pub before-all : (sizes : List ℕ) (i : ℕ) → i ≡ length sizes → pairs_before sizes i ≡ pair_count sizes
before-all sizes i e = ap (sum_by (λ n. n)) (take_all i sizes (omega (arith, e)))

before-cons : (n : ℕ) (ns : List ℕ) (i : ℕ) → pairs_before (n ∷ ns) (suc i) ≡ n + pairs_before ns i
before-cons n ns i = sum_by-cons (λ m. m) n (take i ns)

pub count-cons : (n : ℕ) (ns : List ℕ) → pair_count (n ∷ ns) ≡ n + pair_count ns
count-cons n ns = sum_by-cons (λ m. m) n ns

before-next : (sizes : List ℕ) (i : ℕ) → i < length sizes → pairs_before sizes i + get_or sizes i 0 ≤ pair_count sizes
before-next [] i h = absurd (omega (arith, h))
before-next (n ∷ ns) zero h = (let none : pairs_before (n ∷ ns) zero ≡ 0 = refl in omega (arith, none, count-cons n ns))
before-next (n ∷ ns) (suc i) h = omega (arith, before-cons n ns i, count-cons n ns, before-next ns i (omega (arith, h)))

pub number-below : (sizes : List ℕ) (i a : ℕ) → i < length sizes → a < get_or sizes i 0 → pair_number sizes i a < pair_count sizes
number-below sizes i a h l = omega (arith, l, before-next sizes i h)

-- two types of one agent have two numbers
pub number-apart : (sizes : List ℕ) (i a b p q : ℕ) → p ≡ pair_number sizes i a → q ≡ pair_number sizes i b → (a ≡ b → ⊥) → p ≡ q → ⊥
number-apart sizes i a b p q e f apart same = apart (let e : a ≡ b = omega (arith, e, f, same) in e)

-- ---- the agent and the type of a pair

pub first-number : (n : ℕ) (ns : List ℕ) (a : ℕ) → pair_number (n ∷ ns) zero a ≡ a
first-number n ns a = (let none : pairs_before (n ∷ ns) zero ≡ 0 = refl in omega (arith, none))

pub next-number : (n : ℕ) (ns : List ℕ) (i a : ℕ) → pair_number (n ∷ ns) (suc i) a ≡ n + pair_number ns i a
next-number n ns i a = omega (arith, before-cons n ns i)

behind : (n q : ℕ) → n + q - n ≡ q
behind n q = omega arith

pub agent-of : (sizes : List ℕ) (i a : ℕ) → i < length sizes → a < get_or sizes i 0 → agent_of sizes (pair_number sizes i a) ≡ i
agent-of [] i a h l = absurd (omega (arith, h))
agent-of (n ∷ ns) zero a h l = ap (agent_of (n ∷ ns)) (first-number n ns a) ∙ rw (lt_true a n l) refl
agent-of (n ∷ ns) (suc i) a h l =
    let q = pair_number ns i a in
    ap (agent_of (n ∷ ns)) (next-number n ns i a)
    ∙ rw (lt_false (n + q) n (omega arith), behind n q) (ap suc (agent-of ns i a (omega (arith, h)) l))

pub kind-of : (sizes : List ℕ) (i a : ℕ) → i < length sizes → a < get_or sizes i 0 → kind_of sizes (pair_number sizes i a) ≡ a
kind-of [] i a h l = absurd (omega (arith, h))
kind-of (n ∷ ns) zero a h l = ap (kind_of (n ∷ ns)) (first-number n ns a) ∙ rw (lt_true a n l) refl
kind-of (n ∷ ns) (suc i) a h l =
    let q = pair_number ns i a in
    ap (kind_of (n ∷ ns)) (next-number n ns i a)
    ∙ rw (lt_false (n + q) n (omega arith), behind n q) (kind-of ns i a (omega (arith, h)) l)

pub pair-agent : (sizes : List ℕ) (p i a : ℕ) → IsPair sizes p i a → agent_of sizes p ≡ i
pair-agent sizes p i a is = ap (agent_of sizes) is.number ∙ agent-of sizes i a is.agent_in is.kind_in

pub pair-kind : (sizes : List ℕ) (p i a : ℕ) → IsPair sizes p i a → kind_of sizes p ≡ a
pair-kind sizes p i a is = ap (kind_of sizes) is.number ∙ kind-of sizes i a is.agent_in is.kind_in

-- the pair with a number has an agent and one of its types
pub pair-in : (sizes : List ℕ) (p : ℕ) → p < pair_count sizes → (agent_of sizes p < length sizes) × (kind_of sizes p < get_or sizes (agent_of sizes p) 0)
pair-in [] p h = absurd (let none : pair_count [] ≡ 0 = refl in omega (arith, h, none))
pair-in (n ∷ ns) p h = elim (cases_lt p n) [
  | inl l ↦ rw (lt_true p n l) (omega arith, l)
  | inr l ↦
      let (agent, kind) = pair-in ns (p - n) (omega (arith, h, l, count-cons n ns)) in
      rw (lt_false p n l) (omega (arith, agent), kind)
]
