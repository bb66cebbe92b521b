-- Lists of values with given counts, one value at a time.
use Rattle.std.proofs.Common.{◌≡◌, ◌≢◌, ℕ, zero, suc, ◌+◌, ◌-◌, ◌*◌, ◌<◌, ℤ, pos, ◌+ℤ◌, ◌*ℤ◌, Bool, true, false, ◌==◌, if◌then◌else◌, List, ◌∷◌, refl, sym, ap, ap₂, ◌∙◌, subst, arith, inl, inr, eq-eqb, ne_eqb, ◌&&◌}
use Rattle.std.proofs.lemmas.Bool.{cases_eq}
use Rattle.std.proofs.lemmas.Bool.Decides.{nat_tests}
use Rattle.std.proofs.lemmas.Int.{ints}
use Rattle.std.proofs.Math.IntN.{pos-*ℤ-pos}
use Rattle.std.proofs.Math.ListN.{replicate}
use Rattle.md_math.specs.Products.{product_by}
use Rattle.md_math.specs.Sums.{sum_to, total_by}
use Rattle.md_math.proofs.Ring.{*ℤ-zero}
use Rattle.md_math.proofs.SumLaws.{sum_to-same, sum_to-but}
use Rattle.md_math.proofs.TotalLaws.{total_by-*ℤ, total_by-zero}
use Rattle.md_space.proofs.TypeSums.{total-same, by_first}
use Rattle.md_setting.specs.Refusals.{all_below}
use Rattle.md_setting.proofs.TestLaws.{all_below-fails, all_below-same}
use Rattle.md_counts.specs.Weights.{count_in, value_lists}

-- whether each kind comes as often in a list of values as c says
abbrev pub agrees : ℕ → (ℕ → ℕ) → List ℕ → Bool
agrees kinds c values = all_below kinds (λ v. count_in v values == c v)

-- one less of v
abbrev pub less : (ℕ → ℕ) → ℕ → ℕ → ℕ
less c v u = if u == v then c u - 1 else c u

-- the weight of a list of values that agrees with c, and 0 for others
abbrev pub weigh : ℕ → (ℕ → ℕ) → (ℕ → ℕ) → List ℕ → ℤ
weigh kinds f c values = if agrees kinds c values then pos (product_by f values) else pos 0

-- the weight of all lists of so many values that agree with c
abbrev pub weight_with : ℕ → (ℕ → ℕ) → ℕ → (ℕ → ℕ) → ℤ
weight_with kinds f n c = total_by (weigh kinds f c) (value_lists n kinds)

-- that of those that begin with v and have so many more
abbrev pub weight_behind : ℕ → (ℕ → ℕ) → ℕ → (ℕ → ℕ) → ℕ → ℤ
weight_behind kinds f n c v = total_by (λ values. weigh kinds f c (v ∷ values)) (value_lists n kinds)

-- ---- tests

pub less-here : (c : ℕ → ℕ) (v : ℕ) → less c v v ≡ c v - 1
less-here c v = rw (eq-eqb v v refl) refl

pub less-elsewhere : (c : ℕ → ℕ) (v u : ℕ) → u ≢ v → less c v u ≡ c u
less-elsewhere c v u d = rw (ne_eqb u v d) refl

one_more_of : (a b : ℕ) → 0 < b → (1 + a == b) ≡ (a == b - 1)
one_more_of a b h = grind (arith, nat_tests)

none_more : (a b : ℕ) → (0 + a == b) ≡ (a == b)
none_more a b = let e : 0 + a ≡ a = omega arith in ap (λ n. n == b) e

count-here : (v : ℕ) (values : List ℕ) → count_in v (v ∷ values) ≡ 1 + count_in v values
count-here v values = rw (eq-eqb v v refl) refl

count-elsewhere : (u v : ℕ) (values : List ℕ) → v ≢ u → count_in u (v ∷ values) ≡ 0 + count_in u values
count-elsewhere u v values d = rw (ne_eqb v u d) refl

pub agrees-cons : (kinds : ℕ) (c : ℕ → ℕ) (v : ℕ) (values : List ℕ) → 0 < c v → agrees kinds c (v ∷ values) ≡ agrees kinds (less c v) values
agrees-cons kinds c v values p = all_below-same kinds _ _ (λ u b. at u)
  where
    at : (u : ℕ) → (count_in u (v ∷ values) == c u) ≡ (count_in u values == less c v u)
    at u =
        elim (cases_eq u v) [
          | inl e ↦
              let here : (count_in v (v ∷ values) == c v) ≡ (count_in v values == less c v v) =
              ap (λ n. n == c v) (count-here v values) ∙ one_more_of (count_in v values) (c v) p ∙ ap (λ n. count_in v values == n) (sym (less-here c v)) in
              subst (λ w. (count_in w (v ∷ values) == c w) ≡ (count_in w values == less c v w)) (sym e) here
          | inr d ↦
              ap (λ n. n == c u) (count-elsewhere u v values (λ e. d (sym e))) ∙ none_more (count_in u values) (c u) ∙ ap (λ n. count_in u values == n) (sym (less-elsewhere c v u d))
        ]

pub agrees-none : (kinds : ℕ) (c : ℕ → ℕ) (v : ℕ) (values : List ℕ) → v < kinds → c v ≡ 0 → agrees kinds c (v ∷ values) ≡ false
agrees-none kinds c v values b e =
    all_below-fails kinds v (λ u. count_in u (v ∷ values) == c u) b
    (ap₂ (λ m n. m == n) (count-here v values) e ∙ some (count_in v values))
  where
    some : (n : ℕ) → (1 + n == 0) ≡ false
    some n = grind (arith, nat_tests)

-- ---- weights

weigh-some : (kinds : ℕ) (f c : ℕ → ℕ) (v : ℕ) (values : List ℕ) → 0 < c v → weigh kinds f c (v ∷ values) ≡ pos (f v) *ℤ weigh kinds f (less c v) values
weigh-some kinds f c v values p =
    ap (λ b. if b then pos (product_by f (v ∷ values)) else pos 0) (agrees-cons kinds c v values p) ∙ times (agrees kinds (less c v) values)
  where
    times : (b : Bool) → (if b then pos (f v * product_by f values) else pos 0) ≡ pos (f v) *ℤ (if b then pos (product_by f values) else pos 0)
    times true = sym (pos-*ℤ-pos (f v) (product_by f values))
    times false = sym (*ℤ-zero (pos (f v)))

weigh-none : (kinds : ℕ) (f c : ℕ → ℕ) (v : ℕ) (values : List ℕ) → v < kinds → c v ≡ 0 → weigh kinds f c (v ∷ values) ≡ pos 0
weigh-none kinds f c v values b e = rw (agrees-none kinds c v values b e) refl

-- the lists that begin with v, by the counts of the others
pub behind-some : (kinds : ℕ) (f : ℕ → ℕ) (n : ℕ) (c : ℕ → ℕ) (v : ℕ) → 0 < c v → weight_behind kinds f n c v ≡ pos (f v) *ℤ weight_with kinds f n (less c v)
behind-some kinds f n c v p =
    total-same (replicate n kinds) (λ values. weigh kinds f c (v ∷ values)) (λ values. pos (f v) *ℤ weigh kinds f (less c v) values) (λ values q. weigh-some kinds f c v values p)
    ∙ total_by-*ℤ (pos (f v)) (weigh kinds f (less c v)) (value_lists n kinds)

pub behind-none : (kinds : ℕ) (f : ℕ → ℕ) (n : ℕ) (c : ℕ → ℕ) (v : ℕ) → v < kinds → c v ≡ 0 → weight_behind kinds f n c v ≡ pos 0
behind-none kinds f n c v b e =
    total_by-zero (λ values. weigh kinds f c (v ∷ values)) (value_lists n kinds) (λ k d l. weigh-none kinds f c v _ b e)

-- by the first value
pub weight_with-more : (kinds : ℕ) (f : ℕ → ℕ) (n : ℕ) (c : ℕ → ℕ) → weight_with kinds f (suc n) c ≡ sum_to kinds (λ v. weight_behind kinds f n c v)
weight_with-more kinds f n c = by_first kinds (replicate n kinds) (weigh kinds f c)

-- ---- sums of counts

pub less-sum : (kinds n : ℕ) (c : ℕ → ℕ) (v : ℕ) → v < kinds → 0 < c v → sum_to kinds (λ u. pos (c u)) ≡ pos (suc n) → sum_to kinds (λ u. pos (less c v u)) ≡ pos n
less-sum kinds n c v b p e =
    let all = sum_to-but kinds v (λ u. pos (c u)) b in
    let some = sum_to-but kinds v (λ u. pos (less c v u)) b in
    let same : sum_to kinds (λ u. if u == v then pos 0 else pos (less c v u)) ≡ sum_to kinds (λ u. if u == v then pos 0 else pos (c u)) =
    sum_to-same kinds _ _ (λ u l. others u) in
    let here : pos (less c v v) ≡ pos (c v - 1) = ap pos (less-here c v) in
    less_one (c v) n _ _ p (sym all ∙ e) (some ∙ ap₂ (λ y z. y +ℤ z) here same)
  where
    others : (u : ℕ) → (if u == v then pos 0 else pos (less c v u)) ≡ (if u == v then pos 0 else pos (c u))
    others u =
        elim (cases_eq u v) [
          | inl q ↦ rw (eq-eqb u v q) refl
          | inr d ↦ rw (ne_eqb u v d) refl
        ]

    less_one : (a n : ℕ) (rest whole : ℤ) → 0 < a → pos a +ℤ rest ≡ pos (suc n) → whole ≡ pos (a - 1) +ℤ rest → whole ≡ pos n
    less_one a n rest whole p e f = omega (arith, ints)
