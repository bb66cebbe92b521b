-- Sums over all profiles that ask only how many bidders have a value that passes a test, where bidders' values are independent.
use Rattle.std.proofs.Common.{◌≡◌, ℕ, zero, suc, ◌+◌, ◌<◌, ℤ, pos, ◌+ℤ◌, ◌*ℤ◌, Bool, true, false, if◌then◌else◌, List, [], ◌∷◌, ◌++◌, length, refl, sym, ap, ap₂, ◌∙◌, subst, arith}
use Rattle.std.specs.Prelude.{slice_index}
use Rattle.std.proofs.lemmas.List.{get_or_append_left, get_or_push}
use Rattle.md_math.specs.Lists.{list_to}
use Rattle.md_math.specs.Sums.{sum_to, total_by}
use Rattle.md_math.proofs.Builders.{length-list_to}
use Rattle.md_math.proofs.Ring.{linear, ring}
use Rattle.md_math.proofs.SumLaws.{sum_to-same, sum_to-+ℤ, sum_to-*ℤ}
use Rattle.md_math.proofs.TotalLaws.{total_by-*ℤ}
use Rattle.md_space.specs.AllProfiles.{profiles_of}
use Rattle.md_space.specs.Profiles.{IsProfile}
use Rattle.md_space.proofs.Ranks.{length-IsProfile}
use Rattle.md_space.proofs.TypeSums.{total-same, by_first}
use Rattle.md_bidders.specs.Products.{product_below}
use Rattle.md_bidders.proofs.ProductLaws.{product_below-same}
use Rattle.md_list.specs.Closed.{times_factor, product_numbers}
use Rattle.md_list.specs.Rule.{count_to}
use Rattle.md_list.proofs.CountLaws.{count-same}

-- ---- all profiles by the last bidder's value

pub by_last : (ns : List ℕ) (m : ℕ) (f : List ℕ → ℤ) → total_by f (profiles_of (ns ++ m ∷ [])) ≡ total_by (λ t. sum_to m (λ c. f (t ++ c ∷ []))) (profiles_of ns)
by_last [] m f =
    by_first m [] f ∙ sum_to-same m _ (λ c. f (c ∷ [])) (λ c b. alone (f (c ∷ []))) ∙ sym (alone (sum_to m (λ c. f (c ∷ []))))
  where
    alone : (z : ℤ) → z +ℤ pos 0 ≡ z
    alone z = omega (arith, linear)
by_last (n ∷ ns) m f =
    by_first n (ns ++ m ∷ []) f
    ∙ sum_to-same n _ (λ c. total_by (λ t. sum_to m (λ d. f (c ∷ (t ++ d ∷ [])))) (profiles_of ns)) (λ c b. by_last ns m (λ t. f (c ∷ t)))
    ∙ sym (by_first n ns (λ t. sum_to m (λ d. f (t ++ d ∷ []))))

-- ---- a product of factors

pub numbers-same : (n : ℕ) (out has out' has' : ℕ → ℤ) (h : ℕ) → ((i : ℕ) → i < n → out i ≡ out' i) → ((i : ℕ) → i < n → has i ≡ has' i) → product_numbers n out has h ≡ product_numbers n out' has' h
numbers-same zero out has out' has' zero e f = refl
numbers-same zero out has out' has' (suc h) e f = refl
numbers-same (suc n) out has out' has' zero e f =
    ap₂ (λ x y. x *ℤ y) (e n (omega arith)) (numbers-same n out has out' has' zero (λ i b. e i (omega (arith, b))) (λ i b. f i (omega (arith, b))))
numbers-same (suc n) out has out' has' (suc h) e f =
    let rest = λ (k : ℕ). numbers-same n out has out' has' k (λ i b. e i (omega (arith, b))) (λ i b. f i (omega (arith, b))) in
    ap₂ (λ x y. x +ℤ y)
    (ap₂ (λ x y. x *ℤ y) (e n (omega arith)) (rest (suc h)))
    (ap₂ (λ x y. x *ℤ y) (f n (omega arith)) (rest h))

numbers-past : (n : ℕ) (out has : ℕ → ℤ) (h : ℕ) → n < h → product_numbers n out has h ≡ pos 0
numbers-past zero out has zero b = absurd (omega (arith, b))
numbers-past zero out has (suc h) b = refl
numbers-past (suc n) out has zero b = absurd (omega (arith, b))
numbers-past (suc n) out has (suc h) b =
    ap₂ (λ x y. out n *ℤ x +ℤ has n *ℤ y) (numbers-past n out has (suc h) (omega (arith, b))) (numbers-past n out has h (omega (arith, b)))
    ∙ none (out n) (has n)
  where
    none : (x y : ℤ) → x *ℤ pos 0 +ℤ y *ℤ pos 0 ≡ pos 0
    none x y = simp ring (omega (arith, linear))

-- with one factor more
factor-sum : (m : ℕ) (o s : ℤ) (numbers g : ℕ → ℤ)
    → sum_to (suc m) (λ h. times_factor o s numbers h *ℤ g h) ≡ sum_to m (λ h. numbers h *ℤ (g h *ℤ o +ℤ g (suc h) *ℤ s)) +ℤ (o *ℤ numbers m) *ℤ g m
factor-sum zero o s numbers g = refl
factor-sum (suc m) o s numbers g =
    ap (λ z. z +ℤ (o *ℤ numbers (suc m) +ℤ s *ℤ numbers m) *ℤ g (suc m)) (factor-sum m o s numbers g)
    ∙ parts (sum_to m (λ h. numbers h *ℤ (g h *ℤ o +ℤ g (suc h) *ℤ s))) (numbers m) (numbers (suc m)) (g m) (g (suc m))
  where
    parts : (z n k x y : ℤ) → (z +ℤ (o *ℤ n) *ℤ x) +ℤ (o *ℤ k +ℤ s *ℤ n) *ℤ y ≡ (z +ℤ n *ℤ (x *ℤ o +ℤ y *ℤ s)) +ℤ (o *ℤ k) *ℤ y
    parts z n k x y = simp ring (omega (arith, linear))

factor-sum_all : (n : ℕ) (out has g : ℕ → ℤ)
    → sum_to (suc n) (λ h. product_numbers n out has h *ℤ (g h *ℤ out n +ℤ g (suc h) *ℤ has n)) ≡ sum_to (suc (suc n)) (λ h. product_numbers (suc n) out has h *ℤ g h)
factor-sum_all n out has g =
    sym
    (factor-sum (suc n) (out n) (has n) (product_numbers n out has) g
    ∙ ap (λ z. sum_to (suc n) (λ h. product_numbers n out has h *ℤ (g h *ℤ out n +ℤ g (suc h) *ℤ has n)) +ℤ (out n *ℤ z) *ℤ g (suc n)) (numbers-past n out has (suc n) (omega arith))
    ∙ none (sum_to (suc n) (λ h. product_numbers n out has h *ℤ (g h *ℤ out n +ℤ g (suc h) *ℤ has n))) (out n) (g (suc n)))
  where
    none : (z o g : ℤ) → z +ℤ (o *ℤ pos 0) *ℤ g ≡ z
    none z o g = simp ring (omega (arith, linear))

-- ---- profiles

-- the bidders of a list of profiles one longer
longer : (n : ℕ) (t : List ℕ) (c i : ℕ) → length t ≡ n → i < n → slice_index (t ++ c ∷ []) i ≡ slice_index t i
longer n t c i e b = get_or_append_left t (c ∷ []) 0 i (omega (arith, e, b))

last-of : (n : ℕ) (t : List ℕ) (c : ℕ) → length t ≡ n → slice_index (t ++ c ∷ []) n ≡ c
last-of n t c e = get_or_push t c 0 n e

module _ (own : ℕ → ℕ → ℤ) (size : ℕ → ℕ) where
  -- the weight of the values of the first n bidders
  abbrev pub joint : ℕ → List ℕ → ℤ
  joint n t = product_below n (λ i. own i (slice_index t i))

  joint-longer : (n : ℕ) (t : List ℕ) (c : ℕ) → length t ≡ n → joint (suc n) (t ++ c ∷ []) ≡ joint n t *ℤ own n c
  joint-longer n t c e =
      ap₂ (λ x y. x *ℤ y) (product_below-same n _ _ (λ i b. ap (own i) (longer n t c i e b))) (ap (own n) (last-of n t c e))

  shape : (n : ℕ) (t : List ℕ) → IsProfile (list_to n size) t → length t ≡ n
  shape n t p = length-IsProfile (list_to n size) t p ∙ length-list_to n size

  -- all profiles together weigh the product of what all values of each bidder weigh
  pub joint-total : (n : ℕ) → total_by (joint n) (profiles_of (list_to n size)) ≡ product_below n (λ i. sum_to (size i) (own i))
  joint-total zero = omega (arith, linear)
  joint-total (suc n) =
      by_last (list_to n size) (size n) (joint (suc n))
      ∙ total-same (list_to n size) _ (λ t. sum_to (size n) (own n) *ℤ joint n t)
      (λ t p. sum_to-same (size n) _ _ (λ c b. joint-longer n t c (shape n t p)) ∙ sum_to-*ℤ (size n) (joint n t) (own n) ∙ turned (joint n t) (sum_to (size n) (own n)))
      ∙ total_by-*ℤ (sum_to (size n) (own n)) (joint n) (profiles_of (list_to n size))
      ∙ ap (λ z. sum_to (size n) (own n) *ℤ z) (joint-total n)
      ∙ turned (sum_to (size n) (own n)) (product_below n (λ i. sum_to (size i) (own i)))
    where
      turned : (x y : ℤ) → x *ℤ y ≡ y *ℤ x
      turned x y = simp ring

  module _ (test : ℕ → ℕ → Bool) where
    -- how many of the first n bidders have a value that passes
    abbrev pub passing : ℕ → List ℕ → ℕ
    passing n t = count_to n (λ i. test i (slice_index t i))

    -- the weight of a bidder's values that pass, and of those that do not
    abbrev pub passed : ℕ → ℤ
    passed i = sum_to (size i) (λ v. if test i v then own i v else pos 0)

    abbrev pub failed : ℕ → ℤ
    failed i = sum_to (size i) (λ v. if test i v then pos 0 else own i v)

    passing-longer : (n : ℕ) (t : List ℕ) (c : ℕ) → length t ≡ n → passing (suc n) (t ++ c ∷ []) ≡ passing n t + (if test n c then 1 else 0)
    passing-longer n t c e =
        ap₂ (λ x (y : Bool). x + (if y then 1 else 0)) (count-same n _ _ (λ i b. ap (test i) (longer n t c i e b))) (ap (test n) (last-of n t c e))

    one-term : (b : Bool) (w o : ℤ) (g : ℕ → ℤ) (k j : ℕ) → j ≡ k + (if b then 1 else 0) → (w *ℤ o) *ℤ g j ≡ w *ℤ (g k *ℤ (if b then pos 0 else o) +ℤ g (suc k) *ℤ (if b then o else pos 0))
    one-term true w o g k j e = (let s : j ≡ suc k = omega (arith, e) in ap (λ h. (w *ℤ o) *ℤ g h) s ∙ parts w o (g k) (g (suc k)))
      where
        parts : (w o x y : ℤ) → (w *ℤ o) *ℤ y ≡ w *ℤ (x *ℤ pos 0 +ℤ y *ℤ o)
        parts w o x y = simp ring (omega (arith, linear))
    one-term false w o g k j e = (let s : j ≡ k = omega (arith, e) in ap (λ h. (w *ℤ o) *ℤ g h) s ∙ parts w o (g k) (g (suc k)))
      where
        parts : (w o x y : ℤ) → (w *ℤ o) *ℤ x ≡ w *ℤ (x *ℤ o +ℤ y *ℤ pos 0)
        parts w o x y = simp ring (omega (arith, linear))

    -- over the last bidder's values
    last-sum : (n : ℕ) (g : ℕ → ℤ) (t : List ℕ) → length t ≡ n
        → sum_to (size n) (λ c. joint (suc n) (t ++ c ∷ []) *ℤ g (passing (suc n) (t ++ c ∷ []))) ≡ joint n t *ℤ (g (passing n t) *ℤ failed n +ℤ g (suc (passing n t)) *ℤ passed n)
    last-sum n g t e =
        let k = passing n t in
        let no = λ (c : ℕ). g k *ℤ (if test n c then pos 0 else own n c) in
        let yes = λ (c : ℕ). g (suc k) *ℤ (if test n c then own n c else pos 0) in
        sum_to-same (size n) _ (λ c. joint n t *ℤ (no c +ℤ yes c))
        (λ c b.
        ap (λ w. w *ℤ g (passing (suc n) (t ++ c ∷ []))) (joint-longer n t c e)
        ∙ one-term (test n c) (joint n t) (own n c) g k (passing (suc n) (t ++ c ∷ [])) (passing-longer n t c e))
        ∙ sum_to-*ℤ (size n) (joint n t) (λ c. no c +ℤ yes c)
        ∙ ap (λ z. joint n t *ℤ z)
        (sum_to-+ℤ (size n) no yes
        ∙ ap₂ (λ x y. x +ℤ y) (sum_to-*ℤ (size n) (g k) (λ c. if test n c then pos 0 else own n c)) (sum_to-*ℤ (size n) (g (suc k)) (λ c. if test n c then own n c else pos 0)))

    -- The profiles in which so many bidders have a value that passes weigh a coefficient of the product of all bidders' factors.
    pub passing-sum : (n : ℕ) (g : ℕ → ℤ) → total_by (λ t. joint n t *ℤ g (passing n t)) (profiles_of (list_to n size)) ≡ sum_to (suc n) (λ h. product_numbers n failed passed h *ℤ g h)
    passing-sum zero g = omega (arith, linear)
    passing-sum (suc n) g =
        by_last (list_to n size) (size n) (λ t. joint (suc n) t *ℤ g (passing (suc n) t))
        ∙ total-same (list_to n size) _ (λ t. joint n t *ℤ (g (passing n t) *ℤ failed n +ℤ g (suc (passing n t)) *ℤ passed n)) (λ t p. last-sum n g t (shape n t p))
        ∙ passing-sum n (λ h. g h *ℤ failed n +ℤ g (suc h) *ℤ passed n)
        ∙ factor-sum_all n failed passed g
