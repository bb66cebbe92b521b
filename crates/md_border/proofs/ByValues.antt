-- Sums over all profiles of an auction by weight, for each bidder with each of its values.
use Rattle.std.proofs.Common.{◌≡◌, ℕ, ◌<◌, ℤ, pos, ◌+ℤ◌, ◌-ℤ◌, ◌*ℤ◌, neg_ℤ, Bool, true, false, ◌==◌, if◌then◌else◌, List, length, get_or, refl, sym, ap, ap₂, ◌∙◌, arith}
use Rattle.std.specs.Prelude.{slice_index}
use Rattle.std.proofs.lemmas.List.{length-replicate, get_or-replicate}
use Rattle.md_math.specs.Sums.{sum_to, total_by}
use Rattle.md_math.proofs.Ring.{*ℤ-+ℤ, *ℤ-neg_ℤ, *ℤ_left_comm}
use Rattle.md_math.proofs.SumLaws.{sum_to-same, sum_to-*ℤ, sum_to-swap}
use Rattle.md_math.proofs.TotalLaws.{total_by-+ℤ, total_by-sub, total_by-sum_to}
use Rattle.md_space.specs.AllProfiles.{profiles_of}
use Rattle.md_space.specs.ByType.{where_type}
use Rattle.md_space.proofs.TypeSums.{total-same, total_given-same, total_given-*ℤ, by_type}
use Rattle.md_setting.specs.Setting.{GeneralSetting}
use Rattle.md_setting.specs.Meaning.{sizes_of, weight_of}
use Rattle.md_setting.specs.Auction.{SymmetricAuction, value_count}
use Rattle.md_setting.specs.General.{general_of}
use Rattle.md_setting.proofs.GeneralLaws.{sizes_of-general}
use Rattle.md_mech.specs.Utility.{weighted_given}
use Rattle.md_border.specs.Worth.{surplus_of}

-- ---- sizes

pub count-general : (a : SymmetricAuction) → length (sizes_of (general_of a)) ≡ a.bidders
count-general a = ap length (sizes_of-general a) ∙ length-replicate a.bidders (value_count a)

pub kinds-general : (a : SymmetricAuction) (i : ℕ) → i < a.bidders → get_or (sizes_of (general_of a)) i 0 ≡ value_count a
kinds-general a i b = ap (λ xs. get_or xs i 0) (sizes_of-general a) ∙ get_or-replicate a.bidders i (value_count a) 0 b

-- ---- one bidder with one value

pub given-+ℤ : (s : GeneralSetting) (i v : ℕ) (f g : List ℕ → ℤ) → weighted_given s i v (λ t. f t +ℤ g t) ≡ weighted_given s i v f +ℤ weighted_given s i v g
given-+ℤ s i v f g =
    total-same (sizes_of s) _ (λ t. where_type i v (λ u. weight_of s u *ℤ f u) t +ℤ where_type i v (λ u. weight_of s u *ℤ g u) t)
    (λ t p. split (slice_index t i == v) (weight_of s t) (f t) (g t))
    ∙ total_by-+ℤ (where_type i v (λ u. weight_of s u *ℤ f u)) (where_type i v (λ u. weight_of s u *ℤ g u)) (profiles_of (sizes_of s))
  where
    split : (b : Bool) (w x y : ℤ) → (if b then w *ℤ (x +ℤ y) else pos 0) ≡ (if b then w *ℤ x else pos 0) +ℤ (if b then w *ℤ y else pos 0)
    split true w x y = *ℤ-+ℤ w x y
    split false w x y = refl

pub given-*ℤ : (s : GeneralSetting) (i v : ℕ) (c : ℤ) (f : List ℕ → ℤ) → weighted_given s i v (λ t. c *ℤ f t) ≡ c *ℤ weighted_given s i v f
given-*ℤ s i v c f =
    total_given-same (sizes_of s) i v (λ t. weight_of s t *ℤ (c *ℤ f t)) (λ t. c *ℤ (weight_of s t *ℤ f t)) (λ t p e. *ℤ_left_comm (weight_of s t) c (f t))
    ∙ total_given-*ℤ (sizes_of s) i v c (λ t. weight_of s t *ℤ f t)

pub given-both : (s : GeneralSetting) (i v : ℕ) (x y : ℤ) (f g : List ℕ → ℤ) → weighted_given s i v (λ t. x *ℤ f t +ℤ y *ℤ g t) ≡ x *ℤ weighted_given s i v f +ℤ y *ℤ weighted_given s i v g
given-both s i v x y f g =
    given-+ℤ s i v (λ t. x *ℤ f t) (λ t. y *ℤ g t) ∙ ap₂ (λ p q. p +ℤ q) (given-*ℤ s i v x f) (given-*ℤ s i v y g)

pub given-sub : (s : GeneralSetting) (i v : ℕ) (c : ℤ) (f g : List ℕ → ℤ) → weighted_given s i v (λ t. c *ℤ f t -ℤ g t) ≡ c *ℤ weighted_given s i v f -ℤ weighted_given s i v g
given-sub s i v c f g =
    total-same (sizes_of s) _ (λ t. where_type i v (λ u. weight_of s u *ℤ (c *ℤ f u)) t -ℤ where_type i v (λ u. weight_of s u *ℤ g u) t)
    (λ t p. split (slice_index t i == v) (weight_of s t) (c *ℤ f t) (g t))
    ∙ total_by-sub (where_type i v (λ u. weight_of s u *ℤ (c *ℤ f u))) (where_type i v (λ u. weight_of s u *ℤ g u)) (profiles_of (sizes_of s))
    ∙ ap (λ z. z -ℤ weighted_given s i v g) (given-*ℤ s i v c f)
  where
    split : (b : Bool) (w x y : ℤ) → (if b then w *ℤ (x -ℤ y) else pos 0) ≡ (if b then w *ℤ x else pos 0) -ℤ (if b then w *ℤ y else pos 0)
    split true w x y = *ℤ-+ℤ w x (neg_ℤ y) ∙ ap (λ z. w *ℤ x +ℤ z) (*ℤ-neg_ℤ w y)
    split false w x y = refl

-- ---- all bidders with all values

-- each bidder has some value at each profile
pub over_bidders : (a : SymmetricAuction) (f : ℕ → List ℕ → ℤ)
    → total_by (λ t. sum_to a.bidders (λ i. f i t)) (profiles_of (sizes_of (general_of a)))
    ≡ sum_to (value_count a) (λ v. sum_to a.bidders (λ i. total_by (where_type i v (f i)) (profiles_of (sizes_of (general_of a)))))
over_bidders a f =
    let n = a.bidders in
    let kinds = value_count a in
    let sizes = sizes_of (general_of a) in
    total_by-sum_to n (λ t i. f i t) (profiles_of sizes)
    ∙ sum_to-same n _ (λ i. sum_to kinds (λ v. total_by (where_type i v (f i)) (profiles_of sizes)))
    (λ i b.
    by_type sizes i (f i) (omega (arith, b, count-general a))
    ∙ ap (λ k. sum_to k (λ v. total_by (where_type i v (f i)) (profiles_of sizes))) (kinds-general a i b))
    ∙ sum_to-swap n kinds (λ i v. total_by (where_type i v (f i)) (profiles_of sizes))

-- what bidders add to the designer's objective where they win and pay by any functions of the profile, value by value
pub gains-by_values : (a : SymmetricAuction) (win pay : ℕ → List ℕ → ℤ)
    → total_by (λ t. weight_of (general_of a) t *ℤ sum_to a.bidders (λ i. surplus_of a (slice_index t i) *ℤ win i t +ℤ a.revenue *ℤ pay i t)) (profiles_of (sizes_of (general_of a)))
    ≡ sum_to (value_count a) (λ v. sum_to a.bidders (λ i. surplus_of a v *ℤ weighted_given (general_of a) i v (win i) +ℤ a.revenue *ℤ weighted_given (general_of a) i v (pay i)))
gains-by_values a win pay =
    let n = a.bidders in
    let s = general_of a in
    let all = profiles_of (sizes_of s) in
    total-same (sizes_of s) _ (λ t. sum_to n (λ i. weight_of s t *ℤ (surplus_of a (slice_index t i) *ℤ win i t +ℤ a.revenue *ℤ pay i t)))
    (λ t p. sym (sum_to-*ℤ n (weight_of s t) (λ i. surplus_of a (slice_index t i) *ℤ win i t +ℤ a.revenue *ℤ pay i t)))
    ∙ over_bidders a (λ i t. weight_of s t *ℤ (surplus_of a (slice_index t i) *ℤ win i t +ℤ a.revenue *ℤ pay i t))
    ∙ sum_to-same (value_count a) _ _
    (λ v c. sum_to-same n _ _
    (λ i b.
    total_given-same (sizes_of s) i v _ (λ t. weight_of s t *ℤ (surplus_of a v *ℤ win i t +ℤ a.revenue *ℤ pay i t))
    (λ t p e. ap (λ u. weight_of s t *ℤ (surplus_of a u *ℤ win i t +ℤ a.revenue *ℤ pay i t)) e)
    ∙ given-both s i v (surplus_of a v) a.revenue (win i) (pay i)))
