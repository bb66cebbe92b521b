-- The list of all profiles has each profile at its rank.
use Rattle.std.proofs.Common.{◌≡◌, ℕ, ◌*◌, ◌/◌, ◌%◌, ◌<◌, List, [], ◌∷◌, map, length, get_or, refl, sym, ap, subst, ◌∙◌, ℤ, All}
use Rattle.std.proofs.lemmas.Nat.{div_below, mod_below, div-add-mod'}
use Rattle.md_math.specs.Lists.{list_to, up_to}
use Rattle.md_math.specs.Sums.{sum_to, total_by}
use Rattle.md_math.proofs.Builders.{length-list_to, get_or-list_to, same_list_to, map-list_to, length-up_to, get_or-up_to, All-list_to}
use Rattle.md_math.proofs.TotalLaws.{total_by-list_to}
use Rattle.md_space.specs.Profiles.{profile_count, IsProfile, profile_at}
use Rattle.md_space.specs.AllProfiles.{profiles_of}
use Rattle.md_space.proofs.Ranks.{pos-factor, profile_at-IsProfile}

pub profiles_of-by_rank : (sizes : List ℕ) → profiles_of sizes ≡ list_to (profile_count sizes) (profile_at sizes)
profiles_of-by_rank [] = refl
profiles_of-by_rank (n ∷ ns) =
    let k = profile_count ns in
    let f = λ (a : ℕ). map (λ (t : List ℕ). a ∷ t) (profiles_of ns) in
    let e : (a : ℕ) → f a ≡ list_to k (λ r. a ∷ profile_at ns r) =
    λ a. ap (map (λ (t : List ℕ). a ∷ t)) (profiles_of-by_rank ns) ∙ map-list_to (λ t. a ∷ t) k (profile_at ns) in
    let long : (a : ℕ) → a < n → length (f a) ≡ k = λ a h. ap length (e a) ∙ length-list_to k (λ r. a ∷ profile_at ns r) in
    same_list_to (up_to n f) (n * k) (profile_at (n ∷ ns)) [] (length-up_to n k f long)
    (λ p h.
    let pos_k : 0 < k = pos-factor p n k h in
    let row : p / k < n = div_below p k n pos_k h in
    let column : p % k < k = mod_below p k pos_k in
    ap (λ q. get_or (up_to n f) q []) (sym (div-add-mod' p k))
    ∙ get_or-up_to n k (p / k) (p % k) f [] long row column
    ∙ ap (λ l. get_or l (p % k) []) (e (p / k))
    ∙ get_or-list_to k (λ r. p / k ∷ profile_at ns r) (p % k) [] column)

-- a sum over all profiles goes over the ranks
pub total_by-profiles : (sizes : List ℕ) (f : List ℕ → ℤ) → total_by f (profiles_of sizes) ≡ sum_to (profile_count sizes) (λ r. f (profile_at sizes r))
total_by-profiles sizes f =
    ap (total_by f) (profiles_of-by_rank sizes) ∙ total_by-list_to f (profile_count sizes) (profile_at sizes)

-- each listed profile is one
pub All-profiles_of : (sizes : List ℕ) → All (IsProfile sizes) (profiles_of sizes)
All-profiles_of sizes =
    subst (All (IsProfile sizes)) (sym (profiles_of-by_rank sizes))
    (All-list_to (IsProfile sizes) (profile_count sizes) (profile_at sizes) (λ r h. profile_at-IsProfile sizes r h))
