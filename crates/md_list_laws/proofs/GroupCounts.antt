-- How many bidders are members of a group.
use Rattle.std.proofs.Common.{◌≡◌, ℕ, zero, suc, ◌+◌, ◌<◌, ◌==◌, ℤ, pos, ◌+ℤ◌, ◌*ℤ◌, Bool, if◌then◌else◌, List, [], ◌∷◌, ◌++◌, length, replicate, refl, sym, ap, ap₂, ◌∙◌, arith, eq-eqb, ne_eqb}
use Rattle.std.specs.Prelude.{slice_index_or}
use Rattle.std.proofs.lemmas.Int.{ints}
use Rattle.md_math.specs.Sums.{sum_to, total_by}
use Rattle.md_math.proofs.Ring.{linear, ring, *ℤ-one, *ℤ-zero}
use Rattle.md_math.proofs.TotalLaws.{total_by-append, total_by-places}
use Rattle.md_setting.specs.Grouped.{Group, GroupedAuction, no_group, group_at, group_of, members_from, members, bidder_count}
use Rattle.md_list_laws.proofs.Groups.{of_group}

total-replicate : (f : ℕ → ℤ) (n x : ℕ) → total_by f (replicate n x) ≡ pos n *ℤ f x
total-replicate f zero x = (let e : pos 0 *ℤ f x ≡ pos 0 = simp ring in sym e)
total-replicate f (suc n) x = ap (λ z. f x +ℤ z) (total-replicate f n x) ∙ one_more n (f x)
  where
    one_more : (n : ℕ) (z : ℤ) → z +ℤ pos n *ℤ z ≡ pos (suc n) *ℤ z
    one_more n z = (let e : pos (suc n) ≡ pos 1 +ℤ pos n = omega (arith, ints) in let f : z +ℤ pos n *ℤ z ≡ (pos 1 +ℤ pos n) *ℤ z = simp ring (omega (arith, linear)) in f ∙ ap (λ y. y *ℤ z) (sym e))

-- 1 for a member of group k
abbrev is_in : ℕ → ℕ → ℤ
is_in k j = if j == k then pos 1 else pos 0

none-after : (k s : ℕ) (groups : List Group) → k < s → total_by (is_in k) (members_from s groups) ≡ pos 0
none-after k s [] b = refl
none-after k s (group ∷ others) b =
    total_by-append (is_in k) (replicate group.count s) (members_from (suc s) others)
    ∙ ap₂ (λ x y. x +ℤ y)
    (total-replicate (is_in k) group.count s ∙ ap (λ (t : Bool). pos group.count *ℤ (if t then pos 1 else pos 0)) (ne_eqb s k (λ e. omega (arith, e, b))) ∙ *ℤ-zero (pos group.count))
    (none-after k (suc s) others (omega (arith, b)))

count-from : (s d : ℕ) (groups : List Group) → total_by (is_in (s + d)) (members_from s groups) ≡ pos (slice_index_or groups d no_group).count
count-from s d [] = refl
count-from s zero (group ∷ others) =
    let e : s ≡ s + zero = omega arith in
    total_by-append (is_in (s + zero)) (replicate group.count s) (members_from (suc s) others)
    ∙ ap₂ (λ x y. x +ℤ y)
    (total-replicate (is_in (s + zero)) group.count s ∙ ap (λ (t : Bool). pos group.count *ℤ (if t then pos 1 else pos 0)) (eq-eqb s (s + zero) e) ∙ *ℤ-one (pos group.count))
    (none-after (s + zero) (suc s) others (omega arith))
    ∙ alone (pos group.count)
  where
    alone : (z : ℤ) → z +ℤ pos 0 ≡ z
    alone z = omega (arith, linear)
count-from s (suc d) (group ∷ others) =
    let e : s + suc d ≡ suc s + d = omega arith in
    total_by-append (is_in (s + suc d)) (replicate group.count s) (members_from (suc s) others)
    ∙ ap₂ (λ x y. x +ℤ y)
    (total-replicate (is_in (s + suc d)) group.count s
    ∙ ap (λ (t : Bool). pos group.count *ℤ (if t then pos 1 else pos 0)) (ne_eqb s (s + suc d) (λ f. omega (arith, f)))
    ∙ *ℤ-zero (pos group.count))
    (ap (λ k. total_by (is_in k) (members_from (suc s) others)) e ∙ count-from (suc s) d others)
    ∙ alone (pos (slice_index_or others d no_group).count)
  where
    alone : (z : ℤ) → pos 0 +ℤ z ≡ z
    alone z = omega (arith, linear)

pub group-count : (a : GroupedAuction) (k : ℕ) → of_group (bidder_count a) (group_of a) k (λ i. pos 1) ≡ pos (group_at a k).count
group-count a k =
    let e : k ≡ 0 + k = omega arith in
    sym (total_by-places (is_in k) (members a) 0) ∙ ap (λ j. total_by (is_in j) (members a)) e ∙ count-from 0 k a.groups
