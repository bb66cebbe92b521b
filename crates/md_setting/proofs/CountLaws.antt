-- How the numbers of lists of counts come from each other.
use Rattle.std.proofs.Common.{◌≡◌, ℕ, zero, suc, ◌+◌, ◌-◌, ◌*◌, ◌<◌, ◌≤◌, ◌^◌, List, [], ◌∷◌, map, length, length-append, get_or, slice_index, slice_set, get_or-set_same, get_or-set_other, length-set, refl, sym, ap, ◌∙◌, subst, inl, inr, arith, add-one, true, false, nat_le, ◌==◌}
use Rattle.std.proofs.lemmas.Bool.{cases_eq}
use Rattle.std.proofs.lemmas.List.{length-map}
use Rattle.std.proofs.lemmas.Grind.{pow_more}
use Rattle.std.proofs.Math.Nat.{one-le-pow, pow-le-pow_right}
use Rattle.std.proofs.lemmas.Bool.Decides.{nat_tests}
use Rattle.std.proofs.Math.Pow.{pow_mono}
use Rattle.std.specs.List.{list_all}
use Rattle.md_math.specs.Lists.{up_to}
use Rattle.md_setting.proofs.TestLaws.{and_left, and_right}
use Rattle.md_setting.specs.CountLists.{count_lists}
use Rattle.md_setting.specs.Ways.{AreWays, AreWaysTo}

-- how long the first lists of some are together
abbrev lengths : ℕ → (ℕ → List (List ℕ)) → ℕ
lengths zero f = 0
lengths (suc n) f = lengths n f + length (f n)

length-up_to : (n : ℕ) (f : ℕ → List (List ℕ)) → length (up_to n f) ≡ lengths n f
length-up_to zero f = refl
length-up_to (suc n) f = omega (arith, length-append (up_to n f) (f n), length-up_to n f)

lengths-same : (n : ℕ) (f g : ℕ → List (List ℕ)) → ((k : ℕ) → k < n → length (f k) ≡ length (g k)) → lengths n f ≡ lengths n g
lengths-same zero f g h = refl
lengths-same (suc n) f g h = omega (arith, lengths-same n f g (λ k b. h k (omega arith)), h n (omega arith))

-- the first list apart from the others
lengths-first : (n : ℕ) (f : ℕ → List (List ℕ)) → lengths (suc n) f ≡ length (f 0) + lengths n (λ k. f (k + 1))
lengths-first zero f = omega arith
lengths-first (suc n) f = omega (arith, lengths-first n f, ap (λ k. length (f k)) (next n))
  where
    next : (m : ℕ) → suc m ≡ m + 1
    next m = omega arith

abbrev with_first : ℕ → ℕ → ℕ → List (List ℕ)
with_first bidders kinds first = map (λ others. first ∷ others) (count_lists (bidders - first) kinds)

with_first-length : (bidders kinds first : ℕ) → length (with_first bidders kinds first) ≡ length (count_lists (bidders - first) kinds)
with_first-length bidders kinds first = length-map (count_lists (bidders - first) kinds) (λ others. first ∷ others)

-- no bidder leaves one list
pub none : (kinds : ℕ) → length (count_lists 0 kinds) ≡ 1
none zero = refl
none (suc kinds) = length-map (count_lists 0 kinds) (λ others. 0 ∷ others) ∙ none kinds

-- of one bidder more and one kind more: the first kind has no bidder, or at least one
more : (bidders kinds : ℕ) → length (count_lists (suc bidders) (suc kinds)) ≡ length (count_lists bidders (suc kinds)) + length (count_lists (suc bidders) kinds)
more bidders kinds =
    let all : length (count_lists (suc bidders) (suc kinds)) ≡ lengths (suc (suc bidders)) (with_first (suc bidders) kinds) = length-up_to (suc (suc bidders)) (with_first (suc bidders) kinds) in
    let apart = lengths-first (suc bidders) (with_first (suc bidders) kinds) in
    let first : length (with_first (suc bidders) kinds 0) ≡ length (count_lists (suc bidders) kinds) = with_first-length (suc bidders) kinds 0 ∙ ap (λ m. length (count_lists m kinds)) (all_of bidders) in
    let others : lengths (suc bidders) (λ k. with_first (suc bidders) kinds (k + 1)) ≡ lengths (suc bidders) (with_first bidders kinds) =
    lengths-same (suc bidders) (λ k. with_first (suc bidders) kinds (k + 1)) (with_first bidders kinds)
    (λ k b. with_first-length (suc bidders) kinds (k + 1) ∙ ap (λ m. length (count_lists m kinds)) (less k b) ∙ sym (with_first-length bidders kinds k)) in
    let one : length (count_lists bidders (suc kinds)) ≡ lengths (suc bidders) (with_first bidders kinds) = length-up_to (suc bidders) (with_first bidders kinds) in
    omega (arith, all, apart, first, others, one)
  where
    less : (k : ℕ) → k < suc bidders → suc bidders - (k + 1) ≡ bidders - k
    less k b = omega arith

    all_of : (n : ℕ) → suc n - 0 ≡ suc n
    all_of n = omega arith

pub one_more : (bidders kinds : ℕ) → length (count_lists (bidders + 1) (kinds + 1)) ≡ length (count_lists bidders (kinds + 1)) + length (count_lists (bidders + 1) kinds)
one_more bidders kinds = rw (add-one bidders, add-one kinds) (more bidders kinds)

-- without kinds, some bidder leaves no list
nobody : (bidders : ℕ) → length (count_lists (suc bidders) 0) ≡ 0
nobody bidders = rw (test bidders) refl
  where
    test : (n : ℕ) → (suc n == 0) ≡ false
    test n = grind (arith, nat_tests)

-- there are few lists
pub few : (bidders kinds : ℕ) → length (count_lists bidders kinds) ≤ 2 ^ (bidders + kinds)
few zero kinds = let h : 1 ≤ 2 ^ (zero + kinds) = one-le-pow (zero + kinds) 2 (omega arith) in omega (arith, none kinds, h)
few (suc bidders) zero = omega (arith, nobody bidders)
few (suc bidders) (suc kinds) =
    let first : length (count_lists bidders (suc kinds)) ≤ 2 ^ (bidders + kinds + 1) = subst (λ n. length (count_lists bidders (suc kinds)) ≤ 2 ^ n) (same bidders kinds) (few bidders (suc kinds)) in
    let second : length (count_lists (suc bidders) kinds) ≤ 2 ^ (bidders + kinds + 1) = subst (λ n. length (count_lists (suc bidders) kinds) ≤ 2 ^ n) (same' bidders kinds) (few (suc bidders) kinds) in
    let double : 2 ^ (bidders + kinds + 1 + 1) ≡ 2 ^ (bidders + kinds + 1) * 2 = pow_more 2 (bidders + kinds + 1) in
    subst (λ n. length (count_lists (suc bidders) (suc kinds)) ≤ 2 ^ n) (sym (both bidders kinds)) (omega (arith, more bidders kinds, first, second, double))
  where
    same : (b k : ℕ) → b + suc k ≡ b + k + 1
    same b k = omega arith

    same' : (b k : ℕ) → suc b + k ≡ b + k + 1
    same' b k = omega arith

    both : (b k : ℕ) → suc b + suc k ≡ b + k + 1 + 1
    both b k = omega arith

-- ---- the table of ways

pub AreWaysTo-first : (kinds : ℕ) (ways : List ℕ) → AreWays 13 kinds ways → AreWaysTo 13 kinds 1 ways
AreWaysTo-first kinds ways h = record {
  size = h.size;
  done = λ bidders a b. (let zero_is : bidders ≡ 0 = omega arith in h.at bidders a ∙ ap (λ n. length (count_lists n kinds)) zero_is ∙ none kinds ∙ sym (ap (λ n. length (count_lists n (kinds + 1))) zero_is ∙ none (kinds + 1)));
  left = λ bidders a b. h.at bidders a;
}

pub AreWaysTo-more : (kinds place : ℕ) (ways : List ℕ) (x : ℕ) → 0 < place → place < 13 → AreWaysTo 13 kinds place ways → x ≡ slice_index ways place + slice_index ways (place - 1) → AreWaysTo 13 kinds (place + 1) (slice_set ways place x)
AreWaysTo-more kinds place ways x p l h e = record {
  size = length-set ways place x ∙ h.size;
  done = λ bidders a b.
      elim (cases_eq bidders place) [
        | inl same ↦
            subst (λ n. slice_index (slice_set ways place x) n ≡ length (count_lists n (kinds + 1))) (sym same)
            (get_or-set_same ways place x 0 (omega (arith, h.size)) ∙ e ∙ value)
        | inr o ↦ get_or-set_other ways place bidders x 0 o ∙ h.done bidders a (omega arith)
      ];
  left = λ bidders a b. get_or-set_other ways place bidders x 0 (λ q. omega arith) ∙ h.left bidders a (omega arith);
}
  where
    before : (place - 1) + 1 ≡ place
    before = omega arith

    value : slice_index ways place + slice_index ways (place - 1) ≡ length (count_lists place (kinds + 1))
    value =
        let here : slice_index ways place ≡ length (count_lists place kinds) = h.left place l (omega arith) in
        let less : slice_index ways (place - 1) ≡ length (count_lists (place - 1) (kinds + 1)) = h.done (place - 1) (omega arith) (omega arith) in
        let law : length (count_lists place (kinds + 1)) ≡ length (count_lists (place - 1) (kinds + 1)) + length (count_lists place kinds) =
        subst (λ n. length (count_lists n (kinds + 1)) ≡ length (count_lists (place - 1) (kinds + 1)) + length (count_lists n kinds)) before (one_more (place - 1) kinds) in
        omega (arith, here, less, law)

-- the sum is far below the greatest number of 32 bits
pub way_small : (kinds place : ℕ) (ways : List ℕ) → kinds < 12 → place < 13 → 0 < place → AreWaysTo 13 kinds place ways → slice_index ways place + slice_index ways (place - 1) < 2 ^ 32
way_small kinds place ways k l p h =
    let here : slice_index ways place ≤ 2 ^ (place + kinds) = subst (λ z. z ≤ 2 ^ (place + kinds)) (sym (h.left place l (omega arith))) (few place kinds) in
    let less : slice_index ways (place - 1) ≤ 2 ^ ((place - 1) + (kinds + 1)) = subst (λ z. z ≤ 2 ^ ((place - 1) + (kinds + 1))) (sym (h.done (place - 1) (omega arith) (omega arith))) (few (place - 1) (kinds + 1)) in
    let first : 2 ^ (place + kinds) ≤ 2 ^ 24 = pow_mono {i = place + kinds} {j = 24} (omega arith) in
    let second : 2 ^ ((place - 1) + (kinds + 1)) ≤ 2 ^ 24 = pow_mono {i = (place - 1) + (kinds + 1)} {j = 24} (omega arith) in
    omega (arith, here, less, first, second)

pub AreWays-done : (kinds place : ℕ) (ways : List ℕ) → 13 ≤ place → AreWaysTo 13 kinds place ways → AreWays 13 (kinds + 1) ways
AreWays-done kinds place ways p h = record { size = h.size; at = λ bidders a. h.done bidders a (omega arith) }

-- no kind: no bidder leaves one list, and others none
pub AreWays-none : AreWays 13 0 (1 ∷ 0 ∷ 0 ∷ 0 ∷ 0 ∷ 0 ∷ 0 ∷ 0 ∷ 0 ∷ 0 ∷ 0 ∷ 0 ∷ 0 ∷ [])
AreWays-none = record { size = refl; at = λ bidders a. at bidders }
  where
    zeros : (xs : List ℕ) (k : ℕ) → list_all (λ x. x == 0) xs ≡ true → get_or xs k 0 ≡ 0
    zeros [] k h = refl
    zeros (x ∷ xs) zero h = is_zero x (and_left (x == 0) _ h)
      where
        is_zero : (n : ℕ) → (n == 0) ≡ true → n ≡ 0
        is_zero n h = grind (arith, nat_tests)
    zeros (x ∷ xs) (suc k) h = zeros xs k (and_right (x == 0) _ h)

    at : (bidders : ℕ) → slice_index (1 ∷ 0 ∷ 0 ∷ 0 ∷ 0 ∷ 0 ∷ 0 ∷ 0 ∷ 0 ∷ 0 ∷ 0 ∷ 0 ∷ 0 ∷ []) bidders ≡ length (count_lists bidders 0)
    at zero = refl
    at (suc bidders) = zeros (0 ∷ 0 ∷ 0 ∷ 0 ∷ 0 ∷ 0 ∷ 0 ∷ 0 ∷ 0 ∷ 0 ∷ 0 ∷ 0 ∷ []) bidders refl ∙ sym (nobody bidders)

-- ---- the weight of all profiles

-- more bidders weigh no less
pub power_large : (total n m limit : ℕ) → 1 ≤ total → n ≤ m → limit < total ^ n → nat_le (total ^ m) limit ≡ false
power_large total n m limit t l h =
    let more : total ^ n ≤ total ^ m = pow-le-pow_right {n = total} (omega arith) {i = n} {j = m} l in
    not_le (total ^ m) limit (omega (arith, more))
  where
    not_le : (a b : ℕ) → b < a → nat_le a b ≡ false
    not_le a b h = grind (arith, nat_tests)
