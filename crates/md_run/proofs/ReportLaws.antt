-- Reports in their ranges, how often one comes, and which bidders have one.
use Rattle.std.proofs.Common.{◌≡◌, ℕ, zero, suc, ◌+◌, ◌<◌, ◌≤◌, ℤ, pos, ◌≤ℤ◌, ◌<ℤ◌, List, [], ◌∷◌, length, take, refl, sym, ap, subst, ◌∙◌, arith, ◌==◌, if◌then◌else◌, Bool, true, false, eq-eqb}
use Rattle.std.specs.Prelude.{slice_index}
use Rattle.std.proofs.lemmas.Int.{ints}
use Rattle.std.proofs.lemmas.List.{length-replicate, get_or-replicate}
use Rattle.std.proofs.Math.ListN.{replicate}
use Rattle.md_math.specs.FirstFailure.{HoldsBelow}
use Rattle.md_space.specs.Profiles.{IsProfile}
use Rattle.md_space.proofs.Ranks.{length-IsProfile}
use Rattle.md_counts.specs.Weights.{count_in}
use Rattle.md_run.specs.Counting.{HasCountBelow}
use Rattle.md_run.specs.OfMasses.{IsNumbered}
use Rattle.md_run.proofs.CountingLaws.{interval}

-- ---- profiles

pub profile-from_reports : (sizes t : List ℕ) → length t ≡ length sizes → HoldsBelow (length sizes) (λ i. slice_index t i < slice_index sizes i) → IsProfile sizes t
profile-from_reports [] [] e h = tt
profile-from_reports [] (x ∷ t) e h = absurd (omega (arith, e))
profile-from_reports (n ∷ ns) [] e h = absurd (omega (arith, e))
profile-from_reports (n ∷ ns) (x ∷ t) e h =
    (h.holds 0 (omega arith), profile-from_reports ns t (omega (arith, e)) (record { holds = λ i b. h.holds (suc i) (omega arith) }))

-- of as many agents with as many types each
pub reports-from_places : (n k : ℕ) (t : List ℕ) → length t ≡ n → HoldsBelow (length t) (λ i. slice_index t i < k) → IsProfile (replicate n k) t
reports-from_places n k t e h =
    profile-from_reports (replicate n k) t (e ∙ sym (length-replicate n k))
    (record { holds = λ i b. (let l : i < n = omega (arith, length-replicate n k, b) in subst (λ m. slice_index t i < m) (sym (get_or-replicate n i k 0 l)) (h.holds i (omega (arith, e)))) })

pub reports-length : (n k : ℕ) (t : List ℕ) → IsProfile (replicate n k) t → length t ≡ n
reports-length n k t p = length-IsProfile (replicate n k) t p ∙ length-replicate n k

-- ---- how often a value comes

pub count_in-more : (v : ℕ) (t : List ℕ) (i : ℕ) → i < length t → count_in v (take (i + 1) t) ≡ count_in v (take i t) + (if slice_index t i == v then 1 else 0)
count_in-more v [] i b = absurd (omega arith)
count_in-more v (x ∷ t) zero b = let e : zero + 1 ≡ suc zero = omega arith in rw e (omega arith)
count_in-more v (x ∷ t) (suc i) b =
    let e : suc i + 1 ≡ suc (suc i) = omega arith in
    let f : i + 1 ≡ suc i = omega arith in
    rw e (omega (arith, rw f at (count_in-more v t i (omega arith))))

pub count_in-le : (v : ℕ) (t : List ℕ) → count_in v t ≤ length t
count_in-le v [] = omega arith
count_in-le v (x ∷ t) = omega (arith, count_in-le v t, one (x == v))
  where
    one : (b : Bool) → (if b then 1 else 0) ≤ 1
    one true = omega arith
    one false = omega arith

pub count_in-before : (v : ℕ) (t : List ℕ) (i : ℕ) → i < length t → slice_index t i ≡ v → count_in v (take i t) < count_in v t
count_in-before v [] i b e = absurd (omega arith)
count_in-before v (x ∷ t) zero b e = rw (eq-eqb x v e) (omega arith)
count_in-before v (x ∷ t) (suc i) b e = omega (arith, count_in-before v t i (omega arith) e)

-- ---- the bidder with a number

pub numbered-in : (t : List ℕ) (v i : ℕ) (d : ℤ) → IsNumbered t v d i → (pos 0 ≤ℤ d) × (d <ℤ pos (count_in v t))
numbered-in t v i d h =
    let b : count_in v (take i t) < count_in v t = count_in-before v t i h.below h.reports in
    (omega (arith, ints, h.others), omega (arith, ints, h.others, b))

pub numbered-count : (t : List ℕ) (i : ℕ) → i < length t → HasCountBelow (count_in (slice_index t i) t) (λ d. IsNumbered t (slice_index t i) (pos d) i) 1
numbered-count t i b =
    let v = slice_index t i in
    let l : count_in v (take i t) < count_in v t = count_in-before v t i b refl in
    interval (λ d. IsNumbered t v (pos d) i) (count_in v t) (count_in v (take i t)) 1 (omega (arith, l))
    (λ d from to. record { below = b; reports = refl; others = (let e : count_in v (take i t) ≡ d = omega arith in ap pos e) })
    (λ d h. (omega (arith, ints, h.others), omega (arith, ints, h.others)))
