-- Each record of a list of the right form has some values of a group, and these have positive weight.
use Rattle.std.proofs.Common.{◌≡◌, ℕ, zero, suc, ◌+◌, ◌-◌, ◌<◌, ◌≤◌, ℤ, pos, ◌<ℤ◌, List, [], ◌∷◌, length, inl, inr, sym, subst, arith}
use Rattle.std.proofs.lemmas.Bool.{cases_eq}
use Rattle.md_math.proofs.Ring.{linear}
use Rattle.md_list.specs.Gains.{between}
use Rattle.md_list.specs.Ranks.{Rank, left_after, GoDown}
use Rattle.md_list.specs.Valid.{rank_at}
use Rattle.md_list.proofs.PlaceLaws.{left-same, left-other}

-- the record has some of the first n values of one of the groups
pub record IsInside (groups : ℕ) (n : ℕ → ℕ) (rank : Rank) : Type 0 where
  pub group : rank.group < groups
  pub some : rank.first < rank.stop
  pub stop : rank.stop ≤ n rank.group

pub ranks-inside : (groups : ℕ) (n left : ℕ → ℕ) (ranks : List Rank) → GoDown groups left ranks → ((k : ℕ) → left k ≤ n k) → (p : ℕ) → p < length ranks → IsInside groups n (rank_at ranks p)
ranks-inside groups n left [] down few p b = absurd (omega (arith, b))
ranks-inside groups n left (rank ∷ others) down few zero b = record { group = down.0; some = down.1; stop = omega (arith, down.2, few rank.group) }
ranks-inside groups n left (rank ∷ others) down few (suc p) b = ranks-inside groups n (left_after left rank) others down.3 (λ k. after k) p (omega (arith, b))
  where
    after : (k : ℕ) → left_after left rank k ≤ n k
    after k = elim (cases_eq rank.group k) [
      | inl e ↦ subst (λ m. m ≤ n k) (sym (left-same left rank k e)) (subst (λ j. rank.first ≤ n j) e (let l : rank.first < rank.stop = down.1 in omega (arith, l, down.2, few rank.group)))
      | inr d ↦ subst (λ m. m ≤ n k) (sym (left-other left rank k d)) (few k)
    ]

positive-steps : (f : ℕ → ℤ) (x k : ℕ) → ((v : ℕ) → x ≤ v → v < x + suc k → pos 0 <ℤ f v) → pos 0 <ℤ between f x (x + suc k)
positive-steps f x zero h = (let e : x + 1 ≡ suc x = omega arith in rw e (omega (arith, linear, h x (omega arith) (omega arith))))
positive-steps f x (suc k) h =
    let e : x + suc (suc k) ≡ suc (x + suc k) = omega arith in
    rw e (omega (arith, linear, positive-steps f x k (λ v l b. h v l (omega (arith, b))), h (x + suc k) (omega arith) (omega arith)))

pub between-positive : (f : ℕ → ℤ) (x y : ℕ) → x < y → ((v : ℕ) → x ≤ v → v < y → pos 0 <ℤ f v) → pos 0 <ℤ between f x y
between-positive f x y l h =
    let e : x + suc (y - x - 1) ≡ y = omega (arith, l) in
    subst (λ k. ((v : ℕ) → x ≤ v → v < k → pos 0 <ℤ f v) → pos 0 <ℤ between f x k) e (positive-steps f x (y - x - 1)) h
