-- Lists of pools, to which a pool is added for each of its values.
use Rattle.std.proofs.Common.{◌≡◌, ℕ, ◌+◌, ◌-◌, ◌<◌, ◌≤◌, List, [], ◌∷◌, ◌++◌, append_assoc, length, get_or, sym, ap, ◌∙◌, arith}
use Rattle.std.specs.Prelude.{replicate}
use Rattle.std.proofs.lemmas.List.{get_or_append_left, get_or-append_right, get_or-replicate, replicate-append-replicate}
use Rattle.md_math.specs.Lists.{list_to}
use Rattle.md_math.proofs.Builders.{get_or-list_to}
use Rattle.md_iron_pools.specs.declared.pools.Pool.{Pool}
use Rattle.md_iron_pools.specs.Pooling.{lone_pool}
use Rattle.md_iron_pools.proofs.PooledTo.{IsExtended}

abbrev none : Pool
none = record { first = 0; stop = 0 }

abbrev pub firsts : List Pool → ℕ → ℕ
firsts xs j = (get_or xs j (record { first = 0; stop = 0 })).first

abbrev pub stops : List Pool → ℕ → ℕ
stops xs j = (get_or xs j (record { first = 0; stop = 0 })).stop

pub lone_pools-alone : (xs : List Pool) (z : ℕ) → xs ≡ list_to z lone_pool → (j : ℕ) → j < z → (firsts xs j ≡ j) × (stops xs j ≡ j + 1)
lone_pools-alone xs z e j b =
    let same : get_or xs j none ≡ lone_pool j = ap (λ ys. get_or ys j none) e ∙ get_or-list_to z lone_pool j none b in
    (ap (λ p. p.first) same, ap (λ p. p.stop) same)

pub IsExtended-replicate : (xs ys : List Pool) (n e : ℕ) → length xs ≡ n → ys ≡ xs ++ replicate (e - n) (record { first = n; stop = e }) → IsExtended n e (firsts xs) (stops xs) (firsts ys) (stops ys)
IsExtended-replicate xs ys n e long is = record {
  kept = λ j b. by_pool j (get_or xs j none) (ap (λ zs. get_or zs j none) is ∙ get_or_append_left xs (replicate (e - n) pool) none j (omega (arith, b, long)));
  new = λ j l b. by_pool j pool
      (ap (λ zs. get_or zs j none) is ∙ get_or-append_right xs (replicate (e - n) pool) n j none long l ∙ get_or-replicate (e - n) (j - n) pool none (omega (arith, l, b)));
}
  where
    pool : Pool
    pool = record { first = n; stop = e }

    by_pool : (j : ℕ) (p : Pool) → get_or ys j none ≡ p → (firsts ys j ≡ p.first) × (stops ys j ≡ p.stop)
    by_pool j p same = (ap (λ q. q.first) same, ap (λ q. q.stop) same)

-- one more of the same
pub replicate-push : (old now new : List Pool) (n k : ℕ) (pool : Pool) → n ≤ k → now ≡ old ++ replicate (k - n) pool → new ≡ now ++ pool ∷ [] → new ≡ old ++ replicate (k + 1 - n) pool
replicate-push old now new n k pool l e f =
    let more : k + 1 - n ≡ (k - n) + 1 = omega (arith, l) in
    f ∙ ap (λ xs. xs ++ pool ∷ []) e ∙ append_assoc old (replicate (k - n) pool) (pool ∷ [])
    ∙ ap (λ xs. old ++ xs) (replicate-append-replicate (k - n) 1 pool ∙ ap (λ m. replicate m pool) (sym more))
