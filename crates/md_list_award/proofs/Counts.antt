-- How many places pass a test: no more than there are, and one more where one more passes.
use Rattle.std.proofs.Common.{◌≡◌, ◌≢◌, ◌⊎◌, ℕ, zero, suc, ◌+◌, ◌<◌, ◌≤◌, Bool, true, false, if◌then◌else◌, refl, sym, ap, ap₂, ◌∙◌, subst, inl, inr, arith}
use Rattle.std.proofs.lemmas.Bool.{cases_eq, cases_lt, cases_Bool, false≢true}
use Rattle.md_list.specs.Rule.{count_to}
use Rattle.md_list.proofs.CountLaws.{count-same}
use Rattle.md_list.proofs.AmountLaws.{GoesFirst, first-one, first-trans}

pub count-most : (n : ℕ) (test : ℕ → Bool) → count_to n test ≤ n
count-most zero test = omega arith
count-most (suc n) test = one (test n) (count_to n test) n (count-most n test)
  where
    one : (h : Bool) (c n : ℕ) → c ≤ n → c + (if h then 1 else 0) ≤ suc n
    one true c n l = omega arith
    one false c n l = omega arith

pub count-room : (count n m : ℕ) (test : ℕ → Bool) → count ≡ count_to n test → n < m → count < m
count-room count n m test e l = omega (arith, e, l, count-most n test)

pub count-few : (count n m : ℕ) (test : ℕ → Bool) → count ≡ count_to n test → n ≤ m → count ≤ m
count-few count n m test e l = omega (arith, e, l, count-most n test)

pub count-none : (n : ℕ) (test : ℕ → Bool) → ((k : ℕ) → k < n → test k ≡ false) → count_to n test ≡ 0
count-none zero test h = refl
count-none (suc n) test h = ap₂ (λ c b. c + (if b then 1 else 0)) (count-none n test (λ k b. h k (omega (arith, b)))) (h n (omega arith))

-- two tests that differ at one place alone
pub count-more : (n k : ℕ) (r s : ℕ → Bool) → k < n → ((i : ℕ) → i < n → i ≢ k → r i ≡ s i) → r k ≡ false → s k ≡ true → count_to n s ≡ suc (count_to n r)
count-more zero k r s b h e f = absurd (omega (arith, b))
count-more (suc n) k r s b h e f = elim (cases_eq k n) [
  | inl at ↦
      ap₂ (λ c d. c + (if d then 1 else 0)) (sym (count-same n r s (λ i c. h i (omega (arith, c)) (λ same. omega (arith, c, same, at))))) (ap s (sym at) ∙ f)
      ∙ last (count_to n r)
      ∙ ap (λ d. suc (count_to n r + (if d then 1 else 0))) (sym (ap r (sym at) ∙ e))
  | inr away ↦
      ap₂ (λ c d. c + (if d then 1 else 0)) (count-more n k r s (omega (arith, b, away)) (λ i c. h i (omega (arith, c))) e f) (sym (h n (omega arith) (λ same. away (sym same))))
      ∙ next (r n) (count_to n r)
]
  where
    last : (c : ℕ) → c + 1 ≡ suc (c + 0)
    last c = omega arith

    next : (b : Bool) (c : ℕ) → suc c + (if b then 1 else 0) ≡ suc (c + (if b then 1 else 0))
    next true c = omega arith
    next false c = omega arith

-- Of the places that pass, one goes behind all others, by keys.
pub record IsLastOf (n : ℕ) (test : ℕ → Bool) (key : ℕ → ℕ) (j : ℕ) : Type 0 where
  pub inside : j < n
  pub passes : test j ≡ true
  pub others : (k : ℕ) → k < n → test k ≡ true → k ≢ j → GoesFirst (key k) k (key j) j

pub last-of : (n : ℕ) (test : ℕ → Bool) (key : ℕ → ℕ) → ((k : ℕ) → k < n → test k ≡ false) ⊎ ((j : ℕ) × IsLastOf n test key j)
last-of zero test key = inl (λ k b. absurd (omega (arith, b)))
last-of (suc n) test key = elim (cases_Bool (test n)) [
  | inl e ↦ inr (with-last e (last-of n test key))
  | inr e ↦ without e (last-of n test key)
]
  where
    without : test n ≡ false → ((k : ℕ) → k < n → test k ≡ false) ⊎ ((j : ℕ) × IsLastOf n test key j) → ((k : ℕ) → k < suc n → test k ≡ false) ⊎ ((j : ℕ) × IsLastOf (suc n) test key j)
    without e (inl none) = inl (λ k b. elim (cases_lt k n) [
      | inl l ↦ none k l
      | inr l ↦ subst (λ m. test m ≡ false) (let same : n ≡ k = omega (arith, b, l) in same) e
    ])
    without e (inr (j, last)) = inr (
      j,
      record {
        inside = omega (arith, last.inside);
        passes = last.passes;
        others = λ k b f d. elim (cases_lt k n) [
          | inl l ↦ last.others k l f d
          | inr l ↦ absurd (false≢true (sym e ∙ ap test (let same : n ≡ k = omega (arith, b, l) in same) ∙ f))
        ];
      },
    )

    with-last : test n ≡ true → ((k : ℕ) → k < n → test k ≡ false) ⊎ ((j : ℕ) × IsLastOf n test key j) → ((j : ℕ) × IsLastOf (suc n) test key j)
    with-last e (inl none) = (
      n,
      record {
        inside = omega arith;
        passes = e;
        others = λ k b f d. absurd (false≢true (sym (none k (omega (arith, b, d))) ∙ f));
      },
    )
    with-last e (inr (j, last)) = elim (first-one (key j) j (key n) n (λ same. omega (arith, same, last.inside))) [
      | inl f ↦ (
        n,
        record {
          inside = omega arith;
          passes = e;
          others = λ k b g d. elim (cases_eq k j) [
            | inl same ↦ subst (λ m. GoesFirst (key m) m (key n) n) (sym same) f
            | inr c ↦ first-trans (key k) k (key j) j (key n) n (last.others k (omega (arith, b, d)) g c) f
          ];
        },
      )
      | inr f ↦ (
        j,
        record {
          inside = omega (arith, last.inside);
          passes = last.passes;
          others = λ k b g d. elim (cases_lt k n) [
            | inl l ↦ last.others k l g d
            | inr l ↦ subst (λ m. GoesFirst (key m) m (key j) j) (let same : n ≡ k = omega (arith, b, l) in same) f
          ];
        },
      )
    ]
