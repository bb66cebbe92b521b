-- Fractions in least terms over a denominator.
use Rattle.std.proofs.Common.{◌≡◌, ℕ, ◌+◌, ◌-◌, ◌^◌, ◌<◌, ◌≤◌, ℤ, pos, ◌*ℤ◌, ◌<ℤ◌, ◌⊎◌, List, [], ◌∷◌, ◌++◌, length, Option, Some, None, MatchOption, inl, inr, sym, ap, ◌∙◌, subst, arith, to_z, of_z, lit<}
use Rattle.std.proofs.lemmas.Int.{ints}
use Rattle.std.proofs.lemmas.Bool.{cases_lt}
use Rattle.std.proofs.lemmas.List.{get_or_append_left, get_or_push}
use Rattle.std.proofs.Math.Nat as NatL
use lib.IntN.{*ℤ_comm}
use mir.Syntax.{w128}
use Rattle.md_math.proofs.Bits.{read_within}
use Rattle.md_math.specs.Lists.{number_at}
use Rattle.md_math.specs.Sizes.{IsWithin}
use Rattle.md_math.specs.Divisors.{Divides, IsLeastTerms}
use Rattle.md_math.proofs.Builders.{number_at-behind}
use Rattle.md_math.proofs.Division.{Divides_trans, Divides-from_product, one-Divides, quotient}
use Rattle.md_math.proofs.Gcds.{Divides-from_coprime}
use Rattle.md_math.proofs.Order.{positive_from_*ℤ, *ℤ_cancel}
use Rattle.md_math.proofs.Ring.{ring}
use Rattle.md_num.specs.declared.frac.Frac.{Frac}
use Rattle.md_iron.specs.Multiples.{HasShortMultiple, IsMultipleOfTwo}
use Rattle.md_iron.specs.Shares.{fraction_in, AreLeastFractions, AreOver, AreShares, IsDenominatorOf, IsLeastDenominatorOf, IsLeastFraction, IsShare}
use Rattle.md_iron.proofs.LeastMultiples.{IsWithin-factor}

-- ---- one fraction

-- the denominator of a fraction in least terms divides each denominator over which the fraction is a whole number
pub den-divides : (num den over number : ℤ) → IsLeastTerms num den → number *ℤ den ≡ over *ℤ num → Divides den over
den-divides num den over number least ratio =
    Divides-from_coprime 1 (λ _. num) den over (λ c a b. least.only_one c (b.at 0 (omega arith)) a)
    (λ k b. Divides-from_product den number (over *ℤ num) (sym ratio ∙ *ℤ_comm number den))

-- the one number over a denominator that a fraction is
pub share-same : (fraction : Frac) (over share number : ℤ) → IsLeastFraction fraction → fraction.den *ℤ share ≡ over → number *ℤ fraction.den ≡ over *ℤ fraction.num → number ≡ share *ℤ fraction.num
share-same fraction over share number least whole ratio =
    *ℤ_cancel fraction.den number (share *ℤ fraction.num) least.least.positive
    (*ℤ_comm fraction.den number ∙ ratio ∙ ap (λ z. z *ℤ fraction.num) (sym whole) ∙ (simp ring))

pub share-ratio : (fraction : Frac) (over share : ℤ) → fraction.den *ℤ share ≡ over → (share *ℤ fraction.num) *ℤ fraction.den ≡ over *ℤ fraction.num
share-ratio fraction over share whole = (simp ring) ∙ ap (λ z. z *ℤ fraction.num) whole

share-positive : (fraction : Frac) (over share : ℤ) → IsLeastFraction fraction → pos 0 <ℤ over → fraction.den *ℤ share ≡ over → pos 0 <ℤ share
share-positive fraction over share least above whole = positive_from_*ℤ fraction.den share least.least.positive (subst (λ z. pos 0 <ℤ z) (sym whole) above)

-- there is none of 62 bits where the numerator has more
pub no-share-num : (fraction : Frac) (over share : ℤ) → IsLeastFraction fraction → pos 0 <ℤ over → fraction.den *ℤ share ≡ over → ¬ IsWithin (2 ^ 62 - 1) fraction.num → (number : ℤ) → ¬ IsShare fraction over number
no-share-num fraction over share least above whole long number is =
    long (IsWithin-factor (2 ^ 62 - 1) share fraction.num (share-positive fraction over share least above whole)
    (subst (IsWithin (2 ^ 62 - 1)) (share-same fraction over share number least whole is.ratio) is.short))

pub matched-share : (fraction : Frac) (over share : ℤ) (r : Option ℤ) → IsLeastFraction fraction → fraction.den *ℤ share ≡ over
    → MatchOption r (¬ IsWithin (2 ^ 62 - 1) (share *ℤ fraction.num)) (λ x. (x ≡ share *ℤ fraction.num) × IsWithin (2 ^ 62 - 1) x)
    → MatchOption r ((number : ℤ) → ¬ IsShare fraction over number) (λ number. IsShare fraction over number)
matched-share fraction over share None least whole h = λ number is. h (subst (IsWithin (2 ^ 62 - 1)) (share-same fraction over share number least whole is.ratio) is.short)
matched-share fraction over share (Some x) least whole h = record { ratio = ap (λ z. z *ℤ fraction.den) h.0 ∙ share-ratio fraction over share whole; short = h.1 }

-- ---- many fractions

pub IsLeastDenominatorOf-none : (fractions : List Frac) → IsLeastDenominatorOf 0 fractions (pos 1)
IsLeastDenominatorOf-none fractions = record {
  is = record { positive = omega (arith, ints); multiple = λ k b. absurd (omega arith) };
  least = λ x _. one-Divides x;
}

pub IsLeastDenominatorOf-more : (n : ℕ) (fractions : List Frac) (d e : ℤ) → IsLeastDenominatorOf n fractions d → IsMultipleOfTwo d (fraction_in fractions n).den e → IsLeastDenominatorOf (n + 1) fractions e
IsLeastDenominatorOf-more n fractions d e h k = record {
  is = record {
    positive = k.positive;
    multiple = λ i b.
        elim (cases_lt i n) [
          | inl l ↦ Divides_trans (fraction_in fractions i).den d e (h.is.multiple i l) k.left
          | inr l ↦ (let same : n ≡ i = omega (arith, l, b) in subst (λ j. Divides (fraction_in fractions j).den e) same k.right)
        ];
  };
  least = λ x m. k.least x (h.least x (λ i b. m i (omega (arith, b)))) (m n (omega arith));
}

-- each common denominator is a multiple of the least one so far and of the next
pub no-denominator : (n : ℕ) (fractions : List Frac) (d over : ℤ) → IsLeastDenominatorOf n fractions d → n < length fractions → ¬ HasShortMultiple d (fraction_in fractions n).den
    → IsWithin (2 ^ 62 - 1) over → ¬ IsDenominatorOf (length fractions) fractions over
no-denominator n fractions d over h b none short is =
    none (record { multiple = over; positive = is.positive; short = short; left = h.least over (λ k l. is.multiple k (omega (arith, l, b))); right = is.multiple n b })

pub AreShares-none : (fractions : List Frac) (over : ℤ) (numbers : ℕ → ℤ) → AreShares 0 fractions over numbers
AreShares-none fractions over numbers = record { at = λ k b. absurd (omega arith) }

pub AreShares-push : (n : ℕ) (fractions : List Frac) (over : ℤ) (old new : List ℤ) (number : ℤ) → length old ≡ n → new ≡ old ++ number ∷ [] → AreShares n fractions over (number_at old) → IsShare (fraction_in fractions n) over number
    → AreShares (n + 1) fractions over (number_at new)
AreShares-push n fractions over old new number long e h is = record {
  at = λ k b.
      elim (cases_lt k n) [
        | inl l ↦ subst (IsShare (fraction_in fractions k) over) (sym (ap (λ xs. number_at xs k) e ∙ get_or_append_left old (number ∷ []) (pos 0) k (omega (arith, l, long)))) (h.at k l)
        | inr l ↦
            let same : n ≡ k = omega (arith, l, b) in
            let place : number ≡ number_at new n = sym (ap (λ xs. number_at xs n) e ∙ ap (number_at (old ++ number ∷ [])) (let f : n ≡ n + 0 = omega arith in f) ∙ number_at-behind old (number ∷ []) n 0 long) in
            subst (λ j. IsShare (fraction_in fractions j) over (number_at new j)) same (subst (IsShare (fraction_in fractions n) over) place is)
      ];
}

pub AreShares-no : (n : ℕ) (fractions : List Frac) (over : ℤ) → n < length fractions → ((number : ℤ) → ¬ IsShare (fraction_in fractions n) over number) → (numbers : ℕ → ℤ) → ¬ AreShares (length fractions) fractions over numbers
AreShares-no n fractions over b none numbers h = none (numbers n) (h.at n b)

-- ---- the least denominator

-- each denominator over which all fractions are whole numbers is a common one
pub AreOver-denominator : (fractions : List Frac) (over : ℤ) (numbers : ℕ → ℤ) → AreLeastFractions fractions → AreOver fractions over numbers → IsDenominatorOf (length fractions) fractions over
AreOver-denominator fractions over numbers least h = record {
  positive = h.positive;
  multiple = λ k b. den-divides (fraction_in fractions k).num (fraction_in fractions k).den over (numbers k) (least.at k b).least (h.shares.at k b).ratio;
}

-- what is over a multiple of a common denominator is over this one too, with smaller numbers
IsShare-less : (fraction : Frac) (over q number : ℤ) → IsLeastFraction fraction → pos 0 <ℤ q → Divides fraction.den over → IsShare fraction (over *ℤ q) number → (less : ℤ) × IsShare fraction over less
IsShare-less fraction over q number least above divides is =
    let (share, whole) = quotient fraction.den over divides in
    let big : fraction.den *ℤ (share *ℤ q) ≡ over *ℤ q = (simp ring) ∙ ap (λ z. z *ℤ q) (sym whole) in
    let same : number ≡ (share *ℤ q) *ℤ fraction.num = share-same fraction (over *ℤ q) (share *ℤ q) number least big is.ratio in
    let turned : number ≡ q *ℤ (share *ℤ fraction.num) = same ∙ (simp ring) in (
      share *ℤ fraction.num,
      record {
        ratio = share-ratio fraction over share (sym whole);
        short = IsWithin-factor (2 ^ 62 - 1) q (share *ℤ fraction.num) above (subst (IsWithin (2 ^ 62 - 1)) turned is.short);
      },
    )

lesser : (fractions : List Frac) (d q : ℤ) (numbers : ℕ → ℤ) → AreLeastFractions fractions → pos 0 <ℤ q → IsDenominatorOf (length fractions) fractions d → AreShares (length fractions) fractions (d *ℤ q) numbers → (k : ℕ)
    → (k < length fractions) ⊎ (length fractions ≤ k) → ℤ
lesser fractions d q numbers least above is h k (inl b) = (IsShare-less (fraction_in fractions k) d q (numbers k) (least.at k b) above (is.multiple k b) (h.at k b)).0
lesser fractions d q numbers least above is h k (inr g) = pos 0

lesser-is : (fractions : List Frac) (d q : ℤ) (numbers : ℕ → ℤ) (least : AreLeastFractions fractions) (above : pos 0 <ℤ q) (is : IsDenominatorOf (length fractions) fractions d) (h : AreShares (length fractions) fractions (d *ℤ q) numbers) (k : ℕ)
    → k < length fractions → (c : (k < length fractions) ⊎ (length fractions ≤ k)) → IsShare (fraction_in fractions k) d (lesser fractions d q numbers least above is h k c)
unfolding lesser
lesser-is fractions d q numbers least above is h k b (inl c) = (IsShare-less (fraction_in fractions k) d q (numbers k) (least.at k c) above (is.multiple k c) (h.at k c)).1
lesser-is fractions d q numbers least above is h k b (inr g) = absurd (omega (arith, b, g))

pub AreOver-no : (fractions : List Frac) (d over : ℤ) (numbers : ℕ → ℤ) → AreLeastFractions fractions → IsLeastDenominatorOf (length fractions) fractions d → ((less : ℕ → ℤ) → ¬ AreShares (length fractions) fractions d less)
    → ¬ AreOver fractions over numbers
AreOver-no fractions d over numbers least is none h =
    let (q, whole) = quotient d over (is.least over (AreOver-denominator fractions over numbers least h).multiple) in
    let above : pos 0 <ℤ q = positive_from_*ℤ d q is.is.positive (subst (λ z. pos 0 <ℤ z) whole h.positive) in
    let shares : AreShares (length fractions) fractions (d *ℤ q) numbers = subst (λ z. AreShares (length fractions) fractions z numbers) whole h.shares in
    none (λ k. lesser fractions d q numbers least above is.is shares k (cases_lt k (length fractions)))
    (record { at = λ k b. lesser-is fractions d q numbers least above is.is shares k b (cases_lt k (length fractions)) })

-- ---- what is known of an answer by its kind

pub where-none : {X : Type 0} → (r : Option X) (A : Type 0) (B : X → Type 0) → r ≡ None → MatchOption r A B → A
where-none r A B e h = subst (λ o. MatchOption o A B) e h

pub where-some : {X : Type 0} → (r : Option X) (x : X) (A : Type 0) (B : X → Type 0) → r ≡ Some x → MatchOption r A B → B x
where-some r x A B e h = subst (λ o. MatchOption o A B) e h

-- ---- numbers read back from their bits

pub read-den : (fraction : Frac) → IsLeastFraction fraction → to_z w128 (of_z w128 fraction.den) ≡ fraction.den
read-den fraction h = read_within (2 ^ 126) fraction.den (record { within = omega (arith, h.den_size) }) (lit< tt)

pub read-num : (fraction : Frac) → IsLeastFraction fraction → to_z w128 (of_z w128 fraction.num) ≡ fraction.num
read-num fraction h = read_within (2 ^ 126) fraction.num (record { within = omega (arith, h.num_size) }) (lit< tt)

-- ---- a list of fractions that grows

pub each-pushed : (P : ℕ → Frac → Type 0) (n : ℕ) (old new : List Frac) (fraction : Frac) → length old ≡ n → new ≡ old ++ fraction ∷ [] → ((k : ℕ) → k < n → P k (fraction_in old k)) → P n fraction → (k : ℕ) → k < n + 1 → P k (fraction_in new k)
each-pushed P n old new fraction long e h is k b = elim (cases_lt k n) [
  | inl l ↦ subst (P k) (sym (ap (λ xs. fraction_in xs k) e ∙ get_or_append_left old (fraction ∷ []) none k (omega (arith, l, long)))) (h k l)
  | inr l ↦
      let same : n ≡ k = omega (arith, l, b) in
      let place : fraction ≡ fraction_in new n = sym (ap (λ xs. fraction_in xs n) e ∙ get_or_push old fraction none n long) in
      subst (λ j. P j (fraction_in new j)) same (subst (P n) place is)
]
  where
    none : Frac
    none = record { num = pos 0; den = pos 0 }

-- nothing, in least terms
pub zero-least : IsLeastFraction (record { num = pos 0; den = pos 1 })
zero-least = record {
  least = record { positive = omega (arith, ints); only_one = λ d a b. NatL.eq-one_of_dvd-one b.divides };
  num_size = lit< tt;
  den_size = lit< tt;
}
