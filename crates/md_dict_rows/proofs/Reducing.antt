-- A combination of two rows in least terms: what is written so far, the divisor that is tried, and what follows where all is written.
use Rattle.std.proofs.Common.{◌≡◌, ◌≢◌, ℕ, max, ◌+◌, ◌-◌, ◌*◌, ◌^◌, ◌<◌, ◌≤◌, List, length, set, ℤ, pos, ◌-ℤ◌, ◌*ℤ◌, ◌<ℤ◌, ◌⊎◌, int_div, unsigned_abs, refl, sym, ap, ◌∙◌, subst, inl, inr, arith, eq-eqb, ne_eqb, mul-le-mul, length-set, get_or-set_same, get_or-set_other, bit_or, mul-le-mul_right}
use Rattle.std.proofs.lemmas.Bool.{cases_lt, cases_eq}
use Rattle.std.proofs.lemmas.Int.{ints, unsigned_abs-mul}
use Rattle.std.proofs.lemmas.Nat.{le_or_l, le_or_r}
use Rattle.std.proofs.Math.Nat as NatL
use Rattle.md_math.specs.Lists.{number_at}
use Rattle.md_math.specs.Sizes.{IsWithin, AllWithin}
use Rattle.md_math.specs.Divisors.{Divides, IsCommonDivisor, IsGcdOfTwo}
use Rattle.md_math.proofs.Division.{Divides_cancel, Divides_trans, Divides-int_div, one-Divides, *ℤ-Divides, positive_divisor}
use Rattle.md_math.proofs.Order.{positive-*ℤ, positive_from_*ℤ}
use Rattle.md_math.proofs.Ring.{*ℤ-one}
use Rattle.md_math.proofs.SizeLaws.{AllWithin-number_at, AllWithin-set, AllWithin-wider, IsWithin-sub, IsWithin-wider}
use Rattle.md_dict_rows.specs.declared.combination.Combination.{Combination}
use Rattle.md_dict_rows.specs.declared.combination.LeastRow.{LeastRow}
use Rattle.md_dict_rows.specs.LeastRows.{IsRowSize}
use Rattle.md_dict_rows.specs.Combination.{combined, combined_den, DividesCombination, IsCombination, IsInLeastTerms, IsLeastDen, IsReducedTo, IsTooWideRow}
use Rattle.md_dict_division.specs.Inverses.{EndsInZeros}
use Rattle.md_dict_rows.specs.Reduce.{AreDivided, AreHalves, AreShort, IsAttempt, IsDivided, IsGreatestSize, IsOver, IsUndivided, KeepsSizes}
use Rattle.md_dict_rows.proofs.Quotients.{above_quotient, factor_size}
use Rattle.md_dict_division.proofs.Reading.{product_small}
use Rattle.md_dict_division.proofs.Guessing.{EndsInZeros-or}

-- ---- how a number is made

pub combined_beside : (c : Combination) (own taken : List ℤ) (s : ℕ) → s ≢ c.place → combined c own taken s ≡ c.multiplier *ℤ number_at own s -ℤ c.factor *ℤ number_at taken s
combined_beside c own taken s o = rw (ne_eqb s c.place o) refl

pub combined_here : (c : Combination) (own taken : List ℤ) (s : ℕ) → s ≡ c.place → combined c own taken s ≡ c.multiplier *ℤ c.leaving -ℤ c.factor *ℤ c.pivot_den
combined_here c own taken s e = rw (eq-eqb s c.place e) refl

-- ---- what is written

pub AreDivided-none : (c : Combination) (own taken : List ℤ) (d : ℤ) (new : List ℤ) → AreDivided c own taken d new 0
AreDivided-none c own taken d new = record { at = λ s b _. absurd (omega arith) }

pub AreDivided-more : (c : Combination) (own taken : List ℤ) (d : ℤ) (new : List ℤ) (n : ℕ) (x : ℤ) → AreDivided c own taken d new n → n < length new → (n ≢ c.place → d *ℤ x ≡ combined c own taken n) → AreDivided c own taken d (set new n x) (n + 1)
AreDivided-more c own taken d new n x h inside e = record {
  at = λ s b o.
      elim (cases_eq s n) [
        | inl same ↦
            let other : n ≢ c.place = (λ k. o (same ∙ k)) in
            subst (λ k. d *ℤ number_at (set new n x) k ≡ combined c own taken k) (sym same) (ap (λ z. d *ℤ z) (get_or-set_same new n x (pos 0) inside) ∙ e other)
        | inr k ↦ ap (λ z. d *ℤ z) (get_or-set_other new n s x (pos 0) k) ∙ h.at s (omega arith) o
      ];
}

-- the number at the place of the pivot makes the row whole
pub IsDivided-from : (c : Combination) (own taken : List ℤ) (d : ℤ) (new : List ℤ) (x : ℤ) → AreDivided c own taken d new (length own) → c.place < length new → d *ℤ x ≡ combined c own taken c.place → IsDivided c own taken d (set new c.place x)
IsDivided-from c own taken d new x h inside e = record {
  at = λ s b.
      elim (cases_eq s c.place) [
        | inl same ↦ subst (λ k. d *ℤ number_at (set new c.place x) k ≡ combined c own taken k) (sym same) (ap (λ z. d *ℤ z) (get_or-set_same new c.place x (pos 0) inside) ∙ e)
        | inr o ↦ ap (λ z. d *ℤ z) (get_or-set_other new c.place s x (pos 0) o) ∙ h.at s b o
      ];
}

pub KeepsSizes-none : (most : ℕ) (old : List ℤ) → KeepsSizes most old old
KeepsSizes-none most old = record { length_is = refl; within = λ limit _ h. h }

pub KeepsSizes-more : (most : ℕ) (old new : List ℤ) (n : ℕ) (x : ℤ) → KeepsSizes most old new → IsWithin most x → KeepsSizes most old (set new n x)
KeepsSizes-more most old new n x h w = record {
  length_is = length-set new n x ∙ h.length_is;
  within = λ limit l q. AllWithin-set limit new n x (h.within limit l q) (IsWithin-wider most limit x l w);
}

pub KeepsSizes-after : (most : ℕ) (old mid new : List ℤ) → KeepsSizes most old mid → KeepsSizes most mid new → KeepsSizes most old new
KeepsSizes-after most old mid new h k = record { length_is = k.length_is ∙ h.length_is; within = λ limit l q. k.within limit l (h.within limit l q) }

pub KeepsSizes-wider : (m n : ℕ) (old new : List ℤ) → m ≤ n → KeepsSizes m old new → KeepsSizes n old new
KeepsSizes-wider m n old new l h = record { length_is = h.length_is; within = λ limit k q. h.within limit (omega (arith, l, k)) q }

-- ---- the greatest size

pub IsWithin-greatest : (n limit : ℕ) (xs : List ℤ) (size : ℕ) → AllWithin limit xs → IsGreatestSize n xs size → IsWithin limit (pos size)
IsWithin-greatest n limit xs size w h =
    elim h.reached [
      | inl zero ↦ record { within = omega (arith, ints, zero) }
      | inr (s, l, e) ↦ (let most = (AllWithin-number_at limit xs s w).within in record { within = omega (arith, ints, e, most) })
    ]

-- a number is written over one that counts for nothing
IsGreatestSize-written : (n p : ℕ) (xs : List ℤ) (x : ℤ) (size new most : ℕ) → p < n → p < length xs → unsigned_abs x ≡ new → max size new ≡ most → ((s : ℕ) → s < n → s ≢ p → IsWithin size (number_at xs s)) → (size ≡ 0) ⊎ ((s : ℕ) × (s < n) × (s ≢ p) × (unsigned_abs (number_at xs s) ≡ size)) → IsGreatestSize n (set xs p x) most
IsGreatestSize-written n p xs x size new most b inside is greatest h reached =
    let here : number_at (set xs p x) p ≡ x = get_or-set_same xs p x (pos 0) inside in
    record {
      bound = λ s l.
          elim (cases_eq s p) [
            | inl same ↦ subst (λ i. IsWithin most (number_at (set xs p x) i)) (sym same) (subst (IsWithin most) (sym here) (record { within = omega (arith, is, greatest) }))
            | inr o ↦ subst (IsWithin most) (sym (get_or-set_other xs p s x (pos 0) o)) (IsWithin-wider size most (number_at xs s) (omega (arith, greatest)) (h s l o))
          ];
      reached = elim (cases_lt size new) [
        | inl l ↦ inr (p, b, (let same : new ≡ most = omega (arith, l, greatest) in ap unsigned_abs here ∙ is ∙ same))
        | inr l ↦
            let same : size ≡ most = omega (arith, l, greatest) in
            elim reached [
              | inl zero ↦ inl (sym same ∙ zero)
              | inr (s, k, o, e) ↦ inr (s, k, ap unsigned_abs (get_or-set_other xs p s x (pos 0) o) ∙ e ∙ same)
            ]
      ];
    }

-- one more number
pub IsGreatestSize-more : (n : ℕ) (xs : List ℤ) (x : ℤ) (size new most : ℕ) → n < length xs → unsigned_abs x ≡ new → max size new ≡ most → IsGreatestSize n xs size → IsGreatestSize (n + 1) (set xs n x) most
IsGreatestSize-more n xs x size new most inside is greatest h =
    IsGreatestSize-written (n + 1) n xs x size new most (omega arith) inside is greatest (λ s l o. h.bound s (omega (arith, l, o))) (elim h.reached [ inl zero ↦ inl zero | inr (s, l, e) ↦ inr (s, omega (arith, l), (λ same. absurd (omega (arith, same, l))), e) ])

-- a number in place of 0
pub IsGreatestSize-instead : (n p : ℕ) (xs : List ℤ) (x : ℤ) (size new most : ℕ) → p < n → p < length xs → number_at xs p ≡ pos 0 → unsigned_abs x ≡ new → max size new ≡ most → IsGreatestSize n xs size → IsGreatestSize n (set xs p x) most
IsGreatestSize-instead n p xs x size new most b inside zero is greatest h =
    IsGreatestSize-written n p xs x size new most b inside is greatest (λ s l _. h.bound s l) (
    elim h.reached [
      | inl none ↦ inl none
      | inr (s, l, e) ↦
          elim (cases_eq s p) [
            | inl same ↦ inl (sym e ∙ ap (λ i. unsigned_abs (number_at xs i)) same ∙ ap unsigned_abs zero)
            | inr o ↦ inr (s, l, o, e)
          ]
    ]
    )

-- ---- numbers of 63 bits

-- the difference of two products whose sizes have 63 bits together
pub short_mix : (a b c d : ℤ) → unsigned_abs a * unsigned_abs b + unsigned_abs c * unsigned_abs d < 2 ^ 63 → unsigned_abs (a *ℤ b -ℤ c *ℤ d) < 2 ^ 63
short_mix a b c d l =
    let whole : IsWithin (unsigned_abs (a *ℤ b) + unsigned_abs (c *ℤ d)) (a *ℤ b -ℤ c *ℤ d) = IsWithin-sub _ _ (a *ℤ b) (c *ℤ d) (record { within = omega arith }) (record { within = omega arith }) in
    omega (arith, unsigned_abs-mul a b, unsigned_abs-mul c d, l, whole.within)

-- what the sizes of two rows say of each place
pub AreShort-from_sizes : (c : Combination) (own taken : List ℤ) (m n : ℕ) → AllWithin m own → AllWithin n taken → unsigned_abs c.multiplier * m + unsigned_abs c.factor * n < 2 ^ 63 → AreShort c own taken
AreShort-from_sizes c own taken m n h k l = record {
  at = λ s _.
      let first : unsigned_abs c.multiplier * unsigned_abs (number_at own s) ≤ unsigned_abs c.multiplier * m = mul-le-mul (omega arith) ((AllWithin-number_at m own s h).within) in
      let second : unsigned_abs c.factor * unsigned_abs (number_at taken s) ≤ unsigned_abs c.factor * n = mul-le-mul (omega arith) ((AllWithin-number_at n taken s k).within) in
      omega (arith, first, second, l);
}

-- what the sizes of two rows and what multiplies them say, joined bit by bit
pub AreHalves-from_sizes : (c : Combination) (own taken : List ℤ) (m n limit : ℕ) → AllWithin m own → AllWithin n taken → bit_or (bit_or (bit_or (unsigned_abs c.multiplier) (unsigned_abs c.factor)) m) n ≤ 2 ^ 31 - 1 → 2 ^ 31 ≤ limit → AreHalves c own taken limit
AreHalves-from_sizes c own taken m n limit h k l most =
    let first = bit_or (unsigned_abs c.multiplier) (unsigned_abs c.factor) in
    let both : bit_or first m ≤ 2 ^ 31 - 1 = omega (arith, le_or_l (bit_or first m) n, l) in
    let factors : first ≤ 2 ^ 31 - 1 = omega (arith, le_or_l first m, both) in
    record {
      multiplier = record { within = omega (arith, le_or_l (unsigned_abs c.multiplier) (unsigned_abs c.factor), factors) };
      factor = record { within = omega (arith, le_or_r (unsigned_abs c.multiplier) (unsigned_abs c.factor), factors) };
      own = AllWithin-wider m (2 ^ 31 - 1) own (omega (arith, le_or_r first m, both)) h;
      taken = AllWithin-wider n (2 ^ 31 - 1) taken (omega (arith, le_or_r (bit_or first m) n, l)) k;
      limit = most;
    }

-- one more place: the bits of all places so far are joined, and the size is the greatest one
pub AreDivided-short : (c : Combination) (own taken : List ℤ) (d : ℤ) (new : List ℤ) (n k lost bits greatest size most : ℕ) (x : ℤ) → n < length new → unsigned_abs x ≡ size → max greatest size ≡ most → (EndsInZeros k lost → greatest * unsigned_abs d < 2 ^ 63 → AreDivided c own taken d new n) → (EndsInZeros k bits → unsigned_abs x * unsigned_abs d < 2 ^ 63 → n ≢ c.place → d *ℤ x ≡ combined c own taken n) → EndsInZeros k (bit_or lost bits) → most * unsigned_abs d < 2 ^ 63 → AreDivided c own taken d (set new n x) (n + 1)
AreDivided-short c own taken d new n k lost bits greatest size most x inside is max_is h e zeros l =
    let both = EndsInZeros-or k lost bits zeros in
    let before : greatest * unsigned_abs d ≤ most * unsigned_abs d = mul-le-mul_right (unsigned_abs d) (omega (arith, max_is)) in
    let here : size * unsigned_abs d ≤ most * unsigned_abs d = mul-le-mul_right (unsigned_abs d) (omega (arith, max_is)) in
    let small : unsigned_abs x * unsigned_abs d < 2 ^ 63 = rw is (omega (arith, here, l)) in
    AreDivided-more c own taken d new n x (h both.0 (omega (arith, before, l))) inside (λ o. e both.1 small o)

-- the same, where tests that are joined say all
pub AreDivided-tested : (c : Combination) (own taken : List ℤ) (d : ℤ) (new : List ℤ) (n wrong gap : ℕ) (x : ℤ) → n < length new → (wrong < 1 → AreDivided c own taken d new n) → (gap ≡ 0 → n ≢ c.place → d *ℤ x ≡ combined c own taken n) → bit_or wrong gap < 1 → AreDivided c own taken d (set new n x) (n + 1)
AreDivided-tested c own taken d new n wrong gap x inside h e t =
    AreDivided-more c own taken d new n x (h (omega (arith, le_or_l wrong gap, t))) inside (λ o. e (omega (arith, le_or_r wrong gap, t)) o)

-- ---- the divisor that is tried

-- it may divide one more number
pub IsAttempt-common : (c : Combination) (own taken : List ℤ) (d g : ℤ) (s : ℕ) → IsAttempt c own taken d → s < length own → IsGcdOfTwo d (combined c own taken s) g → unsigned_abs g < 2 ^ 126 → IsAttempt c own taken g
IsAttempt-common c own taken d g s h b q l = record {
  positive = positive_divisor d g h.positive q.left q.nonneg;
  size = l;
  of_den = Divides_trans g d (combined_den c) q.left h.of_den;
  greatest = λ x r. q.greatest x (h.greatest x r) (r.of_numbers.at s b);
}

pub IsAttempt-next : (c : Combination) (own taken : List ℤ) (d g : ℤ) (place : ℕ) (x : ℤ) → IsAttempt c own taken d → IsUndivided c own taken d place x → IsGcdOfTwo d x g → unsigned_abs g < 2 ^ 126 → IsAttempt c own taken g
IsAttempt-next c own taken d g place x h u q l = IsAttempt-common c own taken d g place h u.place_in (subst (λ z. IsGcdOfTwo d z g) u.is q) l

-- and is smaller
pub smaller_attempt : (c : Combination) (own taken : List ℤ) (d g : ℤ) (place : ℕ) (x : ℤ) → pos 0 <ℤ d → IsUndivided c own taken d place x → IsGcdOfTwo d x g → unsigned_abs g < unsigned_abs d
smaller_attempt c own taken d g place x p u q =
    let above : 0 < unsigned_abs d = omega (arith, ints) in
    let le : unsigned_abs g ≤ unsigned_abs d = NatL.le_of_dvd above q.left.divides in
    elim (cases_lt (unsigned_abs g) (unsigned_abs d)) [
      | inl l ↦ l
      | inr l ↦
          let size : unsigned_abs g ≡ unsigned_abs d = omega arith in
          let nonneg = q.nonneg in
          let same : g ≡ d = omega (arith, ints, size) in
          absurd (u.not (subst (λ z. Divides z x) same q.right))
    ]

-- ---- numbers above the limit

-- a divisor of the combination is no greater than the one that is tried
no_greater : (c : Combination) (own taken : List ℤ) (limit : ℕ) (d g : ℤ) → IsAttempt c own taken d → DividesCombination c own taken g → limit * unsigned_abs g ≤ limit * unsigned_abs d
no_greater c own taken limit d g h q =
    let above : 0 < unsigned_abs d = omega (arith, ints, h.positive) in
    let le : unsigned_abs g ≤ unsigned_abs d = NatL.le_of_dvd above ((h.greatest g q).divides) in
    mul-le-mul (omega arith) le

pub IsTooWideRow-over : (c : Combination) (own taken : List ℤ) (limit : ℕ) (d : ℤ) → IsAttempt c own taken d → IsOver c own taken limit d → IsTooWideRow c own taken limit
IsTooWideRow-over c own taken limit d h o = record {
  above = λ g _ q. inr (o.place, o.place_in, omega (arith, no_greater c own taken limit d g h q, o.above));
}

pub IsTooWideRow-den : (c : Combination) (own taken : List ℤ) (limit : ℕ) (d q : ℤ) → IsAttempt c own taken d → d *ℤ q ≡ combined_den c → limit < unsigned_abs q → IsTooWideRow c own taken limit
IsTooWideRow-den c own taken limit d q h e l = record {
  above = λ g _ r. inl (omega (arith, no_greater c own taken limit d g h r, above_quotient limit d q (combined_den c) h.positive e l));
}

-- ---- the row that is written

-- what divides the new denominator and all new numbers divides the combination, times the divisor
divides_all : (c : Combination) (own taken : List ℤ) (d den x : ℤ) (f : ℕ → ℤ) → ((s : ℕ) → s < length own → d *ℤ f s ≡ combined c own taken s) → d *ℤ den ≡ combined_den c → Divides x den → ((s : ℕ) → s < length own → Divides x (f s)) → DividesCombination c own taken (d *ℤ x)
divides_all c own taken d den x f at e a b = record {
  of_den = subst (Divides (d *ℤ x)) e (*ℤ-Divides d x den a);
  of_numbers = record { at = λ s l. subst (Divides (d *ℤ x)) (at s l) (*ℤ-Divides d x (f s) (b s l)) };
}

pub IsInLeastTerms-divided : (c : Combination) (own taken : List ℤ) (d den : ℤ) (f : ℕ → ℤ) → IsCombination c own taken → IsAttempt c own taken d → ((s : ℕ) → s < length own → d *ℤ f s ≡ combined c own taken s) → d *ℤ den ≡ combined_den c → IsInLeastTerms c own taken den f
IsInLeastTerms-divided c own taken d den f k h at e = record {
  divisor = d;
  positive = h.positive;
  den_is = e;
  numbers = at;
  least = record {
    positive = positive_from_*ℤ d den h.positive (subst (λ z. pos 0 <ℤ z) (sym e) (positive-*ℤ c.multiplier c.den k.multiplier_positive k.den_positive));
    only_one = λ x a b.
        let whole : Divides (d *ℤ x) (d *ℤ pos 1) = subst (Divides (d *ℤ x)) (sym (*ℤ-one d)) (h.greatest (d *ℤ x) (divides_all c own taken d den x f at e a b.at)) in
        let unit : Divides x (pos 1) = Divides_cancel d x (pos 1) h.positive whole in
        NatL.eq-one_of_dvd-one unit.divides;
  };
}

pub IsReducedTo-divided : (c : Combination) (own taken : List ℤ) (d : ℤ) (row : LeastRow) (new : List ℤ) → IsCombination c own taken → IsAttempt c own taken d → IsDivided c own taken d new → d *ℤ row.den ≡ combined_den c → IsWithin (2 ^ 62) row.den → IsRowSize (length own) (number_at new) row.size → IsReducedTo c own taken row new
IsReducedTo-divided c own taken d row new k h q e w size = record {
  terms = IsInLeastTerms-divided c own taken d row.den (number_at new) k h q.at e;
  size = size;
  den_size = w;
}

-- the denominator over the greatest divisor
pub IsLeastDen-divided : (c : Combination) (own taken : List ℤ) (d den : ℤ) → IsCombination c own taken → IsAttempt c own taken d → DividesCombination c own taken d → d *ℤ den ≡ combined_den c → IsLeastDen c own taken den
IsLeastDen-divided c own taken d den k h q e = record {
  numbers = λ s. int_div (combined c own taken s) d;
  terms = IsInLeastTerms-divided c own taken d den (λ s. int_div (combined c own taken s) d) k h (λ s b. Divides-int_div d (combined c own taken s) (q.of_numbers.at s b)) e;
  size = (let le : unsigned_abs den ≤ unsigned_abs (combined_den c) = factor_size d den (combined_den c) h.positive e in omega (arith, le, product_small c.multiplier c.den k.multiplier_size k.den_size));
}

-- a divisor of the denominator that divides one more number
pub IsCommonDivisor-more : (n : ℕ) (f : ℕ → ℤ) (d g : ℤ) → IsCommonDivisor n f d → IsGcdOfTwo d (f n) g → IsCommonDivisor (n + 1) f g
IsCommonDivisor-more n f d g h q = record {
  at = λ s b.
      elim (cases_lt s n) [
        | inl l ↦ Divides_trans g d (f s) q.left (h.at s l)
        | inr l ↦ (let same : n ≡ s = omega arith in subst (λ k. Divides g (f k)) same q.right)
      ];
}

-- 1 divides all
pub DividesCombination-one : (c : Combination) (own taken : List ℤ) (d : ℤ) → d ≡ pos 1 → DividesCombination c own taken d
DividesCombination-one c own taken d e = record {
  of_den = subst (λ z. Divides z (combined_den c)) (sym e) (one-Divides (combined_den c));
  of_numbers = record { at = λ s _. subst (λ z. Divides z (combined c own taken s)) (sym e) (one-Divides (combined c own taken s)) };
}

-- the greatest size of a row's numbers, as it is found
pub IsRowSize-greatest : (width limit : ℕ) (xs : List ℤ) (size : ℕ) → AllWithin limit xs → limit ≤ 2 ^ 62 → IsGreatestSize width xs size → IsRowSize width (number_at xs) (pos size)
IsRowSize-greatest width limit xs size w l h = record {
  small = IsWithin-wider limit (2 ^ 62) (pos size) l (IsWithin-greatest width limit xs size w h);
  bound = h.bound;
  reached = elim h.reached [ inl zero ↦ inl (ap pos zero) | inr r ↦ inr r ];
}
