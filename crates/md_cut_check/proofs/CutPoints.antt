-- The point of interim odds and payments: its length and its numbers, and the odds and payments that it says.
use Rattle.std.proofs.Common.{◌≡◌, ℕ, ◌+◌, ◌*◌, ◌<◌, ℤ, pos, negsuc, ◌-ℤ◌, ◌≤ℤ◌, ◌<ℤ◌, List, ◌++◌, length, map, All, sym, ap, ap₂, ◌∙◌, subst, arith, length-append}
use Rattle.std.proofs.lemmas.Int.{ints}
use Rattle.std.proofs.lemmas.List.{length-map, get_or-map, get_or_append_left}
use Rattle.std.proofs.lemmas.List.Elements.{All-append, All-map, All-get_or, All-from_get_or}
use Rattle.md_math.specs.Lists.{number_at}
use Rattle.md_math.specs.Sizes.{IsWithin, AllWithin}
use Rattle.md_math.proofs.Builders.{number_at-behind}
use Rattle.md_mech.specs.Accepted.{number_limit}
use Rattle.md_lp.specs.Program.{Program, row_count}
use Rattle.md_border.specs.declared.interim.Interim.{Interim}
use Rattle.md_cert.specs.declared.bound.Bound.{Bound}
use Rattle.md_cert.specs.Fitting.{Fits, FitsColumns, FitsRows, IsDenominator}
use Rattle.md_reduced.specs.Averages.{plus_part, minus_part}
use Rattle.md_reduced.proofs.MeanLaws.{parts-of}
use Rattle.md_parts.specs.Fitting.{AreMultipliers, IsBoundOver}
use Rattle.md_claims.specs.AuctionCertificates.{auction_certificate, point_of}
use Rattle.md_cut_check.specs.Interims.{IsInterimOver}

-- ---- parts of payments

plus-nonneg : (z : ℤ) → pos 0 ≤ℤ plus_part z
plus-nonneg (pos n) = omega (arith, ints)
plus-nonneg (negsuc n) = omega (arith, ints)

minus-nonneg : (z : ℤ) → pos 0 ≤ℤ minus_part z
minus-nonneg (pos n) = omega (arith, ints)
minus-nonneg (negsuc n) = omega (arith, ints)

plus-within : (limit : ℕ) (z : ℤ) → IsWithin limit z → IsWithin limit (plus_part z)
plus-within limit (pos n) h = h
plus-within limit (negsuc n) h = record { within = omega arith }

minus-within : (limit : ℕ) (z : ℤ) → IsWithin limit z → IsWithin limit (minus_part z)
minus-within limit (pos n) h = record { within = omega arith }
minus-within limit (negsuc n) h = record { within = h.within }

-- ---- a number that is between others

small : (z den : ℤ) → pos 0 ≤ℤ z → z ≤ℤ den → den ≤ℤ pos number_limit → IsWithin number_limit z
small z den p q r = record { within = omega (arith, ints, p, q, r) }

above : (z : ℤ) → pos 1 ≤ℤ z → pos 0 <ℤ z
above z l = omega (arith, ints, l)

module _ (n : ℕ) (interim : Interim) (h : IsInterimOver n interim) where
  -- ---- how many numbers it has

  pub point-length : length (point_of interim) ≡ 3 * n
  point-length =
      omega (
        arith,
        length-append interim.odds (map plus_part interim.pays ++ map minus_part interim.pays),
        length-append (map plus_part interim.pays) (map minus_part interim.pays),
        length-map interim.pays plus_part,
        length-map interim.pays minus_part,
        h.one_odds,
        h.one_pay,
      )

  -- ---- each number

  -- what holds of each of the odds and of both parts of each payment holds of each number
  all-numbers : (P : ℤ → Type 0) → ((p : ℕ) → p < n → P (number_at interim.odds p) × P (plus_part (number_at interim.pays p)) × P (minus_part (number_at interim.pays p)))
      → All P (point_of interim)
  all-numbers P each =
      All-append P interim.odds (map plus_part interim.pays ++ map minus_part interim.pays)
      (All-from_get_or P interim.odds (pos 0) (λ k l. (each k (subst (λ m. k < m) h.one_odds l)).0))
      (All-append P (map plus_part interim.pays) (map minus_part interim.pays)
      (All-map P plus_part interim.pays
      (All-from_get_or (λ z. P (plus_part z)) interim.pays (pos 0) (λ k l. (each k (subst (λ m. k < m) h.one_pay l)).1)))
      (All-map P minus_part interim.pays
      (All-from_get_or (λ z. P (minus_part z)) interim.pays (pos 0) (λ k l. (each k (subst (λ m. k < m) h.one_pay l)).2))))

  point-nonneg : All (λ z. pos 0 ≤ℤ z) (point_of interim)
  point-nonneg = all-numbers (λ z. pos 0 ≤ℤ z) (λ p l. ((h.odds p l).0, plus-nonneg (number_at interim.pays p), minus-nonneg (number_at interim.pays p)))

  point-within : AllWithin number_limit (point_of interim)
  point-within = record {
    at = λ k l. All-get_or (IsWithin number_limit) (point_of interim) k (pos 0) l
        (all-numbers (IsWithin number_limit)
        (λ p b.
        let size : IsWithin number_limit (number_at interim.pays p) = h.pay_size.at p (subst (λ m. p < m) (sym h.one_pay) b) in (
          small (number_at interim.odds p) interim.den (h.odds p b).0 (h.odds p b).1 h.den_size,
          plus-within number_limit (number_at interim.pays p) size,
          minus-within number_limit (number_at interim.pays p) size,
        )));
  }

  -- ---- the odds and payments that it says

  pub odds-at : (p : ℕ) → p < n → number_at (point_of interim) p ≡ number_at interim.odds p
  odds-at p l = get_or_append_left interim.odds (map plus_part interim.pays ++ map minus_part interim.pays) (pos 0) p (subst (λ m. p < m) (sym h.one_odds) l)

  plus-at : (p : ℕ) → p < n → number_at (point_of interim) (n + p) ≡ plus_part (number_at interim.pays p)
  plus-at p l =
      let inside : p < length interim.pays = subst (λ m. p < m) (sym h.one_pay) l in
      number_at-behind interim.odds (map plus_part interim.pays ++ map minus_part interim.pays) n p h.one_odds
      ∙ get_or_append_left (map plus_part interim.pays) (map minus_part interim.pays) (pos 0) p (subst (λ m. p < m) (sym (length-map interim.pays plus_part)) inside)
      ∙ get_or-map plus_part interim.pays p (pos 0) (pos 0) inside

  minus-at : (p : ℕ) → p < n → number_at (point_of interim) (2 * n + p) ≡ minus_part (number_at interim.pays p)
  minus-at p l =
      let inside : p < length interim.pays = subst (λ k. p < k) (sym h.one_pay) l in
      let apart : 2 * n + p ≡ n + (n + p) = omega arith in
      ap (number_at (point_of interim)) apart
      ∙ number_at-behind interim.odds (map plus_part interim.pays ++ map minus_part interim.pays) n (n + p) h.one_odds
      ∙ number_at-behind (map plus_part interim.pays) (map minus_part interim.pays) n p (length-map interim.pays plus_part ∙ h.one_pay)
      ∙ get_or-map minus_part interim.pays p (pos 0) (pos 0) inside

  pub pay-at : (p : ℕ) → p < n → number_at (point_of interim) (n + p) -ℤ number_at (point_of interim) (2 * n + p) ≡ number_at interim.pays p
  pay-at p l = ap₂ (λ x y. x -ℤ y) (plus-at p l) (minus-at p l) ∙ parts-of (number_at interim.pays p)

  -- ---- it fits a program with so many columns

  fits-columns : (p : Program) → p.columns ≡ 3 * n → FitsColumns p (point_of interim)
  fits-columns p columns = record {
    one_each = point-length ∙ sym columns;
    sizes = point-within;
    nonneg = λ j b. All-get_or (λ z. pos 0 ≤ℤ z) (point_of interim) j (pos 0) (omega (arith, b, point-length, columns)) point-nonneg;
  }

  fits-den : IsDenominator interim.den
  fits-den = record { positive = above interim.den h.den_positive; size = small interim.den interim.den (one_more interim.den h.den_positive) (same_le interim.den) h.den_size }
    where
      one_more : (z : ℤ) → pos 1 ≤ℤ z → pos 0 ≤ℤ z
      one_more z l = omega (arith, ints, l)

      same_le : (z : ℤ) → z ≤ℤ z
      same_le z = omega (arith, ints)

  pub fits-cut : (p : Program) (rows : ℕ) (bound : Bound) → p.columns ≡ 3 * n → rows ≡ row_count p → IsBoundOver rows bound → Fits p (auction_certificate interim bound)
  fits-cut p rows bound columns same b = (fits-den, fits-columns p columns, record { den = b.den; main = fits-rows bound.main b.main; face = fits-rows bound.face b.face })
    where
      fits-rows : (numbers : List ℤ) → AreMultipliers rows numbers → FitsRows p numbers
      fits-rows numbers m = record { one_each = m.one_each ∙ same; sizes = m.sizes }
