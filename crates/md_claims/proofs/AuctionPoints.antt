-- The point of interim odds and payments: its length and its numbers, and that it says the odds and payments again.
use Rattle.std.proofs.Common.{◌≡◌, ℕ, ◌+◌, ◌*◌, ◌<◌, ℤ, pos, negsuc, ◌-ℤ◌, ◌≤ℤ◌, ◌++◌, length, map, All, sym, ap, ap₂, ◌∙◌, subst, arith, length-append}
use Rattle.std.proofs.lemmas.Int.{ints}
use Rattle.std.proofs.lemmas.List.{length-map, get_or-map, get_or_append_left}
use Rattle.std.proofs.lemmas.List.Elements.{All-append, All-map, All-get_or, All-from_get_or}
use Rattle.md_math.specs.Lists.{number_at, list_to}
use Rattle.md_math.specs.Sizes.{IsWithin, AllWithin}
use Rattle.md_math.proofs.Builders.{same_list_to, number_at-behind}
use Rattle.md_setting.specs.Auction.{SymmetricAuction, value_count}
use Rattle.md_mech.specs.Accepted.{number_limit}
use Rattle.md_border.specs.declared.interim.Interim.{Interim}
use Rattle.md_border.specs.Odds.{IsInterim}
use Rattle.md_reduced.specs.Averages.{plus_part, minus_part}
use Rattle.md_reduced.specs.Points.{interim_in}
use Rattle.md_reduced.specs.ProgramOf.{column_count}
use Rattle.md_reduced.specs.Sides.{pay_in}
use Rattle.md_reduced.proofs.MeanLaws.{parts-of}
use Rattle.md_claims.specs.AuctionCertificates.{point_of}

-- ---- parts of payments

plus-nonneg : (z : ℤ) → pos 0 ≤ℤ plus_part z
plus-nonneg (pos n) = omega (arith, ints)
plus-nonneg (negsuc n) = omega (arith, ints)

minus-nonneg : (z : ℤ) → pos 0 ≤ℤ minus_part z
minus-nonneg (pos n) = omega (arith, ints)
minus-nonneg (negsuc n) = omega (arith, ints)

plus-within : (limit : ℕ) (z : ℤ) → IsWithin limit z → IsWithin limit (plus_part z)
plus-within limit (pos n) h = h
plus-within limit (negsuc n) h = record { within = omega arith }

minus-within : (limit : ℕ) (z : ℤ) → IsWithin limit z → IsWithin limit (minus_part z)
minus-within limit (pos n) h = record { within = omega arith }
minus-within limit (negsuc n) h = record { within = h.within }

-- ---- how many numbers it has

pub point-length : (a : SymmetricAuction) (interim : Interim) → IsInterim a interim → length (point_of interim) ≡ column_count a
point-length a interim h =
    omega (
      arith,
      length-append interim.odds (map plus_part interim.pays ++ map minus_part interim.pays),
      length-append (map plus_part interim.pays) (map minus_part interim.pays),
      length-map interim.pays plus_part,
      length-map interim.pays minus_part,
      h.one_odds,
      h.one_pay,
    )

-- ---- each number

-- what holds of each of the odds and of both parts of each payment holds of each number
all-numbers : (P : ℤ → Type 0) (a : SymmetricAuction) (interim : Interim) → IsInterim a interim
    → ((v : ℕ) → v < value_count a → P (number_at interim.odds v) × P (plus_part (number_at interim.pays v)) × P (minus_part (number_at interim.pays v)))
    → All P (point_of interim)
all-numbers P a interim h each =
    All-append P interim.odds (map plus_part interim.pays ++ map minus_part interim.pays)
    (All-from_get_or P interim.odds (pos 0) (λ k l. (each k (subst (λ n. k < n) h.one_odds l)).0))
    (All-append P (map plus_part interim.pays) (map minus_part interim.pays)
    (All-map P plus_part interim.pays
    (All-from_get_or (λ z. P (plus_part z)) interim.pays (pos 0) (λ k l. (each k (subst (λ n. k < n) h.one_pay l)).1)))
    (All-map P minus_part interim.pays
    (All-from_get_or (λ z. P (minus_part z)) interim.pays (pos 0) (λ k l. (each k (subst (λ n. k < n) h.one_pay l)).2))))

pub point-nonneg : (a : SymmetricAuction) (interim : Interim) → IsInterim a interim → All (λ z. pos 0 ≤ℤ z) (point_of interim)
point-nonneg a interim h =
    all-numbers (λ z. pos 0 ≤ℤ z) a interim h (λ v l. ((h.odds v l).0, plus-nonneg (number_at interim.pays v), minus-nonneg (number_at interim.pays v)))

small : (z den : ℤ) → pos 0 ≤ℤ z → z ≤ℤ den → den ≤ℤ pos number_limit → IsWithin number_limit z
small z den p q r = record { within = omega (arith, ints, p, q, r) }

pub point-within : (a : SymmetricAuction) (interim : Interim) → IsInterim a interim → AllWithin number_limit (point_of interim)
point-within a interim h = record {
  at = λ k l. All-get_or (IsWithin number_limit) (point_of interim) k (pos 0) l
      (all-numbers (IsWithin number_limit) a interim h
      (λ v b.
      let size : IsWithin number_limit (number_at interim.pays v) = h.pay_size.at v (subst (λ n. v < n) (sym h.one_pay) b) in (
        small (number_at interim.odds v) interim.den (h.odds v b).0 (h.odds v b).1 h.den_size,
        plus-within number_limit (number_at interim.pays v) size,
        minus-within number_limit (number_at interim.pays v) size,
      )));
}

-- ---- the odds and payments that it says

pub odds-at : (a : SymmetricAuction) (interim : Interim) (v : ℕ) → IsInterim a interim → v < value_count a → number_at (point_of interim) v ≡ number_at interim.odds v
odds-at a interim v h l =
    get_or_append_left interim.odds (map plus_part interim.pays ++ map minus_part interim.pays) (pos 0) v (subst (λ n. v < n) (sym h.one_odds) l)

plus-at : (a : SymmetricAuction) (interim : Interim) (v : ℕ) → IsInterim a interim → v < value_count a
    → number_at (point_of interim) (value_count a + v) ≡ plus_part (number_at interim.pays v)
plus-at a interim v h l =
    let inside : v < length interim.pays = subst (λ n. v < n) (sym h.one_pay) l in
    number_at-behind interim.odds (map plus_part interim.pays ++ map minus_part interim.pays) (value_count a) v h.one_odds
    ∙ get_or_append_left (map plus_part interim.pays) (map minus_part interim.pays) (pos 0) v (subst (λ n. v < n) (sym (length-map interim.pays plus_part)) inside)
    ∙ get_or-map plus_part interim.pays v (pos 0) (pos 0) inside

minus-at : (a : SymmetricAuction) (interim : Interim) (v : ℕ) → IsInterim a interim → v < value_count a
    → number_at (point_of interim) (2 * value_count a + v) ≡ minus_part (number_at interim.pays v)
minus-at a interim v h l =
    let n = value_count a in
    let inside : v < length interim.pays = subst (λ k. v < k) (sym h.one_pay) l in
    let apart : 2 * n + v ≡ n + (n + v) = omega arith in
    ap (number_at (point_of interim)) apart
    ∙ number_at-behind interim.odds (map plus_part interim.pays ++ map minus_part interim.pays) n (n + v) h.one_odds
    ∙ number_at-behind (map plus_part interim.pays) (map minus_part interim.pays) n v (length-map interim.pays plus_part ∙ h.one_pay)
    ∙ get_or-map minus_part interim.pays v (pos 0) (pos 0) inside

pub pay-at : (a : SymmetricAuction) (interim : Interim) (v : ℕ) → IsInterim a interim → v < value_count a
    → pay_in a (number_at (point_of interim)) v ≡ number_at interim.pays v
pay-at a interim v h l =
    ap₂ (λ x y. x -ℤ y) (plus-at a interim v h l) (minus-at a interim v h l) ∙ parts-of (number_at interim.pays v)

-- ---- and back

pub interim-back : (a : SymmetricAuction) (interim : Interim) → IsInterim a interim → interim_in a interim.den (number_at (point_of interim)) ≡ interim
interim-back a interim h =
    ap (λ xs. record { den = interim.den; odds = xs; pays = list_to (value_count a) (pay_in a (number_at (point_of interim))) })
    (sym (same_list_to interim.odds (value_count a) (number_at (point_of interim)) (pos 0) h.one_odds (λ v l. sym (odds-at a interim v h l))))
    ∙ ap (λ xs. record { den = interim.den; odds = interim.odds; pays = xs })
    (sym (same_list_to interim.pays (value_count a) (pay_in a (number_at (point_of interim))) (pos 0) h.one_pay (λ v l. sym (pay-at a interim v h l))))
