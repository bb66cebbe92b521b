-- The odds and payments of pools are odds and payments of the auction, with numbers of at most 62 bits.
use Rattle.std.proofs.Common.{◌≡◌, ℕ, zero, suc, ◌+◌, ◌-◌, ◌*◌, ◌^◌, ◌<◌, ◌≤◌, ℤ, pos, ◌-ℤ◌, ◌*ℤ◌, ◌≤ℤ◌, List, [], ◌∷◌, ◌++◌, length, inl, inr, sym, ap, ap₂, subst, ◌∙◌, arith, mul-le-mul, le_refl, length-append}
use Rattle.std.proofs.lemmas.Bool.{cases_lt}
use Rattle.std.proofs.lemmas.Int.{ints}
use Rattle.std.proofs.lemmas.List.{get_or_append_left, get_or_push}
use Rattle.std.proofs.Math.Nat.{one-le-mul, one-le-pow, pow-suc, pow-le-pow_left, pow-le-pow_right}
use Rattle.md_math.specs.Divisors.{Divides}
use Rattle.md_math.specs.Lists.{number_at, list_to}
use Rattle.md_math.specs.Sizes.{IsWithin}
use Rattle.md_math.specs.Sums.{sum_to}
use Rattle.md_math.proofs.Builders.{length-list_to, get_or-list_to, list_to-more}
use Rattle.md_math.proofs.Order.{positive_pos}
use Rattle.md_math.proofs.Ring.{*ℤ_assoc}
use Rattle.md_math.proofs.SizeLaws.{IsWithin-wider, IsWithin-*ℤ, IsWithin-difference, sum_to-within}
use Rattle.md_setting.specs.Auction.{SymmetricAuction, value_count, total_weight}
use Rattle.md_setting.specs.AuctionShaped.{IsAuction}
use Rattle.md_mech.specs.Accepted.{number_limit}
use Rattle.md_border.specs.declared.interim.Interim.{Interim}
use Rattle.md_border.specs.Odds.{IsInterim}
use Rattle.md_border.proofs.DemandLaws.{total-positive}
use Rattle.md_iron_values.specs.Pools.{Pools, over_pool}
use Rattle.md_iron_values.specs.Odds.{step_of, share_den, pay_by}
use Rattle.md_iron_values.specs.VirtualValues.{IsPooledAuction, weight_to}
use Rattle.md_iron_values.proofs.WholeOdds.{weights-divide}
use Rattle.md_iron_laws.proofs.Printed.{pays-bounds}
use Rattle.md_threshold_laws.specs.ClosedOdds.{AreClosedOdds, IsClosedInterim, sold_from}
use Rattle.md_threshold_laws.proofs.ClosedInterims.{are-odds, closed-most}
use Rattle.md_threshold_laws.proofs.InterimLaws.{closed-odds}
use Rattle.md_iron_pools.specs.Odds.{AreOddsTo, AreSmallOdds, IsOddsOf}

-- ---- the denominator

-- so many of a power of one bidder fewer, where the power of all is small
few : (m f : ℕ) → m ≤ 11 → f ^ suc m ≤ 10 ^ 12 → suc m * f ^ m ≤ 4 * 10 ^ 12
few m f b h = elim (cases_lt f 3) [
  | inl l ↦ small (pow-le-pow_left {n = f} {m = 2} (omega (arith, l)) m) (pow-le-pow_right {n = 2} (omega arith) {i = m} {j = 11} b)
  | inr g ↦ large (mul-le-mul (le_refl (f ^ m)) g)
]
  where
    small : f ^ m ≤ 2 ^ m → 2 ^ m ≤ 2 ^ 11 → suc m * f ^ m ≤ 4 * 10 ^ 12
    small k l =
        let power : f ^ m ≤ 2048 = omega (arith, k, l) in
        let count : suc m ≤ 12 = omega (arith, b) in
        omega (arith, mul-le-mul count power)

    large : f ^ m * 3 ≤ f ^ m * f → suc m * f ^ m ≤ 4 * 10 ^ 12
    large k =
        let power : f ^ m * 3 ≤ 10 ^ 12 = omega (arith, k, pow-suc f m, h) in
        let count : suc m ≤ 12 = omega (arith, b) in
        omega (arith, mul-le-mul count power)

pub den-small : (a : SymmetricAuction) → IsAuction a → a.bidders * total_weight a.weights ^ (a.bidders - 1) ≤ 4 * 10 ^ 12
den-small a h =
    let n = a.bidders - 1 in
    let f = total_weight a.weights in
    let one_more : suc (a.bidders - 1) ≡ a.bidders = omega (arith, h.some_bidder) in
    subst (λ m. m * f ^ n ≤ 4 * 10 ^ 12) one_more
    (few n f (let e : a.bidders - 1 ≤ 11 = omega (arith, h.few_bidders) in e) (subst (λ m. total_weight a.weights ^ m ≤ 10 ^ 12) (sym one_more) h.few_profiles))

pub den-positive : (a : SymmetricAuction) → IsAuction a → 1 ≤ a.bidders * total_weight a.weights ^ (a.bidders - 1)
den-positive a h = one-le-mul h.some_bidder (one-le-pow (a.bidders - 1) (total_weight a.weights) (total-positive a h))

-- ---- odds

-- the weight of a pool divides how often units go to its bidders
pub pool-divides : (a : SymmetricAuction) (units : ℕ) (pools : Pools) (v : ℕ) → IsAuction a → IsPooledAuction a pools → v < value_count a
    → Divides (over_pool (weight_to a) pools v) (sold_from a units (pools.first v) -ℤ sold_from a units (pools.stop v))
pool-divides a units pools v h p b =
    let (low, high, inside) = p.place v b in
    weights-divide a units (pools.first v) (pools.stop v) h (let e : pools.first v ≤ value_count a = omega (arith, low, b) in e) inside

-- the odds of all values are the closed ones
pub odds-closed : (a : SymmetricAuction) (units : ℕ) (pools : Pools) (odds : List ℤ) → IsAuction a → AreOddsTo a units pools (value_count a) odds → AreClosedOdds a units pools (share_den a) (number_at odds)
odds-closed a units pools odds h are = record {
  positive = positive_pos _ (den-positive a h);
  none = λ v b l. (are.at v b).none l;
  some = λ v b g. *ℤ_assoc (share_den a) (over_pool (weight_to a) pools v) (number_at odds v) ∙ ap (λ z. share_den a *ℤ z) ((are.at v b).some g);
}

pub small-odds : (a : SymmetricAuction) (units : ℕ) (pools : Pools) (odds : List ℤ) → IsAuction a → IsPooledAuction a pools → AreOddsTo a units pools (value_count a) odds → AreSmallOdds a odds
small-odds a units pools odds h p are =
    let closed = odds-closed a units pools odds h are in
    record {
      one_each = are.count;
      at = λ v b. ((closed-odds a units pools h p (share_den a) (number_at odds) closed).nonneg v b, most (number_at odds v) (a.bidders * total_weight a.weights ^ (a.bidders - 1)) (closed-most a units pools h p (share_den a) (number_at odds) closed v b) (den-small a h));
    }
  where
    most : (z : ℤ) (n : ℕ) → z ≤ℤ pos n → n ≤ 4 * 10 ^ 12 → z ≤ℤ pos (4 * 10 ^ 12)
    most z n l m = omega (arith, ints, l, m)

within : (z : ℤ) → (pos 0 ≤ℤ z) × (z ≤ℤ pos (4 * 10 ^ 12)) → IsWithin (4 * 10 ^ 12) z
within z h = record { within = omega (arith, ints, h.0, h.1) }

pub step-within : (a : SymmetricAuction) (odds : List ℤ) (j : ℕ) → AreSmallOdds a odds → j < value_count a → IsWithin (4 * 10 ^ 12) (step_of (number_at odds) j)
step-within a odds zero h b = within (number_at odds 0) (h.at 0 b)
step-within a odds (suc j) h b =
    let own = h.at (suc j) b in
    let before = h.at j (omega (arith, b)) in
    IsWithin-difference (4 * 10 ^ 12) (number_at odds (suc j)) (number_at odds j) own.0 before.0 (within (number_at odds (suc j)) own) (within (number_at odds j) before)

pub step-is : (q : ℕ → ℤ) (v : ℕ) → 0 < v → q v -ℤ q (v - 1) ≡ step_of q v
step-is q zero b = absurd (omega (arith, b))
step-is q (suc v) b = ap (λ n. q (suc v) -ℤ q n) (let e : suc v - 1 ≡ v = omega arith in e)

-- ---- payments

pub value-within : (a : SymmetricAuction) (j : ℕ) → IsAuction a → j < value_count a → IsWithin 1000000 (number_at a.values j)
value-within a j h b = small _ (h.value j b)
  where
    small : (z : ℤ) → (pos 0 ≤ℤ z) × (z ≤ℤ pos 1000000) → IsWithin 1000000 z
    small z v = record { within = omega (arith, ints, v.0, v.1) }

-- the first terms of what a value pays
pub paid-within : (a : SymmetricAuction) (odds : List ℤ) (n : ℕ) → IsAuction a → AreSmallOdds a odds → n ≤ value_count a → IsWithin (12 * (1000000 * (4 * 10 ^ 12))) (sum_to n (λ i. number_at a.values i *ℤ step_of (number_at odds) i))
paid-within a odds n h small b =
    IsWithin-wider (n * (1000000 * (4 * 10 ^ 12))) (12 * (1000000 * (4 * 10 ^ 12))) _ (fewer (omega (arith, b, h.few_values)))
    (sum_to-within n (1000000 * (4 * 10 ^ 12)) _
    (λ i l. IsWithin-*ℤ 1000000 (4 * 10 ^ 12) (number_at a.values i) (step_of (number_at odds) i) (value-within a i h (omega (arith, l, b))) (step-within a odds i small (omega (arith, l, b)))))
  where
    fewer : n ≤ 12 → n * (1000000 * (4 * 10 ^ 12)) ≤ 12 * (1000000 * (4 * 10 ^ 12))
    fewer m = omega (arith, m)

-- ---- all of them

pub closed-fits : (a : SymmetricAuction) (units : ℕ) (pools : Pools) (interim : Interim) → IsAuction a → IsPooledAuction a pools → IsClosedInterim a units pools interim → IsInterim a interim
closed-fits a units pools interim h p closed =
    let q = number_at interim.odds in
    let are = are-odds a units pools h p interim closed in
    record {
      den_positive = subst (λ d. pos 1 ≤ℤ d) (sym closed.den_is) (lower _ (den-positive a h));
      den_size = subst (λ d. d ≤ℤ pos number_limit) (sym closed.den_is) (upper _ (den-small a h));
      one_odds = closed.one_odds;
      one_pay = ap length closed.pays_are ∙ length-list_to (value_count a) (pay_by (number_at a.values) (number_at interim.odds));
      odds = λ v b. (are.nonneg v b, closed-most a units pools h p interim.den (number_at interim.odds) closed.odds v b);
      pay_size = record {
        at = λ v b.
            let inside : v < value_count a = omega (arith, b, ap length closed.pays_are, length-list_to (value_count a) (pay_by (number_at a.values) (number_at interim.odds))) in
            let bounds = pays-bounds a units pools interim.den (number_at interim.odds) h are v inside in
            subst (IsWithin number_limit) (sym (ap (λ xs. number_at xs v) closed.pays_are ∙ get_or-list_to (value_count a) (pay_by (number_at a.values) (number_at interim.odds)) v (pos 0) inside))
            (paid (pay_by (number_at a.values) (number_at interim.odds) v) (number_at a.values v *ℤ number_at interim.odds v) bounds.0 bounds.1
            (IsWithin-*ℤ 1000000 (4 * 10 ^ 12) (number_at a.values v) (number_at interim.odds v) (value-within a v h inside)
            (within (number_at interim.odds v)
            (are.nonneg v inside, most (number_at interim.odds v) interim.den _ (closed-most a units pools h p interim.den (number_at interim.odds) closed.odds v inside) closed.den_is (den-small a h)))));
      };
    }
  where
    lower : (n : ℕ) → 1 ≤ n → pos 1 ≤ℤ pos n
    lower n l = omega (arith, ints)

    upper : (n : ℕ) → n ≤ 4 * 10 ^ 12 → pos n ≤ℤ pos number_limit
    upper n l = omega (arith, ints)

    most : (z d : ℤ) (n : ℕ) → z ≤ℤ d → d ≡ pos n → n ≤ 4 * 10 ^ 12 → z ≤ℤ pos (4 * 10 ^ 12)
    most z d n l e m = omega (arith, ints, l, e, m)

    paid : (z w : ℤ) → pos 0 ≤ℤ z → z ≤ℤ w → IsWithin (1000000 * (4 * 10 ^ 12)) w → IsWithin number_limit z
    paid z w l m k = record { within = omega (arith, ints, k.within) }

-- ---- lists that grow

pub list_to-push : (n : ℕ) (f : ℕ → ℤ) (now new : List ℤ) (v : ℤ) → now ≡ list_to n f → new ≡ now ++ v ∷ [] → v ≡ f n → new ≡ list_to (n + 1) f
list_to-push n f now new v e g s = g ∙ ap₂ (λ xs x. xs ++ x ∷ []) e s ∙ sym (list_to-more n f)

pub AreOddsTo-none : (a : SymmetricAuction) (units : ℕ) (pools : Pools) (odds : List ℤ) → odds ≡ [] → AreOddsTo a units pools 0 odds
AreOddsTo-none a units pools odds e = record { count = ap length e; at = λ v b. absurd (omega arith) }

pub AreOddsTo-push : (a : SymmetricAuction) (units : ℕ) (pools : Pools) (n : ℕ) (old new : List ℤ) (odds : ℤ) → AreOddsTo a units pools n old → new ≡ old ++ odds ∷ [] → IsOddsOf a units pools n odds → AreOddsTo a units pools (n + 1) new
AreOddsTo-push a units pools n old new odds h e is = record {
  count = omega (arith, ap length e, length-append {A = ℤ}, h.count);
  at = λ v b.
      elim (cases_lt v n) [
        | inl l ↦ subst (IsOddsOf a units pools v) (sym (ap (λ xs. number_at xs v) e ∙ get_or_append_left old (odds ∷ []) (pos 0) v (omega (arith, l, h.count)))) (h.at v l)
        | inr l ↦
            let same : n ≡ v = omega (arith, l, b) in
            let place : odds ≡ number_at new n = sym (ap (λ xs. number_at xs n) e ∙ get_or_push old odds (pos 0) n h.count) in
            subst (λ u. IsOddsOf a units pools u (number_at new u)) same (subst (IsOddsOf a units pools n) place is)
      ];
}
