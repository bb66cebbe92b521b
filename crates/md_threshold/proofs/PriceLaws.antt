-- What the winner of one unit pays is told by the best pool among the others.
use Rattle.std.proofs.Common.{◌≡◌, ◌⊎◌, ℕ, zero, suc, ◌+◌, ◌-◌, ◌*◌, ◌/◌, ◌<◌, ◌≤◌, min, Bool, true, false, ◌==◌, if◌then◌else◌, ℤ, pos, ◌-ℤ◌, ◌*ℤ◌, ◌≤ℤ◌, List, length, refl, sym, ap, ap₂, ◌∙◌, arith, inl, inr, lt-ltb, le-ltb}
use Rattle.std.specs.Prelude.{slice_index, nat_lt}
use Rattle.std.proofs.lemmas.Bool.{cases_lt, cases_order}
use Rattle.std.proofs.lemmas.Int.{ints}
use Rattle.md_math.specs.Divisors.{IsLeastTerms}
use Rattle.md_math.specs.Lists.{number_at}
use Rattle.md_math.proofs.BoundedTests.{true_or_false}
use Rattle.md_math.proofs.Ring.{linear, ring, *ℤ-zero}
use Rattle.md_num.specs.declared.frac.Frac.{Frac}
use Rattle.md_space.specs.Profiles.{IsProfile}
use Rattle.md_setting.specs.Auction.{SymmetricAuction, value_count}
use Rattle.md_setting.specs.AuctionShaped.{IsAuction}
use Rattle.md_setting.specs.General.{general_of}
use Rattle.md_setting.specs.Meaning.{sizes_of}
use Rattle.md_iron_values.specs.Pools.{Pools, IsPooled}
use Rattle.md_iron_values.specs.Odds.{pay_by}
use Rattle.md_iron_values.specs.VirtualValues.{weight_to, virtual_to, IsPooledAuction}
use Rattle.md_iron_values.proofs.AuctionLaws.{values-ascend}
use Rattle.md_iron_values.proofs.PayLaws.{pay-between}
use Rattle.md_iron_values.proofs.PoolLaws.{reserve-begins}
use Rattle.md_threshold_laws.specs.Rule.{is_ahead, is_beside, draw_count, chance, chance_with, payment, IsPrice}
use Rattle.md_threshold_laws.proofs.Counts.{count-same, count-two}
use Rattle.md_threshold_laws.proofs.Profiles.{AreAlike, beside-same, ahead-same, divides}
use Rattle.md_threshold_laws.proofs.PoolPlaces.{buys-true, buys-first}
use Rattle.md_threshold_laws.proofs.ChanceLaws.{ahead-with, beside-with, chance-none, chance-rises, higher}
use Rattle.md_threshold_laws.proofs.MechanismLaws.{is-report}
use Rattle.md_threshold_laws.proofs.TruthLaws.{pay-same}
use Rattle.md_threshold.specs.Prices.{among_others, IsBest, chance_against, IsPriceAgainst}
use Rattle.md_threshold.proofs.ChanceSizes.{draws-are}
use Rattle.md_threshold.proofs.ShareLaws.{own-chance}

-- ---- sizes

part-most : (c : ℕ) → c < 12 → draw_count / (c + 1) ≤ 27720
part-most c few = most (draw_count / (c + 1)) c (divides (c + 1) (omega arith) (omega (arith, few)))
  where
    most : (q n : ℕ) → q * (n + 1) ≡ draw_count → q ≤ 27720
    most q n e =
        let less : q ≤ q * (n + 1) = omega arith in
        omega (arith, e, less, draws-are)

pub against-most : (pools : Pools) (other c v : ℕ) → c < 12 → chance_against pools other c v ≤ 27720
against-most pools other c v few = chosen (nat_lt v pools.reserve) (nat_lt (pools.first v) (pools.first other)) (nat_lt (pools.first other) (pools.first v))
  where
    chosen : (x y z : Bool) → (if x then 0 else if y then 0 else if z then draw_count else draw_count / (c + 1)) ≤ 27720
    chosen true y z = omega arith
    chosen false true z = omega arith
    chosen false false true = omega (arith, draws-are)
    chosen false false false = part-most c few

-- it wins sometimes
pub against-some : (pools : Pools) (other c v : ℕ) → c < 12 → pools.reserve ≤ v → pools.first other ≤ pools.first v → 0 < chance_against pools other c v
against-some pools other c v few g l = rw (le-ltb v pools.reserve g, le-ltb (pools.first v) (pools.first other) l) (chosen (nat_lt (pools.first other) (pools.first v)))
  where
    some : (q n : ℕ) → q * n ≡ draw_count → 0 < q
    some zero n e = absurd (omega (arith, e, draws-are))
    some (suc q) n e = omega arith

    chosen : (z : Bool) → 0 < (if z then draw_count else draw_count / (c + 1))
    chosen true = omega (arith, draws-are)
    chosen false = some (draw_count / (c + 1)) (c + 1) (divides (c + 1) (omega arith) (omega (arith, few)))

-- values of one pool win as often
alike-against : (pools : Pools) (other c u v : ℕ) → pools.reserve ≤ u → pools.reserve ≤ v → pools.first u ≡ pools.first v → chance_against pools other c u ≡ chance_against pools other c v
alike-against pools other c u v g h e =
    rw (le-ltb u pools.reserve g, le-ltb v pools.reserve h)
    (ap (λ f. if nat_lt f (pools.first other) then 0 else if nat_lt (pools.first other) f then draw_count else draw_count / (c + 1)) e)

-- ---- the others

two-others : (t : List ℕ) (i : ℕ) (pools : Pools) (v x : ℕ) → pools.first v < pools.first x → among_others t i (is_beside pools x) + among_others t i (is_ahead pools x) ≤ among_others t i (is_ahead pools v)
two-others t i pools v x l = count-two (length t) _ _ _ (λ k b. one k (true_or_false (k == i)))
  where
    one : (k : ℕ) → (k == i ≡ true) ⊎ (k == i ≡ false)
        → (if (if k == i then false else is_beside pools x (slice_index t k)) then 1 else 0) + (if (if k == i then false else is_ahead pools x (slice_index t k)) then 1 else 0) ≤ (if (if k == i then false else is_ahead pools v (slice_index t k)) then 1 else 0)
    one k (inl e) = rw e (omega arith)
    one k (inr e) = rw e (higher pools v x (slice_index t k) l)

same-others : (t : List ℕ) (i : ℕ) (r s : ℕ → Bool) → ((w : ℕ) → r w ≡ s w) → among_others t i r ≡ among_others t i s
same-others t i r s h = count-same (length t) _ _ (λ k b. ap (λ x. if k == i then false else x) (h (slice_index t k)))

-- the chance by how many are beside and ahead
chance-by : (pools : Pools) (t : List ℕ) (i v m n : ℕ) → i < length t → pools.reserve ≤ v → among_others t i (is_beside pools v) ≡ m → among_others t i (is_ahead pools v) ≡ n
    → chance_with 1 pools t i v ≡ min (m + 1) (1 - n) * (draw_count / (m + 1))
chance-by pools t i v m n b g e f =
    ap₂ (λ x y. min x (1 - y) * (draw_count / x)) (beside-with pools t i v b (buys-true pools v g) ∙ ap (λ x. x + 1) e) (ahead-with pools t i v b ∙ f)

whole : draw_count / 1 ≡ draw_count
whole = (let e = divides 1 (omega arith) (omega arith) in omega (arith, e))

module _ (kinds : ℕ) (weight sum : ℕ → ℤ) (pools : Pools) (p : IsPooled kinds weight sum pools) (t : List ℕ) (i : ℕ) (b : i < length t) (other c : ℕ) (inside : other < kinds) (g : pools.reserve ≤ other) (none : c ≡ 0 → other ≡ pools.reserve)
    (best : IsBest pools t i other c) where
  met : (v : ℕ) → v < kinds → pools.reserve ≤ v → chance_with 1 pools t i v ≡ (if nat_lt (pools.first v) (pools.first other) then 0 else if nat_lt (pools.first other) (pools.first v) then draw_count else draw_count / (c + 1))
  met v l h = elim (cases_order (pools.first v) (pools.first other)) [
    | inl e ↦
        let are : AreAlike pools other v = record { buys_one = buys-true pools other g; buys_other = buys-true pools v h; first = e } in
        let one = chance-by pools t i v c 0 b h (same-others t i _ _ (λ w. beside-same pools other v w are) ∙ best.beside) (same-others t i _ _ (λ w. ahead-same pools other v w are) ∙ best.none_ahead) in
        rw (le-ltb (pools.first v) (pools.first other) (omega (arith, e)), le-ltb (pools.first other) (pools.first v) (omega (arith, e))) (one ∙ alone c (draw_count / (c + 1)))
    | inr (inl m) ↦
        let two = two-others t i pools v other m in
        let some : 0 < c = positive m in
        let few : 1 - among_others t i (is_ahead pools v) ≡ 0 = omega (arith, two, some, best.beside) in
        let one = chance-by pools t i v (among_others t i (is_beside pools v)) (among_others t i (is_ahead pools v)) b h refl refl in
        rw (lt-ltb (pools.first v) (pools.first other) m) (one ∙ nothing (among_others t i (is_beside pools v)) _ (draw_count / (among_others t i (is_beside pools v) + 1)) few)
    | inr (inr m) ↦
        let two = two-others t i pools other v m in
        let one = chance-by pools t i v 0 0 b h (omega (arith, two, best.none_ahead)) (omega (arith, two, best.none_ahead)) in
        rw (le-ltb (pools.first v) (pools.first other) (omega (arith, m)), lt-ltb (pools.first other) (pools.first v) m) (one ∙ alone 0 (draw_count / 1) ∙ whole)
  ]
    where
      alone : (n x : ℕ) → min (n + 1) (1 - 0) * x ≡ x
      alone n x = (let e : min (n + 1) (1 - 0) ≡ 1 = omega arith in ap (λ k. k * x) e ∙ (let f : 1 * x ≡ x = omega arith in f))

      nothing : (n d x : ℕ) → d ≡ 0 → min (n + 1) d * x ≡ 0
      nothing n d x e = (let f : min (n + 1) d ≡ 0 = omega (arith, e) in ap (λ k. k * x) f ∙ (let z : 0 * x ≡ 0 = omega arith in z))

      positive : pools.first v < pools.first other → 0 < c
      positive m = elim (cases_lt 0 c) [
        | inl s ↦ s
        | inr s ↦
            let is : other ≡ pools.reserve = none (omega (arith, s)) in
            let first : pools.first other ≡ pools.reserve = ap pools.first is ∙ reserve-begins kinds weight sum pools p (omega (arith, is, inside)) in
            absurd (omega (arith, m, first, buys-first kinds weight sum pools p v l h))
      ]

  pub met-chance : (v : ℕ) → v < kinds → chance_with 1 pools t i v ≡ chance_against pools other c v
  met-chance v l = elim (cases_lt v pools.reserve) [
    | inl m ↦ chance-none 1 pools t i v m ∙ sym (ap (λ s. if s then 0 else rest v) (lt-ltb v pools.reserve m))
    | inr m ↦ met v l m ∙ sym (ap (λ s. if s then 0 else rest v) (le-ltb v pools.reserve m))
  ]
    where
      rest : ℕ → ℕ
      rest v = if nat_lt (pools.first v) (pools.first other) then 0 else if nat_lt (pools.first other) (pools.first v) then draw_count else draw_count / (c + 1)

-- ---- payments

-- values with the same odds pay the same
pay-alike : (n : ℕ) (v q : ℕ → ℤ) → ((j : ℕ) → suc j < n → v j ≤ℤ v (suc j)) → ((j : ℕ) → suc j < n → q j ≤ℤ q (suc j)) → (x y : ℕ) → x < n → y < n → q x ≡ q y → pay_by v q x ≡ pay_by v q y
pay-alike n v q vs qs x y l h e = elim (cases_lt x y) [
  | inl m ↦ (let at = pay-between n v q vs qs x y (omega (arith, m)) h in squeezed (v x) (v y) (q y -ℤ q x) _ _ (gone (q x) (q y) e) at.lower at.upper)
  | inr m ↦ (let at = pay-between n v q vs qs y x m l in sym (squeezed (v y) (v x) (q x -ℤ q y) _ _ (gone (q y) (q x) (sym e)) at.lower at.upper))
]
  where
    gone : (x y : ℤ) → x ≡ y → y -ℤ x ≡ pos 0
    gone x y e = omega (arith, linear, e)

    squeezed : (u w d a b : ℤ) → d ≡ pos 0 → (u *ℤ d) ≤ℤ (b -ℤ a) → (b -ℤ a) ≤ℤ (w *ℤ d) → a ≡ b
    squeezed u w d a b e l h =
        let first : u *ℤ d ≡ pos 0 = ap (λ z. u *ℤ z) e ∙ *ℤ-zero u in
        let last : w *ℤ d ≡ pos 0 = ap (λ z. w *ℤ z) e ∙ *ℤ-zero w in
        omega (arith, linear, l, h, first, last)

pub price-against : (a : SymmetricAuction) (pools : Pools) (kind other c often : ℕ) (paid : ℤ) (price : Frac) → IsAuction a → IsPooledAuction a pools → kind < value_count a → pools.reserve ≤ kind → other < value_count a → pools.reserve ≤ other → (c ≡ 0 → other ≡ pools.reserve)
    → often ≡ chance_against pools other c kind → paid ≡ pay_by (number_at a.values) (λ v. pos (chance_against pools other c v)) kind → price.num *ℤ pos often ≡ paid *ℤ price.den → IsLeastTerms price.num price.den → IsPriceAgainst a pools kind other c price
price-against a pools kind other c often paid price shaped p l g h k none is pays ratio least = record { least = least; paid = at }
  where
    at : (t : List ℕ) (i : ℕ) → IsProfile (sizes_of (general_of a)) t → i < a.bidders → pools.reserve ≤ slice_index t i → pools.first (slice_index t i) ≡ pools.first kind → IsBest pools t i other c → IsPrice a 1 pools i t price.num price.den
    at t i q b m e best =
        let report = is-report a t q in
        let there : i < length t = omega (arith, b, report.long) in
        let own : slice_index t i < value_count a = report.below i there in
        let values = number_at a.values in
        let against = λ (v : ℕ). pos (chance_against pools other c v) in
        let met_at = met-chance (value_count a) (weight_to a) (virtual_to a) pools p t i there other c h k none best in
        let rises = λ (v : ℕ) (n : suc v < value_count a). chance-rises (value_count a) (weight_to a) (virtual_to a) pools p 1 t i v (omega (arith, report.long, shaped.few_bidders)) there n in
        let chances : chance 1 pools t (slice_index t i) ≡ often =
        sym (own-chance 1 pools t i (slice_index t i) refl) ∙ met_at (slice_index t i) own ∙ alike-against pools other c (slice_index t i) kind m g e ∙ sym is in
        let same : payment a 1 pools i t ≡ paid =
        pay-same values _ against (slice_index t i) (λ j n. ap (λ x. pos x) (met_at j (omega (arith, n, own))))
        ∙ pay-alike (value_count a) values against (values-ascend a shaped) (λ j n. above _ _ _ _ (met_at j (omega (arith, n))) (met_at (suc j) n) (rises j n)) (slice_index t i) kind own l
        (ap (λ x. pos x) (alike-against pools other c (slice_index t i) kind m g e))
        ∙ sym pays in
        ap (λ x. pos x *ℤ price.num) chances ∙ turned (pos often) price.num ∙ ratio ∙ ap (λ z. z *ℤ price.den) (sym same)
      where
        above : (x y u v : ℕ) → x ≡ u → y ≡ v → x ≤ y → pos u ≤ℤ pos v
        above x y u v e f n = omega (arith, ints, e, f, n)

        turned : (x y : ℤ) → x *ℤ y ≡ y *ℤ x
        turned x y = simp ring
