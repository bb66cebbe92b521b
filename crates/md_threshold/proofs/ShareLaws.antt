-- What bidders have by the threshold rule is what they have in its mechanism.
use Rattle.std.proofs.Common.{◌≡◌, ℕ, ◌+◌, ◌<◌, ℤ, pos, ◌*ℤ◌, ◌≤ℤ◌, ◌<ℤ◌, if◌then◌else◌, unsigned_abs, List, [], ◌∷◌, ◌++◌, length, get_or, slice_get, Some, sym, ap, ◌∙◌, subst, arith, inl, inr, length-append}
use Rattle.std.specs.Prelude.{slice_index}
use Rattle.std.proofs.lemmas.Bool.{cases_lt}
use Rattle.std.proofs.lemmas.Int.{ints}
use Rattle.std.proofs.lemmas.Option.{slice_get-get_or, slice_get_within, get_or_from_slice_get}
use Rattle.std.proofs.lemmas.List.{get_or_append_left, set-get_or}
use Rattle.std.proofs.Math.Seq.{get_or-append_seam}
use Rattle.md_math.specs.Divisors.{IsLeastTerms}
use Rattle.md_math.specs.Sums.{sum_to}
use Rattle.md_math.proofs.Order.{*ℤ_cancel, positive_pos}
use Rattle.md_math.proofs.Ring.{ring}
use Rattle.md_num.specs.declared.frac.Frac.{Frac}
use Rattle.md_space.specs.Profiles.{IsProfile}
use Rattle.md_setting.specs.Meaning.{sizes_of}
use Rattle.md_setting.specs.Auction.{SymmetricAuction}
use Rattle.md_setting.specs.AuctionShaped.{IsAuction}
use Rattle.md_setting.specs.General.{general_of}
use Rattle.md_iron_values.specs.Pools.{Pools}
use Rattle.md_iron_values.specs.VirtualValues.{IsPooledAuction}
use Rattle.md_iron_pools.specs.declared.pools.AuctionPools.{AuctionPools}
use Rattle.md_iron_pools.specs.ByRule.{IsAuctionByRule}
use Rattle.md_iron_pools.specs.Pooling.{IsPooling}
use Rattle.md_threshold_laws.specs.Rule.{draw_count, chance, chance_with, payment, wins_at, draws_at, IsPrice}
use Rattle.md_threshold_laws.proofs.Profiles.{some-draws}
use Rattle.md_threshold_laws.proofs.MechanismLaws.{is-report, enough, wins-are, pays-are}
use Rattle.md_threshold_laws.proofs.TruthLaws.{loser-pays, price-most}
use Rattle.md_threshold_laws.proofs.DrawLaws.{wins-draws}
use Rattle.md_threshold_laws.proofs.Optimal.{threshold-optimal}
use Rattle.md_threshold.specs.declared.shares.Share.{Share}
use Rattle.md_threshold.specs.declared.shares.Award.{Award}
use Rattle.md_threshold.specs.Kinds.{AreKinds}
use Rattle.md_threshold.specs.Awards.{won_by_rule, IsWinnersPrice, IsLoser, IsShare, AreShares, IsAward}

pub profile-long : (a : SymmetricAuction) (t : List ℕ) → IsProfile (sizes_of (general_of a)) t → length t ≡ a.bidders
profile-long a t p = (is-report a t p).long

pub are-kinds : (a : SymmetricAuction) (kept : AuctionPools) (t : List ℕ) → IsAuction a → IsPooling a kept → IsProfile (sizes_of (general_of a)) t → AreKinds kept t
are-kinds a kept t shaped pooling p =
    let is = is-report a t p in
    record {
      few = omega (arith, is.long, shaped.few_bidders);
      below = λ i b. subst (λ n. slice_index t i < n) (sym pooling.one_each) (is.below i b);
    }

-- a bidder's own value is what it has in the profile
pub own-chance : (units : ℕ) (pools : Pools) (t : List ℕ) (i v : ℕ) → v ≡ slice_index t i → chance_with units pools t i v ≡ chance units pools t (slice_index t i)
own-chance units pools t i v e = ap (chance_with units pools t i) e ∙ ap (λ u. chance units pools u (slice_index t i)) (set-get_or t i 0)

-- ---- one bidder

module _ (a : SymmetricAuction) (units : ℕ) (pools : Pools) (t : List ℕ) (i : ℕ) (shaped : IsAuction a) (p : IsPooledAuction a pools) (h : IsProfile (sizes_of (general_of a)) t) (b : i < a.bidders) where
  pub loser : chance units pools t (slice_index t i) ≡ 0 → IsLoser a units pools t i
  loser none = record {
    never = wins-are a units pools shaped p i t b h ∙ ap (λ n. pos n) none;
    nothing = pays-are a units pools shaped p i t b h ∙ loser-pays a units pools shaped p t (is-report a t h) i b none;
  }

  pub winner : (price : Frac) (often : ℕ) (paid : ℤ) → often ≡ chance units pools t (slice_index t i) → 0 < often → paid ≡ payment a units pools i t → price.num *ℤ pos often ≡ paid *ℤ price.den → IsLeastTerms price.num price.den
      → IsWinnersPrice a units pools t i price
  winner price often paid is some pays ratio least =
      let won : won_by_rule a units pools t i ≡ pos often = wins-are a units pools shaped p i t b h ∙ ap (λ n. pos n) (sym is) in
      let told : IsPrice a units pools i t price.num price.den = ap (λ n. pos n *ℤ price.num) (sym is) ∙ turned (pos often) price.num ∙ ratio ∙ ap (λ z. z *ℤ price.den) pays in
      let bounds = price-most a units pools shaped p t (is-report a t h) i b price.num price.den least.positive (subst (λ n. 0 < n) is some) told in
      record {
        some = subst (λ z. pos 0 <ℤ z) (sym won) (positive_pos often some);
        paid = ap (λ z. z *ℤ price.num) won ∙ turned (pos often) price.num ∙ ratio ∙ ap (λ z. z *ℤ price.den) (pays ∙ sym (pays-are a units pools shaped p i t b h));
        from = bounds.0;
        most = bounds.1;
        least = least;
      }
    where
      turned : (x y : ℤ) → x *ℤ y ≡ y *ℤ x
      turned x y = simp ring

  pub chance-is : (share : Frac) (often draws : ℕ) → often ≡ chance units pools t (slice_index t i) → draws ≡ draw_count → share.num *ℤ pos draws ≡ pos often *ℤ share.den → share.num *ℤ pos draw_count ≡ won_by_rule a units pools t i *ℤ share.den
  chance-is share often draws is all ratio =
      ap (λ n. share.num *ℤ pos n) (sym all) ∙ ratio ∙ ap (λ z. z *ℤ share.den) (ap (λ n. pos n) is ∙ sym (wins-are a units pools shaped p i t b h))

  -- among the draws that tell who wins it wins as often
  pub fair-share : (draw : ℕ) (share : Share) → IsShare a units pools t draw i share
      → share.chance.num *ℤ pos (draws_at units pools t) ≡ sum_to (draws_at units pools t) (λ d. if wins_at units pools t d i then pos 1 else pos 0) *ℤ share.chance.den
  fair-share draw share is =
      let m = draws_at units pools t in
      let s = sum_to (draws_at units pools t) (λ d. if wins_at units pools t d i then pos 1 else pos 0) in
      let long = profile-long a t h in
      let draws : pos draw_count *ℤ s ≡ pos m *ℤ won_by_rule a units pools t i =
      wins-draws units pools t i (omega (arith, long, shaped.few_bidders)) (omega (arith, long, b)) ∙ ap (λ z. pos m *ℤ z) (sym (wins-are a units pools shaped p i t b h)) in
      fair (pos draw_count) (pos m) s (won_by_rule a units pools t i) share.chance.num share.chance.den (positive_pos draw_count some-draws) is.chance draws
    where
      fair : (d m s c n e : ℤ) → pos 0 <ℤ d → n *ℤ d ≡ c *ℤ e → d *ℤ s ≡ m *ℤ c → n *ℤ m ≡ s *ℤ e
      fair d m s c n e above one draws =
          *ℤ_cancel d (n *ℤ m) (s *ℤ e) above (first d n m ∙ ap (λ z. z *ℤ m) one ∙ second c e m ∙ ap (λ z. z *ℤ e) (sym draws) ∙ third d s e)
        where
          first : (d n m : ℤ) → d *ℤ (n *ℤ m) ≡ (n *ℤ d) *ℤ m
          first d n m = simp ring

          second : (c e m : ℤ) → (c *ℤ e) *ℤ m ≡ (m *ℤ c) *ℤ e
          second c e m = simp ring

          third : (d s e : ℤ) → (d *ℤ s) *ℤ e ≡ d *ℤ (s *ℤ e)
          third d s e = simp ring

-- ---- all bidders

pub next-share : (a : SymmetricAuction) (units : ℕ) (pools : Pools) (t : List ℕ) (draw n : ℕ) (shares new : List Share) (share : Share) → AreShares a units pools t draw n shares → IsShare a units pools t draw n share → new ≡ shares ++ share ∷ []
    → AreShares a units pools t draw (n + 1) new
next-share a units pools t draw n shares new share are is e = record {
  one_each = ap length e ∙ length-append shares (share ∷ []) ∙ (let more : length shares + 1 ≡ n + 1 = omega (arith, are.one_each) in more);
  share = λ i s h. one i s (subst (λ xs. slice_get xs i ≡ Some s) e h);
}
  where
    one : (i : ℕ) (s : Share) → slice_get (shares ++ share ∷ []) i ≡ Some s → IsShare a units pools t draw i s
    one i s h = elim (cases_lt i (length shares)) [
      | inl l ↦ are.share i s (slice_get-get_or shares i s l ∙ ap (λ x. Some x) (sym (get_or_append_left shares (share ∷ []) s i l) ∙ get_or_from_slice_get (shares ++ share ∷ []) i s s h))
      | inr l ↦
          let inside = slice_get_within (shares ++ share ∷ []) i s h in
          let last : i ≡ length shares = omega (arith, l, inside, length-append shares (share ∷ [])) in
          let same : s ≡ share = sym (get_or_from_slice_get (shares ++ share ∷ []) i s s h) ∙ ap (λ k. get_or (shares ++ share ∷ []) k s) last ∙ get_or-append_seam shares share [] s in
          let place : i ≡ n = last ∙ are.one_each in
          subst (λ k. IsShare a units pools t draw k s) (sym place) (subst (IsShare a units pools t draw n) (sym same) is)
    ]

pub awarded : (a : SymmetricAuction) (units : ℕ) (pools : Pools) (t : List ℕ) (draw : ℤ) (number : ℕ) (award : Award) → IsAuction a → IsAuctionByRule a pools → IsProfile (sizes_of (general_of a)) t → pos number ≡ draw → number < draws_at units pools t
    → AreShares a units pools t number a.bidders award.shares.items → IsAward a units t draw award
awarded a units pools t draw number award shaped by_rule h is below are =
    let same : number ≡ unsigned_abs draw = ap unsigned_abs is in
    record {
      pools = pools;
      by_rule = by_rule;
      optimal = threshold-optimal a units pools shaped by_rule.pooled;
      enough = subst (λ d. sum_to a.bidders (λ i. if wins_at units pools t d i then pos 1 else pos 0) ≤ℤ pos units) same (enough a units pools shaped by_rule.pooled t (is-report a t h) number);
      in_range = record { from = from number is; below = under number is below };
      shares = subst (λ d. AreShares a units pools t d a.bidders award.shares.items) same are;
      fair = λ i share e.
          fair-share a units pools t i shaped by_rule.pooled h (subst (λ n. i < n) are.one_each (slice_get_within award.shares.items i share e)) number share (are.share i share e);
    }
  where
    from : (n : ℕ) → pos n ≡ draw → pos 0 ≤ℤ draw
    from n e = omega (arith, ints, e)

    under : (n : ℕ) → pos n ≡ draw → n < draws_at units pools t → draw <ℤ pos (draws_at units pools t)
    under n e l = omega (arith, ints, e, l)
