-- The mechanism of a mass table is a mechanism of the auction, and has the odds whose demands are the masses.
use Rattle.std.proofs.Common.{◌≡◌, ℕ, zero, suc, ◌+◌, ◌-◌, ◌<◌, ◌≤◌, ℤ, pos, ◌+ℤ◌, ◌-ℤ◌, ◌*ℤ◌, ◌≤ℤ◌, ◌<ℤ◌, Bool, true, false, ◌==◌, if◌then◌else◌, List, refl, sym, ap, ap₂, ◌∙◌, subst, arith}
use Rattle.std.specs.Prelude.{slice_index}
use Rattle.std.proofs.lemmas.Int.{ints}
use Rattle.std.proofs.Math.IntN.{pos-*ℤ-pos}
use Rattle.std.proofs.Math.ListN.{replicate}
use lib.IntN.{*ℤ_comm}
use Rattle.md_math.specs.Lists.{number_at}
use Rattle.md_math.specs.Sums.{sum_to, total_by}
use Rattle.md_math.proofs.Order.{positive-*ℤ, positive_pos, *ℤ_cancel}
use Rattle.md_math.proofs.Ring.{linear, ring, *ℤ-zero, *ℤ_assoc, *ℤ_left_comm}
use Rattle.md_math.proofs.SumLaws.{sum_to-same, sum_to-*ℤ, sum_to-front}
use Rattle.md_math.proofs.TotalLaws.{total_by-*ℤ, total_by-sum_to}
use Rattle.md_space.specs.Profiles.{IsProfile}
use Rattle.md_space.specs.AllProfiles.{profiles_of}
use Rattle.md_space.specs.ByType.{where_type}
use Rattle.md_space.proofs.TypeSums.{total-same, total_given-same, total_given-*ℤ}
use Rattle.md_setting.specs.Meaning.{sizes_of, weight_of}
use Rattle.md_setting.specs.Auction.{SymmetricAuction, value_count}
use Rattle.md_setting.specs.AuctionShaped.{IsAuction}
use Rattle.md_setting.specs.General.{general_of}
use Rattle.md_setting.proofs.GeneralLaws.{general-payments, agent_count-general, outcome_count-general, sizes_of-general, marginal_of-general}
use Rattle.md_mech.specs.Mechanism.{chance_of, pay_of, IsMechanism}
use Rattle.md_mech.specs.Utility.{weighted_given}
use Rattle.md_mech.proofs.WholeLaws.{stays_nonneg}
use Rattle.md_mech.proofs.ByProfileLaws.{chance_of-mechanism_by, pay_of-mechanism_by, IsMechanism-mechanism_by}
use Rattle.md_counts.specs.Weights.{has_counts, value_lists}
use Rattle.md_counts.proofs.RankLaws.{ranked}
use Rattle.md_counts.proofs.Regrouping.{where_counts, weight_of_values, given-counts}
use Rattle.md_border.specs.declared.interim.Interim.{Interim}
use Rattle.md_border.specs.Odds.{HasOdds, HasPays, WinsAs, weight_given}
use Rattle.md_border.proofs.SideLaws.{profile-weight}
use Rattle.md_expost.specs.declared.masses.Masses.{Masses}
use Rattle.md_expost.specs.Masses.{AreMasses, counts_in, mass_at, mass_of, rank_count}
use Rattle.md_expost.specs.Mechanisms.{all_orders, share, win_of, whole_of, lottery_of, mechanism_of}
use Rattle.md_expost.specs.Implementing.{Implements}
use Rattle.md_expost.proofs.Shares.{all_orders-positive}
use Rattle.md_expost.proofs.Winners.{NoneAbsent, shared, win-nonneg, wins-le, value-below}

-- ---- a mechanism

pub mechanism-of_masses : (a : SymmetricAuction) (y : Masses) (pays : List ℤ) → IsAuction a → AreMasses a y → IsMechanism (general_of a) (mechanism_of a y pays)
mechanism-of_masses a y pays h masses =
    IsMechanism-mechanism_by (general_of a) (whole_of a y) (lottery_of a y) (λ i t. number_at pays (slice_index t i) *ℤ pos (all_orders a))
    (record {
      positive = some (whole_of a y) (positive-*ℤ y.den (pos (all_orders a)) (above y.den masses.den_positive) (positive_pos (all_orders a) (all_orders-positive a h)));
      not_negative = λ t o p l. chances t o (profile t p) (omega (arith, outcome_count-general a, l));
      whole = λ t p. ap (λ n. sum_to n (lottery_of a y t)) (outcome_count-general a) ∙ all t;
      no_payment = λ off t i p l. off_is_on (general-payments a) off;
    })
  where
    above : (z : ℤ) → pos 1 ≤ℤ z → pos 0 <ℤ z
    above z l = omega (arith, ints)

    some : (z : ℤ) → pos 0 <ℤ z → pos 1 ≤ℤ z
    some z l = omega (arith, ints)

    off_is_on : {P : Type 0} {b : Bool} → b ≡ true → b ≡ false → P
    off_is_on e f = cc

    profile : (t : List ℕ) → IsProfile (sizes_of (general_of a)) t → IsProfile (replicate a.bidders (value_count a)) t
    profile t p = subst (λ sizes. IsProfile sizes t) (sizes_of-general a) p

    chances : (t : List ℕ) (o : ℕ) → IsProfile (replicate a.bidders (value_count a)) t → o < a.bidders + 1 → pos 0 ≤ℤ lottery_of a y t o
    chances t zero p l = stays_nonneg _ _ (wins-le a y t h masses p)
    chances t (suc i) p l = win-nonneg a y t i masses.nonneg (value-below a.bidders (value_count a) t i p (omega arith))

    back : (w s : ℤ) → (w -ℤ s) +ℤ s ≡ w
    back w s = omega (arith, linear)

    all : (t : List ℕ) → sum_to (a.bidders + 1) (lottery_of a y t) ≡ whole_of a y
    all t =
        let n = a.bidders in
        let more : sum_to (n + 1) (lottery_of a y t) ≡ lottery_of a y t 0 +ℤ sum_to n (λ i. lottery_of a y t (i + 1)) =
        ap (λ k. sum_to k (lottery_of a y t)) (let e : n + 1 ≡ suc n = omega arith in e) ∙ sum_to-front n (lottery_of a y t) in
        let bidders : sum_to n (λ i. lottery_of a y t (i + 1)) ≡ sum_to n (win_of a y t) =
        sum_to-same n _ (win_of a y t) (λ i b. ap (lottery_of a y t) (let e : i + 1 ≡ suc i = omega arith in e)) in
        more ∙ ap (λ z. (whole_of a y -ℤ sum_to n (win_of a y t)) +ℤ z) bidders ∙ back (whole_of a y) (sum_to n (win_of a y t))

-- ---- the odds

-- how often a bidder with a value wins by one mass
abbrev part_of : SymmetricAuction → Masses → ℕ → ℕ → ℤ
part_of a y v r = mass_at a y r v *ℤ pos (share a (counts_in a r) v)

-- over all profiles by weight, summed over the lists of counts
wins-by_counts : (a : SymmetricAuction) (y : Masses) (i v : ℕ)
    → total_by (where_type i v (λ t. weight_of_values a.weights t *ℤ sum_to (rank_count a) (λ r. if has_counts (counts_in a r) t then part_of a y v r else pos 0))) (value_lists a.bidders (value_count a))
    ≡ sum_to (rank_count a) (λ r. part_of a y v r *ℤ total_by (where_type i v (where_counts (counts_in a r) (weight_of_values a.weights))) (value_lists a.bidders (value_count a)))
wins-by_counts a y i v =
    let lists = replicate a.bidders (value_count a) in
    total-same lists _ (λ t. sum_to (rank_count a) (λ r. part_of a y v r *ℤ where_type i v (where_counts (counts_in a r) (weight_of_values a.weights)) t))
    (λ t p. into (slice_index t i == v) (weight_of_values a.weights t) t)
    ∙ total_by-sum_to (rank_count a) (λ t r. part_of a y v r *ℤ where_type i v (where_counts (counts_in a r) (weight_of_values a.weights)) t) (value_lists a.bidders (value_count a))
    ∙ sum_to-same (rank_count a) _ _ (λ r b. total_by-*ℤ (part_of a y v r) (where_type i v (where_counts (counts_in a r) (weight_of_values a.weights))) (value_lists a.bidders (value_count a)))
  where
    term : (b : Bool) (w m : ℤ) → w *ℤ (if b then m else pos 0) ≡ m *ℤ (if b then w else pos 0)
    term true w m = *ℤ_comm w m
    term false w m = *ℤ-zero w ∙ sym (*ℤ-zero m)

    into : (s : Bool) (w : ℤ) (t : List ℕ)
        → (if s then w *ℤ sum_to (rank_count a) (λ r. if has_counts (counts_in a r) t then part_of a y v r else pos 0) else pos 0)
        ≡ sum_to (rank_count a) (λ r. part_of a y v r *ℤ (if s then (if has_counts (counts_in a r) t then w else pos 0) else pos 0))
    into true w t =
        sym (sum_to-*ℤ (rank_count a) w (λ r. if has_counts (counts_in a r) t then part_of a y v r else pos 0))
        ∙ sum_to-same (rank_count a) _ _ (λ r b. term (has_counts (counts_in a r) t) w (part_of a y v r))
    into false w t = sym (zeros (rank_count a))
      where
        zeros : (n : ℕ) → sum_to n (λ r. part_of a y v r *ℤ pos 0) ≡ pos 0
        zeros zero = refl
        zeros (suc n) = ap₂ (λ x z. x +ℤ z) (zeros n) (*ℤ-zero (part_of a y v n))

-- as many bidders as there are win together what the masses of the value say
wins-of_value : (a : SymmetricAuction) (y : Masses) (i v : ℕ) → IsAuction a → NoneAbsent a y → i < a.bidders → v < value_count a
    → pos a.bidders *ℤ sum_to (rank_count a) (λ r. part_of a y v r *ℤ total_by (where_type i v (where_counts (counts_in a r) (weight_of_values a.weights))) (value_lists a.bidders (value_count a)))
    ≡ pos (all_orders a) *ℤ mass_of a y v
wins-of_value a y i v h absent b l =
    let n = a.bidders in
    let given = λ (r : ℕ). total_by (where_type i v (where_counts (counts_in a r) (weight_of_values a.weights))) (value_lists n (value_count a)) in
    sym (sum_to-*ℤ (rank_count a) (pos n) (λ r. part_of a y v r *ℤ given r))
    ∙ sum_to-same (rank_count a) _ (λ r. pos (all_orders a) *ℤ mass_at a y r v)
    (λ r c.
    *ℤ_left_comm (pos n) (part_of a y v r) (given r)
    ∙ ap (λ z. part_of a y v r *ℤ z) (given-counts a.weights n (value_count a) i v (counts_in a r) b l (ranked (value_count a) n r c).counts)
    ∙ shared a y r v h absent c l)
    ∙ sum_to-*ℤ (rank_count a) (pos (all_orders a)) (λ r. mass_at a y r v)

-- what a bidder with a value wins by the table over all profiles, by weight
wins-weighted : (a : SymmetricAuction) (y : Masses) (i v : ℕ)
    → weighted_given (general_of a) i v (λ t. win_of a y t i)
    ≡ sum_to (rank_count a) (λ r. part_of a y v r *ℤ total_by (where_type i v (where_counts (counts_in a r) (weight_of_values a.weights))) (value_lists a.bidders (value_count a)))
wins-weighted a y i v =
    let s = general_of a in
    let won = λ (u : ℕ) (t : List ℕ). sum_to (rank_count a) (λ r. if has_counts (counts_in a r) t then part_of a y u r else pos 0) in
    total_given-same (sizes_of s) i v (λ t. weight_of s t *ℤ win_of a y t i) (λ t. weight_of_values a.weights t *ℤ won v t)
    (λ t p e. ap₂ (λ x z. x *ℤ z) (profile-weight a t (subst (λ sizes. IsProfile sizes t) (sizes_of-general a) p)) (ap (λ u. won u t) e))
    ∙ ap (λ sizes. total_by (where_type i v (λ t. weight_of_values a.weights t *ℤ won v t)) (profiles_of sizes)) (sizes_of-general a)
    ∙ wins-by_counts a y i v

-- as many bidders as there are, each with the value, win by the table what its masses of the value say
pub won-of_table : (a : SymmetricAuction) (y : Masses) (i v : ℕ) → IsAuction a → NoneAbsent a y → i < a.bidders → v < value_count a
    → pos a.bidders *ℤ weighted_given (general_of a) i v (λ t. win_of a y t i) ≡ pos (all_orders a) *ℤ mass_of a y v
won-of_table a y i v h absent b l = ap (λ z. pos a.bidders *ℤ z) (wins-weighted a y i v) ∙ wins-of_value a y i v h absent b l

-- ---- any sale whose bidders win as often as a table says, and pay by their values

-- what such functions are over the profiles in which a bidder has a value
given-as : (a : SymmetricAuction) (i v : ℕ) (f g : List ℕ → ℤ) → ((t : List ℕ) → IsProfile (sizes_of (general_of a)) t → f t ≡ g t) → weighted_given (general_of a) i v f ≡ weighted_given (general_of a) i v g
given-as a i v f g same =
    let s = general_of a in
    total_given-same (sizes_of s) i v (λ t. weight_of s t *ℤ f t) (λ t. weight_of s t *ℤ g t) (λ t p e. ap (λ z. weight_of s t *ℤ z) (same t p))

pub odds-of_wins : (a : SymmetricAuction) (interim : Interim) (y : Masses) (win : ℕ → List ℕ → ℤ) → IsAuction a → NoneAbsent a y → Implements a interim y
    → ((i : ℕ) (t : List ℕ) → i < a.bidders → IsProfile (sizes_of (general_of a)) t → win i t ≡ win_of a y t i) → WinsAs a win (whole_of a y) interim.den interim.odds
odds-of_wins a interim y win h absent exact wins = record { wins = λ i v b l. at i v b l }
  where
    some_bidder : (n : ℕ) → 1 ≤ n → pos 0 <ℤ pos n
    some_bidder n l = omega (arith, ints)

    parts : (o n g q : ℤ) → o *ℤ ((n *ℤ g) *ℤ q) ≡ n *ℤ (o *ℤ (g *ℤ q))
    parts o n g q = simp ring

    at : (i v : ℕ) → i < a.bidders → v < value_count a → interim.den *ℤ weighted_given (general_of a) i v (win i) ≡ whole_of a y *ℤ (pos (weight_given a v) *ℤ number_at interim.odds v)
    at i v b l =
        let n = a.bidders in
        let o = pos (all_orders a) in
        let q = number_at interim.odds v in
        let won = weighted_given (general_of a) i v (win i) in
        let all : pos n *ℤ won ≡ pos n *ℤ (o *ℤ (pos (weight_given a v) *ℤ q)) =
        ap (λ z. pos n *ℤ z) (given-as a i v (win i) (λ t. win_of a y t i) (λ t p. wins i t b p))
        ∙ won-of_table a y i v h absent b l
        ∙ ap (λ z. o *ℤ z) (exact.exact v l)
        ∙ ap (λ z. o *ℤ (z *ℤ q)) (sym (pos-*ℤ-pos n (weight_given a v)))
        ∙ parts o (pos n) (pos (weight_given a v)) q in
        ap (λ z. interim.den *ℤ z) (*ℤ_cancel (pos n) won (o *ℤ (pos (weight_given a v) *ℤ q)) (some_bidder n h.some_bidder) all)
        ∙ sym (*ℤ_assoc interim.den o (pos (weight_given a v) *ℤ q))
        ∙ ap (λ d. (d *ℤ o) *ℤ (pos (weight_given a v) *ℤ q)) (sym exact.same_den)

-- each bidder with a value pays the same at each profile
pub pays-of_kinds : (a : SymmetricAuction) (y : Masses) (pays : List ℤ) (pay : ℕ → List ℕ → ℤ) → IsAuction a
    → ((i : ℕ) (t : List ℕ) → i < a.bidders → IsProfile (sizes_of (general_of a)) t → pay i t ≡ number_at pays (slice_index t i) *ℤ pos (all_orders a)) → WinsAs a pay (whole_of a y) y.den pays
pays-of_kinds a y pays pay h paid = record { wins = λ i v b l. at i v b l }
  where
    less : (n : ℕ) → 1 ≤ n → n ≡ suc (n - 1)
    less n l = omega (arith, l)

    parts : (d o g q : ℤ) → d *ℤ ((q *ℤ o) *ℤ g) ≡ (d *ℤ o) *ℤ (g *ℤ q)
    parts d o g q = simp ring

    at : (i v : ℕ) → i < a.bidders → v < value_count a → y.den *ℤ weighted_given (general_of a) i v (pay i) ≡ whole_of a y *ℤ (pos (weight_given a v) *ℤ number_at pays v)
    at i v b l =
        let s = general_of a in
        let each = number_at pays v *ℤ pos (all_orders a) in
        ap (λ z. y.den *ℤ z)
        (total_given-same (sizes_of s) i v (λ t. weight_of s t *ℤ pay i t) (λ t. each *ℤ weight_of s t)
        (λ t p e.
        ap (λ z. weight_of s t *ℤ z) (paid i t b p ∙ ap (λ u. number_at pays u *ℤ pos (all_orders a)) e)
        ∙ *ℤ_comm (weight_of s t) each)
        ∙ total_given-*ℤ (sizes_of s) i v each (weight_of s)
        ∙ ap (λ z. each *ℤ z) (marginal_of-general a (a.bidders - 1) i v h.one_each (less a.bidders h.some_bidder) b l))
        ∙ parts y.den (pos (all_orders a)) (pos (weight_given a v)) (number_at pays v)

-- ---- one item

pub odds-of_masses : (a : SymmetricAuction) (interim : Interim) (y : Masses) (pays : List ℤ) → IsAuction a → AreMasses a y → Implements a interim y
    → HasOdds a (mechanism_of a y pays) interim.den interim.odds
odds-of_masses a interim y pays h masses exact = record { wins = (odds-of_wins a interim y win h masses.absent exact at).wins }
  where
    win : ℕ → List ℕ → ℤ
    win i t = chance_of (general_of a) (mechanism_of a y pays) t (i + 1)

    at : (i : ℕ) (t : List ℕ) → i < a.bidders → IsProfile (sizes_of (general_of a)) t → win i t ≡ win_of a y t i
    at i t b p =
        chance_of-mechanism_by (general_of a) (whole_of a y) (lottery_of a y) (λ j u. number_at pays (slice_index u j) *ℤ pos (all_orders a)) t (i + 1) p (omega (arith, outcome_count-general a, b))
        ∙ ap (lottery_of a y t) (let f : i + 1 ≡ suc i = omega arith in f)

pub pays-of_masses : (a : SymmetricAuction) (y : Masses) (pays : List ℤ) → IsAuction a → HasPays a (mechanism_of a y pays) y.den pays
pays-of_masses a y pays h = record { paid = (pays-of_kinds a y pays pay h at).wins }
  where
    pay : ℕ → List ℕ → ℤ
    pay i t = pay_of (general_of a) (mechanism_of a y pays) i t

    at : (i : ℕ) (t : List ℕ) → i < a.bidders → IsProfile (sizes_of (general_of a)) t → pay i t ≡ number_at pays (slice_index t i) *ℤ pos (all_orders a)
    at i t b p = pay_of-mechanism_by (general_of a) (whole_of a y) (lottery_of a y) (λ j u. number_at pays (slice_index u j) *ℤ pos (all_orders a)) t i p (omega (arith, agent_count-general a, b))
