-- What a mechanism of a sale is worth, by what the pairs win and pay, and by their odds and payments.
use Rattle.std.proofs.Common.{◌≡◌, ℕ, suc, ◌+◌, ◌<◌, ℤ, pos, ◌+ℤ◌, ◌-ℤ◌, ◌*ℤ◌, ◌<ℤ◌, List, sym, ap, ap₂, ◌∙◌, arith}
use Rattle.std.specs.Prelude.{slice_index}
use lib.IntN.{*ℤ_comm}
use Rattle.md_math.specs.Lists.{number_at}
use Rattle.md_math.specs.Sums.{sum_to, total_by}
use Rattle.md_math.proofs.Order.{*ℤ_cancel}
use Rattle.md_math.proofs.Ring.{linear, ring}
use Rattle.md_math.proofs.SumLaws.{sum_to-same, sum_to-+ℤ, sum_to-*ℤ, sum_to-front}
use Rattle.md_math.proofs.TotalLaws.{total_by-+ℤ, total_by-*ℤ}
use Rattle.md_num.specs.declared.frac.Frac.{Frac}
use Rattle.md_space.specs.AllProfiles.{profiles_of}
use Rattle.md_space.specs.Profiles.{IsProfile}
use Rattle.md_space.proofs.Ranks.{report-below}
use Rattle.md_space.proofs.TypeSums.{total-same}
use Rattle.md_setting.specs.Setting.{GeneralSetting}
use Rattle.md_setting.specs.Meaning.{agent_count, outcome_count, sizes_of, weight_of, total_of, value_of}
use Rattle.md_setting.specs.Shaped.{IsShaped}
use Rattle.md_mech.specs.declared.mechanism.Mechanism.{Mechanism}
use Rattle.md_mech.specs.Mechanism.{chance_of, pay_of, IsMechanism}
use Rattle.md_mech.specs.Optimal.{objective_at, worth_of}
use Rattle.md_mech.specs.Value.{HasValue}
use Rattle.md_mech.proofs.CountLaws.{agents-length}
use Rattle.md_asym_sale.specs.Forms.{pay_in, cost_of}
use Rattle.md_asym_sale.specs.Pairs.{pair_number, agent_of, kind_of}
use Rattle.md_asym_sale.specs.Sale.{IsSale}
use Rattle.md_asym_sale.specs.Values.{pairs_of, marginal_at, surplus_at, surplus_of}
use Rattle.md_asym_sale.proofs.PairSums.{by_pairs, number-of}
use Rattle.md_asym_sale.proofs.SaleLaws.{in-sizes, value-own, value-kept, value-sold}
use Rattle.md_asym_laws.specs.Averages.{given_at, win_in, paid_in}
use Rattle.md_asym_laws.specs.Mechanisms.{HasWorthOf}
use Rattle.md_asym_laws.specs.Odds.{HasPairOdds, HasPairPays}
use Rattle.md_asym_laws.specs.Worth.{base_of, worth_in, HasWorth}
use Rattle.md_asym_laws.proofs.PairFacts.{surplus-at, pair-of}

-- ---- one profile

-- what the agents add to the objective where they win and pay so much
abbrev added : GeneralSetting → (ℕ → List ℕ → ℤ) → (ℕ → List ℕ → ℤ) → List ℕ → ℤ
added s win pay t = sum_to (agent_count s) (λ i. surplus_of s i (slice_index t i) *ℤ win i t) +ℤ s.revenue *ℤ sum_to (agent_count s) (λ i. pay i t)

-- the chances that are left keep the item
lottery-worth : (n : ℕ) (keep whole : ℤ) (chance worth more : ℕ → ℤ) → worth 0 ≡ keep → ((i : ℕ) → i < n → worth (i + 1) -ℤ keep ≡ more i) → sum_to (n + 1) chance ≡ whole
    → sum_to (n + 1) (λ o. chance o *ℤ worth o) ≡ keep *ℤ whole +ℤ sum_to n (λ i. more i *ℤ chance (i + 1))
lottery-worth n keep whole chance worth more first others all =
    let next : n + 1 ≡ suc n = omega arith in
    let each : sum_to (n + 1) (λ o. chance o *ℤ worth o) ≡ sum_to (n + 1) (λ o. keep *ℤ chance o) +ℤ sum_to (n + 1) (λ o. chance o *ℤ (worth o -ℤ keep)) =
    sum_to-same (n + 1) _ (λ o. keep *ℤ chance o +ℤ chance o *ℤ (worth o -ℤ keep)) (λ o b. split (chance o) (worth o) keep)
    ∙ sum_to-+ℤ (n + 1) (λ o. keep *ℤ chance o) (λ o. chance o *ℤ (worth o -ℤ keep)) in
    let left : sum_to (n + 1) (λ o. keep *ℤ chance o) ≡ keep *ℤ whole = sum_to-*ℤ (n + 1) keep chance ∙ ap (λ z. keep *ℤ z) all in
    let right : sum_to (n + 1) (λ o. chance o *ℤ (worth o -ℤ keep)) ≡ sum_to n (λ i. more i *ℤ chance (i + 1)) =
    ap (λ k. sum_to k (λ o. chance o *ℤ (worth o -ℤ keep))) next
    ∙ sum_to-front n (λ o. chance o *ℤ (worth o -ℤ keep))
    ∙ nothing (chance 0) (worth 0) keep (sum_to n (λ i. chance (i + 1) *ℤ (worth (i + 1) -ℤ keep))) first
    ∙ sum_to-same n _ (λ i. more i *ℤ chance (i + 1)) (λ i b. ap (λ z. chance (i + 1) *ℤ z) (others i b) ∙ *ℤ_comm (chance (i + 1)) (more i)) in
    each ∙ ap₂ (λ x y. x +ℤ y) left right
  where
    split : (c w k : ℤ) → c *ℤ w ≡ k *ℤ c +ℤ c *ℤ (w -ℤ k)
    split c w k = simp ring (omega (arith, linear))

    nothing : (c w k z : ℤ) → w ≡ k → c *ℤ (w -ℤ k) +ℤ z ≡ z
    nothing c w k z e = (let none : c *ℤ (w -ℤ k) ≡ pos 0 = ap (λ x. c *ℤ (x -ℤ k)) e ∙ zero c k in omega (arith, linear, none))
      where
        zero : (c k : ℤ) → c *ℤ (k -ℤ k) ≡ pos 0
        zero c k = simp ring (omega (arith, linear))

objective-at : (s : GeneralSetting) (m : Mechanism) (t : List ℕ) → IsSale s → IsShaped s → IsMechanism s m → IsProfile (sizes_of s) t
    → objective_at s m t ≡ number_at s.values 0 *ℤ m.den +ℤ added s (win_in s m) (paid_in s m) t
objective-at s m t sale shaped mechanism p =
    let n = agent_count s in
    let keep = number_at s.values 0 in
    let paid = s.revenue *ℤ sum_to n (λ i. pay_of s m i t) in
    let won = sum_to n (λ i. surplus_of s i (slice_index t i) *ℤ chance_of s m t (i + 1)) in
    let lottery : sum_to (outcome_count s) (λ o. chance_of s m t o *ℤ value_of s t o) ≡ keep *ℤ m.den +ℤ won =
    ap (λ k. sum_to k (λ o. chance_of s m t o *ℤ value_of s t o)) sale.one_more
    ∙ lottery-worth n keep m.den (chance_of s m t) (value_of s t) (λ i. surplus_of s i (slice_index t i)) (value-kept s t sale p)
    (λ i b. ap (λ z. z -ℤ keep) (value-sold s i t sale b p ∙ ap (λ z. number_at s.values (i + 1) +ℤ s.welfare *ℤ z) (value-own s i t sale shaped b p)))
    (ap (λ k. sum_to k (chance_of s m t)) (sym sale.one_more) ∙ mechanism.whole t p) in
    ap (λ z. z +ℤ paid) lottery ∙ together (keep *ℤ m.den) won paid
  where
    together : (x y z : ℤ) → (x +ℤ y) +ℤ z ≡ x +ℤ (y +ℤ z)
    together x y z = omega (arith, linear)

-- ---- all profiles

-- what the pairs add to the objective over all profiles by weight
abbrev pub gains_of : GeneralSetting → (ℕ → List ℕ → ℤ) → (ℕ → List ℕ → ℤ) → ℤ
gains_of s win pay = sum_to (pairs_of s) (λ p. surplus_at s p *ℤ given_at s win p +ℤ s.revenue *ℤ given_at s pay p)

-- a sum over the pairs at each profile
over-pairs : (s : GeneralSetting) (c : ℕ → ℤ) (f : ℕ → List ℕ → ℤ)
    → sum_to (pairs_of s) (λ p. c p *ℤ given_at s f p) ≡ total_by (λ t. weight_of s t *ℤ sum_to (agent_count s) (λ i. c (pair_number (sizes_of s) i (slice_index t i)) *ℤ f i t)) (profiles_of (sizes_of s))
over-pairs s c f =
    let n = agent_count s in
    by_pairs (sizes_of s) c (λ i t. weight_of s t *ℤ f i t)
    ∙ ap (λ k. total_by (λ t. sum_to k (λ i. c (pair_number (sizes_of s) i (slice_index t i)) *ℤ (weight_of s t *ℤ f i t))) (profiles_of (sizes_of s))) (agents-length s)
    ∙ total-same (sizes_of s) _ (λ t. weight_of s t *ℤ sum_to n (λ i. c (pair_number (sizes_of s) i (slice_index t i)) *ℤ f i t))
    (λ t p.
    sum_to-same n _ (λ i. weight_of s t *ℤ (c (pair_number (sizes_of s) i (slice_index t i)) *ℤ f i t)) (λ i b. turned (c (pair_number (sizes_of s) i (slice_index t i))) (weight_of s t) (f i t))
    ∙ sum_to-*ℤ n (weight_of s t) (λ i. c (pair_number (sizes_of s) i (slice_index t i)) *ℤ f i t))
  where
    turned : (c w x : ℤ) → c *ℤ (w *ℤ x) ≡ w *ℤ (c *ℤ x)
    turned c w x = simp ring

gains-by_pairs : (s : GeneralSetting) (win pay : ℕ → List ℕ → ℤ) → total_by (λ t. weight_of s t *ℤ added s win pay t) (profiles_of (sizes_of s)) ≡ gains_of s win pay
gains-by_pairs s win pay =
    let n = agent_count s in
    let all = profiles_of (sizes_of s) in
    let won = λ (t : List ℕ). weight_of s t *ℤ sum_to n (λ i. surplus_at s (pair_number (sizes_of s) i (slice_index t i)) *ℤ win i t) in
    let paid = λ (t : List ℕ). weight_of s t *ℤ sum_to n (λ i. s.revenue *ℤ pay i t) in
    total-same (sizes_of s) (λ t. weight_of s t *ℤ added s win pay t) (λ t. won t +ℤ paid t)
    (λ t p.
    split (weight_of s t) (sum_to n (λ i. surplus_of s i (slice_index t i) *ℤ win i t)) (s.revenue *ℤ sum_to n (λ i. pay i t))
    ∙ ap₂ (λ x y. weight_of s t *ℤ x +ℤ weight_of s t *ℤ y)
    (sum_to-same n _ _ (λ i b. ap (λ z. z *ℤ win i t) (sym (surplus-at s i (slice_index t i) b (report-below (sizes_of s) t i p (in-sizes s i b))))))
    (sym (sum_to-*ℤ n s.revenue (λ i. pay i t))))
    ∙ total_by-+ℤ won paid all
    ∙ ap₂ (λ x y. x +ℤ y) (sym (over-pairs s (surplus_at s) win)) (sym (over-pairs s (λ _. s.revenue) pay))
    ∙ sym (sum_to-+ℤ (pairs_of s) (λ p. surplus_at s p *ℤ given_at s win p) (λ p. s.revenue *ℤ given_at s pay p))
  where
    split : (w x y : ℤ) → w *ℤ (x +ℤ y) ≡ w *ℤ x +ℤ w *ℤ y
    split w x y = simp ring

-- what keeping the item is worth, and what the pairs add to it
pub worth-by_pairs : (s : GeneralSetting) (m : Mechanism) → IsSale s → IsShaped s → IsMechanism s m → worth_of s m ≡ base_of s *ℤ m.den +ℤ gains_of s (win_in s m) (paid_in s m)
worth-by_pairs s m sale shaped mechanism =
    let all = profiles_of (sizes_of s) in
    let keep = number_at s.values 0 in
    let kept = keep *ℤ m.den in
    let more = added s (win_in s m) (paid_in s m) in
    total-same (sizes_of s) (λ t. weight_of s t *ℤ objective_at s m t) (λ t. kept *ℤ weight_of s t +ℤ weight_of s t *ℤ more t)
    (λ t p. ap (λ z. weight_of s t *ℤ z) (objective-at s m t sale shaped mechanism p) ∙ parts (weight_of s t) kept (more t))
    ∙ total_by-+ℤ (λ t. kept *ℤ weight_of s t) (λ t. weight_of s t *ℤ more t) all
    ∙ ap₂ (λ x y. x +ℤ y) (total_by-*ℤ kept (weight_of s) all ∙ turned keep m.den (total_of s)) (gains-by_pairs s (win_in s m) (paid_in s m))
  where
    parts : (w k x : ℤ) → w *ℤ (k +ℤ x) ≡ k *ℤ w +ℤ w *ℤ x
    parts w k x = simp ring

    turned : (k d f : ℤ) → (k *ℤ d) *ℤ f ≡ (k *ℤ f) *ℤ d
    turned k d f = simp ring

-- ---- by odds and payments

-- the mechanism's worth is that of its odds and payments
pub worth-of_odds : (s : GeneralSetting) (m : Mechanism) (den : ℤ) (x : ℕ → ℤ) → IsSale s → IsShaped s → IsMechanism s m → HasPairOdds s m den x → HasPairPays s m den (pay_in s x) → HasWorthOf s m den x
worth-of_odds s m den x sale shaped mechanism odds pays =
    ap (λ z. den *ℤ z) (worth-by_pairs s m sale shaped mechanism)
    ∙ parts den (base_of s) m.den (gains_of s (win_in s m) (paid_in s m))
    ∙ ap (λ z. m.den *ℤ (base_of s *ℤ den) +ℤ z) gains
    ∙ together m.den (base_of s *ℤ den) (cost_of s x)
  where
    parts : (d b e g : ℤ) → d *ℤ (b *ℤ e +ℤ g) ≡ e *ℤ (b *ℤ d) +ℤ d *ℤ g
    parts d b e g = simp ring

    together : (e b c : ℤ) → e *ℤ b +ℤ e *ℤ c ≡ e *ℤ (b +ℤ c)
    together e b c = simp ring

    first : (d u w r z : ℤ) → d *ℤ (u *ℤ w +ℤ r *ℤ z) ≡ u *ℤ (d *ℤ w) +ℤ r *ℤ (d *ℤ z)
    first d u w r z = simp ring

    second : (e g u q r z : ℤ) → u *ℤ (e *ℤ (g *ℤ q)) +ℤ r *ℤ (e *ℤ (g *ℤ z)) ≡ e *ℤ (g *ℤ (u *ℤ q +ℤ r *ℤ z))
    second e g u q r z = simp ring

    one : (p : ℕ) → p < pairs_of s
        → den *ℤ (surplus_at s p *ℤ given_at s (win_in s m) p +ℤ s.revenue *ℤ given_at s (paid_in s m) p) ≡ m.den *ℤ (marginal_at s p *ℤ (surplus_at s p *ℤ x p +ℤ s.revenue *ℤ pay_in s x p))
    one p h =
        let i = agent_of (sizes_of s) p in
        let a = kind_of (sizes_of s) p in
        let inside = pair-of s p h in
        let same = number-of (sizes_of s) p h in
        first den (surplus_at s p) (given_at s (win_in s m) p) s.revenue (given_at s (paid_in s m) p)
        ∙ ap₂ (λ y z. surplus_at s p *ℤ y +ℤ s.revenue *ℤ z)
        (odds.wins i a inside.agent inside.kind ∙ ap (λ q. m.den *ℤ (marginal_at s p *ℤ x q)) same)
        (pays.paid i a inside.agent inside.kind ∙ ap (λ q. m.den *ℤ (marginal_at s p *ℤ pay_in s x q)) same)
        ∙ second m.den (marginal_at s p) (surplus_at s p) (x p) s.revenue (pay_in s x p)

    gains : den *ℤ gains_of s (win_in s m) (paid_in s m) ≡ m.den *ℤ cost_of s x
    gains =
        sym (sum_to-*ℤ (pairs_of s) den (λ p. surplus_at s p *ℤ given_at s (win_in s m) p +ℤ s.revenue *ℤ given_at s (paid_in s m) p))
        ∙ sum_to-same (pairs_of s) _ (λ p. m.den *ℤ (marginal_at s p *ℤ (surplus_at s p *ℤ x p +ℤ s.revenue *ℤ pay_in s x p))) one
        ∙ sum_to-*ℤ (pairs_of s) m.den (λ p. marginal_at s p *ℤ (surplus_at s p *ℤ x p +ℤ s.revenue *ℤ pay_in s x p))

-- a fraction that is their worth is the value of the mechanism
pub value-of_odds : (s : GeneralSetting) (m : Mechanism) (den : ℤ) (x : ℕ → ℤ) (value : Frac) → pos 0 <ℤ den → HasWorthOf s m den x → HasWorth s den x value → HasValue s m value
value-of_odds s m den x value positive worth is =
    *ℤ_cancel den (value.num *ℤ (m.den *ℤ total_of s)) (worth_of s m *ℤ value.den) positive
    (first den value.num m.den (total_of s)
    ∙ ap (λ z. m.den *ℤ z) is
    ∙ second m.den (worth_in s den x) value.den
    ∙ ap (λ z. z *ℤ value.den) (sym worth)
    ∙ third den (worth_of s m) value.den)
  where
    first : (d x e f : ℤ) → d *ℤ (x *ℤ (e *ℤ f)) ≡ e *ℤ (x *ℤ (d *ℤ f))
    first d x e f = simp ring

    second : (e w v : ℤ) → e *ℤ (w *ℤ v) ≡ (e *ℤ w) *ℤ v
    second e w v = simp ring

    third : (d w v : ℤ) → (d *ℤ w) *ℤ v ≡ d *ℤ (w *ℤ v)
    third d w v = simp ring
