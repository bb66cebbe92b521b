-- What agents of a sale have of numbers with given odds and payments. The numbers need not be a mechanism.
use Rattle.std.proofs.Common.{◌≡◌, ℕ, ◌<◌, ℤ, pos, ◌+ℤ◌, ◌-ℤ◌, ◌*ℤ◌, List, sym, ap, ap₂, ◌∙◌, arith}
use Rattle.std.specs.Prelude.{slice_index}
use Rattle.md_math.specs.Sums.{sum_to, total_by}
use Rattle.md_math.proofs.Order.{*ℤ_cancel}
use Rattle.md_math.proofs.Ring.{linear, ring}
use Rattle.md_math.proofs.SumLaws.{sum_to-same, sum_to-*ℤ}
use Rattle.md_space.specs.AllProfiles.{profiles_of}
use Rattle.md_space.specs.Profiles.{replaced}
use Rattle.md_space.proofs.TypeSums.{total-same}
use Rattle.md_setting.specs.Setting.{GeneralSetting}
use Rattle.md_setting.specs.Meaning.{agent_count, sizes_of, weight_of, marginal_of}
use Rattle.md_setting.specs.Shaped.{IsShaped}
use Rattle.md_mech.specs.declared.mechanism.Mechanism.{Mechanism}
use Rattle.md_mech.specs.Mechanism.{pay_of}
use Rattle.md_mech.specs.Utility.{expected_utility, weighted_given}
use Rattle.md_mech.proofs.CountLaws.{agents-length}
use Rattle.md_asym_sale.specs.Pairs.{pair_number, agent_of, kind_of}
use Rattle.md_asym_sale.specs.Sale.{IsSale}
use Rattle.md_asym_sale.specs.Values.{pairs_of, own_value, value_at, marginal_at}
use Rattle.md_asym_sale.proofs.PairLaws.{agent-of, kind-of}
use Rattle.md_asym_sale.proofs.PairSums.{by_pairs, number-of}
use Rattle.md_asym_sale.proofs.SaleLaws.{in-sizes}
use Rattle.md_asym_laws.specs.Averages.{given_at, win_in, paid_in}
use Rattle.md_asym_laws.specs.Odds.{HasPairOdds, HasPairPays}
use Rattle.md_asym_laws.proofs.PairFacts.{pair-of}
use Rattle.md_asym_laws.proofs.Replacing.{given-replaced}
use Rattle.md_asym_laws.proofs.Utilities.{gain_at, gain-given, utility-given}
use Rattle.md_report.specs.Averages.{weighted}
use Rattle.md_report.specs.Regret.{lottery_at, payments_at, welfare_at}
use Rattle.md_report.proofs.ExpectedLaws.{given-sub}

-- what agent i with the type a has of the odds and the payment of its type b
abbrev pub share : GeneralSetting → (ℕ → ℤ) → (ℕ → ℤ) → ℕ → ℕ → ℕ → ℤ
share s odds pays i a b = own_value s i a *ℤ odds (pair_number (sizes_of s) i b) -ℤ pays (pair_number (sizes_of s) i b)

-- ---- one agent

-- what it would have with the type b if the item were worth to it what it is to the type a
gain-by : (s : GeneralSetting) (m : Mechanism) (den : ℤ) (odds pays : ℕ → ℤ) (i a b : ℕ) → HasPairOdds s m den odds → HasPairPays s m den pays → i < agent_count s → b < slice_index (sizes_of s) i
    → den *ℤ weighted_given s i b (gain_at s (win_in s m) (paid_in s m) i a) ≡ m.den *ℤ (marginal_of s i b *ℤ share s odds pays i a b)
gain-by s m den odds pays i a b has paid h k =
    let p = pair_number (sizes_of s) i b in
    let v = own_value s i a in
    ap (λ z. den *ℤ z) (gain-given s (win_in s m) (paid_in s m) i a b)
    ∙ first den v (weighted_given s i b (win_in s m i)) (weighted_given s i b (paid_in s m i))
    ∙ ap₂ (λ y z. v *ℤ y -ℤ z) (has.wins i b h k) (paid.paid i b h k)
    ∙ second m.den (marginal_of s i b) v (odds p) (pays p)
  where
    first : (d v y z : ℤ) → d *ℤ (v *ℤ y -ℤ z) ≡ v *ℤ (d *ℤ y) -ℤ d *ℤ z
    first d v y z = simp ring (omega (arith, linear))

    second : (m g v y z : ℤ) → v *ℤ (m *ℤ (g *ℤ y)) -ℤ m *ℤ (g *ℤ z) ≡ m *ℤ (g *ℤ (v *ℤ y -ℤ z))
    second m g v y z = simp ring (omega (arith, linear))

-- what it has with the type a by the truth
pub own-by : (s : GeneralSetting) (m : Mechanism) (den : ℤ) (odds pays : ℕ → ℤ) (i a : ℕ) → IsSale s → IsShaped s → HasPairOdds s m den odds → HasPairPays s m den pays → i < agent_count s → a < slice_index (sizes_of s) i
    → den *ℤ weighted_given s i a (λ t. expected_utility s m i t t) ≡ m.den *ℤ (marginal_of s i a *ℤ share s odds pays i a a)
own-by s m den odds pays i a sale shaped has paid h l =
    ap (λ z. den *ℤ z) (utility-given s m i a (λ t. t) sale shaped h) ∙ gain-by s m den odds pays i a a has paid h l

-- and where it tells the type b
pub told-by : (s : GeneralSetting) (m : Mechanism) (den : ℤ) (odds pays : ℕ → ℤ) (i a b : ℕ) → IsSale s → IsShaped s → HasPairOdds s m den odds → HasPairPays s m den pays → i < agent_count s → a < slice_index (sizes_of s) i → b < slice_index (sizes_of s) i
    → den *ℤ weighted_given s i a (λ t. expected_utility s m i t (replaced t i b)) ≡ m.den *ℤ (marginal_of s i a *ℤ share s odds pays i a b)
told-by s m den odds pays i a b sale shaped has paid h l k =
    let f = marginal_of s i in
    let g = gain_at s (win_in s m) (paid_in s m) i a in
    let told = weighted_given s i a (λ t. g (replaced t i b)) in
    ap (λ z. den *ℤ z) (utility-given s m i a (λ t. replaced t i b) sale shaped h)
    ∙ *ℤ_cancel (f b) (den *ℤ told) (m.den *ℤ (f a *ℤ share s odds pays i a b)) (shaped.marginal i b h k)
    (turned (f b) den told
    ∙ ap (λ z. den *ℤ z) (given-replaced s i a b g sale shaped h l k)
    ∙ turned den (f a) (weighted_given s i b g)
    ∙ ap (λ z. f a *ℤ z) (gain-by s m den odds pays i a b has paid h k)
    ∙ second (f a) (f b) m.den (share s odds pays i a b))
  where
    turned : (x y z : ℤ) → x *ℤ (y *ℤ z) ≡ y *ℤ (x *ℤ z)
    turned x y z = simp ring

    second : (x y m u : ℤ) → x *ℤ (m *ℤ (y *ℤ u)) ≡ y *ℤ (m *ℤ (x *ℤ u))
    second x y m u = simp ring

-- what the item is worth to it as often as it has it
lottery-by : (s : GeneralSetting) (m : Mechanism) (den : ℤ) (odds pays : ℕ → ℤ) (i a : ℕ) → IsSale s → IsShaped s → HasPairOdds s m den odds → HasPairPays s m den pays → i < agent_count s → a < slice_index (sizes_of s) i
    → den *ℤ weighted_given s i a (lottery_at s m i) ≡ m.den *ℤ (marginal_of s i a *ℤ (own_value s i a *ℤ odds (pair_number (sizes_of s) i a)))
lottery-by s m den odds pays i a sale shaped has paid h l =
    let p = pair_number (sizes_of s) i a in
    let gets = weighted_given s i a (λ t. expected_utility s m i t t) in
    let pay = weighted_given s i a (pay_of s m i) in
    ap (λ z. den *ℤ z) (apart (weighted_given s i a (lottery_at s m i)) pay gets (given-sub s i a (lottery_at s m i) (pay_of s m i)))
    ∙ spread den gets pay
    ∙ ap₂ (λ y z. y +ℤ z) (own-by s m den odds pays i a sale shaped has paid h l) (paid.paid i a h l)
    ∙ together m.den (marginal_of s i a) (own_value s i a *ℤ odds p) (pays p)
  where
    apart : (x y z : ℤ) → z ≡ x -ℤ y → x ≡ z +ℤ y
    apart x y z e = omega (arith, linear, e)

    spread : (d y z : ℤ) → d *ℤ (y +ℤ z) ≡ d *ℤ y +ℤ d *ℤ z
    spread d y z = simp ring

    together : (m g x y : ℤ) → m *ℤ (g *ℤ (x -ℤ y)) +ℤ m *ℤ (g *ℤ y) ≡ m *ℤ (g *ℤ x)
    together m g x y = simp ring (omega (arith, linear))

-- ---- all agents

-- what all agents have of f together is what all pairs have of it
over-agents : (s : GeneralSetting) (f : ℕ → List ℕ → ℤ) → weighted s (λ t. sum_to (agent_count s) (λ i. f i t)) ≡ sum_to (pairs_of s) (given_at s f)
over-agents s f =
    let all = profiles_of (sizes_of s) in
    sym
    (sum_to-same (pairs_of s) (given_at s f) (λ p. pos 1 *ℤ given_at s f p) (λ p h. once (given_at s f p))
    ∙ by_pairs (sizes_of s) (λ _. pos 1) (λ i t. weight_of s t *ℤ f i t)
    ∙ ap (λ k. total_by (λ t. sum_to k (λ i. pos 1 *ℤ (weight_of s t *ℤ f i t))) all) (agents-length s)
    ∙ total-same (sizes_of s) _ (λ t. weight_of s t *ℤ sum_to (agent_count s) (λ i. f i t))
    (λ t p.
    sum_to-same (agent_count s) (λ i. pos 1 *ℤ (weight_of s t *ℤ f i t)) (λ i. weight_of s t *ℤ f i t) (λ i h. sym (once (weight_of s t *ℤ f i t)))
    ∙ sum_to-*ℤ (agent_count s) (weight_of s t) (λ i. f i t)))
  where
    once : (z : ℤ) → z ≡ pos 1 *ℤ z
    once z = simp ring

-- where all agents with all types have so much, by the odds and payments of their pairs
all-by : (s : GeneralSetting) (den whole : ℤ) (f : ℕ → List ℕ → ℤ) (q : ℕ → ℤ)
    → ((i a : ℕ) → i < agent_count s → a < slice_index (sizes_of s) i → den *ℤ weighted_given s i a (f i) ≡ whole *ℤ (marginal_of s i a *ℤ q (pair_number (sizes_of s) i a)))
    → den *ℤ weighted s (λ t. sum_to (agent_count s) (λ i. f i t)) ≡ whole *ℤ sum_to (pairs_of s) (λ p. marginal_at s p *ℤ q p)
all-by s den whole f q each =
    ap (λ z. den *ℤ z) (over-agents s f)
    ∙ sym (sum_to-*ℤ (pairs_of s) den (given_at s f))
    ∙ sum_to-same (pairs_of s) (λ p. den *ℤ given_at s f p) (λ p. whole *ℤ (marginal_at s p *ℤ q p)) one
    ∙ sum_to-*ℤ (pairs_of s) whole (λ p. marginal_at s p *ℤ q p)
  where
    one : (p : ℕ) → p < pairs_of s → den *ℤ given_at s f p ≡ whole *ℤ (marginal_at s p *ℤ q p)
    one p h =
        let i = agent_of (sizes_of s) p in
        let a = kind_of (sizes_of s) p in
        let inside = pair-of s p h in
        each i a inside.agent inside.kind ∙ ap (λ k. whole *ℤ (marginal_at s p *ℤ q k)) (number-of (sizes_of s) p h)

pub payments-by : (s : GeneralSetting) (m : Mechanism) (den : ℤ) (pays : ℕ → ℤ) → HasPairPays s m den pays
    → den *ℤ weighted s (payments_at s m) ≡ m.den *ℤ sum_to (pairs_of s) (λ p. marginal_at s p *ℤ pays p)
payments-by s m den pays paid = all-by s den m.den (paid_in s m) pays (λ i a h l. paid.paid i a h l)

pub welfare-by : (s : GeneralSetting) (m : Mechanism) (den : ℤ) (odds pays : ℕ → ℤ) → IsSale s → IsShaped s → HasPairOdds s m den odds → HasPairPays s m den pays
    → den *ℤ weighted s (welfare_at s m) ≡ m.den *ℤ sum_to (pairs_of s) (λ p. marginal_at s p *ℤ (value_at s p *ℤ odds p))
welfare-by s m den odds pays sale shaped has paid =
    all-by s den m.den (lottery_at s m) (λ p. value_at s p *ℤ odds p)
    (λ i a h l. lottery-by s m den odds pays i a sale shaped has paid h l ∙ ap (λ v. m.den *ℤ (marginal_of s i a *ℤ (v *ℤ odds (pair_number (sizes_of s) i a)))) (sym (value-at s i a h l)))
  where
    value-at : (s : GeneralSetting) (i a : ℕ) → i < agent_count s → a < slice_index (sizes_of s) i → value_at s (pair_number (sizes_of s) i a) ≡ own_value s i a
    value-at s i a h l = ap₂ (own_value s) (agent-of (sizes_of s) i a (in-sizes s i h) l) (kind-of (sizes_of s) i a (in-sizes s i h) l)
