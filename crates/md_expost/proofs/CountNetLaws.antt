-- The numbers of a net from the lists of counts to the kinds of values, and what its flows give.
use Rattle.std.proofs.Common.{◌≡◌, ℕ, ◌+◌, ◌*◌, ◌<◌, ℤ, pos, ◌≤ℤ◌, if◌then◌else◌, List, length, sym, ap, ap₂, ◌∙◌, subst, arith}
use Rattle.md_math.specs.Lists.{number_at}
use Rattle.md_math.specs.Sets.{member}
use Rattle.md_math.specs.Sums.{sum_to}
use Rattle.md_math.proofs.Builders.{length-list_to, get_or-list_to}
use Rattle.md_math.proofs.SumLaws.{sum_to-same}
use Rattle.md_setting.specs.Auction.{SymmetricAuction, value_count}
use Rattle.md_border.specs.declared.interim.Interim.{Interim}
use Rattle.md_border.specs.Odds.{demand_of, demands_in}
use Rattle.md_flow.specs.Network.{Network, node_count, demand_count, cap_of, want_of}
use Rattle.md_flow.specs.Flows.{given_by, Meets, amount_in}
use Rattle.md_expost.specs.Masses.{rank_count, mass_in}
use Rattle.md_expost.specs.CountNets.{IsCountNet}

module _ (a : SymmetricAuction) (interim : Interim) (cap : ℕ → ℤ) (net : Network) (h : IsCountNet a interim cap net) where
  pub nodes-of : node_count net ≡ rank_count a
  nodes-of = ap length h.caps ∙ length-list_to (rank_count a) cap

  pub demands-of : demand_count net ≡ value_count a
  demands-of = ap length h.wants ∙ length-list_to (value_count a) (demand_of a interim)

  pub node-in : (rank : ℕ) → rank < rank_count a → rank < node_count net
  node-in rank b = omega (arith, nodes-of, b)

  pub demand-in : (v : ℕ) → v < value_count a → v < demand_count net
  demand-in v l = omega (arith, demands-of, l)

  pub cap-of : (rank : ℕ) → rank < rank_count a → cap_of net rank ≡ cap rank
  cap-of rank b = ap (λ caps. number_at caps rank) h.caps ∙ get_or-list_to (rank_count a) cap rank (pos 0) b

  pub want-of : (v : ℕ) → v < value_count a → want_of net v ≡ demand_of a interim v
  want-of v l = ap (λ wants. number_at wants v) h.wants ∙ get_or-list_to (value_count a) (demand_of a interim) v (pos 0) l

  -- the demands of a set
  pub asked-of : (set : ℕ) → sum_to (demand_count net) (λ v. if member set v then want_of net v else pos 0) ≡ demands_in a interim set
  asked-of set =
      ap (λ k. sum_to k (λ v. if member set v then want_of net v else pos 0)) demands-of
      ∙ sum_to-same (value_count a) _ (λ v. if member set v then demand_of a interim v else pos 0) (λ v l. ap (λ z. if member set v then z else pos 0) (want-of v l))

  -- ---- a flow that gives each demand exactly, as masses by rank and then by kind

  pub flow-amount : (rows : List ℤ) (rank v : ℕ) → amount_in net rows rank v ≡ mass_in a rows rank v
  flow-amount rows rank v = ap (λ m. number_at rows (rank * m + v)) demands-of

  module _ (rows : List ℤ) (meets : Meets net (amount_in net rows)) where
    pub flow-nonneg : (rank v : ℕ) → rank < rank_count a → v < value_count a → pos 0 ≤ℤ mass_in a rows rank v
    flow-nonneg rank v b l = subst (λ z. pos 0 ≤ℤ z) (flow-amount rows rank v) (meets.part.nonneg rank v (node-in rank b) (demand-in v l))

    pub flow-given : (rank : ℕ) → rank < rank_count a → sum_to (value_count a) (mass_in a rows rank) ≤ℤ cap rank
    flow-given rank b =
        subst (λ z. z ≤ℤ cap rank)
        (ap (λ k. sum_to k (amount_in net rows rank)) demands-of ∙ sum_to-same (value_count a) _ (mass_in a rows rank) (λ v l. flow-amount rows rank v))
        (subst (λ z. given_by (demand_count net) (amount_in net rows) rank ≤ℤ z) (cap-of rank b) (meets.part.caps rank (node-in rank b)))

    pub flow-exact : (v : ℕ) → v < value_count a → sum_to (rank_count a) (λ rank. mass_in a rows rank v) ≡ demand_of a interim v
    flow-exact v l =
        sym (ap (λ n. sum_to n (λ rank. amount_in net rows rank v)) nodes-of ∙ sum_to-same (rank_count a) _ (λ rank. mass_in a rows rank v) (λ rank b. flow-amount rows rank v))
        ∙ meets.exact v (demand-in v l)
        ∙ want-of v l

  pub flow-length : (rows : List ℤ) → length rows ≡ node_count net * demand_count net → length rows ≡ rank_count a * value_count a
  flow-length rows long = long ∙ ap₂ (λ m k. m * k) nodes-of demands-of
