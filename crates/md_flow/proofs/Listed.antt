-- The same amounts in other forms, and flows of zeros.
use Rattle.std.proofs.Common.{◌≡◌, ℕ, ◌+◌, ◌*◌, ◌<◌, ℤ, pos, List, length, sym, ap, ◌∙◌, arith}
use Rattle.md_math.proofs.Ring.{linear}
use Rattle.md_math.proofs.SumLaws.{sum_to-same, sum_to-zero}
use Rattle.md_math.specs.Lists.{number_at}
use Rattle.md_flow.specs.Network.{Network, IsNet, node_count, demand_count}
use Rattle.md_flow.specs.Flows.{given_by, got_by, carried, IsPartFlow, Meets, amount_in}

-- ---- the same amounts, listed

pub IsPartFlow-same : (net : Network) (x y : ℕ → ℕ → ℤ) → IsPartFlow net x → ((u d : ℕ) → u < node_count net → d < demand_count net → y u d ≡ x u d) → IsPartFlow net y
IsPartFlow-same net x y h e = record {
  nonneg = λ u d b c. rw (e u d b c) (h.nonneg u d b c);
  rooms = λ u d b c. rw (e u d b c) (h.rooms u d b c);
  caps = λ u b. (let rows : given_by (demand_count net) y u ≡ given_by (demand_count net) x u = sum_to-same (demand_count net) _ _ (λ d c. e u d b c) in rw rows (h.caps u b));
  wants = λ d c. (let columns : got_by (node_count net) y d ≡ got_by (node_count net) x d = sum_to-same (node_count net) _ _ (λ u b. e u d b c) in rw columns (h.wants d c));
}

pub Meets-same : (net : Network) (x y : ℕ → ℕ → ℤ) → Meets net x → ((u d : ℕ) → u < node_count net → d < demand_count net → y u d ≡ x u d) → Meets net y
Meets-same net x y h e = record {
  part = IsPartFlow-same net x y h.part e;
  exact = λ d c. sum_to-same (node_count net) _ _ (λ u b. e u d b c) ∙ h.exact d c;
}

pub carried-same : (net : Network) (x y : ℕ → ℕ → ℤ) → ((u d : ℕ) → u < node_count net → d < demand_count net → y u d ≡ x u d) → carried net y ≡ carried net x
carried-same net x y e = sum_to-same (node_count net) _ _ (λ u b. sum_to-same (demand_count net) _ _ (λ d c. e u d b c))

-- the amounts of a flow with the net's sizes
pub listed : (net : Network) (n m : ℕ) (x : ℕ → ℕ → ℤ) (amounts : List ℤ) → n ≡ node_count net → m ≡ demand_count net → ((u d : ℕ) → u < n → d < m → number_at amounts (u * m + d) ≡ x u d) → (u d : ℕ) → u < node_count net → d < demand_count net → amount_in net amounts u d ≡ x u d
listed net n m x amounts e f h u d b c = ap (λ k. number_at amounts (u * k + d)) (sym f) ∙ h u d (omega arith) (omega arith)

pub listed-length : (net : Network) (n m : ℕ) (amounts : List ℤ) → n ≡ node_count net → m ≡ demand_count net → length amounts ≡ n * m → length amounts ≡ node_count net * demand_count net
listed-length net n m amounts e f h = h ∙ ap (λ k. k * m) e ∙ ap (λ k. node_count net * k) f

-- all amounts are 0
pub IsPartFlow-zero : (net : Network) (x : ℕ → ℕ → ℤ) → IsNet net → ((u d : ℕ) → x u d ≡ pos 0) → IsPartFlow net x
IsPartFlow-zero net x valid z = record {
  nonneg = λ u d b c. (let e = z u d in omega (arith, linear, e));
  rooms = λ u d b c. rw (z u d) (valid.rooms u d b c);
  caps = λ u b. (let e : given_by (demand_count net) x u ≡ pos 0 = sum_to-zero (demand_count net) _ (λ d c. z u d) in let least = valid.caps u b in omega (arith, linear, e, least));
  wants = λ d b. (let e : got_by (node_count net) x d ≡ pos 0 = sum_to-zero (node_count net) _ (λ u c. z u d) in let least = valid.wants d b in omega (arith, linear, e, least));
}
