-- Amounts in a list, by node and then by demand, and how writing one changes them.
use Rattle.std.proofs.Common.{◌≡◌, ◌≢◌, ℕ, zero, suc, ◌+◌, ◌-◌, ◌*◌, ◌<◌, ◌≤◌, ◌^◌, ℤ, pos, ◌+ℤ◌, neg_ℤ, ◌≤ℤ◌, inl, inr, Bool, true, false, ◌&&◌, ◌==◌, if◌then◌else◌, List, length, replicate, get_or, set, length-set, get_or-set_same, get_or-set_other, slice_index, refl, sym, ap, ◌∙◌, subst, arith, eqb-true, eq-eqb, ne_eqb, mul-le-mul_right}
use Rattle.std.proofs.lemmas.Bool.{cases_lt, cases_eq}
use Rattle.std.proofs.lemmas.Int.{ints}
use Rattle.std.proofs.lemmas.List.{length-replicate}
use Rattle.md_math.proofs.Ring.{linear}
use Rattle.md_math.proofs.SumLaws.{sum_to-more, sum_to-zero, sum_to-at_least, sum_to-same, sum_to-neg_ℤ}
use Rattle.md_math.proofs.BoundedTests.{and-left, and-right, and-both}
use Rattle.md_math.proofs.Order.{chosen, not_chosen}
use Rattle.md_flow.specs.Flows.{given_by, got_by}
use Rattle.md_flow.specs.Paths.{amount_at_pairs, IsShifted, IsRoute, node_at, demand_at, last_of}
use Rattle.md_flow.specs.Tables.{cell_of, IsGrown, AreKept}
use Rattle.md_flow.proofs.PathLaws.{pairs-none, given-shifted, got-shifted}

-- two places are the same only where node and demand are
before_row : (m u v d e : ℕ) → d < m → u < v → u * m + d < v * m + e
before_row m u v d e b l =
    let rows : suc u * m ≤ v * m = mul-le-mul_right m l in
    omega (arith, rows)

pub same_node : (m u v d e : ℕ) → d < m → e < m → u * m + d ≡ v * m + e → u ≡ v
same_node m u v d e b c h =
    elim (cases_lt u v) [
      | inl l ↦ absurd (omega (arith, before_row m u v d e b l, h))
      | inr l ↦ elim (cases_lt v u) [ inl k ↦ absurd (omega (arith, before_row m v u e d c k, h)) | inr k ↦ omega arith ]
    ]

pub same_demand : (m u v d e : ℕ) → d < m → e < m → u * m + d ≡ v * m + e → d ≡ e
same_demand m u v d e b c h = (let rows : u * m ≡ v * m = ap (λ k. k * m) (same_node m u v d e b c h) in omega (arith, rows))

pub in_list : (n m u d : ℕ) → u < n → d < m → u * m + d < n * m
in_list n m u d b c = (let rows : suc u * m ≤ n * m = mul-le-mul_right m b in omega (arith, rows))

pub cell_of-set : (m : ℕ) (xs : List ℕ) (u d v e x : ℕ) → d < m → e < m → u * m + d < length xs → cell_of m (set xs (u * m + d) x) v e ≡ (if u == v && d == e then pos x else cell_of m xs v e)
cell_of-set m xs u d v e x b c l = at (u == v && d == e) refl
  where
    differ : (u == v && d == e) ≡ false → v ≡ u → e ≡ d → ⊥
    differ h p q = (let t = and-both (u == v) (d == e) (eq-eqb u v (sym p)) (eq-eqb d e (sym q)) in absurd cc)

    at : (t : Bool) → (u == v && d == e) ≡ t → cell_of m (set xs (u * m + d) x) v e ≡ (if t then pos x else cell_of m xs v e)
    at true h =
        let rows : u ≡ v = eqb-true u v (and-left (u == v) (d == e) h) in
        let columns : d ≡ e = eqb-true d e (and-right (u == v) (d == e) h) in
        let same : u * m + d ≡ v * m + e = ap (λ k. k * m + d) rows ∙ ap (λ k. v * m + k) columns in
        ap pos (ap (λ k. get_or (set xs (u * m + d) x) k 0) (sym same) ∙ get_or-set_same xs (u * m + d) x 0 l)
    at false h =
        let apart : v * m + e ≢ u * m + d = λ same. differ h (same_node m v u e d c b same) (same_demand m v u e d c b same) in
        ap pos (get_or-set_other xs (u * m + d) (v * m + e) x 0 apart)

-- ---- one more pair

pub IsGrown-none : (n m : ℕ) (nodes demands : ℕ → ℕ) (amount : ℤ) (old : List ℕ) → IsGrown n m 0 nodes demands amount old old
IsGrown-none n m nodes demands amount old = record { one_each = refl; at = λ u d b c. omega (arith, linear) }

pub IsGrown-more : (n m k : ℕ) (nodes demands : ℕ → ℕ) (amount : ℤ) (old now : List ℕ) (x : ℕ) → IsGrown n m k nodes demands amount old now → nodes k < n → demands k < m → length old ≡ n * m → pos x ≡ cell_of m now (nodes k) (demands k) +ℤ amount → IsGrown n m (k + 1) nodes demands amount old (set now (nodes k * m + demands k) x)
IsGrown-more n m k nodes demands amount old now x h b c l e = record {
  one_each = length-set now (nodes k * m + demands k) x ∙ h.one_each;
  at = λ u d p q.
      cell_of-set m now (nodes k) (demands k) u d x c q inside ∙ value u d p q (nodes k == u && demands k == d) refl;
}
  where
    inside : nodes k * m + demands k < length now
    inside = omega (arith, in_list n m (nodes k) (demands k) b c, h.one_each, l)

    value : (u d : ℕ) → u < n → d < m → (t : Bool) → (nodes k == u && demands k == d) ≡ t → (if t then pos x else cell_of m now u d) ≡ cell_of m old u d +ℤ amount_at_pairs (k + 1) nodes demands amount u d
    value u d p q true f =
        let rows : nodes k ≡ u = eqb-true (nodes k) u (and-left (nodes k == u) (demands k == d) f) in
        let columns : demands k ≡ d = eqb-true (demands k) d (and-right (nodes k == u) (demands k == d) f) in
        let here : cell_of m now (nodes k) (demands k) ≡ cell_of m now u d = ap (λ i. cell_of m now i (demands k)) rows ∙ ap (λ i. cell_of m now u i) columns in
        let more = sum_to-more k (λ j. if nodes j == u && demands j == d then amount else pos 0) in
        let one : (if nodes k == u && demands k == d then amount else pos 0) ≡ amount = chosen (nodes k == u && demands k == d) amount (pos 0) f in
        omega (arith, linear, here, more, one, e, h.at u d p q)
    value u d p q false f =
        let more = sum_to-more k (λ j. if nodes j == u && demands j == d then amount else pos 0) in
        let none : (if nodes k == u && demands k == d then amount else pos 0) ≡ pos 0 = not_chosen (nodes k == u && demands k == d) amount (pos 0) f in
        omega (arith, linear, more, none, h.at u d p q)

-- what stands at a pair before it is written is what stood there first, where no node comes twice
pub IsGrown-fresh : (n m k : ℕ) (nodes demands : ℕ → ℕ) (amount : ℤ) (old now : List ℕ) → IsGrown n m k nodes demands amount old now → nodes k < n → demands k < m → ((j : ℕ) → j < k → nodes j ≡ nodes k → ⊥) → cell_of m now (nodes k) (demands k) ≡ cell_of m old (nodes k) (demands k)
IsGrown-fresh n m k nodes demands amount old now h b c apart =
    omega (arith, linear, h.at (nodes k) (demands k) b c, pairs-none k nodes demands amount (nodes k) (demands k) (λ j l e _. apart j l e))

-- ---- the loops along a path

record IsStep (n m : ℕ) (path : List ℤ) (old now : List ℕ) (j at u d x : ℕ) : Type 0 where
  pub route : IsRoute n m path
  pub one_each : length old ≡ n * m
  pub place : at ≡ u * m + d
  pub value : x ≡ slice_index now at

pub cell_value : (m : ℕ) (now : List ℕ) (at u d x : ℕ) → at ≡ u * m + d → x ≡ slice_index now at → pos x ≡ cell_of m now u d
cell_value m now at u d x p v = ap pos (v ∙ ap (slice_index now) p)

-- an amount before it is written, while amounts are added
pub adds_fresh : (n m : ℕ) (path : List ℤ) (old now : List ℕ) (j at x : ℕ) (amount : ℤ) → IsRoute n m path → j < last_of path + 1 → IsGrown n m j (node_at path) (demand_at path) amount old now → at ≡ node_at path j * m + demand_at path j → x ≡ slice_index now at → pos x ≡ cell_of m old (node_at path j) (demand_at path j)
adds_fresh n m path old now j at x amount route b h p v =
    cell_value m now at (node_at path j) (demand_at path j) x p v
    ∙ IsGrown-fresh n m j (node_at path) (demand_at path) amount old now h (route.nodes_in j (omega arith)) (route.demands_in j (omega arith)) (λ i l e. omega (arith, route.nodes_apart i j (omega arith) (omega arith) e))

pub adds_more : (n m : ℕ) (path : List ℤ) (old now : List ℕ) (j at x amount : ℕ) → IsRoute n m path → length old ≡ n * m → j < last_of path + 1 → IsGrown n m j (node_at path) (demand_at path) (pos amount) old now → at ≡ node_at path j * m + demand_at path j → x ≡ slice_index now at → IsGrown n m (j + 1) (node_at path) (demand_at path) (pos amount) old (set now at (x + amount))
adds_more n m path old now j at x amount route l b h p v =
    let e : pos (x + amount) ≡ cell_of m now (node_at path j) (demand_at path j) +ℤ pos amount = omega (arith, ints, cell_value m now at (node_at path j) (demand_at path j) x p v) in
    subst (λ k. IsGrown n m (j + 1) (node_at path) (demand_at path) (pos amount) old (set now k (x + amount))) (sym p)
    (IsGrown-more n m j (node_at path) (demand_at path) (pos amount) old now (x + amount) h (route.nodes_in j (omega arith)) (route.demands_in j (omega arith)) l e)

-- and while amounts are taken
abbrev pub next_node : List ℤ → ℕ → ℕ
next_node path j = node_at path (j + 1)

pub takes_fresh : (n m : ℕ) (path : List ℤ) (old now : List ℕ) (j at x : ℕ) (amount : ℤ) → IsRoute n m path → j < last_of path → IsGrown n m j (next_node path) (demand_at path) amount old now → at ≡ next_node path j * m + demand_at path j → x ≡ slice_index now at → pos x ≡ cell_of m old (next_node path j) (demand_at path j)
takes_fresh n m path old now j at x amount route b h p v =
    cell_value m now at (next_node path j) (demand_at path j) x p v
    ∙ IsGrown-fresh n m j (next_node path) (demand_at path) amount old now h (route.nodes_in (j + 1) (omega arith)) (route.demands_in j (omega arith)) (λ i l e. omega (arith, route.nodes_apart (i + 1) (j + 1) (omega arith) (omega arith) e))

pub takes_more : (n m : ℕ) (path : List ℤ) (old now : List ℕ) (j at x amount : ℕ) → IsRoute n m path → length old ≡ n * m → j < last_of path → IsGrown n m j (next_node path) (demand_at path) (neg_ℤ (pos amount)) old now → at ≡ next_node path j * m + demand_at path j → x ≡ slice_index now at → amount ≤ x → IsGrown n m (j + 1) (next_node path) (demand_at path) (neg_ℤ (pos amount)) old (set now at (x - amount))
takes_more n m path old now j at x amount route l b h p v enough =
    let e : pos (x - amount) ≡ cell_of m now (next_node path j) (demand_at path j) +ℤ neg_ℤ (pos amount) = omega (arith, ints, cell_value m now at (next_node path j) (demand_at path j) x p v) in
    subst (λ k. IsGrown n m (j + 1) (next_node path) (demand_at path) (neg_ℤ (pos amount)) old (set now k (x - amount))) (sym p)
    (IsGrown-more n m j (next_node path) (demand_at path) (neg_ℤ (pos amount)) old now (x - amount) h (route.nodes_in (j + 1) (omega arith)) (route.demands_in j (omega arith)) l e)

-- ---- the whole path

pub pairs-neg : (n : ℕ) (nodes demands : ℕ → ℕ) (amount : ℤ) (u d : ℕ) → amount_at_pairs n nodes demands (neg_ℤ amount) u d ≡ neg_ℤ (amount_at_pairs n nodes demands amount u d)
pairs-neg n nodes demands amount u d = sum_to-same n _ _ (λ j b. at (nodes j == u && demands j == d)) ∙ sum_to-neg_ℤ n (λ j. if nodes j == u && demands j == d then amount else pos 0)
  where
    at : (t : Bool) → (if t then neg_ℤ amount else pos 0) ≡ neg_ℤ (if t then amount else pos 0)
    at true = refl
    at false = omega (arith, linear)

pub IsShifted-grown : (n m last : ℕ) (nodes demands : ℕ → ℕ) (amount : ℤ) (old mid new : List ℕ) → IsGrown n m last (λ j. nodes (j + 1)) demands (neg_ℤ amount) old mid → IsGrown n m (last + 1) nodes demands amount mid new → IsShifted n m last nodes demands amount (cell_of m old) (cell_of m new)
IsShifted-grown n m last nodes demands amount old mid new taken added = record {
  at = λ u d b c.
      let same : amount_at_pairs (last + 1) nodes demands amount u d ≡ amount_at_pairs (suc last) nodes demands amount u d = sum_to-more last (λ j. if nodes j == u && demands j == d then amount else pos 0) in
      omega (arith, linear, taken.at u d b c, added.at u d b c, pairs-neg last (λ j. nodes (j + 1)) demands amount u d, same);
}

-- an amount is at most what its node gives in all
pub cell-sent : (amounts sent got : List ℕ) (u d : ℕ) → AreKept amounts sent got → u < length sent → d < length got → cell_of (length got) amounts u d ≤ℤ pos (slice_index sent u)
cell-sent amounts sent got u d h b c =
    let least = sum_to-at_least (length got) d (λ k. cell_of (length got) amounts u k) c (λ k l. omega (arith, ints)) in
    omega (arith, ints, least, h.sent_is u b)

-- what is kept of a flow after a path
pub AreKept-shifted : (amounts sent got amounts' : List ℕ) (last first end : ℕ) (nodes demands : ℕ → ℕ) (amount : ℕ) → AreKept amounts sent got → IsShifted (length sent) (length got) last nodes demands (pos amount) (cell_of (length got) amounts) (cell_of (length got) amounts') → length amounts' ≡ length amounts → ((j : ℕ) → j ≤ last → nodes j < length sent) → ((j : ℕ) → j ≤ last → demands j < length got) → first ≡ nodes 0 → end ≡ demands last → slice_index sent first + amount < 2 ^ 126 → slice_index got end + amount < 2 ^ 126 → AreKept amounts' (set sent first (slice_index sent first + amount)) (set got end (slice_index got end + amount))
AreKept-shifted amounts sent got amounts' last first end nodes demands amount h shifted same nodes_in demands_in f e sent_room got_room =
    let sent' : List ℕ = set sent first (slice_index sent first + amount) in
    let got' : List ℕ = set got end (slice_index got end + amount) in
    let n : length sent' ≡ length sent = length-set sent first (slice_index sent first + amount) in
    let m : length got' ≡ length got = length-set got end (slice_index got end + amount) in
    record {
      few_nodes = rw n h.few_nodes;
      few_demands = rw m h.few_demands;
      one_each = rw (n, m) (same ∙ h.one_each);
      sent_is = λ u b. (let inside : u < length sent = omega (arith, n) in rw m (set_sum sent first amount u (omega (arith, f, nodes_in 0 (omega arith))) ∙ ap (λ z. z +ℤ (if first == u then pos amount else pos 0)) (h.sent_is u inside) ∙ ap (λ k. given_by (length got) (cell_of (length got) amounts) u +ℤ (if k == u then pos amount else pos 0)) f ∙ sym (given-shifted (length sent) (length got) last nodes demands (pos amount) (cell_of (length got) amounts) (cell_of (length got) amounts') u shifted demands_in inside)));
      got_is = λ d b. (let inside : d < length got = omega (arith, m) in rw (n, m) (set_sum got end amount d (omega (arith, e, demands_in last (omega arith))) ∙ ap (λ z. z +ℤ (if end == d then pos amount else pos 0)) (h.got_is d inside) ∙ ap (λ k. got_by (length sent) (cell_of (length got) amounts) d +ℤ (if k == d then pos amount else pos 0)) e ∙ sym (got-shifted (length sent) (length got) last nodes demands (pos amount) (cell_of (length got) amounts) (cell_of (length got) amounts') d shifted nodes_in inside)));
      sent_small = λ u b. (let inside : u < length sent = omega (arith, n) in set_small sent first amount u (omega (arith, f, nodes_in 0 (omega arith))) sent_room (h.sent_small u inside));
      got_small = λ d b. (let inside : d < length got = omega (arith, m) in set_small got end amount d (omega (arith, e, demands_in last (omega arith))) got_room (h.got_small d inside));
    }
  where
    set_sum : (xs : List ℕ) (k amount u : ℕ) → k < length xs → pos (slice_index (set xs k (slice_index xs k + amount)) u) ≡ pos (slice_index xs u) +ℤ (if k == u then pos amount else pos 0)
    set_sum xs k amount u b =
        elim (cases_eq k u) [
          | inl same ↦ rw (eq-eqb k u same) (ap (λ i. pos (slice_index (set xs k (slice_index xs k + amount)) i)) (sym same) ∙ ap pos (get_or-set_same xs k (slice_index xs k + amount) 0 b) ∙ (let e : pos (slice_index xs k) ≡ pos (slice_index xs u) = ap (λ i. pos (slice_index xs i)) same in omega (arith, ints, e)))
          | inr apart ↦ rw (ne_eqb k u apart, get_or-set_other xs k u (slice_index xs k + amount) 0 (λ e. apart (sym e))) (omega (arith, linear))
        ]

    set_small : (xs : List ℕ) (k amount u : ℕ) → k < length xs → slice_index xs k + amount < 2 ^ 126 → slice_index xs u < 2 ^ 126 → slice_index (set xs k (slice_index xs k + amount)) u < 2 ^ 126
    set_small xs k amount u b room small =
        elim (cases_eq k u) [
          | inl same ↦ omega (arith, room, ap (λ i. slice_index (set xs k (slice_index xs k + amount)) i) same, get_or-set_same xs k (slice_index xs k + amount) 0 b)
          | inr apart ↦ omega (arith, small, get_or-set_other xs k u (slice_index xs k + amount) 0 (λ e. apart (sym e)))
        ]

-- ---- nothing is given yet

pub get_or-zeros : (n k : ℕ) → slice_index (replicate n 0) k ≡ 0
get_or-zeros zero k = refl
get_or-zeros (suc n) zero = refl
get_or-zeros (suc n) (suc k) = get_or-zeros n k

pub cell_of-zeros : (n m u d : ℕ) → cell_of m (replicate n 0) u d ≡ pos 0
cell_of-zeros n m u d = ap pos (get_or-zeros n (u * m + d))

pub AreKept-zeros : (n m k : ℕ) → n < 2 ^ 32 → m ≤ 12 → k ≡ n * m → AreKept (replicate k 0) (replicate n 0) (replicate m 0)
AreKept-zeros n m k few_nodes few_demands e =
    let rows : length (replicate n 0) ≡ n = length-replicate {A = ℕ} n 0 in
    let columns : length (replicate m 0) ≡ m = length-replicate {A = ℕ} m 0 in
    record {
      few_nodes = rw rows few_nodes;
      few_demands = rw columns few_demands;
      one_each = rw (rows, columns, length-replicate {A = ℕ} k 0) e;
      sent_is = λ u b. ap pos (get_or-zeros n u) ∙ sym (sum_to-zero (length (replicate m 0)) _ (λ d c. cell_of-zeros k (length (replicate m 0)) u d));
      got_is = λ d b. ap pos (get_or-zeros m d) ∙ sym (sum_to-zero (length (replicate n 0)) _ (λ u c. cell_of-zeros k (length (replicate m 0)) u d));
      sent_small = λ u b. omega (arith, get_or-zeros n u);
      got_small = λ d b. omega (arith, get_or-zeros m d);
    }

pub place_inside : (n m u d at : ℕ) (old now : List ℕ) → u < n → d < m → at ≡ u * m + d → length old ≡ n * m → length now ≡ length old → at < length now
place_inside n m u d at old now b c p l e = omega (arith, in_list n m u d b c, p, l, e)
