-- Flows from the profiles to the pairs are profile tables, and sets that are over their caps ask for more than there is.
use Rattle.std.proofs.Common.{◌≡◌, ◌≢◌, ◌==◌, ℕ, zero, suc, ◌+◌, ◌*◌, ◌<◌, ◌≤◌, ℤ, pos, ◌-ℤ◌, ◌*ℤ◌, ◌≤ℤ◌, Bool, true, false, ◌&&◌, if◌then◌else◌, List, length, get_or, slice_index, refl, sym, ap, ap₂, ◌∙◌, subst, arith, eq-eqb, ne_eqb, inl, inr, mul-le-mul, le_refl}
use Rattle.std.proofs.lemmas.Bool.{cases_eq}
use Rattle.std.proofs.lemmas.Bool.Decides.{nat_tests}
use Rattle.std.proofs.lemmas.Int.{ints}
use Rattle.md_math.specs.Lists.{number_at, list_to}
use Rattle.md_math.specs.Sets.{member}
use Rattle.md_math.specs.Sizes.{IsWithin}
use Rattle.md_math.specs.Sums.{sum_to}
use Rattle.md_math.proofs.BoundedTests.{true_or_false, and-left, and-right, and-both}
use Rattle.md_math.proofs.Builders.{length-list_to, length-up_to, get_or-list_to, get_or-up_to}
use Rattle.md_math.proofs.Order.{chosen-times}
use Rattle.md_math.proofs.SumLaws.{sum_to-same, sum_to-single, sum_to-*ℤ}
use Rattle.md_space.specs.Profiles.{profile_count, profile_at}
use Rattle.md_space.proofs.Ranks.{profile_at-IsProfile, report-below}
use Rattle.md_lp.proofs.WorstLaws.{worst-same, none_over-same}
use Rattle.md_setting.specs.Setting.{GeneralSetting}
use Rattle.md_setting.specs.Meaning.{agent_count, sizes_of, weight_of}
use Rattle.md_mech.proofs.CountLaws.{agents-length}
use Rattle.md_flow.specs.Network.{Network, node_count, demand_count, cap_of, want_of}
use Rattle.md_flow.specs.Flows.{given_by, got_by, Meets, amount_in}
use Rattle.md_flow.specs.Over.{any_below, over, NoneOver, IsWorst}
use Rattle.md_flow.proofs.AnyBelow.{any_below-place, any_below-true}
use Rattle.md_flow.proofs.Touching.{over-touching, untouched}
use Rattle.md_asym_tables.specs.Odds.{excess_of, IsWorstSet, MeetsBorder}
use Rattle.md_asym_tables.specs.PairNets.{IsNetOf, cap_at, has_at}
use Rattle.md_asym_sale.specs.Pairs.{pair_number, agent_of, kind_of}
use Rattle.md_asym_sale.specs.Sides.{has_some, right_of, demand_at}
use Rattle.md_asym_tables.specs.Tables.{IsProfileTable, Implements, mass_at, mass_where, masses_in, masses_in_at}
use Rattle.md_asym_sale.specs.Values.{pairs_of}
use Rattle.md_asym_sale.proofs.PairLaws.{agent-of, kind-of, pair-in, number-below}
use Rattle.md_asym_sale.proofs.PairSums.{pairs-nested, number-of, of_agent}
use Rattle.md_asym_sale.proofs.SaleLaws.{in-sizes}
use Rattle.md_asym_sale.proofs.SideLaws.{weight_where, right-by_rank}

-- ---- the net's sizes and numbers

pub nodes-of : (s : GeneralSetting) (den : ℤ) (odds : List ℤ) (net : Network) → IsNetOf s den odds net → node_count net ≡ profile_count (sizes_of s)
nodes-of s den odds net h = ap length h.caps ∙ length-list_to (profile_count (sizes_of s)) (cap_at s den)

pub demands-of : (s : GeneralSetting) (den : ℤ) (odds : List ℤ) (net : Network) → IsNetOf s den odds net → demand_count net ≡ pairs_of s
demands-of s den odds net h = ap length h.wants ∙ length-list_to (pairs_of s) (demand_at s (number_at odds))

cap-of : (s : GeneralSetting) (den : ℤ) (odds : List ℤ) (net : Network) (r : ℕ) → IsNetOf s den odds net → r < profile_count (sizes_of s) → cap_of net r ≡ cap_at s den r
cap-of s den odds net r h b = ap (λ caps. number_at caps r) h.caps ∙ get_or-list_to (profile_count (sizes_of s)) (cap_at s den) r (pos 0) b

want-of : (s : GeneralSetting) (den : ℤ) (odds : List ℤ) (net : Network) (p : ℕ) → IsNetOf s den odds net → p < pairs_of s → want_of net p ≡ demand_at s (number_at odds) p
want-of s den odds net p h b = ap (λ wants. number_at wants p) h.wants ∙ get_or-list_to (pairs_of s) (demand_at s (number_at odds)) p (pos 0) b

-- ---- pairs at a profile

-- the type of an agent at the profile of a rank, and the pair of both
abbrev type_in : GeneralSetting → ℕ → ℕ → ℕ
type_in s r i = slice_index (profile_at (sizes_of s) r) i

abbrev pair_in : GeneralSetting → ℕ → ℕ → ℕ
pair_in s r i = pair_number (sizes_of s) i (type_in s r i)

type-below : (s : GeneralSetting) (r i : ℕ) → r < profile_count (sizes_of s) → i < agent_count s → type_in s r i < slice_index (sizes_of s) i
type-below s r i b h = report-below (sizes_of s) (profile_at (sizes_of s) r) i (profile_at-IsProfile (sizes_of s) r b) (in-sizes s i h)

pair-below : (s : GeneralSetting) (r i : ℕ) → r < profile_count (sizes_of s) → i < agent_count s → pair_in s r i < pairs_of s
pair-below s r i b h = number-below (sizes_of s) i (type_in s r i) (in-sizes s i h) (type-below s r i b h)

same-eqb : (m n : ℕ) → (m == n) ≡ true → m ≡ n
same-eqb m n h = grind (arith, nat_tests)

-- an agent has another type than that of a pair with it
not-at : (s : GeneralSetting) (r i a : ℕ) → i < agent_count s → a < slice_index (sizes_of s) i → a ≢ type_in s r i → has_at s r (pair_number (sizes_of s) i a) ≡ false
not-at s r i a h l d =
    rw (agent-of (sizes_of s) i a (in-sizes s i h) l, kind-of (sizes_of s) i a (in-sizes s i h) l) (ne_eqb (type_in s r i) a (λ e. d (sym e)))

is-at : (s : GeneralSetting) (r i : ℕ) → r < profile_count (sizes_of s) → i < agent_count s → has_at s r (pair_in s r i) ≡ true
is-at s r i b h =
    rw (agent-of (sizes_of s) i (type_in s r i) (in-sizes s i h) (type-below s r i b h), kind-of (sizes_of s) i (type_in s r i) (in-sizes s i h) (type-below s r i b h))
    (eq-eqb (type_in s r i) (type_in s r i) refl)

-- where the agent of a pair has its type, that is the agent's pair
pair-at : (s : GeneralSetting) (r p : ℕ) → p < pairs_of s → has_at s r p ≡ true → pair_in s r (agent_of (sizes_of s) p) ≡ p
pair-at s r p h e =
    ap (pair_number (sizes_of s) (agent_of (sizes_of s) p)) (same-eqb (type_in s r (agent_of (sizes_of s) p)) (kind_of (sizes_of s) p) e) ∙ number-of (sizes_of s) p h

agent-below : (s : GeneralSetting) (p : ℕ) → p < pairs_of s → agent_of (sizes_of s) p < agent_count s
agent-below s p h = (let (agent, kind) = pair-in (sizes_of s) p h in omega (arith, agent, agents-length s))

-- ---- which profiles touch a set

same-bool : (a b : Bool) → (a ≡ true → b ≡ true) → (b ≡ true → a ≡ true) → a ≡ b
same-bool true b p q = sym (p refl)
same-bool false true p q = q refl
same-bool false false p q = refl

some-touched : (s : GeneralSetting) (set r : ℕ) → r < profile_count (sizes_of s) → any_below (pairs_of s) (λ p. has_at s r p && member set p) ≡ has_some s set (profile_at (sizes_of s) r)
some-touched s set r b = same-bool _ _ there back
  where
    test : ℕ → Bool
    test p = has_at s r p && member set p

    wanted : ℕ → Bool
    wanted i = member set (pair_in s r i)

    there : any_below (pairs_of s) test ≡ true → any_below (agent_count s) wanted ≡ true
    there e =
        let (p, l, t) = any_below-place (pairs_of s) test e in
        any_below-true (agent_count s) wanted (agent_of (sizes_of s) p) (agent-below s p l) (ap (member set) (pair-at s r p l (and-left (has_at s r p) (member set p) t)) ∙ and-right (has_at s r p) (member set p) t)

    back : any_below (agent_count s) wanted ≡ true → any_below (pairs_of s) test ≡ true
    back e =
        let (i, l, t) = any_below-place (agent_count s) wanted e in
        any_below-true (pairs_of s) test (pair_in s r i) (pair-below s r i b l) (and-both (has_at s r (pair_in s r i)) (member set (pair_in s r i)) (is-at s r i b l) t)

-- the caps of the nodes that touch a set are the right side of the set
caps-touched : (s : GeneralSetting) (den : ℤ) (odds : List ℤ) (net : Network) (set : ℕ) → IsNetOf s den odds net
    → sum_to (node_count net) (λ r. if any_below (demand_count net) (λ p. has_at s r p && member set p) then cap_of net r else pos 0) ≡ den *ℤ right_of s set
caps-touched s den odds net set h =
    ap₂ (λ n k. sum_to n (λ r. if any_below k (λ p. has_at s r p && member set p) then cap_of net r else pos 0)) (nodes-of s den odds net h) (demands-of s den odds net h)
    ∙ sum_to-same (profile_count (sizes_of s)) _ (λ r. den *ℤ weight_where s set r) (λ r b.
    ap₂ (λ (t : Bool) (z : ℤ). if t then z else pos 0) (some-touched s set r b) (cap-of s den odds net r h b)
    ∙ sym (chosen-times (has_some s set (profile_at (sizes_of s) r)) den (weight_of s (profile_at (sizes_of s) r))))
    ∙ sum_to-*ℤ (profile_count (sizes_of s)) den (weight_where s set)
    ∙ ap (λ z. den *ℤ z) (sym (right-by_rank s set))

-- what a set is over by in the net is its excess
pub over-excess : (s : GeneralSetting) (den : ℤ) (odds : List ℤ) (net : Network) (set : ℕ) → IsNetOf s den odds net → over net (member set) ≡ excess_of s den odds set
over-excess s den odds net set h =
    over-touching net (has_at s) (member set) h.nonneg h.rooms
    ∙ ap₂ (λ x y. x -ℤ y)
    (ap (λ k. sum_to k (λ p. if member set p then want_of net p else pos 0)) (demands-of s den odds net h)
    ∙ sum_to-same (pairs_of s) _ _ (λ p l. ap (λ z. if member set p then z else pos 0) (want-of s den odds net p h l)))
    (caps-touched s den odds net set h)

pub border-met : (s : GeneralSetting) (den : ℤ) (odds : List ℤ) (net : Network) → IsNetOf s den odds net → NoneOver net → MeetsBorder s den odds
border-met s den odds net h = none_over-same (demand_count net) (pairs_of s) (λ set. over net (member set)) (excess_of s den odds) (demands-of s den odds net h) (λ set. over-excess s den odds net set h)

pub worst-of_net : (s : GeneralSetting) (den : ℤ) (odds : List ℤ) (net : Network) (set : ℕ) → IsNetOf s den odds net → IsWorst net set → IsWorstSet s den odds set
worst-of_net s den odds net set h = worst-same (demand_count net) (pairs_of s) (λ set. over net (member set)) (excess_of s den odds) set (demands-of s den odds net h) (λ other. over-excess s den odds net other h)

-- ---- the table of a flow

pub place-below : (r n p k : ℕ) → r < n → p < k → r * k + p < n * k
place-below r n p k h l =
    let next : (r + 1) * k ≤ n * k = mul-le-mul (let e : r + 1 ≤ n = omega (arith, h) in e) (le_refl k) in
    let parts : (r + 1) * k ≡ r * k + k = omega arith in
    omega (arith, next, parts, l)

amount-at : (s : GeneralSetting) (den : ℤ) (odds amounts : List ℤ) (net : Network) (r p : ℕ) → IsNetOf s den odds net → amount_in net amounts r p ≡ number_at amounts (r * pairs_of s + p)
amount-at s den odds amounts net r p h = ap (λ m. number_at amounts (r * m + p)) (demands-of s den odds net h)

-- the mass of an agent is the amount of its pair
mass-at : (s : GeneralSetting) (den : ℤ) (odds amounts : List ℤ) (net : Network) (r i : ℕ) → IsNetOf s den odds net → r < profile_count (sizes_of s) → i < agent_count s
    → mass_at s (masses_in s amounts) r i ≡ amount_in net amounts r (pair_in s r i)
mass-at s den odds amounts net r i h b l =
    get_or-up_to (profile_count (sizes_of s)) (agent_count s) r i (masses_in_at s amounts) (pos 0) (λ k c. length-list_to (agent_count s) _) b l
    ∙ get_or-list_to (agent_count s) (λ j. number_at amounts (r * pairs_of s + pair_in s r j)) i (pos 0) l
    ∙ sym (amount-at s den odds amounts net r (pair_in s r i) h)

-- an agent without the type of a pair gets nothing for it
amount-none : (s : GeneralSetting) (den : ℤ) (odds amounts : List ℤ) (net : Network) (r p : ℕ) → IsNetOf s den odds net → Meets net (amount_in net amounts) → r < profile_count (sizes_of s) → p < pairs_of s → has_at s r p ≡ false → amount_in net amounts r p ≡ pos 0
amount-none s den odds amounts net r p h meets b l away =
    let node : r < node_count net = omega (arith, b, nodes-of s den odds net h) in
    let demand : p < demand_count net = omega (arith, l, demands-of s den odds net h) in
    untouched net (amount_in net amounts) r p meets.part node demand (h.rooms r p node demand ∙ ap (λ t. if t then cap_of net r else pos 0) away)

-- a node gives each agent's pair its amount, and nothing else
given-masses : (s : GeneralSetting) (den : ℤ) (odds amounts : List ℤ) (net : Network) (r : ℕ) → IsNetOf s den odds net → Meets net (amount_in net amounts) → r < profile_count (sizes_of s)
    → given_by (demand_count net) (amount_in net amounts) r ≡ sum_to (agent_count s) (mass_at s (masses_in s amounts) r)
given-masses s den odds amounts net r h meets b =
    ap (λ k. sum_to k x) (demands-of s den odds net h)
    ∙ pairs-nested (sizes_of s) x
    ∙ ap (λ n. sum_to n (of_agent (sizes_of s) x)) (agents-length s)
    ∙ sum_to-same (agent_count s) (of_agent (sizes_of s) x) (mass_at s (masses_in s amounts) r) at
  where
    x : ℕ → ℤ
    x p = amount_in net amounts r p

    at : (i : ℕ) → i < agent_count s → of_agent (sizes_of s) x i ≡ mass_at s (masses_in s amounts) r i
    at i l =
        sum_to-single (slice_index (sizes_of s) i) (type_in s r i) (λ a. x (pair_number (sizes_of s) i a)) (type-below s r i b l)
        (λ a c d.
        let inside = number-below (sizes_of s) i a (in-sizes s i l) c in
        amount-none s den odds amounts net r (pair_number (sizes_of s) i a) h meets b inside (not-at s r i a l c d))
        ∙ sym (mass-at s den odds amounts net r i h b l)

pub table-of_flow : (s : GeneralSetting) (den : ℤ) (odds amounts : List ℤ) (net : Network) → IsNetOf s den odds net → Meets net (amount_in net amounts) → IsProfileTable s den (masses_in s amounts)
table-of_flow s den odds amounts net h meets = record {
  one_each = length-up_to (profile_count (sizes_of s)) (agent_count s) (masses_in_at s amounts) (λ r b. length-list_to (agent_count s) _);
  nonneg = λ r i b l.
      subst (λ z. pos 0 ≤ℤ z) (sym (mass-at s den odds amounts net r i h b l))
      (meets.part.nonneg r (pair_in s r i) (omega (arith, b, nodes-of s den odds net h)) (omega (arith, pair-below s r i b l, demands-of s den odds net h)));
  inside = λ r b.
      subst (λ z. z ≤ℤ cap_at s den r) (given-masses s den odds amounts net r h meets b)
      (subst (λ z. given_by (demand_count net) (amount_in net amounts) r ≤ℤ z) (cap-of s den odds net r h b) (meets.part.caps r (omega (arith, b, nodes-of s den odds net h))));
}

pub implements-of_flow : (s : GeneralSetting) (den : ℤ) (odds amounts : List ℤ) (net : Network) → IsNetOf s den odds net → Meets net (amount_in net amounts) → Implements s odds (masses_in s amounts)
implements-of_flow s den odds amounts net h meets = record { exact = exact }
  where
    at : (p r : ℕ) → p < pairs_of s → r < profile_count (sizes_of s) → mass_where s (masses_in s amounts) p r ≡ amount_in net amounts r p
    at p r l b = elim (true_or_false (has_at s r p)) [
      | inl here ↦
          rw here
          (mass-at s den odds amounts net r (agent_of (sizes_of s) p) h b (agent-below s p l) ∙ ap (amount_in net amounts r) (pair-at s r p l here))
      | inr away ↦
          rw away
          (sym (amount-none s den odds amounts net r p h meets b l away))
    ]

    exact : (p : ℕ) → p < pairs_of s → sum_to (profile_count (sizes_of s)) (mass_where s (masses_in s amounts) p) ≡ demand_at s (number_at odds) p
    exact p l =
        sum_to-same (profile_count (sizes_of s)) (mass_where s (masses_in s amounts) p) (λ r. amount_in net amounts r p) (λ r b. at p r l b)
        ∙ ap (λ n. sum_to n (λ r. amount_in net amounts r p)) (sym (nodes-of s den odds net h))
        ∙ meets.exact p (omega (arith, l, demands-of s den odds net h))
        ∙ want-of s den odds net p h l
