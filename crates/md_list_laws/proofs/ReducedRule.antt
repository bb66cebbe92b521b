-- Weights that are divided by a common factor of their group change nothing about lists: which are of the right form, and the mechanism
-- that a list is.
use Rattle.std.proofs.Common.{◌≡◌, ℕ, zero, suc, ◌*◌, ◌<◌, ◌≤◌, ◌==◌, ℤ, pos, ◌≤ℤ◌, ◌<ℤ◌, Bool, ◌&&◌, ◌||◌, nat_lt, if◌then◌else◌, bytes_eq, List, [], ◌∷◌, length, inl, inr, refl, sym, ap, ap₂, ◌∙◌, subst, arith}
use Rattle.std.specs.Prelude.{slice_index, slice_index_or}
use Rattle.std.proofs.lemmas.Bool.{cases_lt}
use Rattle.std.proofs.lemmas.List.{get_or_past}
use Rattle.md_math.specs.Lists.{list_to, number_at, up_to}
use Rattle.md_math.proofs.Builders.{list_to-same, up_to-same}
use Rattle.md_space.specs.Profiles.{profile_count, profile_at, replaced}
use Rattle.md_setting.specs.Meaning.{agent_count, outcome_count, sizes_of}
use Rattle.md_mech.specs.declared.mechanism.Mechanism.{Mechanism}
use Rattle.md_setting.specs.Grouped.{Group, GroupedAuction, no_group, group_at, group_of, bidder_count, value_at}
use Rattle.md_bidders.specs.Assignments.{assignment_at, amount_of}
use Rattle.md_bidders.specs.Setting.{setting_of}
use Rattle.md_setting.specs.GroupedShaped.{IsGroup, IsOrdered}
use Rattle.md_bidders.proofs.SettingLaws.{agent_count-setting}
use Rattle.md_list.specs.Best.{IsBest}
use Rattle.md_list.specs.Mechanisms.{chance_at, list_mechanism}
use Rattle.md_list.specs.Ranks.{Rank, place_of, left_after, GoDown, IsList}
use Rattle.md_list.specs.Reduced.{IsReducedGroup, IsReduced}
use Rattle.md_list.specs.Rule.{count_to, slot_at, assigned, amount_at, amount_with, pay_by, payment}
use Rattle.md_list.proofs.PayLaws.{pay-same}
use Rattle.md_list_laws.proofs.Reduced.{same-members, same-count, own-group, same-sizes, same-ways, same-outcomes, same-agents, best-reduced}

-- ---- the form of a list

down-same : (groups : ℕ) (left other : ℕ → ℕ) (ranks : List Rank) → ((k : ℕ) → left k ≡ other k) → GoDown groups left ranks → GoDown groups other ranks
down-same groups left other [] same h = tt
down-same groups left other (rank ∷ others) same h =
    (h.0, h.1, h.2 ∙ same rank.group, down-same groups (left_after left rank) (left_after other rank) others (λ k. ap (λ n. if rank.group == k then rank.first else n) (same k)) h.3)

module _ (a b : GroupedAuction) (factor : ℕ → ℕ) (reduced : IsReduced a b factor) where
  value-counts : (k : ℕ) → length (group_at b k).values ≡ length (group_at a k).values
  value-counts k = elim (cases_lt k (length a.groups)) [
    | inl l ↦ ap length (reduced.group k l).values
    | inr l ↦
        ap (λ (group : Group). length group.values) (get_or_past b.groups k no_group (omega (arith, l, reduced.group_count)))
        ∙ sym (ap (λ (group : Group). length group.values) (get_or_past a.groups k no_group l))
  ]

  pub reduced-list : (ranks : List Rank) → IsList a ranks → IsList b ranks
  reduced-list ranks is =
      subst (λ n. GoDown n (λ k. length (group_at b k).values) ranks) (sym reduced.group_count)
      (down-same (length a.groups) (λ k. length (group_at a k).values) (λ k. length (group_at b k).values) ranks (λ k. sym (value-counts k)) is)

  pub list-reduced : (ranks : List Rank) → IsList b ranks → IsList a ranks
  list-reduced ranks is =
      subst (λ n. GoDown n (λ k. length (group_at a k).values) ranks) reduced.group_count
      (down-same (length b.groups) (λ k. length (group_at b k).values) (λ k. length (group_at a k).values) ranks value-counts is)

  reduced-group : (k : ℕ) → k < length a.groups → IsGroup (group_at a k) → IsGroup (group_at b k)
  reduced-group k l is =
      let own : IsReducedGroup (factor k) (group_at a k) (group_at b k) = reduced.group k l in
      record {
        some_value = subst (λ values. 1 ≤ length values) (sym own.values) is.some_value;
        one_each = own.one_each ∙ is.one_each ∙ ap length (sym own.values);
        positive = λ v b.
            (let inside : v < length (group_at a k).values = subst (λ values. v < length values) own.values b in
            some (factor k) _ _ (own.weights v (omega (arith, inside, is.one_each))) (is.positive v inside));
        ascending = subst (λ values. (v : ℕ) → suc v < length values → number_at values v <ℤ number_at values (suc v)) (sym own.values) is.ascending;
      }
    where
      some : (f w x : ℕ) → x ≡ f * w → 0 < x → 0 < w
      some f zero x e l = (let none : f * 0 ≡ 0 = omega arith in absurd (omega (arith, e, l, none)))
      some f (suc w) x e l = omega arith

  pub reduced-ordered : IsOrdered a → IsOrdered b
  reduced-ordered is = record {
    group = λ k l. (let here : k < length a.groups = omega (arith, l, reduced.group_count) in reduced-group k here (is.group k here));
    falling = subst (λ (slots : List ℕ). (h : ℕ) → suc h < length slots → slice_index slots (suc h) ≤ slice_index slots h) (sym reduced.slots) is.falling;
    revenue = subst (λ z. pos 0 ≤ℤ z) (sym reduced.revenue) is.revenue;
  }

  -- ---- the rule

  module _ (ranks : List Rank) where
    -- the slot of a bidder, by the groups of all bidders and the slots
    abbrev ahead : List ℕ → List ℕ → ℕ → ℕ
    ahead ms t i =
        count_to (length ms)
        (λ j.
        nat_lt (place_of ranks (slice_index ms j) (slice_index t j)) (place_of ranks (slice_index ms i) (slice_index t i))
        || (place_of ranks (slice_index ms j) (slice_index t j) == place_of ranks (slice_index ms i) (slice_index t i) && nat_lt j i))

    abbrev slot_by : List ℕ → List ℕ → List ℕ → ℕ → ℕ
    slot_by ms slots t i = if nat_lt (place_of ranks (slice_index ms i) (slice_index t i)) (length ranks) && nat_lt (ahead ms t i) (length slots) then suc (ahead ms t i) else 0

    same-slot : (t : List ℕ) (i : ℕ) → slot_at b ranks t i ≡ slot_at a ranks t i
    same-slot t i = ap₂ (λ ms slots. slot_by ms slots t i) (same-members a b factor reduced) reduced.slots

    same-payment : (t : List ℕ) (i : ℕ) → i < bidder_count a → payment b ranks i t ≡ payment a ranks i t
    same-payment t i c =
        ap (λ values. pay_by (number_at values) (λ v. pos (amount_with b ranks t i v)) (slice_index t i)) (own-group a b factor reduced i c).values
        ∙ pay-same (value_at a i) (λ v. pos (amount_with b ranks t i v)) (λ v. pos (amount_with a ranks t i v)) (slice_index t i)
        (λ v l. ap₂ (λ slots k. pos (amount_of slots k)) reduced.slots (same-slot (replaced t i v) i))

    same-assigned : (t : List ℕ) → assigned b ranks t ≡ assigned a ranks t
    same-assigned t = ap (λ n. list_to n (slot_at b ranks t)) (same-count a b factor reduced) ∙ list_to-same (bidder_count a) _ _ (λ i c. same-slot t i)

    same-chance : (t : List ℕ) (o : ℕ) → chance_at b ranks t o ≡ chance_at a ranks t o
    same-chance t o = ap₂ (λ (ways : List (List ℕ)) given. if bytes_eq (slice_index_or ways o []) given then pos 1 else pos 0) (same-ways a b factor reduced) (same-assigned t)

    abbrev with_parts : List ℤ → List ℤ → Mechanism
    with_parts chances pays = record { den = pos 1; chances = chances; pays = pays }

    -- the list is one mechanism
    pub same-mechanism : list_mechanism b ranks ≡ list_mechanism a ranks
    same-mechanism =
        let sizes = sizes_of (setting_of a) in
        ap₂ with_parts
        (ap₂ (λ sizes n. up_to (profile_count sizes) (λ r. list_to n (chance_at b ranks (profile_at sizes r)))) (same-sizes a b factor reduced) (same-outcomes a b factor reduced)
        ∙ up_to-same (profile_count sizes) _ _ (λ r c. list_to-same (outcome_count (setting_of a)) _ _ (λ o d. same-chance (profile_at sizes r) o)))
        (ap₂ (λ sizes n. up_to (profile_count sizes) (λ r. list_to n (λ i. payment b ranks i (profile_at sizes r)))) (same-sizes a b factor reduced) (same-agents a b factor reduced)
        ∙ up_to-same (profile_count sizes) _ _
        (λ r c. list_to-same (agent_count (setting_of a)) _ _ (λ i d. same-payment (profile_at sizes r) i (subst (λ n. i < n) (agent_count-setting a) d))))

    -- a list that is best by the reduced weights is best
    pub best-list_reduced : IsBest b (list_mechanism b ranks) → IsBest a (list_mechanism a ranks)
    best-list_reduced best = subst (λ m. IsBest a m) same-mechanism (best-reduced a b factor reduced (list_mechanism b ranks) best)
