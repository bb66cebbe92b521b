-- What the tests of a setting say of it.
use Rattle.std.proofs.Common.{◌≡◌, ℕ, zero, suc, ◌<◌, ◌≤◌, ℤ, pos, negsuc, ◌≤ℤ◌, ◌<ℤ◌, unsigned_abs, Bool, true, false, not, ◌||◌, List, [], ◌∷◌, length, Option, None, Some, is_some, All, refl, sym, ap, ◌∙◌, subst, arith, slice_index, slice_index_or, nat_lt, ◌==◌, if◌then◌else◌}
use Rattle.std.specs.List.{list_all, list_any}
use Rattle.std.proofs.lemmas.Int.{ints}
use Rattle.std.proofs.lemmas.Bool.Decides.{nat_tests}
use Rattle.std.proofs.lemmas.List.{get_or-map}
use Rattle.md_math.specs.Lists.{number_at}
use Rattle.md_math.specs.Sizes.{IsWithin}
use Rattle.md_math.proofs.SizeLaws.{IsWithin-zero}
use Rattle.md_space.specs.Profiles.{IsProfile, profile_count, profile_at, rank_of}
use Rattle.std.proofs.lemmas.List.Elements.{All-nil, All-cons}
use Rattle.md_space.specs.Sizes.{IsSpace, is_empty, has_many_types, has_many_profiles}
use Rattle.md_space.specs.declared.refusal.SpaceRefusal.{SpaceRefusal}
use Rattle.md_space.specs.declared.refusal.SpaceRefusal.TheVariants.{Empty, TooManyTypes, TooManyProfiles}
use Rattle.md_space.proofs.Ranks.{rank_of-below, profile_at-rank_of}
use Rattle.md_setting.specs.Setting.{Agent, GeneralSetting}
use Rattle.md_setting.specs.Meaning.{nobody, agent_at, agent_count, outcome_count, sizes_of, utilities_by, weight_of, marginal_of, total_of, value_of}
use Rattle.md_setting.specs.Rows.{row_count, cell_count}
use Rattle.md_setting.specs.Refusals.{all_below, is_small, is_weight, has_agent_shape, has_at_shape, has_rows, has_small_rows, has_small_at, has_prior_shape, has_good_sizes, has_good_shape, has_small_numbers, has_small_prior, has_small_lists, has_small_values, has_all_weights, has_small_total, has_few_rows}
use Rattle.md_setting.specs.Shaped.{IsListed, IsSmall, IsWeight, IsShaped}
use Rattle.md_setting.proofs.TestLaws.{and_left, and_right, all_below-at, list_all-at, le_of_test, is_within}
use Rattle.md_setting.proofs.ValueLaws.{small_values-by_rank}
use Rattle.md_setting.proofs.WeightLaws.{weight_of-nonneg, weight_of-within, within_total, total-nonneg, marginal-nonneg}

same_of_eq : (m n : ℕ) → (m == n) ≡ true → m ≡ n
same_of_eq m n h = grind (arith, nat_tests)

-- so many lists, each with a number for each outcome
record AreRows (count outcomes : ℕ) (rows : List (List ℤ)) : Type 0 where
  count_is : length rows ≡ count
  row : (a : ℕ) → a < length rows → length (slice_index_or rows a []) ≡ outcomes

are_rows : (count outcomes : ℕ) (rows : List (List ℤ)) → has_rows count outcomes rows ≡ true → AreRows count outcomes rows
are_rows count outcomes rows h = record {
  count_is = same_of_eq _ _ (and_left _ _ h);
  row = λ a l. same_of_eq _ _ (list_all-at (λ row. length row == outcomes) rows a [] (and_right (length rows == count) _ h) l);
}

at_rows : (profiles outcomes : ℕ) (at : Option (List (List ℤ))) → has_at_shape profiles outcomes at ≡ true → (found : List (List ℤ)) → at ≡ Some found → AreRows profiles outcomes found
at_rows profiles outcomes None h found e = cc
at_rows profiles outcomes (Some at) h found e = let f : at ≡ found = cc in subst (AreRows profiles outcomes) f (are_rows profiles outcomes at h)

-- what the shape of one agent's lists is
record IsAgentListed (has_prior : Bool) (profiles outcomes : ℕ) (agent : Agent) : Type 0 where
  weights : length agent.weights ≡ (if has_prior then 0 else length agent.types)
  outside : length agent.outside ≡ length agent.types
  utility : AreRows (if is_some agent.at then 0 else length agent.types) outcomes agent.utility
  at : (found : List (List ℤ)) → agent.at ≡ Some found → AreRows profiles outcomes found

agent_listed : (has_prior : Bool) (profiles outcomes : ℕ) (agent : Agent) → has_agent_shape has_prior profiles outcomes agent ≡ true → IsAgentListed has_prior profiles outcomes agent
unfolding has_agent_shape
agent_listed has_prior profiles outcomes agent h =
    let abc = and_left _ _ h in
    let ab = and_left _ _ abc in
    record {
      weights = same_of_eq _ _ (and_left _ _ ab);
      outside = same_of_eq _ _ (and_right _ _ ab);
      utility = are_rows _ _ _ (and_right _ _ abc);
      at = at_rows profiles outcomes agent.at (and_right _ _ h);
    }

size_at : (s : GeneralSetting) (i : ℕ) → i < agent_count s → length (agent_at s i).types ≡ slice_index (sizes_of s) i
size_at s i h = sym (get_or-map (λ (a : Agent). length a.types) s.agents i nobody 0 h)

prior_listed : (prior : Option (List ℤ)) (n : ℕ) → has_prior_shape prior n ≡ true → (p : List ℤ) → prior ≡ Some p → length p ≡ n
prior_listed None n h p e = cc
prior_listed (Some q) n h p e = let f : q ≡ p = cc in subst (λ l. length l ≡ n) f (same_of_eq (length q) n h)

no_prior : (prior : Option (List ℤ)) → prior ≡ None → is_some prior ≡ false
no_prior prior e = ap is_some e

or_left : (a b : Bool) → (a || b) ≡ false → a ≡ false
or_left true b h = h
or_left false b h = refl

or_right : (a b : Bool) → (a || b) ≡ false → b ≡ false
or_right true b h = cc
or_right false b h = h

All-from_none : (p : ℕ → Bool) (P : ℕ → Type 0) → ((n : ℕ) → p n ≡ false → P n) → (xs : List ℕ) → list_any p xs ≡ false → All P xs
All-from_none p P f [] h = All-nil P
All-from_none p P f (x ∷ xs) h = All-cons P x xs (f x (or_left (p x) _ h)) (All-from_none p P f xs (or_right (p x) _ h))

-- three tests of which none holds
pub record NoneOf (a b d : Bool) : Type 0 where
  pub first : a ≡ false
  pub second : b ≡ false
  pub third : d ≡ false

none_of : (x y z : SpaceRefusal) (a b d : Bool) → not (is_some (if a then Some x else (if b then Some y else (if d then Some z else None)))) ≡ true → NoneOf a b d
none_of x y z true b d h = absurd (cc h)
none_of x y z false true d h = absurd (cc h)
none_of x y z false false true h = absurd (cc h)
none_of x y z false false false h = record { first = refl; second = refl; third = refl }

positive : (n : ℕ) → (n == 0) ≡ false → 0 < n
positive n h = grind (arith, nat_tests)

at_most : (m n : ℕ) → nat_lt m n ≡ false → n ≤ m
at_most m n h = grind (arith, nat_tests)

-- good sizes make a space
pub good_space : (s : GeneralSetting) → has_good_sizes s ≡ true → IsSpace (sizes_of s)
unfolding has_good_sizes
good_space s h =
    let n = none_of Empty TooManyTypes TooManyProfiles (is_empty (sizes_of s)) (has_many_types (sizes_of s)) (has_many_profiles (sizes_of s)) (and_left _ _ (and_left _ _ h)) in
    record {
      some_agent = positive _ (or_left _ _ n.first);
      few_agents = at_most 6 _ (or_left _ _ n.second);
      some_type = All-from_none (λ n. n == 0) (λ n. 0 < n) positive (sizes_of s) (or_right (length (sizes_of s) == 0) _ n.first);
      few_types = All-from_none (λ n. nat_lt 16 n) (λ n. n ≤ 16) (at_most 16) (sizes_of s) (or_right (nat_lt 6 (length (sizes_of s))) _ n.second);
      few_profiles = at_most 1024 _ n.third;
    }

-- the lists are as long as they should be
pub listed : (s : GeneralSetting) → has_good_sizes s ≡ true → has_good_shape s ≡ true → IsListed s
unfolding has_good_sizes has_good_shape
listed s sizes shape =
    let ab = and_left _ _ shape in
    let profiles = profile_count (sizes_of s) in
    let agent : (i : ℕ) → i < agent_count s → IsAgentListed (is_some s.prior) profiles (outcome_count s) (agent_at s i) =
    λ i h. agent_listed (is_some s.prior) profiles (outcome_count s) (agent_at s i) (list_all-at (has_agent_shape (is_some s.prior) profiles (outcome_count s)) s.agents i nobody (and_left _ _ ab) h) in
    record {
      space = good_space s sizes;
      some_outcome = le_of_test _ _ (and_right _ _ (and_left _ _ sizes));
      few_outcomes = le_of_test _ _ (and_right _ _ sizes);
      outside = λ i h. (agent i h).outside ∙ size_at s i h;
      utility = λ i h e. (agent i h).utility.count_is ∙ ap (λ b. if b then 0 else length (agent_at s i).types) (ap is_some e) ∙ size_at s i h;
      row = λ i a h k. (agent i h).utility.row a k;
      beside_at = λ at i h e. (agent i h).utility.count_is ∙ ap (λ b. if b then 0 else length (agent_at s i).types) (ap is_some e);
      at = λ at i h e. ((agent i h).at at e).count_is;
      at_row = λ at i r h e l. ((agent i h).at at e).row r l;
      weights = λ e i h. (rw (no_prior s.prior e) at (agent i h).weights) ∙ size_at s i h;
      beside_prior = λ p e i h. (rw e at (agent i h).weights);
      prior = prior_listed s.prior (profile_count (sizes_of s)) (and_right _ _ ab);
      values = same_of_eq _ _ (and_right _ _ shape);
    }

weight_of_test : (z : ℤ) → is_weight z ≡ true → IsWeight z
weight_of_test (pos n) h = record { nonneg = omega (arith, ints); within = record { within = le_of_test n 1000000 h } }
weight_of_test (negsuc n) h = absurd (cc h)

zero_weight : IsWeight (pos 0)
zero_weight = record { nonneg = omega (arith, ints); within = IsWithin-zero 1000000 }

-- what holds of each number of a list and of 0 holds of the number at each place
pub at_each : (P : ℤ → Type 0) (p : ℤ → Bool) → ((z : ℤ) → p z ≡ true → P z) → P (pos 0) → (xs : List ℤ) → list_all p xs ≡ true → (k : ℕ) → P (number_at xs k)
at_each P p f z [] h k = z
at_each P p f z (x ∷ xs) h zero = f x (and_left _ _ h)
at_each P p f z (x ∷ xs) h (suc k) = at_each P p f z xs (and_right (p x) _ h) k

rows_at : (rows : List (List ℤ)) → has_small_rows rows ≡ true → (a o : ℕ) → IsWithin 1000000 (number_at (slice_index_or rows a []) o)
rows_at [] h a o = IsWithin-zero 1000000
rows_at (row ∷ rows) h zero o = at_each (IsWithin 1000000) (is_small 1000000) (is_within 1000000) (IsWithin-zero 1000000) row (and_left _ _ h) o
rows_at (row ∷ rows) h (suc a) o = rows_at rows (and_right (list_all (is_small 1000000) row) _ h) a o

utilities_at : (at : Option (List (List ℤ))) (utility : List (List ℤ)) → has_small_rows utility ≡ true → has_small_at at ≡ true → (r a o : ℕ) → IsWithin 1000000 (number_at (utilities_by at utility r a) o)
utilities_at None utility h k r a o = rows_at utility h a o
utilities_at (Some at) utility h k r a o = rows_at at k r o

-- the numbers of one agent
record IsAgentSmall (agent : Agent) : Type 0 where
  weight : (a : ℕ) → IsWeight (number_at agent.weights a)
  outside : (a : ℕ) → IsWithin 1000000 (number_at agent.outside a)
  utility : (r a o : ℕ) → IsWithin 1000000 (number_at (utilities_by agent.at agent.utility r a) o)

agent_small : (agent : Agent) → has_small_numbers agent ≡ true → IsAgentSmall agent
unfolding has_small_numbers
agent_small agent h =
    let abc = and_left _ _ h in
    let ab = and_left _ _ abc in
    record {
      weight = at_each IsWeight is_weight weight_of_test zero_weight agent.weights (and_left _ _ ab);
      outside = at_each (IsWithin 1000000) (is_small 1000000) (is_within 1000000) (IsWithin-zero 1000000) agent.outside (and_right _ _ ab);
      utility = utilities_at agent.at agent.utility (and_right _ _ abc) (and_right _ _ h);
    }

agents_small : (agents : List Agent) → list_all has_small_numbers agents ≡ true → (i : ℕ) → IsAgentSmall (slice_index_or agents i nobody)
agents_small [] h i = record {
  weight = λ a. zero_weight;
  outside = λ a. IsWithin-zero 1000000;
  utility = λ r a o. IsWithin-zero 1000000;
}
agents_small (agent ∷ agents) h zero = agent_small agent (and_left _ _ h)
agents_small (agent ∷ agents) h (suc i) = agents_small agents (and_right (has_small_numbers agent) _ h) i

prior_small : (prior : Option (List ℤ)) → has_small_prior prior ≡ true → (p : List ℤ) → prior ≡ Some p → (r : ℕ) → IsWeight (number_at p r)
prior_small None h p e r = cc
prior_small (Some q) h p e r =
    let f : q ≡ p = cc in
    subst (λ l. IsWeight (number_at l r)) f (at_each IsWeight is_weight weight_of_test zero_weight q h r)

pub small : (s : GeneralSetting) → has_small_lists s ≡ true → IsSmall s
unfolding has_small_lists
small s h =
    let abcd = and_left _ _ h in
    let abc = and_left _ _ abcd in
    let ab = and_left _ _ abc in
    let agent : (i : ℕ) → IsAgentSmall (agent_at s i) = agents_small s.agents (and_left _ _ ab) in
    record {
      utility = λ i t o. (agent i).utility (rank_of (sizes_of s) t) (slice_index t i) o;
      outside = λ i a. (agent i).outside a;
      value = at_each (IsWithin 1000000) (is_small 1000000) (is_within 1000000) (IsWithin-zero 1000000) s.values (and_right _ _ abc);
      welfare = is_within 1000 s.welfare (and_right _ _ abcd);
      revenue = is_within 1000 s.revenue (and_right _ _ h);
      weight = λ i a. (agent i).weight a;
      prior = prior_small s.prior (and_right _ _ ab);
    }

each_value : (s : GeneralSetting) → has_small_values s ≡ true → (t : List ℕ) (o : ℕ) → IsProfile (sizes_of s) t → o < outcome_count s → IsWithin 10000000 (value_of s t o)
each_value s h t o p l =
    let r = rank_of (sizes_of s) t in
    let at = all_below-at (profile_count (sizes_of s)) r (λ r. all_below (outcome_count s) (λ o. is_small 10000000 (value_of s (profile_at (sizes_of s) r) o)))
    (sym (small_values-by_rank s) ∙ h) (rank_of-below (sizes_of s) t p) in
    subst (λ u. IsWithin 10000000 (value_of s u o)) (profile_at-rank_of (sizes_of s) t p)
    (is_within 10000000 _ (all_below-at (outcome_count s) o (λ o. is_small 10000000 (value_of s (profile_at (sizes_of s) r) o)) at l))

each_weight : (s : GeneralSetting) → IsSmall s → has_small_total s ≡ true → (t : List ℕ) → IsProfile (sizes_of s) t → IsWeight (weight_of s t)
each_weight s h total t p = record {
  nonneg = weight_of-nonneg s t h;
  within = subst (λ u. IsWithin 1000000 (weight_of s u)) (profile_at-rank_of (sizes_of s) t p)
      (weight_of-within s (rank_of (sizes_of s) t) h total (rank_of-below (sizes_of s) t p));
}

positive_of : (z : ℤ) → pos 0 ≤ℤ z → not (unsigned_abs z == 0) ≡ true → pos 0 <ℤ z
positive_of (pos zero) l h = absurd (cc h)
positive_of (pos (suc n)) l h = omega (arith, ints)
positive_of (negsuc n) l h = absurd (omega (arith, ints))

each_marginal : (s : GeneralSetting) → IsSmall s → has_all_weights s ≡ true → (i a : ℕ) → i < agent_count s → a < slice_index (sizes_of s) i → pos 0 <ℤ marginal_of s i a
unfolding has_all_weights
each_marginal s h all i a k l =
    positive_of (marginal_of s i a) (marginal-nonneg s i a h)
    (all_below-at (slice_index (sizes_of s) i) a (λ a. not (unsigned_abs (marginal_of s i a) == 0))
    (all_below-at (agent_count s) i (λ i. all_below (slice_index (sizes_of s) i) (λ a. not (unsigned_abs (marginal_of s i a) == 0))) all k) l)

whole_total : (s : GeneralSetting) → IsSmall s → has_small_total s ≡ true → IsWeight (total_of s)
unfolding has_small_total
whole_total s h total = record { nonneg = total-nonneg s h; within = within_total (total_of s) total }

rows_few : (s : GeneralSetting) → has_few_rows s ≡ true → (row_count s ≤ 4096) × (cell_count s ≤ 4000000)
unfolding has_few_rows
rows_few s h = (le_of_test _ _ (and_left _ _ h), le_of_test _ _ (and_right _ _ h))

-- what passes the tests is within the limits
pub shaped : (s : GeneralSetting) → has_good_sizes s ≡ true → has_good_shape s ≡ true → has_small_lists s ≡ true → has_small_values s ≡ true →
    has_all_weights s ≡ true → has_small_total s ≡ true → has_few_rows s ≡ true → IsShaped s
shaped s sizes shape lists values weights total rows =
    let few : IsSmall s = small s lists in
    record {
      listed = listed s sizes shape;
      small = few;
      value = each_value s values;
      weight = each_weight s few total;
      marginal = each_marginal s few weights;
      total = whole_total s few total;
      few_rows = (rows_few s rows).0;
      few_cells = (rows_few s rows).1;
    }
