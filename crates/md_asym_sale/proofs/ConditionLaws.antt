-- Where a condition stands among all conditions, and how many there are.
use Rattle.std.proofs.Common.{◌≡◌, ◌≢◌, ℕ, zero, suc, ◌+◌, ◌-◌, ◌<◌, ◌≤◌, ◌^◌, Bool, true, false, List, [], ◌∷◌, ◌++◌, length, map, Option, Some, None, refl, sym, ap, ap₂, subst, ◌∙◌, arith, length-append, append-nil, inl, inr}
use Rattle.std.specs.Prelude.{slice_get, slice_index, option_map, ◌==◌}
use Rattle.std.proofs.lemmas.List.{length-map, map-append, get_or-map}
use Rattle.std.proofs.lemmas.Option.{slice_get-map, slice_get-get_or, none-some}
use Rattle.md_math.specs.Lists.{up_to}
use Rattle.md_math.proofs.BoundedTests.{true_or_false}
use Rattle.md_space.specs.Profiles.{profile_count, profile_at}
use Rattle.md_setting.specs.declared.kinds.Truth.TheVariants.{Bayes as BayesTruth}
use Rattle.md_setting.specs.declared.kinds.Rational.TheVariants.{Interim as InterimRational}
use Rattle.md_setting.specs.Setting.{GeneralSetting}
use Rattle.md_setting.specs.Meaning.{agent_count, sizes_of}
use Rattle.md_setting.specs.Rows.{row_count}
use Rattle.md_setting.specs.Shaped.{IsShaped}
use Rattle.md_mech.specs.Rows.{Condition, dominant_row, bayes_row, ex_post_row, interim_row, deficit_row, profile_row, unless_true, by_report, by_profile, truth_rows, rational_rows, deficit_rows, demand_rows, bayes_rows, bayes_rows_at, interim_rows}
use Rattle.md_mech.specs.Rows as mech
use Rattle.md_mech.specs.Conditions as mechs
use Rattle.md_mech.specs.declared.condition.Condition.{Condition as Code}
use Rattle.md_mech.specs.declared.condition.Condition.TheVariants.{Dominant, Bayes, ExPost, Interim, Deficit, Profile}
use Rattle.md_mech.proofs.CountLaws as count
use Rattle.md_lp.specs.Cuts.{AreCuts}
use Rattle.md_asym_sale.specs.declared.condition.SaleCondition.{SaleCondition}
use Rattle.md_asym_sale.specs.declared.condition.SaleCondition.TheVariants.{Truth, Rational, Cut}
use Rattle.md_asym_sale.specs.Conditions.{truths_at, truths_of, truths, rationals_of, rationals, own_conditions, conditions_of, agent_condition, IsInside, IsOwnAt, IsAt}
use Rattle.md_asym_sale.specs.Sale.{IsSale}
use Rattle.md_asym_sale.specs.Values.{pairs_of}
use Rattle.md_lp.proofs.CutLaws.{cuts-at_most}

-- ---- the conditions of the agents are the first ones of the setting

-- which condition of the setting a condition of an agent is
abbrev pub row_of : SaleCondition → Option Condition
row_of (Truth i a b) = Some (bayes_row i a b)
row_of (Rational i a) = Some (interim_row i a)
row_of (Cut set) = None

same-maps : {X Y Z : Type 0} (f : X → Z) (g : Y → Z) (n : ℕ) (p : ℕ → List X) (q : ℕ → List Y) → ((k : ℕ) → map f (p k) ≡ map g (q k)) → map f (up_to n p) ≡ map g (up_to n q)
same-maps f g zero p q h = refl
same-maps f g (suc n) p q h = map-append f (up_to n p) (p n) ∙ ap₂ (λ xs ys. xs ++ ys) (same-maps f g n p q h) (h n) ∙ sym (map-append g (up_to n q) (q n))

same-unless : {X Y Z : Type 0} (f : X → Z) (g : Y → Z) (a b : ℕ) (p : ℕ → X) (q : ℕ → Y) → f (p b) ≡ g (q b) → map f (unless_true a p b) ≡ map g (unless_true a q b)
same-unless f g a b p q e = elim (true_or_false (b == a)) [ inl here ↦ rw here refl | inr away ↦ rw away (ap (λ z. z ∷ []) e) ]

truths-rows : (s : GeneralSetting) → map row_of (truths s) ≡ map Some (truth_rows BayesTruth s)
truths-rows s =
    same-maps row_of Some (agent_count s) (truths_of s) (bayes_rows s)
    (λ i. same-maps row_of Some (slice_index (sizes_of s) i) (truths_at s i) (bayes_rows_at s i)
    (λ a. same-maps row_of Some (slice_index (sizes_of s) i) (unless_true a (Truth i a)) (unless_true a (bayes_row i a))
    (λ b. same-unless row_of Some a b (Truth i a) (bayes_row i a) refl)))

rationals-rows : (s : GeneralSetting) → map row_of (rationals s) ≡ map Some (rational_rows InterimRational s)
rationals-rows s =
    same-maps row_of Some (agent_count s) (rationals_of s) (interim_rows s)
    (λ i. same-maps row_of Some (slice_index (sizes_of s) i) (λ a. Rational i a ∷ []) (λ a. interim_row i a ∷ []) (λ a. refl))

demands-are : (s : GeneralSetting) → IsSale s → demand_rows s ≡ truth_rows BayesTruth s ++ rational_rows InterimRational s
demands-are s sale =
    ap (λ k. (truth_rows k s ++ rational_rows s.rational s) ++ deficit_rows s.no_deficit s) sale.interim.truth
    ∙ ap (λ k. (truth_rows BayesTruth s ++ rational_rows k s) ++ deficit_rows s.no_deficit s) sale.interim.rational
    ∙ ap (λ k. (truth_rows BayesTruth s ++ rational_rows InterimRational s) ++ deficit_rows k s) sale.paid.no_deficit
    ∙ append-nil (truth_rows BayesTruth s ++ rational_rows InterimRational s)

own-rows : (s : GeneralSetting) → IsSale s → map row_of (own_conditions s) ≡ map Some (demand_rows s)
own-rows s sale =
    map-append row_of (truths s) (rationals s)
    ∙ ap₂ (λ xs ys. xs ++ ys) (truths-rows s) (rationals-rows s)
    ∙ sym (map-append Some (truth_rows BayesTruth s) (rational_rows InterimRational s))
    ∙ ap (map Some) (sym (demands-are s sale))

own-length : (s : GeneralSetting) → IsSale s → length (own_conditions s) ≡ length (demand_rows s)
own-length s sale = sym (length-map (own_conditions s) row_of) ∙ ap length (own-rows s sale) ∙ length-map (demand_rows s) Some

-- how many conditions the agents have
pub own-count : (s : GeneralSetting) → IsSale s → length (own_conditions s) + profile_count (sizes_of s) ≡ row_count s
own-count s sale =
    omega (
      arith,
      own-length s sale,
      count.conditions-length s,
      length-append (demand_rows s) (by_profile s (λ t. profile_row t ∷ [])),
      count.singles (profile_count (sizes_of s)) (λ r. profile_row (profile_at (sizes_of s) r)),
    )

pub conditions-length : (s : GeneralSetting) (cuts : List ℕ) → length (conditions_of s cuts) ≡ length (own_conditions s) + length cuts
conditions-length s cuts = length-append (own_conditions s) (map Cut cuts) ∙ ap (λ n. length (own_conditions s) + n) (length-map cuts Cut)

pub own-few : (s : GeneralSetting) → IsSale s → IsShaped s → length (own_conditions s) ≤ 4096
own-few s sale shaped = omega (arith, own-count s sale, shaped.few_rows)

pub conditions-few : (s : GeneralSetting) (cuts : List ℕ) → IsSale s → IsShaped s → AreCuts (pairs_of s) cuts → length (conditions_of s cuts) ≤ 8192
conditions-few s cuts sale shaped are = omega (arith, conditions-length s cuts, own-few s sale shaped, cuts-at_most (pairs_of s) cuts are sale.few_types)

-- ---- where they stand

left-get : {X : Type 0} (xs ys : List X) (k : ℕ) (x : X) → k < length xs → slice_get (xs ++ ys) k ≡ Some x → slice_get xs k ≡ Some x
left-get [] ys k x l h = absurd (omega (arith, l))
left-get (a ∷ xs) ys zero x l h = h
left-get (a ∷ xs) ys (suc k) x l h = left-get xs ys k x (omega (arith, l)) h

get-left : {X : Type 0} (xs ys : List X) (k : ℕ) (x : X) → slice_get xs k ≡ Some x → slice_get (xs ++ ys) k ≡ Some x
get-left [] ys k x h = absurd (none-some x h)
get-left (a ∷ xs) ys zero x h = h
get-left (a ∷ xs) ys (suc k) x h = get-left xs ys k x h

get-right : {X : Type 0} (xs ys : List X) (k : ℕ) → slice_get (xs ++ ys) (length xs + k) ≡ slice_get ys k
get-right [] ys k = (let none : 0 + k ≡ k = omega arith in ap (slice_get ys) none)
get-right (a ∷ xs) ys k = (let next : suc (length xs) + k ≡ suc (length xs + k) = omega arith in ap (slice_get (a ∷ (xs ++ ys))) next ∙ get-right xs ys k)

get-mapped : {X Y : Type 0} (f : X → Y) (xs : List X) (k : ℕ) (y : Y) → slice_get (map f xs) k ≡ Some y → (x : X) × (slice_get xs k ≡ Some x) × (f x ≡ y)
get-mapped f [] k y h = absurd (none-some y h)
get-mapped f (x ∷ xs) zero y h = (x, refl, (let same : f x ≡ y = cc in same))
get-mapped f (x ∷ xs) (suc k) y h = get-mapped f xs k y h

-- the condition of an agent that a condition of the setting is
pub record IsOwn (s : GeneralSetting) (row : ℕ) (c : Condition) : Type 0 where
  pub condition : SaleCondition
  pub is : slice_get (own_conditions s) row ≡ Some condition
  pub same : row_of condition ≡ Some c

pub own-at : (s : GeneralSetting) (row : ℕ) (c : Condition) → IsSale s → row < length (own_conditions s) → slice_get (mech.conditions_of s) row ≡ Some c → IsOwn s row c
own-at s row c sale below e =
    let first = left-get (demand_rows s) (by_profile s (λ t. profile_row t ∷ [])) row c (omega (arith, below, own-length s sale)) e in
    let found : slice_get (map row_of (own_conditions s)) row ≡ Some (Some c) =
    ap (λ xs. slice_get xs row) (own-rows s sale) ∙ slice_get-map Some (demand_rows s) row ∙ ap (λ o. option_map Some o) first in
    let (condition, is, same) = get-mapped row_of (own_conditions s) row (Some c) found in
    record { condition = condition; is = is; same = same }

truth-row : (c : SaleCondition) (i a b : ℕ) → row_of c ≡ Some (bayes_row i a b) → c ≡ Truth i a b
truth-row (Truth j d e) i a b h = cc
truth-row (Rational j d) i a b h = cc
truth-row (Cut set) i a b h = cc

rational-row : (c : SaleCondition) (i a : ℕ) → row_of c ≡ Some (interim_row i a) → c ≡ Rational i a
rational-row (Truth j d e) i a h = cc
rational-row (Rational j d) i a h = cc
rational-row (Cut set) i a h = cc

found-at : (s : GeneralSetting) (row : ℕ) (c : Condition) (x : SaleCondition) → IsOwn s row c → ((d : SaleCondition) → row_of d ≡ Some c → d ≡ x) → IsInside s x → IsOwnAt s row x
found-at s row c x own only inside = record { is = own.is ∙ ap Some (only own.condition own.same); inside = inside }

-- no condition of an agent is one of another kind
never-else : (s : GeneralSetting) (row : ℕ) (c : Condition) → IsOwn s row c → ((i a b : ℕ) → c ≢ bayes_row i a b) → ((i a : ℕ) → c ≢ interim_row i a) → ⊥
never-else s row c own no_truth no_rational = at own.condition own.same
  where
    at : (d : SaleCondition) → row_of d ≡ Some c → ⊥
    at (Truth i a b) h = no_truth i a b (let same : c ≡ bayes_row i a b = cc in same)
    at (Rational i a) h = no_rational i a (let same : c ≡ interim_row i a = cc in same)
    at (Cut set) h = none-some c h

pub own-none : (s : GeneralSetting) (row : ℕ) (code : Code) → IsSale s → row < length (own_conditions s) → mechs.IsAt s (mech.conditions_of s) row code → agent_condition code ≡ None → ⊥
own-none s row (Dominant i r b) sale below at none =
    never-else s row (dominant_row i (profile_at (sizes_of s) r) b) (own-at s row (dominant_row i (profile_at (sizes_of s) r) b) sale below at.row) (λ j a d e. cc) (λ j a e. cc)
own-none s row (Bayes i a b) sale below at none = cc
own-none s row (ExPost i r) sale below at none =
    never-else s row (ex_post_row i (profile_at (sizes_of s) r)) (own-at s row (ex_post_row i (profile_at (sizes_of s) r)) sale below at.row) (λ j a d e. cc) (λ j a e. cc)
own-none s row (Interim i a) sale below at none = cc
own-none s row (Deficit r) sale below at none =
    never-else s row (deficit_row (profile_at (sizes_of s) r)) (own-at s row (deficit_row (profile_at (sizes_of s) r)) sale below at.row) (λ j a d e. cc) (λ j a e. cc)
own-none s row (Profile r) sale below at none =
    never-else s row (profile_row (profile_at (sizes_of s) r)) (own-at s row (profile_row (profile_at (sizes_of s) r)) sale below at.row) (λ j a d e. cc) (λ j a e. cc)

pub own-some : (s : GeneralSetting) (row : ℕ) (code : Code) (x : SaleCondition) → IsSale s → row < length (own_conditions s) → mechs.IsAt s (mech.conditions_of s) row code → agent_condition code ≡ Some x → IsOwnAt s row x
own-some s row (Dominant i r b) x sale below at e = absurd (none-some x e)
own-some s row (Bayes i a b) x sale below at e =
    let same : Truth i a b ≡ x = cc in
    subst (IsOwnAt s row) same (found-at s row (bayes_row i a b) (Truth i a b) (own-at s row (bayes_row i a b) sale below at.row) (λ d h. truth-row d i a b h) at.inside)
own-some s row (ExPost i r) x sale below at e = absurd (none-some x e)
own-some s row (Interim i a) x sale below at e =
    let same : Rational i a ≡ x = cc in
    subst (IsOwnAt s row) same (found-at s row (interim_row i a) (Rational i a) (own-at s row (interim_row i a) sale below at.row) (λ d h. rational-row d i a h) at.inside)
own-some s row (Deficit r) x sale below at e = absurd (none-some x e)
own-some s row (Profile r) x sale below at e = absurd (none-some x e)

pub own-among : (s : GeneralSetting) (cuts : List ℕ) (row : ℕ) (x : SaleCondition) → IsOwnAt s row x → IsAt s cuts row x
own-among s cuts row x at = record { is = get-left (own_conditions s) (map Cut cuts) row x at.is; inside = at.inside }

-- the conditions of the agents are among those of the setting
pub own-below : (s : GeneralSetting) (row : ℕ) → IsSale s → row < length (own_conditions s) → row < length (mech.conditions_of s)
own-below s row sale below = omega (arith, below, own-count s sale, count.conditions-length s)

pub cut-at : (s : GeneralSetting) (cuts : List ℕ) (row place set : ℕ) → place < length cuts → row ≡ length (own_conditions s) + place → set ≡ slice_index cuts place → AreCuts (pairs_of s) cuts → IsAt s cuts row (Cut set)
cut-at s cuts row place set h e same are = record {
  is = ap (slice_get (conditions_of s cuts)) e
      ∙ get-right (own_conditions s) (map Cut cuts) place
      ∙ slice_get-get_or (map Cut cuts) place (Cut set) (omega (arith, h, length-map cuts Cut))
      ∙ ap Some (get_or-map Cut cuts place 0 (Cut set) h ∙ ap Cut (sym same));
  inside = subst (λ n. n < 2 ^ pairs_of s) (sym same) (are.inside place h);
}
