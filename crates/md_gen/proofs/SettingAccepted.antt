-- A generated general setting is never refused.
use Rattle.std.proofs.Common.{◌≡◌, ℕ, ◌<◌, ℤ, pos, ◌+ℤ◌, ◌*ℤ◌, Bool, true, not, List, [], ◌∷◌, None, Some, refl, ap, ap₂, ◌∙◌, arith, if◌then◌else◌}
use Rattle.std.specs.List.{list_all}
use Rattle.std.proofs.lemmas.Int.{ints}
use Rattle.md_math.specs.Lists.{list_to, number_at}
use Rattle.md_math.proofs.Builders.{get_or-list_to}
use Rattle.md_math.proofs.Ring.{zero-*ℤ}
use Rattle.md_setting.specs.declared.refusal.BuildRefusal.TheVariants.{BadName, DoubleName, Sizes, Shape, OutOfRange, ZeroWeight, WeightTotal, TooManyRows}
use Rattle.md_space.specs.AllProfiles.{profiles_of}
use Rattle.md_setting.specs.Meaning.{sizes_of, value_of, welfare_of}
use Rattle.md_setting.specs.Refusals.{all_below, is_small, has_good_names, has_own_names, has_good_sizes, has_agent_shape, has_good_shape, has_small_rows, has_small_numbers, has_small_values, has_small_lists, has_all_weights, has_small_total, has_few_rows, refusal_of}
use Rattle.md_setting.proofs.TestLaws.{all_below-all, and_both}
use Rattle.md_gen.specs.GeneratedSetting.{utility_at, worth_at, utilities_of, worths_of, generated_agent, generated_setting}
use Rattle.md_gen.proofs.TestsPass.{le-passes, list-passes}
use Rattle.md_gen.proofs.DrawLaws.{utility-small, worth-small}

good_names : (number : ℕ) → has_good_names (generated_setting number) ≡ true
unfolding has_good_names generated_setting
good_names number = refl

own_names : (number : ℕ) → has_own_names (generated_setting number) ≡ true
unfolding has_own_names generated_setting
own_names number = refl

good_sizes : (number : ℕ) → has_good_sizes (generated_setting number) ≡ true
unfolding has_good_sizes generated_setting
good_sizes number = refl

good_shape : (number : ℕ) → has_good_shape (generated_setting number) ≡ true
unfolding has_good_shape has_agent_shape generated_setting utilities_of worths_of
good_shape number = refl

all_weights : (number : ℕ) → has_all_weights (generated_setting number) ≡ true
unfolding has_all_weights generated_setting
all_weights number = refl

small_total : (number : ℕ) → has_small_total (generated_setting number) ≡ true
unfolding has_small_total generated_setting
small_total number = refl

few_rows : (number : ℕ) → has_few_rows (generated_setting number) ≡ true
unfolding has_few_rows generated_setting
few_rows number = refl

-- ---- ranges

each-passes : {X : Type 0} → (p : X → Bool) (xs : List X) → ((x : X) → p x ≡ true) → list_all p xs ≡ true
each-passes p [] h = refl
each-passes p (x ∷ xs) h = and_both (p x) (list_all p xs) (h x) (each-passes p xs h)

rows-pass : (number i : ℕ) → has_small_rows (list_to 4 (λ a. list_to 3 (λ o. pos (utility_at number i a o)))) ≡ true
rows-pass number i =
    list-passes (list_all (is_small 1000000)) 4 (λ a. list_to 3 (λ o. pos (utility_at number i a o)))
    (λ a b. list-passes (is_small 1000000) 3 (λ o. pos (utility_at number i a o)) (λ o l. le-passes (utility_at number i a o) 1000000 (omega (arith, utility-small number i a o))))

small_numbers : (number : ℕ) (name : List ℕ) (i : ℕ) → has_small_numbers (generated_agent number name i) ≡ true
unfolding has_small_numbers utilities_of
small_numbers number name i = and_both _ _ (and_both _ _ (and_both _ _ refl refl) (rows-pass number i)) refl

small_lists : (number : ℕ) → has_small_lists (generated_setting number) ≡ true
unfolding has_small_lists generated_setting worths_of
small_lists number =
    and_both _ _ (and_both _ _ (and_both _ _ (and_both _ _
    (and_both _ _ (small_numbers number _ 0) (and_both _ _ (small_numbers number _ 1) refl))
    refl)
    (list-passes (is_small 1000000) 3 (λ o. pos (worth_at number o)) (λ o b. le-passes (worth_at number o) 1000000 (omega (arith, worth-small number o)))))
    refl) refl

worth-alone : (x y z : ℤ) → x ≡ z → (x +ℤ pos 0 *ℤ y) ≡ z
worth-alone x y z e = ap₂ (λ a b. a +ℤ b) e (zero-*ℤ y) ∙ nothing z
  where
    nothing : (a : ℤ) → a +ℤ pos 0 ≡ a
    nothing a = omega (arith, ints)

value-passes : (number : ℕ) (t : List ℕ) (o : ℕ) → o < 3 → is_small 10000000 (value_of (generated_setting number) t o) ≡ true
unfolding generated_setting worths_of
value-passes number t o b =
    ap (is_small 10000000) (worth-alone (number_at (list_to 3 (λ k. pos (worth_at number k))) o) (welfare_of (generated_setting number) t o) (pos (worth_at number o)) (get_or-list_to 3 (λ k. pos (worth_at number k)) o (pos 0) b))
    ∙ le-passes (worth_at number o) 10000000 (omega (arith, worth-small number o))

small_values : (number : ℕ) → has_small_values (generated_setting number) ≡ true
unfolding has_small_values generated_setting
small_values number =
    each-passes (λ t. all_below 3 (λ o. is_small 10000000 (value_of (generated_setting number) t o))) (profiles_of (sizes_of (generated_setting number)))
    (λ t. all_below-all 3 (λ o. is_small 10000000 (value_of (generated_setting number) t o)) (λ o b. value-passes number t o b))

tests-pass : (a b c d e f g h : Bool) → a ≡ true → b ≡ true → c ≡ true → d ≡ true → e ≡ true → f ≡ true → g ≡ true → h ≡ true →
    (if not a then Some BadName else (if not b then Some DoubleName else (if not c then Some Sizes else (if not d then Some Shape else (if not e then Some OutOfRange
    else (if not f then Some ZeroWeight else (if not g then Some WeightTotal else (if not h then Some TooManyRows else None)))))))) ≡ None
tests-pass a b c d e f g h i j k l m n o p = rw (i, j, k, l, m, n, o, p) refl

pub setting-accepted : (number : ℕ) → refusal_of (generated_setting number) ≡ None
setting-accepted number =
    tests-pass _ _ _ _ _ _ _ _ (good_names number) (own_names number) (good_sizes number) (good_shape number)
    (and_both _ _ (small_lists number) (small_values number)) (all_weights number) (small_total number) (few_rows number)
