-- How many conditions a setting has.
use Rattle.std.proofs.Common.{◌≡◌, ℕ, zero, suc, ◌+◌, ◌-◌, ◌*◌, ◌<◌, Bool, true, false, List, [], ◌∷◌, ◌++◌, length, get_or, refl, sym, ap, ◌∙◌, subst, arith, length-append, inl, inr}
use Rattle.std.specs.List.{sum_by}
use Rattle.std.proofs.lemmas.Bool.{cases_eq, eq-eqb, ne_eqb}
use Rattle.std.proofs.lemmas.List.{length-map}
use Rattle.std.proofs.lemmas.List.Sums.{sum_by-cons}
use Rattle.md_math.specs.Lists.{up_to}
use Rattle.md_math.proofs.Builders.{length-up_to}
use Rattle.md_space.specs.Profiles.{profile_count, profile_at}
use Rattle.md_space.proofs.Ranks.{profile_at-IsProfile, report-below}
use Rattle.md_setting.specs.declared.kinds.Truth.{Truth}
use Rattle.md_setting.specs.declared.kinds.Truth.TheVariants.{Dominant, Bayes}
use Rattle.md_setting.specs.declared.kinds.Rational.{Rational}
use Rattle.md_setting.specs.declared.kinds.Rational.TheVariants.{None as Free, ExPost, Interim}
use Rattle.md_setting.specs.Setting.{GeneralSetting}
use Rattle.md_setting.specs.Meaning.{agent_count, sizes_of}
use Rattle.md_setting.specs.Rows.{truth_rows as truth_count, rational_rows as rational_count, deficit_rows as deficit_count, row_count}
use Rattle.md_mech.specs.Rows.{Condition, dominant_row, bayes_row, dominant_rows_at, dominant_rows, bayes_rows_at, bayes_rows, ex_post_row, interim_row, deficit_row, profile_row, unless_true, by_report, by_profile, by_agent, truth_rows, rational_rows, deficit_rows, demand_rows, conditions_of}

-- ---- false reports

pub before-true : {X : Type 0} → (n a : ℕ) (f : ℕ → X) → n < a + 1 → length (by_report n a f) ≡ n
before-true zero a f h = refl
before-true (suc n) a f h =
    length-append (by_report n a f) (unless_true a f n)
    ∙ rw (ne_eqb n a (λ e. omega arith), before-true n a f (omega arith)) (omega arith)

-- one for each type but the true one
pub length-by_report : {X : Type 0} → (n a : ℕ) (f : ℕ → X) → a < n → length (by_report n a f) ≡ n - 1
length-by_report zero a f h = absurd (omega arith)
length-by_report (suc n) a f h = elim (cases_eq n a) [
  | inl e ↦
      length-append (by_report n a f) (unless_true a f n)
      ∙ rw (eq-eqb n a e, before-true n a f (omega arith)) (omega arith)
  | inr d ↦
      length-append (by_report n a f) (unless_true a f n)
      ∙ rw (ne_eqb n a d, length-by_report n a f (omega arith)) (omega arith)
]

-- ---- one list for each agent

up_to-front : {X : Type 0} → (n : ℕ) (f : ℕ → List X) → length (up_to (suc n) f) ≡ length (f 0) + length (up_to n (λ k. f (suc k)))
up_to-front zero f = omega arith
up_to-front (suc n) f =
    length-append (up_to (suc n) f) (f (suc n))
    ∙ omega (arith, up_to-front n f, length-append (up_to n (λ k. f (suc k))) (f (suc n)))

pub length-by_size : {X : Type 0} → (sizes : List ℕ) (g : ℕ → ℕ) (f : ℕ → List X) → ((i : ℕ) → i < length sizes → length (f i) ≡ g (get_or sizes i 0))
    → length (up_to (length sizes) f) ≡ sum_by g sizes
length-by_size [] g f each = refl
length-by_size (n ∷ sizes) g f each =
    up_to-front (length sizes) f
    ∙ omega (arith, sum_by-cons g n sizes, each 0 (omega arith), length-by_size sizes g (λ k. f (suc k)) (λ i h. each (suc i) (omega arith)))

pub agents-length : (s : GeneralSetting) → length (sizes_of s) ≡ agent_count s
agents-length s = length-map s.agents (λ agent. length agent.types)

by_agents : (s : GeneralSetting) (g : ℕ → ℕ) (f : ℕ → List Condition) → ((i : ℕ) → i < length (sizes_of s) → length (f i) ≡ g (get_or (sizes_of s) i 0))
    → length (by_agent s f) ≡ sum_by g (sizes_of s)
by_agents s g f each = subst (λ n. length (up_to n f) ≡ sum_by g (sizes_of s)) (agents-length s) (length-by_size (sizes_of s) g f each)

-- ---- the conditions

-- of one agent: at a profile, or for a type, and all
pub dominant-each : (s : GeneralSetting) (i r : ℕ) → i < length (sizes_of s) → r < profile_count (sizes_of s) → length (dominant_rows_at s i (profile_at (sizes_of s) r)) ≡ get_or (sizes_of s) i 0 - 1
dominant-each s i r h l =
    length-by_report (get_or (sizes_of s) i 0) (get_or (profile_at (sizes_of s) r) i 0) (dominant_row i (profile_at (sizes_of s) r)) (report-below (sizes_of s) (profile_at (sizes_of s) r) i (profile_at-IsProfile (sizes_of s) r l) h)

pub dominant-length : (s : GeneralSetting) (i : ℕ) → i < length (sizes_of s) → length (dominant_rows s i) ≡ profile_count (sizes_of s) * (get_or (sizes_of s) i 0 - 1)
dominant-length s i h =
    length-up_to (profile_count (sizes_of s)) (get_or (sizes_of s) i 0 - 1) (λ r. dominant_rows_at s i (profile_at (sizes_of s) r)) (λ r l. dominant-each s i r h l)

pub bayes-each : (s : GeneralSetting) (i a : ℕ) → a < get_or (sizes_of s) i 0 → length (bayes_rows_at s i a) ≡ get_or (sizes_of s) i 0 - 1
bayes-each s i a l = length-by_report (get_or (sizes_of s) i 0) a (bayes_row i a) l

pub bayes-length : (s : GeneralSetting) (i : ℕ) → length (bayes_rows s i) ≡ get_or (sizes_of s) i 0 * (get_or (sizes_of s) i 0 - 1)
bayes-length s i = length-up_to (get_or (sizes_of s) i 0) (get_or (sizes_of s) i 0 - 1) (bayes_rows_at s i) (λ a l. bayes-each s i a l)

pub truth-length : (kind : Truth) (s : GeneralSetting) → length (truth_rows kind s) ≡ truth_count kind (sizes_of s)
truth-length Dominant s = by_agents s (λ n. profile_count (sizes_of s) * (n - 1)) _ (λ i h. dominant-length s i h)
truth-length Bayes s = by_agents s (λ n. n * (n - 1)) _ (λ i h. bayes-length s i)

pub singles : {X : Type 0} → (n : ℕ) (f : ℕ → X) → length (up_to n (λ k. f k ∷ [])) ≡ n
singles zero f = refl
singles (suc n) f = length-append (up_to n (λ k. f k ∷ [])) (f n ∷ []) ∙ rw (singles n f) (omega arith)

pub rational-length : (kind : Rational) (s : GeneralSetting) → length (rational_rows kind s) ≡ rational_count kind (sizes_of s)
rational-length Free s = refl
rational-length ExPost s =
    length-up_to (agent_count s) (profile_count (sizes_of s)) (λ i. by_profile s (λ t. ex_post_row i t ∷ [])) (λ i h. singles (profile_count (sizes_of s)) (λ r. ex_post_row i (profile_at (sizes_of s) r)))
    ∙ ap (λ n. n * profile_count (sizes_of s)) (sym (agents-length s))
rational-length Interim s =
    by_agents s (λ n. n) _ (λ i h. singles (get_or (sizes_of s) i 0) (interim_row i))

pub deficit-length : (on : Bool) (s : GeneralSetting) → length (deficit_rows on s) ≡ deficit_count on (sizes_of s)
deficit-length true s = singles (profile_count (sizes_of s)) (λ r. deficit_row (profile_at (sizes_of s) r))
deficit-length false s = refl

pub conditions-length : (s : GeneralSetting) → length (conditions_of s) ≡ row_count s
conditions-length s =
    length-append (demand_rows s) (by_profile s (λ t. profile_row t ∷ []))
    ∙ omega (
      arith,
      length-append (truth_rows s.truth s ++ rational_rows s.rational s) (deficit_rows s.no_deficit s),
      length-append (truth_rows s.truth s) (rational_rows s.rational s),
      truth-length s.truth s,
      rational-length s.rational s,
      deficit-length s.no_deficit s,
      singles (profile_count (sizes_of s)) (λ r. profile_row (profile_at (sizes_of s) r)),
    )
