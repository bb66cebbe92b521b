-- Where the conditions of an agent stand among all conditions.
use Rattle.std.proofs.Common.{◌≡◌, ℕ, zero, suc, ◌+◌, ◌-◌, ◌<◌, ◌≤◌, List, [], ◌∷◌, ◌++◌, length, Option, None, Some, inl, inr, refl, sym, ap, ◌∙◌, subst, arith, append_assoc, length-append, zero-add}
use Rattle.std.specs.Prelude.{slice_get, slice_index_or, MatchOption}
use Rattle.std.proofs.lemmas.Bool.{cases_lt}
use Rattle.std.proofs.lemmas.List.{get_or_append_left, get_or_push}
use Rattle.std.proofs.lemmas.Option.{slice_get_within}
use Rattle.std.proofs.Math.Nat.{suc-add}
use Rattle.md_math.specs.Lists.{up_to}
use Rattle.md_math.proofs.Builders.{up_to-split, up_to-more}
use Rattle.md_setting.specs.declared.kinds.Truth.{Truth}
use Rattle.md_setting.specs.declared.kinds.Truth.TheVariants.{Dominant, Bayes}
use Rattle.md_setting.specs.declared.kinds.Rational.{Rational}
use Rattle.md_setting.specs.declared.kinds.Rational.TheVariants.{None as Free, ExPost, Interim}
use Rattle.md_setting.specs.Setting.{GeneralSetting}
use Rattle.md_space.specs.Profiles.{profile_count, profile_at}
use Rattle.md_setting.specs.Meaning.{agent_count, sizes_of}
use Rattle.md_setting.specs.Rows.{row_count}
use Rattle.md_setting.specs.Shaped.{IsShaped}
use Rattle.md_mech.proofs.CountLaws.{conditions-length, singles}
use Rattle.md_mech.specs.declared.mechanism.Mechanism.{Mechanism}
use Rattle.md_mech.specs.Rows.{Condition, truth_rows, rational_rows, deficit_rows, demand_rows, by_profile, conditions_of, profile_row}
use Rattle.md_report.specs.declared.demand.Demand.{Demand}
use Rattle.md_report.specs.declared.demand.Demand.TheVariants.{Truthful, Willing}
use Rattle.md_report.specs.declared.worst.Worst.{Worst}
use Rattle.md_report.specs.Blocks.{truth_of, rational_of, rows_of, all_rows, start_of}
use Rattle.md_report.specs.Worst.{IsWorst, IsWorstOf, IsWorstIn}

-- ---- a list inside another one

pub get-front : {X : Type 0} (xs ys : List X) (k : ℕ) → k < length xs → slice_get (xs ++ ys) k ≡ slice_get xs k
get-front [] ys k h = absurd (omega arith)
get-front (a ∷ xs) ys zero h = refl
get-front (a ∷ xs) ys (suc k) h = get-front xs ys k (omega arith)

get-behind : {X : Type 0} (xs ys : List X) (k : ℕ) → slice_get (xs ++ ys) (length xs + k) ≡ slice_get ys k
get-behind [] ys k = ap (slice_get ys) (zero-add k)
get-behind (a ∷ xs) ys k = ap (slice_get (a ∷ (xs ++ ys))) (suc-add (length xs) k) ∙ get-behind xs ys k

-- the rows have the block from the place start on
pub record StandsAt {X : Type 0} (start : ℕ) (block rows : List X) : Type 0 where
  pub front : List X
  pub rest : List X
  pub parts : rows ≡ (front ++ block) ++ rest
  pub number : start ≡ length front

pub get-inside : {X : Type 0} (start k : ℕ) (block rows : List X) → StandsAt start block rows → k < length block → slice_get rows (start + k) ≡ slice_get block k
get-inside start k block rows at h =
    ap (λ xs. slice_get xs (start + k)) at.parts
    ∙ ap (λ j. slice_get ((at.front ++ block) ++ at.rest) (j + k)) at.number
    ∙ get-front (at.front ++ block) at.rest (length at.front + k) (omega (arith, length-append at.front block, h))
    ∙ get-behind at.front block k

-- ---- the conditions of all agents

pub all-truth : (kind : Truth) (s : GeneralSetting) → up_to (agent_count s) (truth_of kind s) ≡ truth_rows kind s
all-truth Dominant s = refl
all-truth Bayes s = refl

no-rows : (s : GeneralSetting) (n : ℕ) → up_to n (rational_of Free s) ≡ []
no-rows s zero = refl
no-rows s (suc n) = ap (λ xs. xs ++ []) (no-rows s n)

pub all-rational : (kind : Rational) (s : GeneralSetting) → up_to (agent_count s) (rational_of kind s) ≡ rational_rows kind s
all-rational Free s = no-rows s (agent_count s)
all-rational ExPost s = refl
all-rational Interim s = refl

-- those of one agent stand behind those of the agents before it
pub stands : (s : GeneralSetting) (demand : Demand) (i : ℕ) → i < agent_count s
    → StandsAt (start_of s demand + length (up_to i (rows_of s demand))) (rows_of s demand i) (conditions_of s)
stands s Truthful i h =
    let (rest, e) = up_to-split (agent_count s) i (truth_of s.truth s) h in
    let front = up_to i (truth_of s.truth s) in
    let block = truth_of s.truth s i in
    let others = rational_rows s.rational s in
    let deficits = deficit_rows s.no_deficit s in
    let profiles = by_profile s (λ t. profile_row t ∷ []) in
    record {
      front = front;
      rest = ((rest ++ others) ++ deficits) ++ profiles;
      parts = ap (λ xs. ((xs ++ others) ++ deficits) ++ profiles) (sym (all-truth s.truth s) ∙ e) ∙ left4 (front ++ block) rest others deficits profiles;
      number = zero-add (length front);
    }
  where
    left4 : {X : Type 0} (a b c d e : List X) → (((a ++ b) ++ c) ++ d) ++ e ≡ a ++ (((b ++ c) ++ d) ++ e)
    left4 a b c d e = simp append_assoc refl
stands s Willing i h =
    let (rest, e) = up_to-split (agent_count s) i (rational_of s.rational s) h in
    let first = truth_rows s.truth s in
    let front = up_to i (rational_of s.rational s) in
    let block = rational_of s.rational s i in
    let deficits = deficit_rows s.no_deficit s in
    let profiles = by_profile s (λ t. profile_row t ∷ []) in
    record {
      front = first ++ front;
      rest = (rest ++ deficits) ++ profiles;
      parts = ap (λ xs. ((first ++ xs) ++ deficits) ++ profiles) (sym (all-rational s.rational s) ∙ e) ∙ behind first front block rest deficits profiles;
      number = rw (ap length (all-truth s.truth s)) (sym (length-append first front));
    }
  where
    behind : {X : Type 0} (a b c d e f : List X) → ((a ++ ((b ++ c) ++ d)) ++ e) ++ f ≡ ((a ++ b) ++ c) ++ ((d ++ e) ++ f)
    behind a b c d e f = simp append_assoc refl

-- ---- the worst of them

pub block-worst : (s : GeneralSetting) (m : Mechanism) (block : List Condition) (start end : ℕ) (worst : Worst)
    → StandsAt start block (conditions_of s) → end ≡ start + length block → IsWorstIn s m start end worst → IsWorst s m block worst
block-worst s m block start end worst at size h =
    let low : start ≤ h.row = h.from in
    let high : h.row < end = h.below in
    let place : start + (h.row - start) ≡ h.row = omega (arith, low) in
    let inside : h.row - start < length block = omega (arith, low, high, size) in
    record {
      place = h.row - start;
      here = sym (get-inside start (h.row - start) block (conditions_of s) at inside) ∙ ap (slice_get (conditions_of s)) place ∙ h.missed.here;
      inside = h.missed.inside;
      shortfall = h.missed.shortfall;
      most = λ k c e. (let l : k < length block = slice_get_within block k c e in h.most (start + k) c (omega arith) (omega (arith, l, size)) (get-inside start k block (conditions_of s) at l ∙ e));
      first = λ k c b e. (let l : k < length block = slice_get_within block k c e in h.first (start + k) c (omega arith) (omega (arith, b, low)) (get-inside start k block (conditions_of s) at l ∙ e));
    }

-- a block with no condition
pub block-none : {X : Type 0} (block : List X) (start end : ℕ) → end ≡ start + length block → end ≤ start → block ≡ []
block-none [] start end size l = refl
block-none (c ∷ block) start end size l = absurd (omega (arith, size, l))

-- a block stands inside
pub stands-inside : {X : Type 0} (start : ℕ) (block rows : List X) → StandsAt start block rows → start + length block ≤ length rows
stands-inside start block rows at = omega (arith, ap length at.parts, at.number, length-append (at.front ++ block) at.rest, length-append at.front block)

-- what is told of a block
pub block-told : (s : GeneralSetting) (m : Mechanism) (block : List Condition) (start end : ℕ) (told : Option Worst)
    → StandsAt start block (conditions_of s) → end ≡ start + length block → MatchOption told (end ≤ start) (IsWorstIn s m start end) → IsWorstOf s m block told
block-told s m block start end None at size none = block-none block start end size none
block-told s m block start end (Some worst) at size is = block-worst s m block start end worst at size is

-- ---- one agent more

pub one-more : (s : GeneralSetting) (m : Mechanism) (demand : Demand) (n : ℕ) (told : List (Option Worst)) (next : Option Worst) → length told ≡ n
    → ((i : ℕ) → i < n → IsWorstOf s m (rows_of s demand i) (slice_index_or told i None)) → IsWorstOf s m (rows_of s demand n) next
    → (i : ℕ) → i < n + 1 → IsWorstOf s m (rows_of s demand i) (slice_index_or (told ++ next ∷ []) i None)
one-more s m demand n told next long each is i h = elim (cases_lt i n) [
  | inl before ↦ subst (IsWorstOf s m (rows_of s demand i)) (sym (get_or_append_left told (next ∷ []) None i (omega (arith, before, long)))) (each i before)
  | inr last ↦
      let here : n ≡ i = omega (arith, last, h) in
      subst (λ j. IsWorstOf s m (rows_of s demand j) (slice_index_or (told ++ next ∷ []) j None)) here
      (subst (IsWorstOf s m (rows_of s demand n)) (sym (get_or_push told next None n long)) is)
]

parts-length : (s : GeneralSetting)
    → length (conditions_of s) ≡ ((length (truth_rows s.truth s) + length (rational_rows s.rational s)) + length (deficit_rows s.no_deficit s)) + length (by_profile s (λ t. profile_row t ∷ []))
parts-length s =
    omega (
      arith,
      length-append (demand_rows s) (by_profile s (λ t. profile_row t ∷ [])),
      length-append (truth_rows s.truth s ++ rational_rows s.rational s) (deficit_rows s.no_deficit s),
      length-append (truth_rows s.truth s) (rational_rows s.rational s),
    )

-- how many conditions there are of one kind
pub all-length : (s : GeneralSetting) (demand : Demand) → length (all_rows s demand) ≤ length (conditions_of s)
all-length s Truthful = rw (all-truth s.truth s) (omega (arith, parts-length s))
all-length s Willing = rw (all-rational s.rational s) (omega (arith, parts-length s))

pub up_to-more-length : {X : Type 0} (n : ℕ) (f : ℕ → List X) → length (up_to (n + 1) f) ≡ length (up_to n f) + length (f n)
up_to-more-length n f = ap length (up_to-more n f) ∙ length-append (up_to n f) (f n)

-- of a setting within the limits
pub few-rows : (s : GeneralSetting) (demand : Demand) → IsShaped s → length (all_rows s demand) ≤ 4096
few-rows s demand shaped = omega (arith, all-length s demand, conditions-length s, shaped.few_rows)

-- the conditions on truth, rationality and the deficit
pub demands-length : (s : GeneralSetting) → length (demand_rows s) ≡ row_count s - profile_count (sizes_of s)
demands-length s =
    omega (
      arith,
      conditions-length s,
      length-append (demand_rows s) (by_profile s (λ t. profile_row t ∷ [])),
      singles (profile_count (sizes_of s)) (λ r. profile_row (profile_at (sizes_of s) r)),
    )

-- a condition among them
pub demand-at : (s : GeneralSetting) (k : ℕ) → k < length (demand_rows s) → slice_get (conditions_of s) k ≡ slice_get (demand_rows s) k
demand-at s k h = get-front (demand_rows s) (by_profile s (λ t. profile_row t ∷ [])) k h
