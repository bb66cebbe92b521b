-- What is told of a mechanism: of which agents, and that it is about the setting.
use Rattle.std.proofs.Common.{◌≡◌, ◌↔◌, ℕ, zero, suc, ◌-◌, ◌*◌, ◌<◌, true, false, Bool, List, [], ◌∷◌, length, All, refl, sym, ap, ◌∙◌, subst, arith, Option, None, Some, mul-pos, length-append}
use Rattle.std.specs.Prelude.{slice_index, slice_index_or, IfSome, IsNone, if◌then◌else◌}
use Rattle.std.proofs.lemmas.Bool.{true≢false}
use Rattle.std.proofs.lemmas.List.Elements.{All-nil, All-from_get_or}
use Rattle.std.proofs.lemmas.Option.{slice_get_within}
use Rattle.md_math.proofs.Builders.{All-up_to}
use Rattle.md_space.specs.Profiles.{profile_count, profile_at}
use Rattle.md_space.proofs.Walks.{profile_count-pos}
use Rattle.md_setting.specs.declared.kinds.Truth.{Truth}
use Rattle.md_setting.specs.declared.kinds.Truth.TheVariants.{Dominant, Bayes}
use Rattle.md_setting.specs.declared.kinds.Rational.{Rational}
use Rattle.md_setting.specs.declared.kinds.Rational.TheVariants.{None as Free, ExPost, Interim}
use Rattle.md_setting.specs.Setting.{GeneralSetting}
use Rattle.md_setting.specs.Meaning.{agent_count, sizes_of}
use Rattle.md_setting.specs.Shaped.{IsShaped}
use Rattle.md_mech.specs.declared.mechanism.Mechanism.{Mechanism}
use Rattle.md_mech.specs.Rows.{Condition, by_profile, demand_rows, conditions_of, profile_row, ex_post_row, interim_row}
use Rattle.md_mech.proofs.CountLaws.{agents-length, dominant-length, bayes-length, singles}
use Rattle.md_mech.proofs.RowLaws.{all-one}
use Rattle.md_report.specs.declared.deficit.Deficit.{Deficit}
use Rattle.md_report.specs.declared.demand.Demand.{Demand}
use Rattle.md_report.specs.declared.demand.Demand.TheVariants.{Truthful, Willing}
use Rattle.md_report.specs.declared.report.Report.{Report}
use Rattle.md_report.specs.declared.worst.Worst.{Worst}
use Rattle.md_report.specs.Admissible.{IsToldWhole}
use Rattle.md_report.specs.Blocks.{truth_of, rational_of, rows_of}
use Rattle.md_report.specs.Deficits.{IsDeficitOf}
use Rattle.md_report.specs.ReportOf.{AreFigures}
use Rattle.md_report.specs.Tellable.{IsTold, IsAbout}
use Rattle.md_report.specs.Tight.{is_tight, tight_at, tight_rows}
use Rattle.md_report.specs.Worst.{IsWorstOf, AreWorstOf}
use Rattle.std.specs.Prelude.{slice_get}

-- ---- how many conditions an agent has

pub profiles-some : (s : GeneralSetting) → IsShaped s → 0 < profile_count (sizes_of s)
profiles-some s shaped = profile_count-pos (sizes_of s) shaped.listed.space.some_type

pub in-sizes : (s : GeneralSetting) (i : ℕ) → i < agent_count s → i < length (sizes_of s)
in-sizes s i h = omega (arith, h, agents-length s)

pub types-some : (s : GeneralSetting) (i : ℕ) → IsShaped s → i < agent_count s → 0 < slice_index (sizes_of s) i
types-some s i shaped h = shaped.listed.space.some_type i 0 (in-sizes s i h)

pub ex_post-length : (s : GeneralSetting) (i : ℕ) → length (by_profile s (λ t. ex_post_row i t ∷ [])) ≡ profile_count (sizes_of s)
ex_post-length s i = singles (profile_count (sizes_of s)) (λ r. ex_post_row i (profile_at (sizes_of s) r))

pub interim-length : (s : GeneralSetting) (i : ℕ) → length (rational_of Interim s i) ≡ slice_index (sizes_of s) i
interim-length s i = singles (slice_index (sizes_of s) i) (interim_row i)

pub no-false_report : (a n : ℕ) → 0 < a → 0 < n → (a * (n - 1) ≡ 0) ↔ (n ≡ 1)
no-false_report a (suc zero) p q = ((λ _. refl), (λ _. omega arith))
no-false_report a (suc (suc n)) p q = ((λ e. absurd (let some : 0 < a * (suc (suc n) - 1) = mul-pos p (omega arith) in omega (arith, e))), (λ e. absurd (omega (arith, e))))
no-false_report a zero p q = absurd (omega (arith, q))

truth-none : (kind : Truth) (s : GeneralSetting) (i : ℕ) → IsShaped s → i < agent_count s → (length (truth_of kind s i) ≡ 0) ↔ (slice_index (sizes_of s) i ≡ 1)
truth-none Dominant s i shaped h =
    let long = dominant-length s i (in-sizes s i h) in
    let none = no-false_report (profile_count (sizes_of s)) (slice_index (sizes_of s) i) (profiles-some s shaped) (types-some s i shaped h) in
    ((λ e. none.0 (sym long ∙ e)), (λ e. long ∙ none.1 e))
truth-none Bayes s i shaped h =
    let long = bayes-length s i in
    let none = no-false_report (slice_index (sizes_of s) i) (slice_index (sizes_of s) i) (types-some s i shaped h) (types-some s i shaped h) in
    ((λ e. none.0 (sym long ∙ e)), (λ e. long ∙ none.1 e))

rational-none : (kind : Rational) (s : GeneralSetting) (i : ℕ) → IsShaped s → i < agent_count s → (length (rational_of kind s i) ≡ 0) ↔ (kind ≡ Free)
rational-none Free s i shaped h = ((λ _. refl), (λ _. refl))
rational-none ExPost s i shaped h = ((λ e. absurd (let some = profiles-some s shaped in omega (arith, e, some, ex_post-length s i))), (λ e. cc))
rational-none Interim s i shaped h = ((λ e. absurd (let some = types-some s i shaped h in omega (arith, e, some, interim-length s i))), (λ e. cc))

-- ---- what is told is told where there is a condition

pub some-rows : {X : Type 0} (rows : List X) (k : ℕ) (x : X) → slice_get rows k ≡ Some x → length rows ≡ 0 → ⊥
some-rows rows k x e none = (let l : k < length rows = slice_get_within rows k x e in omega (arith, l, none))

pub nil-length : {X : Type 0} (rows : List X) → rows ≡ [] → length rows ≡ 0
nil-length rows e = ap length e

told-where : (s : GeneralSetting) (m : Mechanism) (rows : List Condition) (told : Option Worst) → IsWorstOf s m rows told → IsNone told ↔ (length rows ≡ 0)
told-where s m rows None none = ((λ _. nil-length rows none), (λ _. refl))
told-where s m rows (Some worst) is = ((λ e. cc), (λ none. absurd (some-rows rows is.place _ is.here none)))

deficit-where : (s : GeneralSetting) (m : Mechanism) (told : Option Deficit) → IsDeficitOf s m told → IsNone told ↔ (s.no_deficit ≡ false)
deficit-where s m None off = ((λ _. off), (λ _. refl))
deficit-where s m (Some deficit) (on, is) = ((λ e. cc), (λ off. absurd (true≢false (sym on ∙ off))))

pub both : {A B C : Type 0} → A ↔ B → B ↔ C → A ↔ C
both h k = ((λ a. k.0 (h.0 a)), (λ c. h.1 (k.1 c)))

pub told-whole : (s : GeneralSetting) (m : Mechanism) (report : Report) → IsShaped s → AreFigures s m report → IsToldWhole s report
told-whole s m report shaped is = record {
  gains = λ i h. both (told-where s m (rows_of s Truthful i) (slice_index_or report.gains.items i None) (is.gains.each i h)) (truth-none s.truth s i shaped h);
  losses = λ i h. both (told-where s m (rows_of s Willing i) (slice_index_or report.losses.items i None) (is.losses.each i h)) (rational-none s.rational s i shaped h);
  deficit = deficit-where s m report.deficit is.deficit;
}

-- ---- what is told is about the setting

one-about : (s : GeneralSetting) (m : Mechanism) (rows : List Condition) (told : Option Worst) → IsWorstOf s m rows told → IsTold s told
one-about s m rows None is = tt
one-about s m rows (Some worst) is = is.inside

all-about : (s : GeneralSetting) (m : Mechanism) (demand : Demand) (told : List (Option Worst)) → AreWorstOf s m demand told → All (IsTold s) told
all-about s m demand told are =
    All-from_get_or (IsTold s) told None (λ i h. one-about s m (rows_of s demand i) (slice_index_or told i None) (are.each i (omega (arith, h, are.count))))

deficit-about : (s : GeneralSetting) (m : Mechanism) (told : Option Deficit) → IsDeficitOf s m told → IfSome told (λ deficit. deficit.rank < profile_count (sizes_of s))
deficit-about s m None off = tt
deficit-about s m (Some deficit) (on, is) = is.rank.inside

pub tight-row : (n r : ℕ) (b : Bool) → r < n → All (λ x. x < n) (if b then r ∷ [] else [])
tight-row n r true h = all-one (λ x. x < n) r h
tight-row n r false h = All-nil (λ x. x < n)

tight-about : (s : GeneralSetting) (m : Mechanism) → All (λ r. r < length (conditions_of s)) (tight_rows s m)
tight-about s m =
    All-up_to (λ r. r < length (conditions_of s)) (length (demand_rows s)) (tight_at s m)
    (λ r h. tight-row (length (conditions_of s)) r (is_tight s m (slice_get (demand_rows s) r)) (omega (arith, h, length-append (demand_rows s) (by_profile s (λ t. profile_row t ∷ [])))))

pub about : (s : GeneralSetting) (m : Mechanism) (report : Report) → AreFigures s m report → IsAbout s report
about s m report is = record {
  types = λ k d h. (let t = is.types.each k d h in record { agent_in = t.agent_in; kind_in = t.kind_in });
  gains = all-about s m Truthful report.gains.items is.gains;
  losses = all-about s m Willing report.losses.items is.losses;
  deficit = deficit-about s m report.deficit is.deficit;
  tight = subst (All (λ r. r < length (conditions_of s))) (sym is.tight) (tight-about s m);
}
