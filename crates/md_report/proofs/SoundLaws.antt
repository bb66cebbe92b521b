-- Each condition on truth and rationality is kept exactly where nothing is missed of it.
use Rattle.std.proofs.Common.{◌≡◌, ◌↔◌, ℕ, ◌<◌, ℤ, pos, ◌-ℤ◌, ◌*ℤ◌, ◌≤ℤ◌, ◌<ℤ◌, List, [], ◌∷◌, get_or, length, All, refl, subst, arith}
use Rattle.std.specs.Prelude.{slice_index, slice_get, Some}
use Rattle.std.proofs.lemmas.List.Elements.{All-nil}
use Rattle.std.proofs.lemmas.Option.{slice_get-get_or, slice_get_within, get_or_from_slice_get}
use Rattle.md_math.proofs.Builders.{All-up_to}
use Rattle.md_math.proofs.Order.{positive-*ℤ, le_from_*ℤ, *ℤ-le, le_from_lt}
use Rattle.md_math.proofs.Ring.{linear, *ℤ-zero}
use lib.IntN.{*ℤ_comm}
use Rattle.md_space.specs.Profiles.{profile_count, profile_at}
use Rattle.md_setting.specs.declared.kinds.Truth.{Truth}
use Rattle.md_setting.specs.declared.kinds.Truth.TheVariants.{Dominant, Bayes}
use Rattle.md_setting.specs.declared.kinds.Rational.{Rational}
use Rattle.md_setting.specs.declared.kinds.Rational.TheVariants.{None as Free, ExPost, Interim}
use Rattle.md_setting.specs.Setting.{GeneralSetting}
use Rattle.md_setting.specs.Meaning.{agent_count, sizes_of, marginal_of}
use Rattle.md_setting.specs.Shaped.{IsShaped}
use Rattle.md_mech.specs.Conditions.{named}
use Rattle.md_mech.specs.declared.mechanism.Mechanism.{Mechanism}
use Rattle.md_mech.specs.Rows.{Condition, dominant_row, bayes_row, ex_post_row, interim_row, IsKept, left_of, right_of, by_report, truth_rows, rational_rows, dominant_rows, bayes_rows, ex_post_rows, interim_rows}
use Rattle.md_mech.proofs.RowLaws.{all-by_report, all-one}
use Rattle.md_report.specs.declared.worst.Worst.{Worst}
use Rattle.md_report.specs.Shortfalls.{missed, scale_of}
use Rattle.md_report.specs.Worst.{IsWorst}
use Rattle.md_report.proofs.MissedLaws.{at_most_0, bayes-missed, interim-missed}
use Rattle.md_report.proofs.RatioLaws.{not_positive}

-- a condition with a positive scale, which is kept exactly where nothing is missed of it
pub record IsSound (s : GeneralSetting) (m : Mechanism) (c : Condition) : Type 0 where
  pub scale : pos 0 <ℤ scale_of s m c
  pub kept : IsKept s m c ↔ (missed s m c ≤ℤ pos 0)

sound : (s : GeneralSetting) (m : Mechanism) (c : Condition) → pos 0 <ℤ scale_of s m c → missed s m c ≡ right_of s m c -ℤ left_of s m c → IsSound s m c
sound s m c scale e = record { scale = scale; kept = at_most_0 (left_of s m c) (right_of s m c) (missed s m c) e }

given-positive : (s : GeneralSetting) (m : Mechanism) (i a : ℕ) → pos 0 <ℤ m.den → IsShaped s → i < agent_count s → a < slice_index (sizes_of s) i → pos 0 <ℤ (m.den *ℤ marginal_of s i a)
given-positive s m i a positive shaped h l = positive-*ℤ m.den (marginal_of s i a) positive (shaped.marginal i a h l)

pub sound-truth : (kind : Truth) (s : GeneralSetting) (m : Mechanism) → pos 0 <ℤ m.den → IsShaped s → All (IsSound s m) (truth_rows kind s)
sound-truth Dominant s m positive shaped =
    All-up_to (IsSound s m) (agent_count s) (dominant_rows s)
    (λ i h. All-up_to (IsSound s m) (profile_count (sizes_of s)) (λ r. by_report (slice_index (sizes_of s) i) (slice_index (profile_at (sizes_of s) r) i) (dominant_row i (profile_at (sizes_of s) r)))
    (λ r l. all-by_report (IsSound s m) (slice_index (sizes_of s) i) (slice_index (profile_at (sizes_of s) r) i) (dominant_row i (profile_at (sizes_of s) r))
    (λ b k. sound s m (dominant_row i (profile_at (sizes_of s) r) b) positive refl)))
sound-truth Bayes s m positive shaped =
    All-up_to (IsSound s m) (agent_count s) (bayes_rows s)
    (λ i h. All-up_to (IsSound s m) (slice_index (sizes_of s) i) (λ a. by_report (slice_index (sizes_of s) i) a (bayes_row i a))
    (λ a l. all-by_report (IsSound s m) (slice_index (sizes_of s) i) a (bayes_row i a)
    (λ b k. sound s m (bayes_row i a b) (given-positive s m i a positive shaped h l) (bayes-missed s m i a b))))

pub sound-rational : (kind : Rational) (s : GeneralSetting) (m : Mechanism) → pos 0 <ℤ m.den → IsShaped s → All (IsSound s m) (rational_rows kind s)
sound-rational Free s m positive shaped = All-nil (IsSound s m)
sound-rational ExPost s m positive shaped =
    All-up_to (IsSound s m) (agent_count s) (ex_post_rows s)
    (λ i h. All-up_to (IsSound s m) (profile_count (sizes_of s)) (λ r. ex_post_row i (profile_at (sizes_of s) r) ∷ [])
    (λ r l. all-one (IsSound s m) (ex_post_row i (profile_at (sizes_of s) r)) (sound s m (ex_post_row i (profile_at (sizes_of s) r)) positive refl)))
sound-rational Interim s m positive shaped =
    All-up_to (IsSound s m) (agent_count s) (interim_rows s)
    (λ i h. All-up_to (IsSound s m) (slice_index (sizes_of s) i) (λ a. interim_row i a ∷ [])
    (λ a l. all-one (IsSound s m) (interim_row i a) (sound s m (interim_row i a) (given-positive s m i a positive shaped h l) (interim-missed s m i a))))

-- ---- the worst of some conditions

no_more : (x y a b : ℤ) → pos 0 <ℤ a → pos 0 <ℤ b → y ≤ℤ pos 0 → (x *ℤ b) ≤ℤ (y *ℤ a) → x ≤ℤ pos 0
no_more x y a b p q l h =
    let part = *ℤ-le a y (pos 0) (le_from_lt (pos 0) a p) l in
    le_from_*ℤ b x (pos 0) q (omega (arith, linear, h, part, *ℤ_comm b x, *ℤ_comm a y, *ℤ-zero a, *ℤ-zero b))

pub record AllSound (s : GeneralSetting) (m : Mechanism) (rows : List Condition) : Type 0 where
  pub each : All (IsSound s m) rows

-- nothing is missed of it exactly where all are kept
pub worst-kept : (s : GeneralSetting) (m : Mechanism) (rows : List Condition) (worst : Worst) → AllSound s m rows → IsWorst s m rows worst
    → (worst.shortfall.num ≤ℤ pos 0) ↔ All (IsKept s m) rows
worst-kept s m rows worst all h = (to, from)
  where
    at : (c : Condition) (k : ℕ) → slice_get rows k ≡ Some c → IsSound s m c
    at c k e = (let l : k < length rows = slice_get_within rows k c e in let same : get_or rows k c ≡ c = get_or_from_slice_get rows k c c e in subst (IsSound s m) same (all.each k c l))

    to : worst.shortfall.num ≤ℤ pos 0 → All (IsKept s m) rows
    to l = λ k d b.
        let c = get_or rows k d in
        let e : slice_get rows k ≡ Some c = slice_get-get_or rows k d b in
        let whole = at (named s worst.condition) h.place h.here in
        (at c k e).kept.1 (no_more (missed s m c) (missed s m (named s worst.condition)) (scale_of s m c) (scale_of s m (named s worst.condition))
        (at c k e).scale whole.scale ((not_positive _ _ worst.shortfall whole.scale h.shortfall).0 l) (h.most k c e))

    from : All (IsKept s m) rows → worst.shortfall.num ≤ℤ pos 0
    from kept =
        let whole = at (named s worst.condition) h.place h.here in
        let l : h.place < length rows = slice_get_within rows h.place _ h.here in
        let same = get_or_from_slice_get rows h.place (named s worst.condition) (named s worst.condition) h.here in
        (not_positive _ _ worst.shortfall whole.scale h.shortfall).1 (whole.kept.0 (subst (IsKept s m) same (kept h.place (named s worst.condition) l)))
