-- There is one verdict on an answer that tells shadows.
use Rattle.std.proofs.Common.{◌≡◌, ◌≢◌, ◌↔◌, Bool, true, false, get_or, below_more, ℕ, zero, suc, ◌+◌, ◌<◌, ◌≤◌, ℤ, pos, ◌*ℤ◌, ◌<ℤ◌, List, [], ◌∷◌, length, All, Option, Some, None, refl, sym, ap, ap₂, ◌∙◌, subst, arith, inl, inr, ◌⊎◌}
use Rattle.std.specs.List.{slice_get}
use mathlib.Core.Bool.{false≢true}
use Rattle.std.proofs.lemmas.Bool.{cases_lt}
use Rattle.std.proofs.lemmas.Option.{slice_get-get_or}
use Rattle.md_math.specs.Lists.{number_at}
use Rattle.md_math.proofs.Order.{positive-*ℤ}
use Rattle.md_num.specs.declared.frac.Frac.{Frac}
use Rattle.md_setting.specs.Setting.{GeneralSetting}
use Rattle.md_setting.specs.Meaning.{total_of}
use Rattle.md_mech.specs.declared.mechanism.Mechanism.{Mechanism}
use Rattle.md_mech.specs.Rows.{conditions_of}
use Rattle.md_cert.specs.declared.bound.Bound.{Bound}
use Rattle.md_rows.specs.ProgramOf.{forms_of}
use Rattle.md_question.specs.declared.finding.Finding.{Finding}
use Rattle.md_question.specs.declared.finding.Finding.TheVariants.{Optimal, Infeasible, Unbounded}
use Rattle.md_question.specs.Shown.{IsFindingTo}
use Rattle.md_question_check.specs.declared.verdict.Reject.{Reject}
use Rattle.md_question_check.specs.declared.verdict.Verdict.{Verdict}
use Rattle.md_question_check.specs.declared.verdict.Verdict.TheVariants as verdicts
use Rattle.md_question_check.specs.Verdicts.{IsVerdictOn}
use Rattle.md_require.specs.declared.condition.Condition.{Condition}
use Rattle.md_require.specs.declared.required_verdict.RequiredVerdict.{RequiredVerdict}
use Rattle.md_require.specs.declared.required_verdict.RequiredVerdict.TheVariants.{Valid, Rejected, Shadow}
use Rattle.md_require.specs.Amounts.{amounts_of}
use Rattle.md_require.specs.Limits.{AreConditionsFor}
use Rattle.md_require.specs.RequireQuestion.{require_question}
use Rattle.md_require.specs.RequireVerdicts.{AnswerHolds, ClaimHolds, IsComparison, IsFirstApart, IsFirstOther, IsRequiredVerdict, IsShadowVerdict, TellsRightly}
use Rattle.md_require.specs.Shadows.{AreShadows, AreShadowsBy, AreToldShadows, from, IsShadow, IsToldShadow, priced}
use Rattle.md_require.proofs.SlackLaws.{complementary}
use Rattle.md_require.proofs.PriceLaws.{least-shadow}
use Rattle.md_require.proofs.ShadowLaws.{shadows-law}
use Rattle.md_require.proofs.ShortLaws.{least-same}

-- ---- one list of shadows

same-frac : (a b : Frac) → a.num ≡ b.num → a.den ≡ b.den → a ≡ b
same-frac a b num den =
    let by_num : ℤ → Frac = λ n. record { num = n; den = a.den } in
    let by_den : ℤ → Frac = λ d. record { num = b.num; den = d } in
    ap by_num num ∙ ap by_den den

module _ (s : GeneralSetting) (over : ℤ) (above : pos 0 <ℤ over) (whole : pos 0 <ℤ total_of s) where
  one-shadow : (c : Condition) (main face : ℕ → ℤ) (a b : Frac) → IsShadow s c over main face a → IsShadow s c over main face b → a ≡ b
  one-shadow c main face a b h k =
      let sum = priced s main (amounts_of s c.measured) in
      let up = least-shadow s c over h.factor h.by sum main face h.cost h.rows refl in
      let down : pos 0 <ℤ (over *ℤ (total_of s *ℤ h.by)) = positive-*ℤ over (total_of s *ℤ h.by) above (positive-*ℤ (total_of s) h.by whole h.rows.positive) in
      let same = least-same _ _ a b down (up a h) (up b k) in
      same-frac a b same.0 same.1

  one-told : (c : Condition) (main face : ℕ → ℤ) (a b : Option Frac) → IsToldShadow s c over main face a → IsToldShadow s c over main face b → a ≡ b
  one-told c main face (Some a) (Some b) h k = ap Some (one-shadow c main face a b h.0 k.0)
  one-told c main face (Some a) None h k = absurd (k.none a h.1 h.0)
  one-told c main face None (Some b) h k = absurd (h.none b k.1 k.0)
  one-told c main face None None h k = refl

  one-list : (main face : ℕ → ℤ) (cs : List Condition) (vs ws : List (Option Frac)) → AreToldShadows s cs over main face vs → AreToldShadows s cs over main face ws → vs ≡ ws
  one-list main face [] [] [] h k = refl
  one-list main face [] [] (w ∷ ws) h k = absurd k
  one-list main face [] (v ∷ vs) ws h k = absurd h
  one-list main face (c ∷ cs) [] ws h k = absurd h
  one-list main face (c ∷ cs) (v ∷ vs) [] h k = absurd k
  one-list main face (c ∷ cs) (v ∷ vs) (w ∷ ws) h k =
      let width = length (amounts_of s c.measured) in
      ap₂ (λ x xs. x ∷ xs) (one-told c main face v w h.0 k.0) (one-list (from width main) (from width face) cs vs ws h.1 k.1)

-- multipliers say one list of shadows
pub one_shadows : (s : GeneralSetting) (conditions : List Condition) (bound : Bound) (vs ws : List (Option Frac)) → pos 0 <ℤ bound.den → pos 0 <ℤ total_of s
    → AreShadowsBy s conditions bound vs → AreShadowsBy s conditions bound ws → vs ≡ ws
one_shadows s conditions bound vs ws above whole h k =
    let own = length (forms_of s (conditions_of s)) in
    one-list s bound.den above whole (from own (number_at bound.main)) (from own (number_at bound.face)) conditions vs ws h k

told-length : (s : GeneralSetting) (over : ℤ) (main face : ℕ → ℤ) (cs : List Condition) (vs : List (Option Frac)) → AreToldShadows s cs over main face vs → length vs ≡ length cs
told-length s over main face [] [] h = refl
told-length s over main face [] (v ∷ vs) h = absurd h
told-length s over main face (c ∷ cs) [] h = absurd h
told-length s over main face (c ∷ cs) (v ∷ vs) h =
    ap suc (told-length s over (from (length (amounts_of s c.measured)) main) (from (length (amounts_of s c.measured)) face) cs vs h.1)

-- one for each condition
pub shadows-length : (s : GeneralSetting) (conditions : List Condition) (bound : Bound) (vs : List (Option Frac)) → AreShadowsBy s conditions bound vs → length vs ≡ length conditions
shadows-length s conditions bound vs h =
    let own = length (forms_of s (conditions_of s)) in
    told-length s bound.den (from own (number_at bound.main)) (from own (number_at bound.face)) conditions vs h

-- ---- lists that are told

some-same : (a b : Option Frac) → Some a ≡ Some b → a ≡ b
some-same a b e = cc

-- lists that are the same at each place
pub same-lists : (xs ys : List (Option Frac)) → length xs ≡ length ys → ((k : ℕ) → k < length xs → slice_get xs k ≡ slice_get ys k) → xs ≡ ys
same-lists [] [] e h = refl
same-lists [] (y ∷ ys) e h = absurd (omega (arith, e))
same-lists (x ∷ xs) [] e h = absurd (omega (arith, e))
same-lists (x ∷ xs) (y ∷ ys) e h =
    ap₂ (λ z zs. z ∷ zs) (some-same x y (h zero (omega arith))) (same-lists xs ys (omega (arith, e)) (λ k b. h (suc k) (omega (arith, b))))

-- one more place, by the test of the two shadows there
module _ (rights told : List (Option Frac)) (i : ℕ) (test : Bool) (below : i < length rights) (one_each : length told ≡ length rights)
    (is : (test ≡ true) ↔ (get_or told i None ≡ get_or rights i None)) (before : (k : ℕ) → k < i → slice_get told k ≡ slice_get rights k) where
  told-here : slice_get told i ≡ Some (get_or told i None)
  told-here = slice_get-get_or told i None (omega (arith, below, one_each))

  right-here : slice_get rights i ≡ Some (get_or rights i None)
  right-here = slice_get-get_or rights i None below

  pub apart-here : test ≡ false → IsFirstApart rights told i (get_or rights i None)
  apart-here e = record {
    before = before;
    right_is = right-here;
    other = λ same. false≢true (sym e ∙ is.1 (some-same (get_or told i None) (get_or rights i None) (sym told-here ∙ same)));
  }

  pub same-more : test ≡ true → (k : ℕ) → k < i + 1 → slice_get told k ≡ slice_get rights k
  same-more e = below_more (λ k. slice_get told k ≡ slice_get rights k) i before (told-here ∙ ap Some (is.0 e) ∙ sym right-here)

-- the right ones have no first one that is told otherwise
same-not_apart : (rights : List (Option Frac)) (index : ℕ) (right : Option Frac) → ¬ IsFirstApart rights rights index right
same-not_apart rights index right h = h.other h.right_is

one-apart : (rights told : List (Option Frac)) (i j : ℕ) (a b : Option Frac) → IsFirstApart rights told i a → IsFirstApart rights told j b → Shadow i a ≡ Shadow j b
one-apart rights told i j a b h k = at (cases_lt i j) (cases_lt j i)
  where
    same : i ≡ j → Shadow i a ≡ Shadow j b
    same e = ap₂ (λ n v. Shadow n v) e (some-same a b (sym h.right_is ∙ ap (λ n. slice_get rights n) e ∙ k.right_is))

    at : (i < j) ⊎ (j ≤ i) → (j < i) ⊎ (i ≤ j) → Shadow i a ≡ Shadow j b
    at (inl l) _ = absurd (h.other (k.before i l ∙ h.right_is))
    at (inr l) (inl m) = absurd (k.other (h.before j m ∙ k.right_is))
    at (inr l) (inr m) = same (omega arith)

-- ---- one verdict

-- the two parts of the verdict
pub both-verdict : (s : GeneralSetting) (conditions : List Condition) (finding : Finding) (told : List (Option Frac)) (v : RequiredVerdict)
    → IsVerdictOn (require_question s conditions) finding verdicts.Valid → IsShadowVerdict s conditions finding told v → IsRequiredVerdict s conditions finding told v
both-verdict s conditions finding told Valid valid h = (valid, h)
both-verdict s conditions finding told (Rejected reject) valid h = absurd h
both-verdict s conditions finding told (Shadow index right) valid h = (valid, h)

pub compared-verdict : (s : GeneralSetting) (conditions : List Condition) (value : Frac) (m : Mechanism) (bound : Bound) (rights told : List (Option Frac)) (v : RequiredVerdict)
    → AreShadowsBy s conditions bound rights → IsComparison rights told v → IsShadowVerdict s conditions (Optimal value m bound) told v
compared-verdict s conditions value m bound rights told Valid are h = subst (AreShadowsBy s conditions bound) (sym h) are
compared-verdict s conditions value m bound rights told (Rejected reject) are h = absurd h
compared-verdict s conditions value m bound rights told (Shadow index right) are h = record { rights = rights; are = are; first = h }

module _ (s : GeneralSetting) (conditions : List Condition) (whole : pos 0 <ℤ total_of s) where
  right-not_other : (finding : Finding) (told : List (Option Frac)) (index : ℕ) (right : Option Frac) → IsFindingTo (require_question s conditions) finding
      → TellsRightly s conditions finding told → ¬ IsFirstOther s conditions finding told index right
  right-not_other (Optimal value m bound) told index right fits h k =
      let same = one_shadows s conditions bound told k.rights fits.2.den.positive whole h k.are in
      same-not_apart k.rights index right (subst (λ vs. IsFirstApart k.rights vs index right) same k.first)
  right-not_other (Infeasible face) told index right fits h k = k
  right-not_other (Unbounded m ray) told index right fits h k = k

  one-other : (finding : Finding) (told : List (Option Frac)) (i j : ℕ) (a b : Option Frac) → IsFindingTo (require_question s conditions) finding
      → IsFirstOther s conditions finding told i a → IsFirstOther s conditions finding told j b → Shadow i a ≡ Shadow j b
  one-other (Optimal value m bound) told i j a b fits h k =
      let same = one_shadows s conditions bound h.rights k.rights fits.2.den.positive whole h.are k.are in
      one-apart k.rights told i j a b (subst (λ vs. IsFirstApart vs told i a) same h.first) k.first
  one-other (Infeasible face) told i j a b fits h k = absurd h
  one-other (Unbounded m ray) told i j a b fits h k = absurd h

  rejected-same : (a b : Reject) → verdicts.Rejected a ≡ verdicts.Rejected b → Rejected a ≡ Rejected b
  rejected-same a b e = cc

  module _ (finding : Finding) (told : List (Option Frac)) (fits : IsFindingTo (require_question s conditions) finding) (v : Verdict)
      (only : (other : Verdict) → IsVerdictOn (require_question s conditions) finding other → other ≡ v) where
    apart : (reject : Reject) → IsVerdictOn (require_question s conditions) finding verdicts.Valid → ¬ IsVerdictOn (require_question s conditions) finding (verdicts.Rejected reject)
    apart reject valid rejected = (let same : verdicts.Valid ≡ verdicts.Rejected reject = only verdicts.Valid valid ∙ sym (only (verdicts.Rejected reject) rejected) in cc)

    pub one-verdict : (a b : RequiredVerdict) → IsRequiredVerdict s conditions finding told a → IsRequiredVerdict s conditions finding told b → a ≡ b
    one-verdict Valid Valid h k = refl
    one-verdict Valid (Rejected reject) h k = absurd (apart reject h.0 k)
    one-verdict Valid (Shadow index right) h k = absurd (right-not_other finding told index right fits h.1 k.1)
    one-verdict (Rejected reject) Valid h k = absurd (apart reject k.0 h)
    one-verdict (Rejected reject) (Rejected other) h k = rejected-same reject other (only (verdicts.Rejected reject) h ∙ sym (only (verdicts.Rejected other) k))
    one-verdict (Rejected reject) (Shadow index right) h k = absurd (apart reject k.0 h)
    one-verdict (Shadow index right) Valid h k = absurd (right-not_other finding told index right fits k.1 h.1)
    one-verdict (Shadow index right) (Rejected reject) h k = absurd (apart reject h.0 k)
    one-verdict (Shadow i a) (Shadow j b) h k = one-other finding told i j a b fits h.1 k.1

-- ---- what a valid answer claims

pub shadows-claim : (s : GeneralSetting) (conditions : List Condition) (value : Frac) (m : Mechanism) (bound : Bound) (told : List (Option Frac)) → pos 0 <ℤ total_of s → AreConditionsFor s conditions
    → IsVerdictOn (require_question s conditions) (Optimal value m bound) verdicts.Valid → AreShadowsBy s conditions bound told → AreShadows s conditions m told
shadows-claim s conditions value m bound told whole fit valid are =
    let judged = valid.2 in
    let required = valid.0.admitted in
    let certified = judged.holds judged.program judged.is_program in
    let own = length (forms_of s (conditions_of s)) in
    let up : All (λ c. pos 0 <ℤ c.den) conditions = λ k d l. (fit.each k d l).positive in
    let law = shadows-law s conditions judged.program judged.is_program (λ k d l. (fit.each k d l).place) up m bound told required.admissible.mechanism certified are in
    record {
      gains = law;
      complementary = complementary s conditions m bound.den (from own (number_at bound.main)) (from own (number_at bound.face)) told certified.meets.point.positive whole up are required law;
    }

pub answer-claim : (s : GeneralSetting) (conditions : List Condition) (finding : Finding) (told : List (Option Frac)) → pos 0 <ℤ total_of s → AreConditionsFor s conditions
    → IsRequiredVerdict s conditions finding told Valid → ClaimHolds s conditions finding → AnswerHolds s conditions finding told
answer-claim s conditions (Optimal value m bound) told whole fit h claim = (claim, shadows-claim s conditions value m bound told whole fit h.0 h.1)
answer-claim s conditions (Infeasible face) told whole fit h claim = claim
answer-claim s conditions (Unbounded m ray) told whole fit h claim = claim

-- neither rejected nor undecided
pub valid-left : (v : Verdict) → ((reject : Reject) → v ≢ verdicts.Rejected reject) → v ≢ verdicts.Undecided → v ≡ verdicts.Valid
valid-left verdicts.Valid h k = refl
valid-left verdicts.Undecided h k = absurd (k refl)
valid-left (verdicts.Rejected reject) h k = absurd (h reject refl)
