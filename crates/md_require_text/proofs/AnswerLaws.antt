-- An answer about the best mechanism under conditions, by the steps that read it.
use Rattle.std.proofs.Common.{◌≡◌, ℕ, List, length, codes, Option, Result, Ok, Err, ap, subst, sym, ◌∙◌}
use Rattle.md_num.specs.declared.frac.Frac.{Frac}
use Rattle.md_setting.specs.Setting.{GeneralSetting}
use Rattle.md_records.specs.Text.{records_of}
use Rattle.md_parts.specs.declared.first_record.Head.{Head}
use Rattle.md_parts.specs.declared.refusal.AnswerRefusal.{AnswerRefusal}
use Rattle.md_parts.specs.FirstRecord.{first_of}
use Rattle.md_parts.specs.LastRecord.{read_end}
use Rattle.md_parts.specs.Reading.{Rest, Reading, ◌>>=◌, answered, nothing_more, then_read}
use Rattle.md_question.specs.declared.finding.Finding.{Finding}
use Rattle.md_require.specs.declared.condition.Condition.{Condition}
use Rattle.md_require.specs.RequireQuestion.{require_rows}
use Rattle.md_conditions_text.specs.ConditionsText.{conditions_read}
use Rattle.md_require_text.specs.RequiredText.{answer_words, behind_conditions, finding_by, required_answer_of, shadows_of, whole_answer}
use Rattle.md_require_text.specs.Told.{Told, shadow_count}

-- what is read behind each part
abbrev behind_shadows : List Condition → Finding → List (Option Frac) → Reading Told
behind_shadows cs f shadows = read_end >>= (λ _. nothing_more (record { conditions = cs; finding = f; shadows = shadows }))

abbrev behind_finding : List Condition → Finding → Reading Told
behind_finding cs f = shadows_of (shadow_count f (length cs)) >>= (λ shadows. behind_shadows cs f shadows)

-- ---- the first record and the conditions

abbrev behind_first : GeneralSetting → Head → Reading Told
behind_first s head = conditions_read s >>= (λ cs. behind_conditions s head.word cs)

pub required-behind : (s : GeneralSetting) (bytes : List ℕ) (words : List (List ℕ)) (start a b : Rest) (head : Head) (cs : List Condition) (r : Result (Told × Rest) AnswerRefusal) → start ≡ record { read = 0; left = records_of bytes } → words ≡ answer_words
    → first_of (codes "required") words start ≡ Ok (head, a) → conditions_read s a ≡ Ok (cs, b) → behind_conditions s head.word cs b ≡ r → required_answer_of s bytes ≡ answered r
required-behind s bytes words start a b head cs r at known one two three =
    let first : first_of (codes "required") answer_words start ≡ Ok (head, a) = subst (λ (ws : List (List ℕ)). first_of (codes "required") ws start ≡ Ok (head, a)) known one in
    ap answered
    (ap (λ (x : Rest). whole_answer s x) (sym at) ∙ ap (λ (x : Result (Head × Rest) AnswerRefusal). then_read x (λ h. behind_first s h)) first
    ∙ ap (λ (x : Result (List Condition × Rest) AnswerRefusal). then_read x (λ c. behind_conditions s head.word c)) two ∙ three)

-- ---- what stands behind them

module _ (s : GeneralSetting) (cs : List Condition) (now : Rest) (rows word : ℕ) (summed : rows ≡ require_rows s cs) where
  finding-same : (r : Result (Finding × Rest) AnswerRefusal) → finding_by s rows word now ≡ r → finding_by s (require_rows s cs) word now ≡ r
  finding-same r h = subst (λ (n : ℕ). finding_by s n word now ≡ r) summed h

  pub finding-fails : (refusal : AnswerRefusal) → finding_by s rows word now ≡ Err refusal → behind_conditions s word cs now ≡ Err refusal
  finding-fails refusal one = ap (λ (r : Result (Finding × Rest) AnswerRefusal). then_read r (λ f. behind_finding cs f)) (finding-same (Err refusal) one)

  module _ (c : Rest) (count : ℕ) (f : Finding) (one : finding_by s rows word now ≡ Ok (f, c)) (counted : count ≡ shadow_count f (length cs)) where
    found-behind : (r : Result (List (Option Frac) × Rest) AnswerRefusal) → shadows_of count c ≡ r → behind_conditions s word cs now ≡ then_read r (λ shadows. behind_shadows cs f shadows)
    found-behind r two =
        let same : shadows_of (shadow_count f (length cs)) c ≡ r = subst (λ (n : ℕ). shadows_of n c ≡ r) counted two in
        ap (λ (x : Result (Finding × Rest) AnswerRefusal). then_read x (λ g. behind_finding cs g)) (finding-same (Ok (f, c)) one)
        ∙ ap (λ (x : Result (List (Option Frac) × Rest) AnswerRefusal). then_read x (λ shadows. behind_shadows cs f shadows)) same

    pub shadows-fail : (refusal : AnswerRefusal) → shadows_of count c ≡ Err refusal → behind_conditions s word cs now ≡ Err refusal
    shadows-fail refusal two = found-behind (Err refusal) two

    pub behind-read : (d : Rest) (shadows : List (Option Frac)) (r : Result (Unit {0} × Rest) AnswerRefusal) → shadows_of count c ≡ Ok (shadows, d) → read_end d ≡ r
        → behind_conditions s word cs now ≡ then_read r (λ _. nothing_more (record { conditions = cs; finding = f; shadows = shadows }))
    behind-read d shadows r two three =
        found-behind (Ok (shadows, d)) two
        ∙ ap (λ (x : Result (Unit {0} × Rest) AnswerRefusal). then_read x (λ _. nothing_more (record { conditions = cs; finding = f; shadows = shadows }))) three
