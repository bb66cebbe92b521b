-- The broken row that a verdict tells.
use Rattle.std.proofs.Common.{◌≡◌, ℕ, zero, suc, ◌+◌, ◌<◌, List, [], ◌∷◌, Some, ◌++◌, codes, length, length-append, refl, ap, ◌∙◌, arith}
use Rattle.std.specs.Prelude.{slice_get}
use Rattle.md_cli_judge.specs.Verdicts.{IsBrokenRow, rejected}
use Rattle.md_setting.specs.Auction.{SymmetricAuction}
use Rattle.md_setting.specs.ByKind.{IsGeneral}
use Rattle.md_setting.specs.Setting.{GeneralSetting}
use Rattle.md_setting.specs.declared.file.SettingFile.{SettingFile}
use Rattle.md_setting.specs.declared.file.SettingFile.TheVariants.{General, Auction, Bidders}
use Rattle.md_mech.specs.declared.broken.Broken.{Broken}
use Rattle.md_mech.specs.declared.mechanism.Mechanism.{Mechanism}
use Rattle.md_mech.specs.Rows.{IsFirstBroken, conditions_of}
use Rattle.md_answer.specs.declared.answer.Answer.{Answer}
use Rattle.md_answer.specs.declared.answer.Answer.TheVariants.{Table, Optimal, Infeasible, Unbounded, AuctionOptimal, TooWide}
use Rattle.md_question_check.specs.declared.verdict.Reject.TheVariants.{Audit}
use Rattle.md_question_check.specs.declared.verdict.Verdict.TheVariants.{Rejected}
use Rattle.md_question.specs.Question.{Question}
use Rattle.md_question.specs.declared.finding.Finding.{Finding}
use Rattle.md_question.specs.declared.finding.Finding.TheVariants as findings
use Rattle.md_question_check.specs.Verdicts.{IsVerdictOn as IsVerdictOnFinding}
use Rattle.md_asym.specs.SaleVerdicts.{IsSaleVerdict}
use Rattle.md_asym.specs.declared.sale_answer.SaleAnswer.{SaleAnswer}
use Rattle.md_asym.specs.declared.sale_answer.SaleAnswer.TheVariants as sale
use Rattle.md_fair.specs.FairQuestion.{fair_question}
use Rattle.md_fair.specs.FairVerdicts.{IsFairVerdict}
use Rattle.md_fair.specs.declared.answer.FairAnswer.{FairAnswer}
use Rattle.md_fair.specs.declared.answer.FairAnswer.TheVariants as fair
use Rattle.md_answer.specs.declared.supply.Supply.{Supply}
use Rattle.md_answer.specs.declared.supply.Supply.TheVariants.{Item}
use Rattle.md_check.specs.AuctionVerdicts.{IsVerdictFor}
use Rattle.md_check.specs.FileVerdicts.{IsVerdictOn}
use Rattle.md_check.specs.Verdicts.{IsVerdict}

-- the first broken row is one of the setting's
first-in : (s : GeneralSetting) (m : Mechanism) (broken : Broken) → IsFirstBroken s m (conditions_of s) 0 broken → broken.row < length (conditions_of s)
first-in s m broken h =
    let size : length (conditions_of s) ≡ length h.before + length (h.row ∷ h.after) = ap length h.parts ∙ length-append h.before (h.row ∷ h.after) in
    omega (arith, h.number, size)

told-in_general : (s : GeneralSetting) (answer : Answer) (broken : Broken) → IsVerdict s answer (Rejected (Audit broken)) → broken.row < length (conditions_of s)
told-in_general s (Table m) broken h = absurd (let e = h in cc)
told-in_general s (Optimal value m bound) broken h = first-in s m broken h
told-in_general s (Infeasible face) broken h = absurd (h.holds h.program h.is_program)
told-in_general s (Unbounded m ray) broken h = first-in s m broken h
told-in_general s (AuctionOptimal value interim masses cuts bound) broken h = absurd h
told-in_general s (TooWide cuts first second) broken h = absurd (let e = h in cc)

-- no condition on the mechanism's rows is told of an answer about an auction or several units
pub told-in_auction : (supply : Supply) (a : SymmetricAuction) (answer : Answer) (broken : Broken) → IsVerdictFor supply a answer (Rejected (Audit broken)) → ⊥
told-in_auction supply a (Table m) broken h = h
told-in_auction supply a (Optimal value m bound) broken h = h
told-in_auction supply a (Infeasible face) broken h = h
told-in_auction supply a (Unbounded m ray) broken h = h
told-in_auction supply a (AuctionOptimal value interim masses cuts bound) broken h = h.1.holds h.1.program h.1.is_program
told-in_auction supply a (TooWide cuts first second) broken h = let e = h in cc

pub told-in : (file : SettingFile) (answer : Answer) (broken : Broken) → IsVerdictOn file answer (Rejected (Audit broken)) → IsBrokenRow file broken
told-in (General s) answer broken h = told-in_general s answer broken h
told-in (Auction a) answer broken h = told-in_auction Item a answer broken h
told-in (Bidders a) answer broken h = absurd h

pub told-in_question : (q : Question) (finding : Finding) (broken : Broken) → IsVerdictOnFinding q finding (Rejected (Audit broken)) → broken.row < length (conditions_of q.setting)
told-in_question q (findings.Optimal value m bound) broken h = first-in q.setting m broken h
told-in_question q (findings.Infeasible face) broken h = absurd (h.holds h.program h.is_program)
told-in_question q (findings.Unbounded m ray) broken h = first-in q.setting m broken h

pub told-in_fair : (s : GeneralSetting) (answer : FairAnswer) (broken : Broken) → IsFairVerdict s answer (Rejected (Audit broken)) → broken.row < length (conditions_of s)
told-in_fair s (fair.Found finding) broken h = told-in_question (fair_question s) finding broken h
told-in_fair s (fair.TooWide first second) broken h = absurd (let e = h in cc)

-- no answer about a sale breaks a row of the setting
pub untold-in_sale : (s : GeneralSetting) (answer : SaleAnswer) (broken : Broken) → IsSaleVerdict s answer (Rejected (Audit broken)) → ⊥
untold-in_sale s (sale.Optimal answer) broken h = h.1.holds h.1.program h.1.is_program
untold-in_sale s (sale.TooWide cuts first second) broken h = absurd (let e = h in cc)

-- only a general setting has rows that a mechanism breaks
pub broken-general : (file : SettingFile) (broken : Broken) → IsBrokenRow file broken → IsGeneral file
broken-general (General s) broken h = tt
broken-general (Auction a) broken h = absurd h
broken-general (Bidders a) broken h = absurd h

-- the element at a place
pub element : {X : Type 0} → (xs : List X) (r : ℕ) → r < length xs → (y : X) × (slice_get xs r ≡ Some y)
element [] r b = absurd (omega arith)
element (x ∷ xs) zero b = (x, refl)
element (x ∷ xs) (suc r) b = element xs r (omega arith)

-- the record of a broken row, field by field
pub broken-record : (begun named numbered filled : List (List ℕ)) {name row left right : List ℕ} → begun ≡ rejected (codes "1") [] → named ≡ begun ++ name ∷ [] → name ≡ row → numbered ≡ named ++ left ∷ [] → filled ≡ numbered ++ right ∷ [] → filled ≡ rejected (codes "1") (row ∷ left ∷ right ∷ [])
broken-record begun named numbered filled {name} {row} {left} {right} b n e m f =
    f ∙ ap (λ xs. xs ++ right ∷ []) (m ∙ ap (λ xs. xs ++ left ∷ []) (n ∙ ap (λ x. begun ++ x ∷ []) e ∙ ap (λ xs. xs ++ row ∷ []) b))
