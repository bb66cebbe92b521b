-- What `asym` says of a general setting: the best mechanism of a sale, or that the setting is none.
use Rattle.std.specs.Prelude.{◌≡◌, ◌⊎◌, ℕ, List, Ok}
use Rattle.md_setting.specs.Setting.{GeneralSetting}
use Rattle.md_setting.specs.ByKind.{WhereGeneral}
use Rattle.md_setting.specs.declared.file.SettingFile.{SettingFile}
use Rattle.md_lp.specs.declared.wide.Wide.{Wide}
use Rattle.md_mech.specs.declared.mechanism.Mechanism.{Mechanism}
use Rattle.md_mech.specs.Optimal.{IsOptimal}
use Rattle.md_mech.specs.Value.{IsValueOf}
use Rattle.md_cut_runs.specs.CutRuns.{EndsSettled, EndsWide}
use Rattle.md_cut_runs.specs.declared.optimum.Optimum.{Optimum}
use Rattle.md_question_check.specs.declared.verdict.Verdict.TheVariants.{Valid}
use Rattle.md_asym_sale.specs.Sale.{IsSale}
use Rattle.md_asym_tables.specs.Tables.{Implements}
use Rattle.md_asym.specs.AnswerTo.{IsAnswerTo, mechanism_in}
use Rattle.md_asym.specs.SaleRows.{text_of_sale}
use Rattle.md_asym.specs.SaleText.{sale_answer_of}
use Rattle.md_asym.specs.SaleVerdicts.{IsBestSale, IsSaleVerdict}
use Rattle.md_asym.specs.declared.asym_answer.AsymAnswer.{AsymAnswer}
use Rattle.md_asym.specs.declared.sale_answer.SaleAnswer.TheVariants.{Optimal, TooWide}
use Rattle.md_asym_solve.specs.SaleCuts.{sale_cutting}
use Rattle.md_asym_solve.specs.Solved.{IsSolvedSale}
use Rattle.md_cli_driver.specs.declared.refusal.Refusal.TheVariants as refusal
use Rattle.md_cli_driver.specs.Refused.{refused}
use Rattle.md_cli_driver.specs.Saying.{Saying}

-- ---- a sale

-- the cut run of the sale ends with this answer, whose mechanism is optimal and has the value
pub record IsSolvedBest (s : GeneralSetting) (width : ℕ) (answer : AsymAnswer) : Type 0 where
  pub solved : IsSolvedSale s width answer
  pub optimal : IsOptimal s (mechanism_in s answer)
  pub value : IsValueOf s (mechanism_in s answer) answer.value

-- two answers differ in nothing but their masses
pub record IsSameButMasses (answer other : AsymAnswer) : Type 0 where
  pub value : answer.value ≡ other.value
  pub cuts : answer.cuts ≡ other.cuts
  pub den : answer.interim.den ≡ other.interim.den
  pub odds : answer.interim.odds ≡ other.interim.odds
  pub pays : answer.interim.pays ≡ other.interim.pays
  pub bound : answer.bound ≡ other.bound

-- The cut run of the sale ends with this answer, of which all but the masses is fixed, and whose text reads back as it. At each
-- profile its masses add to at most the weight of the profile, and those of each pair to its demand. The mechanism of the masses, in
-- which each bidder pays by its type, has the odds and payments and the value, and no admissible mechanism of the setting, of any
-- denominator, has a greater objective. The value is that of every optimal mechanism. The checker finds it valid: its odds and payments with its multipliers are a certificate of
-- the program with its cuts, in whatever terms that is written.
pub record IsSoldBest (s : GeneralSetting) (width : ℕ) (saying : Saying) : Type 0 where
  pub answer : AsymAnswer
  pub solved : IsSolvedSale s width answer
  pub only : (other : AsymAnswer) → IsSolvedBest s width other → IsSameButMasses answer other
  pub fits : IsAnswerTo s answer
  pub implements : Implements s answer.interim.odds answer.masses
  pub best : IsBestSale s answer
  pub value : IsValueOf s (mechanism_in s answer) answer.value
  pub same_value : (m : Mechanism) → IsOptimal s m → IsValueOf s m answer.value
  pub valid : IsSaleVerdict s (Optimal answer) Valid
  pub status : saying.status ≡ 0
  pub text : saying.text ≡ text_of_sale s (Optimal answer)
  pub read_back : sale_answer_of s saying.text ≡ Ok (Optimal answer)

-- the cut run comes to a program each path of which has a wide basis: these are its cuts and the first such bases, and no others are
pub record IsSoldTooWide (s : GeneralSetting) (width : ℕ) (saying : Saying) : Type 0 where
  pub cuts : List ℕ
  pub first : Wide
  pub second : Wide
  pub wide : EndsWide (sale_cutting s) width cuts first second
  pub only : (others : List ℕ) (forward backward : Wide) → EndsWide (sale_cutting s) width others forward backward → (cuts ≡ others) × (first ≡ forward) × (second ≡ backward)
  pub status : saying.status ≡ 12
  pub text : saying.text ≡ text_of_sale s (TooWide cuts first second)
  pub read_back : sale_answer_of s saying.text ≡ Ok (TooWide cuts first second)

-- An answer, or that there is none within the width. There is one cut run, and the status tells how it ends.
pub record IsSelling (s : GeneralSetting) (width : ℕ) (saying : Saying) : Type 0 where
  pub told : IsSoldBest s width saying ⊎ IsSoldTooWide s width saying
  pub settled : (cuts : List ℕ) (optimum : Optimum) → EndsSettled (sale_cutting s) width cuts optimum → saying.status ≡ 0
  pub wide : (cuts : List ℕ) (first second : Wide) → EndsWide (sale_cutting s) width cuts first second → saying.status ≡ 12

-- ---- a setting

-- a sale, and what is said of it
pub record IsSold (s : GeneralSetting) (width : ℕ) (saying : Saying) : Type 0 where
  pub sale : IsSale s
  pub selling : IsSelling s width saying

-- none, which is refused
pub record IsNoSale (s : GeneralSetting) (saying : Saying) : Type 0 where
  pub no_sale : ¬ IsSale s
  pub said : saying ≡ refused refusal.NotASale

abbrev pub IsAsymOf : ℕ → GeneralSetting → Saying → Type 0
IsAsymOf width s saying = IsSold s width saying ⊎ IsNoSale s saying

abbrev pub IsAsym : ℕ → SettingFile → Saying → Type 0
IsAsym width file saying = WhereGeneral (λ s. IsAsymOf width s saying) file

-- the statuses of what is answered of a sale
abbrev pub IsAsymStatus : ℕ → Type 0
IsAsymStatus status = (status ≡ 0) ⊎ (status ≡ 12)
