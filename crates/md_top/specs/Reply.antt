-- What each command says of the files that it names.
use Rattle.std.specs.Prelude.{◌≡◌, ◌⊎◌, ℕ, ℤ, unsigned_abs, Bool, true, false, List, Option, None, Some, IsSome}
use Rattle.md_cli_words.specs.Commands.{command_in}
use Rattle.md_cli_words.specs.declared.command.Command.{Command}
use Rattle.md_cli_words.specs.declared.command.Command.TheVariants.{Audit, Rows, Check, Solve, Replay, Realise, Fair, Find, FindFair, Require, Asym, Units, Threshold, Award, Determ, DetermCheck, Run, Report, Iron, IronUnits, Make, Drill}
use Rattle.md_cli_words.specs.Words.{Order, command_of}
use Rattle.md_border.specs.declared.interim.Interim.{Interim}
use Rattle.md_answer.specs.declared.answer.Answer.{Answer}
use Rattle.md_answer.specs.declared.pivots_file.Pivots.{Pivots}
use Rattle.md_require.specs.declared.condition.Condition.{Condition}
use Rattle.md_mechanism_text.specs.Proposals.{Proposed}
use Rattle.md_setting.specs.ByKind.{has_no_groups}
use Rattle.md_cli_driver.specs.declared.refusal.Refusal.TheVariants as refusal
use Rattle.md_cli_driver.specs.Saying.{Saying}
use Rattle.md_cli_driver.specs.Reading.{is_auction, is_general}
use Rattle.md_cli_driver.specs.Refused.{refused}
use Rattle.md_cli_driver.specs.Works.{Work, no_file, one_file, two_files, number_refused, IsReplyTo, HasFaultedIn}
use Rattle.md_cli_best.specs.Headline.{IsSolveStatus}
use Rattle.md_cli_judge.specs.Auditing.{proposal_in, IsAudit, IsAuditStatus}
use Rattle.md_cli_lp.specs.Listing.{IsRows, IsRowsStatus}
use Rattle.md_cli_judge.specs.Checked.{checked_answer_in, IsChecked}
use Rattle.md_cli_judge.specs.declared.checked_answer.CheckedAnswer.{CheckedAnswer}
use Rattle.md_cli_judge.specs.UnitChecking.{unit_answer_in, IsUnitCheck}
use Rattle.md_cli_judge.specs.Verdicts.{IsCheckStatus}
use Rattle.md_cli_best.specs.Solving.{IsSolve}
use Rattle.md_cli_lp.specs.Replaying.{pivots_in, IsReplay, IsReplayStatus}
use Rattle.md_cli_tell.specs.Realising.{odds_in, IsRealise, IsRealiseStatus}
use Rattle.md_cli_best.specs.Fair.{IsFair}
use Rattle.md_cli_best.specs.Finding.{IsFind, IsFindFair, IsFindStatus, basis_in}
use Rattle.md_find_basis.specs.Basis.{Listed}
use Rattle.md_cli_best.specs.Requiring.{conditions_in, IsRequire}
use Rattle.md_cli_tell.specs.Running.{drawable_in, IsRun, IsRunStatus}
use Rattle.md_cli_tell.specs.Reported.{reported_in}
use Rattle.md_cli_tell.specs.Reporting.{IsReporting, IsReportStatus}
use Rattle.md_cli_tell.specs.UnitAnswers.{unit_table_in}
use Rattle.md_cli_tell.specs.UnitDrawing.{IsUnitRun}
use Rattle.md_cli_tell.specs.UnitReporting.{IsUnitReporting, IsUnitReportStatus}
use Rattle.md_cli_tell.specs.declared.drawable.Drawable.{Drawable}
use Rattle.md_cli_tell.specs.declared.reported.Reported.{Reported}
use Rattle.md_cli_sell.specs.Ironing.{IsIron, IsIronStatus}
use Rattle.md_cli_sell.specs.IroningUnits.{IsIronUnits}
use Rattle.md_cli_best.specs.Making.{IsMake, IsMakeStatus}
use Rattle.md_cli_best.specs.Drilling.{IsDrill, IsDrillStatus}
use Rattle.md_cli_sell.specs.Selling.{IsAsym, IsAsymStatus}
use Rattle.md_cli_sell.specs.SellingUnits.{IsUnits, IsUnitsStatus}
use Rattle.md_unit_tables.specs.Numbers.{is_unit_number}
use Rattle.md_cli_sell.specs.Thresholding.{IsThresholding, IsThresholdStatus}
use Rattle.md_cli_tell.specs.Awarding.{IsAwardOf, IsAwardStatus}
use Rattle.md_cli_best.specs.Determining.{IsDeterm, IsDetermStatus}
use Rattle.md_cli_judge.specs.DetermChecking.{determ_text_in, IsDetermCheck}

-- what is done with so many units, where so many may be sold; else the number is refused, and no file is read
abbrev pub sale_by : Bool → Work → Work
sale_by true work = work
sale_by false work = number_refused

abbrev pub sale_of : ℤ → (ℕ → Work) → Work
sale_of number work = sale_by (is_unit_number number) (work (unsigned_abs number))

-- They are sold to the bidders of an auction, by the cut run or in closed form; they are sold so that only winners pay; and who has
-- what of that at a profile and a draw.
abbrev pub units_work : ℤ → ℕ → Work
units_work number width = sale_of number (λ units. one_file is_auction (IsUnits units width) IsUnitsStatus)

abbrev pub iron_units_work : ℤ → Work
iron_units_work number = sale_of number (λ units. one_file is_auction (IsIronUnits units) IsIronStatus)

abbrev pub threshold_work : ℤ → Work
threshold_work number = sale_of number (λ units. one_file is_auction (IsThresholding units) IsThresholdStatus)

abbrev pub award_work : ℤ → List ℕ → ℤ → Work
award_work number profile draw = sale_of number (λ units. one_file is_auction (IsAwardOf units profile draw) IsAwardStatus)

-- What an answer claims is judged, an outcome is drawn from an answer at a profile, and what an answer does is told. Where --units asks
-- for a number, the answer is one about so many units.
abbrev pub check_work : Option ℤ → Work
check_work None = two_files CheckedAnswer has_no_groups checked_answer_in IsChecked IsCheckStatus
check_work (Some number) = sale_of number (λ units. two_files Answer is_auction (unit_answer_in units) (IsUnitCheck units) IsCheckStatus)

abbrev pub draw_work : Option ℤ → List ℕ → ℤ → ℤ → Work
draw_work None profile first second = two_files Drawable has_no_groups drawable_in (IsRun profile first second) IsRunStatus
draw_work (Some number) profile first second = sale_of number (λ units. two_files Answer is_auction (unit_table_in units) (IsUnitRun units profile first second) IsRunStatus)

abbrev pub report_work : Option ℤ → Work
report_work None = two_files Reported has_no_groups reported_in IsReporting IsReportStatus
report_work (Some number) = sale_of number (λ units. two_files Answer is_auction (unit_table_in units) (IsUnitReporting units) IsUnitReportStatus)

-- The best mechanism of a setting is found. What is said of it is the same where a second file lists a basis to begin with.
abbrev pub find_work : Bool → Work
find_work false = one_file is_general IsFind IsFindStatus
find_work true = two_files Listed is_general basis_in (λ file basis. IsFind file) IsFindStatus

-- the commands: the files of each, what it says of them, and its statuses
abbrev pub work_by : Command → Order → Work
work_by Audit order = two_files Proposed is_general proposal_in IsAudit IsAuditStatus
work_by Rows order = one_file has_no_groups IsRows IsRowsStatus
work_by Check order = check_work order.units
work_by Solve order = one_file has_no_groups (IsSolve order.width) IsSolveStatus
work_by Replay order = two_files Pivots has_no_groups pivots_in (IsReplay order.width) IsReplayStatus
work_by Realise order = two_files Interim is_auction odds_in IsRealise IsRealiseStatus
work_by Fair order = one_file is_general (IsFair order.width) IsSolveStatus
work_by Find order = find_work order.has_second
work_by FindFair order = one_file is_general IsFindFair IsFindStatus
work_by Require order = two_files (List Condition) is_general conditions_in IsRequire IsFindStatus
work_by Asym order = one_file is_general (IsAsym order.width) IsAsymStatus
work_by Units order = units_work order.number order.width
work_by Threshold order = threshold_work order.number
work_by Award order = award_work order.number order.profile order.first_draw
work_by Determ order = one_file is_general (IsDeterm order.width) IsDetermStatus
work_by DetermCheck order = two_files (List ℕ) is_general determ_text_in IsDetermCheck IsCheckStatus
work_by Run order = draw_work order.units order.profile order.first_draw order.second_draw
work_by Report order = report_work order.units
work_by Iron order = one_file is_auction IsIron IsIronStatus
work_by IronUnits order = iron_units_work order.number
work_by Make order = no_file (IsMake order.number) IsMakeStatus
work_by Drill order = no_file (IsDrill order.number) IsDrillStatus

abbrev pub work_of : Order → Work
work_of order = work_by order.command order

-- what a command says, by what the shelf tells under each name
abbrev pub IsReply : Order → (List ℕ → Option (List ℕ)) → Saying → Type 0
IsReply order content saying = IsReplyTo (work_of order) order.setting order.second content saying

-- the count of one of the files that the command looked at rose
abbrev pub HasFaulted : Order → (List ℕ → Option (List ℕ)) → (List ℕ → ℕ) → (List ℕ → ℕ) → Type 0
HasFaulted order content before after = HasFaultedIn (work_of order) order.setting order.second content before after

-- the shelf's counts of faults stay
abbrev pub IsQuiet : (List ℕ → ℕ) → (List ℕ → ℕ) → Type 0
IsQuiet before after = (name : List ℕ) → after name ≡ before name

-- What is said of the work of a command on files of these names: its reply, unless a read of one of them failed or memory ran out.
abbrev pub IsSaidOfWork : Work → List ℕ → List ℕ → (List ℕ → Option (List ℕ)) → (List ℕ → ℕ) → (List ℕ → ℕ) → Saying → Type 0
IsSaidOfWork work setting second content before after saying =
    (IsReplyTo work setting second content saying × IsQuiet before after)
    ⊎ (((saying ≡ refused refusal.ReadFault) × HasFaultedIn work setting second content before after)
    ⊎ ((saying ≡ refused refusal.Memory) × IsQuiet before after))

-- what is said of a command
abbrev pub IsSaidOfOrder : Order → (List ℕ → Option (List ℕ)) → (List ℕ → ℕ) → (List ℕ → ℕ) → Saying → Type 0
IsSaidOfOrder order content before after saying = IsSaidOfWork (work_of order) order.setting order.second content before after saying

-- What is said of words that are no command: that. Memory may run out before it is known, but only where the first
-- word names a command.
abbrev pub IsSaidOfNone : {A : Type 0} → Option A → Saying → Type 0
IsSaidOfNone named saying = (saying ≡ refused refusal.Usage) ⊎ ((saying ≡ refused refusal.Memory) × IsSome named)

abbrev pub IsSaidBy : {A : Type 0} → Option A → Option Order → (List ℕ → Option (List ℕ)) → (List ℕ → ℕ) → (List ℕ → ℕ) → Saying → Type 0
IsSaidBy named None content before after saying = IsSaidOfNone named saying × IsQuiet before after
IsSaidBy named (Some order) content before after saying = IsSaidOfOrder order content before after saying

-- What a call says of its words, by what the shelf tells. No count of faults changes but where a read failed.
abbrev pub IsSaid : List (List ℕ) → (List ℕ → Option (List ℕ)) → (List ℕ → ℕ) → (List ℕ → ℕ) → Saying → Type 0
IsSaid words content before after saying = IsSaidBy (command_in words) (command_of words) content before after saying
