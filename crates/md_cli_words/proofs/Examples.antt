-- What some words ask for.
use Rattle.std.proofs.Common.{◌≡◌, refl, codes, [], ◌∷◌, Some, None, Bool, true, false}
use Rattle.std.specs.Prelude.{ℕ, ℤ, pos, negsuc}
use Rattle.clap.specs.Words.{Text}
use Rattle.clap.proofs.OnLiterals.{clap_on_literals}
use Rattle.md_cli_words.specs.Words.{Order, command_of}
use Rattle.md_cli_words.specs.declared.command.Command.{Command}
use Rattle.md_cli_words.specs.declared.command.Command.TheVariants.{Audit, Rows, Check, Solve, Find, Replay, Units, Threshold, Award, Run, Report, Make}

-- a command of two files or one, within a width
abbrev of_files : Command → Text → Text → Bool → ℕ → Order
of_files command setting second has_second width =
    record { command = command; setting = setting; second = second; has_second = has_second; width = width; profile = []; first_draw = pos 0; second_draw = pos 0; number = pos 0; units = None }

-- a command of a number
abbrev of_number : Command → ℤ → Order
of_number command number =
    record { command = command; setting = []; second = []; has_second = false; width = 62; profile = []; first_draw = pos 0; second_draw = pos 0; number = number; units = None }

audit_of_two : command_of (codes "audit" ∷ codes "a" ∷ codes "b" ∷ []) ≡ Some (of_files Audit (codes "a") (codes "b") true 62)
unfolding clap_on_literals
audit_of_two = refl

audit_of_three : command_of (codes "audit" ∷ codes "a" ∷ codes "b" ∷ codes "c" ∷ []) ≡ None
unfolding clap_on_literals
audit_of_three = refl

rows_of_an_option : command_of (codes "rows" ∷ codes "-1" ∷ []) ≡ None
unfolding clap_on_literals
rows_of_an_option = refl

rows_behind_two_dashes : command_of (codes "rows" ∷ codes "--" ∷ codes "-1" ∷ []) ≡ Some (of_files Rows (codes "-1") [] false 62)
unfolding clap_on_literals
rows_behind_two_dashes = refl

solve_within_4 : command_of (codes "solve" ∷ codes "x" ∷ codes "--width" ∷ codes "4" ∷ []) ≡ Some (of_files Solve (codes "x") [] false 4)
unfolding clap_on_literals
solve_within_4 = refl

solve_within_3 : command_of (codes "solve" ∷ codes "x" ∷ codes "--width" ∷ codes "3" ∷ []) ≡ None
unfolding clap_on_literals
solve_within_3 = refl

solve_for_help : command_of (codes "solve" ∷ codes "--help" ∷ []) ≡ None
unfolding clap_on_literals
solve_for_help = refl

find_from_a_basis : command_of (codes "find" ∷ codes "x" ∷ codes "--from" ∷ codes "b" ∷ []) ≡ Some (of_files Find (codes "x") (codes "b") true 62)
unfolding clap_on_literals
find_from_a_basis = refl

find_from_none : command_of (codes "find" ∷ codes "x" ∷ []) ≡ Some (of_files Find (codes "x") [] false 62)
unfolding clap_on_literals
find_from_none = refl

find_from_nothing : command_of (codes "find" ∷ codes "x" ∷ codes "--from" ∷ []) ≡ None
unfolding clap_on_literals
find_from_nothing = refl

replay_within_the_greatest : command_of (codes "replay" ∷ codes "x" ∷ codes "p" ∷ []) ≡ Some (of_files Replay (codes "x") (codes "p") true 62)
unfolding clap_on_literals
replay_within_the_greatest = refl

no_words : command_of [] ≡ None
no_words = refl

no_name : command_of (codes "Audit" ∷ codes "a" ∷ codes "b" ∷ []) ≡ None
no_name = refl

part_of_a_name : command_of (codes "solv" ∷ codes "x" ∷ []) ≡ None
part_of_a_name = refl

run_at_two_draws : command_of (codes "run" ∷ codes "x" ∷ codes "y" ∷ codes "l,r" ∷ codes "12" ∷ codes "0" ∷ []) ≡ Some (record { command = Run; setting = codes "x"; second = codes "y"; has_second = true; width = 62; profile = codes "l,r"; first_draw = pos 12; second_draw = pos 0; number = pos 0; units = None })
unfolding clap_on_literals
run_at_two_draws = refl

run_at_one_draw : command_of (codes "run" ∷ codes "x" ∷ codes "y" ∷ codes "l,r" ∷ codes "12" ∷ []) ≡ None
unfolding clap_on_literals
run_at_one_draw = refl

run_at_no_number : command_of (codes "run" ∷ codes "x" ∷ codes "y" ∷ codes "l,r" ∷ codes "12" ∷ codes "x" ∷ []) ≡ None
unfolding clap_on_literals
run_at_no_number = refl

make_of_a_number : command_of (codes "make" ∷ codes "1000000" ∷ []) ≡ Some (of_number Make (pos 1000000))
unfolding clap_on_literals
make_of_a_number = refl

make_of_an_option : command_of (codes "make" ∷ codes "-1" ∷ []) ≡ None
unfolding clap_on_literals
make_of_an_option = refl

make_behind_two_dashes : command_of (codes "make" ∷ codes "--" ∷ codes "-1" ∷ []) ≡ Some (of_number Make (negsuc 0))
unfolding clap_on_literals
make_behind_two_dashes = refl

units_of_two_within_4 : command_of (codes "units" ∷ codes "x" ∷ codes "2" ∷ codes "--width" ∷ codes "4" ∷ []) ≡ Some (record { command = Units; setting = codes "x"; second = []; has_second = false; width = 4; profile = []; first_draw = pos 0; second_draw = pos 0; number = pos 2; units = None })
unfolding clap_on_literals
units_of_two_within_4 = refl

units_of_no_number : command_of (codes "units" ∷ codes "x" ∷ codes "x" ∷ []) ≡ None
unfolding clap_on_literals
units_of_no_number = refl

drill_of_zeros : command_of (codes "drill" ∷ codes "01" ∷ []) ≡ None
unfolding clap_on_literals
drill_of_zeros = refl

check_of_an_answer : command_of (codes "check" ∷ codes "x" ∷ codes "y" ∷ []) ≡ Some (of_files Check (codes "x") (codes "y") true 62)
unfolding clap_on_literals
check_of_an_answer = refl

check_of_two_units : command_of (codes "check" ∷ codes "x" ∷ codes "y" ∷ codes "--units" ∷ codes "2" ∷ []) ≡ Some (record (of_files Check (codes "x") (codes "y") true 62) { units = Some (pos 2) })
unfolding clap_on_literals
check_of_two_units = refl

check_without_an_answer : command_of (codes "check" ∷ codes "x" ∷ codes "--units" ∷ codes "2" ∷ []) ≡ None
unfolding clap_on_literals
check_without_an_answer = refl

faircheck_is_no_word : command_of (codes "faircheck" ∷ codes "x" ∷ codes "y" ∷ []) ≡ None
faircheck_is_no_word = refl

threshold_of_two : command_of (codes "threshold" ∷ codes "x" ∷ codes "2" ∷ []) ≡ Some (record { command = Threshold; setting = codes "x"; second = []; has_second = false; width = 62; profile = []; first_draw = pos 0; second_draw = pos 0; number = pos 2; units = None })
unfolding clap_on_literals
threshold_of_two = refl

threshold_within_a_width : command_of (codes "threshold" ∷ codes "x" ∷ codes "2" ∷ codes "--width" ∷ codes "4" ∷ []) ≡ None
unfolding clap_on_literals
threshold_within_a_width = refl

award_of_two : command_of (codes "award" ∷ codes "x" ∷ codes "2" ∷ codes "3,5" ∷ codes "1" ∷ []) ≡ Some (record { command = Award; setting = codes "x"; second = []; has_second = false; width = 62; profile = codes "3,5"; first_draw = pos 1; second_draw = pos 0; number = pos 2; units = None })
unfolding clap_on_literals
award_of_two = refl

award_without_a_draw : command_of (codes "award" ∷ codes "x" ∷ codes "2" ∷ codes "3,5" ∷ []) ≡ None
unfolding clap_on_literals
award_without_a_draw = refl

run_of_two_units : command_of (codes "run" ∷ codes "x" ∷ codes "y" ∷ codes "3,5" ∷ codes "12" ∷ codes "0" ∷ codes "--units" ∷ codes "2" ∷ []) ≡ Some (record { command = Run; setting = codes "x"; second = codes "y"; has_second = true; width = 62; profile = codes "3,5"; first_draw = pos 12; second_draw = pos 0; number = pos 0; units = Some (pos 2) })
unfolding clap_on_literals
run_of_two_units = refl

report_of_no_units : command_of (codes "report" ∷ codes "x" ∷ codes "y" ∷ codes "--units" ∷ codes "0" ∷ []) ≡ Some (record { command = Report; setting = codes "x"; second = codes "y"; has_second = true; width = 62; profile = []; first_draw = pos 0; second_draw = pos 0; number = pos 0; units = Some (pos 0) })
unfolding clap_on_literals
report_of_no_units = refl

report_of_units_in_words : command_of (codes "report" ∷ codes "x" ∷ codes "y" ∷ codes "--units" ∷ codes "two" ∷ []) ≡ None
unfolding clap_on_literals
report_of_units_in_words = refl

report_within_a_width : command_of (codes "report" ∷ codes "x" ∷ codes "y" ∷ codes "--width" ∷ codes "4" ∷ []) ≡ None
unfolding clap_on_literals
report_within_a_width = refl
