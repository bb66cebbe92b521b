-- The forms of arguments, each with the simple command of clap that reads it.
--
-- clap sees an argument as a rule. `new_rule id`, its rule of `Arg::new(id)`, says no more than that the argument is
-- found under this id: it is known by its place among the words, takes one value, and need not be there. What is
-- written below is all that differs from that.
use Rattle.std.specs.Prelude.{◌==◌, List, length, Option, Some, None, true, codes, if◌then◌else◌}
use Rattle.clap.specs.Words.{App, Row, Rule, Text, fault_of, matches_of, new_app, new_rule, with_rule}
use Rattle.md_cli_words.specs.declared.form.Form.{Form}
use Rattle.md_cli_words.specs.declared.form.Form.TheVariants.{One, OneWidth, OneBasis, Two, TwoWidth, TwoUnits, NumberWidth, OneNumber, NumberDraw, Draws, Number}

-- an argument known by its place, which has to be there
abbrev pub place_rule : Text → Rule
place_rule id = record (new_rule id) { required = true }

-- the option --width, which takes one value and need not be there
abbrev pub width_rule : Rule
width_rule = record (new_rule (codes "width")) { long = Some (codes "width") }

-- the option --units, likewise
abbrev pub units_rule : Rule
units_rule = record (new_rule (codes "units")) { long = Some (codes "units") }

-- the option --from, which takes the name of the second file
abbrev pub from_rule : Rule
from_rule = record (new_rule (codes "second")) { long = Some (codes "from") }

-- no argument
abbrev pub no_place : App
no_place = new_app (codes "mechdes")

-- one more argument that is known by its place
abbrev pub with_place : App → Text → App
with_place app id = with_rule app (place_rule id)

-- two more, the names of files, or the name of a file and a number; and a profile with one draw more, or with two
abbrev pub with_files : App → App
with_files app = with_place (with_place app (codes "first")) (codes "second")

abbrev pub with_number : App → App
with_number app = with_place (with_place app (codes "first")) (codes "number")

abbrev pub with_draw : App → App
with_draw app = with_place (with_place app (codes "profile")) (codes "first_draw")

abbrev pub with_draws : App → App
with_draws app = with_place (with_draw app) (codes "second_draw")

-- the command of clap that reads arguments of a form
abbrev pub app_of_form : Form → App
app_of_form One = with_place no_place (codes "first")
app_of_form OneWidth = with_rule (with_place no_place (codes "first")) width_rule
app_of_form OneBasis = with_rule (with_place no_place (codes "first")) from_rule
app_of_form Two = with_files no_place
app_of_form TwoWidth = with_rule (with_files no_place) width_rule
app_of_form TwoUnits = with_rule (with_files no_place) units_rule
app_of_form NumberWidth = with_rule (with_number no_place) width_rule
app_of_form OneNumber = with_number no_place
app_of_form NumberDraw = with_draw (with_number no_place)
app_of_form Draws = with_rule (with_draws (with_files no_place)) units_rule
app_of_form Number = with_place no_place (codes "number")

-- The arguments that a command of clap finds in the words: a row for each, with its id and values. None where it
-- refuses the words, be it by a call for help.
--
-- Both words are clap's own: `fault_of` lists the reasons to refuse, and `matches_of` gives the rows. Each passes over
-- the first of the words, since the program's name stands there for clap. Here it is the word that named the command.
abbrev pub arguments_of : App → List Text → Option (List Row)
arguments_of app words = if length (fault_of app words) == 0 then Some (matches_of app words) else None
