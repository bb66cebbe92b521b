-- What the words of a call ask for. The first word names a command, and `clap` reads the rest as the arguments of that
-- command (Commands and Forms say which).
use Rattle.std.specs.Prelude.{ℕ, ℤ, pos, negsuc, Bool, true, false, ◌&&◌, nat_le, List, [], Option, Some, None, Result, Ok, Err, codes, if◌then◌else◌, option_map, option_and_then}
use Rattle.clap.specs.Words.{Row, Text, first_of}
use Rattle.md_num.specs.WholeText.{whole_of}
use Rattle.md_num.specs.declared.whole.NumRefusal.{NumRefusal}
use Rattle.md_cli_words.specs.Commands.{command_in, form_of}
use Rattle.md_cli_words.specs.Forms.{app_of_form, arguments_of}
use Rattle.md_cli_words.specs.declared.command.Command.{Command}

-- a command with what it is asked for: the names of its files, whether it has a second one, and its width, the profile and the draws at which an outcome
-- is drawn, the number of a setting or of units, and the number of units where --units asks for one
pub record Order : Type 0 where
  pub command : Command
  pub setting : Text
  pub second : Text
  pub has_second : Bool
  pub width : ℕ
  pub profile : Text
  pub first_draw : ℤ
  pub second_draw : ℤ
  pub number : ℤ
  pub units : Option ℤ

-- ---- the width

-- a number as a width: from 4 to 62
abbrev pub width_of_number : ℤ → Option ℕ
width_of_number (pos n) = if nat_le 4 n && nat_le n 62 then Some n else None
width_of_number (negsuc n) = None

abbrev pub width_read : Result ℤ NumRefusal → Option ℕ
width_read (Ok z) = width_of_number z
width_read (Err refusal) = None

-- The width that a text says: the text is a whole number's one text, as 7 and not 07 or +7, and the number is from 4
-- to 62. The 126 bits are a bound far above that.
abbrev pub width_of : Text → Option ℕ
width_of text = width_read (whole_of 126 text)

-- the width that the value of --width says; where the option is not there, the greatest one
abbrev pub width_or_greatest : Option Text → Option ℕ
width_or_greatest None = Some 62
width_or_greatest (Some text) = width_of text

-- ---- whole numbers

abbrev pub number_read : Result ℤ NumRefusal → Option ℤ
number_read (Ok z) = Some z
number_read (Err refusal) = None

-- The number that a text says, negative ones too: the text is a whole number's one text, and has at most 126 bits.
abbrev pub number_of : Text → Option ℤ
number_of text = number_read (whole_of 126 text)

-- the number that an argument says; where the argument is not there, 0
abbrev pub number_or_zero : Option Text → Option ℤ
number_or_zero None = Some (pos 0)
number_or_zero (Some text) = number_of text

-- the number that an option says; where the option is not there, none
abbrev pub number_or_none : Option Text → Option (Option ℤ)
number_or_none None = Some None
number_or_none (Some text) = option_map (λ number. Some number) (number_of text)

-- ---- the arguments that clap found, by their ids

-- a text, or the empty one
abbrev pub text_or_empty : Option Text → Text
text_or_empty None = []
text_or_empty (Some text) = text

-- The texts are empty, and the numbers 0, for a command that has no such argument, since clap finds an argument exactly where
-- the command's form has it.
abbrev pub text_in : Text → List Row → Text
text_in id found = text_or_empty (first_of id found)

-- an argument is there
abbrev pub is_told : Option Text → Bool
is_told None = false
is_told (Some text) = true

abbrev pub is_there : Text → List Row → Bool
is_there id found = is_told (first_of id found)

abbrev pub number_in : Text → List Row → Option ℤ
number_in id found = number_or_zero (first_of id found)

abbrev pub units_in : List Row → Option (Option ℤ)
units_in found = number_or_none (first_of (codes "units") found)

abbrev pub width_in : List Row → Option ℕ
width_in found = width_or_greatest (first_of (codes "width") found)

-- the order with these numbers
abbrev pub order_with : Command → List Row → ℕ → ℤ → ℤ → ℤ → Option ℤ → Order
order_with command found width first second number units = record {
  command = command;
  setting = text_in (codes "first") found;
  second = text_in (codes "second") found;
  has_second = is_there (codes "second") found;
  width = width;
  profile = text_in (codes "profile") found;
  first_draw = first;
  second_draw = second;
  number = number;
  units = units;
}

-- a command with the arguments that were found; none where a width, a draw or a number, also of units, is no such text
abbrev pub order_of_found : Command → List Row → Option Order
order_of_found command found =
    option_and_then
    (λ width. option_and_then
    (λ first. option_and_then
    (λ second. option_and_then (λ number. option_map (order_with command found width first second number) (units_in found)) (number_in (codes "number") found))
    (number_in (codes "second_draw") found))
    (number_in (codes "first_draw") found))
    (width_in found)

-- ---- the words

-- What the words ask of a command. None where clap refuses them, or a width, a draw or a number is refused.
abbrev pub order_in : Command → List Text → Option Order
order_in command words = option_and_then (order_of_found command) (arguments_of (app_of_form (form_of command)) words)

-- What the words of a call ask for. None where they are no command: by the first word, or by the rest.
abbrev pub command_of : List Text → Option Order
command_of words = option_and_then (λ command. order_in command words) (command_in words)
