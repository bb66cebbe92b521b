-- From the arguments that clap found to what the words ask.
use Rattle.std.proofs.Common.{◌≡◌, ap, ◌∙◌, List, Option}
use Rattle.std.specs.Prelude.{option_and_then}
use Rattle.clap.specs.Words.{App, Row, Text}
use Rattle.md_cli_words.specs.Commands.{form_of}
use Rattle.md_cli_words.specs.Forms.{app_of_form, arguments_of}
use Rattle.md_cli_words.specs.Words.{Order, order_in, order_of_found}
use Rattle.md_cli_words.specs.declared.command.Command.{Command}
use Rattle.md_cli_words.specs.declared.form.Form.{Form}

-- the command of clap that reads the arguments of a command
pub reader_of-form : (command : Command) (form : Form) (app : App) → app ≡ app_of_form form → form ≡ form_of command
    → app ≡ app_of_form (form_of command)
reader_of-form command form app reads is_form = reads ∙ ap app_of_form is_form

-- what was made of the arguments that clap found is what the words ask
pub order_in-found : (command : Command) (app : App) (words : List Text) (arguments : Option (List Row)) (order : Option Order)
    → app ≡ app_of_form (form_of command) → arguments ≡ arguments_of app words
    → order ≡ option_and_then (order_of_found command) arguments → order ≡ order_in command words
order_in-found command app words arguments order reads found given =
    given ∙ ap (option_and_then (order_of_found command)) (found ∙ ap (λ a. arguments_of a words) reads)
