use Rattle.std.proofs.Common.{◌∙◌, ap, map, option_map, string_bytes, Some, None, refl}
use Rattle.clap.specs.Words.{app_of, found_of, rows_of, is_simple_and_free}
use Rattle.md_cli_words.specs.Orders.{asked}
use Rattle.md_cli_words.proofs.Cuts.{app_of_form-simple}
use Rattle.md_cli_words.proofs.Orders.{reader_of-form, order_in-found}
use Rattle.md_cli_words.proofs.order.order_for.Goals as goal

pub cut-requires : goal.cut-requires
cut-requires c = ap is_simple_and_free c.in_ok-reader.ensures ∙ app_of_form-simple c.form.result

pub returns-in-Ok-Some : goal.returns-in-Ok-Some
returns-in-Ok-Some c =
    let cut = rw c.in-Ok-Some.field-0-is at c.in-Ok-Some.ensures in
    order_in-found c.args.command (app_of c.in_ok-reader.reader) (map string_bytes c.args.words.now)
    (Some (rows_of (found_of c.in-Ok-Some.matches))) (option_map asked c.order_from.result)
    (reader_of-form c.args.command c.form.result (app_of c.in_ok-reader.reader) c.in_ok-reader.ensures c.form.ensures)
    cut c.order_from.ensures

pub returns-in-Ok-None : goal.returns-in-Ok-None
returns-in-Ok-None c =
    let cut = rw c.in-Ok-None.field-0-is at c.in-Ok-None.ensures in
    order_in-found c.args.command (app_of c.in_ok-reader.reader) (map string_bytes c.args.words.now) None None
    (reader_of-form c.args.command c.form.result (app_of c.in_ok-reader.reader) c.in_ok-reader.ensures c.form.ensures)
    cut refl
