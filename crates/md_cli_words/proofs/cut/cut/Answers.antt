use Rattle.std.proofs.Common.{map, string_bytes}
use Rattle.clap.specs.Words.{app_of, found_of, rows_of}
use Rattle.md_cli_words.proofs.Cuts.{arguments_of-taken, is_simple-free}
use Rattle.md_cli_words.proofs.cut.cut.Goals as goal

pub returns-in-Ok : goal.returns-in-Ok
returns-in-Ok c =
    let app = app_of c.args.command in
    arguments_of-taken app (map string_bytes c.args.words.now) (rows_of (found_of c.in-Ok.matches))
    (c.in-Ok.ensures.kinds c.requires) (c.in-Ok.ensures.matches (is_simple-free app c.requires)).0
