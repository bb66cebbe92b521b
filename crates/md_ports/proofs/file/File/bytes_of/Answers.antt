use Rattle.std.proofs.Common.{sym, ap, Some, ◌∙◌}
use Rattle.md_ports.proofs.FirstNamed.{content_in-first}
use Rattle.md_ports.proofs.file.File.bytes_of.Goals as goal

pub returns-in-Some : goal.returns-in-Some
returns-in-Some c =
    let f = c.index-files-at.result in
    ap Some c.as_slice.ensures.value ∙ sym (content_in-first c.args.files.now c.args.name.now c.in-Some.at f (c.in-Some.ensures.1 f))
