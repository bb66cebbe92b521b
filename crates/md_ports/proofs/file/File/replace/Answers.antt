use Rattle.std.proofs.Common.{refl, sym}
use Rattle.md_ports.proofs.FirstNamed.{replaces-set}
use Rattle.md_ports.proofs.file.File.replace.Goals as goal

pub returns : goal.returns
returns c =
    let f = c.index_mut-file.result.now in
    replaces-set c.args.files.now.items c.args.name.now c.in-Some.at f _ (rw (sym c.deref.ensures.value) (c.in-Some.ensures.1 f)) c.index_mut-file.ensures.value refl refl
