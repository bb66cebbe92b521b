use Rattle.std.proofs.Common.{refl, sym, arith}
use Rattle.md_ports.proofs.FirstNamed.{counts_fault-set}
use Rattle.md_ports.proofs.file.File.raise.Goals as goal

pub returns : goal.returns
returns c =
    let f = c.index_mut-file.result.now in
    counts_fault-set c.args.files.now.items c.args.name.now c.in-Some.at f _ (rw (sym c.deref.ensures.value) (c.in-Some.ensures.1 f)) c.index_mut-file.ensures.value refl refl c.saturating_add-file.ensures (omega arith)
