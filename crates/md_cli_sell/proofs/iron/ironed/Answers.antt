use Rattle.std.proofs.Common.{refl, inl}
use Rattle.md_cli_sell.proofs.Closed.{prints-closed}
use Rattle.md_cli_driver.proofs.Files.{auction_of}
use Rattle.md_cli_sell.proofs.iron.ironed.Goals as goal

pub returns-in_ok-write_answer-in-Optimal-clause-iron : goal.returns-in_ok-write_answer-in-Optimal-clause-iron
returns-in_ok-write_answer-in-Optimal-clause-iron c =
    let text = c.in_ok-write_answer-in-Optimal.field-0.items in
    let answer = c.in-Optimal.answer in
    let kind = auction_of c.args.file.now c.requires in
    let a = kind.0 in
    let h = rw (kind.1, c.in-Optimal.is) at c.in_ok-answer.ensures in
    let written = rw kind.1 at c.in_ok-write_answer-in-Optimal.ensures in
    rw kind.1 (inl (record {
      status = refl;
      shows = prints-closed a text answer h.closed h.one h.pays h.writable h.valid h.optimal written.auction_reads_back;
    }))
