-- What is read off the end of a taken path is certified.
use Rattle.std.proofs.Common.{ℕ, refl, subst}
use Rattle.md_lp.specs.Program.{Program, row_count}
use Rattle.md_cert.specs.Certified.{Certified}
use Rattle.md_dict.specs.FirstTable.{column_count, first_basis, first_entry}
use Rattle.md_dict.proofs.Uniqueness.{same_dens, same_entries}
use Rattle.md_simplex.specs.declared.end.End.{End}
use Rattle.md_simplex.specs.Reading.{HasRightSides, IsLast, IsReading}
use Rattle.md_simplex.specs.Runs.{IsRun, basis_of}
use Rattle.md_simplex.proofs.FirstRows.{IsPositiveBasis-first}
use Rattle.md_simplex.proofs.PathLaws.{IsPositiveBasis-path}
use Rattle.md_simplex.proofs.ReadCertified.{last_in, reading_certified}
use Rattle.md_simplex.proofs.ReadDictionary.{HasRightSides-positive}
use Rattle.md_simplex.proofs.ReadSame.{reading-same}

pub run-certified : (p : Program) (width : ℕ) (end : End) → IsRun p width end → Certified p end.certificate
run-certified p width end h =
    let here = h.run.whole.last in
    let read = h.run.read in
    let m = row_count p in
    let n = column_count p in
    let basis = basis_of p end.path in
    let last : IsLast m n here.table h.run.step = record { order = h.order; next = here.next; ends = h.run.whole.ends } in
    let sides : HasRightSides m n here.table =
    HasRightSides-positive m n here.table
    ((IsPositiveBasis-path h.order m n (first_entry p) (first_basis p) end.path (IsPositiveBasis-first h.order p) h.run.whole.path).rows here.den here.table here.dictionary) in
    let reading : IsReading p basis here.den here.table h.run.step end.certificate =
    subst (λ den. IsReading p basis den here.table h.run.step end.certificate)
    (same_dens m n (first_entry p) basis read.den here.den read.table here.table read.dictionary here.dictionary)
    (reading-same p basis basis read.den read.table here.table (λ i a. refl)
    (same_entries m n (first_entry p) basis read.den here.den read.table here.table read.dictionary here.dictionary)
    h.run.step end.certificate (last_in m n here.table h.run.step last) read.reading) in
    reading_certified p basis here.den here.table here.dictionary.scaled sides h.run.step end.certificate last reading
