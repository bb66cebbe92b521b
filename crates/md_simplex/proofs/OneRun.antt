-- A program and a width have at most one run: one taken path, one last dictionary, and one certificate that is read off it.
use Rattle.std.proofs.Common.{◌≡◌, ℕ, List, Result, Ok, Err, IfOk, sym, ap₂, subst}
use Rattle.md_lp.specs.Program.{Program, row_count}
use Rattle.md_lp.specs.declared.pivot.Pivot.{Pivot}
use Rattle.md_cert.specs.declared.certificate.Certificate.{Certificate}
use Rattle.md_dict.specs.FirstTable.{column_count, first_entry}
use Rattle.md_dict.proofs.Uniqueness.{same_entries}
use Rattle.md_simplex.specs.declared.end.End.{End}
use Rattle.md_simplex.specs.declared.order.Order.{Order}
use Rattle.md_simplex.specs.declared.simplex_error.SimplexError.{SimplexError}
use Rattle.md_simplex.specs.declared.step.Step.{Step}
use Rattle.md_simplex.specs.Reading.{IsLast}
use Rattle.md_simplex.specs.Runs.{IsPathOf, IsReadAfter, IsRun, basis_of}
use Rattle.md_simplex.proofs.OneNext.{IsNext-same}
use Rattle.md_simplex.proofs.ReadSame.{one_reading_of_basis}
use Rattle.md_simplex.proofs.RunLaws.{one_taken}

abbrev make_end : List Pivot → Certificate → End
make_end path certificate = record { path = path; certificate = certificate }

module _ (p : Program) where
  -- the path ends at each dictionary of the last basis
  last_there : (order : Order) (pivots : List Pivot) (step : Step) (certificate : Certificate) → IsPathOf order p pivots step → (h : IsReadAfter p pivots step certificate) → IsLast (row_count p) (column_count p) h.table step
  last_there order pivots step certificate path h = record {
    order = order;
    next = IsNext-same (row_count p) (column_count p) path.last.table h.table
        (same_entries (row_count p) (column_count p) (first_entry p) (basis_of p pivots) path.last.den h.den path.last.table h.table path.last.dictionary h.dictionary)
        order step path.last.next;
    ends = path.ends;
  }

  one_certificate : (order : Order) (pivots : List Pivot) (step : Step) (a b : Certificate) → IsPathOf order p pivots step → IsReadAfter p pivots step a → IsReadAfter p pivots step b → a ≡ b
  one_certificate order pivots step a b path h k =
      one_reading_of_basis p (basis_of p pivots) h.den k.den h.table k.table step a b h.dictionary k.dictionary (last_there order pivots step a path h) h.reading k.reading

  pub one_run : (width : ℕ) (a b : End) → IsRun p width a → IsRun p width b → a ≡ b
  one_run width a b h k =
      let both : (a.path ≡ b.path) × (h.run.step ≡ k.run.step) = one_taken p width h.order k.order a.path b.path h.run.step k.run.step h.tried k.tried h.run.whole h.run.narrow k.run.whole k.run.narrow in
      let turned : IsReadAfter p a.path h.run.step b.certificate =
      subst (λ pivots. IsReadAfter p pivots h.run.step b.certificate) (sym both.0) (subst (λ step. IsReadAfter p b.path step b.certificate) (sym both.1) k.run.read) in
      ap₂ make_end both.0 (one_certificate h.order a.path h.run.step a.certificate b.certificate h.run.whole h.run.read turned)

  -- so the end is decided
  pub decided_end : (width : ℕ) (result : Result End SimplexError) → IfOk result (IsRun p width) → (other : End) → IsRun p width other → IfOk result (λ end. end ≡ other)
  decided_end width (Ok end) run other h = one_run width end other run h
  decided_end width (Err error) run other h = tt
