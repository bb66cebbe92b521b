-- What is read off where the path ends.
use Rattle.std.proofs.Common.{refl, ◌≡◌, ℕ, ◌<◌, sym, subst, arith}
use Rattle.md_lp.specs.Program.{Program, row_count}
use Rattle.md_cert.specs.declared.certificate.Certificate.{Certificate}
use Rattle.md_dict.specs.Condensed.{basic_at, entry_at}
use Rattle.md_dict.specs.FirstTable.{column_count, first_entry, first_basis}
use Rattle.md_simplex.specs.declared.order.Order.{Order}
use Rattle.md_simplex.specs.declared.step.Step.TheVariants as steps
use Rattle.md_simplex.specs.declared.walk.Walked.{Walked}
use Rattle.md_simplex.specs.Reading.{HasRightSides, IsLast, IsReading}
use Rattle.md_simplex.specs.Runs.{IsRunIn, basis_of}
use Rattle.md_simplex.specs.Walk.{IsWalked}
use Rattle.md_simplex.proofs.FirstRows.{IsPositiveBasis-first}
use Rattle.md_simplex.proofs.PathLaws.{IsPositiveBasis-path, entering_in}
use Rattle.md_simplex.proofs.PositiveRows.{HasPositiveRows}
use Rattle.md_simplex.proofs.ReadDictionary.{HasRightSides-positive}
use Rattle.md_simplex.proofs.ReadSame.{reading-same}
use Rattle.md_simplex.specs.Rules.{IsNext}
use Rattle.md_simplex.proofs.WalkLaws.{here_dictionary, here_narrow, here_next}

-- ---- the last dictionary

module _ (order : Order) (p : Program) (width : ℕ) (walked : Walked) (h : IsWalked order p width walked) where
  last_positive : HasPositiveRows (row_count p) (column_count p) (entry_at walked.dict)
  last_positive =
      (IsPositiveBasis-path order (row_count p) (column_count p) (first_entry p) (first_basis p) walked.path (IsPositiveBasis-first order p) h.reached.path).rows
      walked.dict.den (entry_at walked.dict) (here_dictionary order p width walked.path walked.dict h.reached)

  pub last_rights : HasRightSides walked.dict.rows walked.dict.columns (entry_at walked.dict)
  last_rights =
      subst (λ n. HasRightSides walked.dict.rows n (entry_at walked.dict)) (sym h.reached.holds.columns)
      (subst (λ m. HasRightSides m (column_count p) (entry_at walked.dict)) (sym h.reached.holds.rows) (HasRightSides-positive (row_count p) (column_count p) (entry_at walked.dict) last_positive))

  pub last_step : IsLast walked.dict.rows walked.dict.columns (entry_at walked.dict) walked.step
  last_step = record { order = order; next = h.next; ends = h.ends }

-- so it is a run over the path of the order
pub IsRunIn-walked : (order : Order) (p : Program) (width : ℕ) (walked : Walked) (certificate : Certificate) → IsWalked order p width walked → IsReading p (basic_at walked.dict) walked.dict.den (entry_at walked.dict) walked.step certificate → IsRunIn order p width (record { path = walked.path; certificate = certificate })
IsRunIn-walked order p width walked certificate h read = record {
  step = walked.step;
  whole = record {
    path = h.reached.path;
    last = here_next order p width walked.path walked.dict walked.step h.reached h.next;
    ends = h.ends;
  };
  narrow = record {
    before = h.reached.before;
    last = here_narrow order p width walked.path walked.dict h.reached;
  };
  read = record {
    den = walked.dict.den;
    table = entry_at walked.dict;
    dictionary = here_dictionary order p width walked.path walked.dict h.reached;
    reading =
        reading-same p (basic_at walked.dict) (basis_of p walked.path) walked.dict.den (entry_at walked.dict) (entry_at walked.dict)
        (λ i a. h.reached.basis i (let e : walked.dict.rows ≡ row_count p = h.reached.holds.rows in omega (arith, e, a))) (λ r j a b. refl)
        walked.step certificate (inside h) read;
  };
}
  where
    inside : IsWalked order p width walked → (column : ℕ) → walked.step ≡ steps.Unbounded column → column < column_count p
    inside h column e =
        let next : IsNext order walked.dict.rows walked.dict.columns (entry_at walked.dict) (steps.Unbounded column) = subst (IsNext order walked.dict.rows walked.dict.columns (entry_at walked.dict)) e h.next in
        let b : column < walked.dict.columns = entering_in order walked.dict.rows walked.dict.columns (entry_at walked.dict) column next.0 in
        let c : walked.dict.columns ≡ column_count p = h.reached.holds.columns in
        omega (arith, b, c)
