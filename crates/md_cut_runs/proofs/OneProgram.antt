-- What is shown of a program is shown of each that is the same.
use Rattle.std.proofs.Common.{◌<◌, ℤ, List, sym, ◌∙◌, subst}
use Rattle.md_lp.specs.Program.{Program}
use Rattle.md_lp.proofs.SamePrograms.{IsSameProgram}
use Rattle.md_cert.specs.Fitting.{Fits, FitsBound, FitsColumns, FitsRows}
use Rattle.md_cert.specs.declared.bound.Bound.{Bound}
use Rattle.md_cert.specs.declared.certificate.Certificate.{Certificate}
use Rattle.md_cert.specs.declared.certificate.Certificate.TheVariants.{Optimal, Infeasible, Unbounded}
use Rattle.md_cert.proofs.SameCertificates.{certified-same}
use Rattle.md_simplex.proofs.SamePaths.{first_wide-same}
use Rattle.md_simplex.proofs.SameRuns.{run-same}
use Rattle.md_cut_runs.specs.Cutting.{IsShownOf}

module _ (p q : Program) (same : IsSameProgram p q) where
  columns-same : (numbers : List ℤ) → FitsColumns p numbers → FitsColumns q numbers
  columns-same numbers f = record {
    one_each = f.one_each ∙ same.columns;
    sizes = f.sizes;
    nonneg = λ j l. f.nonneg j (subst (λ n. j < n) (sym same.columns) l);
  }

  rows-same : (numbers : List ℤ) → FitsRows p numbers → FitsRows q numbers
  rows-same numbers f = record { one_each = f.one_each ∙ same.rows; sizes = f.sizes }

  bound-same : (bound : Bound) → FitsBound p bound → FitsBound q bound
  bound-same bound f = record { den = f.den; main = rows-same bound.main f.main; face = rows-same bound.face f.face }

  fits-same : (c : Certificate) → Fits p c → Fits q c
  fits-same (Optimal den point bound) f = (f.0, columns-same point f.1, bound-same bound f.2)
  fits-same (Infeasible face) f = rows-same face f
  fits-same (Unbounded den point ray) f = (f.0, columns-same point f.1, columns-same ray f.2)

  pub shown-of : IsShownOf p q
  shown-of = record {
    run = run-same p q same;
    wide = λ order width wide h. first_wide-same p q same order width wide.path wide.entry h;
    certified = certified-same p q same;
    fits = fits-same;
  }
