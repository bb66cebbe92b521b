-- A basis gives one certificate: what is read depends on its columns and entries alone.
use Rattle.std.proofs.Common.{◌≡◌, ℕ, ◌+◌, ◌<◌, ℤ, ◌*ℤ◌, neg_ℤ, refl, sym, ap, ◌∙◌, subst, arith}
use Rattle.md_lp.specs.Program.{Program, row_count}
use Rattle.md_cert.specs.declared.certificate.Certificate.{Certificate}
use Rattle.md_cert.specs.declared.certificate.Certificate.TheVariants as certificates
use Rattle.md_dict.specs.Dictionary.{IsDictionary}
use Rattle.md_dict.specs.FirstTable.{column_count, sign_at, first_entry}
use Rattle.md_dict.proofs.Uniqueness.{same_dens, same_entries}
use Rattle.md_simplex.specs.declared.step.Step.{Step}
use Rattle.md_simplex.specs.declared.step.Step.TheVariants as steps
use Rattle.md_simplex.specs.Reading.{IsAtBasis, IsReadRay, multiplier_at, face_multiplier, main_multiplier, IsReading, IsLast}
use Rattle.md_simplex.proofs.Reduced.{list-of_same, over-of_same}
use Rattle.md_simplex.proofs.ReadCertified.{last_in}
use Rattle.md_simplex.proofs.ReadFits.{one_reading}

-- ---- tables with the same basic columns and the same entries

module _ (p : Program) (b c : ℕ → ℕ) (d : ℤ) (e f : ℕ → ℕ → ℤ) (columns_same : (i : ℕ) → i < row_count p → b i ≡ c i) (entries_same : (r j : ℕ) → r < row_count p + 2 → j < column_count p + row_count p + 1 → e r j ≡ f r j) where
  at_basis-same : (v w x : ℕ → ℤ) → ((r : ℕ) → r < row_count p → v r ≡ w r) → IsAtBasis p.columns (row_count p) b v x → IsAtBasis p.columns (row_count p) c w x
  at_basis-same v w x same h = record {
    basic = λ r a l. ap x (sym (columns_same r a)) ∙ h.basic r a (subst (λ i. i < p.columns) (sym (columns_same r a)) l) ∙ same r a;
    other = λ j l none. h.other j l (λ r a q. none r a (sym (columns_same r a) ∙ q));
  }

  ray-same : (column : ℕ) (x : ℕ → ℤ) → column < column_count p → IsReadRay p b d e column x → IsReadRay p c d f column x
  ray-same column x inside h = record {
    entering = h.entering;
    basic = λ r a l.
        ap x (sym (columns_same r a)) ∙ h.basic r a (subst (λ i. i < p.columns) (sym (columns_same r a)) l)
        ∙ ap neg_ℤ (entries_same r column (omega arith) (omega arith));
    other = λ j l o none. h.other j l o (λ r a q. none r a (sym (columns_same r a) ∙ q));
  }

  multiplier-same : (row : ℕ) → row < row_count p + 2 → (k : ℕ) → k < row_count p → multiplier_at p e row k ≡ multiplier_at p f row k
  multiplier-same row a k l = ap (λ z. sign_at p k *ℤ z) (entries_same row (column_count p + k) a (omega arith))

  face-same : (k : ℕ) → k < row_count p → face_multiplier p e k ≡ face_multiplier p f k
  face-same k l = multiplier-same (row_count p) (omega arith) k l

  main-same : (k : ℕ) → k < row_count p → main_multiplier p e k ≡ main_multiplier p f k
  main-same k l = multiplier-same (row_count p + 1) (omega arith) k l

  right-same : (r : ℕ) → r < row_count p → e r (column_count p + row_count p) ≡ f r (column_count p + row_count p)
  right-same r a = entries_same r (column_count p + row_count p) (omega arith) (omega arith)

  pub reading-same : (step : Step) (given : Certificate) → ((column : ℕ) → step ≡ steps.Unbounded column → column < column_count p) → IsReading p b d e step given → IsReading p c d f step given
  reading-same steps.Optimal (certificates.Optimal over point bound) inside h = (
    record { x = h.0.x; read = at_basis-same (λ r. e r (column_count p + row_count p)) (λ r. f r (column_count p + row_count p)) h.0.x right-same h.0.read; divided = h.0.divided },
    record {
      main = over-of_same (row_count p) d (main_multiplier p e) (main_multiplier p f) bound.den bound.main main-same h.1.main;
      face = list-of_same (row_count p) (face_multiplier p e) (face_multiplier p f) bound.face face-same h.1.face;
    },
  )
  reading-same steps.Infeasible (certificates.Infeasible face) inside h = list-of_same (row_count p) (face_multiplier p e) (face_multiplier p f) face face-same h
  reading-same (steps.Unbounded column) (certificates.Unbounded over point ray) inside h = (
    record { x = h.0.x; read = at_basis-same (λ r. e r (column_count p + row_count p)) (λ r. f r (column_count p + row_count p)) h.0.x right-same h.0.read; divided = h.0.divided },
    record { x = h.1.x; read = ray-same column h.1.x (inside column refl) h.1.read; divided = h.1.divided },
  )
  reading-same (steps.Pivot q) given inside h = absurd h
  reading-same steps.Optimal (certificates.Infeasible face) inside h = absurd h
  reading-same steps.Optimal (certificates.Unbounded over point ray) inside h = absurd h
  reading-same steps.Infeasible (certificates.Optimal over point bound) inside h = absurd h
  reading-same steps.Infeasible (certificates.Unbounded over point ray) inside h = absurd h
  reading-same (steps.Unbounded column) (certificates.Optimal over point bound) inside h = absurd h
  reading-same (steps.Unbounded column) (certificates.Infeasible face) inside h = absurd h

-- ---- dictionaries of one basis

-- the certificate of one dictionary of a basis is that of each
pub reading_of_basis : (p : Program) (basis : ℕ → ℕ) (d g : ℤ) (e f : ℕ → ℕ → ℤ) (step : Step) (given : Certificate) → IsDictionary (row_count p) (column_count p) (first_entry p) basis d e → IsDictionary (row_count p) (column_count p) (first_entry p) basis g f → IsLast (row_count p) (column_count p) e step → IsReading p basis d e step given → IsReading p basis g f step given
reading_of_basis p basis d g e f step given h k last q =
    subst (λ z. IsReading p basis z f step given) (same_dens (row_count p) (column_count p) (first_entry p) basis d g e f h k)
    (reading-same p basis basis d e f (λ i a. refl) (same_entries (row_count p) (column_count p) (first_entry p) basis d g e f h k) step given (last_in (row_count p) (column_count p) e step last) q)

-- so two dictionaries of a basis give one certificate
pub one_reading_of_basis : (p : Program) (basis : ℕ → ℕ) (d g : ℤ) (e f : ℕ → ℕ → ℤ) (step : Step) (a b : Certificate) → IsDictionary (row_count p) (column_count p) (first_entry p) basis d e → IsDictionary (row_count p) (column_count p) (first_entry p) basis g f → IsLast (row_count p) (column_count p) e step → IsReading p basis d e step a → IsReading p basis g f step b → a ≡ b
one_reading_of_basis p basis d g e f step a b h k last q r = one_reading p basis g f step a b (reading_of_basis p basis d g e f step a h k last q) r
