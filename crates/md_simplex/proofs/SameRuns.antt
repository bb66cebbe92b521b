-- Programs with the same numbers at the same places have the same run.
use Rattle.std.proofs.Common.{◌≡◌, ℕ, ◌+◌, ◌<◌, ℤ, ◌*ℤ◌, List, sym, ap, ◌∙◌, subst}
use Rattle.md_lp.specs.declared.pivot.Pivot.{Pivot}
use Rattle.md_lp.specs.Program.{Program, row_count}
use Rattle.md_lp.proofs.SamePrograms.{IsSameProgram}
use Rattle.md_cert.specs.declared.bound.Bound.{Bound}
use Rattle.md_cert.specs.declared.certificate.Certificate.{Certificate}
use Rattle.md_cert.specs.declared.certificate.Certificate.TheVariants as certificates
use Rattle.md_dict.specs.Dictionary.{IsDictionary}
use Rattle.md_dict.specs.FirstTable.{column_count, sign_at}
use Rattle.md_simplex.specs.declared.end.End.{End}
use Rattle.md_simplex.specs.declared.step.Step.{Step}
use Rattle.md_simplex.specs.declared.step.Step.TheVariants as steps
use Rattle.md_simplex.specs.Path.{basis_after}
use Rattle.md_simplex.specs.Reading.{IsAtBasis, IsReadPoint, IsReadRay, IsReadList, IsReadOver, IsPointReading, IsBoundReading, IsRayReading, IsReading, multiplier_at, face_multiplier, main_multiplier}
use Rattle.md_simplex.specs.Runs.{IsReadAfter, IsRun, basis_of}
use Rattle.md_simplex.proofs.Reduced.{list-of_same, over-of_same}
use Rattle.md_simplex.proofs.SamePaths.{carry, count-same, dictionary-same, narrow-same, path_of-same, sign-same, tried-same}

module _ (p q : Program) (h : IsSameProgram p q) where
  -- ---- what is read off one dictionary

  point-same : (basis : ℕ → ℕ) (e : ℕ → ℕ → ℤ) (x : ℕ → ℤ) → IsReadPoint p basis e x → IsReadPoint q basis e x
  point-same basis e x given =
      subst (λ c. IsAtBasis c (row_count q) basis (λ r. e r (column_count q + row_count q)) x) h.columns
      (subst (λ m. IsAtBasis p.columns m basis (λ r. e r (column_count q + m)) x) h.rows
      (subst (λ n. IsAtBasis p.columns (row_count p) basis (λ r. e r (n + row_count p)) x) (count-same p q h) given))

  multiplier-same : (e : ℕ → ℕ → ℤ) (row k : ℕ) → multiplier_at p e row k ≡ multiplier_at q e row k
  multiplier-same e row k = ap (λ z. z *ℤ e row (column_count p + k)) (sign-same p q h k) ∙ ap (λ n. sign_at q k *ℤ e row (n + k)) (count-same p q h)

  face-same : (e : ℕ → ℕ → ℤ) (k : ℕ) → face_multiplier p e k ≡ face_multiplier q e k
  face-same e k = multiplier-same e (row_count p) k ∙ ap (λ m. multiplier_at q e m k) h.rows

  main-same : (e : ℕ → ℕ → ℤ) (k : ℕ) → main_multiplier p e k ≡ main_multiplier q e k
  main-same e k = multiplier-same e (row_count p + 1) k ∙ ap (λ m. multiplier_at q e (m + 1) k) h.rows

  faces-same : (e : ℕ → ℕ → ℤ) (face : List ℤ) → IsReadList (row_count p) (face_multiplier p e) face → IsReadList (row_count q) (face_multiplier q e) face
  faces-same e face given =
      subst (λ m. IsReadList m (face_multiplier q e) face) h.rows (list-of_same (row_count p) (face_multiplier p e) (face_multiplier q e) face (λ k l. face-same e k) given)

  point_reading-same : (basis : ℕ → ℕ) (den : ℤ) (e : ℕ → ℕ → ℤ) (over : ℤ) (point : List ℤ) → IsPointReading p basis den e over point → IsPointReading q basis den e over point
  point_reading-same basis den e over point given = record {
    x = given.x;
    read = point-same basis e given.x given.read;
    divided = subst (λ c. IsReadOver c den given.x over point) h.columns given.divided;
  }

  bound-same : (den : ℤ) (e : ℕ → ℕ → ℤ) (bound : Bound) → IsBoundReading p den e bound → IsBoundReading q den e bound
  bound-same den e bound given = record {
    main = subst (λ m. IsReadOver m den (main_multiplier q e) bound.den bound.main) h.rows
        (over-of_same (row_count p) den (main_multiplier p e) (main_multiplier q e) bound.den bound.main (λ k l. main-same e k) given.main);
    face = faces-same e bound.face given.face;
  }

  ray-same : (basis : ℕ → ℕ) (den : ℤ) (e : ℕ → ℕ → ℤ) (column : ℕ) (x : ℕ → ℤ) → IsReadRay p basis den e column x → IsReadRay q basis den e column x
  ray-same basis den e column x given = record {
    entering = λ l. given.entering (subst (λ c. column < c) (sym h.columns) l);
    basic = λ r a l. given.basic r (subst (λ m. r < m) (sym h.rows) a) (subst (λ c. basis r < c) (sym h.columns) l);
    other = λ j l apart none. given.other j (subst (λ c. j < c) (sym h.columns) l) apart (λ r a. none r (subst (λ m. r < m) h.rows a));
  }

  ray_reading-same : (basis : ℕ → ℕ) (den : ℤ) (e : ℕ → ℕ → ℤ) (column : ℕ) (ray : List ℤ) → IsRayReading p basis den e column ray → IsRayReading q basis den e column ray
  ray_reading-same basis den e column ray given = record {
    x = given.x;
    read = ray-same basis den e column given.x given.read;
    divided = subst (λ c. IsReadList c given.x ray) h.columns given.divided;
  }

  reading-same : (basis : ℕ → ℕ) (den : ℤ) (e : ℕ → ℕ → ℤ) (step : Step) (c : Certificate) → IsReading p basis den e step c → IsReading q basis den e step c
  reading-same basis den e steps.Optimal (certificates.Optimal over point bound) given = (point_reading-same basis den e over point given.0, bound-same den e bound given.1)
  reading-same basis den e steps.Infeasible (certificates.Infeasible face) given = faces-same e face given
  reading-same basis den e (steps.Unbounded column) (certificates.Unbounded over point ray) given = (point_reading-same basis den e over point given.0, ray_reading-same basis den e column ray given.1)
  reading-same basis den e (steps.Pivot pivot) c given = absurd given
  reading-same basis den e steps.Optimal (certificates.Infeasible face) given = absurd given
  reading-same basis den e steps.Optimal (certificates.Unbounded over point ray) given = absurd given
  reading-same basis den e steps.Infeasible (certificates.Optimal over point bound) given = absurd given
  reading-same basis den e steps.Infeasible (certificates.Unbounded over point ray) given = absurd given
  reading-same basis den e (steps.Unbounded column) (certificates.Optimal over point bound) given = absurd given
  reading-same basis den e (steps.Unbounded column) (certificates.Infeasible face) given = absurd given

  -- ---- whole paths

  read-same : (pivots : List Pivot) (step : Step) (c : Certificate) → IsReadAfter p pivots step c → IsReadAfter q pivots step c
  read-same pivots step c given = record {
    den = given.den;
    table = given.table;
    dictionary = carry p q h (λ m n t b. IsDictionary m n t (basis_after b pivots) given.den given.table)
        (λ m n t u b same f. dictionary-same m n t u (basis_after b pivots) given.den given.table same f) given.dictionary;
    reading = subst (λ n. IsReading q (basis_after (λ i. n + i) pivots) given.den given.table step c) (count-same p q h)
        (reading-same (basis_of p pivots) given.den given.table step c given.reading);
  }

  pub run-same : (width : ℕ) (end : End) → IsRun p width end → IsRun q width end
  run-same width end given = record {
    order = given.order;
    tried = tried-same p q h given.order width given.tried;
    run = record {
      step = given.run.step;
      whole = path_of-same p q h given.order end.path given.run.step given.run.whole;
      narrow = narrow-same p q h width end.path given.run.narrow;
      read = read-same end.path given.run.step end.certificate given.run.read;
    };
  }
