-- What one turn of a cut run finds, and how the run goes on.
use Rattle.std.proofs.Common.{◌≡◌, ◌≢◌, ℕ, zero, suc, ◌≤◌, ℤ, pos, ◌≤ℤ◌, List, [], ◌∷◌, ◌++◌, length, take, refl, sym, ap, ◌∙◌, subst, arith, inl, inr}
use Rattle.std.specs.Prelude.{slice_index}
use Rattle.std.proofs.lemmas.Int.{ints}
use Rattle.std.proofs.lemmas.List.{take_all, take-append-le}
use Rattle.std.proofs.Math.Seq.{take-append_seam}
use Rattle.md_math.specs.Lists.{number_at}
use Rattle.md_lp.specs.Program.{Program}
use Rattle.md_lp.specs.Point.{Meets}
use Rattle.md_lp.specs.Shape.{IsShaped}
use Rattle.md_lp.specs.declared.wide.Wide.{Wide}
use Rattle.md_cert.specs.Certified.{Certified}
use Rattle.md_cert.specs.Fitting.{Fits}
use Rattle.md_cert.specs.declared.bound.Bound.{Bound}
use Rattle.md_cert.specs.declared.certificate.Certificate.{Certificate}
use Rattle.md_cert.specs.declared.certificate.Certificate.TheVariants as certificates
use Rattle.md_cert.proofs.Duality.{infeasible-claim, unbounded-claim}
use Rattle.md_simplex.specs.declared.end.End.{End}
use Rattle.md_simplex.specs.declared.order.Order.{Order}
use Rattle.md_simplex.specs.declared.order.Order.TheVariants.{Forward, Backward}
use Rattle.md_simplex.specs.declared.simplex_error.SimplexError.{SimplexError}
use Rattle.md_simplex.specs.declared.simplex_error.SimplexError.TheVariants.{TooWide, Memory}
use Rattle.md_simplex.specs.Runs.{IsFirstWideOf, IsLeft, IsRun}
use Rattle.md_simplex.proofs.WideSizes.{wide-sizes}
use Rattle.md_lp.specs.Cuts.{AreCuts, HasSingles, singles_of}
use Rattle.md_lp.proofs.SingleCuts.{singles-length}
use Rattle.md_cut_runs.specs.declared.optimum.Optimum.{Optimum}
use Rattle.md_cut_runs.specs.Cutting.{Cutting, IsCutting}
use Rattle.md_cut_runs.specs.CutRuns.{HasSmallEntry, IsCutRun, IsNextCut, certificate_of}
use Rattle.md_cut_runs.specs.Turns.{IsAdded, IsFound, IsNotFound}
use Rattle.md_cut_runs.specs.Worst.{IsWorst}
use Rattle.md_cut_runs.proofs.CutLists.{AreCuts-more, before-or_last, pushed-before, pushed-last}
use Rattle.md_cut_runs.proofs.SingleCuts.{places-le}

-- ---- a program that has no taken path

small-entry : (order : Order) (p : Program) (width : ℕ) (wide : Wide) → IsShaped p → width ≤ 62 → IsFirstWideOf order p width wide → HasSmallEntry wide
small-entry order p width wide shaped few first =
    let sizes = wide-sizes order p width wide.path wide.entry shaped few first in
    record { positive = sizes.positive; num_size = sizes.num_size; den_size = sizes.den_size }

pub not-found : (m : Cutting) (width : ℕ) (cuts : List ℕ) (p : Program) (error : SimplexError) → IsShaped p → width ≤ 62 → m.is_program cuts p → IsLeft p width error → IsNotFound m width cuts error
not-found m width cuts p (TooWide first second) shaped few of_cuts left = record {
  wide = record { program = p; is_program = of_cuts; forward = left.0; backward = left.1 };
  first_small = small-entry Forward p width first shaped few left.0;
  second_small = small-entry Backward p width second shaped few left.1;
}
not-found m width cuts p Memory shaped few of_cuts left = tt

module _ (m : Cutting) (is : IsCutting m) where
  -- ---- what is read off a program

  -- a program with a cut for each place alone has a greatest point
  not-infeasible : (cuts : List ℕ) (p : Program) (face : List ℤ) → m.is_program cuts p → Certified p (certificates.Infeasible face) → ⊥
  not-infeasible cuts p face of_cuts certified = is.has_point cuts p of_cuts (infeasible-claim p (number_at face) certified)

  not-unbounded : (cuts : List ℕ) (p : Program) (den : ℤ) (point ray : List ℤ) → HasSingles m.places cuts → m.is_program cuts p → Certified p (certificates.Unbounded den point ray) → ⊥
  not-unbounded cuts p den point ray singles of_cuts certified =
      is.bounded cuts p den (number_at point) (number_at ray) singles of_cuts (unbounded-claim p den (number_at point) (number_at ray) certified)

  pub no-other_end : (cuts : List ℕ) (p : Program) (certificate : Certificate) → HasSingles m.places cuts → m.is_program cuts p → Certified p certificate
      → ((den : ℤ) (point : List ℤ) (bound : Bound) → certificate ≢ certificates.Optimal den point bound) → ⊥
  no-other_end cuts p (certificates.Optimal den point bound) singles of_cuts certified other = other den point bound refl
  no-other_end cuts p (certificates.Infeasible face) singles of_cuts certified other = not-infeasible cuts p face of_cuts certified
  no-other_end cuts p (certificates.Unbounded den point ray) singles of_cuts certified other = not-unbounded cuts p den point ray singles of_cuts certified

  pub found : (width : ℕ) (cuts : List ℕ) (p : Program) (end : End) (optimum : Optimum) → HasSingles m.places cuts → m.is_program cuts p → IsRun p width end
      → Certified p end.certificate → Fits p end.certificate → end.certificate ≡ certificate_of optimum → IsFound m width cuts optimum
  found width cuts p end optimum singles of_cuts run certified fits reads =
      let told : Certified p (certificate_of optimum) = subst (Certified p) reads certified in
      let sized : Fits p (certificate_of optimum) = subst (Fits p) reads fits in
      record {
        is_optimum = record { program = p; is_program = of_cuts; end = end; run = run; reads = reads };
        shown = record {
          certified = λ q h. (is.one cuts p q of_cuts h).certified (certificate_of optimum) told;
          fits = λ q h. (is.one cuts p q of_cuts h).fits (certificate_of optimum) sized;
        };
        point = record { cuts = cuts; program = p; is_program = of_cuts; singles = singles; meets = told.meets; den_fits = sized.0; point_fits = sized.1 };
      }

  -- ---- one more cut

  module _ (width : ℕ) (cuts : List ℕ) where
    module _ (optimum : Optimum) (set : ℕ) (found_at : IsFound m width cuts optimum) (worst : IsWorst m optimum.den (number_at optimum.point) set) where
      -- the point meets the program of the cuts
      meets : Meets found_at.is_optimum.program optimum.den (number_at optimum.point)
      meets = (found_at.shown.certified found_at.is_optimum.program found_at.is_optimum.is_program).meets

      -- a set that is not over is not the worst one
      not-over : (other : ℕ) → m.excess optimum.den (number_at optimum.point) other ≤ℤ pos 0 → other ≢ set
      not-over other none same =
          let positive = worst.positive in
          let over : m.excess optimum.den (number_at optimum.point) set ≤ℤ pos 0 = subst (λ s. m.excess optimum.den (number_at optimum.point) s ≤ℤ pos 0) same none in
          omega (arith, ints, positive, over)

      some : 1 ≤ set
      some =
          let none : 0 ≢ set = not-over 0 (is.empty cuts found_at.is_optimum.program optimum.den (number_at optimum.point) found_at.is_optimum.is_program meets) in
          positive set none
        where
          positive : (n : ℕ) → 0 ≢ n → 1 ≤ n
          positive zero h = absurd (h refl)
          positive (suc n) h = omega arith

      pub added : AreCuts m.places cuts → IsAdded m width cuts set
      added are = record {
        next = record { optimum = optimum; is_optimum = found_at.is_optimum; worst = worst };
        cuts_of = AreCuts-more m.places cuts set are some worst.inside
            (λ k b. not-over (slice_index cuts k) (is.kept cuts found_at.is_optimum.program optimum.den (number_at optimum.point) k found_at.is_optimum.is_program meets b));
      }

    -- the run with the cut
    pub run-more : (set : ℕ) → IsCutRun m width cuts → IsNextCut m width cuts set → IsCutRun m width (cuts ++ set ∷ [])
    run-more set run next = record {
      begins = take-append-le m.places cuts (set ∷ []) (places-le m width cuts run) ∙ run.begins;
      adds = λ k least b. elim (before-or_last cuts set k b) [
        | inl before ↦ subst (λ (cs : List ℕ). IsNextCut m width cs (slice_index (cuts ++ set ∷ []) k)) (sym (take-append-le k cuts (set ∷ []) (omega (arith, before))))
            (subst (λ x. IsNextCut m width (take k cuts) x) (sym (pushed-before cuts set k before)) (run.adds k least before))
        | inr last ↦ subst (λ (cs : List ℕ). IsNextCut m width cs (slice_index (cuts ++ set ∷ []) k)) (sym (ap (λ n. take n (cuts ++ set ∷ [])) last ∙ take-append_seam cuts (set ∷ [])))
            (subst (λ x. IsNextCut m width cuts x) (sym (pushed-last cuts set k last)) next)
      ];
    }

  -- the run that begins
  pub run-first : (width : ℕ) (cuts : List ℕ) → cuts ≡ singles_of m.places → IsCutRun m width cuts
  run-first width cuts same =
      let count : length cuts ≡ m.places = ap length same ∙ singles-length m.places in
      record {
        begins = take_all m.places cuts (omega (arith, count)) ∙ same;
        adds = λ k least b. absurd (omega (arith, least, b, count));
      }
