-- The sets of one place each, with which a cut run begins.
use Rattle.std.proofs.Common.{◌≡◌, ℕ, ◌<◌, ◌≤◌, ◌^◌, List, length, Some, sym, ap, ◌∙◌, arith}
use Rattle.std.specs.Prelude.{slice_index, slice_get}
use Rattle.std.proofs.lemmas.List.{get_or-take, length-take}
use Rattle.std.proofs.lemmas.Option.{slice_get-get_or}
use Rattle.md_lp.specs.Cuts.{HasSingles}
use Rattle.md_lp.proofs.SingleCuts.{single-at, singles-length}
use Rattle.md_cut_runs.specs.Cutting.{Cutting}
use Rattle.md_cut_runs.specs.CutRuns.{IsCutRun}

module _ (m : Cutting) (width : ℕ) (cuts : List ℕ) (run : IsCutRun m width cuts) where
  -- a run has them all
  pub places-le : m.places ≤ length cuts
  places-le = omega (arith, ap length run.begins, singles-length m.places, length-take m.places cuts)

  pub HasSingles-run : HasSingles m.places cuts
  HasSingles-run = record { single = λ v b. record { place = v; is = there v b } }
    where
      there : (v : ℕ) → v < m.places → slice_get cuts v ≡ Some (2 ^ v)
      there v b =
          slice_get-get_or cuts v 0 (omega (arith, b, places-le))
          ∙ ap Some (sym (get_or-take m.places cuts v 0 b) ∙ ap (λ xs. slice_index xs v) run.begins ∙ single-at m.places v b)
