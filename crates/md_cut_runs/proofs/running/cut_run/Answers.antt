use Rattle.std.proofs.Common.{◌-◌, ◌<◌, ◌^◌, List, [], ◌∷◌, ◌++◌, length, ℕ, sym, ap, ◌∙◌, subst, arith}
use Rattle.std.proofs.lemmas.List.{length_push}
use Rattle.md_lp.specs.Cuts.{AreCuts}
use Rattle.md_lp.specs.Cuts.{singles_of}
use Rattle.md_cut_runs.specs.CutRuns.{EndsSettled, EndsWide, IsCutRun}
use Rattle.md_cut_runs.specs.Turns.{IsAdded, IsEnded, IsStopped, IsTurn}
use Rattle.md_lp.proofs.CutLaws.{cuts-fewer}
use Rattle.md_cut_runs.proofs.OneCutRun.{not_settled_wide, same_settled, same_wide}
use Rattle.md_cut_runs.proofs.SingleCuts.{HasSingles-run}
use Rattle.md_cut_runs.proofs.Turning.{run-first, run-more}
use Rattle.md_cut_runs.proofs.running.cut_run.Given.{Over}
use Rattle.md_cut_runs.proofs.running.cut_run.Goals as goal

pub loop-cuts-init : goal.loop-cuts-init
loop-cuts-init g c =
    let m = g.C.CutProgram.cutting c.args.problem.now in
    record {
      run = run-first m c.places.ensures.cutting c.args.width c.in_ok-cuts.cuts (c.in_ok-cuts.ensures.value ∙ ap singles_of c.places.ensures.count);
      cuts_of = subst (λ n. AreCuts n c.in_ok-cuts.cuts) c.places.ensures.count c.in_ok-cuts.ensures.cuts;
    }

pub next_turn-requires-clause-singles : goal.next_turn-requires-clause-singles
next_turn-requires-clause-singles g c = HasSingles-run (g.C.CutProgram.cutting c.args.problem.now) c.args.width c.loop-cuts.cuts c.loop-cuts.invariant.run

-- the cut that is added
adds : (g : Over) (c : goal.In_ok-push-in-Adds g) → IsAdded (g.C.CutProgram.cutting c.args.problem.now) c.args.width c.loop-cuts.cuts c.in-Adds.set
adds g c = subst (IsTurn (g.C.CutProgram.cutting c.args.problem.now) (g.C.CutProgram.shows c.args.problem.now) c.args.width c.loop-cuts.cuts) c.in-Adds.is c.in_ok-set.ensures

pub loop-cuts-smaller : goal.loop-cuts-smaller
loop-cuts-smaller g c =
    let m = g.C.CutProgram.cutting c.args.problem.now in
    let cuts = c.loop-cuts.cuts in
    let set = c.in-Adds.set in
    let more : length (cuts ++ set ∷ []) < 2 ^ m.places = cuts-fewer m.places (cuts ++ set ∷ []) (adds g c).cuts_of in
    let less : (2 ^ m.places - length (cuts ++ set ∷ [])) < (2 ^ m.places - length cuts) = omega (arith, more, length_push cuts set) in
    subst (λ (cs : List ℕ). (2 ^ m.places - length cs) < (2 ^ m.places - length cuts)) (sym c.in_ok-push-in-Adds.ensures.ok) less

pub loop-cuts-preserved : goal.loop-cuts-preserved
loop-cuts-preserved g c =
    let m = g.C.CutProgram.cutting c.args.problem.now in
    record {
      run = subst (IsCutRun m c.args.width) (sym c.in_ok-push-in-Adds.ensures.ok)
          (run-more m (c.places.ensures.cutting) c.args.width c.loop-cuts.cuts c.in-Adds.set c.loop-cuts.invariant.run (adds g c).next);
      cuts_of = subst (AreCuts m.places) (sym c.in_ok-push-in-Adds.ensures.ok) (adds g c).cuts_of;
    }

-- ---- the run ends at a point at which no set is over

settles : (g : Over) (c : goal.In-Ends g) → EndsSettled (g.C.CutProgram.cutting c.args.problem.now) c.args.width c.loop-cuts.cuts c.in-Ends.optimum
settles g c =
    let m = g.C.CutProgram.cutting c.args.problem.now in
    let shows = g.C.CutProgram.shows c.args.problem.now in
    let ended : IsEnded m shows c.args.width c.loop-cuts.cuts c.in-Ends.optimum c.in-Ends.table = subst (IsTurn m shows c.args.width c.loop-cuts.cuts) c.in-Ends.is c.in_ok-set.ensures in
    record { run = c.loop-cuts.invariant.run; optimum_of = ended.found.is_optimum; settled = ended.settled }

pub returns-in-Ends-clause-settled : goal.returns-in-Ends-clause-settled
returns-in-Ends-clause-settled g c = λ cuts optimum there.
    same_settled (g.C.CutProgram.cutting c.args.problem.now) c.places.ensures.cutting c.args.width c.loop-cuts.cuts cuts c.in-Ends.optimum optimum (settles g c) there

pub returns-in-Ends-clause-wide : goal.returns-in-Ends-clause-wide
returns-in-Ends-clause-wide g c = λ cuts first second there.
    not_settled_wide (g.C.CutProgram.cutting c.args.problem.now) c.places.ensures.cutting c.args.width c.loop-cuts.cuts cuts c.in-Ends.optimum first second (settles g c) there

pub returns-in-Ends-clause-few : goal.returns-in-Ends-clause-few
returns-in-Ends-clause-few g c = cuts-fewer (g.C.CutProgram.cutting c.args.problem.now).places c.loop-cuts.cuts c.loop-cuts.invariant.cuts_of

-- ---- it ends with a program that has no taken path

stopped : (g : Over) (c : goal.In-TooWide g) → IsStopped (g.C.CutProgram.cutting c.args.problem.now) c.args.width c.loop-cuts.cuts c.in-TooWide.first c.in-TooWide.second
stopped g c =
    subst (IsTurn (g.C.CutProgram.cutting c.args.problem.now) (g.C.CutProgram.shows c.args.problem.now) c.args.width c.loop-cuts.cuts) c.in-TooWide.is c.in_ok-set.ensures

widens : (g : Over) (c : goal.In-TooWide g) → EndsWide (g.C.CutProgram.cutting c.args.problem.now) c.args.width c.loop-cuts.cuts c.in-TooWide.first c.in-TooWide.second
widens g c = record { run = c.loop-cuts.invariant.run; wide = (stopped g c).wide }

pub returns-in-TooWide-clause-small : goal.returns-in-TooWide-clause-small
returns-in-TooWide-clause-small g c = ((stopped g c).first_small, (stopped g c).second_small)

pub returns-in-TooWide-clause-settled : goal.returns-in-TooWide-clause-settled
returns-in-TooWide-clause-settled g c = λ cuts optimum there.
    absurd (not_settled_wide (g.C.CutProgram.cutting c.args.problem.now) c.places.ensures.cutting c.args.width cuts c.loop-cuts.cuts optimum c.in-TooWide.first c.in-TooWide.second there (widens g c))

pub returns-in-TooWide-clause-wide : goal.returns-in-TooWide-clause-wide
returns-in-TooWide-clause-wide g c = λ cuts first second there.
    same_wide (g.C.CutProgram.cutting c.args.problem.now) c.places.ensures.cutting c.args.width c.loop-cuts.cuts cuts c.in-TooWide.first c.in-TooWide.second first second (widens g c) there

pub returns-in-TooWide-clause-few : goal.returns-in-TooWide-clause-few
returns-in-TooWide-clause-few g c = cuts-fewer (g.C.CutProgram.cutting c.args.problem.now).places c.loop-cuts.cuts c.loop-cuts.invariant.cuts_of
