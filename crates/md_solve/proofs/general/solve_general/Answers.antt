use Rattle.std.proofs.Common.{◌≡◌, pos, ◌≤ℤ◌, refl, sym, ◌∙◌, subst, arith}
use Rattle.std.proofs.lemmas.Int.{ints}
use Rattle.md_lp.specs.Program.{Program}
use Rattle.md_lp.specs.declared.wide.Wide.{Wide}
use Rattle.md_setting.specs.Meaning.{total_of}
use Rattle.md_setting.proofs.MarginalLaws.{total-positive}
use Rattle.md_mech.specs.Admissible.{IsAdmissible}
use Rattle.md_mech.specs.Optimal.{Grows, IsInfeasible, IsOptimal}
use Rattle.md_mech.specs.Value.{IsValueOf}
use Rattle.md_rows.specs.ProgramOf.{IsProgramOf}
use Rattle.md_simplex.specs.declared.simplex_error.SimplexError.TheVariants as errors
use Rattle.md_simplex.specs.Runs.{IsLeft, TellsOf}
use Rattle.md_question.specs.Best.{best_question}
use Rattle.md_question.proofs.FindingLaws.{so-infeasible, so-optimal, so-unbounded, so-value}
use Rattle.md_question_solve.specs.Found.{IsLeftFor}
use Rattle.md_question_solve.specs.Readings.{HasFractions}
use Rattle.md_solve.proofs.Claims.{certified-said, claims-said, end-said, exactly_unbounded, infeasible-said, none-said, optimal-said, unbounded-said, writable-said}
use Rattle.md_solve.proofs.OneAnswer.{found-solves, not-memory, only-found, only-wide}
use Rattle.md_solve.proofs.general.solve_general.Goals as goal

-- ---- something is found

pub returns-in-Ok-clause-solved : goal.returns-in-Ok-clause-solved
returns-in-Ok-clause-solved c =
    let h = c.in-Ok.ensures.solved in
    rw c.answer_of.ensures (record { program = h.program; is_program = h.is_program; solved = found-solves c.args.setting.now h.program c.args.width c.in-Ok.finding h.found })

pub returns-in-Ok-clause-only : goal.returns-in-Ok-clause-only
returns-in-Ok-clause-only c other solved =
    rw c.answer_of.ensures (only-found c.args.setting.now c.args.width other solved c.in-Ok.finding c.in-Ok.ensures.only c.in-Ok.ensures.wide)

pub returns-in-Ok-clause-optimal : goal.returns-in-Ok-clause-optimal
returns-in-Ok-clause-optimal c =
    let s = c.args.setting.now in
    rw c.answer_of.ensures (optimal-said (λ value m bound. IsOptimal s m) c.in-Ok.finding (so-optimal (best_question s) c.in-Ok.finding c.in-Ok.ensures.so))

pub returns-in-Ok-clause-value : goal.returns-in-Ok-clause-value
returns-in-Ok-clause-value c =
    let s = c.args.setting.now in
    rw c.answer_of.ensures (optimal-said (λ value m bound. IsValueOf s m value) c.in-Ok.finding (so-value (best_question s) c.in-Ok.finding c.in-Ok.ensures.so))

pub returns-in-Ok-clause-infeasible : goal.returns-in-Ok-clause-infeasible
returns-in-Ok-clause-infeasible c =
    let s = c.args.setting.now in
    rw c.answer_of.ensures (infeasible-said (λ face. IsInfeasible s) c.in-Ok.finding (so-infeasible (best_question s) c.in-Ok.finding c.in-Ok.ensures.so))

pub returns-in-Ok-clause-unbounded : goal.returns-in-Ok-clause-unbounded
returns-in-Ok-clause-unbounded c =
    let s = c.args.setting.now in
    rw c.answer_of.ensures (unbounded-said (λ m ray. Grows s m ray) c.in-Ok.finding (so-unbounded (best_question s) c.in-Ok.finding c.in-Ok.ensures.so))

pub returns-in-Ok-clause-admissible : goal.returns-in-Ok-clause-admissible
returns-in-Ok-clause-admissible c =
    let s = c.args.setting.now in
    rw c.answer_of.ensures (unbounded-said (λ m ray. IsAdmissible s m) c.in-Ok.finding c.in-Ok.ensures.admitted)

pub returns-in-Ok-clause-claims : goal.returns-in-Ok-clause-claims
returns-in-Ok-clause-claims c = rw c.answer_of.ensures (claims-said c.in-Ok.finding)

pub returns-in-Ok-clause-taken : goal.returns-in-Ok-clause-taken
returns-in-Ok-clause-taken c p order pivots step is taken =
    rw c.answer_of.ensures (end-said step c.in-Ok.finding (c.in-Ok.ensures.taken p order pivots step is taken))

pub returns-in-Ok-clause-none : goal.returns-in-Ok-clause-none
returns-in-Ok-clause-none c = rw c.answer_of.ensures (λ _. none-said c.args.setting.now c.in-Ok.finding c.in-Ok.ensures.none)

pub returns-in-Ok-clause-no_bound : goal.returns-in-Ok-clause-no_bound
returns-in-Ok-clause-no_bound c =
    let s = c.args.setting.now in
    let total : pos 1 ≤ℤ total_of s = omega (arith, ints, total-positive s c.space-shaped.ensures.shaped) in
    rw c.answer_of.ensures (λ _. exactly_unbounded s c.in-Ok.finding total c.in-Ok.ensures.so)

pub returns-in-Ok-clause-wide : goal.returns-in-Ok-clause-wide
returns-in-Ok-clause-wide c p is forward backward = absurd (c.in-Ok.ensures.wide p is forward backward)

pub returns-in-Ok-clause-every_program : goal.returns-in-Ok-clause-every_program
returns-in-Ok-clause-every_program c p is =
    rw c.answer_of.ensures (found-solves c.args.setting.now p c.args.width c.in-Ok.finding (c.in-Ok.ensures.every_program p is))

pub returns-in-Ok-clause-certified : goal.returns-in-Ok-clause-certified
returns-in-Ok-clause-certified c p is = rw c.answer_of.ensures (certified-said c.args.setting.now p c.in-Ok.finding (c.in-Ok.ensures.shown p is))

pub returns-in-Ok-clause-writable : goal.returns-in-Ok-clause-writable
returns-in-Ok-clause-writable c = rw c.answer_of.ensures (writable-said c.args.setting.now c.in-Ok.finding c.in-Ok.ensures.writable)

-- ---- nothing is, since both paths have a wide basis

pub returns-in-Err-TooWide-clause-solved : goal.returns-in-Err-TooWide-clause-solved
returns-in-Err-TooWide-clause-solved c =
    let here = c.in-Err-TooWide in
    let left : IsLeftFor (best_question c.args.setting.now) c.args.width (errors.TooWide here.first here.second) =
    subst (IsLeftFor (best_question c.args.setting.now) c.args.width) here.field-0-is here.ensures.left in
    record { program = left.program; is_program = left.is_program; solved = (c.new.ensures, left.forward, left.backward) }

pub returns-in-Err-TooWide-clause-only : goal.returns-in-Err-TooWide-clause-only
returns-in-Err-TooWide-clause-only c other solved =
    let here = c.in-Err-TooWide in
    only-wide c.args.setting.now c.args.width other solved c.new.result here.first here.second c.new.ensures
    (λ p order pivots step is taken. not-memory here.first here.second (sym here.field-0-is ∙ here.ensures.taken p order pivots step is taken))
    (λ p forward backward is h k. subst (TellsOf forward backward) here.field-0-is (here.ensures.first_wide p forward backward is h k))

pub returns-in-Err-TooWide-clause-taken : goal.returns-in-Err-TooWide-clause-taken
returns-in-Err-TooWide-clause-taken c p order pivots step is taken =
    let here = c.in-Err-TooWide in
    absurd (not-memory here.first here.second (sym here.field-0-is ∙ here.ensures.taken p order pivots step is taken))

pub returns-in-Err-TooWide-clause-every_program : goal.returns-in-Err-TooWide-clause-every_program
returns-in-Err-TooWide-clause-every_program c p is =
    let here = c.in-Err-TooWide in
    let left : IsLeft p c.args.width (errors.TooWide here.first here.second) = subst (IsLeft p c.args.width) here.field-0-is (here.ensures.every_left p is) in
    (c.new.ensures, left.0, left.1)

pub returns-in-Err-TooWide-clause-writable : goal.returns-in-Err-TooWide-clause-writable
returns-in-Err-TooWide-clause-writable c =
    let here = c.in-Err-TooWide in
    let small : HasFractions (errors.TooWide here.first here.second) = subst HasFractions here.field-0-is here.ensures.wide_writable in
    (c.new.ensures, small.0, small.1)
