-- A setting and a width have one answer.
use Rattle.std.proofs.Common.{◌≡◌, ◌⊎◌, ℕ, List, [], Option, None, Some, refl, sym, ap, ◌∙◌, inl, inr}
use Rattle.md_setting.specs.Setting.{GeneralSetting}
use Rattle.md_lp.specs.declared.pivot.Pivot.{Pivot}
use Rattle.md_lp.specs.declared.wide.Wide.{Wide}
use Rattle.md_lp.specs.Program.{Program}
use Rattle.md_rows.specs.ProgramOf.{IsProgramOf}
use Rattle.md_simplex.specs.declared.order.Order.{Order}
use Rattle.md_simplex.specs.declared.order.Order.TheVariants.{Forward, Backward}
use Rattle.md_simplex.specs.declared.simplex_error.SimplexError.TheVariants as errors
use Rattle.md_simplex.specs.declared.step.Step.{Step}
use Rattle.md_simplex.specs.Runs.{IsFirstWideOf, IsTaken, MeetsWideBasis}
use Rattle.md_simplex.proofs.RunLaws.{first_meets}
use Rattle.md_question.specs.Best.{best_question}
use Rattle.md_question.specs.declared.finding.Finding.{Finding}
use Rattle.md_question.specs.declared.finding.Finding.TheVariants as findings
use Rattle.md_question_solve.specs.Found.{IsFound, IsFoundBy}
use Rattle.md_answer.specs.declared.answer.Answer.{Answer}
use Rattle.md_answer.specs.declared.answer.Answer.TheVariants.{Table, Optimal, Infeasible, Unbounded, AuctionOptimal, TooWide}
use Rattle.md_solve.specs.Solved.{IsSecondWide, IsSolved, IsSolvedBy, answer_of}

-- what is too wide is not want of memory
pub not-memory : (first second : Wide) → errors.TooWide first second ≡ errors.Memory → ⊥
not-memory first second same = (let e = same in cc)

-- ---- what an answer of the paths is

record SaysFound (s : GeneralSetting) (p : Program) (width : ℕ) (answer : Answer) : Type 0 where
  finding : Finding
  is : answer ≡ answer_of finding
  found : IsFoundBy (best_question s) p width finding

record SaysWide (p : Program) (width : ℕ) (answer : Answer) : Type 0 where
  first : Wide
  second : Wide
  is : answer ≡ TooWide [] first (Some second)
  forward : IsFirstWideOf Forward p width first
  backward : IsFirstWideOf Backward p width second

says-wide : (p : Program) (width : ℕ) (cuts : List ℕ) (first : Wide) (second : Option Wide) → cuts ≡ [] → IsFirstWideOf Forward p width first → IsSecondWide p width second → SaysWide p width (TooWide cuts first second)
says-wide p width cuts first None none h k = absurd k
says-wide p width cuts first (Some second) none h k = record { first = first; second = second; is = ap (λ c. TooWide c first (Some second)) none; forward = h; backward = k }

kinds : (s : GeneralSetting) (p : Program) (width : ℕ) (answer : Answer) → IsSolvedBy s p width answer → SaysFound s p width answer ⊎ SaysWide p width answer
kinds s p width (Table m) h = absurd h
kinds s p width (Optimal value m bound) h = inl (record { finding = findings.Optimal value m bound; is = refl; found = h })
kinds s p width (Infeasible face) h = inl (record { finding = findings.Infeasible face; is = refl; found = h })
kinds s p width (Unbounded m ray) h = inl (record { finding = findings.Unbounded m ray; is = refl; found = h })
kinds s p width (AuctionOptimal value interim masses cuts bound) h = absurd h
kinds s p width (TooWide cuts first second) h = inr (says-wide p width cuts first second h.0 h.1 h.2)

-- what is found is the answer of the paths
pub found-solves : (s : GeneralSetting) (p : Program) (width : ℕ) (finding : Finding) → IsFoundBy (best_question s) p width finding → IsSolvedBy s p width (answer_of finding)
found-solves s p width (findings.Optimal value m bound) h = h
found-solves s p width (findings.Infeasible face) h = h
found-solves s p width (findings.Unbounded m ray) h = h

module _ (s : GeneralSetting) (width : ℕ) (other : Answer) (solved : IsSolved s width other) where
  -- where something is found, no other answer is one of the paths
  pub only-found : (finding : Finding) → ((g : Finding) → IsFound (best_question s) width g → finding ≡ g)
      → ((p : Program) → IsProgramOf s p → MeetsWideBasis Forward p width → MeetsWideBasis Backward p width → ⊥) → answer_of finding ≡ other
  only-found finding only wide = elim (kinds s solved.program width other solved.solved) [
    | inl g ↦ ap answer_of (only g.finding (record { program = solved.program; is_program = solved.is_program; found = g.found })) ∙ sym g.is
    | inr w ↦ absurd (wide solved.program solved.is_program (first_meets solved.program Forward width w.first w.forward) (first_meets solved.program Backward width w.second w.backward))
  ]

  -- nor where nothing is
  pub only-wide : (cuts : List ℕ) (first second : Wide) → cuts ≡ []
      → ((p : Program) (order : Order) (pivots : List Pivot) (step : Step) → IsProgramOf s p → IsTaken order p width pivots step → ⊥)
      → ((p : Program) (forward backward : Wide) → IsProgramOf s p → IsFirstWideOf Forward p width forward → IsFirstWideOf Backward p width backward → (first ≡ forward) × (second ≡ backward))
      → TooWide cuts first (Some second) ≡ other
  only-wide cuts first second none taken wide = elim (kinds s solved.program width other solved.solved) [
    | inl g ↦
        let run = g.found.0.run in
        absurd (taken solved.program run.order g.found.0.end.path run.run.step solved.is_program (record { tried = run.tried; whole = run.run.whole; narrow = run.run.narrow }))
    | inr w ↦
        let same = wide solved.program w.first w.second solved.is_program w.forward w.backward in
        ap (λ c. TooWide c first (Some second)) none ∙ ap (λ x. TooWide [] x (Some second)) same.0 ∙ ap (λ x. TooWide [] w.first (Some x)) same.1 ∙ sym w.is
  ]
