use Rattle.std.proofs.Common.{Some, sym, ◌∙◌, subst}
use Rattle.std.proofs.lemmas.Result.{on_ok_weaker}
use mathlib.Core.Bool.{false≢true}
use Rattle.md_mech.specs.declared.mechanism.Mechanism.{Mechanism}
use Rattle.md_tree.specs.declared.node.Node.TheVariants as nodes
use Rattle.md_determ.specs.Way.{IsClosed}
use Rattle.md_question_solve.specs.declared.reading.Reading.TheVariants.{Optimal}
use Rattle.md_determ.proofs.WayLaws.{found-turn, kept-turn, open-not_whole, split-turn}
use Rattle.md_determ.proofs.visiting.take_optimal.Goals as goal

pub returns-then-is_no_better : goal.returns-then-is_no_better
returns-then-is_no_better c =
    on_ok_weaker c.close.result
    (kept-turn c.args.setting.now c.args.search.now.width c.args.search.now c.close.new.self c.args.mechanism c.args.bound c.requires (c.is_no_better.ensures.0 c.if-is_no_better.true)) c.close.ensures

pub split-requires-clause-some_free : goal.split-requires-clause-some_free
split-requires-clause-some_free c whole =
    open-not_whole c.args.setting.now c.args.search.now.width c.args.search.now (Optimal c.args.mechanism c.args.bound) c.requires (
      λ within. false≢true (sym c.if-is_no_better.false ∙ c.is_no_better.ensures.1 within),
      λ deterministic. false≢true (sym c.if-not-is_deterministic.true ∙ c.is_deterministic.ensures.1 deterministic),
    ) whole

pub returns-then-not-is_deterministic : goal.returns-then-not-is_deterministic
returns-then-not-is_deterministic c =
    on_ok_weaker c.split.result
    (split-turn c.args.setting.now c.args.search.now.width c.args.search.now c.split.new.self (Optimal c.args.mechanism c.args.bound) c.requires (
      λ within. false≢true (sym c.if-is_no_better.false ∙ c.is_no_better.ensures.1 within),
      λ deterministic. false≢true (sym c.if-not-is_deterministic.true ∙ c.is_deterministic.ensures.1 deterministic),
    )) c.split.ensures

pub returns : goal.returns
returns c =
    let old = c.args.search.now in
    let new = c.close-2.new.self in
    let m = c.args.mechanism in
    on_ok_weaker c.close-2.result
    (λ closed. found-turn c.args.setting.now old.width old new m c.args.bound c.requires
    (λ within. false≢true (sym c.if-is_no_better.false ∙ c.is_no_better.ensures.1 within))
    (c.is_deterministic.ensures.0 c.if-not-is_deterministic.false)
    (subst (λ (best : Mechanism). IsClosed (nodes.Optimal m c.args.bound) (record old { best = Some best }) new) c.in_ok-copy.ensures closed))
    c.close-2.ensures
