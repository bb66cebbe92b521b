use Rattle.std.proofs.Common.{sym, ◌∙◌}
use mathlib.Core.Bool.{false≢true}
use Rattle.md_question_solve.specs.declared.reading.Reading.TheVariants.{Unbounded}
use Rattle.md_determ.proofs.WayLaws.{open-not_whole, split-turn, unbounded-told}
use Rattle.md_determ.proofs.visiting.take_unbounded.Goals as goal

pub split-requires-clause-some_free : goal.split-requires-clause-some_free
split-requires-clause-some_free c whole =
    open-not_whole c.args.setting.now c.args.search.now.width c.args.search.now (Unbounded c.args.mechanism c.args.ray) c.requires
    (λ deterministic. false≢true (sym c.if-is_deterministic.false ∙ c.is_deterministic.ensures.1 deterministic)) whole

pub returns-then-is_deterministic : goal.returns-then-is_deterministic
returns-then-is_deterministic c =
    unbounded-told c.args.setting.now c.args.search.now.width c.args.search.now c.args.mechanism c.args.ray c.requires (c.is_deterministic.ensures.0 c.if-is_deterministic.true)

pub returns : goal.returns
returns c =
    split-turn c.args.setting.now c.args.search.now.width c.args.search.now c.split.new.self (Unbounded c.args.mechanism c.args.ray) c.requires
    (λ deterministic. false≢true (sym c.if-is_deterministic.false ∙ c.is_deterministic.ensures.1 deterministic)) c.in_ok-split.ensures
