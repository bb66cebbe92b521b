use Rattle.md_list_gains.specs.Places.{gain_to, benefit_to}
use Rattle.md_list_check.proofs.LeftOutLaws.{gain-first, nothing-more}
use Rattle.md_list_check.proofs.left_out.first_gain.Goals as goal

pub loop-value-preserved : goal.loop-value-preserved
loop-value-preserved c =
    nothing-more (gain_to c.args.places.now) (benefit_to c.args.places.now) c.args.stop c.loop-value.value c.between.result.gain c.between.result.benefit c.between.ensures.gain c.between.ensures.benefit
    (c.brings_some.ensures.none c.if-brings_some.false) c.loop-value.invariant

pub returns-then-brings_some : goal.returns-then-brings_some
returns-then-brings_some c =
    gain-first (gain_to c.args.places.now) (benefit_to c.args.places.now) c.args.stop c.loop-value.value c.between.result.gain c.between.result.benefit c.loop-value-test.true c.between.ensures.gain c.between.ensures.benefit
    (c.brings_some.ensures.some c.if-brings_some.true) c.loop-value.invariant
