use Rattle.std.proofs.Common.{arith}
use Rattle.md_require.proofs.ToldVerdicts.{apart-here, same-lists, same-more}
use Rattle.md_require.proofs.shadow_check.compared.Goals as goal

pub returns : goal.returns
returns c =
    same-lists c.args.told.now c.args.rights.now c.requires.one_each
    (λ k b. c.loop-index.invariant k (let end = c.loop-index-test.false in let each = c.requires.one_each in omega (arith, end, each, b)))

pub returns-then-not-is_same : goal.returns-then-not-is_same
returns-then-not-is_same c =
    apart-here c.args.rights.now c.args.told.now c.loop-index.index c.is_same.result c.loop-index-test.true c.requires.one_each c.is_same.ensures c.loop-index.invariant c.if-not-is_same.true

pub loop-index-preserved : goal.loop-index-preserved
loop-index-preserved c =
    same-more c.args.rights.now c.args.told.now c.loop-index.index c.is_same.result c.loop-index-test.true c.requires.one_each c.is_same.ensures c.loop-index.invariant c.if-not-is_same.false
