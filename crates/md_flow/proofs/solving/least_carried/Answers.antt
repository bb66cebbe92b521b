use Rattle.std.proofs.Common.{◌≡◌, ◌<◌, pos, arith}
use Rattle.md_flow.specs.Paths.{last_of, amount_before}
use Rattle.md_flow.specs.Tables.{flow_of}
use Rattle.md_flow.proofs.Bottlenecks.{IsLeast-more}
use Rattle.md_flow.proofs.solving.least_carried.Goals as goal

pub loop-j-preserved : goal.loop-j-preserved
loop-j-preserved c =
    let inside : c.loop-j.j < last_of c.args.path.now = omega (arith, c.requires.path.route.whole) in
    let value : pos c.amount_at-carried.result ≡ amount_before (flow_of c.args.flow.now) c.args.path.now c.loop-j.j = rw (c.number.ensures, c.number-in-loop-j.ensures) at c.amount_at-carried.ensures.value in
    IsLeast-more (amount_before (flow_of c.args.flow.now) c.args.path.now) c.loop-j.j c.args.most c.loop-j.least c.amount_at-carried.result c.lesser-least.result c.loop-j.invariant value (c.requires.path.carrying c.loop-j.j inside) c.lesser-least.ensures

pub returns-clause-enough : goal.returns-clause-enough
returns-clause-enough c = record { enough = λ j b. c.loop-j.invariant.at_most j (omega (arith, c.requires.path.route.whole, b)) }
