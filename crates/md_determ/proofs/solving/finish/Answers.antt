use Rattle.std.proofs.Common.{arith}
use Rattle.std.proofs.lemmas.Int.{ints}
use Rattle.md_parts.specs.Fitting.{IsFraction}
use Rattle.md_determ.proofs.WayLaws.{best-told, none-told}
use Rattle.md_determ.proofs.solving.finish.Goals as goal

pub returns-in-Some : goal.returns-in-Some
returns-in-Some c =
    let positive = c.worth.ensures.value.least.positive in
    let fraction : IsFraction c.worth.result.num c.worth.result.den =
    record { positive = omega (arith, ints, positive); num_size = c.worth.ensures.num_size; den_size = c.worth.ensures.den_size } in
    best-told c.args.setting.now c.args.search.width c.args.search c.requires.way c.in-Some.mechanism c.worth.result c.requires.over c.in-Some.is c.worth.ensures.value fraction

pub returns : goal.returns
returns c = none-told c.args.setting.now c.args.search.width c.args.search c.requires.way c.requires.over c.in-None.is
