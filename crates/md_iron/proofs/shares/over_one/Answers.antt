use Rattle.std.proofs.Common.{◌-◌, ◌^◌, lit<}
use Rattle.md_math.proofs.Bits.{read_within}
use Rattle.md_iron.proofs.ShareLaws.{AreOver-denominator, AreOver-no, where-none, where-some}
use Rattle.md_iron.proofs.shares.over_one.Goals as goal

pub returns-in_default-clause-none : goal.returns-in_default-clause-none
returns-in_default-clause-none c = λ over numbers h.
    where-none c.common_denominator.result _ _ c.in_default.is c.common_denominator.ensures over h.short (AreOver-denominator c.args.fractions.now over numbers c.requires h)

pub returns-in_default-2-clause-none : goal.returns-in_default-2-clause-none
returns-in_default-2-clause-none c = λ over numbers h.
    let least = where-some c.common_denominator.result c.in-Some.den _ _ c.in-Some.is c.common_denominator.ensures in
    AreOver-no c.args.fractions.now c.in-Some.den over numbers c.requires least.0
    (where-none c.in_ok-main.field-0 _ _ c.in_default-2.is (rw (read_within (2 ^ 62 - 1) c.in-Some.den least.1 (lit< tt)) at c.in_ok-main.ensures.shares)) h
