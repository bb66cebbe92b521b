use Rattle.std.proofs.Common.{sym}
use Rattle.std.proofs.lemmas.Int.{to_z-of_z}
use mir.Syntax.{w128}
use Rattle.md_math.proofs.Bits.{read_result}
use Rattle.md_math.proofs.Division.{quotient}
use Rattle.md_iron.proofs.ShareLaws.{no-share-num, matched-share, read-den, read-num}
use Rattle.md_iron.proofs.shares.share.Goals as goal

pub returns-then-not-is_short : goal.returns-then-not-is_short
returns-then-not-is_short c =
    let (share, whole) = quotient c.args.fraction.den c.args.over c.requires.divides in
    no-share-num c.args.fraction c.args.over share c.requires.fraction c.requires.positive (sym whole)
    (λ w. let told = c.is_short.ensures.1 (rw (read-num c.args.fraction c.requires.fraction) w) in cc)

pub returns : goal.returns
returns c =
    matched-share c.args.fraction c.args.over c.exact_quotient.result c.short_product.result c.requires.fraction
    (rw (read-den c.args.fraction c.requires.fraction, to_z-of_z w128 c.args.over c.ranges.over) at c.exact_quotient.ensures.value)
    (rw (read-num c.args.fraction c.requires.fraction, read_result c.exact_quotient.result c.exact_quotient.type_inv) at c.short_product.ensures)
