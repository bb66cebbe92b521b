use Rattle.std.proofs.Common.{◌^◌}
use Rattle.md_math.proofs.Bits.{read_result}
use Rattle.md_lp.specs.Stored.{shown_terms}
use Rattle.md_lp.proofs.SparseRows.{value_of-within}
use Rattle.md_lp.proofs.lp.Lp.coefficient.Goals as goal

pub returns-clause-size : goal.returns-clause-size
returns-clause-size c =
    rw (read_result c.value_at.result c.value_at.type_inv, c.value_at.ensures)
    (value_of-within (2 ^ 44) (shown_terms c.terms.result.now) c.args.column c.terms.ensures.places.order c.terms.ensures.sizes)
