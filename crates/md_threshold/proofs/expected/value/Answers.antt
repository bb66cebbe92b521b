use Rattle.md_math.proofs.Bits.{read_result}
use Rattle.md_threshold.proofs.expected.value.Goals as goal

pub returns : goal.returns
returns c =
    record {
      is_ratio = rw (read_result c.worth.result c.worth.type_inv, read_result c.whole.result c.whole.type_inv, c.worth.ensures.value, c.whole.ensures.value) at c.reduced.ensures.value;
      least = c.reduced.ensures.least;
    }
