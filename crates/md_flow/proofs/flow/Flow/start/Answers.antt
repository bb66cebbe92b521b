use Rattle.std.proofs.Common.{◌≡◌, ◌*◌, ap₂, arith, ◌∙◌}
use Rattle.md_flow.proofs.Cells.{AreKept-zeros}
use Rattle.md_flow.proofs.flow.Flow.start.Goals as goal

pub invariant_of-result : goal.invariant_of-result
invariant_of-result c =
    rw (c.in_ok-zeros.ensures, c.in_ok-zeros-2.ensures, c.in_ok-zeros-3.ensures)
    (AreKept-zeros c.nodes-2.result c.demands-2.result c.cell_count.result
    (omega (arith, c.nodes-2.ensures.net.few_nodes, c.nodes-2.ensures.value)) (omega (arith, c.nodes-2.ensures.net.few_demands, c.demands-2.ensures.value)) (c.cell_count.ensures ∙ (let n : c.nodes.result ≡ c.nodes-2.result = omega (arith, c.nodes.ensures.value, c.nodes-2.ensures.value) in let m : c.demands.result ≡ c.demands-2.result = omega (arith, c.demands.ensures.value, c.demands-2.ensures.value) in ap₂ (λ i j. i * j) n m)))
