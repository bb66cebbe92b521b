use Rattle.std.proofs.Common.{◌≡◌, ◌+◌, ◌<◌, ap, sym, ◌∙◌, subst, arith}
use Rattle.std.specs.Prelude.{slice_index}
use Rattle.md_setting.specs.Meaning.{agent_count, sizes_of}
use Rattle.md_asym_sale.specs.Pairs.{pairs_before, IsPair}
use Rattle.md_mech.proofs.CountLaws.{agents-length}
use Rattle.md_asym_sale.proofs.PairLaws.{before-all, before-more, pair-agent, pair-kind}
use Rattle.md_asym_sale.proofs.SaleLaws.{in-sizes}
use Rattle.md_asym_sale.proofs.pairs.pair_at.Goals as goal

pub returns-then-rest-from : goal.returns-then-rest-from
returns-then-rest-from c =
    let s = c.args.setting.now in
    let i = c.loop-agent.agent in
    let a = c.loop-agent.rest in
    let inside : i < agent_count s = omega (arith, c.loop-agent-test.true, c.agents-agent-end.ensures.count) in
    let kind_in : a < slice_index (sizes_of s) i = omega (arith, c.if-rest-from.true, c.from.ensures, c.types-types.ensures.count) in
    let pair : IsPair (sizes_of s) c.args.number i a = record { agent_in = in-sizes s i inside; kind_in = kind_in; number = c.loop-agent.invariant } in
    record {
      agent_in = inside;
      kind_in = kind_in;
      agent = sym (pair-agent (sizes_of s) c.args.number i a pair);
      kind = sym (pair-kind (sizes_of s) c.args.number i a pair);
    }

pub loop-agent-preserved : goal.loop-agent-preserved
loop-agent-preserved c =
    let s = c.args.setting.now in
    let i = c.loop-agent.agent in
    let below : i < agent_count s = omega (arith, c.loop-agent-test.true, c.agents-agent-end.ensures.count) in
    omega (arith, c.loop-agent.invariant, before-more (sizes_of s) i (in-sizes s i below), c.types-types.ensures.count, c.from.ensures, c.from-rest.ensures, c.if-rest-from.false)

pub unreachable-requires : goal.unreachable-requires
unreachable-requires c =
    let s = c.args.setting.now in
    let end : c.loop-agent.agent ≡ agent_count s = omega (arith, c.loop-agent-test.false, c.loop-agent.auto.agent-end, c.agents-agent-end.ensures.count) in
    omega (arith, c.loop-agent.invariant, c.requires, before-all (sizes_of s) c.loop-agent.agent (end ∙ sym (agents-length s)))
