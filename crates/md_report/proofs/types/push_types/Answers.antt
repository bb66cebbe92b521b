use Rattle.std.proofs.Common.{◌≡◌, ◌+◌, [], ◌∷◌, ◌++◌, slice_index, ap, sym, subst, arith}
use Rattle.md_math.specs.Lists.{up_to}
use Rattle.md_setting.specs.Meaning.{sizes_of}
use Rattle.md_report.specs.Types.{AreTold}
use Rattle.md_report.proofs.TypeLaws.{of_agent-more}
use Rattle.md_report.proofs.types.push_types.Goals as goal

pub loop-kind-preserved : goal.loop-kind-preserved
loop-kind-preserved c = λ before h.
    subst (AreTold c.args.setting.now c.args.mechanism.now (before ++ up_to (c.loop-kind.kind + 1) (λ a. record { agent = c.args.agent; kind = a } ∷ []))) (sym c.in_ok-push.ensures.items)
    (of_agent-more c.args.setting.now c.args.mechanism.now before c.loop-kind.told.items c.type_numbers.result c.args.agent c.loop-kind.kind
    (c.loop-kind.invariant before h) c.type_numbers.ensures.told c.type_numbers.ensures.agent c.type_numbers.ensures.kind)

pub returns : goal.returns
returns c = λ before h.
    let s = c.args.setting.now in
    let end : c.loop-kind.kind ≡ slice_index (sizes_of s) c.args.agent =
    omega (arith, c.loop-kind-test.false, c.loop-kind.auto.kind-end, c.types-kind-end.ensures.count, ap (λ sizes. slice_index sizes c.args.agent) c.space.ensures.sizes) in
    subst (λ n. AreTold s c.args.mechanism.now (before ++ up_to n (λ a. record { agent = c.args.agent; kind = a } ∷ [])) c.loop-kind.told.items) end (c.loop-kind.invariant before h)
