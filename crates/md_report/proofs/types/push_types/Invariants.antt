use Rattle.std.proofs.Common.{List, [], ◌∷◌, ◌++◌}
use Rattle.md_math.specs.Lists.{up_to}
use Rattle.md_report.specs.Types.{TypeOf, AreTold}
use Rattle.md_report.proofs.types.push_types.Given as goal

abbrev pub invariant-loop-kind : goal.invariant-loop-kind
invariant-loop-kind l =
    (before : List TypeOf) → AreTold l.setting l.mechanism before l.fn.told.items
    → AreTold l.setting l.mechanism (before ++ up_to l.kind (λ a. record { agent = l.agent; kind = a } ∷ [])) l.told.items
