use Rattle.std.proofs.Common.{◌≡◌, true, not, ◌==◌}
use Rattle.std.specs.Prelude.{unsigned_abs}
use Rattle.md_setting.specs.Setting.{written}
use Rattle.md_setting.specs.Meaning.{marginal_of}
use Rattle.md_setting.specs.Refusals.{all_below}
use Rattle.md_setting.proofs.weights.has_type_weights.Given as goal

abbrev pub invariant-loop-kind : goal.invariant-loop-kind
invariant-loop-kind l = all_below l.kind (λ a. not (unsigned_abs (marginal_of (written l.raw) l.agent a) == 0)) ≡ true
