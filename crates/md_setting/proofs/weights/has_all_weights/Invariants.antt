use Rattle.std.proofs.Common.{◌≡◌, true, not, ◌==◌, slice_index}
use Rattle.std.specs.Prelude.{unsigned_abs}
use Rattle.md_setting.specs.Setting.{written}
use Rattle.md_setting.specs.Meaning.{sizes_of, marginal_of}
use Rattle.md_setting.specs.Refusals.{all_below}
use Rattle.md_setting.proofs.weights.has_all_weights.Given as goal

abbrev pub invariant-loop-agent : goal.invariant-loop-agent
invariant-loop-agent l =
    all_below l.agent (λ i. all_below (slice_index (sizes_of (written l.raw)) i) (λ a. not (unsigned_abs (marginal_of (written l.raw) i a) == 0))) ≡ true
