use Rattle.std.proofs.Common.{◌≡◌, true}
use Rattle.md_space.specs.Profiles.{profile_at}
use Rattle.md_setting.specs.Setting.{written}
use Rattle.md_setting.specs.Meaning.{sizes_of, value_of}
use Rattle.md_setting.specs.Refusals.{all_below, is_small}
use Rattle.md_setting.proofs.values.are_small_values.Given as goal

abbrev pub invariant-loop-outcome : goal.invariant-loop-outcome
invariant-loop-outcome l =
    all_below l.outcome (λ o. is_small 10000000 (value_of (written l.raw) (profile_at (sizes_of (written l.raw)) l.rank) o)) ≡ true
