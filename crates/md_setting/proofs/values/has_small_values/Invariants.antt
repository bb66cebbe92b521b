use Rattle.std.proofs.Common.{◌≡◌, true}
use Rattle.md_space.specs.Profiles.{profile_at}
use Rattle.md_setting.specs.Setting.{written}
use Rattle.md_setting.specs.Meaning.{sizes_of, outcome_count, value_of}
use Rattle.md_setting.specs.Refusals.{all_below, is_small}
use Rattle.md_setting.proofs.values.has_small_values.Given as goal

abbrev pub invariant-loop-rank : goal.invariant-loop-rank
invariant-loop-rank l =
    all_below l.rank (λ r. all_below (outcome_count (written l.raw)) (λ o. is_small 10000000 (value_of (written l.raw) (profile_at (sizes_of (written l.raw)) r) o))) ≡ true
