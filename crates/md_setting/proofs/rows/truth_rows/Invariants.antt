use Rattle.std.proofs.Common.{◌≡◌, ◌*◌, ◌-◌, ◌≤◌, take}
use Rattle.std.specs.List.{sum_by}
use Rattle.md_space.specs.Profiles.{profile_count}
use Rattle.md_setting.specs.Rows.{truth_places}
use Rattle.md_setting.proofs.rows.truth_rows.Given as goal

abbrev pub invariant-loop-agent : goal.invariant-loop-agent
invariant-loop-agent l =
    (l.rows ≡ sum_by (λ n. truth_places l.truth (profile_count l.space) n * (n - 1)) (take l.agent l.space)) × (l.rows ≤ l.agent * 16384)
