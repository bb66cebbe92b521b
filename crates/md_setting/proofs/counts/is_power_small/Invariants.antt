use Rattle.std.proofs.Common.{◌≡◌, ◌^◌, ◌≤◌}
use Rattle.md_setting.proofs.counts.is_power_small.Given as goal

abbrev pub invariant-loop : goal.invariant-loop
invariant-loop l = (l.power ≡ l.total ^ l.counter) × (l.power ≤ 10 ^ 12)
