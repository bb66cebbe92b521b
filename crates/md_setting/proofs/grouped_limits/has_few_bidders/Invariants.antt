use Rattle.std.proofs.Common.{◌≡◌, ◌+◌, take, unsigned_abs}
use Rattle.std.specs.List.{sum_by}
use Rattle.md_setting.specs.declared.raw.RawGroup.{RawGroup}
use Rattle.md_setting.proofs.grouped_limits.has_few_bidders.Given as goal

abbrev pub invariant-loop-group : goal.invariant-loop-group
invariant-loop-group l = l.left + sum_by (λ (group : RawGroup). unsigned_abs group.count) (take l.group-index l.groups) ≡ 1000
