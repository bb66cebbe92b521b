use Rattle.std.proofs.Common.{◌≡◌, ◌-◌, ◌^◌, replicate}
use Rattle.md_asym.proofs.mass_records.most_masses.Given as goal

abbrev pub invariant-loop-place : goal.invariant-loop-place
invariant-loop-place l = l.mosts.items ≡ replicate l.place (2 ^ 126 - 1)
