use Rattle.std.proofs.Common.{◌≡◌, ◌*◌, ◌≤◌, drop}
use Rattle.md_space.specs.Profiles.{profile_count}
use Rattle.md_space.proofs.space.profiles_within.Given as goal

abbrev pub invariant-loop-n : goal.invariant-loop-n
invariant-loop-n l = (l.profiles * profile_count (drop l.n-index l.types) ≡ profile_count l.types) × (l.profiles ≤ 1024)
