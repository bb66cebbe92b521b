use Rattle.std.proofs.Common.{◌≡◌, take, drop}
use Rattle.md_space.specs.Profiles.{profile_count}
use Rattle.md_space.specs.Strides.{strides_of}
use Rattle.md_space.proofs.space.strides.Given as goal

abbrev pub invariant-loop-n : goal.invariant-loop-n
invariant-loop-n l = (l.rest ≡ profile_count (drop l.n-index l.types)) × (l.strides.items ≡ take l.n-index (strides_of l.types))
