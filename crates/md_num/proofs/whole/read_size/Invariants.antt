use Rattle.std.proofs.Common.{◌≡◌, ◌≤◌, take}
use Rattle.std.specs.Str.Parse.{digits_value}
use Rattle.md_num.proofs.whole.read_size.Given as goal

-- the number of the digits so far, which is within the limit
abbrev pub invariant-loop-digit : goal.invariant-loop-digit
invariant-loop-digit l = (l.size ≡ digits_value 10 (take l.digit-index l.digits)) × (l.size ≤ l.limit)
