use Rattle.std.proofs.Common.{◌≡◌, map}
use Rattle.std.specs.Prelude.{string_bytes}
use Rattle.md_math.specs.Lists.{list_to}
use Rattle.md_conditions_text.specs.Names.{name_at}
use Rattle.md_conditions_text.proofs.names.profile_names.Given as goal

abbrev pub invariant-loop-rank : goal.invariant-loop-rank
invariant-loop-rank l = map string_bytes l.names.items ≡ list_to l.rank (name_at l.setting)
