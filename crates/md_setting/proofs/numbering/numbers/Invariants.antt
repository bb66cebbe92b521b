use Rattle.std.proofs.Common.{◌≡◌, map, take, string_bytes}
use Rattle.md_setting.proofs.numbering.numbers.Given as goal

abbrev pub invariant-loop-text : goal.invariant-loop-text
invariant-loop-text l = map string_bytes l.set.keys ≡ map string_bytes (take l.text-index l.texts)
