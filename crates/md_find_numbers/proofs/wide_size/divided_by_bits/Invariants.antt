use Rattle.std.proofs.Common.{◌≡◌, ◌+◌, ◌-◌, ◌*◌, ◌/◌, ◌^◌, ◌<◌}
use Rattle.md_find_numbers.proofs.wide_size.divided_by_bits.Given as goal

-- the bits so far are divided
abbrev pub invariant-loop-done : goal.invariant-loop-done
invariant-loop-done l = record {
  rest : l.part.rest < l.by;
  room : l.part.quotient < 2 ^ l.done;
  value : l.part.quotient * l.by + l.part.rest ≡ l.rest * 2 ^ l.done + l.word / 2 ^ (128 - l.done);
}
