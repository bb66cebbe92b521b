use Rattle.std.proofs.Common.{◌+◌, ◌*◌, arith}
use Rattle.md_find_numbers.proofs.Bits.{bit_step, more_bits, room}
use Rattle.md_find_numbers.proofs.wide_size.divided_by_bits.Goals as goal

pub with_bit-part-requires-clause-room : goal.with_bit-part-requires-clause-room
with_bit-part-requires-clause-room c = room c.loop-done.part.quotient c.loop-done.done (omega arith) c.loop-done.invariant.room

pub loop-done-preserved : goal.loop-done-preserved
loop-done-preserved c = record {
  rest = c.with_bit-part.ensures.rest;
  room = more_bits c.loop-done.part.quotient c.with_bit-part.result.quotient c.loop-done.done c.loop-done.invariant.room c.with_bit-part.ensures.size;
  value = bit_step c.args.rest c.args.word c.loop-done.done (c.loop-done.part.quotient * c.args.by + c.loop-done.part.rest) (c.with_bit-part.result.quotient * c.args.by + c.with_bit-part.result.rest) (omega arith) c.loop-done.invariant.value c.with_bit-part.ensures.value;
}
