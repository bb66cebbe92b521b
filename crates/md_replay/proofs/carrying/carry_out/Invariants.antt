use Rattle.std.proofs.Common.{length, take}
use Rattle.md_replay.specs.Standing.{IsAt, IsToldTo}
use Rattle.md_replay.proofs.carrying.carry_out.Given as goal

abbrev pub invariant-loop-place : goal.invariant-loop-place
invariant-loop-place l = record {
  at : IsAt l.fn.lp l.fn.width (take l.place l.pivots) l.dict;
  told : IsToldTo l.fn.lp (take l.place l.pivots) (length (take l.place l.pivots)) l.told;
}
