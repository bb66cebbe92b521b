use Rattle.std.proofs.Common.{◌≡◌, ◌*◌, ◌^◌, ◌<◌, length, unsigned_abs}
use Rattle.md_dict_division.specs.Inverses.{EndsInZeros}
use Rattle.md_dict_rows.specs.Reduce.{AreDivided, IsGreatestSize}
use Rattle.md_dict_rows.proofs.short.write_shortly.Given as goal

abbrev pub invariant-loop-place : goal.invariant-loop-place
invariant-loop-place l =
    (EndsInZeros l.quick.guess.shift l.lost → l.greatest * unsigned_abs l.quick.value < 2 ^ 63 → AreDivided l.combination l.own l.taken l.quick.value l.fresh l.place)
    × IsGreatestSize l.place l.fresh l.greatest × (length l.fresh ≡ length l.fn.fresh)
