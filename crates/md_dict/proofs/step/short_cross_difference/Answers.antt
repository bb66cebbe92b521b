use Rattle.std.proofs.Common.{◌≡◌, ◌-ℤ◌, ◌*ℤ◌, refl}
use Rattle.md_dict_division.proofs.Reading.{read, read_cast}
use Rattle.md_dict.proofs.ShortProducts.{IsShort, are_short}
use Rattle.md_dict.proofs.step.short_cross_difference.Goals as goal
use Rattle.md_dict.proofs.step.short_cross_difference.Goals.{After-from-4}

record AreRead (c : After-from-4) : Type 0 where
  a : c.from.result ≡ c.args.a
  b : c.from-2.result ≡ c.args.b
  c' : c.from-3.result ≡ c.args.c
  d : c.from-4.result ≡ c.args.d
  short : IsShort c.args.a c.args.b c.args.c c.args.d

are_read : (c : After-from-4) → AreRead c
are_read c = record {
  a = rw c.from.ensures (read_cast c.args.a c.ranges.a c.requires.a);
  b = rw c.from-2.ensures (read_cast c.args.b c.ranges.b c.requires.b);
  c' = rw c.from-3.ensures (read_cast c.args.c c.ranges.c c.requires.c);
  d = rw c.from-4.ensures (read_cast c.args.d c.ranges.d c.requires.d);
  short = are_short c.args.a c.args.b c.args.c c.args.d c.requires.a c.requires.b c.requires.c c.requires.d;
}

pub overflow_sub-result : goal.overflow_sub-result
overflow_sub-result c =
    let h = are_read c in
    rw (h.a, h.b, h.c', h.d, read c.args.a c.ranges.a, read c.args.b c.ranges.b, read c.args.c c.ranges.c, read c.args.d c.ranges.d, read (c.args.a *ℤ c.args.b) h.short.first_fits, read (c.args.c *ℤ c.args.d) h.short.second_fits) h.short.fits

pub returns-clause-value : goal.returns-clause-value
returns-clause-value c =
    let h = are_read c in
    rw (h.a, h.b, h.c', h.d, read c.args.a c.ranges.a, read c.args.b c.ranges.b, read c.args.c c.ranges.c, read c.args.d c.ranges.d, read (c.args.a *ℤ c.args.b) h.short.first_fits, read (c.args.c *ℤ c.args.d) h.short.second_fits, read (c.args.a *ℤ c.args.b -ℤ c.args.c *ℤ c.args.d) h.short.fits) refl

pub returns-clause-size : goal.returns-clause-size
returns-clause-size c =
    let h = are_read c in
    rw (h.a, h.b, h.c', h.d, read c.args.a c.ranges.a, read c.args.b c.ranges.b, read c.args.c c.ranges.c, read c.args.d c.ranges.d, read (c.args.a *ℤ c.args.b) h.short.first_fits, read (c.args.c *ℤ c.args.d) h.short.second_fits, read (c.args.a *ℤ c.args.b -ℤ c.args.c *ℤ c.args.d) h.short.fits) h.short.size
