use Rattle.std.proofs.Common.{◌≡◌, pos, Ok}
use Rattle.md_asym.specs.SaleReading.{each_of, masses_at}
use Rattle.md_asym.proofs.mass_records.read_masses.Given as goal

abbrev pub invariant-loop-rank : goal.invariant-loop-rank
invariant-loop-rank l = each_of l.rank (masses_at l.setting (pos l.den)) l.fn.reader ≡ Ok (l.masses, l.reader)
