use Rattle.std.proofs.Common.{◌≡◌}
use Rattle.std.specs.Prelude.{slice_index}
use Rattle.md_math.specs.Lists.{up_to}
use Rattle.md_sale_report.specs.TightCuts.{tight_cut}
use Rattle.md_sale_report.proofs.cuts.tight_cuts.Given as goal

abbrev pub invariant-loop-place : goal.invariant-loop-place
invariant-loop-place l = l.tight.items ≡ up_to l.place (λ k. tight_cut l.setting l.den l.odds (slice_index l.sets k))
