use Rattle.std.proofs.Common.{◌≡◌, ◌++◌, None}
use Rattle.std.specs.Prelude.{slice_index_or}
use Rattle.md_math.specs.Lists.{up_to}
use Rattle.md_require_text.specs.RequiredRows.{shadow_row}
use Rattle.md_require_text.proofs.required_writing.push_shadows.Given as goal

abbrev pub invariant-loop-index : goal.invariant-loop-index
invariant-loop-index l = l.to.items ≡ l.fn.to.items ++ up_to l.index (λ k. shadow_row k (slice_index_or l.shadows k None))
