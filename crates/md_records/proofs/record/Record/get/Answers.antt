use Rattle.std.proofs.Common.{◌∙◌}
use Rattle.md_records.proofs.Reading.{field_at-slice_get}
use Rattle.md_records.proofs.record.Record.get.Goals as goal

pub returns : goal.returns
returns c = rw (← c.self.view_is) (c.get.ensures.value ∙ field_at-slice_get _ _)
