use Rattle.std.proofs.Common.{◌∷◌, ◌++◌, [], ap₂, sym, ◌∙◌}
use Rattle.md_cli_tell.proofs.StandingRecords.{records-next}
use Rattle.md_cli_tell.proofs.conditions.standing_records.Goals as goal

pub loop-index-preserved : goal.loop-index-preserved
loop-index-preserved c =
    c.in_ok-push.ensures.items ∙ ap₂ (λ rows row. rows ++ row ∷ []) c.loop-index.invariant c.in_ok-standing_record.ensures
    ∙ sym (records-next c.args.standings.now c.loop-index.index _ c.loop-index-test.true)
