use Rattle.std.proofs.Common.{◌≡◌, ◌++◌, sym, ◌∙◌}
use Rattle.md_records.specs.Written.{text_of_records}
use Rattle.md_replay.specs.Records.{basis_records, last_records, wide_records}
use Rattle.md_replay.proofs.RecordLaws.{text_of_records-more}
use Rattle.md_replay.proofs.text.replay_text.Goals as goal

pub returns : goal.returns
returns c =
    let told = c.args.replay.now in
    let bases = basis_records 0 told.dens told.greatest in
    let last = wide_records told.wide ++ last_records told.followed in
    let text_is : c.add_records.new.text.items ≡ text_of_records bases ++ text_of_records last =
    rw (c.in_ok-text.ensures, c.deref.ensures.value, c.in_ok-last_rows.ensures) at c.in_ok-add_records.ensures in
    text_is ∙ sym (text_of_records-more bases last)
