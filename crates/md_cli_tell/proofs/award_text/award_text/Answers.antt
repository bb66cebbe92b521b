use Rattle.md_cli_tell.proofs.award_text.award_text.Goals as goal

pub returns : goal.returns
returns c =
    rw (c.deref.ensures.value, c.in_ok-push_end.ensures.rows, c.in_ok-push_part-3.ensures, c.in_ok-push_part-2.ensures, c.in_ok-push_part.ensures, c.new-rows.ensures.items)
    at c.write_records.ensures.text
