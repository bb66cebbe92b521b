use Rattle.md_dict_division.proofs.Reading.{read_wide}
use Rattle.md_dict_rows.proofs.candidates.common_at_witnesses.Goals as goal

pub loop-place-init : goal.loop-place-init
loop-place-init c = rw (c.new-divider.ensures, read_wide c.args.candidate c.requires.attempt.size) c.requires.attempt
