use Rattle.md_dict_division.proofs.Reading.{read_wide}
use Rattle.md_dict_division.proofs.divider.Divider.exact.Goals as goal

pub returns-in-None : goal.returns-in-None
returns-in-None c = rw (read_wide c.args.self.now.value c.requires.value_size, read_wide c.args.x c.requires.size) at c.quotient.ensures
