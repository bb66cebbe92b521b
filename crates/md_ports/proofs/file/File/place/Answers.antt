use Rattle.md_ports.proofs.FirstNamed.{found-from_position}
use Rattle.md_ports.proofs.file.File.place.Goals as goal

pub returns : goal.returns
returns c = found-from_position c.args.files.now c.args.name.now c.position.result c.position.ensures
