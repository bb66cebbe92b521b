use Rattle.md_find_numbers.proofs.Signs.{rest_of}
use Rattle.md_find_numbers.proofs.wide_number.WideNumber.rest.Goals as goal

pub returns : goal.returns
returns c = rest_of c.self.inside.negative c.self.inside.size c.divided.result.quotient c.args.by c.divided.result.rest c.args.self.now c.self.view_is c.divided.ensures.value c.divided.ensures.rest
