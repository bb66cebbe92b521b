use Rattle.std.proofs.Common.{ap, ◌∙◌}
use Rattle.md_num.specs.WholeText.{whole_of}
use Rattle.md_num.proofs.Texts.{text_of_result, size_of_result, whole_of-text_of}
use Rattle.md_num.proofs.whole.read_whole.Goals as goal

pub returns-clause-text : goal.returns-clause-text
returns-clause-text c = text_of_result c.args.bits c.args.text.now c.read_by_form.result c.requires c.read_by_form.ensures

pub returns-clause-size : goal.returns-clause-size
returns-clause-size c = size_of_result c.args.bits c.args.text.now c.read_by_form.result c.requires c.read_by_form.ensures

pub returns-clause-accepts : goal.returns-clause-accepts
returns-clause-accepts c = λ z e s. c.read_by_form.ensures ∙ ap (whole_of c.args.bits) e ∙ whole_of-text_of c.args.bits z c.requires s
