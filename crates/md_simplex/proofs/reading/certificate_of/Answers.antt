use Rattle.std.proofs.lemmas.Result.{IfOk-weaker}
use Rattle.md_dict.specs.Condensed.{basic_at, entry_at}
use Rattle.md_simplex.proofs.ReadFits.{one_reading}
use Rattle.md_simplex.proofs.ReadDictionary.{certified_of, fits_of}
use Rattle.md_simplex.proofs.reading.certificate_of.Goals as goal

pub returns-clause-certified : goal.returns-clause-certified
returns-clause-certified c =
    IfOk-weaker c.read.result _ _ (λ given h. certified_of c.args.lp.now c.args.dict.now c.requires.holds c.args.step c.requires.sides c.requires.last given h) c.read.ensures.reading

pub returns-clause-fits : goal.returns-clause-fits
returns-clause-fits c =
    IfOk-weaker c.read.result _ _ (λ given h. fits_of c.args.lp.now c.args.dict.now c.requires.holds c.args.step c.requires.sides c.requires.last given c.read.ensures.shape h) c.read.ensures.reading

pub returns-clause-only : goal.returns-clause-only
returns-clause-only c =
    let d = c.args.dict.now in
    IfOk-weaker c.read.result _ _ (λ given h other q. one_reading c.args.lp.now (basic_at d) d.den (entry_at d) c.args.step other given q h) c.read.ensures.reading
