use Rattle.std.proofs.Common.{◌<◌, arith, sym, subst}
use Rattle.std.specs.Prelude.{slice_index}
use Rattle.md_space.proofs.Ranks.{length-IsProfile, report-below}
use Rattle.md_setting.specs.Meaning.{sizes_of}
use Rattle.md_asym_sale.proofs.SaleLaws.{in-sizes}
use Rattle.md_run.proofs.sale.pay.Goals as goal

pub bounds-profile-from : goal.bounds-profile-from
bounds-profile-from c =
    let s = c.args.setting.now in
    omega (arith, c.from.ensures, length-IsProfile (sizes_of s) c.args.profile.now c.requires.profile, in-sizes s c.args.agent c.requires.agent_in)

pub pair_number-pair-requires-clause-kind_in : goal.pair_number-pair-requires-clause-kind_in
pair_number-pair-requires-clause-kind_in c =
    let s = c.args.setting.now in
    let t = c.args.profile.now in
    subst (λ i. slice_index t i < slice_index (sizes_of s) c.args.agent) (sym c.from.ensures)
    (report-below (sizes_of s) t c.args.agent c.requires.profile (in-sizes s c.args.agent c.requires.agent_in))
