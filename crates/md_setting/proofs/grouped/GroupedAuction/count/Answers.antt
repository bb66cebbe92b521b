use Rattle.std.proofs.Common.{FitsSigned, ap, rules}
use Rattle.std.proofs.lemmas.Int.{to_z-of_z}
use mir.Syntax.{w64}
use Rattle.md_setting.specs.Grouped.{WrittenGroup}
use Rattle.md_setting.proofs.GroupedLaws.{count_fits}
use Rattle.md_setting.proofs.grouped.GroupedAuction.count.Goals as goal

pub overflow_cast-result : goal.overflow_cast-result
overflow_cast-result c =
    let count = (c.group.result.now).count in
    let fits : FitsSigned w64 count = search rules in
    let cast = count_fits c.args.self.now c.args.group count c.group.ensures.shaped c.requires (ap (λ (g : WrittenGroup). g.count) c.group.ensures.written) in
    rw (to_z-of_z w64 count fits) (cast.0, record { fits = cast.1 })
