use Rattle.std.proofs.Common.{rules, FitsSigned, Ok, Err, refl}
use Rattle.std.proofs.lemmas.Int.{to_z-of_z}
use mir.Syntax.{w128}
use Rattle.md_cli_tell.proofs.Profiles.{value-placed, value-unread}
use Rattle.md_cli_tell.proofs.profile.value_of.Goals as goal

pub returns-in-Ok : goal.returns-in-Ok
returns-in-Ok c =
    let fits : FitsSigned w128 c.in-Ok.value = search rules in
    value-placed c.args.auction.now c.args.text.now (Ok c.in-Ok.value) c.kinds-few.ensures.shaped (rw c.as_bytes.ensures.value at c.in-Ok.ensures.accepts)
    c.in-Ok.value c.place_of.result refl (rw c.as_bytes.ensures.value at c.in-Ok.ensures.text)
    (rw (to_z-of_z w128 c.in-Ok.value fits) at c.place_of.ensures)

pub returns-in-Err : goal.returns-in-Err
returns-in-Err c =
    value-unread c.args.auction.now c.args.text.now (Err c.in-Err.field-0) c.kinds-few.ensures.shaped (rw c.as_bytes.ensures.value at c.in-Err.ensures.accepts)
    c.in-Err.field-0 refl
