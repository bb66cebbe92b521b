use Rattle.std.proofs.Common.{sym}
use Rattle.md_parts.proofs.FieldSteps.{drop-at, drop-past}
use Rattle.md_parts.proofs.fields.Fields.text.Goals as goal

pub returns-in-Some : goal.returns-in-Some
returns-in-Some c = rw (← c.self.view_is) (drop-at c.self.inside.fields c.self.inside.next _ (sym c.in-Some.ensures))

pub returns-in-None : goal.returns-in-None
returns-in-None c =
    let some = rw (← c.self.view_is) at c.requires in
    absurd (drop-past c.self.inside.fields c.self.inside.next (sym c.in-None.ensures) some)
