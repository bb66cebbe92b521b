use Rattle.std.proofs.Common.{arith, refl, length-drop}
use Rattle.md_parts.proofs.FieldSteps.{drop-next}
use Rattle.md_parts.proofs.fields.Fields.step.Goals as goal

pub overflow_add-self : goal.overflow_add-self
overflow_add-self c =
    let some = rw (← c.self.view_is) at c.requires in
    omega (arith, some, length-drop c.self.inside.next c.self.inside.fields)

pub returns : goal.returns
returns c = rw (← c.self.view_is) (rw (drop-next c.self.inside.fields c.self.inside.next) refl)
