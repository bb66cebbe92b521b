use Rattle.std.proofs.Common.{arith, length-drop}
use Rattle.md_parts.proofs.fields.Fields.refusal.Goals as goal

pub overflow_add-result : goal.overflow_add-result
overflow_add-result c =
    let some = rw (← c.self.view_is) at c.requires in
    omega (arith, some, length-drop c.self.inside.next c.self.inside.fields)
