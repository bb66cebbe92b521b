use Rattle.std.proofs.Common.{rules, refl, inr}
use Rattle.md_cli_driver.specs.declared.refusal.Refusal.TheVariants as refusal
use Rattle.md_cli_driver.specs.Refused.{HasMadeLine}
use Rattle.md_top.proofs.call.say_refusal.Goals as goal

pub returns-in-Err : goal.returns-in-Err
returns-in-Err g c =
    let made : HasMadeLine c.args.refusal = search rules in
    (refusal.Memory, (inr (refl, made), rw (c.as_bytes-in-Err.ensures.value, c.want_of_memory.ensures) at c.send-in-Err.ensures))
