use Rattle.std.proofs.Common.{◌≡◌, ◌*◌, unsigned_abs, subst}
use Rattle.std.proofs.Math.Nat.{dvd-mul_right}
use Rattle.md_dict_division.proofs.Reading.{read_wide}
use Rattle.md_dict_division.proofs.Divisors.{IsGcdOfTwo-divides}
use Rattle.md_dict_division.proofs.divider.Divider.common.Goals as goal
use Prim.Native.Nat.{◌∣◌}

pub returns-in-Some-clause-divisor : goal.returns-in-Some-clause-divisor
returns-in-Some-clause-divisor c =
    let divisor = unsigned_abs c.args.self.now.value in
    let whole : divisor * c.in-Some.field-0 ≡ unsigned_abs c.args.x = rw (c.unsigned_abs.ensures.value, read_wide c.args.x c.requires.size) at c.in-Some.ensures in
    IsGcdOfTwo-divides c.args.self.now.value c.args.x c.requires.positive (record { divides = subst (λ n. divisor ∣ n) whole (dvd-mul_right divisor c.in-Some.field-0) })
