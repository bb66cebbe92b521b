use Rattle.std.proofs.Common.{refl, to_z, of_z}
use mir.Syntax.{w128}
use Rattle.md_mech.specs.declared.mechanism.Mechanism.{Mechanism}
use Rattle.md_mech.proofs.MadeLaws.{made}
use Rattle.md_mech.proofs.mechanism.Mechanism.new.Goals as goal

pub returns-clause-accepted : goal.returns-clause-accepted
returns-clause-accepted c =
    let m : Mechanism = record { den = to_z w128 (of_z w128 c.args.den); chances = c.args.chances; pays = c.args.pays } in
    let shape = c.if-not-has_shape.ensures.shape.0 refl in
    let range = c.if-not-has_den.ensures.0 refl in
    made c.args.setting.now m
    (record {
      chances = record {
        frame = record {
          shape = record { chances = shape.0; pays = shape.1 };
          den = record { positive = range.0; size = range.1 };
        };
        chances = c.in_default.ensures;
      };
      wholes = c.in_default-first_partial.ensures;
    })
    c.in_default-first_bad_payment.ensures
