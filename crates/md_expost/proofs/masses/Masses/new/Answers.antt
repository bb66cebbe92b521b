use Rattle.std.proofs.Common.{refl, to_z, of_z}
use mir.Syntax.{w128}
use Rattle.md_expost.specs.declared.masses.Masses.{Masses}
use Rattle.md_expost.proofs.MassLaws.{made}
use Rattle.md_expost.proofs.masses.Masses.new.Goals as goal

pub returns-clause-masses : goal.returns-clause-masses
returns-clause-masses c =
    let y : Masses = record { den = to_z w128 (of_z w128 c.args.den); rows = c.args.rows } in
    let range = c.if-not-has_den.ensures.0 refl in
    made c.args.auction.now y
    (record {
      signs = record {
        frame = record {
          shape = c.if-not-has_shape.ensures.shape.0 refl;
          den = record { positive = range.0; size = range.1 };
        };
        signs = c.in_default.ensures;
      };
      present = c.in_default-first_absent.ensures;
    })
    c.in_default-first_over.ensures
