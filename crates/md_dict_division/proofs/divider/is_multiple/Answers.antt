use Rattle.std.proofs.Common.{refl}
use Rattle.std.proofs.lemmas.Bool.{eqb-true}
use Rattle.std.proofs.lemmas.Nat.Gcd.{dvd_of_mod-eq-zero, mod-eq-zero_of_dvd}
use Rattle.md_dict_division.proofs.divider.is_multiple.Goals as goal

pub returns : goal.returns
returns c = ((λ t. record { divides = dvd_of_mod-eq-zero c.args.divisor (eqb-true _ _ t) }), (λ h. rw (mod-eq-zero_of_dvd c.args.divisor h.divides) refl))
