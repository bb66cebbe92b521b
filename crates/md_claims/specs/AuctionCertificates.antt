-- What an answer says of interim odds and payments as a certificate of an auction's reduced program.
use Rattle.std.specs.Prelude.{ℤ, List, ◌++◌, map}
use Rattle.md_border.specs.declared.interim.Interim.{Interim}
use Rattle.md_cert.specs.declared.bound.Bound.{Bound}
use Rattle.md_cert.specs.declared.certificate.Certificate.{Certificate}
use Rattle.md_cert.specs.declared.certificate.Certificate.TheVariants.{Optimal}
use Rattle.md_reduced.specs.Averages.{plus_part, minus_part}

-- the odds, then the plus parts of the payments, then their minus parts
abbrev pub point_of : Interim → List ℤ
point_of interim = interim.odds ++ (map plus_part interim.pays ++ map minus_part interim.pays)

-- this point with these multipliers
abbrev pub auction_certificate : Interim → Bound → Certificate
auction_certificate interim bound = Optimal interim.den (point_of interim) bound
