use Rattle.std.proofs.Common.{◌≡◌, ℕ, pos, ◌++◌, drop, ap, ◌∙◌}
use Rattle.md_math.specs.Lists.{list_to}
use Rattle.md_rows.specs.Points.{point_of}
use Rattle.md_claims.specs.Rays.{ray_of}
use Rattle.md_claims.proofs.FitLaws.{ray-left, if_same}
use Rattle.md_claims.proofs.certificates.ray_of.Goals as goal

pub returns : goal.returns
returns c =
    let s = c.args.setting.now in
    let m = c.args.mechanism.now in
    let point : c.in_ok-point.point ≡ point_of s (record m { pays = c.args.ray.now }) = c.in_ok-point.ensures.value ∙ ap (point_of s) c.in_ok-paying.ensures in
    let list : list_to c.len.result (λ (_ : ℕ). pos 0) ++ drop c.len.result c.in_ok-point.point ≡ ray_of s c.args.ray.now =
    ap (λ xs. list_to c.len.result (λ (_ : ℕ). pos 0) ++ drop c.len.result xs) point ∙ ray-left s m c.args.ray.now c.len.result c.requires.accepted c.len.ensures in
    if_same c.without_first.result _ _ list c.without_first.ensures
