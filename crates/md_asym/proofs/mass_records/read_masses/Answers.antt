use Rattle.std.proofs.Common.{◌≡◌, ◌<◌, pos, Ok, Err, ℤ, subst, arith}
use Rattle.std.proofs.lemmas.Result.{err_from_is_err_and}
use Rattle.md_space.specs.Profiles.{profile_count}
use Rattle.md_setting.specs.Meaning.{sizes_of}
use Rattle.md_asym.specs.SaleReading.{masses_at, masses_of}
use Rattle.md_asym.proofs.ReadingSteps.{each-end, each-fail, each-more}
use Rattle.md_asym.proofs.SaleRead.{masses-known}
use Rattle.md_asym.proofs.mass_records.read_masses.Goals as goal

pub loop-rank-preserved : goal.loop-rank-preserved
loop-rank-preserved c =
    let (numbers, one, items) = c.in_ok-read_rank.ensures in
    rw items (each-more (masses_at c.args.setting.now (pos c.den_of-den.result)) c.loop-rank.rank c.args.reader.now c.loop-rank.reader c.read_rank.new.reader c.loop-rank.masses numbers c.loop-rank.invariant one)

pub returns-in_err-read_rank-clause-reads : goal.returns-in_err-read_rank-clause-reads
returns-in_err-read_rank-clause-reads c =
    let s = c.args.setting.now in
    let p = err_from_is_err_and c.from_residual-in_err-read_rank.result c.from_residual-in_err-read_rank.ensures.1 in
    let below : c.loop-rank.rank < profile_count (sizes_of s) = omega (arith, c.loop-rank-test.true, c.profiles-rank-end.ensures.count) in
    rw (p.1, p.2) (λ ne.
    subst (λ (den : ℤ). masses_of s den c.args.reader.now ≡ Err c.in_err-read_rank.field-0.0) c.den_of-den.ensures.value
    (each-fail (masses_at s (pos c.den_of-den.result)) (profile_count (sizes_of s)) c.loop-rank.rank c.args.reader.now c.loop-rank.reader c.loop-rank.masses _ below c.loop-rank.invariant (c.in_err-read_rank.ensures ne)))

pub returns-clause-reads : goal.returns-clause-reads
returns-clause-reads c =
    let s = c.args.setting.now in
    let end : c.loop-rank.rank ≡ profile_count (sizes_of s) = omega (arith, c.loop-rank-test.false, c.loop-rank.auto.rank-end, c.profiles-rank-end.ensures.count) in
    subst (λ (den : ℤ). masses_of s den c.args.reader.now ≡ Ok (c.loop-rank.masses, c.loop-rank.reader)) c.den_of-den.ensures.value
    (each-end (masses_at s (pos c.den_of-den.result)) (profile_count (sizes_of s)) c.loop-rank.rank c.args.reader.now c.loop-rank.reader c.loop-rank.masses end c.loop-rank.invariant)

pub returns-clause-known : goal.returns-clause-known
returns-clause-known c = masses-known c.args.setting.now (c.args.interim.now).den c.args.reader.now c.loop-rank.reader c.loop-rank.masses (returns-clause-reads c)
