use Rattle.std.proofs.Common.{◌≤◌, length, arith}
use Rattle.md_lp.specs.Stored.{shown_terms}
use Rattle.md_lp.proofs.SparseRows.{length-HasPlaces}
use Rattle.md_lp.proofs.StoredTerms.{length-shown}
use Rattle.md_lp.proofs.lp.Lp.term_count.Goals as goal

pub overflow_cast-result : goal.overflow_cast-result
overflow_cast-result c =
    let few : length (shown_terms c.terms.result.now) ≤ c.args.self.now.columns = length-HasPlaces c.args.self.now.columns (shown_terms c.terms.result.now) c.terms.ensures.places in
    let columns = c.terms.ensures.shaped.columns in
    record { fits = omega (arith, length-shown c.terms.result.now) }
