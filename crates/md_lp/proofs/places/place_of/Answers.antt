use Rattle.std.proofs.Common.{rules}
use Rattle.std.proofs.lemmas.List.Sorted.{answers_always}
use Rattle.md_lp.specs.Stored.{kept_column}
use Rattle.md_lp.proofs.PlacesSoFar.{searched}
use Rattle.md_lp.proofs.places.place_of.Goals as goal

-- the closure gives a term's column
pub returns : goal.returns
returns c =
    let facts = c.binary_search_by_key.ensures in
    let by_column = facts.position kept_column (answers_always _ _ _ (λ f a r g called. search rules)) in
    searched c.args.terms.now c.args.column c.requires _ facts.bound by_column
