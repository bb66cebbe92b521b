use Rattle.std.proofs.Common.{◌≡◌, ◌^◌, ◌<◌, ◌≤◌, get_or, map, to_z, of_z, arith}
use mir.Syntax.{w128}
use Rattle.std.proofs.lemmas.Grind.{common_steps}
use Rattle.std.proofs.lemmas.Int.{to_z-of_z}
use Rattle.std.proofs.lemmas.List.{map-append, length-map}
use Rattle.md_math.specs.Sizes.{AllWithin}
use Rattle.md_lp.specs.Program.{Program, Row, row_count}
use Rattle.md_lp.specs.Shape.{HasPlaces, numbers_of}
use Rattle.md_lp.specs.Stored.{shown}
use Rattle.md_lp.proofs.SparseRows.{All-below}
use Rattle.md_lp.proofs.Building.{IsShaped-push, AppendsDivided-push}
use Rattle.md_lp.proofs.lp.Lp.push_row.Goals as goal

pub invariant_of-self-2 : goal.invariant_of-self-2
invariant_of-self-2 c =
    let right : to_z w128 (of_z w128 c.args.right) ≡ c.args.right = to_z-of_z w128 c.args.right c.ranges.right in
    let raw : Row = record { kind = c.args.kind; terms = c.args.terms.now; right = c.args.right } in
    let p : Program = record { columns = c.self.inside.columns; cost = c.self.inside.cost; factor = c.self.inside.factor; rows = map shown c.self.inside.rows.items } in
    let divided = rw right at c.in_ok-row.ensures in
    let places : HasPlaces p.columns raw.terms = c.has_places.ensures.0 c.if-not-has_places.false in
    let small : AllWithin (2 ^ 44) (numbers_of raw) = rw right at (c.row_is_small.ensures.0 c.if-not-row_is_small.false) in
    let few : row_count p < 8192 = omega (arith, length-map c.self.inside.rows.items shown) in
    rw (c.in_ok-push.ensures.items, map-append) (IsShaped-push p raw (shown c.in_ok-row.row) c.self.invariant divided places small few)

pub returns-clause-ok : goal.returns-clause-ok
returns-clause-ok c =
    let right : to_z w128 (of_z w128 c.args.right) ≡ c.args.right = to_z-of_z w128 c.args.right c.ranges.right in
    let raw : Row = record { kind = c.args.kind; terms = c.args.terms.now; right = c.args.right } in
    let p : Program = record { columns = c.self.inside.columns; cost = c.self.inside.cost; factor = c.self.inside.factor; rows = map shown c.self.inside.rows.items } in
    let divided = rw right at c.in_ok-row.ensures in
    rw (← c.self.view_is, c.in_ok-push.ensures.items, map-append) (AppendsDivided-push p raw (shown c.in_ok-row.row) divided)

-- what the tests have shown where the row is taken
places_here : (c : goal.In_ok-push) → HasPlaces c.args.self.now.columns c.args.terms.now
places_here c = rw (← c.self.view_is) (c.has_places.ensures.0 c.if-not-has_places.false)

sizes_here : (c : goal.In_ok-push) → AllWithin (2 ^ 44) (numbers_of (record { kind = c.args.kind; terms = c.args.terms.now; right = c.args.right }))
sizes_here c = rw (to_z-of_z w128 c.args.right c.ranges.right) at (c.row_is_small.ensures.0 c.if-not-row_is_small.false)

pub returns-clause-index : goal.returns-clause-index
returns-clause-index c = (λ e _. cc, λ none. absurd (none (places_here c)))

pub returns-clause-magnitude : goal.returns-clause-magnitude
returns-clause-magnitude c = (λ e. cc, λ both. absurd (both.1 (sizes_here c)))

pub returns-clause-taken : goal.returns-clause-taken
returns-clause-taken c =
    let few : row_count c.args.self.now < 8192 = rw (← c.self.view_is) (omega (arith, length-map c.self.inside.rows.items shown)) in
    (record { places = places_here c; sizes = sizes_here c }, few)

pub divided_row-requires-clause-columns : goal.divided_row-requires-clause-columns
divided_row-requires-clause-columns c =
    let places : HasPlaces c.self.inside.columns c.args.terms.now = c.has_places.ensures.0 c.if-not-has_places.false in
    let few : c.self.inside.columns ≤ 65536 = c.self.invariant.columns in
    λ k none b. (let below : (get_or c.args.terms.now k none).column < c.self.inside.columns = All-below c.self.inside.columns c.args.terms.now places k none b in omega arith)

-- where memory ran out
pub returns-in_err-push-clause-ok : goal.returns-in_err-push-clause-ok
returns-in_err-push-clause-ok c = grind (arith, common_steps)

pub returns-in_err-push-clause-err : goal.returns-in_err-push-clause-err
returns-in_err-push-clause-err c = grind (arith, common_steps)

pub returns-in_err-push-clause-index : goal.returns-in_err-push-clause-index
returns-in_err-push-clause-index c = grind (arith, common_steps)

pub returns-in_err-push-clause-magnitude : goal.returns-in_err-push-clause-magnitude
returns-in_err-push-clause-magnitude c = grind (arith, common_steps)

pub returns-in_err-push-clause-too_many : goal.returns-in_err-push-clause-too_many
returns-in_err-push-clause-too_many c = grind (arith, common_steps)

pub returns-in_err-push-clause-taken : goal.returns-in_err-push-clause-taken
returns-in_err-push-clause-taken c = grind (arith, common_steps)
