use Rattle.std.proofs.Common.{arith, refl}
use borrow.Author.Rules.{rules}
use Rattle.md_lp.specs.Shape.{HasPlaces}
use Rattle.md_lp.proofs.PlacesSoFar.{IsPlacedBelow-none, IsPlacedBelow-more, IsPlacedBelow-all, HasPlaces-not_below, HasPlaces-not_past}
use Rattle.md_lp.proofs.places.has_places.Goals as goal
use Rattle.md_lp.proofs.places.has_places.Goals.{Joined-then-term-least, then-term-least-via-then-term-least, then-term-least-via-else-term-least+then-term-columns}

refused : (c : Joined-then-term-least) → HasPlaces c.args.columns c.args.terms.now → ⊥
refused c p = elim c.then-term-least.branch [
  | then-term-least-via-then-term-least w ↦ HasPlaces-not_below c.args.columns c.args.terms.now c.loop-term.term-index c.loop-term.least c.loop-term.invariant c.loop-term-test.true w.if-term-least.true p
  | then-term-least-via-else-term-least+then-term-columns w ↦ HasPlaces-not_past c.args.columns c.args.terms.now c.loop-term.term-index c.loop-term-test.true w.if-term-columns.true p
]

pub loop-term-init : goal.loop-term-init
loop-term-init c = IsPlacedBelow-none c.args.columns c.args.terms.now

pub returns-then-term-least : goal.returns-then-term-least
returns-then-term-least c = (search rules, λ p. absurd (refused c p))

pub overflow_add-least : goal.overflow_add-least
overflow_add-least c = record { fits = omega (arith, c.ranges.columns.fits) }

pub loop-term-preserved : goal.loop-term-preserved
loop-term-preserved c = IsPlacedBelow-more c.args.columns c.args.terms.now c.loop-term.term-index c.loop-term.least _ c.loop-term.invariant refl c.if-term-least.false c.if-term-columns.false

pub returns : goal.returns
returns c = (λ _. IsPlacedBelow-all c.args.columns c.args.terms.now c.loop-term.term-index c.loop-term.least c.loop-term.invariant (omega arith), search rules)
