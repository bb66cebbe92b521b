use Rattle.std.proofs.Common.{◌≡◌, ◌+◌, ◌≤◌, ◌+ℤ◌, ◌*ℤ◌, ℤ, ℕ, List, [], arith, subst}
use mir.Syntax.{w128}
use Rattle.std.proofs.lemmas.Int.{to_z-of_z}
use Rattle.md_math.specs.Sizes.{IsWithin}
use Rattle.md_math.proofs.SizeLaws.{IsWithin-wider}
use Rattle.md_lp.specs.declared.term.Term.{Term}
use Rattle.md_forms.specs.Terms.{AddsTerms}
use Rattle.md_forms.proofs.TermLaws.{adds-both, adds-all, adds-sum}
use Rattle.md_rows.proofs.shares.pair.Goals as goal

both : (low high : ℕ) (first second : ℤ) (old mid new : List Term) → old ≡ [] → low + 1 ≤ high → IsWithin 1 first → IsWithin 1 second
    → ((limit : ℕ) → IsWithin limit first → AddsTerms limit low (low + 1) (λ x. first *ℤ x low) old mid)
    → ((limit : ℕ) → IsWithin limit second → AddsTerms limit high (high + 1) (λ x. second *ℤ x high) mid new)
    → AddsTerms 1000000 low (high + 1) (λ x. first *ℤ x low +ℤ second *ℤ x high) [] new
both low high first second old mid new e order f g p q =
    subst (λ start. AddsTerms 1000000 low (high + 1) (λ x. first *ℤ x low +ℤ second *ℤ x high) start new) e
    (adds-both 1000000 low (low + 1) high (high + 1) (λ x. first *ℤ x low) (λ x. second *ℤ x high) old mid new
    (p 1000000 (IsWithin-wider 1 1000000 first (omega arith) f)) (q 1000000 (IsWithin-wider 1 1000000 second (omega arith) g)) order)

pub returns : goal.returns
returns c =
    let first = to_z-of_z w128 c.args.first c.ranges.first in
    let second = to_z-of_z w128 c.args.second c.ranges.second in
    let all = both c.args.low c.args.high c.args.first c.args.second c.new-shares.result.items c.push_term.new.terms.items c.push_term-2.new.terms.items c.new-shares.ensures.items
    (omega (arith, c.requires.order)) c.requires.first_size c.requires.second_size (rw first at c.in_ok-push_term.ensures.ok) (rw second at c.in_ok-push_term-2.ensures.ok) in
    record {
      placed = adds-all 1000000 c.args.low (c.args.high + 1) (λ x. c.args.first *ℤ x c.args.low +ℤ c.args.second *ℤ x c.args.high) c.push_term-2.new.terms.items all;
      sum = adds-sum 1000000 c.args.low (c.args.high + 1) (λ x. c.args.first *ℤ x c.args.low +ℤ c.args.second *ℤ x c.args.high) c.push_term-2.new.terms.items all;
    }
