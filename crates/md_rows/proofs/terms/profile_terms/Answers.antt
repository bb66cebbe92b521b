use Rattle.std.proofs.Common.{◌≡◌, ◌+◌, ◌*◌, ◌^◌, pos, ◌*ℤ◌, [], ◌∙◌, subst, arith, refl}
use Rattle.md_setting.specs.Meaning.{outcome_count, sizes_of}
use Rattle.md_space.specs.Profiles.{profile_count}
use Rattle.md_math.specs.Sums.{sum_to}
use Rattle.md_forms.specs.Terms.{AddsTerms}
use Rattle.md_forms.proofs.TermLaws.{below-wider, adds-place, adds-all, adds-sum, block-fits}
use Rattle.md_rows.proofs.FormLaws.{profile-form}
use Rattle.md_setting.specs.Rows.{column_count}
use Rattle.md_rows.proofs.terms.profile_terms.Goals as goal

pub loop-outcome-preserved : goal.loop-outcome-preserved
loop-outcome-preserved c =
    let s = c.args.setting.now in
    let f = rw (c.outcomes.ensures.count) at c.in_ok-push_term.ensures.ok in
    adds-place (2 ^ 44) 0 (c.args.rank * outcome_count s) c.loop-outcome.outcome (λ x o. pos 1 *ℤ x (c.args.rank * outcome_count s + o)) (pos 1)
    [] c.loop-outcome.terms.items c.push_term.new.terms.items c.loop-outcome.invariant (f (2 ^ 44) (record { within = omega arith })) (λ x. refl)

pub returns : goal.returns
returns c =
    let s = c.args.setting.now in
    let base = c.args.rank * outcome_count s in
    let end : c.loop-outcome.outcome ≡ outcome_count s = omega (arith, c.outcomes-outcome-end.ensures.count) in
    let all = subst (λ n. AddsTerms (2 ^ 44) 0 (base + n) (λ x. sum_to n (λ o. pos 1 *ℤ x (base + o))) [] c.loop-outcome.terms.items) end c.loop-outcome.invariant in
    let fits = block-fits c.args.rank (profile_count (sizes_of s)) (outcome_count s) c.requires.rank_in in
    record {
      placed = below-wider (2 ^ 44) (base + outcome_count s) (column_count s) c.loop-outcome.terms.items (omega (arith, fits)) (adds-all (2 ^ 44) 0 (base + outcome_count s) (λ x. sum_to (outcome_count s) (λ o. pos 1 *ℤ x (base + o))) c.loop-outcome.terms.items all);
      sum = λ x. adds-sum (2 ^ 44) 0 (base + outcome_count s) (λ x. sum_to (outcome_count s) (λ o. pos 1 *ℤ x (base + o))) c.loop-outcome.terms.items all x ∙ profile-form s c.args.rank x c.requires.rank_in;
    }
