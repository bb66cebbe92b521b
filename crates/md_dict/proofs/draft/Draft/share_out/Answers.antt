use Rattle.std.proofs.Common.{rules, ◌≡◌, ℕ, ◌*ℤ◌, ◌^◌, ◌<◌, length, sym, ap, ◌∙◌, subst}
use mathlib.Core.Bool.{false≢true}
use Rattle.std.specs.Vec.{with_items}
use Rattle.std.proofs.lemmas.List.{with_items_is}
use Rattle.md_math.specs.Sizes.{IsWithin}
use Rattle.md_math.specs.Lists.{number_at}
use Rattle.md_math.proofs.SizeLaws.{IsWithin-wider}
use Rattle.md_dict_division.proofs.Reading.{read_cast}
use Rattle.md_dict.proofs.draft.Draft.share_out.Goals as goal

pub share_out-requires-clause-divides : goal.share_out-requires-clause-divides
share_out-requires-clause-divides c =
    let small : IsWithin c.args.limit c.args.den = search rules in
    let whole = read_cast c.args.den c.ranges.den (IsWithin-wider c.args.limit (2 ^ 62) c.args.den c.requires.limit small) in
    rw (whole, c.as_slice.ensures.value) (λ k b. (c.requires.dens k b).1)

-- the new shares times the rows' denominators are the denominator
shared : (c : goal.After-are_sizes_within) → IsWithin c.args.limit c.args.den → (k : ℕ) → k < length c.args.self.now.dens.items → number_at c.share_out.new.shares k *ℤ number_at c.args.self.now.dens.items k ≡ c.args.den
shared c small =
    let whole = read_cast c.args.den c.ranges.den (IsWithin-wider c.args.limit (2 ^ 62) c.args.den c.requires.limit small) in
    rw (whole, c.as_slice.ensures.value) at c.share_out.ensures.shared

-- the new shares are those of the rows
items : (c : goal.After-are_sizes_within) → (with_items c.args.self.now.shares c.share_out.new.shares).items ≡ c.share_out.new.shares
items c =
    with_items_is c.args.self.now.shares c.share_out.new.shares
    (c.share_out.ensures.length ∙ ap length c.as_slice.ensures.value ∙ sym c.requires.shares_length ∙ sym c.args.self.now.shares.ok.0)

pub returns-clause-narrow : goal.returns-clause-narrow
returns-clause-narrow c = λ h.
    let small : IsWithin c.args.limit c.args.den = search rules in
    let within = rw (c.as_slice-2.ensures.value, c.as_slice-3.ensures.value, items c) at (c.are_sizes_within.ensures.0 h) in
    rw (items c) (small, λ k b. (shared c small k b, within k (subst (λ n. k < n) (sym c.requires.sizes_length) b)))

pub returns-clause-wide : goal.returns-clause-wide
returns-clause-wide c = λ h (small, all).
    let narrow = rw (c.as_slice-2.ensures.value, c.as_slice-3.ensures.value, items c) at c.are_sizes_within.ensures.1 in
    false≢true (sym h ∙ narrow (λ k b. let inside : k < length c.args.self.now.dens.items = subst (λ n. k < n) c.requires.sizes_length b in all k (number_at c.share_out.new.shares k) inside (shared c small k inside)))
