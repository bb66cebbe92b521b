use Rattle.std.proofs.Common.{rules, ◌≡◌, ◌*ℤ◌, ◌^◌, int_div, to_z, of_z, ap, ap₂, sym, ◌∙◌, arith, length}
use Rattle.std.proofs.lemmas.Int.{to_z-of_z, quot_fits}
use lib.IntN.{*ℤ_comm}
use mir.Syntax.{w64}
use Rattle.md_math.specs.Lists.{number_at}
use Rattle.md_math.proofs.Division.{Divides-int_div}
use Rattle.md_dict.proofs.LeastMultiples.{AreShares, AreShares-more, AllWithin-shares}
use Rattle.md_dict.proofs.multiples.share_out.Goals as goal
use Rattle.md_dict.proofs.multiples.share_out.Goals.{Joined-dens-k, then-dens-k, else-dens-k}

-- the number at the place, and its share
record IsShare (c : Joined-dens-k) : Type 0 where
  den : c.if-dens-k.den ≡ number_at c.args.dens.now c.loop-k.k
  share : c.if-dens-k.share *ℤ c.if-dens-k.den ≡ c.args.multiple

is_share : (c : Joined-dens-k) → IsShare c
is_share c =
    let den = number_at c.args.dens.now c.loop-k.k in
    let whole : to_z w64 (of_z w64 den) ≡ den = search rules in
    let multiple = to_z-of_z w64 c.args.multiple c.ranges.multiple in
    elim c.if-dens-k.branch [
      | then-dens-k w ↦
          let fits = quot_fits w64 c.args.multiple den c.ranges.multiple (c.requires.positive c.loop-k.k c.loop-k-test.true) in
          let same : c.if-dens-k.den ≡ den = sym c.if-dens-k.den-is ∙ w.den-is ∙ whole in
          let share : c.if-dens-k.share ≡ int_div c.args.multiple den = sym c.if-dens-k.share-is ∙ (rw (multiple, whole, to_z-of_z w64 (int_div c.args.multiple den) fits) at w.share-is) in
          record {
            den = same;
            share = ap₂ (λ x y. x *ℤ y) share same ∙ *ℤ_comm (int_div c.args.multiple den) den ∙ Divides-int_div den c.args.multiple (c.requires.divides c.loop-k.k c.loop-k-test.true);
          }
      | else-dens-k w ↦
          record {
            den = sym c.if-dens-k.den-is ∙ w.den-is ∙ ap (to_z w64) (sym w.if-dens-k.false) ∙ whole;
            share = ap₂ (λ x y. x *ℤ y) (sym c.if-dens-k.share-is ∙ w.share-is) (sym c.if-dens-k.den-is ∙ w.den-is) ∙ (rw multiple at c.loop-k.invariant.1);
          }
    ]

pub loop-k-preserved : goal.loop-k-preserved
loop-k-preserved c =
    let h = is_share c in
    let multiple = to_z-of_z w64 c.args.multiple c.ranges.multiple in
    rw (c.if-dens-k.den-is, c.if-dens-k.share-is, multiple) (
      AreShares-more c.args.multiple c.args.dens.now c.loop-k.shares c.loop-k.k c.if-dens-k.share (rw multiple at c.loop-k.invariant.0) c.loop-k-test.true (ap (λ z. c.if-dens-k.share *ℤ z) (sym h.den) ∙ h.share),
      h.share,
    )

pub returns-clause-size : goal.returns-clause-size
returns-clause-size c =
    let multiple = to_z-of_z w64 c.args.multiple c.ranges.multiple in
    let all : AreShares c.args.multiple c.args.dens.now c.loop-k.shares c.loop-k.k = rw multiple at c.loop-k.invariant.0 in
    let end : c.loop-k.k ≡ length c.args.dens.now = omega (arith, c.loop-k.auto.k-end) in
    AllWithin-shares (2 ^ 62) c.args.multiple c.args.dens.now c.loop-k.shares c.requires.multiple_positive c.requires.size (rw end at all)
