-- How far it is from where a stretch begins to the first number, from there on, that a draw picks.
use Rattle.std.proofs.Common.{◌≡◌, ◌↔◌, ◌⊎◌, ℕ, suc, ◌+◌, ◌*◌, ◌<◌, ◌≤◌, ℤ, pos, ◌+ℤ◌, ◌≤ℤ◌, ◌<ℤ◌, Bool, true, ◌&&◌, ap, inl, inr, arith, leb, ltb}
use Rattle.std.proofs.Math.Nat as NatL
use Rattle.std.proofs.lemmas.Bool.{cases_order, and_parts, and_from, leb-true, ltb-true, le-leb, lt-ltb}
use Rattle.std.proofs.lemmas.Int.{ints}
use Rattle.md_flow.proofs.AnyBelow.{any_below-place, any_below-true}
use Rattle.md_winners.specs.Draws.{start_of, wins}

-- it is so far, which is less than the whole
pub record IsLeft (whole draw start : ℕ) (left : ℤ) : Type 0 where
  pub from : pos 0 ≤ℤ left
  pub below : left <ℤ pos whole
  pub times : ℕ
  pub at : pos start +ℤ left ≡ pos (draw + times * whole)

-- from the first stretch on it is the draw
pub left-first : (whole : ℕ) (draw : ℤ) (d : ℕ) → pos d ≡ draw → pos 0 ≤ℤ draw → draw <ℤ pos whole → IsLeft whole d 0 draw
left-first whole draw d e l h = record {
  from = l;
  below = h;
  times = 0;
  at = (let none : 0 * whole ≡ 0 = omega arith in omega (arith, ints, e, none));
}

-- the bidder of a stretch wins where it is less than the stretch is long
pub left-wins : (whole : ℕ) (x : ℕ → ℕ) (draw i : ℕ) (left : ℤ) → 0 < whole → x i ≤ whole → IsLeft whole draw (start_of x i) left → (left <ℤ pos (x i)) ↔ (wins whole x draw i ≡ true)
left-wins whole x draw i left some most h = (to, from)
  where
    start : ℕ
    start = start_of x i

    end : ℕ
    end = start + x i

    test : ℕ → Bool
    test m = leb start (draw + m * whole) && ltb (draw + m * whole) end

    to : left <ℤ pos (x i) → wins whole x draw i ≡ true
    to l =
        let m : ℕ = h.times in
        let first : start ≤ draw + m * whole = omega (arith, ints, h.at, h.from) in
        let last : draw + m * whole < end = omega (arith, ints, h.at, l) in
        let few : m * 1 ≤ m * whole = NatL.mul-le-mul_left m some in
        any_below-true end test m (omega (arith, last, few)) (and_from (leb start (draw + m * whole)) (ltb (draw + m * whole) end) (le-leb start (draw + m * whole) first) (lt-ltb (draw + m * whole) end last))

    -- no other number that the draw picks is so near
    near : (m : ℕ) → start ≤ draw + m * whole → draw + m * whole < end → left <ℤ pos (x i)
    near m first last = elim (cases_order m h.times) [
      | inl same ↦ (let e : m * whole ≡ h.times * whole = ap (λ k. k * whole) same in omega (arith, ints, h.at, e, last))
      | inr (inl less) ↦
          let l : suc m * whole ≤ h.times * whole = NatL.mul-le-mul_right whole less in
          let e : suc m * whole ≡ m * whole + whole = omega arith in
          absurd (omega (arith, ints, h.at, h.below, l, e, first))
      | inr (inr more) ↦
          let l : suc h.times * whole ≤ m * whole = NatL.mul-le-mul_right whole more in
          let e : suc h.times * whole ≡ h.times * whole + whole = omega arith in
          absurd (omega (arith, ints, h.at, h.from, l, e, last, most))
    ]

    from : wins whole x draw i ≡ true → left <ℤ pos (x i)
    from w =
        let (m, _, e) = any_below-place end test w in
        let (f, g) = and_parts _ _ e in
        near m (leb-true start (draw + m * whole) f) (ltb-true (draw + m * whole) end g)

-- and from the end of the stretch on
pub left-more : (whole draw start x : ℕ) (left next : ℤ) → x ≤ whole → IsLeft whole draw start left
    → ((pos x ≤ℤ left) × (next +ℤ pos x ≡ left)) ⊎ ((left <ℤ pos x) × (next +ℤ pos x ≡ left +ℤ pos whole)) → IsLeft whole draw (start + x) next
left-more whole draw start x left next most h (inl past) = record {
  from = omega (arith, ints, past.0, past.1);
  below = omega (arith, ints, h.below, past.1);
  times = h.times;
  at = omega (arith, ints, h.at, past.1);
}
left-more whole draw start x left next most h (inr inside) = record {
  from = omega (arith, ints, h.from, most, inside.1);
  below = omega (arith, ints, inside.0, inside.1);
  times = suc h.times;
  at = (let e : suc h.times * whole ≡ h.times * whole + whole = omega arith in omega (arith, ints, h.at, inside.1, e));
}
