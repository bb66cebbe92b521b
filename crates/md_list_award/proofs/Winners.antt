-- The winners by slots.
use Rattle.std.proofs.Common.{◌≡◌, ℕ, suc, ◌+◌, ◌-◌, ◌<◌, ◌≤◌, List, [], ◌∷◌, ◌++◌, length, sym, ap, ◌∙◌, subst, inl, inr, arith}
use Rattle.std.proofs.lemmas.Bool.{cases_lt, cases_eq}
use Rattle.std.proofs.lemmas.List.{get_or_append_left, get_or_push, length_push}
use Rattle.md_setting.specs.Grouped.{GroupedAuction, bidder_count}
use Rattle.md_list.specs.declared.won.Won.{Won}
use Rattle.md_list.specs.Ranks.{Rank}
use Rattle.md_list.specs.Rule.{slot_at}
use Rattle.md_list.specs.Awards.{won_at, IsWinner, AreWinners}
use Rattle.md_list.proofs.AmountLaws.{slots-differ}
use Rattle.md_list_award.proofs.Slots.{NobodyHas, nobody-later, slot-inside}

module _ (a : GroupedAuction) (ranks : List Rank) (t : List ℕ) where
  -- the first h winners
  pub record AreFirst (h : ℕ) (won : List Won) : Type 0 where
    pub long : length won ≡ h
    pub each : (g : ℕ) → g < h → IsWinner a ranks t g (won_at won g)

  pub next-winner : (h : ℕ) (won new : List Won) (winner : Won) → AreFirst h won → IsWinner a ranks t h winner → new ≡ won ++ winner ∷ [] → AreFirst (h + 1) new
  next-winner h won new winner are is e = subst (AreFirst (h + 1)) (sym e) (record {
    long = omega (arith, length_push won winner, are.long);
    each = λ g b. elim (cases_lt g h) [
      | inl l ↦
          subst (IsWinner a ranks t g) (sym (get_or_append_left won (winner ∷ []) _ g (omega (arith, l, are.long)))) (are.each g l)
      | inr l ↦
          let same : h ≡ g = omega (arith, b, l) in
          subst (IsWinner a ranks t g) (sym (get_or_push won winner _ g (omega (arith, same, are.long)))) (subst (λ k. IsWinner a ranks t k winner) same is)
    ];
  })

  same-bidder : (i j h : ℕ) → i < bidder_count a → j < bidder_count a → slot_at a ranks t i ≡ suc h → slot_at a ranks t j ≡ suc h → j ≡ i
  same-bidder i j h b c e f = elim (cases_eq j i) [
    | inl same ↦ same
    | inr d ↦ absurd (let none : slot_at a ranks t j ≡ 0 = slots-differ a ranks t j i c b d (f ∙ sym e) in omega (arith, none, f))
  ]

  -- the first h winners are all where nobody has the next slot
  pub all-winners : (h : ℕ) (won : List Won) → AreFirst h won → NobodyHas a ranks t (suc h) → AreWinners a ranks t won
  all-winners h won are none = record {
    each = λ g b. are.each g (omega (arith, b, are.long));
    all = λ i g b e. elim (cases_lt g h) [
      | inl l ↦ (omega (arith, l, are.long), (let is = are.each g l in same-bidder i (won_at won g).bidder g b is.bidder e is.slot))
      | inr l ↦
          let (more, sum) = apart g h l in
          absurd (nobody-later a ranks t h more none i b (e ∙ ap suc sum))
    ];
  }
    where
      apart : (g h : ℕ) → h ≤ g → (more : ℕ) × (g ≡ h + more)
      apart g h l = (g - h, (let e : g ≡ h + (g - h) = omega (arith, l) in e))

  pub nobody-past : NobodyHas a ranks t (suc (length a.slots))
  nobody-past i b e = omega (arith, e, slot-inside a ranks t i)
