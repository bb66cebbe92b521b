-- Slots are given from the first on: where nobody has one, nobody has a later one.
use Rattle.std.proofs.Common.{◌≡◌, ◌≢◌, ◌⊎◌, ℕ, zero, suc, ◌+◌, ◌<◌, ◌≤◌, Bool, true, false, List, length, sym, ap, ◌∙◌, subst, inl, inr, arith}
use Rattle.std.proofs.lemmas.Bool.{cases_Bool, false≢true, false_from_ne_true}
use Rattle.md_setting.specs.Grouped.{GroupedAuction, bidder_count}
use Rattle.md_setting.specs.GroupedShaped.{IsGroupedAuction}
use Rattle.md_space.specs.Profiles.{replaced}
use Rattle.md_list.specs.Ranks.{Rank}
use Rattle.md_list.specs.Rule.{place_at, is_before, before, slot_at, amount_with}
use Rattle.md_list.proofs.AmountLaws.{GoesFirst, first-decides, first-itself, first-trans, IsGiven, given-or-none, given, slot-most}
use Rattle.md_list_award.proofs.Sizes.{amount-small}
use Rattle.md_list_award.proofs.Counts.{count-none, count-more, IsLastOf, last-of}

same-test : (b c : Bool) → (b ≡ true → c ≡ true) → (c ≡ true → b ≡ true) → b ≡ c
same-test b c f g = elim (cases_Bool b) [
  | inl e ↦ e ∙ sym (f e)
  | inr e ↦ e ∙ sym (false_from_ne_true c (λ d. false≢true (sym e ∙ g d)))
]

module _ (a : GroupedAuction) (ranks : List Rank) (t : List ℕ) where
  -- a slot that somebody has
  pub given-slot : (i h : ℕ) → slot_at a ranks t i ≡ suc h → IsGiven (length ranks) (length a.slots) (place_at a ranks t i) h × (before a ranks t i ≡ h)
  given-slot i h e = elim (given-or-none (length ranks) (length a.slots) (place_at a ranks t i) (before a ranks t i)) [
    | inl g ↦
        let same : before a ranks t i ≡ h = omega (arith, g.is, e) in
        (subst (IsGiven (length ranks) (length a.slots) (place_at a ranks t i)) same g, same)
    | inr none ↦ absurd (let no : slot_at a ranks t i ≡ 0 = none in omega (arith, no, e))
  ]

  pub slot-inside : (i : ℕ) → slot_at a ranks t i ≤ length a.slots
  slot-inside i = slot-most (length ranks) (length a.slots) (place_at a ranks t i) (before a ranks t i)

  -- the last of those before a bidder has one less before it
  one-less : (i j : ℕ) → IsLastOf (bidder_count a) (is_before a ranks t i) (place_at a ranks t) j → before a ranks t i ≡ suc (before a ranks t j)
  one-less i j last =
      let p = place_at a ranks t in
      count-more (bidder_count a) j (is_before a ranks t j) (is_before a ranks t i) last.inside
      (λ k b d.
      same-test (is_before a ranks t j k) (is_before a ranks t i k)
      (λ e. (first-decides (p k) k (p i) i).1 (first-trans (p k) k (p j) j (p i) i ((first-decides (p k) k (p j) j).0 e) ((first-decides (p j) j (p i) i).0 last.passes)))
      (λ e. (first-decides (p k) k (p j) j).1 (last.others k b e d)))
      (first-itself (p j) j) last.passes

  -- somebody has the slot before one that somebody has
  pub slot-before : (i h : ℕ) → slot_at a ranks t i ≡ suc (suc h) → (j : ℕ) × (j < bidder_count a) × (slot_at a ranks t j ≡ suc h)
  slot-before i h e = of (last-of (bidder_count a) (is_before a ranks t i) (place_at a ranks t))
    where
      mine : IsGiven (length ranks) (length a.slots) (place_at a ranks t i) (suc h) × (before a ranks t i ≡ suc h)
      mine = given-slot i (suc h) e

      no-later : (q j p i : ℕ) → GoesFirst q j p i → q ≤ p
      no-later q j p i (inl l) = omega (arith, l)
      no-later q j p i (inr l) = omega (arith, l.0)

      of : ((k : ℕ) → k < bidder_count a → is_before a ranks t i k ≡ false) ⊎ ((j : ℕ) × IsLastOf (bidder_count a) (is_before a ranks t i) (place_at a ranks t) j) → (j : ℕ) × (j < bidder_count a) × (slot_at a ranks t j ≡ suc h)
      of (inl none) = absurd (let zero : before a ranks t i ≡ 0 = count-none (bidder_count a) (is_before a ranks t i) none in omega (arith, zero, mine.1))
      of (inr (j, last)) =
          let p = place_at a ranks t in
          let same : before a ranks t j ≡ h = omega (arith, one-less i j last, mine.1) in
          let low : p j ≤ p i = no-later (p j) j (p i) i ((first-decides (p j) j (p i) i).0 last.passes) in
          let is : slot_at a ranks t j ≡ suc (before a ranks t j) = given (length ranks) (length a.slots) (p j) (before a ranks t j) (omega (arith, low, mine.0.place_below)) (omega (arith, same, mine.0.ahead_below)) in
          (j, last.inside, is ∙ ap suc same)

  -- nobody has a slot
  abbrev pub NobodyHas : ℕ → Type 0
  NobodyHas slot = (i : ℕ) → i < bidder_count a → slot_at a ranks t i ≢ slot

  pub nobody-later : (h more : ℕ) → NobodyHas (suc h) → NobodyHas (suc (h + more))
  nobody-later h zero none i b e = none i b (e ∙ (let same : suc (h + 0) ≡ suc h = omega arith in same))
  nobody-later h (suc more) none i b e =
      let (j, c, is) = slot-before i (h + more) (e ∙ (let same : suc (h + suc more) ≡ suc (suc (h + more)) = omega arith in same)) in
      nobody-later h more none j c is

-- no bidder would get more with any value than the greatest amount
pub amounts-small : (a : GroupedAuction) (ranks : List Rank) (t : List ℕ) (i v : ℕ) → IsGroupedAuction a → amount_with a ranks t i v ≤ 1000
amounts-small a ranks t i v shaped = amount-small a (slot_at a ranks (replaced t i v) i) shaped (slot-inside a ranks (replaced t i v) i)
