-- Bids by bidder, and slots by bids.
use Rattle.std.proofs.Common.{◌≡◌, ℕ, ◌+◌, ◌<◌, ◌==◌, Bool, true, false, if◌then◌else◌, List, [], ◌∷◌, ◌++◌, length, refl, sym, ap, ap₂, ◌∙◌, subst, inl, inr, arith}
use Rattle.std.specs.Prelude.{slice_index}
use Rattle.std.proofs.lemmas.Bool.{cases_lt}
use Rattle.std.proofs.lemmas.List.{get_or_append_left, get_or_push, length_push, set-get_or}
use Rattle.md_setting.specs.Grouped.{GroupedAuction, bidder_count, group_of}
use Rattle.md_bidders.specs.Assignments.{amount_of}
use Rattle.md_list.specs.Ranks.{Rank, place_of}
use Rattle.md_list.specs.Rule.{place_at, count_to, slot_at, amount_with}
use Rattle.md_list.proofs.AmountLaws.{slot_by, before_at, slot-by_place, amount-by_place}
use Rattle.md_list.proofs.CountLaws.{count-same}
use Rattle.md_list_award.specs.declared.bids.Bid.{Bid}
use Rattle.md_list_award.specs.Bids.{bid_at, AreBidsTo, AreBids, goes_first, ahead, slot_for, AreSlotsTo}

module _ (a : GroupedAuction) (ranks : List Rank) (t : List ℕ) where
  -- ---- one more

  pub next-bid : (n : ℕ) (bids new : List Bid) (bid : Bid) → AreBidsTo a ranks t n bids → bid.group ≡ group_of a n → bid.place ≡ place_at a ranks t n → new ≡ bids ++ bid ∷ [] → AreBidsTo a ranks t (n + 1) new
  next-bid n bids new bid h group place e = subst (AreBidsTo a ranks t (n + 1)) (sym e) (record {
    long = omega (arith, length_push bids bid, h.long);
    group = λ i b. elim (cases_lt i n) [
      | inl l ↦ ap (λ (x : Bid). x.group) (old i l) ∙ h.group i l
      | inr l ↦
          let same : i ≡ n = omega (arith, b, l) in
          ap (λ (x : Bid). x.group) (last i same) ∙ group ∙ ap (group_of a) (sym same)
    ];
    place = λ i b. elim (cases_lt i n) [
      | inl l ↦ ap (λ (x : Bid). x.place) (old i l) ∙ h.place i l
      | inr l ↦
          let same : i ≡ n = omega (arith, b, l) in
          ap (λ (x : Bid). x.place) (last i same) ∙ place ∙ ap (place_at a ranks t) (sym same)
    ];
  })
    where
      old : (i : ℕ) → i < n → bid_at (bids ++ bid ∷ []) i ≡ bid_at bids i
      old i l = get_or_append_left bids (bid ∷ []) (record { group = 0; place = 0 }) i (omega (arith, l, h.long))

      last : (i : ℕ) → i ≡ n → bid_at (bids ++ bid ∷ []) i ≡ bid
      last i e = get_or_push bids bid (record { group = 0; place = 0 }) i (omega (arith, e, h.long))

  pub next-slot : (n : ℕ) (slots new : List ℕ) (slot : ℕ) → AreSlotsTo a ranks t n slots → slot ≡ slot_at a ranks t n → new ≡ slots ++ slot ∷ [] → AreSlotsTo a ranks t (n + 1) new
  next-slot n slots new slot h is e = subst (AreSlotsTo a ranks t (n + 1)) (sym e) (record {
    long = omega (arith, length_push slots slot, h.long);
    slot = λ i b. elim (cases_lt i n) [
      | inl l ↦ get_or_append_left slots (slot ∷ []) 0 i (omega (arith, l, h.long)) ∙ h.slot i l
      | inr l ↦
          let same : i ≡ n = omega (arith, b, l) in
          get_or_push slots slot 0 i (omega (arith, same, h.long)) ∙ is ∙ ap (slot_at a ranks t) (sym same)
    ];
  })

  -- ---- slots

  -- those that go before a bidder by the bids go before it by the rule
  ahead-is : (bids : List Bid) (i p : ℕ) → AreBids a ranks t bids → ahead bids i p ≡ before_at a ranks t i p
  ahead-is bids i p h =
      ap (λ n. count_to n (λ j. if j == i then false else goes_first (bid_at bids j) j p i)) h.long
      ∙ count-same (bidder_count a) _ _ (λ j b. one j b (j == i))
    where
      one : (j : ℕ) → j < bidder_count a → (itself : Bool) → (if itself then false else goes_first (bid_at bids j) j p i) ≡ (if itself then false else goes_first (record { group = 0; place = place_at a ranks t j }) j p i)
      one j b true = refl
      one j b false = ap (λ q. goes_first (record { group = 0; place = q }) j p i) (h.place j b)

  slot-for-is : (bids : List Bid) (i p : ℕ) → AreBids a ranks t bids → slot_for (length ranks) (length a.slots) bids i p ≡ slot_by (length ranks) (length a.slots) p (before_at a ranks t i p)
  slot-for-is bids i p h = ap (slot_by (length ranks) (length a.slots) p) (ahead-is bids i p h)

  -- a bidder's own slot
  pub own-slot : (bids : List Bid) (m n i : ℕ) → AreBids a ranks t bids → m ≡ length ranks → n ≡ length a.slots → i < bidder_count a → i < length t
      → slot_for m n bids i (bid_at bids i).place ≡ slot_at a ranks t i
  own-slot bids m n i h e f b c =
      ap₂ (λ x y. slot_for x y bids i (bid_at bids i).place) e f
      ∙ slot-for-is bids i (bid_at bids i).place h
      ∙ ap (λ p. slot_by (length ranks) (length a.slots) p (before_at a ranks t i p)) (h.place i b)
      ∙ sym (slot-by_place a ranks t i (slice_index t i) c)
      ∙ ap (λ u. slot_at a ranks u i) (set-get_or t i 0)

  -- what it would get with a value
  pub amount-is : (bids : List Bid) (m n i v p : ℕ) → AreBids a ranks t bids → m ≡ length ranks → n ≡ length a.slots → i < bidder_count a → i < length t
      → p ≡ place_of ranks (bid_at bids i).group v → amount_of a.slots (slot_for m n bids i p) ≡ amount_with a ranks t i v
  amount-is bids m n i v p h d f b c e =
      ap₂ (λ x y. amount_of a.slots (slot_for x y bids i p)) d f
      ∙ ap (amount_of a.slots) (slot-for-is bids i p h)
      ∙ ap (λ q. amount_of a.slots (slot_by (length ranks) (length a.slots) q (before_at a ranks t i q))) (e ∙ ap (λ k. place_of ranks k v) (h.group i b))
      ∙ sym (amount-by_place a ranks t i v c)
