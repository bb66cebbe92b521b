-- The ways to give slots: each is one that gives no slot to two bidders, and each of these stands at one place among them.
use Rattle.std.proofs.Common.{◌≡◌, ◌≢◌, ℕ, zero, suc, ◌<◌, ◌≤◌, ℤ, pos, ◌+ℤ◌, Bool, true, false, not, cond, ◌&&◌, ◌==◌, if◌then◌else◌, List, [], ◌∷◌, length, filter, bytes_eq, replicate, refl, sym, ap, ◌∙◌, inl, inr, arith}
use Rattle.std.specs.Prelude.{slice_index}
use Rattle.std.specs.List.{list_any}
use Rattle.std.proofs.lemmas.Bool.{cases_lt, and_from, or_from, or_parts, not_from_false, eqb-false, ne_eqb, false_from_ne_true}
use Rattle.std.proofs.lemmas.List.{length-replicate, get_or-replicate, get_or_past}
use Rattle.std.proofs.lemmas.List.Elements.{All-filter, filter_passes}
use Rattle.std.proofs.lemmas.Slice.Eq.{bytes_eq-Decides}
use Rattle.md_math.specs.Sums.{sum_to, total_by}
use Rattle.md_math.proofs.Order.{chosen}
use Rattle.md_math.proofs.Ring.{linear}
use Rattle.md_math.proofs.SumLaws.{sum_to-single}
use Rattle.md_math.proofs.TotalLaws.{total_by-places}
use Rattle.md_space.specs.AllProfiles.{profiles_of}
use Rattle.md_space.specs.Profiles.{profile_count, IsProfile, rank_of, profile_at}
use Rattle.md_space.proofs.InOrder.{total_by-profiles, All-profiles_of}
use Rattle.md_space.proofs.Ranks.{rank_of-below, profile_at-rank_of, rank_of-profile_at, length-IsProfile, report-below}
use Rattle.md_setting.specs.Grouped.{GroupedAuction, bidder_count}
use Rattle.md_bidders.specs.Assignments.{has_own_slots, assignments, assignment_at}

-- each bidder gets one of the slots or none, and no two of them get the same slot
pub record IsAssignment (a : GroupedAuction) (way : List ℕ) : Type 0 where
  pub long : length way ≡ bidder_count a
  pub slot : (i : ℕ) → slice_index way i ≤ length a.slots
  pub apart : (i j : ℕ) → i ≢ j → slice_index way i ≡ slice_index way j → slice_index way i ≡ 0

-- ---- slots of one's own

none-has : (xs : List ℕ) (s k : ℕ) → list_any (λ x. x == suc s) xs ≡ false → slice_index xs k ≢ suc s
none-has [] s k h e = omega (arith, e)
none-has (x ∷ xs) s zero h e = eqb-false x (suc s) (or_parts (x == suc s) (list_any (λ y. y == suc s) xs) h).0 e
none-has (x ∷ xs) s (suc k) h e = none-has xs s k (or_parts (x == suc s) (list_any (λ y. y == suc s) xs) h).1 e

none-from : (xs : List ℕ) (s : ℕ) → ((k : ℕ) → slice_index xs k ≢ suc s) → list_any (λ x. x == suc s) xs ≡ false
none-from [] s h = refl
none-from (x ∷ xs) s h = or_from (x == suc s) (list_any (λ y. y == suc s) xs) (ne_eqb x (suc s) (h 0)) (none-from xs s (λ k. h (suc k)))

not-parts : (x y : Bool) → (not x && y) ≡ true → (x ≡ false) × (y ≡ true)
not-parts true y h = absurd (cc)
not-parts false y h = (refl, h)

own-apart : (way : List ℕ) → has_own_slots way ≡ true → (i j : ℕ) → i ≢ j → slice_index way i ≡ slice_index way j → slice_index way i ≡ 0
own-apart [] h i j d e = refl
own-apart (x ∷ others) h zero zero d e = absurd (d refl)
own-apart (zero ∷ others) h zero (suc j) d e = refl
own-apart (zero ∷ others) h (suc i) zero d e = e
own-apart (zero ∷ others) h (suc i) (suc j) d e = own-apart others h i j (λ f. d (ap suc f)) e
own-apart (suc slot ∷ others) h zero (suc j) d e = absurd (none-has others slot j (not-parts (list_any (λ x. x == suc slot) others) (has_own_slots others) h).0 (sym e))
own-apart (suc slot ∷ others) h (suc i) zero d e = absurd (none-has others slot i (not-parts (list_any (λ x. x == suc slot) others) (has_own_slots others) h).0 e)
own-apart (suc slot ∷ others) h (suc i) (suc j) d e =
    own-apart others (not-parts (list_any (λ x. x == suc slot) others) (has_own_slots others) h).1 i j (λ f. d (ap suc f)) e

own-from : (way : List ℕ) → ((i j : ℕ) → i ≢ j → slice_index way i ≡ slice_index way j → slice_index way i ≡ 0) → has_own_slots way ≡ true
own-from [] h = refl
own-from (zero ∷ others) h = own-from others (λ i j d e. h (suc i) (suc j) (λ f. d (omega (arith, f))) e)
own-from (suc slot ∷ others) h =
    and_from (not (list_any (λ x. x == suc slot) others)) (has_own_slots others)
    (not_from_false (list_any (λ x. x == suc slot) others) (none-from others slot (λ k e. absurd (let n : suc slot ≡ 0 = h 0 (suc k) (λ f. omega (arith, f)) (sym e) in omega (arith, n)))))
    (own-from others (λ i j d e. h (suc i) (suc j) (λ f. d (omega (arith, f))) e))

-- ---- ways as profiles of slots

abbrev slot_choices : GroupedAuction → List ℕ
slot_choices a = replicate (bidder_count a) (suc (length a.slots))

profile-from : (n m : ℕ) (way : List ℕ) → length way ≡ n → ((i : ℕ) → slice_index way i ≤ m) → IsProfile (replicate n (suc m)) way
profile-from zero m [] e h = tt
profile-from zero m (x ∷ way) e h = absurd (omega (arith, e))
profile-from (suc n) m [] e h = absurd (omega (arith, e))
profile-from (suc n) m (x ∷ way) e h = (let b : x ≤ m = h 0 in omega (arith, b), profile-from n m way (omega (arith, e)) (λ i. h (suc i)))

way-long : (n m : ℕ) (way : List ℕ) → IsProfile (replicate n (suc m)) way → length way ≡ n
way-long n m way p = length-IsProfile (replicate n (suc m)) way p ∙ length-replicate n (suc m)

way-slot : (n m : ℕ) (way : List ℕ) (i : ℕ) → IsProfile (replicate n (suc m)) way → slice_index way i ≤ m
way-slot n m way i p = elim (cases_lt i n) [
  | inl b ↦
      let below = report-below (replicate n (suc m)) way i p (omega (arith, b, length-replicate n (suc m))) in
      omega (arith, below, get_or-replicate n i (suc m) 0 b)
  | inr b ↦ omega (arith, get_or_past way i 0 (omega (arith, b, way-long n m way p)))
]

-- each listed way is one
pub is-assignment : (a : GroupedAuction) (o : ℕ) → o < length (assignments a) → IsAssignment a (assignment_at a o)
is-assignment a o b =
    let ways = profiles_of (slot_choices a) in
    let profile : IsProfile (slot_choices a) (assignment_at a o) = All-filter has_own_slots (IsProfile (slot_choices a)) ways (All-profiles_of (slot_choices a)) o [] b in
    let own : has_own_slots (assignment_at a o) ≡ true = filter_passes has_own_slots ways o [] b in
    record {
      long = way-long (bidder_count a) (length a.slots) (assignment_at a o) profile;
      slot = λ i. way-slot (bidder_count a) (length a.slots) (assignment_at a o) i profile;
      apart = own-apart (assignment_at a o) own;
    }

-- ---- sums over all ways

total-filter : {X : Type 0} (p : X → Bool) (f : X → ℤ) (xs : List X) → total_by f (filter p xs) ≡ total_by (λ x. if p x then f x else pos 0) xs
total-filter p f [] = refl
total-filter {X} p f (x ∷ xs) = one (p x) (filter p xs) ∙ ap (λ z. (if p x then f x else pos 0) +ℤ z) (total-filter p f xs)
  where
    one : (b : Bool) (ys : List X) → total_by f (cond b (x ∷ ys) ys) ≡ (if b then f x else pos 0) +ℤ total_by f ys
    one true ys = refl
    one false ys = omega (arith, linear)

not-both : (b c : Bool) (z : ℤ) → c ≡ false → (if b then (if c then z else pos 0) else pos 0) ≡ pos 0
not-both true c z e = ap (λ t. if t then z else pos 0) e
not-both false c z e = refl

-- each way that gives no slot to two bidders stands at exactly one place
pub sum-at_way : (a : GroupedAuction) (way : List ℕ) (f : List ℕ → ℤ) → IsAssignment a way
    → sum_to (length (assignments a)) (λ o. if bytes_eq (assignment_at a o) way then f (assignment_at a o) else pos 0) ≡ f way
sum-at_way a way f is =
    let sizes = slot_choices a in
    let profile : IsProfile sizes way = profile-from (bidder_count a) (length a.slots) way is.long is.slot in
    let here = λ (x : List ℕ). if bytes_eq x way then f x else pos 0 in
    let own_here = λ (x : List ℕ). if has_own_slots x then here x else pos 0 in
    sym (total_by-places here (assignments a) [])
    ∙ total-filter has_own_slots here (profiles_of sizes)
    ∙ total_by-profiles sizes own_here
    ∙ sum_to-single (profile_count sizes) (rank_of sizes way) (λ r. own_here (profile_at sizes r)) (rank_of-below sizes way profile)
    (λ r b d. not-both (has_own_slots (profile_at sizes r)) (bytes_eq (profile_at sizes r) way) (f (profile_at sizes r))
    (false_from_ne_true (bytes_eq (profile_at sizes r) way) (λ e. d (sym (rank_of-profile_at sizes r b) ∙ ap (rank_of sizes) ((bytes_eq-Decides (profile_at sizes r) way).0 e)))))
    ∙ ap own_here (profile_at-rank_of sizes way profile)
    ∙ chosen (has_own_slots way) (here way) (pos 0) (own-from way is.apart)
    ∙ chosen (bytes_eq way way) (f way) (pos 0) ((bytes_eq-Decides way way).1 refl)
