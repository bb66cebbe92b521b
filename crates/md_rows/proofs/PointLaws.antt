-- A point and its mechanism say the same chances and payments, and so do a mechanism and its point.
use Rattle.std.proofs.Common.{◌≡◌, ℕ, zero, suc, ◌+◌, ◌*◌, ◌/◌, ◌%◌, ◌<◌, Bool, true, false, ℤ, pos, negsuc, ◌-ℤ◌, ◌≤ℤ◌, List, [], ◌∷◌, ◌++◌, length, All, refl, sym, ap, ◌∙◌, subst, arith, length-append, append_assoc}
use Rattle.std.proofs.lemmas.Int.{ints}
use Rattle.std.proofs.lemmas.List.{length-map, get_or_append_left, append-nil}
use Rattle.std.proofs.lemmas.List.Elements.{All-append, All-nil, All-get_or, All-from_get_or}
use Rattle.std.proofs.lemmas.Nat.{mul-add-lt, div_below, mod_below, div-add-mod'}
use Rattle.md_math.specs.Lists.{number_at, list_to, up_to}
use Rattle.md_math.specs.Sizes.{IsWithin, AllWithin}
use Rattle.md_math.proofs.Builders.{length-list_to, list_to-same, get_or-list_to, list_to-get_or, All-list_to, up_to-same, length-up_to, All-up_to, get_or-up_to, number_at-behind}
use Rattle.md_math.proofs.SizeLaws.{AllWithin-number_at, IsWithin-zero, IsWithin-difference}
use Rattle.md_space.specs.Profiles.{IsProfile, profile_count, profile_at, rank_of}
use Rattle.md_space.proofs.Ranks.{pos-factor, rank_of-below, profile_at-IsProfile, profile_at-rank_of, rank_of-profile_at}
use Rattle.md_setting.specs.Setting.{GeneralSetting}
use Rattle.md_setting.specs.Meaning.{agent_count, outcome_count, sizes_of}
use Rattle.md_setting.specs.Rows.{column_count, payment_columns}
use Rattle.md_mech.specs.declared.mechanism.Mechanism.{Mechanism}
use Rattle.md_mech.specs.Accepted.{IsAccepted, number_limit}
use Rattle.md_mech.specs.Mechanism.{IsMechanism, chance_of, pay_of}
use Rattle.md_rows.specs.Columns.{chance_column, plus_column, minus_column, first_plus, payment_by, payment_in}
use Rattle.md_rows.specs.Points.{mechanism_of, plus_part, minus_part, parts, payment_parts, point_of}

-- the numbers say the chances and payments of the mechanism
pub record Agrees (s : GeneralSetting) (x : ℕ → ℤ) (m : Mechanism) : Type 0 where
  pub chance : (t : List ℕ) (o : ℕ) → IsProfile (sizes_of s) t → o < outcome_count s → x (chance_column s t o) ≡ chance_of s m t o
  pub pay : (i : ℕ) (t : List ℕ) → i < agent_count s → IsProfile (sizes_of s) t → payment_in s x i t ≡ pay_of s m i t

pub place-below : (r n w k : ℕ) → r < n → k < w → r * w + k < n * w
place-below r n w k h l = omega (arith, mul-add-lt r w k n h l)

-- ---- the mechanism of a point

pub agrees-mechanism_of : (s : GeneralSetting) (den : ℤ) (x : ℕ → ℤ) → Agrees s x (mechanism_of s den x)
agrees-mechanism_of s den x = record {
  chance = λ t o p l. sym (get_or-list_to (n * outcome_count s) x (chance_column s t o) (pos 0) (place-below (rank_of (sizes_of s) t) n (outcome_count s) o (rank_of-below (sizes_of s) t p) l));
  pay = λ i t l p. sym (
      get_or-up_to n (agent_count s) (rank_of (sizes_of s) t) i pays_at (pos 0) (λ k h. length-list_to (agent_count s) (λ j. payment_in s x j (profile_at (sizes_of s) k))) (rank_of-below (sizes_of s) t p) l
      ∙ get_or-list_to (agent_count s) (λ j. payment_in s x j (profile_at (sizes_of s) (rank_of (sizes_of s) t))) i (pos 0) l
      ∙ ap (payment_in s x i) (profile_at-rank_of (sizes_of s) t p));
}
  where
    n : ℕ
    n = profile_count (sizes_of s)

    pays_at : ℕ → List ℤ
    pays_at r = list_to (agent_count s) (λ j. payment_in s x j (profile_at (sizes_of s) r))

-- ---- the point of a mechanism

pub parts-length : (part : ℤ → ℤ) (s : GeneralSetting) (m : Mechanism) → length (parts part s m) ≡ agent_count s * profile_count (sizes_of s)
parts-length part s m =
    length-up_to (agent_count s) (profile_count (sizes_of s)) (λ i. list_to (profile_count (sizes_of s)) (λ r. part (pay_of s m i (profile_at (sizes_of s) r))))
    (λ i h. length-list_to (profile_count (sizes_of s)) (λ r. part (pay_of s m i (profile_at (sizes_of s) r))))

parts-at : (part : ℤ → ℤ) (s : GeneralSetting) (m : Mechanism) (i : ℕ) (t : List ℕ) → i < agent_count s → IsProfile (sizes_of s) t
    → number_at (parts part s m) (i * profile_count (sizes_of s) + rank_of (sizes_of s) t) ≡ part (pay_of s m i t)
parts-at part s m i t l p =
    get_or-up_to (agent_count s) n i (rank_of (sizes_of s) t) (λ j. list_to n (λ r. part (pay_of s m j (profile_at (sizes_of s) r)))) (pos 0)
    (λ k h. length-list_to n (λ r. part (pay_of s m k (profile_at (sizes_of s) r)))) l (rank_of-below (sizes_of s) t p)
    ∙ get_or-list_to n (λ r. part (pay_of s m i (profile_at (sizes_of s) r))) (rank_of (sizes_of s) t) (pos 0) (rank_of-below (sizes_of s) t p)
    ∙ ap (λ u. part (pay_of s m i u)) (profile_at-rank_of (sizes_of s) t p)
  where
    n : ℕ
    n = profile_count (sizes_of s)

part-difference : (z : ℤ) → plus_part z -ℤ minus_part z ≡ z
part-difference (pos n) = omega (arith, ints)
part-difference (negsuc n) = omega (arith, ints)

point-pay : (on : Bool) (s : GeneralSetting) (m : Mechanism) → s.payments ≡ on → IsMechanism s m → (i : ℕ) (t : List ℕ) → i < agent_count s → IsProfile (sizes_of s) t
    → payment_by on (number_at (m.chances ++ payment_parts on s m) (plus_column s i t)) (number_at (m.chances ++ payment_parts on s m) (minus_column s i t)) ≡ pay_of s m i t
point-pay false s m off h i t l p = sym (h.no_payment off t i p l)
point-pay true s m on h i t l p =
    let place = i * profile_count (sizes_of s) + rank_of (sizes_of s) t in
    let inside : place < agent_count s * profile_count (sizes_of s) = place-below i (agent_count s) (profile_count (sizes_of s)) (rank_of (sizes_of s) t) l (rank_of-below (sizes_of s) t p) in
    let plus : number_at (m.chances ++ (parts plus_part s m ++ parts minus_part s m)) (plus_column s i t) ≡ plus_part (pay_of s m i t) =
    number_at-behind m.chances (parts plus_part s m ++ parts minus_part s m) (first_plus s) place h.chance_count
    ∙ get_or_append_left (parts plus_part s m) (parts minus_part s m) (pos 0) place (rw (parts-length plus_part s m) inside)
    ∙ parts-at plus_part s m i t l p in
    let apart : minus_column s i t ≡ first_plus s + (agent_count s * profile_count (sizes_of s) + place) = omega arith in
    let minus : number_at (m.chances ++ (parts plus_part s m ++ parts minus_part s m)) (minus_column s i t) ≡ minus_part (pay_of s m i t) =
    ap (number_at (m.chances ++ (parts plus_part s m ++ parts minus_part s m))) apart
    ∙ number_at-behind m.chances (parts plus_part s m ++ parts minus_part s m) (first_plus s) (agent_count s * profile_count (sizes_of s) + place) h.chance_count
    ∙ number_at-behind (parts plus_part s m) (parts minus_part s m) (agent_count s * profile_count (sizes_of s)) place (parts-length plus_part s m)
    ∙ parts-at minus_part s m i t l p in
    rw (plus, minus) (part-difference (pay_of s m i t))

point-chance : (s : GeneralSetting) (m : Mechanism) (k : ℕ) → k < length m.chances → number_at (point_of s m) k ≡ number_at m.chances k
point-chance s m k h = get_or_append_left m.chances (payment_parts s.payments s m) (pos 0) k h

pub agrees-point_of : (s : GeneralSetting) (m : Mechanism) → IsMechanism s m → Agrees s (number_at (point_of s m)) m
agrees-point_of s m h = record {
  chance = λ t o p l. point-chance s m (chance_column s t o) (rw h.chance_count (place-below (rank_of (sizes_of s) t) (profile_count (sizes_of s)) (outcome_count s) o (rank_of-below (sizes_of s) t p) l));
  pay = λ i t l p. point-pay s.payments s m refl h i t l p;
}

-- ---- its numbers

agents-length : (s : GeneralSetting) → length (sizes_of s) ≡ agent_count s
agents-length s = length-map s.agents (λ agent. length agent.types)

payments-length : (on : Bool) (s : GeneralSetting) (m : Mechanism) → length (payment_parts on s m) ≡ payment_columns on (sizes_of s)
payments-length true s m =
    length-append (parts plus_part s m) (parts minus_part s m)
    ∙ rw (parts-length plus_part s m, parts-length minus_part s m, agents-length s) (omega arith)
payments-length false s m = refl

pub point-length : (s : GeneralSetting) (m : Mechanism) → IsMechanism s m → length (point_of s m) ≡ column_count s
point-length s m h = length-append m.chances (payment_parts s.payments s m) ∙ rw (h.chance_count, payments-length s.payments s m) refl

-- what holds of each chance and of each part of a payment holds of each number
all-parts : (P : ℤ → Type 0) (part : ℤ → ℤ) (s : GeneralSetting) (m : Mechanism) → ((i : ℕ) (t : List ℕ) → P (part (pay_of s m i t))) → All P (parts part s m)
all-parts P part s m each =
    All-up_to P (agent_count s) (λ i. list_to (profile_count (sizes_of s)) (λ r. part (pay_of s m i (profile_at (sizes_of s) r))))
    (λ i h. All-list_to P (profile_count (sizes_of s)) (λ r. part (pay_of s m i (profile_at (sizes_of s) r))) (λ r l. each i (profile_at (sizes_of s) r)))

all-payments : (P : ℤ → Type 0) (on : Bool) (s : GeneralSetting) (m : Mechanism) → ((i : ℕ) (t : List ℕ) → P (plus_part (pay_of s m i t)) × P (minus_part (pay_of s m i t))) → All P (payment_parts on s m)
all-payments P true s m each =
    All-append P (parts plus_part s m) (parts minus_part s m) (all-parts P plus_part s m (λ i t. (each i t).0)) (all-parts P minus_part s m (λ i t. (each i t).1))
all-payments P false s m each = All-nil P

plus-nonneg : (z : ℤ) → pos 0 ≤ℤ plus_part z
plus-nonneg (pos n) = omega (arith, ints)
plus-nonneg (negsuc n) = omega (arith, ints)

minus-nonneg : (z : ℤ) → pos 0 ≤ℤ minus_part z
minus-nonneg (pos n) = omega (arith, ints)
minus-nonneg (negsuc n) = omega (arith, ints)

chance-nonneg : (s : GeneralSetting) (m : Mechanism) (k : ℕ) → IsMechanism s m → k < length m.chances → pos 0 ≤ℤ number_at m.chances k
chance-nonneg s m k h l =
    let below : k < profile_count (sizes_of s) * outcome_count s = omega (arith, h.chance_count) in
    let some : 0 < outcome_count s = pos-factor k (profile_count (sizes_of s)) (outcome_count s) below in
    let row : k / outcome_count s < profile_count (sizes_of s) = div_below k (outcome_count s) (profile_count (sizes_of s)) some below in
    let column : k % outcome_count s < outcome_count s = mod_below k (outcome_count s) some in
    let there = h.not_negative (profile_at (sizes_of s) (k / outcome_count s)) (k % outcome_count s) (profile_at-IsProfile (sizes_of s) (k / outcome_count s) row) column in
    let back : chance_column s (profile_at (sizes_of s) (k / outcome_count s)) (k % outcome_count s) ≡ k =
    ap (λ r. r * outcome_count s + k % outcome_count s) (rank_of-profile_at (sizes_of s) (k / outcome_count s) row) ∙ div-add-mod' k (outcome_count s) in
    subst (λ q. pos 0 ≤ℤ number_at m.chances q) back there

pub point-nonneg : (s : GeneralSetting) (m : Mechanism) → IsMechanism s m → All (λ z. pos 0 ≤ℤ z) (point_of s m)
point-nonneg s m h =
    All-append (λ z. pos 0 ≤ℤ z) m.chances (payment_parts s.payments s m)
    (All-from_get_or (λ z. pos 0 ≤ℤ z) m.chances (pos 0) (λ k l. chance-nonneg s m k h l))
    (all-payments (λ z. pos 0 ≤ℤ z) s.payments s m (λ i t. (plus-nonneg (pay_of s m i t), minus-nonneg (pay_of s m i t))))

plus-within : (limit : ℕ) (z : ℤ) → IsWithin limit z → IsWithin limit (plus_part z)
plus-within limit (pos n) h = h
plus-within limit (negsuc n) h = record { within = omega arith }

minus-within : (limit : ℕ) (z : ℤ) → IsWithin limit z → IsWithin limit (minus_part z)
minus-within limit (pos n) h = record { within = omega arith }
minus-within limit (negsuc n) h = record { within = h.within }

pub point-within : (s : GeneralSetting) (m : Mechanism) → IsAccepted s m → AllWithin number_limit (point_of s m)
point-within s m h = record {
  at = λ k l. All-get_or (IsWithin number_limit) (point_of s m) k (pos 0) l
      (All-append (IsWithin number_limit) m.chances (payment_parts s.payments s m)
      (All-from_get_or (IsWithin number_limit) m.chances (pos 0) (λ j b. h.chance_size.at j b))
      (all-payments (IsWithin number_limit) s.payments s m (λ i t.
      (plus-within number_limit (pay_of s m i t) (AllWithin-number_at number_limit m.pays _ h.pay_size), minus-within number_limit (pay_of s m i t) (AllWithin-number_at number_limit m.pays _ h.pay_size)))));
}

-- ---- and back

list_to-join : {X : Type 0} → (m n : ℕ) (f : ℕ → X) → list_to (m + n) f ≡ list_to m f ++ list_to n (λ j. f (m + j))
list_to-join m zero f = let e : m + zero ≡ m = omega arith in rw e (sym (append-nil (list_to m f)))
list_to-join m (suc n) f =
    let e : m + suc n ≡ suc (m + n) = omega arith in
    rw e (ap (λ xs. xs ++ f (m + n) ∷ []) (list_to-join m n f) ∙ append_assoc (list_to m f) (list_to n (λ j. f (m + j))) (f (m + n) ∷ []))

list_to-nested : {X : Type 0} → (m n : ℕ) (f : ℕ → X) → list_to (m * n) f ≡ up_to m (λ r. list_to n (λ j. f (r * n + j)))
list_to-nested zero n f = let e : zero * n ≡ zero = omega arith in rw e refl
list_to-nested (suc m) n f =
    let e : suc m * n ≡ m * n + n = omega arith in
    rw e (list_to-join (m * n) n f ∙ ap (λ xs. xs ++ list_to n (λ j. f (m * n + j))) (list_to-nested m n f))

all_of : (xs : List ℤ) (n : ℕ) → length xs ≡ n → list_to n (number_at xs) ≡ xs
all_of xs n e = subst (λ k. list_to k (number_at xs) ≡ xs) e (list_to-get_or xs (pos 0))

pub mechanism-of_point : (s : GeneralSetting) (m : Mechanism) → IsMechanism s m → mechanism_of s m.den (number_at (point_of s m)) ≡ m
mechanism-of_point s m h =
    ap (λ xs. record { den = m.den; chances = xs; pays = pays }) chances ∙ ap (λ ps. record { den = m.den; chances = m.chances; pays = ps }) back
  where
    n : ℕ
    n = profile_count (sizes_of s)

    x : ℕ → ℤ
    x = number_at (point_of s m)

    pays : List ℤ
    pays = up_to n (λ r. list_to (agent_count s) (λ i. payment_in s x i (profile_at (sizes_of s) r)))

    chances : list_to (n * outcome_count s) x ≡ m.chances
    chances =
        list_to-same (n * outcome_count s) x (number_at m.chances) (λ k l. point-chance s m k (rw h.chance_count l)) ∙ all_of m.chances (n * outcome_count s) h.chance_count

    pay-at : (r i : ℕ) → r < n → i < agent_count s → payment_in s x i (profile_at (sizes_of s) r) ≡ number_at m.pays (r * agent_count s + i)
    pay-at r i b l =
        point-pay s.payments s m refl h i (profile_at (sizes_of s) r) l (profile_at-IsProfile (sizes_of s) r b)
        ∙ ap (λ k. number_at m.pays (k * agent_count s + i)) (rank_of-profile_at (sizes_of s) r b)

    back : pays ≡ m.pays
    back =
        up_to-same n (λ r. list_to (agent_count s) (λ i. payment_in s x i (profile_at (sizes_of s) r))) (λ r. list_to (agent_count s) (λ i. number_at m.pays (r * agent_count s + i)))
        (λ r b. list_to-same (agent_count s) (λ i. payment_in s x i (profile_at (sizes_of s) r)) (λ i. number_at m.pays (r * agent_count s + i)) (λ i l. pay-at r i b l))
        ∙ sym (list_to-nested n (agent_count s) (number_at m.pays))
        ∙ all_of m.pays (n * agent_count s) h.pay_count

-- ---- sizes of a mechanism of a point

payment-within : (limit : ℕ) (on : Bool) (p m : ℤ) → (on ≡ true → pos 0 ≤ℤ p) → (on ≡ true → pos 0 ≤ℤ m) → IsWithin limit p → IsWithin limit m → IsWithin limit (payment_by on p m)
payment-within limit true p m a b h k = IsWithin-difference limit p m (a refl) (b refl) h k
payment-within limit false p m a b h k = IsWithin-zero limit

-- where there are payments the columns go on with both parts of each
pub columns-on : (s : GeneralSetting) → s.payments ≡ true → column_count s ≡ first_plus s + (agent_count s * profile_count (sizes_of s) + agent_count s * profile_count (sizes_of s))
columns-on s on = ap (λ b. first_plus s + payment_columns b (sizes_of s)) on ∙ ap (λ n. first_plus s + 2 * (n * profile_count (sizes_of s))) (agents-length s) ∙ omega arith

-- so their columns are the program's
parts-inside : (s : GeneralSetting) (i : ℕ) (t : List ℕ) → i < agent_count s → IsProfile (sizes_of s) t → s.payments ≡ true → (plus_column s i t < column_count s) × (minus_column s i t < column_count s)
parts-inside s i t l p on =
    let inside : i * profile_count (sizes_of s) + rank_of (sizes_of s) t < agent_count s * profile_count (sizes_of s) = place-below i (agent_count s) (profile_count (sizes_of s)) (rank_of (sizes_of s) t) l (rank_of-below (sizes_of s) t p) in
    let columns = columns-on s on in
    (omega (arith, inside, columns), omega (arith, inside, columns))

pub accepted-mechanism : (s : GeneralSetting) (den : ℤ) (x : ℕ → ℤ) → IsMechanism s (mechanism_of s den x) → ((j : ℕ) → j < column_count s → pos 0 ≤ℤ x j) → ((j : ℕ) → IsWithin number_limit (x j)) → IsWithin number_limit den
    → IsAccepted s (mechanism_of s den x)
accepted-mechanism s den x mechanism nonneg small den_size = record {
  mechanism = mechanism;
  den_size = den_size;
  chance_size = record {
    at = λ k l. All-get_or (IsWithin number_limit) (list_to (first_plus s) x) k (pos 0) l (All-list_to (IsWithin number_limit) (first_plus s) x (λ j b. small j));
  };
  pay_size = record {
    at = λ k l. All-get_or (IsWithin number_limit) (up_to (profile_count (sizes_of s)) (λ r. list_to (agent_count s) (λ i. payment_in s x i (profile_at (sizes_of s) r)))) k (pos 0) l
        (All-up_to (IsWithin number_limit) (profile_count (sizes_of s)) (λ r. list_to (agent_count s) (λ i. payment_in s x i (profile_at (sizes_of s) r)))
        (λ r b. All-list_to (IsWithin number_limit) (agent_count s) (λ i. payment_in s x i (profile_at (sizes_of s) r))
        (λ i c. payment-within number_limit s.payments (x (plus_column s i (profile_at (sizes_of s) r))) (x (minus_column s i (profile_at (sizes_of s) r)))
        (λ on. nonneg _ (parts-inside s i (profile_at (sizes_of s) r) c (profile_at-IsProfile (sizes_of s) r b) on).0) (λ on. nonneg _ (parts-inside s i (profile_at (sizes_of s) r) c (profile_at-IsProfile (sizes_of s) r b) on).1)
        (small _) (small _))));
  };
}
