-- What a mechanism becomes when a ray of its setting's program is added again and again.
use Rattle.std.proofs.Common.{◌≡◌, ℕ, ◌+◌, ◌*◌, ◌/◌, ◌%◌, ◌<◌, Bool, true, false, ℤ, pos, negsuc, ◌+ℤ◌, ◌-ℤ◌, ◌*ℤ◌, neg_ℤ, ◌≤ℤ◌, inl, inr, List, ◌++◌, length, sym, ap, ◌∙◌, subst, arith}
use Rattle.std.proofs.lemmas.Int.{ints}
use Rattle.std.proofs.lemmas.List.{get_or_append_left, append-nil, get_or_past}
use Rattle.std.proofs.lemmas.Bool.{cases_lt}
use Rattle.std.proofs.lemmas.Nat.{div_below, mod_below, div-add-mod'}
use Rattle.md_math.specs.Lists.{number_at, list_to, up_to}
use Rattle.md_math.specs.Sums.{sum_to}
use Rattle.md_math.proofs.Builders.{length-list_to, list_to-same, get_or-list_to, same_list_to, length-up_to, get_or-up_to, number_at-behind}
use Rattle.md_math.proofs.Ring.{linear, ring, *ℤ-zero, *ℤ-+ℤ, *ℤ-neg_ℤ}
use Rattle.md_math.proofs.SumLaws.{sum_to-+ℤ, sum_to-same, sum_to-all_zero}
use Rattle.md_space.specs.Profiles.{IsProfile, profile_count, profile_at, rank_of}
use Rattle.md_space.proofs.Ranks.{pos-factor, rank_of-below, profile_at-IsProfile, rank_of-profile_at}
use Rattle.md_setting.specs.Setting.{GeneralSetting}
use Rattle.md_setting.specs.Meaning.{agent_count, outcome_count, sizes_of}
use Rattle.md_mech.specs.declared.mechanism.Mechanism.{Mechanism}
use Rattle.md_mech.specs.Mechanism.{IsMechanism, chance_of, pay_of}
use Rattle.md_mech.specs.Optimal.{raised}
use Rattle.md_cert.specs.Claims.{along}
use Rattle.md_rows.specs.Columns.{chance_column, plus_column, minus_column, first_plus, first_minus, payment_by, payment_in}
use Rattle.md_rows.specs.Points.{mechanism_of, plus_part, minus_part, parts}
use Rattle.md_rows.proofs.PointLaws.{agrees-mechanism_of, parts-length, place-below}
use Rattle.md_claims.specs.Rays.{pays_along, paying, ray_of}

-- ---- lists by rank, then by agent or outcome

-- what is said of each place of a list by rank is said of each place
each-place : (P : ℕ → Type 0) (n w : ℕ) → ((r k : ℕ) → r < n → k < w → P (r * w + k)) → (j : ℕ) → j < n * w → P j
each-place P n w h j below =
    let some : 0 < w = pos-factor j n w below in
    subst P (div-add-mod' j w) (h (j / w) (j % w) (div_below j w n some below) (mod_below j w some))

listed-length : (s : GeneralSetting) (f : ℕ → List ℕ → ℤ)
    → length (up_to (profile_count (sizes_of s)) (λ r. list_to (agent_count s) (λ i. f i (profile_at (sizes_of s) r)))) ≡ profile_count (sizes_of s) * agent_count s
listed-length s f =
    length-up_to (profile_count (sizes_of s)) (agent_count s) (λ r. list_to (agent_count s) (λ i. f i (profile_at (sizes_of s) r)))
    (λ r h. length-list_to (agent_count s) (λ i. f i (profile_at (sizes_of s) r)))

listed-at : (s : GeneralSetting) (f : ℕ → List ℕ → ℤ) (r i : ℕ) → r < profile_count (sizes_of s) → i < agent_count s
    → number_at (up_to (profile_count (sizes_of s)) (λ q. list_to (agent_count s) (λ k. f k (profile_at (sizes_of s) q)))) (r * agent_count s + i) ≡ f i (profile_at (sizes_of s) r)
listed-at s f r i b l =
    get_or-up_to (profile_count (sizes_of s)) (agent_count s) r i (λ q. list_to (agent_count s) (λ k. f k (profile_at (sizes_of s) q))) (pos 0)
    (λ q h. length-list_to (agent_count s) (λ k. f k (profile_at (sizes_of s) q))) b l
    ∙ get_or-list_to (agent_count s) (λ k. f k (profile_at (sizes_of s) r)) i (pos 0) l

-- ---- chances along a ray

-- a ray that leaves the sum of each lottery as it is, and is not negative, is 0 at each chance
pub ray-at_chance : (s : GeneralSetting) (den : ℤ) (x ray : ℕ → ℤ) → IsMechanism s (mechanism_of s den x) → IsMechanism s (mechanism_of s den (along x 1 ray))
    → ((j : ℕ) → j < first_plus s → pos 0 ≤ℤ ray j) → (r o : ℕ) → r < profile_count (sizes_of s) → o < outcome_count s → ray (r * outcome_count s + o) ≡ pos 0
ray-at_chance s den x ray here there nonneg r o below inside =
    subst (λ q. ray (q * outcome_count s + o) ≡ pos 0) (rank_of-profile_at (sizes_of s) r below)
    (sum_to-all_zero (outcome_count s) o (λ k. ray (chance_column s t k)) inside
    (λ k l. nonneg (chance_column s t k) (place-below (rank_of (sizes_of s) t) (profile_count (sizes_of s)) (outcome_count s) k (rank_of-below (sizes_of s) t p) l))
    (omega (arith, linear, first, second, apart, once)))
  where
    t : List ℕ
    t = profile_at (sizes_of s) r

    p : IsProfile (sizes_of s) t
    p = profile_at-IsProfile (sizes_of s) r below

    first : sum_to (outcome_count s) (λ k. x (chance_column s t k)) ≡ den
    first =
        sum_to-same (outcome_count s) (λ k. x (chance_column s t k)) (chance_of s (mechanism_of s den x) t) (λ k l. (agrees-mechanism_of s den x).chance t k p l) ∙ here.whole t p

    second : sum_to (outcome_count s) (λ k. along x 1 ray (chance_column s t k)) ≡ den
    second =
        sum_to-same (outcome_count s) (λ k. along x 1 ray (chance_column s t k)) (chance_of s (mechanism_of s den (along x 1 ray)) t) (λ k l. (agrees-mechanism_of s den (along x 1 ray)).chance t k p l)
        ∙ there.whole t p

    once : sum_to (outcome_count s) (λ k. pos 1 *ℤ ray (chance_column s t k)) ≡ sum_to (outcome_count s) (λ k. ray (chance_column s t k))
    once = sum_to-same (outcome_count s) (λ k. pos 1 *ℤ ray (chance_column s t k)) (λ k. ray (chance_column s t k)) (λ k l. simp ring)

    apart : sum_to (outcome_count s) (λ k. along x 1 ray (chance_column s t k)) ≡ sum_to (outcome_count s) (λ k. x (chance_column s t k)) +ℤ sum_to (outcome_count s) (λ k. pos 1 *ℤ ray (chance_column s t k))
    apart = sum_to-+ℤ (outcome_count s) (λ k. x (chance_column s t k)) (λ k. pos 1 *ℤ ray (chance_column s t k))

-- ---- payments along a ray

payment-along : (on : Bool) (a b c d : ℤ) (k : ℕ) → payment_by on (a +ℤ pos k *ℤ c) (b +ℤ pos k *ℤ d) ≡ payment_by on a b +ℤ pos k *ℤ payment_by on c d
payment-along true a b c d k = omega (arith, linear, *ℤ-+ℤ (pos k) c (neg_ℤ d), *ℤ-neg_ℤ (pos k) d)
payment-along false a b c d k = omega (arith, linear, *ℤ-zero (pos k))

-- the mechanism of a point with k times a ray added has k times its payments added
pub mechanism-along : (s : GeneralSetting) (den : ℤ) (x ray : ℕ → ℤ) (k : ℕ) → ((r o : ℕ) → r < profile_count (sizes_of s) → o < outcome_count s → ray (r * outcome_count s + o) ≡ pos 0)
    → mechanism_of s den (along x k ray) ≡ raised (mechanism_of s den x) k (pays_along s ray)
mechanism-along s den x ray k none =
    ap (λ chances. record { den = den; chances = chances; pays = (mechanism_of s den (along x k ray)).pays }) chances
    ∙ ap (λ pays. record { den = den; chances = (mechanism_of s den x).chances; pays = pays }) pays
  where
    n : ℕ
    n = profile_count (sizes_of s)

    stays : (j : ℕ) → j < first_plus s → along x k ray j ≡ x j
    stays j below =
        let zero_there : ray j ≡ pos 0 = each-place (λ q. ray q ≡ pos 0) n (outcome_count s) none j below in
        rw zero_there (omega (arith, linear, *ℤ-zero (pos k)))

    chances : list_to (first_plus s) (along x k ray) ≡ list_to (first_plus s) x
    chances = list_to-same (first_plus s) (along x k ray) x stays

    next : ℕ → ℤ
    next j = number_at (pays_along s x) j +ℤ pos k *ℤ number_at (pays_along s ray) j

    at : (r i : ℕ) → r < n → i < agent_count s → number_at (pays_along s (along x k ray)) (r * agent_count s + i) ≡ next (r * agent_count s + i)
    at r i b l =
        let t = profile_at (sizes_of s) r in
        rw (listed-at s (payment_in s (along x k ray)) r i b l, listed-at s (payment_in s x) r i b l, listed-at s (payment_in s ray) r i b l)
        (payment-along s.payments (x (plus_column s i t)) (x (minus_column s i t)) (ray (plus_column s i t)) (ray (minus_column s i t)) k)

    pays : pays_along s (along x k ray) ≡ list_to (length (pays_along s x)) next
    pays =
        same_list_to (pays_along s (along x k ray)) (length (pays_along s x)) next (pos 0) (listed-length s (payment_in s (along x k ray)) ∙ sym (listed-length s (payment_in s x)))
        (λ j below. each-place (λ q. number_at (pays_along s (along x k ray)) q ≡ next q) n (agent_count s) at j (omega (arith, listed-length s (payment_in s x))))

-- payments that are the same at each place raise a mechanism alike
pub raised-same : (m : Mechanism) (k : ℕ) (ps qs : List ℤ) → ((j : ℕ) → j < length m.pays → number_at ps j ≡ number_at qs j) → raised m k ps ≡ raised m k qs
raised-same m k ps qs h =
    ap (λ pays. record { den = m.den; chances = m.chances; pays = pays })
    (list_to-same (length m.pays) (λ j. number_at m.pays j +ℤ pos k *ℤ number_at ps j) (λ j. number_at m.pays j +ℤ pos k *ℤ number_at qs j)
    (λ j b. ap (λ z. number_at m.pays j +ℤ pos k *ℤ z) (h j b)))

-- ---- the ray of some payments

parts-at : (part : ℤ → ℤ) (s : GeneralSetting) (m : Mechanism) (i r : ℕ) → i < agent_count s → r < profile_count (sizes_of s)
    → number_at (parts part s m) (i * profile_count (sizes_of s) + r) ≡ part (pay_of s m i (profile_at (sizes_of s) r))
parts-at part s m i r l b =
    get_or-up_to (agent_count s) n i r (λ j. list_to n (λ q. part (pay_of s m j (profile_at (sizes_of s) q)))) (pos 0)
    (λ k h. length-list_to n (λ q. part (pay_of s m k (profile_at (sizes_of s) q)))) l b
    ∙ get_or-list_to n (λ q. part (pay_of s m i (profile_at (sizes_of s) q))) r (pos 0) b
  where
    n : ℕ
    n = profile_count (sizes_of s)

part-difference : (z : ℤ) → plus_part z -ℤ minus_part z ≡ z
part-difference (pos n) = omega (arith, ints)
part-difference (negsuc n) = omega (arith, ints)

zeros : GeneralSetting → List ℤ
zeros s = list_to (first_plus s) (λ _. pos 0)

-- where there are payments, the ray says them
ray-pay : (s : GeneralSetting) (ps : List ℤ) → s.payments ≡ true → (i r : ℕ) → i < agent_count s → r < profile_count (sizes_of s)
    → payment_in s (number_at (ray_of s ps)) i (profile_at (sizes_of s) r) ≡ number_at ps (r * agent_count s + i)
unfolding zeros
ray-pay s ps on i r l b =
    let rank : rank_of (sizes_of s) (profile_at (sizes_of s) r) ≡ r = rank_of-profile_at (sizes_of s) r b in
    let place = i * profile_count (sizes_of s) + r in
    let m = paying ps in
    let size : length (zeros s) ≡ first_plus s = length-list_to (first_plus s) (λ _. pos 0) in
    let inside : place < agent_count s * profile_count (sizes_of s) = place-below i (agent_count s) (profile_count (sizes_of s)) r l b in
    let here : pay_of s m i (profile_at (sizes_of s) r) ≡ number_at ps (r * agent_count s + i) = ap (λ q. number_at ps (q * agent_count s + i)) rank in
    let plus : number_at (zeros s ++ (parts plus_part s m ++ parts minus_part s m)) (first_plus s + place) ≡ plus_part (pay_of s m i (profile_at (sizes_of s) r)) =
    number_at-behind (zeros s) (parts plus_part s m ++ parts minus_part s m) (first_plus s) place size
    ∙ get_or_append_left (parts plus_part s m) (parts minus_part s m) (pos 0) place (rw (parts-length plus_part s m) inside)
    ∙ parts-at plus_part s m i r l b in
    let apart : first_minus s + place ≡ first_plus s + (agent_count s * profile_count (sizes_of s) + place) = omega arith in
    let minus : number_at (zeros s ++ (parts plus_part s m ++ parts minus_part s m)) (first_minus s + place) ≡ minus_part (pay_of s m i (profile_at (sizes_of s) r)) =
    ap (number_at (zeros s ++ (parts plus_part s m ++ parts minus_part s m))) apart
    ∙ number_at-behind (zeros s) (parts plus_part s m ++ parts minus_part s m) (first_plus s) (agent_count s * profile_count (sizes_of s) + place) size
    ∙ number_at-behind (parts plus_part s m) (parts minus_part s m) (agent_count s * profile_count (sizes_of s)) place (parts-length plus_part s m)
    ∙ parts-at minus_part s m i r l b in
    rw (on, rank, plus, minus) (part-difference (pay_of s m i (profile_at (sizes_of s) r)) ∙ here)

pub pays-along_ray : (s : GeneralSetting) (ps : List ℤ) → s.payments ≡ true → (j : ℕ) → j < profile_count (sizes_of s) * agent_count s
    → number_at (pays_along s (number_at (ray_of s ps))) j ≡ number_at ps j
pays-along_ray s ps on =
    each-place (λ q. number_at (pays_along s (number_at (ray_of s ps))) q ≡ number_at ps q) (profile_count (sizes_of s)) (agent_count s)
    (λ r i b l. listed-at s (payment_in s (number_at (ray_of s ps))) r i b l ∙ ray-pay s ps on i r l b)

-- where there are none, it is 0
pub ray-off : (s : GeneralSetting) (ps : List ℤ) → s.payments ≡ false → (j : ℕ) → number_at (ray_of s ps) j ≡ pos 0
ray-off s ps off j =
    rw (off, append-nil (list_to (first_plus s) (λ _. pos 0)))
    (elim (cases_lt j (first_plus s)) [
      | inl l ↦ get_or-list_to (first_plus s) (λ _. pos 0) j (pos 0) l
      | inr l ↦ get_or_past (list_to (first_plus s) (λ _. pos 0)) j (pos 0) (omega (arith, length-list_to (first_plus s) (λ _. pos 0)))
    ])
