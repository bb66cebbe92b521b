-- Ranks and profiles are inverse, and what one report changes in a rank.
use Rattle.std.proofs.Common.{◌≡◌, ℕ, zero, suc, ◌+◌, ◌*◌, ◌/◌, ◌%◌, ◌<◌, ◌≤◌, List, [], ◌∷◌, length, get_or, refl, sym, ap, subst, ◌∙◌, arith, get_or-set_same}
use Rattle.std.proofs.Math.Nat.{mul-zero}
use Rattle.std.proofs.lemmas.Nat.{mul-add-lt, div_below, mod_below, div-mul-add, mod-mul-add, div-add-mod'}
use Rattle.md_space.specs.Profiles.{profile_count, IsProfile, rank_of, profile_at, replaced}
use Rattle.md_space.specs.Strides.{strides_of}

pub rank_of-below : (sizes t : List ℕ) → IsProfile sizes t → rank_of sizes t < profile_count sizes
rank_of-below [] [] p = omega arith
rank_of-below [] (x ∷ ts) p = absurd p
rank_of-below (n ∷ ns) [] p = absurd p
rank_of-below (n ∷ ns) (x ∷ ts) p =
    omega (arith, mul-add-lt x (profile_count ns) (rank_of ns ts) n p.0 (rank_of-below ns ts p.1))

pub pos-factor : (r n k : ℕ) → r < n * k → 0 < k
pos-factor r n zero h = absurd (omega (arith, mul-zero n))
pos-factor r n (suc k) h = omega arith

pub profile_at-IsProfile : (sizes : List ℕ) (r : ℕ) → r < profile_count sizes → IsProfile sizes (profile_at sizes r)
profile_at-IsProfile [] r h = tt
profile_at-IsProfile (n ∷ ns) r h =
    let k : 0 < profile_count ns = pos-factor r n (profile_count ns) h in
    (div_below r (profile_count ns) n k h, profile_at-IsProfile ns (r % profile_count ns) (mod_below r (profile_count ns) k))

pub profile_at-rank_of : (sizes t : List ℕ) → IsProfile sizes t → profile_at sizes (rank_of sizes t) ≡ t
profile_at-rank_of [] [] p = refl
profile_at-rank_of [] (x ∷ ts) p = absurd p
profile_at-rank_of (n ∷ ns) [] p = absurd p
profile_at-rank_of (n ∷ ns) (x ∷ ts) p =
    let below : rank_of ns ts < profile_count ns = rank_of-below ns ts p.1 in
    rw (div-mul-add x (profile_count ns) (rank_of ns ts) below, mod-mul-add x (profile_count ns) (rank_of ns ts) below)
    (ap (λ l. x ∷ l) (profile_at-rank_of ns ts p.1))

pub rank_of-profile_at : (sizes : List ℕ) (r : ℕ) → r < profile_count sizes → rank_of sizes (profile_at sizes r) ≡ r
rank_of-profile_at [] r h = omega arith
rank_of-profile_at (n ∷ ns) r h =
    let k : 0 < profile_count ns = pos-factor r n (profile_count ns) h in
    rw (rank_of-profile_at ns (r % profile_count ns) (mod_below r (profile_count ns) k)) (div-add-mod' r (profile_count ns))

pub length-IsProfile : (sizes t : List ℕ) → IsProfile sizes t → length t ≡ length sizes
length-IsProfile [] [] p = refl
length-IsProfile [] (x ∷ ts) p = absurd p
length-IsProfile (n ∷ ns) [] p = absurd p
length-IsProfile (n ∷ ns) (x ∷ ts) p = ap suc (length-IsProfile ns ts p.1)

pub report-below : (sizes t : List ℕ) (i : ℕ) → IsProfile sizes t → i < length sizes → get_or t i 0 < get_or sizes i 0
report-below [] t i p h = absurd (omega arith)
report-below (n ∷ ns) [] i p h = absurd p
report-below (n ∷ ns) (x ∷ ts) zero p h = p.0
report-below (n ∷ ns) (x ∷ ts) (suc i) p h = report-below ns ts i p.1 (omega arith)

pub replaced-IsProfile : (sizes t : List ℕ) (i b : ℕ) → IsProfile sizes t → b < get_or sizes i 0 → IsProfile sizes (replaced t i b)
replaced-IsProfile [] [] i b p h = tt
replaced-IsProfile [] (x ∷ ts) i b p h = absurd p
replaced-IsProfile (n ∷ ns) [] i b p h = absurd p
replaced-IsProfile (n ∷ ns) (x ∷ ts) zero b p h = (h, p.1)
replaced-IsProfile (n ∷ ns) (x ∷ ts) (suc i) b p h = (p.0, replaced-IsProfile ns ts i b p.1 h)

pub rank_of-replaced : (sizes t : List ℕ) (i b : ℕ) → IsProfile sizes t → i < length sizes →
    rank_of sizes (replaced t i b) + get_or t i 0 * get_or (strides_of sizes) i 0 ≡ rank_of sizes t + b * get_or (strides_of sizes) i 0
rank_of-replaced [] t i b p h = absurd (omega arith)
rank_of-replaced (n ∷ ns) [] i b p h = absurd p
rank_of-replaced (n ∷ ns) (x ∷ ts) zero b p h = omega arith
rank_of-replaced (n ∷ ns) (x ∷ ts) (suc i) b p h = omega (arith, rank_of-replaced ns ts i b p.1 (omega arith))

-- the profiles of the agents from i on come in blocks of one type of agent i
pub count_split : (sizes : List ℕ) (i : ℕ) → i < length sizes →
    (q : ℕ) × (profile_count sizes ≡ q * (get_or sizes i 0 * get_or (strides_of sizes) i 0))
count_split [] i h = absurd (omega arith)
count_split (n ∷ ns) zero h = (1, omega arith)
count_split (n ∷ ns) (suc i) h =
    let r = count_split ns i (omega arith) in
    (n * r.0, omega (arith, ap (λ k. n * k) r.1))

rank_step : (x c q n s a b y m : ℕ) → c ≡ q * (n * s) → m ≡ (a * n + y) * s + b → x * c + m ≡ ((x * q + a) * n + y) * s + b
rank_step x c q n s a b y m e f = omega (arith, ap (λ k. x * k) e, f)

pub rank_split : (sizes t : List ℕ) (i : ℕ) → IsProfile sizes t → i < length sizes →
    (a : ℕ) × (b : ℕ) × (b < get_or (strides_of sizes) i 0) × (rank_of sizes t ≡ (a * get_or sizes i 0 + get_or t i 0) * get_or (strides_of sizes) i 0 + b)
rank_split [] t i p h = absurd (omega arith)
rank_split (n ∷ ns) [] i p h = absurd p
rank_split (n ∷ ns) (x ∷ ts) zero p h = (0, rank_of ns ts, rank_of-below ns ts p.1, omega arith)
rank_split (n ∷ ns) (x ∷ ts) (suc i) p h =
    let h' : i < length ns = omega arith in
    let r = rank_split ns ts i p.1 h' in
    let q = count_split ns i h' in
    (x * q.0 + r.0, r.1, r.2, rank_step x _ _ _ _ _ _ _ _ q.1 r.3)

digit : (r a n y s b : ℕ) → r ≡ (a * n + y) * s + b → b < s → y < n → r / s % n ≡ y
digit r a n y s b e h k = rw (e, div-mul-add (a * n + y) s b h, mod-mul-add a n y k) refl

-- the report of agent i, read off the rank
pub report_of-rank : (sizes t : List ℕ) (i : ℕ) → IsProfile sizes t → i < length sizes →
    rank_of sizes t / get_or (strides_of sizes) i 0 % get_or sizes i 0 ≡ get_or t i 0
report_of-rank sizes t i p h =
    let r = rank_split sizes t i p h in
    digit _ _ _ _ _ _ r.3 r.2 (report-below sizes t i p h)

pub length-strides_of : (sizes : List ℕ) → length (strides_of sizes) ≡ length sizes
length-strides_of [] = refl
length-strides_of (n ∷ ns) = ap suc (length-strides_of ns)

-- the same, for the profile at a rank
pub report-at_rank : (sizes : List ℕ) (r i : ℕ) → r < profile_count sizes → i < length sizes →
    r / get_or (strides_of sizes) i 0 % get_or sizes i 0 ≡ get_or (profile_at sizes r) i 0
report-at_rank sizes r i h k =
    ap (λ x. x / get_or (strides_of sizes) i 0 % get_or sizes i 0) (sym (rank_of-profile_at sizes r h))
    ∙ report_of-rank sizes (profile_at sizes r) i (profile_at-IsProfile sizes r h) k

pub report-at_rank-below : (sizes : List ℕ) (r i : ℕ) → r < profile_count sizes → i < length sizes → get_or (profile_at sizes r) i 0 < get_or sizes i 0
report-at_rank-below sizes r i h k = report-below sizes (profile_at sizes r) i (profile_at-IsProfile sizes r h) k

-- the rank with one report replaced, by the two ranks and the two reports
pub record Replaces (sizes : List ℕ) (r i b : ℕ) : Type 0 where
  pub value : rank_of sizes (replaced (profile_at sizes r) i b) + get_or (profile_at sizes r) i 0 * get_or (strides_of sizes) i 0 ≡ r + b * get_or (strides_of sizes) i 0
  pub below : rank_of sizes (replaced (profile_at sizes r) i b) < profile_count sizes
  pub profile : profile_at sizes (rank_of sizes (replaced (profile_at sizes r) i b)) ≡ replaced (profile_at sizes r) i b
  pub taken : get_or (profile_at sizes r) i 0 * get_or (strides_of sizes) i 0 ≤ r
  pub added : b * get_or (strides_of sizes) i 0 ≤ rank_of sizes (replaced (profile_at sizes r) i b)

part-below : (r a n y s b : ℕ) → r ≡ (a * n + y) * s + b → y * s ≤ r
part-below r a n y s b e = omega (arith, e)

-- an agent's report has its part in the rank
pub report-part : (sizes t : List ℕ) (i : ℕ) → IsProfile sizes t → i < length sizes → get_or t i 0 * get_or (strides_of sizes) i 0 ≤ rank_of sizes t
report-part sizes t i p h =
    let r = rank_split sizes t i p h in
    part-below _ _ _ _ _ _ r.3

pub replaces : (sizes : List ℕ) (r i b : ℕ) → r < profile_count sizes → i < length sizes → b < get_or sizes i 0 → Replaces sizes r i b
replaces sizes r i b h k l =
    let t : List ℕ = profile_at sizes r in
    let p : IsProfile sizes t = profile_at-IsProfile sizes r h in
    let q : IsProfile sizes (replaced t i b) = replaced-IsProfile sizes t i b p l in
    let e : rank_of sizes t ≡ r = rank_of-profile_at sizes r h in
    let in_t : i < length t = omega (arith, length-IsProfile sizes t p) in
    record {
      value = rank_of-replaced sizes t i b p k ∙ ap (λ x. x + b * get_or (strides_of sizes) i 0) e;
      below = rank_of-below sizes (replaced t i b) q;
      profile = profile_at-rank_of sizes (replaced t i b) q;
      taken = subst (λ x. get_or t i 0 * get_or (strides_of sizes) i 0 ≤ x) e (report-part sizes t i p k);
      added = subst (λ x. x * get_or (strides_of sizes) i 0 ≤ rank_of sizes (replaced t i b)) (get_or-set_same t i b 0 in_t) (report-part sizes (replaced t i b) i q k);
    }
