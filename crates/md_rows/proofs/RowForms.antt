-- What the rows of single conditions need: their left sides from weights of profiles, and the sizes of their right sides.
use Rattle.std.proofs.Common.{◌≡◌, ◌≢◌, ℕ, ◌<◌, ℤ, pos, ◌+ℤ◌, ◌-ℤ◌, ◌*ℤ◌, neg_ℤ, List, length, get_or, Result, Ok, Err, OnOk, IfOk, refl, sym, ap, ap₂, ◌∙◌, arith}
use Rattle.std.specs.Prelude.{slice_index}
use Rattle.std.proofs.lemmas.List.{get_or-set_same}
use Rattle.md_math.proofs.Ring.{linear, neg_ℤ-*ℤ, one-*ℤ}
use Rattle.md_space.specs.Profiles.{profile_count, profile_at, rank_of, replaced}
use Rattle.md_space.proofs.Ranks.{profile_at-IsProfile, profile_at-rank_of, replaced-IsProfile, length-IsProfile}
use Rattle.md_setting.specs.Setting.{GeneralSetting}
use Rattle.md_setting.specs.Meaning.{sizes_of}
use Rattle.md_mech.specs.Rows.{dominant_row, ex_post_row}
use Rattle.md_rows.specs.Sides.{utility_in, utility_as, left_side}
use Rattle.md_rows.proofs.ShareLaws.{replaced-back, replaced-true}

-- ---- results

pub on_ok : {T E : Type 0} → (r : Result T E) (P Q : Type 0) → (P → Q) → OnOk r P → OnOk r Q
on_ok (Ok x) P Q f h = f h
on_ok (Err e) P Q f h = tt

pub if_ok : {T E : Type 0} → (r : Result T E) (P Q : T → Type 0) → ((x : T) → P x → Q x) → IfOk r P → IfOk r Q
if_ok (Ok x) P Q f h = f x h
if_ok (Err e) P Q f h = tt

-- ---- left sides

pub dominant-left : (s : GeneralSetting) (x : ℕ → ℤ) (i r b kind : ℕ) → r < profile_count (sizes_of s) → b < get_or (sizes_of s) i 0 → kind ≡ slice_index (profile_at (sizes_of s) r) i
    → utility_as s x i kind (profile_at (sizes_of s) (rank_of (sizes_of s) (replaced (profile_at (sizes_of s) r) i b))) -ℤ utility_as s x i kind (profile_at (sizes_of s) r)
    ≡ left_side s (dominant_row i (profile_at (sizes_of s) r) b) x
dominant-left s x i r b kind h l e =
    let t = profile_at (sizes_of s) r in
    let told : profile_at (sizes_of s) (rank_of (sizes_of s) (replaced t i b)) ≡ replaced t i b =
    profile_at-rank_of (sizes_of s) (replaced t i b) (replaced-IsProfile (sizes_of s) t i b (profile_at-IsProfile (sizes_of s) r h) l) in
    ap₂ (λ u a. utility_as s x i a u -ℤ utility_as s x i a t) told e
    ∙ ap₂ (λ u v. utility_in s x i u (replaced t i b) -ℤ utility_in s x i v t) (replaced-back t i b) (replaced-true t i (slice_index t i) refl)

pub ex_post-left : (s : GeneralSetting) (x : ℕ → ℤ) (i r kind : ℕ) → kind ≡ slice_index (profile_at (sizes_of s) r) i
    → neg_ℤ (pos 1) *ℤ utility_as s x i kind (profile_at (sizes_of s) r) +ℤ pos 0 ≡ left_side s (ex_post_row i (profile_at (sizes_of s) r)) x
ex_post-left s x i r kind e =
    let t = profile_at (sizes_of s) r in
    let own : utility_as s x i kind t ≡ utility_in s x i t t = ap (λ u. utility_in s x i u t) (replaced-true t i kind (sym e)) in
    rw (neg_ℤ-*ℤ (pos 1) (utility_as s x i kind t), one-*ℤ (utility_as s x i kind t)) (omega (arith, linear, own))

-- a false report leads to another profile
pub told-apart : (sizes : List ℕ) (r i b : ℕ) → r < profile_count sizes → i < length sizes → b < get_or sizes i 0 → b ≢ slice_index (profile_at sizes r) i → rank_of sizes (replaced (profile_at sizes r) i b) ≢ r
told-apart sizes r i b h l k d same =
    let back : profile_at sizes (rank_of sizes (replaced (profile_at sizes r) i b)) ≡ replaced (profile_at sizes r) i b =
    profile_at-rank_of sizes (replaced (profile_at sizes r) i b) (replaced-IsProfile sizes (profile_at sizes r) i b (profile_at-IsProfile sizes r h) k) in
    let here : profile_at sizes r ≡ replaced (profile_at sizes r) i b = ap (profile_at sizes) (sym same) ∙ back in
    let long : i < length (profile_at sizes r) = omega (arith, l, length-IsProfile sizes (profile_at sizes r) (profile_at-IsProfile sizes r h)) in
    d (sym (ap (λ t. get_or t i 0) here ∙ get_or-set_same (profile_at sizes r) i b 0 long))
