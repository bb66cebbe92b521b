-- The reports that some texts name.
use Rattle.std.proofs.Common.{◌≡◌, ◌≢◌, ℕ, ◌+◌, ◌<◌, ◌≤◌, ℤ, pos, negsuc, ◌≤ℤ◌, List, [], ◌∷◌, ◌++◌, length, Option, None, Some, Result, Ok, Err, MatchOption, IfSome, refl, sym, ap, ◌∙◌, subst, arith, length-append, lit≤}
use Rattle.std.specs.Prelude.{◌↔◌, Contains, slice_index, slice_index_or, unsigned_abs}
use Rattle.std.specs.Option.{IsNone}
use Rattle.std.proofs.Math.ListN.{get_or-append}
use Rattle.std.proofs.Math.Seq.{get_or-append_seam}
use Rattle.std.proofs.lemmas.Int.{ints}
use Rattle.std.proofs.lemmas.List.{get_or-map, get_or-replicate, length-map, length-replicate}
use Rattle.std.proofs.lemmas.List.Elements.{Contains-get_or}
use Rattle.md_math.specs.FirstFailure.{HoldsBelow}
use Rattle.md_math.specs.Lists.{number_at}
use Rattle.md_math.proofs.FirstFailures.{HoldsBelow-more, HoldsBelow-weaker}
use Rattle.md_num.specs.Limits.{limit_of}
use Rattle.md_num.specs.WholeText.{text_of}
use Rattle.md_num.specs.declared.whole.NumRefusal.{NumRefusal}
use Rattle.md_space.proofs.Ranks.{report-below}
use Rattle.md_setting.specs.Auction.{SymmetricAuction, value_count}
use Rattle.md_setting.specs.AuctionShaped.{IsAuction}
use Rattle.md_setting.specs.Meaning.{agent_count, nobody, sizes_of}
use Rattle.md_setting.specs.Names.{type_names}
use Rattle.md_setting.specs.Setting.{Agent, GeneralSetting}
use Rattle.md_setting.specs.declared.file.SettingFile.{SettingFile}
use Rattle.md_setting.specs.declared.file.SettingFile.TheVariants.{General, Auction}
use Rattle.md_run.proofs.ReportLaws.{profile-from_reports}
use Rattle.md_cli_tell.specs.Drawing.{AreNamesOf, IsNameOf, IsNoName, sizes_in}

-- ---- one after the other

-- the first n texts name the reports that were found
pub record AreNamedBelow (file : SettingFile) (names : List (List ℕ)) (n : ℕ) (t : List ℕ) : Type 0 where
  pub length_is : length t ≡ n
  pub named : HoldsBelow n (λ i. IsNameOf file i (slice_index_or names i []) (slice_index t i))

module _ (file : SettingFile) (names : List (List ℕ)) where
  pub none-named : AreNamedBelow file names 0 []
  none-named = record { length_is = refl; named = record { holds = λ i b. absurd (omega arith) } }

  pub one-more : (n : ℕ) (t new : List ℕ) (k : ℕ) → AreNamedBelow file names n t → new ≡ t ++ k ∷ [] → IsNameOf file n (slice_index_or names n []) k
      → AreNamedBelow file names (n + 1) new
  one-more n t new k h is name =
      let same : (i : ℕ) → i < n → slice_index t i ≡ slice_index new i =
      λ i b. sym (ap (λ xs. slice_index xs i) is ∙ get_or-append t (k ∷ []) 0 i (omega (arith, h.length_is, b))) in
      let here : slice_index new n ≡ k =
      ap (λ xs. slice_index xs n) is ∙ ap (λ i. slice_index (t ++ k ∷ []) i) (sym h.length_is) ∙ get_or-append_seam t k [] 0 in
      let size : length new ≡ n + 1 = ap length is ∙ length-append t (k ∷ []) ∙ ap (λ m. m + 1) h.length_is in
      record {
        length_is = size;
        named = HoldsBelow-more (λ i. IsNameOf file i (slice_index_or names i []) (slice_index new i)) n
            (HoldsBelow-weaker (λ i. IsNameOf file i (slice_index_or names i []) (slice_index t i)) (λ i. IsNameOf file i (slice_index_or names i []) (slice_index new i)) n
            (λ i b c. subst (IsNameOf file i (slice_index_or names i [])) (same i b) c) h.named)
            (subst (IsNameOf file n (slice_index_or names n [])) (sym here) name);
      }

  -- all of them
  pub all-named : (n : ℕ) (t : List ℕ) → AreNamedBelow file names n t → n ≡ length (sizes_in file) → length names ≡ length (sizes_in file) → AreNamesOf file names t
  all-named n t h end one_each = record {
    profile = profile-from_reports (sizes_in file) t (h.length_is ∙ end) (record { holds = λ i b. (h.named.holds i (omega (arith, end, b))).0 });
    one_each = one_each;
    name = λ i b. (h.named.holds i (omega (arith, end, b))).1;
  }

  -- where one of them names no report, they are not the names of a profile
  pub no-name : (i : ℕ) → i < length (sizes_in file) → IsNoName file i (slice_index_or names i []) → (t : List ℕ) → AreNamesOf file names t → ⊥
  no-name i b none t h = none (slice_index t i) (report-below (sizes_in file) t i h.profile b) (h.name i b)

-- ---- one report

-- an agent of a general setting
pub agent-in : (s : GeneralSetting) (i : ℕ) → i < length (sizes_in (General s)) → i < agent_count s
agent-in s i b = omega (arith, b, length-map s.agents (λ (a : Agent). length a.types))

pub type-named : (s : GeneralSetting) (i : ℕ) (name : List ℕ) (r : Option ℕ) → i < agent_count s
    → IfSome r (λ k. (k < slice_index (sizes_of s) i) × (name ≡ slice_index_or (type_names s i) k []))
    → IsNone r ↔ (¬ Contains (type_names s i) name)
    → MatchOption r (IsNoName (General s) i name) (IsNameOf (General s) i name)
type-named s i name None b found none = λ k below same.
    let size : slice_index (sizes_of s) i ≡ length (type_names s i) = get_or-map (λ (a : Agent). length a.types) s.agents i nobody 0 b in
    none.0 refl (subst (Contains (type_names s i)) (sym same) (Contains-get_or (type_names s i) k [] (omega (arith, below, size))))
type-named s i name (Some k) b found none = found

-- a bidder
pub value-named : (a : SymmetricAuction) (i : ℕ) (name : List ℕ) (r : Option ℕ) → i < length (sizes_in (Auction a))
    → MatchOption r ((k : ℕ) → k < value_count a → name ≢ text_of (number_at a.values k)) (λ k. (k < value_count a) × (name ≡ text_of (number_at a.values k)))
    → MatchOption r (IsNoName (Auction a) i name) (IsNameOf (Auction a) i name)
value-named a i name None b found = λ k below same.
    found k (omega (arith, below, get_or-replicate a.bidders i (value_count a) 0 (omega (arith, b, length-replicate a.bidders (value_count a))))) same
value-named a i name (Some k) b found =
    (omega (arith, found.0, get_or-replicate a.bidders i (value_count a) 0 (omega (arith, b, length-replicate a.bidders (value_count a)))), found.1)

-- ---- the text of a value

small : (z : ℤ) → pos 0 ≤ℤ z → z ≤ℤ pos 1000000 → unsigned_abs z ≤ limit_of 62
small (pos n) from most = let fits : 1000000 ≤ limit_of 62 = lit≤ tt in omega (arith, ints, most, fits)
small (negsuc n) from most = absurd (omega (arith, ints, from))

small-value : (a : SymmetricAuction) (k : ℕ) → IsAuction a → k < value_count a → unsigned_abs (number_at a.values k) ≤ limit_of 62
small-value a k h b = small (number_at a.values k) (h.value k b).0 (h.value k b).1

module _ (a : SymmetricAuction) (text : List ℕ) (read : Result ℤ NumRefusal) (shaped : IsAuction a) (accepts : (w : ℤ) → text ≡ text_of w → unsigned_abs w ≤ limit_of 62 → read ≡ Ok w) where
  -- a number that was read is the value at a place
  pub value-placed : (z : ℤ) (r : Option ℕ) → read ≡ Ok z → text ≡ text_of z
      → MatchOption r ((k : ℕ) → k < value_count a → number_at a.values k ≢ z) (λ k. (k < value_count a) × (number_at a.values k ≡ z))
      → MatchOption r ((k : ℕ) → k < value_count a → text ≢ text_of (number_at a.values k)) (λ k. (k < value_count a) × (text ≡ text_of (number_at a.values k)))
  value-placed z None known is found = λ k b same.
      let other : read ≡ Ok (number_at a.values k) = accepts (number_at a.values k) same (small-value a k shaped b) in
      let one : number_at a.values k ≡ z = cc in
      found k b one
  value-placed z (Some k) known is found = (found.0, is ∙ ap text_of (sym found.1))

  -- a text that is no number is that of no value
  pub value-unread : (e : NumRefusal) → read ≡ Err e → (k : ℕ) → k < value_count a → text ≢ text_of (number_at a.values k)
  value-unread e known k b same =
      let other : read ≡ Ok (number_at a.values k) = accepts (number_at a.values k) same (small-value a k shaped b) in cc
