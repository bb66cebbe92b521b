-- What is said of a setting that was made, solved and checked.
use Rattle.std.proofs.Common.{◌≡◌, ℕ, true, List, [], Some, Result, Ok, Err, sym, ap, subst, inl, inr, refl}
use Rattle.std.specs.Prelude.{◌⊎◌}
use Rattle.md_setting.specs.Auction.{SymmetricAuction}
use Rattle.md_setting.specs.Setting.{GeneralSetting}
use Rattle.md_setting.specs.ByKind.{has_no_groups}
use Rattle.md_setting.specs.declared.file.SettingFile.{SettingFile}
use Rattle.md_gen.specs.Generated.{IsGenerated}
use Rattle.md_setting.specs.declared.file.SettingFile.TheVariants.{General, Auction, Bidders}
use Rattle.md_answer.specs.Answers.{answer_of}
use Rattle.md_answer.specs.AuctionAnswers.{auction_answer_of}
use Rattle.md_answer.specs.declared.answer.Answer.{Answer}
use Rattle.md_answer.specs.declared.answer.Answer.TheVariants.{Table, Optimal, Infeasible, Unbounded, AuctionOptimal, TooWide}
use Rattle.md_answer.specs.declared.supply.Supply.TheVariants.{Item}
use Rattle.md_parts.specs.declared.refusal.AnswerRefusal.{AnswerRefusal}
use Rattle.md_check.specs.AuctionVerdicts.{IsAuctionVerdict}
use Rattle.md_check.specs.FileVerdicts.{IsVerdictOn}
use Rattle.md_check.specs.Verdicts.{IsVerdict}
use Rattle.md_question_check.specs.declared.verdict.Verdict.{Verdict}
use Rattle.md_question_check.specs.declared.verdict.Verdict.TheVariants.{Valid}
use Rattle.md_check.proofs.AuctionLaws.{if_sound}
use Rattle.md_check.proofs.VerdictLaws.{sound-valid}
use Rattle.md_cli_best.specs.AuctionHeadline.{IsAuctionHeadline}
use Rattle.md_cli_driver.specs.Reading.{answer_in, answer_or_refusal}
use Rattle.md_cli_best.specs.Drilling.{IsReadable, sure_verdict}
use Rattle.md_cli_best.specs.Headline.{IsHeadline, IsSolveStatus}
use Rattle.md_cli_driver.specs.Saying.{Saying}
use Rattle.md_cli_best.specs.Solving.{IsSolve}

-- a text says one answer
one_answer : {E : Type 0} (r : Result Answer E) (x y : Answer) → r ≡ Ok x → r ≡ Ok y → x ≡ y
one_answer r x y same other = cc

read-answer : (r : Result Answer AnswerRefusal) (answer : Answer) → answer_or_refusal r ≡ Ok answer → r ≡ Ok answer
read-answer (Ok x) answer h = let same : x ≡ answer = cc in ap Ok same
read-answer (Err e) answer h = absurd (let other = h in cc)

-- ---- general settings

module _ (s : GeneralSetting) where
  -- where the checker may find an answer valid, it finds nothing else
  only-valid : (answer : Answer) (v : Verdict) → IsVerdict s answer Valid → IsVerdict s answer v → v ≡ Valid
  only-valid (Table m) v valid judged = absurd (let other = valid in cc)
  only-valid (Optimal value m bound) v valid judged =
      sound-valid s valid.2.program (Optimal value m bound) v valid.2.is_program judged
      (record { admissible = valid.0.admitted; value = valid.0.value; certified = valid.2.holds valid.2.program valid.2.is_program })
  only-valid (Infeasible face) v valid judged =
      sound-valid s valid.program (Infeasible face) v valid.is_program judged (valid.holds valid.program valid.is_program)
  only-valid (Unbounded m ray) v valid judged =
      sound-valid s valid.2.program (Unbounded m ray) v valid.2.is_program judged
      (record { admissible = valid.0; certified = valid.2.holds valid.2.program valid.2.is_program })
  only-valid (AuctionOptimal value interim masses cuts bound) v valid judged = absurd valid
  only-valid (TooWide cuts first second) v valid judged = absurd (let other = valid in cc)

  module _ (width status : ℕ) (text : List ℕ) (h : IsHeadline s width status text) where
    -- what is printed says an answer
    general-readable : (answer : Answer) × (answer_of s text ≡ Ok answer)
    general-readable = by h.one_of
      where
        by : IsSolveStatus status → (answer : Answer) × (answer_of s text ≡ Ok answer)
        by (inl is) = let p = h.optimal is in (Optimal p.value p.mechanism p.bound, p.read_back)
        by (inr (inl is)) = let p = h.infeasible is in (Infeasible p.face, p.read_back)
        by (inr (inr (inl is))) = let p = h.unbounded is in (Unbounded p.mechanism p.ray, p.read_back)
        by (inr (inr (inr is))) = let p = h.too_wide is in (TooWide [] p.first (Some p.second), p.read_back)

    -- the verdict on it is sure
    general-sure : (answer : Answer) (v : Verdict) → answer_of s text ≡ Ok answer → IsVerdict s answer v → v ≡ sure_verdict answer
    general-sure answer v read judged = by h.one_of
      where
        known : (other : Answer) → answer_of s text ≡ Ok other → (IsVerdict s other v → v ≡ sure_verdict other) → v ≡ sure_verdict answer
        known other there so =
            let same : answer ≡ other = one_answer (answer_of s text) answer other read there in
            subst (λ x. v ≡ sure_verdict x) (sym same) (so (subst (λ x. IsVerdict s x v) same judged))

        by : IsSolveStatus status → v ≡ sure_verdict answer
        by (inl is) = let p = h.optimal is in known (Optimal p.value p.mechanism p.bound) p.read_back (only-valid (Optimal p.value p.mechanism p.bound) v p.valid)
        by (inr (inl is)) = let p = h.infeasible is in known (Infeasible p.face) p.read_back (only-valid (Infeasible p.face) v p.valid)
        by (inr (inr (inl is))) = let p = h.unbounded is in known (Unbounded p.mechanism p.ray) p.read_back (only-valid (Unbounded p.mechanism p.ray) v p.valid)
        by (inr (inr (inr is))) = let p = h.too_wide is in known (TooWide [] p.first (Some p.second)) p.read_back (λ undecided. undecided)

-- ---- auctions

module _ (a : SymmetricAuction) where
  only-valid_auction : (answer : Answer) (v : Verdict) → IsAuctionVerdict a answer Valid → IsAuctionVerdict a answer v → v ≡ Valid
  only-valid_auction (Table m) v valid judged = absurd valid
  only-valid_auction (Optimal value m bound) v valid judged = absurd valid
  only-valid_auction (Infeasible face) v valid judged = absurd valid
  only-valid_auction (Unbounded m ray) v valid judged = absurd valid
  only-valid_auction (AuctionOptimal value interim masses cuts bound) v valid judged =
      if_sound Item a (AuctionOptimal value interim masses cuts bound) (Ok v) judged valid.1.program
      (record {
        add_up = valid.0.add_up;
        is_program = valid.1.is_program;
        worth = valid.0.worth;
        certified = valid.1.holds valid.1.program valid.1.is_program;
      })
  only-valid_auction (TooWide cuts first second) v valid judged = absurd (let other = valid in cc)

  module _ (width status : ℕ) (text : List ℕ) (h : IsAuctionHeadline a width status text) where
    auction-readable : (answer : Answer) × (auction_answer_of a text ≡ Ok answer)
    auction-readable = by h.one_of
      where
        by : (status ≡ 0) ⊎ (status ≡ 12) → (answer : Answer) × (auction_answer_of a text ≡ Ok answer)
        by (inl is) = let p = h.optimal is in (AuctionOptimal p.value p.interim p.masses p.cuts p.bound, p.read_back)
        by (inr is) = let p = h.too_wide is in (TooWide p.cuts p.first (Some p.second), p.read_back)

    auction-sure : (answer : Answer) (v : Verdict) → auction_answer_of a text ≡ Ok answer → IsAuctionVerdict a answer v → v ≡ sure_verdict answer
    auction-sure answer v read judged = by h.one_of
      where
        known : (other : Answer) → auction_answer_of a text ≡ Ok other → (IsAuctionVerdict a other v → v ≡ sure_verdict other) → v ≡ sure_verdict answer
        known other there so =
            let same : answer ≡ other = one_answer (auction_answer_of a text) answer other read there in
            subst (λ x. v ≡ sure_verdict x) (sym same) (so (subst (λ x. IsAuctionVerdict a x v) same judged))

        by : (status ≡ 0) ⊎ (status ≡ 12) → v ≡ sure_verdict answer
        by (inl is) =
            let p = h.optimal is in
            known (AuctionOptimal p.value p.interim p.masses p.cuts p.bound) p.read_back (only-valid_auction (AuctionOptimal p.value p.interim p.masses p.cuts p.bound) v p.valid)
        by (inr is) = let p = h.too_wide is in known (TooWide p.cuts p.first (Some p.second)) p.read_back (λ undecided. undecided)

-- ---- both

-- what `solve` says of a setting says an answer
pub readable : (file : SettingFile) (width : ℕ) (saying : Saying) → IsSolve width file saying → IsReadable file saying.text
readable (General s) width saying h = let there = general-readable s width saying.status saying.text h.headline in (there.0, ap answer_or_refusal there.1)
readable (Auction a) width saying h = let there = auction-readable a width saying.status saying.text h.headline in (there.0, ap answer_or_refusal there.1)
readable (Bidders a) width saying h = absurd h

-- the verdict on it is sure
pub sure : (file : SettingFile) (width : ℕ) (saying : Saying) (answer : Answer) (v : Verdict) → IsSolve width file saying → answer_in file saying.text ≡ Ok answer
    → IsVerdictOn file answer v → v ≡ sure_verdict answer
sure (General s) width saying answer v h read judged =
    general-sure s width saying.status saying.text h.headline answer v (read-answer (answer_of s saying.text) answer read) judged
sure (Auction a) width saying answer v h read judged =
    auction-sure a width saying.status saying.text h.headline answer v (read-answer (auction_answer_of a saying.text) answer read) judged
sure (Bidders a) width saying answer v h read judged = absurd h

-- no setting that is made has groups of bidders
pub made_without_groups : (number : ℕ) (file : SettingFile) → IsGenerated number file → has_no_groups file ≡ true
made_without_groups number (General s) h = refl
made_without_groups number (Auction a) h = refl
made_without_groups number (Bidders a) h = absurd h
