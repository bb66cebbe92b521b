-- What is said of a command, from what came of it.
use Rattle.std.proofs.Common.{true, false, ◌≡◌, ◌≢◌, ◌<◌, ℕ, List, Option, Some, None, Err, refl, sym, subst, ap, ◌∙◌, inl, inr, arith}
use Rattle.std.specs.Prelude.{nat_lt, IsSome}
use Rattle.std.proofs.lemmas.Bool.Decides.{nat_tests}
use Rattle.md_cli_driver.specs.declared.refusal.Refusal.{Refusal}
use Rattle.md_cli_driver.specs.declared.refusal.Refusal.TheVariants as refusal
use Rattle.md_cli_driver.specs.Refused.{HasMadeLine, IsTold, refused, status_of}
use Rattle.md_top.specs.Reply.{IsReply, IsSaidBy, IsSaidOfOrder, work_of}
use Rattle.md_cli_driver.specs.Works.{IsCarriedOut, IsOutcome}
use Rattle.md_cli_driver.proofs.Works.{err_same}
use Rattle.md_cli_words.specs.Words.{Order}

-- want of memory is no fault
memory_fault : refusal.Memory ≢ refusal.ReadFault
memory_fault same = cc

-- ---- saying

-- words for which memory ran out before it was known what they ask for
pub said-no_memory : {A : Type 0} (named : Option A) (order : Option Order) (content : List ℕ → Option (List ℕ)) (faults : List ℕ → ℕ)
    → IsSome named → IsSaidBy named order content faults faults (refused refusal.Memory)
said-no_memory named None content faults is = (inr (refl, is), λ name. refl)
said-no_memory named (Some order) content faults is = inr (inr (refl, λ name. refl))

-- a text that was sent with an answer's status
pub answer_test : (status : ℕ) → status < 64 → nat_lt status 64 ≡ true
answer_test status below = grind (arith, nat_tests)

pub refusal_test : (e : Refusal) → nat_lt (status_of e) 64 ≡ false
refusal_test refusal.Usage = refl
refusal_test refusal.SettingTooLong = refl
refusal_test (refusal.Setting _) = refl
refusal_test refusal.OtherKind = refl
refusal_test refusal.NotASale = refl
refusal_test refusal.AnswerTooLong = refl
refusal_test (refusal.Answer _) = refl
refusal_test refusal.NoTable = refl
refusal_test (refusal.Pivot _) = refl
refusal_test refusal.Profile = refl
refusal_test refusal.Draw = refl
refusal_test refusal.Number = refl
refusal_test refusal.ReadFault = refl
refusal_test refusal.Memory = refl

-- a line that is made is not that of a fault
made-no_fault : (e : Refusal) → HasMadeLine e → e ≢ refusal.ReadFault
made-no_fault e made same = subst HasMadeLine same made

-- what is said of a command that was refused
pub said-refused : (order : Order) (content : List ℕ → Option (List ℕ)) (before after : List ℕ → ℕ) (e told : Refusal)
    → IsCarriedOut (work_of order) order.setting order.second content before after (Err e) → IsTold e told
    → IsSaidOfOrder order content before after (refused told)
said-refused order content before after e told carried (inl same) = by carried.outcome
  where
    by : IsOutcome (IsReply order content) (Err e) → IsSaidOfOrder order content before after (refused told)
    by (inl reply) = inl (subst (λ x. IsReply order content (refused x)) (sym same) reply.0, λ name. carried.quiet name (λ failed. reply.1 (err_same (Err e) e refusal.ReadFault refl failed)))
    by (inr (inl is_fault)) = inr (inl (ap refused (same ∙ is_fault), carried.fault (ap Err is_fault)))
    by (inr (inr is_memory)) =
        inr (inr (ap refused (same ∙ is_memory), λ name. carried.quiet name (λ failed. memory_fault (sym is_memory ∙ err_same (Err e) e refusal.ReadFault refl failed))))
said-refused order content before after e told carried (inr memory) = inr (inr (ap refused memory.0, λ name. carried.quiet name (λ failed. made-no_fault e memory.1 (err_same (Err e) e refusal.ReadFault refl failed))))
