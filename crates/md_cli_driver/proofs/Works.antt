-- What follows for a whole command from its parts.
use Rattle.std.proofs.Common.{◌≡◌, ◌≢◌, ◌<◌, ℕ, Bool, true, false, List, Option, Result, Ok, Err, refl, sym, subst, ap, ◌∙◌, inl, inr, arith}
use Rattle.std.specs.Prelude.{◌⊎◌, IfOk}
use Rattle.std.specs.Option.{ForSome}
use Rattle.md_setting.specs.declared.file.SettingFile.{SettingFile}
use Rattle.md_cli_driver.specs.declared.answered.Answered.{Answered}
use Rattle.md_cli_driver.specs.declared.refusal.Refusal.{Refusal}
use Rattle.md_cli_driver.specs.declared.refusal.Refusal.TheVariants as refusal
use Rattle.md_cli_driver.specs.Reading.{file_said, second_in, served_by, setting_in, and_then}
use Rattle.md_cli_driver.specs.Refused.{status_of}
use Rattle.md_cli_driver.specs.Saying.{Saying}
use Rattle.md_ports.specs.Faults.{Rose}
use Rattle.md_cli_driver.specs.Works.{HasFaultedIn, IsCarriedOut, no_file, two_files, IsOutcome, IsReplyToNone, IsReplyToOne, IsReplyToTwo, IsWorked, IsWorkedOn}

-- what was read is no refusal
pub read-not_refused : {T E : Type 0} (x : T) (e : E) → Ok x ≢ Err e
read-not_refused x e same = cc

-- a refusal with a status of its own is no fault of the shelf, and no want of memory
pub not_fault : (e : Refusal) (n : ℕ) → n < 70 → status_of e ≡ n → e ≢ refusal.ReadFault
not_fault e n below status same = let seventy : status_of e ≡ 70 = ap status_of same in absurd (omega (arith, status, seventy, below))

not_memory : (e : Refusal) (n : ℕ) → n < 70 → status_of e ≡ n → e ≢ refusal.Memory
not_memory e n below status same = let more : status_of e ≡ 72 = ap status_of same in absurd (omega (arith, status, more, below))

-- one error is not two
pub err_same : {X : Type 0} (r : Result X Refusal) (e d : Refusal) → r ≡ Err e → r ≡ Err d → e ≡ d
err_same r e d same other = cc

-- ---- the setting

module _ (serves : SettingFile → Bool) where
  -- a setting that the command serves
  pub setting-served : (file : SettingFile) (bytes : List ℕ) → file_said bytes ≡ Ok file → serves file ≡ true → setting_in serves bytes ≡ Ok file
  setting-served file bytes read fine = ap (λ r. and_then r (served_by serves)) read ∙ (rw fine refl)

  -- one that it does not serve
  pub setting-other : (file : SettingFile) (bytes : List ℕ) → file_said bytes ≡ Ok file → serves file ≡ false → setting_in serves bytes ≡ Err refusal.OtherKind
  setting-other file bytes read other = ap (λ r. and_then r (served_by serves)) read ∙ (rw other refl)

  -- a file that says none
  pub setting-refused : (e : Refusal) (bytes : List ℕ) → file_said bytes ≡ Err e → setting_in serves bytes ≡ Err e
  setting-refused e bytes read = ap (λ r. and_then r (served_by serves)) read

-- how a file is refused: a fault, want of memory, or a refusal with this status, which the definition gives
abbrev pub IsRefusedAs : {T : Type 0} → (List ℕ → Result T Refusal) → Option (List ℕ) → ℕ → Refusal → Type 0
IsRefusedAs reading content status e =
    (e ≡ refusal.ReadFault) ⊎ ((e ≡ refusal.Memory) ⊎ ((status_of e ≡ status) × ForSome content (λ bytes. reading bytes ≡ Err e)))

-- from what a call tells of its refusal
pub refused-as : {T : Type 0} (reading : List ℕ → Result T Refusal) (content : Option (List ℕ)) (status : ℕ) (e : Refusal) → status < 70
    → ForSome content (λ bytes. e ≢ refusal.ReadFault → e ≢ refusal.Memory → reading bytes ≡ Err e)
    → (e ≡ refusal.ReadFault) ⊎ ((e ≡ refusal.Memory) ⊎ (status_of e ≡ status)) → IsRefusedAs reading content status e
refused-as reading content status e below follows (inl fault) = inl fault
refused-as reading content status e below follows (inr (inl memory)) = inr (inl memory)
refused-as reading content status e below follows (inr (inr own)) =
    inr (inr (own, λ bytes told. follows bytes told (not_fault e status below own) (not_memory e status below own)))

-- ---- the work

-- work on files that were read meets no fault of the shelf
pub worked-no_fault : (Says : Saying → Type 0) (IsOwn : ℕ → Type 0) (result : Result Answered Refusal) → IsWorked Says IsOwn result → result ≢ Err refusal.ReadFault
worked-no_fault Says IsOwn (Ok answered) h failed = cc
worked-no_fault Says IsOwn (Err e) (inl memory) failed = let same : e ≡ refusal.ReadFault = cc in absurd (let both : refusal.Memory ≡ refusal.ReadFault = sym memory ∙ same in cc)
worked-no_fault Says IsOwn (Err e) (inr worked) failed = not_fault e 67 (omega arith) worked.1.1 (let same : e ≡ refusal.ReadFault = cc in same)

-- the same of work on files
refused-no_fault : (IsOwn : ℕ → Type 0) (refusing : ℕ) (e : Refusal) → refusing < 70 → (IsOwn 67 × (status_of e ≡ 67)) ⊎ (status_of e ≡ refusing) → e ≢ refusal.ReadFault
refused-no_fault IsOwn refusing e below (inl h) = not_fault e 67 (omega arith) h.1
refused-no_fault IsOwn refusing e below (inr h) = not_fault e refusing below h

pub on-no_fault : (refusing : ℕ) (Says : Saying → Type 0) (IsOwn : ℕ → Type 0) (result : Result Answered Refusal) → refusing < 70 → IsWorkedOn refusing Says IsOwn result → result ≢ Err refusal.ReadFault
on-no_fault refusing Says IsOwn (Ok answered) below h failed = cc
on-no_fault refusing Says IsOwn (Err e) below (inl memory) failed = let same : e ≡ refusal.ReadFault = cc in absurd (let both : refusal.Memory ≡ refusal.ReadFault = sym memory ∙ same in cc)
on-no_fault refusing Says IsOwn (Err e) below (inr worked) failed = refused-no_fault IsOwn refusing e below worked.1 (let same : e ≡ refusal.ReadFault = cc in same)

-- the statuses of answers lie below 64
pub worked-status : (Says : Saying → Type 0) (IsOwn : ℕ → Type 0) (result : Result Answered Refusal) → IsWorked Says IsOwn result → IfOk result (λ answered. answered.status < 64)
worked-status Says IsOwn (Ok answered) h = h.1.1
worked-status Says IsOwn (Err e) h = tt

pub on-status : (refusing : ℕ) (Says : Saying → Type 0) (IsOwn : ℕ → Type 0) (result : Result Answered Refusal) → IsWorkedOn refusing Says IsOwn result → IfOk result (λ answered. answered.status < 64)
on-status refusing Says IsOwn (Ok answered) h = h.1.1
on-status refusing Says IsOwn (Err e) h = tt

-- a refusal has a status of the command's own, or that of the file
refused-own : (IsOwn : ℕ → Type 0) (refusing : ℕ) (e : Refusal) → (IsOwn 67 × (status_of e ≡ 67)) ⊎ (status_of e ≡ refusing) → IsOwn (status_of e) ⊎ (status_of e ≡ refusing)
refused-own IsOwn refusing e (inl h) = inl (subst IsOwn (sym h.1) h.0)
refused-own IsOwn refusing e (inr h) = inr h

-- it is not that of a setting
not_of_setting : (IsOwn : ℕ → Type 0) (e : Refusal) → (IsOwn 67 × (status_of e ≡ 67)) ⊎ (status_of e ≡ 66) → status_of e ≢ 65
not_of_setting IsOwn e (inl h) same = absurd (omega (arith, same, h.1))
not_of_setting IsOwn e (inr h) same = absurd (omega (arith, same, h))

-- ---- no file

module _ (P : Saying → Type 0) (IsOwn : ℕ → Type 0) where
  none-worked : (result : Result Answered Refusal) → IsWorked P IsOwn result → IsOutcome (IsReplyToNone P IsOwn) result
  none-worked (Ok answered) worked = record { status = worked.1.0; said_of = worked.0 }
  none-worked (Err e) (inl memory) = inr (inr memory)
  none-worked (Err e) (inr worked) =
      inl (record { status = subst IsOwn (sym worked.1.1) worked.1.0; said_of = worked.0 }, not_fault e 67 (omega arith) worked.1.1)

  pub none-carried_out : (a b : List ℕ) (content : List ℕ → Option (List ℕ)) (faults : List ℕ → ℕ) (result : Result Answered Refusal) → IsWorked P IsOwn result
      → IsCarriedOut (no_file P IsOwn) a b content faults faults result
  none-carried_out a b content faults result worked = record {
    outcome = none-worked result worked;
    fault = worked-no_fault P IsOwn result worked;
    quiet = λ n _. refl;
    status = worked-status P IsOwn result worked;
  }

-- ---- one file

module _ (serves : SettingFile → Bool) (P : SettingFile → Saying → Type 0) (IsOwn : ℕ → Type 0) (a : List ℕ) (content : List ℕ → Option (List ℕ)) where
  pub one-refused : (e : Refusal) → IsRefusedAs (setting_in serves) (content a) 65 e → IsOutcome (IsReplyToOne serves P IsOwn a content) (Err e)
  one-refused e (inl fault) = inr (inl fault)
  one-refused e (inr (inl memory)) = inr (inr memory)
  one-refused e (inr (inr own)) =
      inl (record { status = inr own.0; said_of = λ bytes told. rw (own.1 bytes told) refl }, not_fault e 65 (omega arith) own.0)

  pub one-worked : (file : SettingFile) (result : Result Answered Refusal) → ForSome (content a) (λ bytes. setting_in serves bytes ≡ Ok file)
      → IsWorkedOn 65 (P file) IsOwn result → IsOutcome (IsReplyToOne serves P IsOwn a content) result
  one-worked file (Ok answered) read worked = record { status = inl worked.1.0; said_of = λ bytes told. rw (read bytes told) worked.0 }
  one-worked file (Err e) read (inl memory) = inr (inr memory)
  one-worked file (Err e) read (inr worked) =
      inl (record { status = refused-own IsOwn 65 e worked.1; said_of = λ bytes told. rw (read bytes told) worked.0 }, refused-no_fault IsOwn 65 e (omega arith) worked.1)

-- ---- two files

module _ {T : Type 0} (serves : SettingFile → Bool) (reading : SettingFile → List ℕ → Result T Refusal) (P : SettingFile → T → Saying → Type 0) (IsOwn : ℕ → Type 0) (a b : List ℕ) (content : List ℕ → Option (List ℕ)) where
  pub two-refused : (e : Refusal) → IsRefusedAs (setting_in serves) (content a) 65 e → IsOutcome (IsReplyToTwo serves reading P IsOwn a b content) (Err e)
  two-refused e (inl fault) = inr (inl fault)
  two-refused e (inr (inl memory)) = inr (inr memory)
  two-refused e (inr (inr own)) =
      inl (record { status = inr (inl own.0); said_of = λ bytes told. rw (own.1 bytes told) refl }, not_fault e 65 (omega arith) own.0)

  module _ (file : SettingFile) (read : ForSome (content a) (λ bytes. setting_in serves bytes ≡ Ok file)) where
    pub two-second_refused : (e : Refusal) → IsRefusedAs (second_in (reading file)) (content b) 66 e → IsOutcome (IsReplyToTwo serves reading P IsOwn a b content) (Err e)
    two-second_refused e (inl fault) = inr (inl fault)
    two-second_refused e (inr (inl memory)) = inr (inr memory)
    two-second_refused e (inr (inr own)) =
        inl (
          record {
            status = inr (inr own.0);
            said_of = λ bytes told. rw (read bytes told) (λ same. absurd (omega (arith, same, own.0)), λ more told_too. rw (own.1 more told_too) refl);
          },
          not_fault e 66 (omega arith) own.0,
        )

    pub two-worked : (x : T) (result : Result Answered Refusal) → ForSome (content b) (λ bytes. second_in (reading file) bytes ≡ Ok x)
        → IsWorkedOn 66 (P file x) IsOwn result → IsOutcome (IsReplyToTwo serves reading P IsOwn a b content) result
    two-worked x (Ok answered) second worked =
        record {
          status = inl worked.1.0;
          said_of = λ bytes told. rw (read bytes told) (λ same. absurd (omega (arith, same, worked.1.1)), λ more told_too. rw (second more told_too) worked.0);
        }
    two-worked x (Err e) second (inl memory) = inr (inr memory)
    two-worked x (Err e) second (inr worked) =
        inl (
          record {
            status = own (refused-own IsOwn 66 e worked.1);
            said_of = λ bytes told. rw (read bytes told) (not_of_setting IsOwn e worked.1, λ more told_too. rw (second more told_too) worked.0);
          },
          refused-no_fault IsOwn 66 e (omega arith) worked.1,
        )
      where
        own : IsOwn (status_of e) ⊎ (status_of e ≡ 66) → IsOwn (status_of e) ⊎ ((status_of e ≡ 65) ⊎ (status_of e ≡ 66))
        own (inl h) = inl h
        own (inr h) = inr (inr h)

    -- the second file, whose faults are those that no setting file explains
    module _ (before mid after : List ℕ → ℕ) (quiet : (n : List ℕ) → mid n ≡ before n) where
      faulted : Rose (mid b) (after b) → HasFaultedIn (two_files T serves reading P IsOwn) a b content before after
      faulted rose = inr (subst (λ n. Rose n (after b)) (quiet b) rose, λ bytes told. rw (read bytes told) refl)

      -- it is refused, or not read
      pub second-refused : (e : Refusal) → ForSome (content b) (λ all. e ≢ refusal.ReadFault → e ≢ refusal.Memory → second_in (reading file) all ≡ Err e)
          → (e ≡ refusal.ReadFault) ⊎ ((e ≡ refusal.Memory) ⊎ (status_of e ≡ 66))
          → (e ≡ refusal.ReadFault → Rose (mid b) (after b))
          → ((n : List ℕ) → e ≢ refusal.ReadFault → after n ≡ mid n)
          → IsCarriedOut (two_files T serves reading P IsOwn) a b content before after (Err e)
      second-refused e follows errors rose still = record {
        outcome = two-second_refused e (refused-as (second_in (reading file)) (content b) 66 e (omega arith) follows errors);
        fault = λ failed. faulted (rose (err_same (Err e) e refusal.ReadFault refl failed));
        quiet = λ n fine. still n (λ same. fine (ap Err same)) ∙ quiet n;
        status = tt;
      }

      -- the work on both
      pub both-worked : (x : T) → ForSome (content b) (λ all. second_in (reading file) all ≡ Ok x) → ((n : List ℕ) → after n ≡ mid n)
          → (result : Result Answered Refusal) → IsWorkedOn 66 (P file x) IsOwn result
          → IsCarriedOut (two_files T serves reading P IsOwn) a b content before after result
      both-worked x second still result worked = record {
        outcome = two-worked x result second worked;
        fault = λ failed. absurd (on-no_fault 66 (P file x) IsOwn result (omega arith) worked failed);
        quiet = λ n fine. still n ∙ quiet n;
        status = on-status 66 (P file x) IsOwn result worked;
      }
