-- What a call answers: what the program says of the words and the two files.
use Rattle.std.specs.Prelude.{◌≡◌, ◌⊎◌, ℕ, List, [], Option, Some, length}
use Rattle.std.specs.Str.{IsUtf8}
use Rattle.md_cli_words.specs.Words.{command_of}
use Rattle.md_top.specs.Promises.{IsComplete, IsHeadlineOf}
use Rattle.md_top.specs.Reply.{IsSaid}
use Rattle.md_cli_driver.specs.Saying.{Saying, SinkChange, IsDelivered}
use Rattle.md_embed.specs.Files.{files_in}
use Rattle.md_embed.specs.Texts.{laid_in}
use Rattle.md_embed.specs.Words.{words_in}

-- a stream that was empty and holds a text, with no fault
abbrev pub grown : List ℕ → SinkChange
grown text = record { before = Some []; after = Some text; faults_before = 0; faults_after = 0 }

-- a command over files that are all there: what the program says of them, delivered, with all that it promises
pub record IsReplied (words : List (List ℕ)) (content : List ℕ → Option (List ℕ)) (status : ℕ) (out err : List ℕ) : Type 0 where
  pub saying : Saying
  pub said : IsSaid words content (λ _. 0) (λ _. 0) saying
  pub delivered : IsDelivered saying status (grown out) (grown err)
  pub headline : IsHeadlineOf (command_of words) content status (grown out)
  pub complete : IsComplete (command_of words) content (λ _. 0) (λ _. 0) status (grown out) (grown err)

-- nothing is said: the words are no text, or there is no memory
abbrev pub IsSilent : List ℕ → ℕ → Type 0
IsSilent words status = ((status ≡ 64) × ¬ IsUtf8 words) ⊎ (status ≡ 72)

-- the texts of a call
abbrev pub IsAnswered : List ℕ → List ℕ → List ℕ → ℕ → List ℕ → List ℕ → Type 0
IsAnswered words setting second status out err =
    IsReplied (words_in words) (files_in setting second) status out err
    ⊎ (IsSilent words status × ((out ≡ []) × (err ≡ [])))

-- a text was laid into a room, and its length was told
pub record IsLaid (text before after : List ℕ) (count : ℕ) : Type 0 where
  pub laid : after ≡ laid_in before text
  pub counted : count ≡ length text

pub record IsCalled (words setting second : List ℕ) (status : ℕ) (out_before out_after err_before err_after : List ℕ) (out_count err_count : ℕ) : Type 0 where
  pub out : List ℕ
  pub err : List ℕ
  pub answered : IsAnswered words setting second status out err
  pub out_laid : IsLaid out out_before out_after out_count
  pub err_laid : IsLaid err err_before err_after err_count
