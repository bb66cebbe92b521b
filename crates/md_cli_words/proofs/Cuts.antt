-- What clap's clauses say of a cut.
use Rattle.std.proofs.Common.{◌≡◌, ap, refl, true, List, [], ◌∷◌, ◌==◌, length, Some, None, if◌then◌else◌, arith}
use Rattle.std.proofs.lemmas.Bool.{and_parts}
use Rattle.clap.specs.Kinds.{Kinds}
use Rattle.clap.specs.Words.{App, Row, Text, is_simple, is_simple_and_free, fault_of, matches_of}
use Rattle.clap.specs.Faults.{is_free_app}
use Rattle.clap.specs.Simple.{built}
use Rattle.md_cli_words.specs.Forms.{arguments_of, app_of_form}
use Rattle.md_cli_words.specs.declared.form.Form.{Form}
use Rattle.md_cli_words.specs.declared.form.Form.TheVariants.{One, OneWidth, OneBasis, Two, TwoWidth, TwoUnits, NumberWidth, OneNumber, NumberDraw, Draws, Number}

-- each form's command is one of which clap states the matches and the faults
pub app_of_form-simple : (form : Form) → is_simple_and_free (app_of_form form) ≡ true
app_of_form-simple One = refl
app_of_form-simple OneWidth = refl
app_of_form-simple OneBasis = refl
app_of_form-simple Two = refl
app_of_form-simple TwoWidth = refl
app_of_form-simple TwoUnits = refl
app_of_form-simple NumberWidth = refl
app_of_form-simple OneNumber = refl
app_of_form-simple NumberDraw = refl
app_of_form-simple Draws = refl
app_of_form-simple Number = refl

-- such a command is simple
pub is_simple-free : (app : App) → is_simple_and_free app ≡ true → is_simple app ≡ true
is_simple-free app h = (and_parts (is_simple app) (is_free_app (built app)) h).0

-- the choice by an empty list of reasons
chosen : (kinds : Kinds) (found made : List Row) → kinds ≡ [] → found ≡ made → Some found ≡ (if length kinds == 0 then Some made else None)
chosen [] found made none same = ap Some same
chosen (kind ∷ kinds) found made none same = let bad : length (kind ∷ kinds) ≡ 0 = ap length none in absurd (omega (arith, bad))

-- rows that clap found, where it has no reason to refuse
pub arguments_of-taken : (app : App) (words : List Text) (found : List Row) → fault_of app words ≡ [] → found ≡ matches_of app words
    → Some found ≡ arguments_of app words
arguments_of-taken app words found none same = chosen (fault_of app words) found (matches_of app words) none same
