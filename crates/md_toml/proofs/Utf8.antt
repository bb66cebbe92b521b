-- The test of UTF-8 beside the fact that it tests.
use Rattle.std.proofs.Common.{◌≡◌, ℕ, List, false, IsUtf8, inl, inr}
use Rattle.std.specs.Str.{is_utf8}
use Rattle.std.proofs.lemmas.Str.{IsUtf8-from_is_utf8, is_utf8-from_IsUtf8}
use Rattle.std.proofs.lemmas.Bool.{cases_Bool}

pub is_utf8-not : (bytes : List ℕ) → ¬ (IsUtf8 bytes) → is_utf8 bytes ≡ false
is_utf8-not bytes not_text = elim (cases_Bool (is_utf8 bytes)) [
  | inl holds ↦ absurd (not_text (IsUtf8-from_is_utf8 bytes holds))
  | inr fails ↦ fails
]

pub ruleset text_tests = (is_utf8-not, is_utf8-from_IsUtf8)
