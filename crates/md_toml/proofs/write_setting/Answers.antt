use Rattle.std.proofs.Common.{◌≡◌, ℕ, Vec, Global, Ok, sym, subst, string_bytes}
use Rattle.std.proofs.lemmas.Str.{is_utf8-from_IsUtf8, IsUtf8-string_bytes}
use Rattle.toml.specs.View.{table_view}
use Rattle.md_toml.specs.Document.{document_of}
use Rattle.md_toml.specs.Writing.{file_table}
use Rattle.md_toml.proofs.WritingLaws.{text_back, text_document}
use Rattle.md_toml.proofs.write_setting.Goals as goal

pub returns-in-Ok : goal.returns-in-Ok
returns-in-Ok c =
    let file = c.args.file.now in
    let document : document_of (string_bytes c.in-Ok.text) ≡ Ok (file_table file) =
    text_document file (string_bytes c.in-Ok.text) (table_view c.in_ok-members.members) (is_utf8-from_IsUtf8 (string_bytes c.in-Ok.text) (IsUtf8-string_bytes c.in-Ok.text))
    c.in_ok-members.ensures.members c.in-Ok.ensures.reads_back in
    let written : document_of c.into_bytes.result.items ≡ Ok (file_table file) =
    subst (λ (bytes : Vec ℕ Global). document_of bytes.items ≡ Ok (file_table file)) (sym c.into_bytes.ensures.value) document in
    record {
      reads_back = text_back file c.into_bytes.result.items c.in_ok-members.ensures.accepted written;
      document = written;
    }
