-- A text that is written to, and laid into a room.
use Rattle.std.specs.Prelude.{ℕ, List, ◌++◌, length, take, drop}
use Rattle.md_embed.specs.declared.text.Text.{Text}

-- the bytes so far
abbrev pub held : Text → List ℕ
held text = text.bytes.items

-- how often there was no memory
abbrev pub count_of : Text → ℕ
count_of text = text.faults

-- what a room holds once a text was laid into it: the front of the text, and what was there behind it
abbrev pub laid_in : List ℕ → List ℕ → List ℕ
laid_in room text = take (length room) text ++ drop (length text) room
