-- The text of a history as it is written: part by part.
use Rattle.std.specs.Prelude.{ℕ, List, ◌++◌, length}
use Rattle.std.specs.List.{flat_map}
use Rattle.ph_book.specs.declared.acts.Entry.{Entry}
use Rattle.ph_book.specs.declared.setup.Setup.{Setup}
use Rattle.ph_lines.specs.Fields.{line_text}
use Rattle.ph_history.specs.Text.{end_fields, entry_fields, header_fields, setup_fields}

-- the text of entries
abbrev pub entries_text : List Entry → List ℕ
entries_text entries = flat_map (λ entry. line_text (entry_fields entry)) entries

-- the first line, the setup's, those of the entries, and the last
unfoldable pub written_text : Setup → List Entry → List ℕ
written_text setup entries =
    line_text header_fields ++ (line_text (setup_fields setup) ++ (entries_text entries ++ line_text (end_fields (length entries))))
