-- The lines of replies.
use Rattle.std.specs.Prelude.{ℕ, List, [], ◌∷◌, codes}
use Rattle.std.specs.List.{flat_map}
use Rattle.std.specs.Fmt.{decimal}
use Rattle.hex.specs.Hex.{encode_lower}
use Rattle.ph_lines.specs.Fields.{line_text}
use Rattle.ph_replay.specs.declared.told.Told.{Told}

-- the fields of a reply's line: its place, its status, and the SHA-256 of its body in lower-case hexadecimal
abbrev pub reply_fields : Told → List (List ℕ)
reply_fields told = codes "reply" ∷ decimal told.place ∷ decimal told.status ∷ encode_lower told.digest ∷ []

-- a line for each reply
abbrev pub replies_text : List Told → List ℕ
replies_text replies = flat_map (λ told. line_text (reply_fields told)) replies
