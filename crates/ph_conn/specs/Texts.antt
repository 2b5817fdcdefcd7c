-- The texts that a session writes beside the replies of its book.
use Rattle.std.specs.Prelude.{ℕ, Bool, true, if◌then◌else◌, List, [], ◌++◌, codes, Option, Some, None}
use Rattle.ph_http.specs.Replies.{rendered, crlf}
use Rattle.ph_errors.specs.declared.fixed.Fixed.{Fixed}
use Rattle.ph_errors.specs.Fixed.{problem_of}
use Rattle.ph_errors.specs.Table.{error_of}
use Rattle.ph_book.specs.Replies.{error_reply}

-- the line that tells a client to send its body
unfoldable pub continue_line : List ℕ
continue_line = codes "HTTP/1.1 100 Continue" ++ crlf ++ crlf

-- the line, where the request waits for it
abbrev pub line_for : Bool → List ℕ
line_for continues = if continues then continue_line else []

-- a fixed error as the last reply of a session, which says that the session closes
unfoldable pub last_words : Fixed → List ℕ
last_words fixed = rendered (error_reply (error_of (problem_of fixed))) true

-- what stands behind the replies: nothing, or a fixed error
abbrev pub tail_text : Option Fixed → List ℕ
tail_text None = []
tail_text (Some fixed) = last_words fixed
