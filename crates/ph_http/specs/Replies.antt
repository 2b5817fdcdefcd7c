-- The bytes of a reply.
use Rattle.std.specs.Prelude.{ℕ, Bool, if◌then◌else◌, ◌==◌, List, [], ◌∷◌, ◌++◌, length, codes, option_map, unwrap_or}
use Rattle.std.specs.List.{find, list_any}
use Rattle.std.specs.Fmt.{decimal}
use Rattle.ph_http.specs.declared.message.Reply.{Reply}

-- the statuses of replies, and the reason that each is written with
abbrev pub reasons : List (ℕ × List ℕ)
reasons =
    (200, codes "OK")
    ∷ (400, codes "Bad Request")
    ∷ (401, codes "Unauthorized")
    ∷ (402, codes "Payment Required")
    ∷ (404, codes "Not Found")
    ∷ (409, codes "Conflict")
    ∷ (413, codes "Content Too Large")
    ∷ (431, codes "Request Header Fields Too Large")
    ∷ (500, codes "Internal Server Error")
    ∷ (501, codes "Not Implemented")
    ∷ (503, codes "Service Unavailable")
    ∷ (505, codes "HTTP Version Not Supported")
    ∷ []

-- the status is one of these
abbrev pub is_status : ℕ → Bool
is_status status = list_any (λ row. row.0 == status) reasons

-- the reason of a status
abbrev pub reason_of : ℕ → List ℕ
reason_of status = unwrap_or (option_map (λ row. row.1) (find (λ row. row.0 == status) reasons)) []

-- the end of a line
abbrev pub crlf : List ℕ
crlf = 13 ∷ 10 ∷ []

-- the line, where it applies
abbrev pub line_if : Bool → List ℕ → List ℕ
line_if applies line = if applies then line ++ crlf else []

-- the status line, and the line of the body's type
abbrev pub status_lines : ℕ → List ℕ
status_lines status =
    codes "HTTP/1.1 " ++ decimal status ++ codes " " ++ reason_of status ++ crlf
    ++ codes "Content-Type: application/json" ++ crlf

-- the line of the body's length
abbrev pub length_line : ℕ → List ℕ
length_line n = codes "Content-Length: " ++ decimal n ++ crlf

-- a reply as it is written, the last of its session or not
unfoldable pub rendered : Reply → Bool → List ℕ
rendered reply close =
    status_lines reply.status
    ++ length_line (length reply.body)
    ++ line_if reply.replayed (codes "Idempotent-Replayed: true")
    ++ line_if reply.retry (codes "Stripe-Should-Retry: true")
    ++ line_if close (codes "Connection: close")
    ++ crlf
    ++ reply.body
