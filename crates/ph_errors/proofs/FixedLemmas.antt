-- The bodies of errors that have a message and a type, and a code or none, computed from the table.
use Rattle.std.proofs.Common.{◌≡◌, ℕ, List, [], ◌∷◌, ◌++◌, map, true, codes, None, refl, ap, ◌∙◌, append_assoc}
use Rattle.std.specs.List.{join_with_byte}
use Rattle.json.specs.Print.{escape_byte}
use Rattle.ph_json.proofs.Plain.{is_plain, is_plain_byte, quoted-plain, by_key-plain}
use Rattle.ph_json.proofs.TextEquations.{text_of-Object, text_of-Text}
use Rattle.ph_json.specs.declared.doc.Doc.{Doc}
use Rattle.ph_json.specs.declared.doc.Doc.TheVariants.{Text, Object}
use Rattle.ph_json.specs.Text.{text_of, by_key, member_of, member_text}
use Rattle.ph_errors.specs.Body.{body_of, reasons_of, subjects_of}
use Rattle.ph_errors.specs.Table.{error_of, AcquirerPending, AcquirerFailed, NoMemory, HistoryFull, Malformed, BodyTooLarge, HeadTooLarge, NotImplemented, VersionNotSupported}

-- the text of an object whose members are these by their keys
object_text : (members : List (List ℕ × Doc)) (sorted : List (List ℕ × List ℕ)) → by_key (map member_of members) ≡ sorted
    → text_of (Object members) ≡ codes "{" ++ join_with_byte 44 (map member_text sorted) ++ codes "}"
object_text members sorted h = text_of-Object members ∙ ap (λ entries. codes "{" ++ join_with_byte 44 (map member_text entries) ++ codes "}") h

text_text : (text : List ℕ) → is_plain text ≡ true → text_of (Text text) ≡ 34 ∷ (text ++ 34 ∷ [])
text_text text h = text_of-Text text ∙ quoted-plain text h

-- an object with the one key `error`
error_text : (doc : Doc) → text_of (Object ((codes "error", doc) ∷ [])) ≡ codes "{\"error\":" ++ (text_of doc ++ codes "}")
unfolding is_plain_byte escape_byte
error_text doc =
    object_text ((codes "error", doc) ∷ []) ((codes "error", text_of doc) ∷ []) (by_key-plain ((codes "error", text_of doc) ∷ []) refl)

-- a text's end behind others
behind : (text middle rest last : List ℕ) → ((text ++ 34 ∷ []) ++ (middle ++ rest)) ++ last ≡ text ++ 34 ∷ (middle ++ (rest ++ last))
behind text middle rest last =
    append_assoc (text ++ 34 ∷ []) (middle ++ rest) last ∙ append_assoc text (34 ∷ []) ((middle ++ rest) ++ last)
    ∙ ap (λ more. text ++ 34 ∷ more) (append_assoc middle rest last)

behind_last : (text middle more last : List ℕ)
    → ((text ++ 34 ∷ []) ++ (middle ++ (more ++ 34 ∷ []))) ++ last ≡ text ++ 34 ∷ (middle ++ (more ++ 34 ∷ last))
behind_last text middle more last =
    behind text middle (more ++ 34 ∷ []) last ∙ ap (λ rest. text ++ 34 ∷ (middle ++ rest)) (append_assoc more (34 ∷ []) last)

-- a message and a type
bare_text : (message kind : List ℕ) → is_plain message ≡ true → is_plain kind ≡ true
    → text_of (Object ((codes "message", Text message) ∷ (codes "type", Text kind) ∷ []))
    ≡ codes "{\"message\":\"" ++ (message ++ (codes "\",\"type\":\"" ++ (kind ++ codes "\"}")))
unfolding is_plain_byte escape_byte
bare_text message kind h k =
    object_text ((codes "message", Text message) ∷ (codes "type", Text kind) ∷ []) ((codes "message", text_of (Text message)) ∷ (codes "type", text_of (Text kind)) ∷ [])
    (by_key-plain ((codes "message", text_of (Text message)) ∷ (codes "type", text_of (Text kind)) ∷ []) refl)
    ∙ rw (text_text message h, text_text kind k)
    (ap (λ rest. codes "{\"message\":\"" ++ rest) (behind_last message (codes ",\"type\":\"") kind (codes "}")))

-- a code, a message and a type
coded_text : (code message kind : List ℕ) → is_plain code ≡ true → is_plain message ≡ true → is_plain kind ≡ true
    → text_of (Object ((codes "code", Text code) ∷ (codes "message", Text message) ∷ (codes "type", Text kind) ∷ []))
    ≡ codes "{\"code\":\"" ++ (code ++ (codes "\",\"message\":\"" ++ (message ++ (codes "\",\"type\":\"" ++ (kind ++ codes "\"}")))))
unfolding is_plain_byte escape_byte
coded_text code message kind i h k =
    object_text ((codes "code", Text code) ∷ (codes "message", Text message) ∷ (codes "type", Text kind) ∷ [])
    ((codes "code", text_of (Text code)) ∷ (codes "message", text_of (Text message)) ∷ (codes "type", text_of (Text kind)) ∷ [])
    (by_key-plain ((codes "code", text_of (Text code)) ∷ (codes "message", text_of (Text message)) ∷ (codes "type", text_of (Text kind)) ∷ []) refl)
    ∙ rw (text_text code i, text_text message h, text_text kind k)
    (ap (λ rest. codes "{\"code\":\"" ++ rest)
    (behind code (codes ",\"message\":\"") ((message ++ 34 ∷ []) ++ (codes ",\"type\":\"" ++ (kind ++ 34 ∷ []))) (codes "}")
    ∙ ap (λ rest. code ++ 34 ∷ (codes ",\"message\":\"" ++ rest)) (behind_last message (codes ",\"type\":\"") kind (codes "}"))))

pub malformed_body : body_of (error_of Malformed) None ≡ codes "{\"error\":{\"message\":\"Malformed request.\",\"type\":\"invalid_request_error\"}}"
unfolding body_of reasons_of subjects_of error_of is_plain_byte escape_byte
malformed_body =
    error_text (Object ((codes "message", Text (codes "Malformed request.")) ∷ (codes "type", Text (codes "invalid_request_error")) ∷ []))
    ∙ ap (λ text. codes "{\"error\":" ++ (text ++ codes "}")) (bare_text (codes "Malformed request.") (codes "invalid_request_error") refl refl)

pub body_too_large_body : body_of (error_of BodyTooLarge) None ≡ codes "{\"error\":{\"message\":\"Body too large.\",\"type\":\"invalid_request_error\"}}"
unfolding body_of reasons_of subjects_of error_of is_plain_byte escape_byte
body_too_large_body =
    error_text (Object ((codes "message", Text (codes "Body too large.")) ∷ (codes "type", Text (codes "invalid_request_error")) ∷ []))
    ∙ ap (λ text. codes "{\"error\":" ++ (text ++ codes "}")) (bare_text (codes "Body too large.") (codes "invalid_request_error") refl refl)

pub head_too_large_body : body_of (error_of HeadTooLarge) None ≡ codes "{\"error\":{\"message\":\"Head too large.\",\"type\":\"invalid_request_error\"}}"
unfolding body_of reasons_of subjects_of error_of is_plain_byte escape_byte
head_too_large_body =
    error_text (Object ((codes "message", Text (codes "Head too large.")) ∷ (codes "type", Text (codes "invalid_request_error")) ∷ []))
    ∙ ap (λ text. codes "{\"error\":" ++ (text ++ codes "}")) (bare_text (codes "Head too large.") (codes "invalid_request_error") refl refl)

pub not_implemented_body : body_of (error_of NotImplemented) None ≡ codes "{\"error\":{\"message\":\"Not implemented.\",\"type\":\"invalid_request_error\"}}"
unfolding body_of reasons_of subjects_of error_of is_plain_byte escape_byte
not_implemented_body =
    error_text (Object ((codes "message", Text (codes "Not implemented.")) ∷ (codes "type", Text (codes "invalid_request_error")) ∷ []))
    ∙ ap (λ text. codes "{\"error\":" ++ (text ++ codes "}")) (bare_text (codes "Not implemented.") (codes "invalid_request_error") refl refl)

pub version_not_supported_body : body_of (error_of VersionNotSupported) None ≡ codes "{\"error\":{\"message\":\"HTTP version not supported.\",\"type\":\"invalid_request_error\"}}"
unfolding body_of reasons_of subjects_of error_of is_plain_byte escape_byte
version_not_supported_body =
    error_text (Object ((codes "message", Text (codes "HTTP version not supported.")) ∷ (codes "type", Text (codes "invalid_request_error")) ∷ []))
    ∙ ap (λ text. codes "{\"error\":" ++ (text ++ codes "}")) (bare_text (codes "HTTP version not supported.") (codes "invalid_request_error") refl refl)

pub acquirer_pending_body : body_of (error_of AcquirerPending) None ≡ codes "{\"error\":{\"code\":\"acquirer_pending\",\"message\":\"The acquirer has not answered yet.\",\"type\":\"api_error\"}}"
unfolding body_of reasons_of subjects_of error_of is_plain_byte escape_byte
acquirer_pending_body =
    error_text (Object ((codes "code", Text (codes "acquirer_pending")) ∷ (codes "message", Text (codes "The acquirer has not answered yet.")) ∷ (codes "type", Text (codes "api_error")) ∷ []))
    ∙ ap (λ text. codes "{\"error\":" ++ (text ++ codes "}")) (coded_text (codes "acquirer_pending") (codes "The acquirer has not answered yet.") (codes "api_error") refl refl refl)

pub acquirer_failed_body : body_of (error_of AcquirerFailed) None ≡ codes "{\"error\":{\"code\":\"acquirer_failed\",\"message\":\"The acquirer could not be reached.\",\"type\":\"api_error\"}}"
unfolding body_of reasons_of subjects_of error_of is_plain_byte escape_byte
acquirer_failed_body =
    error_text (Object ((codes "code", Text (codes "acquirer_failed")) ∷ (codes "message", Text (codes "The acquirer could not be reached.")) ∷ (codes "type", Text (codes "api_error")) ∷ []))
    ∙ ap (λ text. codes "{\"error\":" ++ (text ++ codes "}")) (coded_text (codes "acquirer_failed") (codes "The acquirer could not be reached.") (codes "api_error") refl refl refl)

pub no_memory_body : body_of (error_of NoMemory) None ≡ codes "{\"error\":{\"code\":\"no_memory\",\"message\":\"Out of memory.\",\"type\":\"api_error\"}}"
unfolding body_of reasons_of subjects_of error_of is_plain_byte escape_byte
no_memory_body =
    error_text (Object ((codes "code", Text (codes "no_memory")) ∷ (codes "message", Text (codes "Out of memory.")) ∷ (codes "type", Text (codes "api_error")) ∷ []))
    ∙ ap (λ text. codes "{\"error\":" ++ (text ++ codes "}")) (coded_text (codes "no_memory") (codes "Out of memory.") (codes "api_error") refl refl refl)

pub history_full_body : body_of (error_of HistoryFull) None ≡ codes "{\"error\":{\"code\":\"history_full\",\"message\":\"The history is full.\",\"type\":\"api_error\"}}"
unfolding body_of reasons_of subjects_of error_of is_plain_byte escape_byte
history_full_body =
    error_text (Object ((codes "code", Text (codes "history_full")) ∷ (codes "message", Text (codes "The history is full.")) ∷ (codes "type", Text (codes "api_error")) ∷ []))
    ∙ ap (λ text. codes "{\"error\":" ++ (text ++ codes "}")) (coded_text (codes "history_full") (codes "The history is full.") (codes "api_error") refl refl refl)
