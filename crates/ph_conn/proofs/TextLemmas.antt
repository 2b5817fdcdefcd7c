-- The last words of a session: a head for each fixed error, with the length of its body.
use Rattle.std.proofs.Common.{◌≡◌, ℕ, Bool, true, false, List, ◌++◌, length, codes, None, refl, sym, ap, ◌∙◌}
use Rattle.std.specs.Fmt.{digits}
use Rattle.ph_http.specs.Replies.{rendered, status_lines, length_line, line_if, crlf}
use Rattle.ph_errors.specs.declared.api_error.ApiError.{ApiError}
use Rattle.ph_errors.specs.declared.fixed.Fixed.TheVariants as fixed
use Rattle.ph_errors.specs.Body.{body_of}
use Rattle.ph_errors.specs.Fixed.{problem_of}
use Rattle.ph_errors.specs.Table.{error_of}
use Rattle.ph_errors.proofs.FixedLemmas.{acquirer_pending_body, acquirer_failed_body, no_memory_body, history_full_body, malformed_body, body_too_large_body, head_too_large_body, not_implemented_body, version_not_supported_body}
use Rattle.ph_book.specs.Replies.{error_reply}
use Rattle.ph_conn.specs.Texts.{last_words}

-- the lines before a body of this length, in the last reply of a session
abbrev lines_before : ℕ → Bool → ℕ → List ℕ
lines_before status retry n =
    status_lines status ++ length_line n ++ line_if false (codes "Idempotent-Replayed: true") ++ line_if retry (codes "Stripe-Should-Retry: true")
    ++ line_if true (codes "Connection: close") ++ crlf

-- a head with the length of an error's body, and the body behind it
head_and_body : (error : ApiError) (head : List ℕ) (n : ℕ) → length (body_of error None) ≡ n → head ≡ lines_before error.status error.retry n
    → head ++ body_of error None ≡ rendered (error_reply error) true
unfolding rendered
head_and_body error head n long lines = ap (λ h. h ++ body_of error None) (lines ∙ ap (λ k. lines_before error.status error.retry k) (sym long))

pub acquirer_pending_words : codes "HTTP/1.1 500 Internal Server Error\r\nContent-Type: application/json\r\nContent-Length: 103\r\nStripe-Should-Retry: true\r\nConnection: close\r\n\r\n" ++ body_of (error_of (problem_of fixed.AcquirerPending)) None ≡ last_words fixed.AcquirerPending
unfolding last_words error_of digits
acquirer_pending_words = head_and_body (error_of (problem_of fixed.AcquirerPending)) (codes "HTTP/1.1 500 Internal Server Error\r\nContent-Type: application/json\r\nContent-Length: 103\r\nStripe-Should-Retry: true\r\nConnection: close\r\n\r\n") 103 (ap length acquirer_pending_body) refl

pub acquirer_failed_words : codes "HTTP/1.1 500 Internal Server Error\r\nContent-Type: application/json\r\nContent-Length: 102\r\nStripe-Should-Retry: true\r\nConnection: close\r\n\r\n" ++ body_of (error_of (problem_of fixed.AcquirerFailed)) None ≡ last_words fixed.AcquirerFailed
unfolding last_words error_of digits
acquirer_failed_words = head_and_body (error_of (problem_of fixed.AcquirerFailed)) (codes "HTTP/1.1 500 Internal Server Error\r\nContent-Type: application/json\r\nContent-Length: 102\r\nStripe-Should-Retry: true\r\nConnection: close\r\n\r\n") 102 (ap length acquirer_failed_body) refl

pub no_memory_words : codes "HTTP/1.1 503 Service Unavailable\r\nContent-Type: application/json\r\nContent-Length: 76\r\nConnection: close\r\n\r\n" ++ body_of (error_of (problem_of fixed.NoMemory)) None ≡ last_words fixed.NoMemory
unfolding last_words error_of digits
no_memory_words = head_and_body (error_of (problem_of fixed.NoMemory)) (codes "HTTP/1.1 503 Service Unavailable\r\nContent-Type: application/json\r\nContent-Length: 76\r\nConnection: close\r\n\r\n") 76 (ap length no_memory_body) refl

pub history_full_words : codes "HTTP/1.1 503 Service Unavailable\r\nContent-Type: application/json\r\nContent-Length: 85\r\nConnection: close\r\n\r\n" ++ body_of (error_of (problem_of fixed.HistoryFull)) None ≡ last_words fixed.HistoryFull
unfolding last_words error_of digits
history_full_words = head_and_body (error_of (problem_of fixed.HistoryFull)) (codes "HTTP/1.1 503 Service Unavailable\r\nContent-Type: application/json\r\nContent-Length: 85\r\nConnection: close\r\n\r\n") 85 (ap length history_full_body) refl

pub malformed_words : codes "HTTP/1.1 400 Bad Request\r\nContent-Type: application/json\r\nContent-Length: 73\r\nConnection: close\r\n\r\n" ++ body_of (error_of (problem_of fixed.Malformed)) None ≡ last_words fixed.Malformed
unfolding last_words error_of digits
malformed_words = head_and_body (error_of (problem_of fixed.Malformed)) (codes "HTTP/1.1 400 Bad Request\r\nContent-Type: application/json\r\nContent-Length: 73\r\nConnection: close\r\n\r\n") 73 (ap length malformed_body) refl

pub body_too_large_words : codes "HTTP/1.1 413 Content Too Large\r\nContent-Type: application/json\r\nContent-Length: 70\r\nConnection: close\r\n\r\n" ++ body_of (error_of (problem_of fixed.BodyTooLarge)) None ≡ last_words fixed.BodyTooLarge
unfolding last_words error_of digits
body_too_large_words = head_and_body (error_of (problem_of fixed.BodyTooLarge)) (codes "HTTP/1.1 413 Content Too Large\r\nContent-Type: application/json\r\nContent-Length: 70\r\nConnection: close\r\n\r\n") 70 (ap length body_too_large_body) refl

pub head_too_large_words : codes "HTTP/1.1 431 Request Header Fields Too Large\r\nContent-Type: application/json\r\nContent-Length: 70\r\nConnection: close\r\n\r\n" ++ body_of (error_of (problem_of fixed.HeadTooLarge)) None ≡ last_words fixed.HeadTooLarge
unfolding last_words error_of digits
head_too_large_words = head_and_body (error_of (problem_of fixed.HeadTooLarge)) (codes "HTTP/1.1 431 Request Header Fields Too Large\r\nContent-Type: application/json\r\nContent-Length: 70\r\nConnection: close\r\n\r\n") 70 (ap length head_too_large_body) refl

pub not_implemented_words : codes "HTTP/1.1 501 Not Implemented\r\nContent-Type: application/json\r\nContent-Length: 71\r\nConnection: close\r\n\r\n" ++ body_of (error_of (problem_of fixed.NotImplemented)) None ≡ last_words fixed.NotImplemented
unfolding last_words error_of digits
not_implemented_words = head_and_body (error_of (problem_of fixed.NotImplemented)) (codes "HTTP/1.1 501 Not Implemented\r\nContent-Type: application/json\r\nContent-Length: 71\r\nConnection: close\r\n\r\n") 71 (ap length not_implemented_body) refl

pub version_not_supported_words : codes "HTTP/1.1 505 HTTP Version Not Supported\r\nContent-Type: application/json\r\nContent-Length: 82\r\nConnection: close\r\n\r\n" ++ body_of (error_of (problem_of fixed.VersionNotSupported)) None ≡ last_words fixed.VersionNotSupported
unfolding last_words error_of digits
version_not_supported_words = head_and_body (error_of (problem_of fixed.VersionNotSupported)) (codes "HTTP/1.1 505 HTTP Version Not Supported\r\nContent-Type: application/json\r\nContent-Length: 82\r\nConnection: close\r\n\r\n") 82 (ap length version_not_supported_body) refl
