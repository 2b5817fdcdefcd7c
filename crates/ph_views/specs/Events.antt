-- The document of an event.
use Rattle.std.specs.Prelude.{ℕ, ◌==◌, if◌then◌else◌, pos, false, List, [], ◌∷◌, ◌++◌, Option, None, Some, codes}
use Rattle.ph_base.specs.declared.ids.Kind.TheVariants as kind
use Rattle.ph_items.specs.declared.events.Event.{Event}
use Rattle.ph_items.specs.Accounts.{platform}
use Rattle.ph_items.specs.Words.{event_text}
use Rattle.ph_json.specs.declared.doc.Doc.{Doc}
use Rattle.ph_json.specs.declared.doc.Doc.TheVariants.{Null, Truth, Number, Text, Object}
use Rattle.ph_json.specs.Values.{text_or_null, member_if}
use Rattle.ph_views.specs.Values.{moment_doc, printed_id}

-- the account that an event of a connected account names; an event of the platform names none
abbrev pub connected_doc : ℕ → Option Doc
connected_doc account = if account == platform then None else Some (Text (printed_id kind.Account account))

-- the request that made the event happen: its idempotency key, or null
abbrev pub request_doc : Option (List ℕ) → Doc
request_doc key = Object ((codes "id", Null) ∷ (codes "idempotency_key", text_or_null key) ∷ [])

-- which one, when, and of whom
unfoldable pub origin_members : ℕ → ℕ → ℕ → List (List ℕ × Doc)
origin_members created object account =
    (codes "created", moment_doc created)
    ∷ (codes "id", Text (printed_id kind.Event object))
    ∷ (codes "livemode", Truth false)
    ∷ (codes "object", Text (codes "event"))
    ∷ member_if (codes "account") (connected_doc account)

-- what happened, to which object and by which request; no deliveries are made yet
unfoldable pub news_members : Event → Doc → List (List ℕ × Doc)
news_members event subject =
    (codes "data", Object ((codes "object", subject) ∷ []))
    ∷ (codes "pending_webhooks", Number (pos 0))
    ∷ (codes "request", request_doc event.key)
    ∷ (codes "type", Text (event_text event.sort))
    ∷ []

-- the document of an event that happened at a moment, has a number, is of an account and tells of this object
unfoldable pub event_doc : ℕ → ℕ → ℕ → Event → Doc → Doc
event_doc created object account event subject =
    Object (origin_members created object account ++ news_members event subject)
