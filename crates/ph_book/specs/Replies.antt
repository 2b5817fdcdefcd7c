-- Replies, and what is said to an entry.
use Rattle.std.specs.Prelude.{ℕ, true, false, List, [], ◌∷◌, Option, Some, None, codes}
use Rattle.ph_base.specs.declared.acquirer.Decline.{Decline}
use Rattle.ph_base.specs.declared.acquirer.Ruling.{Ruling}
use Rattle.ph_base.specs.declared.acquirer.Ruling.TheVariants as ruling
use Rattle.ph_base.specs.declared.acquirer.Why.{Why}
use Rattle.ph_base.specs.declared.acquirer.Why.TheVariants as why
use Rattle.ph_items.specs.declared.orders.Order.{Order}
use Rattle.ph_rows.specs.declared.rows.Row.{Row}
use Rattle.ph_rows.specs.Batches.{BatchState, version_with}
use Rattle.ph_errors.specs.declared.api_error.ApiError.{ApiError}
use Rattle.ph_errors.specs.Table.{Problem, AcquirerPending, AcquirerFailed, CardDeclined, NoMemory, NoSuchObject, error_of}
use Rattle.ph_errors.specs.Body.{body_of}
use Rattle.ph_http.specs.declared.message.Reply.{Reply}
use Rattle.ph_idem.specs.declared.key_record.Saved.{Saved}
use Rattle.ph_facts.specs.Outcomes.{Outcome, Refuses, Adds}
use Rattle.ph_json.specs.declared.doc.Doc.{Doc}
use Rattle.ph_json.specs.Text.{text_of}
use Rattle.ph_views.specs.Objects.{object_doc, object_text}

-- the reply of an error, with the document of a payment intent inside or none
abbrev pub error_reply_with : ApiError → Option Doc → Reply
error_reply_with error intent = record { status = error.status; body = body_of error intent; replayed = false; retry = error.retry }

-- the reply of an error
abbrev pub error_reply : ApiError → Reply
error_reply error = error_reply_with error None

-- a reply that was saved, given once more
abbrev pub replayed_reply : Saved → Reply
replayed_reply saved = record { status = saved.status; body = saved.body; replayed = true; retry = false }

-- an object that isn't there
abbrev pub nothing_reply : Reply
nothing_reply = error_reply (error_of (NoSuchObject (codes "id")))

-- the reply that shows a text
abbrev pub text_reply : List ℕ → Reply
text_reply text = record { status = 200; body = text; replayed = false; retry = false }

-- the reply that shows a document
abbrev pub doc_reply : Doc → Reply
doc_reply doc = text_reply (text_of doc)

-- the reply that shows a version of an object at a time over the rows of a history; an object that isn't there is no such object
abbrev pub version_reply : ℕ → List Row → Option Row → Reply
version_reply now rows None = nothing_reply
version_reply now rows (Some row) = text_reply (object_text now rows row)

-- the reply that shows what an outcome shows, over the rows before it
abbrev pub shown_reply : ℕ → List Row → ℕ → BatchState → Reply
shown_reply now rows object batch = version_reply now rows (version_with rows batch object)

-- the reply to a declined payment, with the payment intent inside
abbrev pub declined_reply : ℕ → List Row → Decline → Option Row → Reply
declined_reply now rows decline None = nothing_reply
declined_reply now rows decline (Some row) = error_reply_with (error_of (CardDeclined decline)) (Some (object_doc now rows row))

-- the reply to a ruling that was entered: the payment intent, or the decline with the payment intent inside
abbrev pub settled_reply : ℕ → List Row → Ruling → ℕ → BatchState → Reply
settled_reply now rows ruling.Approved object batch = shown_reply now rows object batch
settled_reply now rows (ruling.Declined decline) object batch = declined_reply now rows decline (version_with rows batch object)
settled_reply now rows ruling.Challenge object batch = shown_reply now rows object batch

-- the reply to a ruling whose outcome is this
abbrev pub ruling_reply : ℕ → List Row → Ruling → Outcome → Reply
ruling_reply now rows ruling (Refuses error) = error_reply error
ruling_reply now rows ruling (Adds touch object batch) = settled_reply now rows ruling object batch

-- the error of a run that was given up
abbrev pub problem_of : Why → Problem
problem_of why.Pending = AcquirerPending
problem_of why.Failed = AcquirerFailed
problem_of why.NoMemory = NoMemory

-- the reply to a park
abbrev pub park_reply : Why → Reply
park_reply why = error_reply (error_of (problem_of why))

-- what is said to an entry: a reply; that it waits for the acquirer to rule on an order; or nothing, to a moment of the clock, and where an entry ends no run
pub data Said : Type 0 where
  Replies : Reply → Said
  Waits : Order → Said
  Silence : Said

-- the reply among what is said
abbrev pub replies_said : Said → List Reply
replies_said (Replies reply) = reply ∷ []
replies_said (Waits order) = []
replies_said Silence = []
