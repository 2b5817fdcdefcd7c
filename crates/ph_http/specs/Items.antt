-- The items of a list of bytes: the requests, and what ends a session.
use Rattle.std.specs.Prelude.{ℕ, zero, suc, ◌+◌, ◌*◌, Bool, ◌&&◌, not, true, false, ◌==◌, nat_le, if◌then◌else◌, List, [], ◌∷◌, length, take, drop, Option, Some, None}
use Rattle.ph_head.specs.Parts.{HeadParts}
use Rattle.ph_http.specs.declared.message.Raw.{Raw}
use Rattle.ph_http.specs.Cut.{leading, head_len}
use Rattle.ph_http.specs.Requests.{expects, raw_of}
use Rattle.ph_http.specs.TalkState.{TalkState, talk_of}
use Rattle.ph_http.specs.Verdict.{Judgement, Closes, Accepts, judgement_of}

pub data Item : Type 0 where
  -- the line `HTTP/1.1 100 Continue` is to be written
  Continue : Item
  Request : Raw → Item
  -- the session closes with this status
  Close : ℕ → Item
  -- the bytes end within a request
  Cut : Item
  -- the bytes end behind a request
  End : Item

-- what comes first: nothing yet, as more bytes are wanted, or an item, and the talk after it
pub data First : Type 0 where
  Wants : First
  Has : Item → TalkState → First

-- where no more bytes follow, this item; else more bytes are wanted
abbrev pub at_end : TalkState → Item → First
at_end talk item = if talk.ended then Has item talk else Wants

-- the greatest length of a head
abbrev pub head_limit : ℕ
head_limit = 16384

-- where the first 16,384 bytes hold no whole head
abbrev pub without_head : TalkState → First
without_head talk =
    if nat_le head_limit (length talk.unread) then Has (Close 431) talk
    else at_end talk (if leading talk.unread == length talk.unread then End else Cut)

-- a request of this head whose body of n bytes is there; its 100 line comes first, if it asks for one that wasn't given
abbrev pub with_whole : HeadParts → ℕ → List ℕ → TalkState → First
with_whole head n rest talk =
    if expects head.minor head.headers n && not talk.continued then Has Continue (record talk { continued = true })
    else Has (Request (raw_of head (take n rest))) (record talk { unread = drop n rest; continued = false })

-- a request of this head with a body of n bytes, where these bytes stand behind the head
abbrev pub with_body : HeadParts → ℕ → List ℕ → TalkState → First
with_body head n rest talk = if nat_le n (length rest) then with_whole head n rest talk else at_end talk Cut

-- behind a head that is judged so
abbrev pub with_head : Judgement → List ℕ → TalkState → First
with_head (Closes status) rest talk = Has (Close status) talk
with_head (Accepts head n) rest talk = with_body head n rest talk

-- where a head of this length stands at the front, or none does
abbrev pub first_at : Option ℕ → TalkState → First
first_at None talk = without_head talk
first_at (Some n) talk = with_head (judgement_of (take n talk.unread)) (drop n talk.unread) talk

-- what comes first of the unread bytes
unfoldable pub first : TalkState → First
first talk = first_at (head_len (take head_limit talk.unread)) talk

-- the item that comes first, and behind a 100 line or a request those that come then
abbrev pub and_then : First → (TalkState → List Item) → List Item
and_then Wants items = []
and_then (Has Continue talk) items = Continue ∷ items talk
and_then (Has (Request raw) talk) items = Request raw ∷ items talk
and_then (Has (Close status) talk) items = Close status ∷ []
and_then (Has Cut talk) items = Cut ∷ []
and_then (Has End talk) items = End ∷ []

-- the first n items
abbrev pub items_up_to : ℕ → TalkState → List Item
items_up_to zero talk = []
items_up_to (suc n) talk = and_then (first talk) (items_up_to n)

-- the items of a talk, of which there are never more than two a byte, and one
unfoldable pub items_from : TalkState → List Item
items_from talk = items_up_to (2 * length talk.unread + 1) talk

-- the items of a list of bytes, with `ended` saying that no more follow
abbrev pub items_of : List ℕ → Bool → List Item
items_of bytes ended = items_from (talk_of bytes ended)
