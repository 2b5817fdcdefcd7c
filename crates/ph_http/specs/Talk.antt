-- What a call of `next` gives, and what the talk has given over many calls.
use Rattle.std.specs.Prelude.{◌≡◌, Bool, true, false, List, [], ◌∷◌}
use Rattle.ph_http.specs.Items.{First, Wants, Has, Item, Continue, Request, Close, Cut, End, first}
use Rattle.ph_http.specs.TalkState.{TalkState}
use Rattle.ph_http.specs.declared.message.Next.{Next}
use Rattle.ph_http.specs.declared.message.Next.TheVariants as next

-- what is answered where that comes first
abbrev pub next_of : First → Next
next_of Wants = next.More
next_of (Has Continue talk) = next.Continue
next_of (Has (Request raw) talk) = next.Request raw
next_of (Has (Close status) talk) = next.Close status
next_of (Has Cut talk) = next.Cut
next_of (Has End talk) = next.End

-- The answer is what comes first of the old talk. A Continue and a request take the talk on; anything else leaves it.
abbrev pub Gives : TalkState → Next → TalkState → Type 0
Gives old (next.Request raw) new = (first old ≡ Has (Request raw) new) × (new.ended ≡ old.ended)
Gives old next.Continue new = (first old ≡ Has Continue new) × (new.ended ≡ old.ended)
Gives old (next.Close status) new = (first old ≡ Has (Close status) old) × (new ≡ old)
Gives old next.Cut new = (first old ≡ Has Cut old) × (new ≡ old)
Gives old next.End new = (first old ≡ Has End old) × (new ≡ old)
Gives old next.More new = (first old ≡ Wants) × (new ≡ old)

-- more items may come behind it
abbrev pub goes_on : Item → Bool
goes_on Continue = true
goes_on (Request raw) = true
goes_on (Close status) = false
goes_on Cut = false
goes_on End = false

-- from the one talk on come these items, none of which ends a session, and then stands the other
abbrev pub Leads : TalkState → List Item → TalkState → Type 0
Leads old [] new = old ≡ new
Leads old (item ∷ items) new =
    (middle : TalkState) × (first old ≡ Has item middle) × (goes_on item ≡ true) × Leads middle items new
