-- Any list of calls of a talk.
use Rattle.std.specs.Prelude.{◌≡◌, ℕ, true, false, List, [], ◌∷◌, ◌++◌}
use Rattle.ph_http.specs.Items.{Item, Continue, Request, Close, Cut, End}
use Rattle.ph_http.specs.Talk.{Gives}
use Rattle.ph_http.specs.TalkState.{TalkState}
use Rattle.ph_http.specs.declared.message.Next.{Next}
use Rattle.ph_http.specs.declared.message.Next.TheVariants as next

-- a call of a talk, with its argument or its answer; a call that finds no memory changes nothing and is left out
pub data Step : Type 0 where
  Feed : List ℕ → Step
  Finish : Step
  Gave : Next → Step

-- the bytes fed
abbrev pub fed : List Step → List ℕ
fed [] = []
fed (Feed piece ∷ steps) = piece ++ fed steps
fed (Finish ∷ steps) = fed steps
fed (Gave answer ∷ steps) = fed steps

-- the item that an answer gives, if it gives one, before these
abbrev pub and_item : Next → List Item → List Item
and_item (next.Request raw) items = Request raw ∷ items
and_item next.Continue items = Continue ∷ items
and_item (next.Close status) items = Close status ∷ items
and_item next.Cut items = Cut ∷ items
and_item next.End items = End ∷ items
and_item next.More items = items

-- the items given
abbrev pub given : List Step → List Item
given [] = []
given (Feed piece ∷ steps) = given steps
given (Finish ∷ steps) = given steps
given (Gave answer ∷ steps) = and_item answer (given steps)

-- `next` isn't called behind an answer that ends the session, nor `feed` behind `finish`
abbrev pub MayFollow : Next → List Step → Type 0
MayFollow (next.Request raw) steps = Unit {0}
MayFollow next.Continue steps = Unit {0}
MayFollow next.More steps = Unit {0}
MayFollow (next.Close status) steps = given steps ≡ []
MayFollow next.Cut steps = given steps ≡ []
MayFollow next.End steps = given steps ≡ []

-- the calls may go so, from the one talk to the other
abbrev pub Run : TalkState → List Step → TalkState → Type 0
Run old [] new = old ≡ new
Run old (Feed piece ∷ steps) new =
    (old.ended ≡ false) × Run (record old { unread = old.unread ++ piece }) steps new
Run old (Finish ∷ steps) new = Run (record old { ended = true }) steps new
Run old (Gave answer ∷ steps) new =
    (middle : TalkState) × Gives old answer middle × MayFollow answer steps × Run middle steps new

-- the first list is a front of the second
abbrev pub IsFront : List Item → List Item → Type 0
IsFront front whole = (rest : List Item) × (whole ≡ front ++ rest)
