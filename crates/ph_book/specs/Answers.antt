-- Answers of a book.
use Rattle.std.specs.Prelude.{◌≡◌, ◌≢◌, ℕ, ◌==◌, ◌||◌, Bool, true, List, [], ◌∷◌, IsTrue}
use Rattle.ph_http.specs.declared.message.Reply.{Reply}
use Rattle.ph_http.specs.Replies.{is_status}
use Rattle.ph_book.specs.declared.acts.Answer.{Answer}
use Rattle.ph_book.specs.declared.acts.Answer.TheVariants as answer
use Rattle.ph_book.specs.declared.acts.Deed.{Deed}
use Rattle.ph_book.specs.declared.acts.Deed.TheVariants as deed
use Rattle.ph_book.specs.Replies.{Said, Replies, Waits, Silence, park_reply}

-- the answer says this, to the entry of a caller at a place: a ticket is of the run with the entry's place as its number
abbrev pub Says : ℕ → ℕ → Said → Answer → Type 0
Says place caller (Replies reply) (answer.Reply given) = given ≡ reply
Says place caller (Replies reply) (answer.Wait ticket) = ⊥
Says place caller (Replies reply) answer.Done = ⊥
Says place caller (Waits order) (answer.Reply given) = ⊥
Says place caller (Waits order) (answer.Wait ticket) = ticket ≡ record { caller = caller; run = place; order = order }
Says place caller (Waits order) answer.Done = ⊥
Says place caller Silence (answer.Reply given) = ⊥
Says place caller Silence (answer.Wait ticket) = ⊥
Says place caller Silence answer.Done = Unit {0}

-- the reply that an answer is
abbrev pub replies_in : Answer → List Reply
replies_in (answer.Reply reply) = reply ∷ []
replies_in (answer.Wait ticket) = []
replies_in answer.Done = []

-- the status of a reply is one that replies are written with
abbrev pub HasStatus : Answer → Type 0
HasStatus (answer.Reply reply) = IsTrue (is_status reply.status)
HasStatus (answer.Wait ticket) = Unit {0}
HasStatus answer.Done = Unit {0}

-- the answer is a ticket, or a reply, and no reply to a run that was given up: these have the status 500, but for want of memory
abbrev pub IsNoPark : Answer → Type 0
IsNoPark (answer.Reply reply) = reply.status ≢ 500
IsNoPark (answer.Wait ticket) = Unit {0}
IsNoPark answer.Done = ⊥

-- a status with which rulings are answered: the payment intent is shown, or the decline
abbrev pub is_ruled : ℕ → Bool
is_ruled status = status == 200 || status == 402

-- the answer is a reply to a ruling
abbrev pub IsRuled : Answer → Type 0
IsRuled (answer.Reply reply) = is_ruled reply.status ≡ true
IsRuled (answer.Wait ticket) = ⊥
IsRuled answer.Done = ⊥

-- the answer is no reply
abbrev pub IsNoReply : Answer → Type 0
IsNoReply (answer.Reply reply) = ⊥
IsNoReply (answer.Wait ticket) = Unit {0}
IsNoReply answer.Done = Unit {0}

-- what the answers to a deed are: a call is answered by a reply or waits, a ruling by the payment intent or the decline, a park by the reply of its reason, and the taking up of an attempt and a moment by none
abbrev pub IsAnswerTo : Deed → Answer → Type 0
IsAnswerTo (deed.Call raw) given = IsNoPark given
IsAnswerTo (deed.Finish run ruling) given = IsRuled given
IsAnswerTo (deed.Park run why) given = given ≡ answer.Reply (park_reply why)
IsAnswerTo deed.Resume given = IsNoReply given
IsAnswerTo (deed.Tick moment) given = given ≡ answer.Done
