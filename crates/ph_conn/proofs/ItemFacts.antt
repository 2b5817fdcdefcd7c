-- What comes first of a talk, as the session needs it.
use Rattle.std.proofs.Common.{◌≡◌, ◌⊎◌, true, false, List, [], ◌∷◌, ◌++◌, sym, ap, subst}
use Rattle.ph_http.specs.declared.message.Raw.{Raw}
use Rattle.ph_http.specs.Items.{Item, Continue, Request, Cut, End, Wants, Has, first}
use Rattle.ph_http.specs.Talk.{Leads}
use Rattle.ph_http.specs.TalkState.{TalkState}
use Rattle.ph_http.proofs.EndLemmas as ends
use Rattle.ph_http.proofs.StatusLemmas as statuses

-- where more bytes were wanted and the end was told, it is an End or a Cut
pub last_after : (talk : TalkState) → talk.ended ≡ true → first (record talk { ended = false }) ≡ Wants → (first talk ≡ Has End talk) ⊎ (first talk ≡ Has Cut talk)
last_after talk ended wanted =
    let same : record talk { ended = true } ≡ talk = ap (λ b. record talk { ended = b }) (sym ended) in
    subst (λ (t : TalkState). (first t ≡ Has End t) ⊎ (first t ≡ Has Cut t)) same (ends.last_after (record talk { ended = false }) wanted)

-- items after items
pub leads_then : (old middle new : TalkState) (items more : List Item) → Leads old items middle → Leads middle more new → Leads old (items ++ more) new
leads_then old middle new [] more led next = subst (λ (t : TalkState). Leads t more new) (sym led) next
leads_then old middle new (item ∷ items) more led next = (led.0, led.1, led.2, leads_then led.0 middle new items more led.3 next)

-- the request of a Continue comes behind it
pub request_after_continue : (talk after : TalkState) → first talk ≡ Has Continue after → (raw : Raw) × (last : TalkState) × (first after ≡ Has (Request raw) last)
request_after_continue talk after h = let r = statuses.request_after_continue talk after h in (r.raw, r.last, r.next)
