-- What a session did with its means, request by request.
use Rattle.std.proofs.Common.{◌≡◌, ℕ, ◌∷◌, ◌++◌, List, [], length, Result, refl, sym, ap, ◌∙◌, subst}
use Rattle.std.proofs.lemmas.List.{append-nil}
use Rattle.ph_io.specs.Told.{SourceState, SinkState}
use Rattle.ph_lock.specs.Histories.{StartsWith}
use Rattle.ph_bank.specs.Links.{Link, KeepsDecisions, and_asks}
use Rattle.ph_bank.specs.Patiences.{Granted}
use Rattle.ph_bank.proofs.DriveLemmas.{keeps-same, keeps-twice}
use Rattle.ph_http.specs.declared.message.Reply.{Reply}
use Rattle.ph_http.specs.Items.{Item, items_of}
use Rattle.ph_book.specs.declared.setup.Setup.{Setup}
use Rattle.ph_book.specs.Legal.{IsLegal}
use Rattle.ph_conn.specs.Answers.{Idles, Took}
use Rattle.ph_conn.specs.Fronts.{Known, IsSame, KeepsLive, entries_in}
use Rattle.ph_conn.specs.Means.{Means, Counted}
use Rattle.ph_conn.specs.Parts.{Part, requests_of, entries_of, mine_of, PartFollows, IsReplyTo, Stands, behind, AllStand, AllFollow, AreReplies, asks_of, AllDecided, over_runs, failures, refusals, grants, drives, IsWell, AllWell}
use Rattle.ph_conn.specs.Served.{served, halt_of}
use Rattle.ph_conn.specs.Session as session
use Rattle.ph_conn.specs.Session.{Session, Whole}
use Rattle.ph_conn.specs.declared.endings.Closed.{Closed}
use Rattle.ph_conn.specs.declared.endings.TalkError.{TalkError}
use Rattle.ph_conn.proofs.FrontLemmas.{starts-itself, starts-twice}
use Rattle.ph_conn.proofs.PartLemmas.{part-starts, stand-push, stand-saw, entered-push, follow-push, replies-push, and_asks-none, asked-push, decided-push, counted-push, counted-none, well-push, completes}

-- the requests of these parts were entered, and what their runs did with the link and the patience
pub record Work (means0 means1 : Means) (parts : List Part) (replies : List Reply) : Type 0 where
  pub same : IsSame means0.known means1.known
  pub one_history : StartsWith means1.known.front means0.known.front
  pub entered_once : means1.known.mine ≡ means0.known.mine ++ mine_of means0.known.caller parts
  pub stand : AllStand means0.known.caller means0.known.front means1.known.front parts
  pub followed : AllFollow means0.known.setup means0.known.caller parts
  pub replied : AreReplies means0.known.setup means0.known.caller parts replies
  pub asked : means1.link.asked ≡ and_asks means0.link.asked (asks_of parts)
  pub decided : AllDecided means1.link parts
  pub decisions : KeepsDecisions means0.link.decisions means1.link.decisions
  pub counted : Counted means0 means1 (over_runs failures parts) (over_runs refusals parts) (over_runs grants parts) (over_runs drives parts)
  pub nothing_left_live : KeepsLive means0.known means1.known

work-nothing : (means : Means) → IsLegal means.known.setup (entries_in means.known.front) → Work means means [] []
work-nothing means legal = record {
  same = record { setup = refl; caller = refl; legal = legal };
  one_history = starts-itself means.known.front;
  entered_once = sym (append-nil means.known.mine);
  stand = starts-itself means.known.front;
  followed = tt;
  replied = tt;
  asked = sym (and_asks-none means.link.asked);
  decided = tt;
  decisions = keeps-same means.link.decisions;
  counted = counted-none means.known means.known means.link means.counts;
  nothing_left_live = λ run. refl;
}

-- a part, told by the setup and the caller that the session began with
record TookBy (setup : Setup) (caller : ℕ) (means1 means2 : Means) (part : Part) (reply : Reply) : Type 0 where
  stands : Stands caller means1.known.front part
  front : StartsWith means2.known.front (behind caller part)
  entered_once : means2.known.mine ≡ means1.known.mine ++ entries_of caller part
  follows : PartFollows setup caller part
  replied : IsReplyTo setup caller part reply

took_by : {means1 means2 : Means} {part : Part} {reply : Reply} (setup : Setup) (caller : ℕ) → means1.known.setup ≡ setup → means1.known.caller ≡ caller → Took means1 means2 part reply
    → TookBy setup caller means1 means2 part reply
took_by {means1} {means2} {part} {reply} setup caller setup_is caller_is t =
    subst (λ s. TookBy s caller means1 means2 part reply) setup_is
    (subst (λ c. TookBy means1.known.setup c means1 means2 part reply) caller_is
    (record { stands = t.stands; front = t.front; entered_once = t.entered_once; follows = t.follows; replied = t.replied }))

pub work-push : {means0 means1 means2 : Means} {parts : List Part} {replies : List Reply} {part : Part} {reply : Reply}
    → Work means0 means1 parts replies → Took means1 means2 part reply → Work means0 means2 (parts ++ part ∷ []) (replies ++ reply ∷ [])
work-push {means0} {means1} {means2} {parts} {replies} {part} {reply} w t =
    let setup = means0.known.setup in
    let caller = means0.known.caller in
    let by = took_by setup caller w.same.setup w.same.caller t in
    record {
      same = record { setup = t.same.setup ∙ w.same.setup; caller = t.same.caller ∙ w.same.caller; legal = t.same.legal };
      one_history = starts-twice means0.known.front means1.known.front means2.known.front w.one_history
          (starts-twice means1.known.front (behind caller part) means2.known.front (part-starts caller means1.known.front part by.stands) by.front);
      entered_once = entered-push caller means0.known.mine means1.known.mine means2.known.mine parts part w.entered_once by.entered_once;
      stand = stand-push caller means0.known.front means1.known.front means2.known.front parts part w.stand by.stands by.front;
      followed = follow-push setup caller parts part w.followed by.follows;
      replied = replies-push setup caller parts replies part reply w.replied by.replied;
      asked = asked-push means0.link.asked means1.link.asked means2.link.asked parts part w.asked t.asked;
      decided = decided-push means1.link means2.link parts part w.decided t.decisions t.decided;
      decisions = keeps-twice means0.link.decisions means1.link.decisions means2.link.decisions w.decisions t.decisions;
      counted = counted-push means0 means1 means2 parts part w.counted t.counted;
      nothing_left_live = λ run. t.nothing_left_live run ∙ w.nothing_left_live run;
    }

-- where nothing was entered, more of the history may have been seen
work-saw : {means0 means1 means2 : Means} {parts : List Part} {replies : List Reply} → Work means0 means1 parts replies → Idles means1 means2 → Work means0 means2 parts replies
work-saw {means0} {means1} {means2} {parts} {replies} w idles =
    let saw = idles.saw in
    record {
      same = record { setup = saw.same.setup ∙ w.same.setup; caller = saw.same.caller ∙ w.same.caller; legal = saw.same.legal };
      one_history = starts-twice means0.known.front means1.known.front means2.known.front w.one_history saw.front;
      entered_once = saw.mine ∙ w.entered_once;
      stand = stand-saw means0.known.caller means0.known.front means1.known.front means2.known.front parts w.stand saw.front;
      followed = w.followed;
      replied = w.replied;
      asked = ap (λ (l : Link). l.asked) idles.link ∙ w.asked;
      decided = subst (λ (l : Link). AllDecided l parts) (sym idles.link) w.decided;
      decisions = subst (λ (l : Link). KeepsDecisions means0.link.decisions l.decisions) (sym idles.link) w.decisions;
      counted = subst (λ (l : Link). Counted means0 (record means2 { link = l }) (over_runs failures parts) (over_runs refusals parts) (over_runs grants parts) (over_runs drives parts)) (sym idles.link)
          (subst (λ (c : Granted). Counted means0 (record { known = means2.known; link = means1.link; counts = c }) (over_runs failures parts) (over_runs refusals parts) (over_runs grants parts) (over_runs drives parts)) (sym idles.counts)
          (counted-known means0 means1 means2.known (over_runs failures parts) (over_runs refusals parts) (over_runs grants parts) (over_runs drives parts) w.counted));
      nothing_left_live = λ run. saw.live run ∙ w.nothing_left_live run;
    }
  where
    -- counts say nothing of the history
    counted-known : (old new : Means) (known : Known) (failed refused granted driven : ℕ) → Counted old new failed refused granted driven
        → Counted old (record { known = known; link = new.link; counts = new.counts }) failed refused granted driven
    counted-known old new known failed refused granted driven c = record {
      faults = c.faults;
      faults_not_fallen = c.faults_not_fallen;
      refusals = c.refusals;
      refusals_not_fallen = c.refusals_not_fallen;
      grants = c.grants;
      starts = c.starts;
    }

-- the session may go on behind each part
pub record Grown (means0 means1 : Means) (parts : List Part) (replies : List Reply) : Type 0 where
  pub work : Work means0 means1 parts replies
  pub well : AllWell parts

pub grown-nothing : (means : Means) → IsLegal means.known.setup (entries_in means.known.front) → Grown means means [] []
grown-nothing means legal = record { work = work-nothing means legal; well = tt }

pub grown-push : {means0 means1 means2 : Means} {parts : List Part} {replies : List Reply} {part : Part} {reply : Reply}
    → Grown means0 means1 parts replies → Took means1 means2 part reply → IsWell part → Grown means0 means2 (parts ++ part ∷ []) (replies ++ reply ∷ [])
grown-push {parts = parts} {part = part} g t well = record {
  work = work-push g.work t;
  well = well-push parts part g.well well;
}

pub grown-saw : {means0 means1 means2 : Means} {parts : List Part} {replies : List Reply} → Grown means0 means1 parts replies → Idles means1 means2 → Grown means0 means2 parts replies
grown-saw g idles = record { work = work-saw g.work idles; well = g.well }

-- a session, from its work and what was read and written
pub session_with : {result : Result Closed TalkError} {limit : ℕ} {means0 means1 : Means} {input0 input1 : SourceState} {output0 output1 : SinkState} {parts : List Part} {replies : List Reply} {items : List Item}
    → Work means0 means1 parts replies → (bytes : List ℕ) → session.Reads result input0 input1 bytes → items ≡ items_of bytes (session.has_ended result)
    → session.Enters result means1.known (served items limit) (requests_of parts) → session.Writes result items limit means1.known parts replies output0 output1
    → session.StopsAs result (halt_of items limit) (length parts) → Session result limit means0 means1 input0 input1 output0 output1
session_with {result} {limit} {means0} {means1} {input0} {input1} {output0} {output1} {parts} {replies} {items} w bytes taken items_are which_requests written stopped = record {
  bytes = bytes;
  items = items;
  parts = parts;
  replies = replies;
  taken = taken;
  items_are = items_are;
  same = w.same;
  one_history = w.one_history;
  entered_once = w.entered_once;
  stand = w.stand;
  followed = w.followed;
  which_requests = which_requests;
  replied = w.replied;
  written = written;
  asked = w.asked;
  decided = w.decided;
  decisions = w.decisions;
  counted = w.counted;
  complete = completes means0.known.setup means0.known.caller means0 means1 parts replies w.followed w.replied w.counted;
  nothing_left_live = w.nothing_left_live;
  stopped = stopped;
}

-- one that might have gone on behind each part
pub session_of : {result : Result Closed TalkError} {limit : ℕ} {means0 means1 : Means} {input0 input1 : SourceState} {output0 output1 : SinkState} {parts : List Part} {replies : List Reply} {items : List Item}
    → Grown means0 means1 parts replies → (bytes : List ℕ) → session.Reads result input0 input1 bytes → items ≡ items_of bytes (session.has_ended result)
    → session.Enters result means1.known (served items limit) (requests_of parts) → session.WritesReplies result items limit means1.known (requests_of parts) replies output0 output1
    → session.StopsAs result (halt_of items limit) (length parts) → Session result limit means0 means1 input0 input1 output0 output1
session_of g bytes taken items_are which_requests written stopped =
    session_with g.work bytes taken items_are which_requests (Whole g.well written) stopped
