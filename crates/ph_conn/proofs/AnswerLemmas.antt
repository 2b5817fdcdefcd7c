-- A request that is entered, with its run and its reply.
use Rattle.std.proofs.Common.{◌≡◌, ℕ, ◌+◌, ◌^◌, ◌<◌, ◌≤◌, Bool, true, false, ◌++◌, ◌∷◌, ◌∙◌, List, [], length, Option, Some, None, refl, sym, ap, subst, append_assoc, arith}
use Rattle.std.proofs.lemmas.List.{append-nil, length-map, map-append}
use Rattle.ph_base.specs.Counts.{Rose}
use Rattle.ph_base.specs.declared.acquirer.Ruling.{Ruling}
use Rattle.ph_base.specs.declared.acquirer.Ruling.TheVariants as ruling
use Rattle.ph_base.specs.declared.acquirer.Why.{Why}
use Rattle.ph_base.specs.declared.acquirer.Why.TheVariants as why
use Rattle.ph_attempts.specs.declared.flights.Flight.{Flight}
use Rattle.ph_items.specs.declared.orders.Order.{Order}
use Rattle.ph_lock.specs.Histories.{StartsWith}
use Rattle.ph_http.specs.declared.message.Raw.{Raw}
use Rattle.ph_http.specs.declared.message.Reply.{Reply}
use Rattle.ph_bank.specs.declared.driving.Driven.{Driven}
use Rattle.ph_bank.specs.declared.driving.Driven.TheVariants as driven
use Rattle.ph_bank.specs.Drives.{Drives}
use Rattle.ph_bank.specs.Links.{KeepsDecisions, Link, and_asks}
use Rattle.ph_bank.specs.Patiences.{Granted, next_count}
use Rattle.ph_bank.proofs.DriveLemmas.{keeps-same}
use Rattle.ph_book.specs.declared.acts.Act.TheVariants as act
use Rattle.ph_book.specs.declared.acts.Answer.{Answer}
use Rattle.ph_book.specs.declared.acts.Answer.TheVariants as answer
use Rattle.ph_book.specs.declared.acts.Entry.{Entry}
use Rattle.ph_book.specs.declared.hosted.Kept.{Kept}
use Rattle.ph_book.specs.declared.hosted.Kept.TheVariants as kept
use Rattle.ph_book.specs.declared.setup.Setup.{Setup}
use Rattle.ph_book.specs.Answers.{Says}
use Rattle.ph_book.specs.Entries.{call_entry, entry_of}
use Rattle.ph_book.specs.Tickets.{Holds}
use Rattle.ph_book.specs.Replies.{Said, Replies, Waits, Silence, park_reply}
use Rattle.ph_conn.specs.Answers.{Answers, BreaksFor, Comes, Ended, Settles, Took, end_act}
use Rattle.ph_conn.specs.Fronts.{Filed, Known, OnlySaw, Entered, entries_in, filed, said_behind, MayDo}
use Rattle.ph_conn.specs.Means.{Means, Counted, RoseBy}
use Rattle.ph_conn.specs.Parts.{Ending, Settled, GivenUp, Drive, Run, Part, EndsBy, EndsAs, Follows, IsReplyOf, behind, call_filed, end_entry, place_behind, asks_by, DriveDecided, failures, failures_in, refusals, refusals_in, grants, drives, if_driven, is_out, is_out_in, first_mark, mark_of}
use Rattle.ph_conn.specs.Sends.{IsWritable}
use Rattle.ph_conn.specs.declared.answers.Outcome.{Outcome}
use Rattle.ph_conn.specs.declared.answers.Outcome.TheVariants as outcome
use Rattle.ph_conn.specs.declared.endings.TalkError.{TalkError}
use Rattle.ph_conn.specs.declared.endings.TalkError.TheVariants as fault
use Rattle.ph_conn.proofs.FrontLemmas.{as_before, saw_then_entered}
use Rattle.ph_conn.proofs.LiveLemmas.{live-replied, live-ended}
use Rattle.ph_conn.proofs.PartLemmas.{and_asks-none, counted-none}

-- ---- what is said, by the answer

said_reply : (place caller : ℕ) (said : Said) (reply : Reply) → Says place caller said (answer.Reply reply) → said ≡ Replies reply
said_reply place caller (Replies other) reply says = ap Replies (sym says)
said_reply place caller (Waits order) reply says = absurd says
said_reply place caller Silence reply says = absurd says

said_wait : (place caller : ℕ) (said : Said) (ticket : Flight) → Says place caller said (answer.Wait ticket)
    → (said ≡ Waits ticket.order) × (ticket ≡ record { caller = caller; run = place; order = ticket.order })
said_wait place caller (Replies reply) ticket says = absurd says
said_wait place caller (Waits order) ticket says =
    let same : order ≡ ticket.order = sym (ap (λ (t : Flight). t.order) says) in
    (ap Waits same, says ∙ ap (λ (o : Order). record { caller = caller; run = place; order = o }) same)
said_wait place caller Silence ticket says = absurd says

-- the place behind the entries of a history is that behind it
place-is : (before : List Filed) → length (entries_in before) + 1 ≡ place_behind before
place-is before = ap (λ n. n + 1) (length-map before (λ (f : Filed). f.entry))

-- ---- a call that is answered at once

-- it has no run
pub took_reply : {old new : Known} {raw : Raw} {reply : Reply} {mark : Kept} (link : Link) (counts : Granted) → (e : Entered old new (act.Call raw) (answer.Reply reply) mark)
    → Took (record { known = old; link = link; counts = counts }) (record { known = new; link = link; counts = counts })
    (record { raw = raw; before = e.before; kept = mark; run = None }) reply
took_reply {old} {new} {raw} {reply} {mark} link counts e =
    let said : said_behind old.setup e.before (call_entry old.caller raw) ≡ Replies reply =
    said_reply (length (entries_in e.before) + 1) old.caller (said_behind old.setup e.before (call_entry old.caller raw)) reply e.answered.says in
    record {
      same = e.same;
      stands = (e.seen, tt);
      front = ([], e.front ∙ sym (append-nil (e.before ++ filed old.caller (act.Call raw) mark ∷ [])));
      entered_once = e.mine;
      follows = subst (λ s. Follows s mark None) (sym said) tt;
      replied = record { said = said; replied = e.answered.kind };
      status = e.answered.status;
      asked = sym (and_asks-none link.asked);
      decided = tt;
      decisions = keeps-same link.decisions;
      counted = counted-none old new link counts;
      nothing_left_live = λ run. live-replied old new raw reply e said run ∙ e.live run;
    }

-- ---- a call that waits

-- the reply to the end of a run, by its kind
end_replied : {old new : Known} {reply : Reply} {mark : Kept} (ticket : Flight) (ending : Ending) → Ended old new ticket ending reply mark → IsReplyOf ending reply
end_replied {reply = reply} ticket (Settled ruling) e = e.answered.kind
end_replied {reply = reply} ticket (GivenUp reason) e = reply_is e.answered.kind
  where
    reply_in : Answer → Reply
    reply_in (answer.Reply given) = given
    reply_in (answer.Wait ticket) = reply
    reply_in answer.Done = reply

    reply_is : answer.Reply reply ≡ answer.Reply (park_reply reason) → reply ≡ park_reply reason
    reply_is h = ap reply_in h

-- the entry of an end, by the number of its run
end_is : (caller run : ℕ) (ticket : Flight) (ending : Ending) → ticket.run ≡ run → entry_of caller (end_act ticket ending) ≡ end_entry caller run ending
end_is caller run ticket (Settled ruling) is = ap (λ n. end_entry caller n (Settled ruling)) is
end_is caller run ticket (GivenUp reason) is = ap (λ n. end_entry caller n (GivenUp reason)) is

-- what a run did with link and patience, driven or not
pub record Drove (link0 link1 : Link) (counts0 counts1 : Granted) (order : Order) (drive : Option Drive) (ending : Ending) : Type 0 where
  pub asked : link1.asked ≡ and_asks link0.asked (asks_by order drive)
  pub decided : DriveDecided link1 order drive
  pub decisions : KeepsDecisions link0.decisions link1.decisions
  pub counted : (known0 known1 : Known) → Counted (record { known = known0; link = link0; counts = counts0 }) (record { known = known1; link = link1; counts = counts1 })
      (if_driven failures drive ending) (if_driven refusals drive ending) (if_driven grants drive ending) (if_driven drives drive ending)

-- a run that wasn't driven
pub not_driven : (link : Link) (counts : Granted) (order : Order) (ending : Ending) → Drove link link counts counts order None ending
not_driven link counts order ending = record {
  asked = sym (and_asks-none link.asked);
  decided = tt;
  decisions = keeps-same link.decisions;
  counted = λ known0 known1. counted-none known0 known1 link counts;
}

-- what a drive counts
drive_counts : (link0 link1 : Link) (counts0 counts1 : Granted) (end : Driven) (ending : Ending) → EndsBy end ending
    → link0.faults ≤ link1.faults → counts0.refusals ≤ counts1.refusals
    → (end ≡ driven.Failed → Rose link0.faults link1.faults)
    → (end ≡ driven.GaveUp → Rose counts0.refusals counts1.refusals)
    → RoseBy (failures_in ending) link0.faults link1.faults × RoseBy (refusals_in ending) counts0.refusals counts1.refusals
drive_counts link0 link1 counts0 counts1 (driven.Ready ruling) (Settled other) ends faults refused failed gave_up = (omega (arith, faults), omega (arith, refused))
drive_counts link0 link1 counts0 counts1 (driven.Ready ruling) (GivenUp reason) ends faults refused failed gave_up = rw ends (omega (arith, faults), omega (arith, refused))
drive_counts link0 link1 counts0 counts1 driven.Failed (Settled other) ends faults refused failed gave_up = absurd ends
drive_counts link0 link1 counts0 counts1 driven.Failed (GivenUp reason) ends faults refused failed gave_up = rw ends (failed refl, omega (arith, refused))
drive_counts link0 link1 counts0 counts1 driven.GaveUp (Settled other) ends faults refused failed gave_up = absurd ends
drive_counts link0 link1 counts0 counts1 driven.GaveUp (GivenUp reason) ends faults refused failed gave_up = rw ends (omega (arith, faults), gave_up refl)

-- a drive, by its order and end
pub drive_of : {link0 link1 : Link} {order : Order} {first now : ℕ} {end : Driven} → Drives link0 link1 order first now end → Drive
drive_of {end = end} d = record { grants = d.polls; last = d.last; driven = end }

pub was_driven : {link0 link1 : Link} {counts0 counts1 : Granted} {order : Order} {end : Driven} (ending : Ending) → (d : Drives link0 link1 order counts0.grants counts1.grants end)
    → counts1.starts ≡ next_count counts0.starts → counts0.refusals ≤ counts1.refusals
    → (end ≡ driven.Failed → Rose link0.faults link1.faults) → (end ≡ driven.GaveUp → Rose counts0.refusals counts1.refusals) → EndsBy end ending
    → Drove link0 link1 counts0 counts1 order (Some (record { grants = d.polls; last = d.last; driven = end })) ending
was_driven {link0} {link1} {counts0} {counts1} {order} {end} ending d starts refused failed gave_up ends =
    let rose = drive_counts link0 link1 counts0 counts1 end ending ends d.faults refused failed gave_up in
    record {
      asked = d.asked;
      decided = d.decided;
      decisions = d.kept;
      counted = λ known0 known1. record {
        faults = rose.0;
        faults_not_fallen = d.faults;
        refusals = rose.1;
        refusals_not_fallen = refused;
        grants = d.granted;
        starts = starts;
      };
    }

-- what became of a call that waited: it is a part
pub record Ran (means0 means1 : Means) (raw : Raw) (reply : Reply) (marked : Kept) (out : Bool) : Type 0 where
  pub part : Part
  pub raw_is : part.raw ≡ raw
  pub took : Took means0 means1 part reply
  pub marked_is : mark_of part ≡ marked
  pub out_is : is_out part.run ≡ out

-- where nothing of the setup or the caller changed by name
ran : {old new : Known} {front : List Filed} {mine : List (ℕ × Filed)} {raw : Raw} {mark end : Kept} {reply : Reply} {link0 link1 : Link} {counts0 counts1 : Granted} {drive : Option Drive} (ticket : Flight) (ending : Ending)
    → (e : Entered old (record { setup = old.setup; caller = old.caller; front = front; mine = mine }) (act.Call raw) (answer.Wait ticket) mark)
    → Drove link0 link1 counts0 counts1 ticket.order drive ending
    → (f : Ended (record { setup = old.setup; caller = old.caller; front = front; mine = mine }) new ticket ending reply end)
    → EndsAs ticket.order mark drive ending
    → Ran (record { known = old; link = link0; counts = counts0 }) (record { known = new; link = link1; counts = counts1 }) raw reply (first_mark mark end) (is_out_in ending)
ran {old} {new} {front} {mine} {raw} {mark} {end} {reply} {link0} {link1} {counts0} {counts1} {drive} ticket ending e drove f ends =
    let run : Run = record { order = ticket.order; drive = drive; before = f.before; ending = ending; kept = end } in
    let part : Part = record { raw = raw; before = e.before; kept = mark; run = Some run } in
    let waited = said_wait (length (entries_in e.before) + 1) old.caller (said_behind old.setup e.before (call_entry old.caller raw)) ticket e.answered.says in
    let number : ticket.run ≡ place_behind e.before = ap (λ (t : Flight). t.run) waited.1 ∙ place-is e.before in
    let entry = end_is old.caller (place_behind e.before) ticket ending number in
    let replied = said_reply (length (entries_in f.before) + 1) old.caller (said_behind old.setup f.before (entry_of old.caller (end_act ticket ending))) reply f.answered.says in
    record {
      part = part;
      raw_is = refl;
      took = record {
        same = record { setup = f.same.setup; caller = f.same.caller; legal = f.same.legal };
        stands = (e.seen, subst (StartsWith f.before) e.front f.seen);
        front = ([], f.front ∙ ap (λ (en : Entry). f.before ++ record { entry = en; kept = end } ∷ []) entry ∙ sym (append-nil (behind old.caller part)));
        entered_once = f.mine
            ∙ ap (λ (own : List (ℕ × Filed)). own ++ (place_behind f.before, filed old.caller (end_act ticket ending) end) ∷ []) e.mine
            ∙ append_assoc old.mine ((place_behind e.before, call_filed old.caller part) ∷ []) ((place_behind f.before, filed old.caller (end_act ticket ending) end) ∷ [])
            ∙ ap (λ (en : Entry). old.mine ++ (place_behind e.before, call_filed old.caller part) ∷ (place_behind f.before, record { entry = en; kept = end }) ∷ []) entry;
        follows = subst (λ s. Follows s mark (Some run)) (sym waited.0) (record { of = refl; ends = ends });
        replied = record {
          said = ap (λ (en : Entry). said_behind old.setup f.before en) (sym entry) ∙ replied;
          replied = end_replied ticket ending f;
        };
        status = f.answered.status;
        asked = drove.asked;
        decided = drove.decided;
        decisions = drove.decisions;
        counted = drove.counted old new;
        nothing_left_live = live-ended ticket ending e f waited.0 (ap (λ (t : Flight). t.run) waited.1);
      };
      marked_is = refl;
      out_is = refl;
    }

-- the call, its drive and the end of its run are one part
pub took_run : {old middle new : Known} {raw : Raw} {mark end : Kept} {reply : Reply} {link0 link1 : Link} {counts0 counts1 : Granted} {drive : Option Drive} (ticket : Flight) (ending : Ending)
    → Entered old middle (act.Call raw) (answer.Wait ticket) mark → Drove link0 link1 counts0 counts1 ticket.order drive ending → Ended middle new ticket ending reply end
    → EndsAs ticket.order mark drive ending
    → Ran (record { known = old; link = link0; counts = counts0 }) (record { known = new; link = link1; counts = counts1 }) raw reply (first_mark mark end) (is_out_in ending)
took_run {old} {middle} {new} {raw} {mark} {end} {reply} {link0} {link1} {counts0} {counts1} {drive} ticket ending e drove f ends =
    subst (λ (k : Known). Entered old k (act.Call raw) (answer.Wait ticket) mark → Ended k new ticket ending reply end
    → Ran (record { known = old; link = link0; counts = counts0 }) (record { known = new; link = link1; counts = counts1 }) raw reply (first_mark mark end) (is_out_in ending))
    (sym (as_before old middle e.same.setup e.same.caller)) (λ e' f'. ran ticket ending e' drove f' ends) e f

-- ---- answers

-- a reply, by the mark of its entry
comes-well : (mark : Kept) (given reply : Reply) → Comes given mark (outcome.Reply reply) → (mark ≡ kept.Yes) × (given ≡ reply)
comes-well kept.Yes given reply is = (refl, cc)
comes-well kept.Failed given reply is = absurd (cc)
comes-well kept.NoMemory given reply is = absurd (cc)

comes-unkept : (mark : Kept) (given : Reply) (why : TalkError) → Comes given mark (outcome.Unkept why) → BreaksFor false mark why
comes-unkept kept.Yes given why is = absurd (cc)
comes-unkept kept.Failed given why is = cc
comes-unkept kept.NoMemory given why is = cc

-- a call that is answered at once, by its mark
pub is_replied : {old new : Known} {raw : Raw} {reply : Reply} {mark : Kept} (link : Link) (counts : Granted) (what : Outcome) → Entered old new (act.Call raw) (answer.Reply reply) mark → Comes reply mark what
    → Answers (record { known = old; link = link; counts = counts }) (record { known = new; link = link; counts = counts }) raw what
is_replied {old} {new} {raw} {reply} {mark} link counts (outcome.Reply given) e comes =
    let well = comes-well mark reply given comes in
    let t = took_reply link counts e in (
      record { raw = raw; before = e.before; kept = mark; run = None },
      refl,
      subst (Took (record { known = old; link = link; counts = counts }) (record { known = new; link = link; counts = counts }) (record { raw = raw; before = e.before; kept = mark; run = None })) well.1 t,
      record { marked = ap (λ m. first_mark m kept.Yes) well.0; had_memory = refl },
    )
is_replied {old} {new} {raw} {reply} {mark} link counts (outcome.Unkept why) e comes = (
  record { raw = raw; before = e.before; kept = mark; run = None },
  reply,
  refl,
  took_reply link counts e,
  subst (λ m. BreaksFor false m why) (sym (first-alone mark)) (comes-unkept mark reply why comes),
)
  where
    first-alone : (m : Kept) → first_mark m kept.Yes ≡ m
    first-alone kept.Yes = refl
    first-alone kept.Failed = refl
    first-alone kept.NoMemory = refl
is_replied {mark = kept.Yes} link counts outcome.Parked e comes = absurd (cc)
is_replied {mark = kept.Failed} link counts outcome.Parked e comes = absurd (cc)
is_replied {mark = kept.NoMemory} link counts outcome.Parked e comes = absurd (cc)
is_replied {mark = kept.Yes} link counts outcome.Full e comes = absurd (cc)
is_replied {mark = kept.Failed} link counts outcome.Full e comes = absurd (cc)
is_replied {mark = kept.NoMemory} link counts outcome.Full e comes = absurd (cc)
is_replied {mark = kept.Yes} link counts outcome.NoMemory e comes = absurd (cc)
is_replied {mark = kept.Failed} link counts outcome.NoMemory e comes = absurd (cc)
is_replied {mark = kept.NoMemory} link counts outcome.NoMemory e comes = absurd (cc)

-- a call that waits and is kept, by the end of its drive
pub settles : {old middle : Known} {raw : Raw} {ticket : Flight} {link0 link1 : Link} {end : Driven} (new : Known) (counts0 counts1 : Granted) (what : Outcome)
    → Entered old middle (act.Call raw) (answer.Wait ticket) kept.Yes → Drives link0 link1 ticket.order counts0.grants counts1.grants end
    → counts1.starts ≡ next_count counts0.starts → counts0.refusals ≤ counts1.refusals
    → (end ≡ driven.Failed → Rose link0.faults link1.faults) → (end ≡ driven.GaveUp → Rose counts0.refusals counts1.refusals)
    → Settles middle new ticket end what
    → Answers (record { known = old; link = link0; counts = counts0 }) (record { known = new; link = link1; counts = counts1 }) raw what
settles {ticket = ticket} new counts0 counts1 (outcome.Reply reply) e d starts refused failed gave_up s =
    let r = took_run ticket s.0 e (was_driven s.0 d starts refused failed gave_up s.2) s.1 (d.ends, s.2) in
    (r.part, r.raw_is, r.took, record { marked = r.marked_is; had_memory = r.out_is ∙ s.3 })
settles {ticket = ticket} new counts0 counts1 outcome.Parked e d starts refused failed gave_up s =
    let r = took_run ticket (GivenUp why.NoMemory) e (was_driven (GivenUp why.NoMemory) d starts refused failed gave_up s.1) s.0 (d.ends, s.1) in
    (r.part, r.raw_is, r.took, r.marked_is, r.out_is)
settles {ticket = ticket} new counts0 counts1 (outcome.Unkept why) e d starts refused failed gave_up s =
    let r = took_run ticket s.0 e (was_driven s.0 d starts refused failed gave_up s.4) s.3 (d.ends, s.4) in
    (r.part, s.1, r.raw_is, r.took, subst (λ out. BreaksFor out (mark_of r.part) why) (sym r.out_is) (subst (λ m. BreaksFor (is_out_in s.0) m why) (sym r.marked_is) s.5))
settles new counts0 counts1 outcome.Full e d starts refused failed gave_up s = absurd s
settles new counts0 counts1 outcome.NoMemory e d starts refused failed gave_up s = absurd s

-- a call that waits and isn't kept: its run is given up for that, whatever the end's mark
pub gives_up : {old middle new : Known} {raw : Raw} {reply : Reply} (ticket : Flight) (mark end : Kept) (link : Link) (counts : Granted) (reason : Why) (why : TalkError)
    → Entered old middle (act.Call raw) (answer.Wait ticket) mark → Ended middle new ticket (GivenUp reason) reply end
    → EndsAs ticket.order mark None (GivenUp reason) → BreaksFor (is_out_in (GivenUp reason)) (first_mark mark end) why
    → Answers (record { known = old; link = link; counts = counts }) (record { known = new; link = link; counts = counts }) raw (outcome.Unkept why)
gives_up {reply = reply} ticket mark end link counts reason why e f ends breaks =
    let r = took_run ticket (GivenUp reason) e (not_driven link counts ticket.order (GivenUp reason)) f ends in
    (r.part, reply, r.raw_is, r.took, subst (λ out. BreaksFor out (mark_of r.part) why) (sym r.out_is) (subst (λ m. BreaksFor (is_out_in (GivenUp reason)) m why) (sym r.marked_is) breaks))

-- ---- the end of a run, by what it comes to

pub settled_as : {old new : Known} {reply : Reply} (ticket : Flight) (end : Driven) (mark : Kept) (ending : Ending) (what : Outcome) → Ended old new ticket ending reply mark → EndsBy end ending
    → is_out_in ending ≡ false → Comes reply mark what → Settles old new ticket end what
settled_as {old} {new} {reply} ticket end mark ending (outcome.Reply given) e ends had comes =
    let well = comes-well mark reply given comes in
    (ending, subst (λ (r : Reply). Ended old new ticket ending r kept.Yes) well.1 (subst (Ended old new ticket ending reply) well.0 e), ends, had)
settled_as {old} {new} {reply} ticket end mark ending (outcome.Unkept why) e ends had comes =
    (ending, reply, mark, e, ends, subst (λ out. BreaksFor out mark why) (sym had) (comes-unkept mark reply why comes))
settled_as ticket end kept.Yes ending outcome.Parked e ends had comes = absurd (cc)
settled_as ticket end kept.Failed ending outcome.Parked e ends had comes = absurd (cc)
settled_as ticket end kept.NoMemory ending outcome.Parked e ends had comes = absurd (cc)
settled_as ticket end kept.Yes ending outcome.Full e ends had comes = absurd (cc)
settled_as ticket end kept.Failed ending outcome.Full e ends had comes = absurd (cc)
settled_as ticket end kept.NoMemory ending outcome.Full e ends had comes = absurd (cc)
settled_as ticket end kept.Yes ending outcome.NoMemory e ends had comes = absurd (cc)
settled_as ticket end kept.Failed ending outcome.NoMemory e ends had comes = absurd (cc)
settled_as ticket end kept.NoMemory ending outcome.NoMemory e ends had comes = absurd (cc)

-- the reply of a run that was given up is that of the reason
pub park-replied : {old new : Known} {reply : Reply} {mark : Kept} (ticket : Flight) (reason : Why) → Ended old new ticket (GivenUp reason) reply mark
    → Ended old new ticket (GivenUp reason) (park_reply reason) mark
park-replied {old} {new} {reply} {mark} ticket reason e = subst (λ (r : Reply). Ended old new ticket (GivenUp reason) r mark) (end_replied ticket (GivenUp reason) e) e

-- a ticket that came back is spent by a park
pub came_back : {old middle new : Known} {reply : Reply} {mark : Kept} (back ticket : Flight) (reason : Why) → back ≡ ticket → OnlySaw old middle → Ended middle new back (GivenUp reason) reply mark
    → Ended old new ticket (GivenUp reason) reply mark
came_back {old} {middle} {new} {reply} {mark} back ticket reason same saw e =
    subst (λ (t : Flight). Ended old new t (GivenUp reason) reply mark) same
    (saw_then_entered {act = act.Park back reason} {given = answer.Reply reply} saw e)

-- for want of memory for its ruling a run was given up, and that is kept
pub out_kept : {old new : Known} {reply : Reply} {mark : Kept} (ticket : Flight) (end : Driven) (ruling : Ruling) → end ≡ driven.Ready ruling → mark ≡ kept.Yes
    → Ended old new ticket (GivenUp why.NoMemory) reply mark → Settles old new ticket end outcome.Parked
out_kept {old} {new} {reply} {mark} ticket end ruling is marked e =
    (subst (Ended old new ticket (GivenUp why.NoMemory) (park_reply why.NoMemory)) marked (park-replied ticket why.NoMemory e), subst (λ d. EndsBy d (GivenUp why.NoMemory)) (sym is) refl)

-- or isn't
pub out_unkept : {old new : Known} {reply : Reply} {mark : Kept} (ticket : Flight) (end : Driven) (ruling : Ruling) → end ≡ driven.Ready ruling → BreaksFor true mark fault.NoMemory
    → Ended old new ticket (GivenUp why.NoMemory) reply mark → Settles old new ticket end (outcome.Unkept fault.NoMemory)
out_unkept {old} {new} {reply} {mark} ticket end ruling is breaks e =
    (GivenUp why.NoMemory, reply, mark, e, subst (λ d. EndsBy d (GivenUp why.NoMemory)) (sym is) refl, breaks)

pub breaks_out : (mark : Kept) → mark ≡ kept.Failed → BreaksFor true mark fault.NoMemory
breaks_out mark is = subst (λ m. BreaksFor true m fault.NoMemory) (sym is) refl

pub breaks_too : (mark : Kept) → mark ≡ kept.NoMemory → BreaksFor true mark fault.NoMemory
breaks_too mark is = subst (λ m. BreaksFor true m fault.NoMemory) (sym is) refl

-- who may finish a run may park it
pub may_park : (known : Known) (ticket : Flight) (ruling : Ruling) (reason : Why) → MayDo known (act.Finish ticket ruling) → MayDo known (act.Park ticket reason)
may_park known ticket ruling reason may = record { small = may.small; own = may.own; clock = tt }

-- and whose call waits may finish its run
pub may_finish : {old new : Known} {raw : Raw} {mark : Kept} (ticket : Flight) (ruling : Ruling) → Entered old new (act.Call raw) (answer.Wait ticket) mark → new.caller < 2 ^ 62
    → MayDo new (act.Finish ticket ruling)
may_finish {old} {new} {raw} {mark} ticket ruling e small =
    let entries : entries_in new.front ≡ entries_in e.before ++ call_entry old.caller raw ∷ [] =
    ap entries_in e.front ∙ map-append (λ (f : Filed). f.entry) e.before (filed old.caller (act.Call raw) mark ∷ []) in
    record {
      small = small;
      own = subst (λ (s : Setup). Holds s (entries_in new.front) new.caller ticket) (sym e.same.setup)
          (subst (λ (c : ℕ). Holds old.setup (entries_in new.front) c ticket) (sym e.same.caller)
          (subst (λ (h : List Entry). Holds old.setup h old.caller ticket) (sym entries) e.answered.live));
      clock = tt;
    }

-- whose call waits may park its run
pub may_give_up : {old new : Known} {raw : Raw} {mark : Kept} (ticket : Flight) (reason : Why) → Entered old new (act.Call raw) (answer.Wait ticket) mark → new.caller < 2 ^ 62
    → MayDo new (act.Park ticket reason)
may_give_up {old} {new} {raw} {mark} ticket reason e small = may_park new ticket ruling.Approved reason (may_finish ticket ruling.Approved e small)

-- ---- replies that are written

-- the reply has a status that replies are written with
pub writable : (means0 means1 : Means) (raw : Raw) (what : Outcome) → Answers means0 means1 raw what → IsWritable what
writable means0 means1 raw (outcome.Reply reply) answers = answers.2.status
writable means0 means1 raw outcome.Parked answers = tt
writable means0 means1 raw (outcome.Unkept why) answers = tt
writable means0 means1 raw outcome.Full answers = tt
writable means0 means1 raw outcome.NoMemory answers = tt
