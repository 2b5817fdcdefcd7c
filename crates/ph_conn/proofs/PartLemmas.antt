-- Parts of a session, one more behind others.
use Rattle.std.proofs.Common.{◌≡◌, ◌≢◌, ℕ, zero, suc, ◌+◌, ◌∷◌, ◌++◌, true, List, [], Option, Some, None, refl, sym, ap, ◌∙◌, append_assoc, arith}
use Rattle.std.proofs.lemmas.List.{append-nil, map-append}
use Rattle.std.proofs.lemmas.Grind.{flat_map-append}
use Rattle.ph_base.specs.Counts.{Rose}
use Rattle.ph_base.specs.declared.acquirer.Ruling.{Ruling}
use Rattle.ph_base.specs.declared.acquirer.Why.TheVariants as why
use Rattle.ph_items.specs.declared.orders.Order.{Order}
use Rattle.ph_errors.specs.Table.{error_of}
use Rattle.ph_lock.specs.Histories.{StartsWith}
use Rattle.ph_bank.specs.declared.asking.Ask.{Ask}
use Rattle.ph_bank.specs.declared.driving.Driven.{Driven}
use Rattle.ph_bank.specs.declared.driving.Driven.TheVariants as driven
use Rattle.ph_bank.specs.Drives.{EndsDecided}
use Rattle.ph_bank.specs.Links.{IsDecided, KeepsDecisions, Link, and_asks}
use Rattle.ph_bank.specs.Patiences.{Granted, next_count, counted_on}
use Rattle.ph_http.specs.declared.message.Raw.{Raw}
use Rattle.ph_http.specs.declared.message.Reply.{Reply}
use Rattle.ph_book.specs.declared.hosted.Kept.{Kept}
use Rattle.ph_book.specs.declared.hosted.Kept.TheVariants as kept
use Rattle.ph_book.specs.declared.setup.Setup.{Setup}
use Rattle.ph_book.specs.Answers.{is_ruled}
use Rattle.ph_book.specs.Entries.{call_entry}
use Rattle.ph_book.specs.Replies.{Said, Replies, Waits, Silence, park_reply}
use Rattle.ph_conn.specs.Fronts.{Filed, Known, said_behind}
use Rattle.ph_conn.specs.Means.{Means, Counted, RoseBy}
use Rattle.ph_conn.specs.Parts.{Ending, Settled, GivenUp, Drive, Run, Part, requests_of, entries_of, mine_of, Stands, AllStand, behind, called, ended, place_behind, PartFollows, Follows, EndsAs, AllFollow, IsReplyOf, IsReplyBy, IsReplyTo, AreReplies, AreNoParks, asks_in, asks_of, DriveDecided, RunDecided, AllDecided, failures_in, refusals_in, in_run, if_driven, over_runs, failures, refusals, grants, drives, first_mark, end_mark, IsWell, AllWell, AllKept}
use Rattle.ph_conn.proofs.FrontLemmas.{starts-more, starts-twice}

-- ---- where they stand

-- the history up to the end of a part begins with what stood before the part
behind-starts : (caller : ℕ) (first : List Filed) (part : Part) (run : Option Run) → StartsWith part.before first → Stands caller first (record part { run = run })
    → StartsWith (ended caller (place_behind part.before) (called caller part) run) first
behind-starts caller first part None seen stands = starts-twice first part.before _ seen (starts-more part.before _)
behind-starts caller first part (Some run) seen stands =
    starts-twice first run.before _
    (starts-twice first (called caller part) run.before (starts-twice first part.before (called caller part) seen (starts-more part.before _)) stands.1) (starts-more run.before _)

pub part-starts : (caller : ℕ) (first : List Filed) (part : Part) → Stands caller first part → StartsWith (behind caller part) first
part-starts caller first part stands = behind-starts caller first part part.run stands.0 stands

pub stand-push : (caller : ℕ) (first now last : List Filed) (parts : List Part) (part : Part) → AllStand caller first now parts → Stands caller now part
    → StartsWith last (behind caller part) → AllStand caller first last (parts ++ part ∷ [])
stand-push caller first now last [] part all is next = ((starts-twice first now part.before all is.0, is.1), next)
stand-push caller first now last (part' ∷ parts) part all is next = (all.0, stand-push caller (behind caller part') now last parts part all.1 is next)

pub stand-saw : (caller : ℕ) (first now last : List Filed) (parts : List Part) → AllStand caller first now parts → StartsWith last now → AllStand caller first last parts
stand-saw caller first now last [] all saw = starts-twice first now last all saw
stand-saw caller first now last (part ∷ parts) all saw = (all.0, stand-saw caller (behind caller part) now last parts all.1 saw)

-- ---- entries

mine-push : (caller : ℕ) (parts : List Part) (part : Part) → mine_of caller (parts ++ part ∷ []) ≡ mine_of caller parts ++ entries_of caller part
mine-push caller parts part =
    flat_map-append (entries_of caller) parts (part ∷ []) ∙ ap (λ (more : List (ℕ × Filed)). mine_of caller parts ++ more) (append-nil (entries_of caller part))

-- the entries of a part behind those of others
pub entered-push : (caller : ℕ) (first now last : List (ℕ × Filed)) (parts : List Part) (part : Part) → now ≡ first ++ mine_of caller parts
    → last ≡ now ++ entries_of caller part → last ≡ first ++ mine_of caller (parts ++ part ∷ [])
entered-push caller first now last parts part before here =
    here ∙ ap (λ (own : List (ℕ × Filed)). own ++ entries_of caller part) before
    ∙ append_assoc first (mine_of caller parts) (entries_of caller part)
    ∙ ap (λ (more : List (ℕ × Filed)). first ++ more) (sym (mine-push caller parts part))

pub follow-push : (setup : Setup) (caller : ℕ) (parts : List Part) (part : Part) → AllFollow setup caller parts → PartFollows setup caller part
    → AllFollow setup caller (parts ++ part ∷ [])
follow-push setup caller [] part all last = (last, tt)
follow-push setup caller (part' ∷ parts) part all last = (all.0, follow-push setup caller parts part all.1 last)

-- ---- requests, replies and asks

pub requests-push : (parts : List Part) (part : Part) → requests_of (parts ++ part ∷ []) ≡ requests_of parts ++ part.raw ∷ []
requests-push parts part = map-append (λ (p : Part). p.raw) parts (part ∷ [])

-- the requests of a front, one further
pub front-push : (whole rest : List Raw) (parts : List Part) (part : Part) → whole ≡ requests_of parts ++ part.raw ∷ rest
    → whole ≡ requests_of (parts ++ part ∷ []) ++ rest
front-push whole rest parts part is =
    is ∙ sym (append_assoc (requests_of parts) (part.raw ∷ []) rest) ∙ ap (λ raws. raws ++ rest) (sym (requests-push parts part))

pub replies-push : (setup : Setup) (caller : ℕ) (parts : List Part) (replies : List Reply) (part : Part) (reply : Reply) → AreReplies setup caller parts replies
    → IsReplyTo setup caller part reply → AreReplies setup caller (parts ++ part ∷ []) (replies ++ reply ∷ [])
replies-push setup caller [] [] part reply are is = (is, tt)
replies-push setup caller [] (first ∷ replies) part reply are is = absurd are
replies-push setup caller (first ∷ parts) [] part reply are is = absurd are
replies-push setup caller (first ∷ parts) (given ∷ replies) part reply are is = (are.0, replies-push setup caller parts replies part reply are.1 is)

asks-push : (parts : List Part) (part : Part) → asks_of (parts ++ part ∷ []) ≡ asks_of parts ++ asks_in part.run
asks-push parts part =
    flat_map-append (λ (p : Part). asks_in p.run) parts (part ∷ []) ∙ ap (λ more. asks_of parts ++ more) (append-nil (asks_in part.run))

pub and_asks-none : (asked : Option (List Ask)) → and_asks asked [] ≡ asked
and_asks-none None = refl
and_asks-none (Some asks) = ap Some (append-nil asks)

and_asks-twice : (asked : Option (List Ask)) (first more : List Ask) → and_asks (and_asks asked first) more ≡ and_asks asked (first ++ more)
and_asks-twice None first more = refl
and_asks-twice (Some asks) first more = ap Some (append_assoc asks first more)

pub asked-push : (first now last : Option (List Ask)) (parts : List Part) (part : Part) → now ≡ and_asks first (asks_of parts)
    → last ≡ and_asks now (asks_in part.run) → last ≡ and_asks first (asks_of (parts ++ part ∷ []))
asked-push first now last parts part before here =
    here ∙ ap (λ asked. and_asks asked (asks_in part.run)) before ∙ and_asks-twice first (asks_of parts) (asks_in part.run)
    ∙ ap (and_asks first) (sym (asks-push parts part))

-- ---- decisions

-- a ruling that is decided stays so
still-decided : (before now : Option (ℕ → Option Ruling)) (reference : ℕ) (ruling : Ruling) → IsDecided before reference (Some ruling) → KeepsDecisions before now
    → IsDecided now reference (Some ruling)
still-decided None None reference ruling is keeps = tt
still-decided None (Some now) reference ruling is keeps = let no : Some now ≡ None = keeps in cc
still-decided (Some before) None reference ruling is keeps = absurd keeps
still-decided (Some before) (Some now) reference ruling is keeps = keeps reference ruling is

drive-decided : (before now : Link) (order : Order) (end : Driven) → EndsDecided before order end → KeepsDecisions before.decisions now.decisions → EndsDecided now order end
drive-decided before now order (driven.Ready ruling) is keeps = still-decided before.decisions now.decisions order.reference ruling is keeps
drive-decided before now order driven.GaveUp is keeps = tt
drive-decided before now order driven.Failed is keeps = tt

run-decided : (before now : Link) (run : Option Run) → RunDecided before run → KeepsDecisions before.decisions now.decisions → RunDecided now run
run-decided before now None is keeps = tt
run-decided before now (Some run) is keeps = at run.drive is
  where
    at : (drive : Option Drive) → DriveDecided before run.order drive → DriveDecided now run.order drive
    at None is = tt
    at (Some drive) is = drive-decided before now run.order drive.driven is keeps

all-decided : (before now : Link) (parts : List Part) → AllDecided before parts → KeepsDecisions before.decisions now.decisions → AllDecided now parts
all-decided before now [] all keeps = tt
all-decided before now (part ∷ parts) all keeps = (run-decided before now part.run all.0 keeps, all-decided before now parts all.1 keeps)

decided-behind : (link : Link) (parts : List Part) (part : Part) → AllDecided link parts → RunDecided link part.run → AllDecided link (parts ++ part ∷ [])
decided-behind link [] part all is = (is, tt)
decided-behind link (first ∷ parts) part all is = (all.0, decided-behind link parts part all.1 is)

pub decided-push : (before now : Link) (parts : List Part) (part : Part) → AllDecided before parts → KeepsDecisions before.decisions now.decisions
    → RunDecided now part.run → AllDecided now (parts ++ part ∷ [])
decided-push before now parts part all keeps is = decided-behind now parts part (all-decided before now parts all keeps) is

-- ---- counts

over-push : (number : Drive → Ending → ℕ) (parts : List Part) (part : Part)
    → over_runs number (parts ++ part ∷ []) ≡ over_runs number parts + in_run number part.run
over-push number [] part = omega arith
over-push number (first ∷ parts) part = let rest = over-push number parts part in omega (arith, rest)

counted_on-sum : (count a b : ℕ) → counted_on count (a + b) ≡ counted_on (counted_on count a) b
counted_on-sum count a zero = let same : a + 0 ≡ a = omega arith in ap (counted_on count) same
counted_on-sum count a (suc b) =
    let same : a + suc b ≡ suc (a + b) = omega arith in
    ap (counted_on count) same ∙ ap next_count (counted_on-sum count a b)

rose-twice : (a b c n m k : ℕ) → k ≡ n + m → RoseBy n a b → RoseBy m b c → RoseBy k a c
rose-twice a b c n m k sum first second = omega (arith, sum, first, second)

on-twice : (a b c n m k : ℕ) → k ≡ n + m → b ≡ counted_on a n → c ≡ counted_on b m → c ≡ counted_on a k
on-twice a b c n m k sum first second =
    second ∙ ap (λ x. counted_on x m) first ∙ sym (counted_on-sum a n m) ∙ ap (counted_on a) (sym sum)

pub counted-push : (first now last : Means) (parts : List Part) (part : Part)
    → Counted first now (over_runs failures parts) (over_runs refusals parts) (over_runs grants parts) (over_runs drives parts)
    → Counted now last (in_run failures part.run) (in_run refusals part.run) (in_run grants part.run) (in_run drives part.run)
    → let all = parts ++ part ∷ [] in Counted first last (over_runs failures all) (over_runs refusals all) (over_runs grants all) (over_runs drives all)
counted-push first now last parts part before here = record {
  faults = rose-twice _ _ _ _ _ _ (over-push failures parts part) before.faults here.faults;
  faults_not_fallen = omega (arith, before.faults_not_fallen, here.faults_not_fallen);
  refusals = rose-twice _ _ _ _ _ _ (over-push refusals parts part) before.refusals here.refusals;
  refusals_not_fallen = omega (arith, before.refusals_not_fallen, here.refusals_not_fallen);
  grants = on-twice _ _ _ _ _ _ (over-push grants parts part) before.grants here.grants;
  starts = on-twice _ _ _ _ _ _ (over-push drives parts part) before.starts here.starts;
}

pub counted-none : (old new : Known) (link : Link) (counts : Granted)
    → Counted (record { known = old; link = link; counts = counts }) (record { known = new; link = link; counts = counts }) 0 0 0 0
counted-none old new link counts = record {
  faults = omega arith;
  faults_not_fallen = omega arith;
  refusals = omega arith;
  refusals_not_fallen = omega arith;
  grants = refl;
  starts = refl;
}

-- ---- want of memory, and entries that aren't kept

pub well-push : (parts : List Part) (part : Part) → AllWell parts → IsWell part → AllWell (parts ++ part ∷ [])
well-push [] part all is = (is, tt)
well-push (first ∷ parts) part all is = (all.0, well-push parts part all.1 is)

-- ---- completeness

no_memory_status : (park_reply why.NoMemory).status ≡ 503
unfolding error_of
no_memory_status = refl

-- a reply to a ruling is no reply to a park
ruled_is_no_park : (status : ℕ) → is_ruled status ≡ true → status ≢ 500
ruled_is_no_park status ruled is = let both : is_ruled 500 ≡ true = ap is_ruled (sym is) ∙ ruled in cc

ending-answered : (ending : Ending) (reply : Reply) → IsReplyOf ending reply → failures_in ending ≡ 0 → refusals_in ending ≡ 0 → reply.status ≢ 500
ending-answered (Settled ruling) reply is failed refused = ruled_is_no_park reply.status is
ending-answered (GivenUp why.Pending) reply is failed refused = absurd (omega (arith, refused))
ending-answered (GivenUp why.Failed) reply is failed refused = absurd (omega (arith, failed))
ending-answered (GivenUp why.NoMemory) reply is failed refused =
    λ other. let status : reply.status ≡ 503 = ap (λ (r : Reply). r.status) is ∙ no_memory_status in omega (arith, status, other)

-- the run of a call that is kept was driven
drive-answered : (order : Order) (mark : Kept) (drive : Option Drive) (ending : Ending) (reply : Reply) → mark ≡ kept.Yes → EndsAs order mark drive ending → IsReplyOf ending reply
    → if_driven failures drive ending ≡ 0 → if_driven refusals drive ending ≡ 0 → reply.status ≢ 500
drive-answered order kept.Yes None ending reply marked ends is failed refused = absurd ends
drive-answered order kept.Yes (Some drive) ending reply marked ends is failed refused = ending-answered ending reply is failed refused
drive-answered order kept.Failed drive ending reply marked ends is failed refused = absurd (cc)
drive-answered order kept.NoMemory drive ending reply marked ends is failed refused = absurd (cc)

run-answered : (said : Said) (mark : Kept) (run : Option Run) (reply : Reply) → mark ≡ kept.Yes → Follows said mark run → IsReplyBy run reply
    → in_run failures run ≡ 0 → in_run refusals run ≡ 0 → reply.status ≢ 500
run-answered said mark None reply marked follows is failed refused = is
run-answered (Replies said) mark (Some run) reply marked follows is failed refused = absurd follows
run-answered (Waits order) mark (Some run) reply marked follows is failed refused =
    drive-answered order mark run.drive run.ending reply marked follows.ends is failed refused
run-answered Silence mark (Some run) reply marked follows is failed refused = absurd follows

-- where all entries of a part are kept, its call is
call-kept : (mark end : Kept) → first_mark mark end ≡ kept.Yes → mark ≡ kept.Yes
call-kept kept.Yes end is = refl
call-kept kept.Failed end is = absurd (cc)
call-kept kept.NoMemory end is = absurd (cc)

all-answered : (setup : Setup) (caller : ℕ) (parts : List Part) (replies : List Reply) → AllFollow setup caller parts → AllKept parts → AreReplies setup caller parts replies
    → over_runs failures parts ≡ 0 → over_runs refusals parts ≡ 0 → AreNoParks replies
all-answered setup caller [] [] follow marked are failed refused = tt
all-answered setup caller [] (reply ∷ replies) follow marked are failed refused = absurd are
all-answered setup caller (part ∷ parts) [] follow marked are failed refused = absurd are
all-answered setup caller (part ∷ parts) (reply ∷ replies) follow marked are failed refused = (
  run-answered (said_behind setup part.before (call_entry caller part.raw)) part.kept part.run reply (call-kept part.kept (end_mark part.run) marked.0) follow.0 are.0.replied
      (omega (arith, failed)) (omega (arith, refused)),
  all-answered setup caller parts replies follow.1 marked.1 are.1 (omega (arith, failed)) (omega (arith, refused)),
)

none-rose : (n before now : ℕ) → RoseBy n before now → (Rose before now → ⊥) → n ≡ 0
none-rose zero before now rose stands = refl
none-rose (suc n) before now rose stands = absurd (stands (omega (arith, rose)))

-- where neither the link's faults nor the patience's refusals rose, and each entry is kept, no reply is to a run that was given up for them
pub completes : (setup : Setup) (caller : ℕ) (first last : Means) (parts : List Part) (replies : List Reply) → AllFollow setup caller parts → AreReplies setup caller parts replies
    → Counted first last (over_runs failures parts) (over_runs refusals parts) (over_runs grants parts) (over_runs drives parts)
    → (Rose first.link.faults last.link.faults → ⊥) → (Rose first.counts.refusals last.counts.refusals → ⊥) → AllKept parts → AreNoParks replies
completes setup caller first last parts replies follow are counted no_fault no_refusal marked =
    all-answered setup caller parts replies follow marked are (none-rose _ _ _ counted.faults no_fault) (none-rose _ _ _ counted.refusals no_refusal)
