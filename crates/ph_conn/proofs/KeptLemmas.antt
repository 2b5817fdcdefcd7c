-- A session over a history all of whose entries are kept.
use Rattle.std.proofs.Common.{◌≡◌, ℕ, ◌∷◌, ◌++◌, List, [], map, Option, Some, None, Result, refl, ap, ◌∙◌, subst}
use Rattle.ph_io.specs.Told.{SourceState, SinkState}
use Rattle.ph_lock.specs.Histories.{StartsWith}
use Rattle.ph_bank.specs.Links.{Link}
use Rattle.ph_bank.specs.Patiences.{Granted}
use Rattle.ph_book.specs.declared.acts.Entry.{Entry}
use Rattle.ph_book.specs.declared.hosted.Kept.TheVariants as kept
use Rattle.ph_book.specs.History.{replies_of}
use Rattle.ph_book.specs.State.{BookState}
use Rattle.ph_conn.specs.Fronts.{Filed, entries_in, kept_entry, known_alone}
use Rattle.ph_conn.specs.Means.{Means}
use Rattle.ph_conn.specs.Parts.{Run, Part, AllKept, AllStand, EndFollows, behind, called, end_filed, end_mark, ended, first_mark, place_behind}
use Rattle.ph_conn.specs.Session.{Session, SoloSession}
use Rattle.ph_conn.specs.declared.endings.Closed.{Closed}
use Rattle.ph_conn.specs.declared.endings.TalkError.{TalkError}
use Rattle.ph_conn.proofs.FrontLemmas.{starts-twice}
use Rattle.ph_conn.proofs.PartLemmas.{part-starts}
use Rattle.ph_conn.proofs.SoloLemmas.{replies_behind_all}

-- each of these is kept
abbrev pub AllYes : List Filed → Type 0
AllYes [] = Unit {0}
AllYes (first ∷ rest) = (first.kept ≡ kept.Yes) × AllYes rest

history-yes : (history : List Entry) → AllYes (map kept_entry history)
history-yes [] = tt
history-yes (entry ∷ history) = (refl, history-yes history)

front-yes : (front more : List Filed) → AllYes (front ++ more) → AllYes front
front-yes [] more are = tt
front-yes (first ∷ front) more are = (are.0, front-yes front more are.1)

last-yes : (before : List Filed) (last : Filed) → AllYes (before ++ last ∷ []) → last.kept ≡ kept.Yes
last-yes [] last are = are.0
last-yes (first ∷ before) last are = last-yes before last are.1

seen-yes : (whole seen : List Filed) → StartsWith whole seen → AllYes whole → AllYes seen
seen-yes whole seen s are = front-yes seen s.0 (subst AllYes s.1 are)

-- the parts stand behind the first history
stand-starts : (caller : ℕ) (first last : List Filed) (parts : List Part) → AllStand caller first last parts → StartsWith last first
stand-starts caller first last [] stand = stand
stand-starts caller first last (part ∷ parts) stand =
    starts-twice first (behind caller part) last (part-starts caller first part stand.0) (stand-starts caller (behind caller part) last parts stand.1)

run-kept : (caller : ℕ) (part : Part) (run : Option Run) → EndFollows (called caller part) run → AllYes (ended caller (place_behind part.before) (called caller part) run)
    → first_mark part.kept (end_mark run) ≡ kept.Yes
run-kept caller part None follows are = ap (λ m. first_mark m kept.Yes) (last-yes part.before _ are)
run-kept caller part (Some run) follows are =
    let call : part.kept ≡ kept.Yes = last-yes part.before _ (seen-yes run.before (called caller part) follows (front-yes run.before _ are)) in
    ap (λ m. first_mark m run.kept) call ∙ last-yes run.before (end_filed caller (place_behind part.before) run) are

all-kept : (caller : ℕ) (first last : List Filed) (parts : List Part) → AllYes last → AllStand caller first last parts → AllKept parts
all-kept caller first last [] are stand = tt
all-kept caller first last (part ∷ parts) are stand = (
  run-kept caller part part.run stand.0.1 (seen-yes last (behind caller part) (stand-starts caller (behind caller part) last parts stand.1) are),
  all-kept caller (behind caller part) last parts are stand.1,
)

-- over a book alone each entry is kept, and each reply is one of the session
pub alone : {result : Result Closed TalkError} {limit : ℕ} {link0 link1 : Link} {counts0 counts1 : Granted} {input0 input1 : SourceState} {output0 output1 : SinkState} (old new : BookState)
    → Session result limit (record { known = known_alone old; link = link0; counts = counts0 }) (record { known = known_alone new; link = link1; counts = counts1 }) input0 input1 output0 output1
    → SoloSession result limit (record { known = known_alone old; link = link0; counts = counts0 }) (record { known = known_alone new; link = link1; counts = counts1 }) input0 input1 output0 output1
alone old new s = record {
  session = s;
  kept = all-kept 0 (known_alone old).front (known_alone new).front s.parts (history-yes new.history) s.stand;
  answered = ap (λ setup. replies_of setup (entries_in (known_alone new).front)) s.same.setup
      ∙ replies_behind_all old.setup 0 (known_alone old).front (known_alone new).front s.parts s.replies s.one_history s.stand s.entered_once s.followed s.replied;
}
