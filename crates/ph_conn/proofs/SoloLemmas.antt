-- A session over a book that no one else has: the replies of its history.
use Rattle.std.proofs.Common.{◌≡◌, ℕ, ◌+◌, ◌∷◌, ◌++◌, List, [], length, Option, Some, None, refl, sym, ap, ◌∙◌, subst, append_assoc, arith}
use Rattle.std.proofs.lemmas.List.{append-nil, append_cancel_left, length-append, length_push, map-append}
use Rattle.ph_lock.specs.Histories.{StartsWith}
use Rattle.ph_http.specs.declared.message.Raw.{Raw}
use Rattle.ph_http.specs.declared.message.Reply.{Reply}
use Rattle.ph_book.specs.declared.hosted.Kept.{Kept}
use Rattle.ph_book.specs.declared.setup.Setup.{Setup}
use Rattle.ph_book.specs.Entries.{call_entry}
use Rattle.ph_book.specs.History.{replies_of}
use Rattle.ph_book.specs.Replies.{Said, Replies, Waits, Silence, replies_said}
use Rattle.ph_book.proofs.HistoryLemmas.{replies_more}
use Rattle.ph_conn.specs.Fronts.{Filed, entries_in, placed_from, said_behind}
use Rattle.ph_conn.specs.Parts.{Run, Part, AllFollow, AllStand, AreReplies, Follows, IsReplyTo, PartFollows, Stands, behind, call_filed, called, end_filed, entries_of, mine_of, place_behind}

nothing : {A : Type 0} (xs : List A) → length xs ≡ 0 → xs ≡ []
nothing [] long = refl
nothing (x ∷ xs) long = absurd (omega (arith, long))

-- a history that begins with another of its length is that one
same-length : {A : Type 0} (xs ys : List A) → StartsWith xs ys → length xs ≡ length ys → xs ≡ ys
same-length xs ys s long =
    let joined : length xs ≡ length ys + length s.0 = ap length s.1 ∙ length-append ys s.0 in
    s.1 ∙ ap (λ more. ys ++ more) (nothing s.0 (omega (arith, joined, long))) ∙ append-nil ys

-- the first of entries with their places, and those behind it
abbrev place_at : List (ℕ × Filed) → ℕ
place_at [] = 0
place_at (own ∷ rest) = own.0

abbrev filed_at : Filed → List (ℕ × Filed) → Filed
filed_at other [] = other
filed_at other (own ∷ rest) = own.1

abbrev behind_first : List (ℕ × Filed) → List (ℕ × Filed)
behind_first [] = []
behind_first (own ∷ rest) = rest

placed-append : (place : ℕ) (xs ys : List Filed) → placed_from place (xs ++ ys) ≡ placed_from place xs ++ placed_from (place + length xs) ys
placed-append place [] ys = let same : place ≡ place + 0 = omega arith in ap (λ n. placed_from n ys) same
placed-append place (x ∷ xs) ys =
    let same : (place + 1) + length xs ≡ place + length (x ∷ xs) = omega arith in
    ap (λ rest. (place, x) ∷ rest) (placed-append (place + 1) xs ys ∙ ap (λ n. placed_from (place + 1) xs ++ placed_from n ys) same)

-- the replies of a history with one entry more
one-more : (setup : Setup) (first : List Filed) (x : Filed) (replies : List Reply) → replies_said (said_behind setup first x.entry) ≡ replies
    → replies_of setup (entries_in (first ++ x ∷ [])) ≡ replies_of setup (entries_in first) ++ replies
one-more setup first x replies said =
    ap (replies_of setup) (map-append (λ (f : Filed). f.entry) first (x ∷ [])) ∙ replies_more setup (entries_in first) x.entry
    ∙ ap (λ rs. replies_of setup (entries_in first) ++ rs) said

-- to a call that waits no reply is said
no-reply : (said : Said) (mark : Kept) (run : Run) → Follows said mark (Some run) → replies_said said ≡ []
no-reply (Replies reply) mark run follows = absurd follows
no-reply (Waits order) mark run follows = refl
no-reply Silence mark run follows = absurd follows

-- what the parts behind a history add to its replies
abbrev Adds : Setup → ℕ → List Part → List Reply → Type 0
Adds setup caller parts replies = (now later : List Filed) → AllStand caller now (now ++ later) parts → placed_from (length now + 1) later ≡ mine_of caller parts
    → replies_of setup (entries_in (now ++ later)) ≡ replies_of setup (entries_in now) ++ replies

-- a part that stands behind a history stands directly behind it, where the caller's places say so
at-once : (first before : List Filed) → StartsWith before first → length first + 1 ≡ length before + 1 → before ≡ first
at-once first before seen place = same-length before first seen (omega (arith, place))

one-part : (setup : Setup) (caller : ℕ) (first more : List Filed) (x : Filed) (raw : Raw) (before : List Filed) (mark : Kept) (run : Option Run) (parts : List Part) (reply : Reply) (replies : List Reply)
    → let part : Part = record { raw = raw; before = before; kept = mark; run = run } in
    Stands caller first part → AllStand caller (behind caller part) (first ++ x ∷ more) parts
    → (length first + 1, x) ∷ placed_from (length first + 1 + 1) more ≡ entries_of caller part ++ mine_of caller parts
    → PartFollows setup caller part → IsReplyTo setup caller part reply → Adds setup caller parts replies
    → replies_of setup (entries_in (first ++ x ∷ more)) ≡ replies_of setup (entries_in first) ++ reply ∷ replies
one-part setup caller first more x raw before mark None parts reply replies stands all placed follows is further =
    let part : Part = record { raw = raw; before = before; kept = mark; run = None } in
    let call : x ≡ call_filed caller part = ap (filed_at x) placed in
    let same : before ≡ first = at-once first before stands.0 (ap place_at placed) in
    let here : List Filed = first ++ x ∷ [] in
    let now_is : called caller part ≡ here = ap (λ (b : List Filed). b ++ call_filed caller part ∷ []) same ∙ ap (λ (c : Filed). first ++ c ∷ []) (sym call) in
    let whole : first ++ x ∷ more ≡ here ++ more = sym (append_assoc first (x ∷ []) more) in
    let long : length here + 1 ≡ length first + 1 + 1 = ap (λ n. n + 1) (length_push first x) in
    let said : replies_said (said_behind setup first x.entry) ≡ reply ∷ [] =
    ap (λ (f : Filed). replies_said (said_behind setup first f.entry)) call
    ∙ ap (λ (b : List Filed). replies_said (said_behind setup b (call_entry caller raw))) (sym same) ∙ ap replies_said is.said in
    ap (λ (w : List Filed). replies_of setup (entries_in w)) whole
    ∙ further here more
    (subst (λ (h : List Filed). AllStand caller h (here ++ more) parts) now_is (subst (λ (w : List Filed). AllStand caller (called caller part) w parts) whole all))
    (ap (λ n. placed_from n more) long ∙ ap behind_first placed)
    ∙ ap (λ rs. rs ++ replies) (one-more setup first x (reply ∷ []) said)
    ∙ append_assoc (replies_of setup (entries_in first)) (reply ∷ []) replies
one-part setup caller first [] x raw before mark (Some run) parts reply replies stands all placed follows is further =
    absurd (let none : [] ≡ (place_behind run.before, end_filed caller (place_behind before) run) ∷ mine_of caller parts = ap behind_first placed in cc)
one-part setup caller first (y ∷ more) x raw before mark (Some run) parts reply replies stands all placed follows is further =
    let part : Part = record { raw = raw; before = before; kept = mark; run = Some run } in
    let call : x ≡ call_filed caller part = ap (filed_at x) placed in
    let end : y ≡ end_filed caller (place_behind before) run = ap (λ own. filed_at y (behind_first own)) placed in
    let same : before ≡ first = at-once first before stands.0 (ap place_at placed) in
    let here : List Filed = first ++ x ∷ [] in
    let there : List Filed = here ++ y ∷ [] in
    let now_is : called caller part ≡ here = ap (λ (b : List Filed). b ++ call_filed caller part ∷ []) same ∙ ap (λ (c : Filed). first ++ c ∷ []) (sym call) in
    let long : length here ≡ length first + 1 = length_push first x in
    let place : length first + 1 + 1 ≡ length run.before + 1 = ap (λ own. place_at (behind_first own)) placed in
    let again : run.before ≡ here = at-once here run.before (subst (StartsWith run.before) now_is stands.1) (ap (λ n. n + 1) long ∙ place) in
    let then_is : run.before ++ end_filed caller (place_behind before) run ∷ [] ≡ there =
    ap (λ (b : List Filed). b ++ end_filed caller (place_behind before) run ∷ []) again ∙ ap (λ (f : Filed). here ++ f ∷ []) (sym end) in
    let whole : first ++ x ∷ y ∷ more ≡ there ++ more = sym (append_assoc first (x ∷ []) (y ∷ more)) ∙ sym (append_assoc here (y ∷ []) more) in
    let longer : length there + 1 ≡ length first + 1 + 1 + 1 = ap (λ n. n + 1) (length_push here y) ∙ ap (λ n. n + 1 + 1) long in
    let waits : replies_said (said_behind setup first x.entry) ≡ [] =
    ap (λ (f : Filed). replies_said (said_behind setup first f.entry)) call
    ∙ ap (λ (b : List Filed). replies_said (said_behind setup b (call_entry caller raw))) (sym same)
    ∙ no-reply (said_behind setup before (call_entry caller raw)) mark run follows in
    let said : replies_said (said_behind setup here y.entry) ≡ reply ∷ [] =
    ap (λ (f : Filed). replies_said (said_behind setup here f.entry)) end
    ∙ ap (λ (b : List Filed). replies_said (said_behind setup b (end_filed caller (place_behind before) run).entry)) (sym again) ∙ ap replies_said is.said in
    ap (λ (w : List Filed). replies_of setup (entries_in w)) whole
    ∙ further there more
    (subst (λ (h : List Filed). AllStand caller h (there ++ more) parts) then_is (subst (λ (w : List Filed). AllStand caller (behind caller part) w parts) whole all))
    (ap (λ n. placed_from n more) longer ∙ ap (λ own. behind_first (behind_first own)) placed)
    ∙ ap (λ rs. rs ++ replies) (one-more setup here y (reply ∷ []) said ∙ ap (λ rs. rs ++ reply ∷ []) (one-more setup first x [] waits ∙ append-nil (replies_of setup (entries_in first))))
    ∙ append_assoc (replies_of setup (entries_in first)) (reply ∷ []) replies

all-parts : (setup : Setup) (caller : ℕ) (parts : List Part) (replies : List Reply) → AllFollow setup caller parts → AreReplies setup caller parts replies → Adds setup caller parts replies
all-parts setup caller [] [] follow are now [] all placed =
    ap (λ (w : List Filed). replies_of setup (entries_in w)) (append-nil now) ∙ sym (append-nil (replies_of setup (entries_in now)))
all-parts setup caller [] [] follow are now (x ∷ later) all placed = absurd (cc)
all-parts setup caller [] (reply ∷ replies) follow are now later all placed = absurd are
all-parts setup caller (part ∷ parts) [] follow are now later all placed = absurd are
all-parts setup caller (part ∷ parts) (reply ∷ replies) follow are now [] all placed = absurd (cc)
all-parts setup caller (part ∷ parts) (reply ∷ replies) follow are now (x ∷ later) all placed =
    one-part setup caller now later x part.raw part.before part.kept part.run parts reply replies all.0 all.1 placed follow.0 are.0 (all-parts setup caller parts replies follow.1 are.1)

-- the replies of a history in which a caller's parts are all that came behind another are those of the other and those of the parts
pub replies_behind_all : (setup : Setup) (caller : ℕ) (first last : List Filed) (parts : List Part) (replies : List Reply) → StartsWith last first → AllStand caller first last parts
    → placed_from 1 last ≡ placed_from 1 first ++ mine_of caller parts → AllFollow setup caller parts → AreReplies setup caller parts replies
    → replies_of setup (entries_in last) ≡ replies_of setup (entries_in first) ++ replies
replies_behind_all setup caller first last parts replies begins all placed follow are =
    let place : 1 + length first ≡ length first + 1 = omega arith in
    let behind_first_is : placed_from (length first + 1) begins.0 ≡ mine_of caller parts =
    ap (λ n. placed_from n begins.0) (sym place)
    ∙ append_cancel_left (placed_from 1 first) (placed_from (1 + length first) begins.0) (mine_of caller parts)
    (sym (placed-append 1 first begins.0) ∙ ap (placed_from 1) (sym begins.1) ∙ placed) in
    ap (λ (w : List Filed). replies_of setup (entries_in w)) begins.1
    ∙ all-parts setup caller parts replies follow are first begins.0 (subst (λ (w : List Filed). AllStand caller first w parts) begins.1 all) behind_first_is
