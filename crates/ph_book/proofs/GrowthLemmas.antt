-- A history that grows: what has no room stays without, and what begins a legal one is legal.
use Rattle.std.proofs.Common.{◌≡◌, ℕ, ◌+◌, ◌^◌, ◌<◌, ◌≤◌, ◌∷◌, ◌++◌, true, List, [], length, ap, ◌∙◌, length-append, arith}
use Rattle.std.specs.List.{fold}
use Rattle.std.proofs.lemmas.Bool.Decides.{nat_tests}
use Rattle.std.proofs.lemmas.List.Sums.{fold-append}
use Rattle.ph_doings.specs.Doings.{Doing, Leaves, Puts, Edits, Begins, Resumes, Parks, Settles}
use Rattle.ph_doings.specs.Runs.{live_runs, runs_ended}
use Rattle.ph_doings.proofs.Counted.{runs_are_counted}
use Rattle.ph_book.specs.declared.setup.Setup.{Setup}
use Rattle.ph_book.specs.declared.acts.Deed.{Deed}
use Rattle.ph_book.specs.declared.acts.Deed.TheVariants as deed
use Rattle.ph_book.specs.declared.acts.Entry.{Entry}
use Rattle.ph_book.specs.History.{Happening, and_then, doings_after, effect_after, happening_of, past_of}
use Rattle.ph_book.specs.Legal.{AreAllowed, IsAllowed, IsLegal, is_full, is_full_after, is_full_at, used_after, weight_after}
use Rattle.ph_book.specs.Stays.{doings_more}
use Rattle.ph_book.proofs.EffectLemmas.{Comes}
use Rattle.ph_book.proofs.HistoryLemmas.{weight_more}
use Rattle.ph_book.proofs.StandLemmas.{HasStood, comes_next, legal_stands, stood_more, view_after}

-- no doing ends more than one run
ended_few : (does : Doing) → runs_ended does ≤ 1
ended_few Leaves = omega arith
ended_few (Puts intent status) = omega arith
ended_few (Edits intent status) = omega arith
ended_few (Begins cause intent flight) = omega arith
ended_few (Resumes intent flight) = omega arith
ended_few (Parks intent flight) = omega arith
ended_few (Settles intent flight capture ruling) = omega arith

-- an entry takes no place away
used_grows : (setup : Setup) (past : List Happening) (entry : Entry) → HasStood setup past → IsAllowed setup past entry
    → used_after past ≤ used_after (and_then setup past entry)
used_grows setup past entry stood allowed =
    let h : Happening = happening_of setup past entry in
    let comes : Comes (view_after setup past) (doings_after past) (effect_after setup past entry) = comes_next setup past entry stood allowed in
    let counted = runs_are_counted (doings_after past) h.doing (comes.may, stood.stands.lawful) in
    let few = ended_few h.doing in
    let same = ap (λ x. length (live_runs x)) (doings_more past h) in
    let longer : length (and_then setup past entry) ≡ length past + 1 = length-append past (h ∷ []) in
    omega (arith, counted, few, same, longer)

-- and no weight
weight_grows : (setup : Setup) (past : List Happening) (entry : Entry) → weight_after setup past ≤ weight_after setup (and_then setup past entry)
weight_grows setup past entry = let more = weight_more setup past (happening_of setup past entry) in omega (arith, more)

full_at_more : (setup : Setup) (used used' weight weight' : ℕ) (d : Deed) → used ≤ used' → weight ≤ weight' → is_full_at setup used weight d ≡ true
    → is_full_at setup used' weight' d ≡ true
full_at_more setup used used' weight weight' (deed.Call raw) more heavier full = grind (arith, nat_tests)
full_at_more setup used used' weight weight' (deed.Finish run ruling) more heavier full = full
full_at_more setup used used' weight weight' (deed.Park run why) more heavier full = full
full_at_more setup used used' weight weight' deed.Resume more heavier full = grind (arith, nat_tests)
full_at_more setup used used' weight weight' (deed.Tick moment) more heavier full = grind (arith, nat_tests)

full_from : (setup : Setup) (past : List Happening) (more : List Entry) (d : Deed) → setup.entries < 2 ^ 32 → HasStood setup past → AreAllowed setup past more
    → is_full_after setup past d ≡ true → is_full_after setup (fold (and_then setup) past more) d ≡ true
full_from setup past [] d few stood allowed full = full
full_from setup past (entry ∷ entries) d few stood allowed full =
    full_from setup (and_then setup past entry) entries d few (stood_more setup past entry few stood allowed.0) allowed.1
    (full_at_more setup _ _ _ _ d (used_grows setup past entry stood allowed.0) (weight_grows setup past entry) full)

-- the entries behind others may come after them
allowed_behind : (setup : Setup) (past : List Happening) (history more : List Entry) → AreAllowed setup past (history ++ more)
    → AreAllowed setup past history × AreAllowed setup (fold (and_then setup) past history) more
allowed_behind setup past [] more allowed = (tt, allowed)
allowed_behind setup past (entry ∷ entries) more allowed =
    let rest = allowed_behind setup (and_then setup past entry) entries more allowed.1 in ((allowed.0, rest.0), rest.1)

-- what a legal history begins with is legal
pub legal_front : (setup : Setup) (history more : List Entry) → IsLegal setup (history ++ more) → IsLegal setup history
legal_front setup history more legal = record { opened = legal.opened; allowed = (allowed_behind setup [] history more legal.allowed).0 }

-- a deed that has no room has none after more entries
pub full_stays : (setup : Setup) (history more : List Entry) (d : Deed) → setup.entries < 2 ^ 32 → IsLegal setup (history ++ more)
    → is_full setup history d ≡ true → is_full setup (history ++ more) d ≡ true
unfolding is_full
full_stays setup history more d few legal full =
    ap (λ past. is_full_after setup past d) (fold-append (and_then setup) [] history more)
    ∙ full_from setup (past_of setup history) more d few (legal_stands setup history few (legal_front setup history more legal))
    (allowed_behind setup [] history more legal.allowed).1 full
