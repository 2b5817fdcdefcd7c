-- The laws of the history that a session leaves.
use Rattle.std.proofs.Common.{◌≡◌, ℕ, ◌^◌, ◌<◌, ◌==◌, ◌&&◌, ◌||◌, Bool, true, false, List, [], ◌∷◌, Option, Some, refl, sym, ap, ◌∙◌}
use Rattle.std.specs.List.{list_all, list_any}
use Rattle.std.proofs.lemmas.Bool.{eqb-true}
use Rattle.ph_base.specs.declared.acquirer.Ruling.{Ruling}
use Rattle.ph_base.specs.declared.acquirer.Ruling.TheVariants as ruling
use Rattle.ph_doings.specs.Confirmations.{all_but_first, attempts_of_confirmation}
use Rattle.ph_doings.specs.Doings.{Doing}
use Rattle.ph_doings.specs.Standings.{Live, Parked, Settled, Standing, NotBegun, Stands, is_challenged, standing_of}
use Rattle.ph_doings.proofs.LawProofs.{all_but_the_last_were_challenged, processing_has_one_attempt, references_differ}
use Rattle.ph_bank.specs.Links.{Link}
use Rattle.ph_book.specs.declared.setup.Setup.{Setup}
use Rattle.ph_book.specs.declared.acts.Entry.{Entry}
use Rattle.ph_book.specs.History.{doings_of}
use Rattle.ph_book.specs.Laws.{WereChallenged}
use Rattle.ph_book.specs.Legal.{IsLegal}
use Rattle.ph_book.proofs.StandLemmas.{history_stands}
use Rattle.ph_conn.specs.Laws.{AreDecisions, AuthorisedOnce, HoldLaws}

-- the three laws hold of every legal history
pub laws_hold : (setup : Setup) (history : List Entry) → setup.entries < 2 ^ 32 → IsLegal setup history → HoldLaws (doings_of setup history)
laws_hold setup history few legal =
    let past : List Doing = doings_of setup history in
    let lawful = (history_stands setup history few legal).lawful in
    record {
      references_differ = references_differ past lawful;
      processing_has_one_attempt = processing_has_one_attempt past lawful;
      all_but_the_last_were_challenged = all_but_the_last_were_challenged past lawful;
    }

and_left : (a b : Bool) → (a && b) ≡ true → a ≡ true
and_left true b e = refl
and_left false b e = e

and_right : (a b : Bool) → (a && b) ≡ true → b ≡ true
and_right true b e = e
and_right false b e = absurd (cc)

-- a test that all of a list pass, one of it passes
all-at : (test : ℕ → Bool) (x : ℕ) (xs : List ℕ) → list_all test xs ≡ true → list_any (λ other. other == x) xs ≡ true → test x ≡ true
all-at test x [] all any = absurd (cc)
all-at test x (y ∷ xs) all any = at (y == x) refl any (all-at test x xs (and_right (test y) (list_all test xs) all))
  where
    at : (b : Bool) → (y == x) ≡ b → (b || list_any (λ other. other == x) xs) ≡ true → (list_any (λ other. other == x) xs ≡ true → test x ≡ true) → test x ≡ true
    at true same any behind = ap test (sym (eqb-true y x same)) ∙ and_left (test y) (list_all test xs) all
    at false apart any behind = behind any

-- the first of a list, which is its only member that isn't among all but the first
abbrev first_of : List ℕ → ℕ
first_of [] = 0
first_of (x ∷ xs) = x

is-first : (x : ℕ) (xs : List ℕ) → list_any (λ other. other == x) xs ≡ true → (list_any (λ other. other == x) (all_but_first xs) ≡ true → ⊥) → x ≡ first_of xs
is-first x [] any behind = absurd (cc)
is-first x (y ∷ xs) any behind = at (y == x) refl any
  where
    at : (b : Bool) → (y == x) ≡ b → (b || list_any (λ other. other == x) xs) ≡ true → x ≡ y
    at true same any = sym (eqb-true y x same)
    at false apart any = absurd (behind any)

-- an attempt that was challenged isn't approved
not-approved : (past : List Doing) (decisions : ℕ → Option Ruling) (reference : ℕ) (standing : Standing) → AreDecisions past decisions → standing_of past reference ≡ standing
    → is_challenged standing ≡ true → decisions reference ≡ Some ruling.Approved → ⊥
not-approved past decisions reference NotBegun are is challenged approved = cc
not-approved past decisions reference (Stands intent order Live) are is challenged approved = cc
not-approved past decisions reference (Stands intent order Parked) are is challenged approved = cc
not-approved past decisions reference (Stands intent order (Settled ruling.Approved)) are is challenged approved = cc
not-approved past decisions reference (Stands intent order (Settled (ruling.Declined decline))) are is challenged approved = cc
not-approved past decisions reference (Stands intent order (Settled ruling.Challenge)) are is challenged approved =
    let decided : decisions reference ≡ Some ruling.Challenge = are reference intent order ruling.Challenge is in
    let both : Some ruling.Approved ≡ Some ruling.Challenge = sym approved ∙ decided in
    cc

-- so no confirmation is authorised twice: of two approved attempts both are the newest
pub authorised_once : (past : List Doing) (link : Link) → WereChallenged past → AuthorisedOnce past link
authorised_once past link challenged asks decisions told decided are confirmation reference other one two =
    is-first reference attempts one.of (not-behind reference one.approved) ∙ sym (is-first other attempts two.of (not-behind other two.approved))
  where
    attempts : List ℕ
    attempts = attempts_of_confirmation past confirmation

    not-behind : (x : ℕ) → decisions x ≡ Some ruling.Approved → list_any (λ r. r == x) (all_but_first attempts) ≡ true → ⊥
    not-behind x approved any =
        not-approved past decisions x (standing_of past x) are refl
        (all-at (λ r. is_challenged (standing_of past r)) x (all_but_first attempts) (challenged confirmation) any) approved
