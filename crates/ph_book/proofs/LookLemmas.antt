-- An attempt is parked exactly where one of those that a book keeps is.
use Rattle.std.proofs.Common.{◌≡◌, ℕ, ◌↔◌, Bool, true, false, List, [], ◌∷◌, Option, Some, None, is_some, refl, sym, ap, ◌∙◌, subst}
use Rattle.ph_attempts.specs.Attempts.{first_parked, parked_in}
use Rattle.ph_attempts.specs.declared.flights.Attempt.{Attempt}
use Rattle.ph_attempts.specs.declared.flights.Attempt.TheVariants.{Live, Parked}
use Rattle.ph_items.specs.declared.orders.Order.{Order}
use Rattle.ph_doings.specs.Doings.{Doing}
use Rattle.ph_doings.specs.Kept.{attempts_after}
use Rattle.ph_doings.specs.Lawful.{IsLawful}
use Rattle.ph_doings.specs.Laws.{FirstOf}
use Rattle.ph_doings.specs.Parks.{first_in, first_parked as earliest}
use Rattle.ph_doings.specs.Standings.{is_parked}
use Rattle.ph_doings.proofs.KeptLists.{attempts_are_unsettled}
use Rattle.ph_doings.proofs.Queue.{first_parked_is_earliest}
use Rattle.ph_idem.specs.declared.key_record.KeyRecord.{KeyRecord}
use Rattle.ph_rows.specs.declared.rows.Row.{Row}
use Rattle.ph_book.specs.declared.setup.Setup.{Setup}
use Rattle.ph_book.specs.declared.acts.Entry.{Entry}
use Rattle.ph_book.specs.declared.acts.Query.{Query}
use Rattle.ph_book.specs.declared.acts.Query.TheVariants as query
use Rattle.ph_book.specs.History.{doings_of}
use Rattle.ph_book.specs.Queries.{Sees, SomeParked}
use Rattle.ph_book.specs.State.{BookState, IsBook}
use Rattle.ph_book.proofs.StandLemmas.{history_stands}

-- the program finds a parked one exactly where there is a first
parked_found : (attempts : List Attempt) → is_some (first_parked attempts) ≡ is_some (first_in (parked_in attempts))
parked_found [] = refl
parked_found (Live flight ∷ attempts) = parked_found attempts
parked_found (Parked order ∷ attempts) = refl

some_of : (past : List Doing) (found : Option Order) → FirstOf past found → (is_some found ≡ true) ↔ SomeParked past
some_of past (Some order) first = (λ _. (order.reference, ap is_parked first.standing), λ _. refl)
some_of past None none = (λ e. absurd (cc), λ parked. absurd (let clash : true ≡ false = sym parked.1 ∙ none parked.0 in cc))

-- what the program sees is whether an attempt is parked
pub parked_seen : (past : List Doing) (attempts : List Attempt) (seen : Bool) → IsLawful past → attempts ≡ attempts_after past
    → seen ≡ is_some (first_parked attempts) → (seen ≡ true) ↔ SomeParked past
parked_seen past attempts seen lawful kept is =
    let same : seen ≡ is_some (earliest past) =
    is ∙ parked_found attempts ∙ ap (λ (a : List Attempt). is_some (first_in (parked_in a))) kept
    ∙ ap (λ orders. is_some (first_in orders)) (attempts_are_unsettled past lawful).parked in
    subst (λ (b : Bool). (b ≡ true) ↔ SomeParked past) (sym same) (some_of past (earliest past) (first_parked_is_earliest past lawful))

-- what a book sees by the attempts that it keeps
pub book_sees : (book : BookState) (setup : Setup) (history : List Entry) (rows : List Row) (time weight : ℕ) (attempts : List Attempt) (records : List KeyRecord) (live : ℕ) (asked : Query) (seen : Bool)
    → record { setup = setup; history = history } ≡ book → IsBook setup history rows time weight attempts records live → seen ≡ is_some (first_parked attempts)
    → Sees book.setup book.history asked seen
book_sees book setup history rows time weight attempts records live query.AnyParked seen is b found =
    subst (λ (x : BookState). Sees x.setup x.history query.AnyParked seen) is
    (parked_seen (doings_of setup history) attempts seen (history_stands setup history b.few b.legal).lawful b.attempts_are found)
