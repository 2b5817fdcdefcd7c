-- A book is its own plain one: the laws of the book as an object, said of its history with each entry as it is.
use Rattle.std.specs.Prelude.{◌≡◌, ℕ, Bool, List, [], ◌∷◌, map, IsTrue}
use Rattle.std.proofs.Common.{refl, sym, ap, subst}
use Rattle.ph_book.specs.declared.setup.Setup.{Setup}
use Rattle.ph_book.specs.declared.acts.Act.{Act}
use Rattle.ph_book.specs.declared.acts.Entry.{Entry}
use Rattle.ph_book.specs.declared.acts.Query.{Query}
use Rattle.ph_book.specs.Callers.{caller_of}
use Rattle.ph_book.specs.Entries.{deed_of, entry_of}
use Rattle.ph_book.specs.Hosts.{Allows, IsLawful, itself}
use Rattle.ph_book.specs.Legal.{IsLegal, is_full}
use Rattle.ph_book.specs.Queries.{Sees}

pub itself_all : (history : List Entry) → map itself history ≡ history
itself_all [] = refl
itself_all (entry ∷ entries) = ap (λ rest. entry ∷ rest) (itself_all entries)

pub enters : (caller : ℕ) (a : Act) (entry : Entry) → caller_of entry ≡ caller → entry.deed ≡ deed_of a → itself entry ≡ entry_of caller a
enters caller a entry of is = λ i. record { caller = of i; deed = is i }

pub is_legal : (setup : Setup) (history : List Entry) → IsLawful setup history → IsLegal setup (map itself history)
is_legal setup history lawful = subst (IsLegal setup) (sym (itself_all history)) lawful.legal

pub is_allowed : (setup : Setup) (history : List Entry) (caller : ℕ) (a : Act) → Allows setup (map itself history) caller a → Allows setup history caller a
is_allowed setup history caller a allows = subst (λ h. Allows setup h caller a) (itself_all history) allows

pub allows_it : (setup : Setup) (history : List Entry) (caller : ℕ) (a : Act) → Allows setup history caller a → Allows setup (map itself history) caller a
allows_it setup history caller a allows = subst (λ h. Allows setup h caller a) (sym (itself_all history)) allows

pub is_filled : (setup : Setup) (history : List Entry) (a : Act) → IsTrue (is_full setup (map itself history) (deed_of a)) → IsTrue (is_full setup history (deed_of a))
is_filled setup history a full = subst (λ h. IsTrue (is_full setup h (deed_of a))) (itself_all history) full

pub fills_it : (setup : Setup) (history : List Entry) (a : Act) → IsTrue (is_full setup history (deed_of a)) → IsTrue (is_full setup (map itself history) (deed_of a))
fills_it setup history a full = subst (λ h. IsTrue (is_full setup h (deed_of a))) (sym (itself_all history)) full

pub sees_it : (setup : Setup) (history : List Entry) (query : Query) (seen : Bool) → Sees setup history query seen → Sees setup (map itself history) query seen
sees_it setup history query seen sees = subst (λ h. Sees setup h query seen) (sym (itself_all history)) sees
