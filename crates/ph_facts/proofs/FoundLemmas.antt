-- The object that an id names, among sound rows.
use Rattle.std.specs.Prelude.{◌==◌, option_and_then}
use Rattle.std.proofs.Common.{◌≡◌, ℕ, List, Option, None, Some, refl, sym, subst}
use Rattle.std.proofs.lemmas.Bool.{eqb-true}
use Rattle.std.proofs.lemmas.Option.{cond_some}
use Rattle.ph_base.specs.declared.ids.Kind.{Kind}
use Rattle.ph_rows.specs.declared.rows.Row.{Row}
use Rattle.ph_items.specs.Kinds.{kind_of, kind_number, is_kind}
use Rattle.ph_rows.specs.Names.{number_named, if_of_kind, object_of, object_named, if_of_account, owned_named}
use Rattle.ph_rows.specs.Rows.{row_at, latest_of}
use Rattle.ph_facts.specs.Sound.{IsSound}
use Rattle.ph_rows.specs.Views.{ViewState}
use Rattle.ph_rows.proofs.NameLemmas.{kind_numbered}
use Rattle.ph_facts.proofs.SoundLemmas.{latest_of_sound}

-- a row is the present version of an object of the kind, and stands at its place
pub record IsPresent (rows : List Row) (wanted : Kind) (row : Row) : Type 0 where
  pub stands : row_at row.place rows ≡ Some row
  pub latest : latest_of row.object rows ≡ Some row
  pub kind : kind_of row.item ≡ wanted

-- the object that is found by its number
number_found : (state : ViewState) (wanted : Kind) (number : ℕ) (row : Row) → IsSound state
    → object_of state.rows wanted number ≡ Some row → IsPresent state.rows wanted row
number_found state wanted number row sound e = at (latest_of number state.rows) refl e
  where
    at : (found : Option Row) → latest_of number state.rows ≡ found → option_and_then (if_of_kind wanted) found ≡ Some row
        → IsPresent state.rows wanted row
    at None l e = absurd (cc)
    at (Some last) l e =
        let chosen = cond_some (is_kind wanted last.item) last row e in
        let stands = latest_of_sound state number last sound l in
        subst (λ (r : Row). IsPresent state.rows wanted r) chosen.1 (record {
          stands = stands.0;
          latest = subst (λ (n : ℕ). latest_of n state.rows ≡ Some last) (sym stands.1) l;
          kind = kind_numbered (kind_of last.item) wanted (eqb-true (kind_number (kind_of last.item)) (kind_number wanted) chosen.0);
        })

-- the object that an id names is there
pub object_found : (state : ViewState) (wanted : Kind) (text : List ℕ) (row : Row) → IsSound state
    → object_named state.rows wanted text ≡ Some row → IsPresent state.rows wanted row
object_found state wanted text row sound e = at (number_named wanted text) e
  where
    at : (number : Option ℕ) → option_and_then (object_of state.rows wanted) number ≡ Some row → IsPresent state.rows wanted row
    at None e = absurd (cc)
    at (Some number) e = number_found state wanted number row sound e

-- the object of an account that an id names is there, and of the account
pub owned_found : (state : ViewState) (account : ℕ) (wanted : Kind) (text : List ℕ) (row : Row) → IsSound state
    → owned_named state.rows account wanted text ≡ Some row → IsPresent state.rows wanted row × (row.account ≡ account)
owned_found state account wanted text row sound e = at (object_named state.rows wanted text) refl e
  where
    at : (found : Option Row) → object_named state.rows wanted text ≡ found → option_and_then (if_of_account account) found ≡ Some row
        → IsPresent state.rows wanted row × (row.account ≡ account)
    at None n e = absurd (cc)
    at (Some last) n e =
        let chosen = cond_some (last.account == account) last row e in
        subst (λ (r : Row). IsPresent state.rows wanted r × (r.account ≡ account)) chosen.1
        (object_found state wanted text last sound n, eqb-true last.account account chosen.0)
