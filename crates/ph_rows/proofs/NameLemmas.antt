-- The number that a printed id names.
use Rattle.std.proofs.Common.{◌≡◌, ℕ, ◌-◌, ◌^◌, Bool, true, false, ◌&&◌, cond, nat_lt, List, ◌++◌, length, drop, Some, None, get_or, unwrap_or, refl, sym, ap, ◌∙◌, arith}
use Rattle.std.proofs.lemmas.Bool.{false≢true}
use Rattle.std.proofs.lemmas.Bool.Decides.{nat_tests}
use Rattle.std.proofs.lemmas.Slice.Eq.{bytes_eq-Decides}
use Rattle.std.specs.Str.{bytes_eq}
use Rattle.ph_base.specs.declared.ids.Id.{Id}
use Rattle.ph_base.specs.declared.ids.Kind.{Kind}
use Rattle.ph_base.specs.declared.ids.Kind.TheVariants.{Intent, Attempt, Charge, Payment, Refund, Dispute, Transfer, Reversal, Fee, FeeRefund, Txn, Account, Event, Endpoint, Delivery, Payout}
use Rattle.ph_base.specs.Ids.{prefix_of, id_text}
use Rattle.ph_base.specs.Numbers.{decimal, padded}
use Rattle.ph_base.proofs.IdLemmas.{kinds, parts_of}
use Rattle.ph_base.proofs.DecimalLemmas.{decimal_padded}
use Rattle.ph_items.specs.Kinds.{kind_number}
use Rattle.ph_rows.specs.Names.{number_named, is_printed_as}

-- the kind of a number
kind_again : ℕ → Kind
kind_again number = get_or kinds number Intent

again : (k : Kind) → kind_again (kind_number k) ≡ k
unfolding kind_again
again Intent = refl
again Attempt = refl
again Charge = refl
again Payment = refl
again Refund = refl
again Dispute = refl
again Transfer = refl
again Reversal = refl
again Fee = refl
again FeeRefund = refl
again Txn = refl
again Account = refl
again Event = refl
again Endpoint = refl
again Delivery = refl
again Payout = refl

-- kinds with the same number are the same
pub kind_numbered : (a b : Kind) → kind_number a ≡ kind_number b → a ≡ b
kind_numbered a b e = sym (again a) ∙ ap kind_again e ∙ again b

-- a printed id names its number
pub names_number : (text : List ℕ) (i : Id) → text ≡ id_text i → number_named i.kind text ≡ Some i.number
unfolding number_named
names_number text i e =
    let p = parts_of text i e in
    let same : decimal (drop (length text - 16) text) ≡ i.number = ap decimal p.back ∙ decimal_padded 16 i.number i.in_range in
    let small : nat_lt i.number (10 ^ 16) ≡ true = (let h = i.in_range in grind (arith, nat_tests)) in
    let printed : bytes_eq (prefix_of i.kind ++ padded 16 i.number) text ≡ true = (bytes_eq-Decides _ _).1 (sym e) in
    rw (same, small, printed) refl

-- a text that is no printed id of the kind names no number
pub names_none : (kind : Kind) (text : List ℕ) → ((i : Id) → i.kind ≡ kind → text ≡ id_text i → ⊥) → None ≡ number_named kind text
unfolding number_named
names_none kind text never = cases (decimal (drop (length text - 16) text)) (is_printed_as kind text (decimal (drop (length text - 16) text))) refl
  where
    cases : (n : ℕ) (b : Bool) → is_printed_as kind text n ≡ b → None ≡ cond b (Some n) None
    cases n false h = refl
    cases n true h = absurd (split n (nat_lt n (10 ^ 16)) (bytes_eq (prefix_of kind ++ padded 16 n) text) refl refl h)
      where
        split : (n : ℕ) (a b : Bool) → nat_lt n (10 ^ 16) ≡ a → bytes_eq (prefix_of kind ++ padded 16 n) text ≡ b → (a && b) ≡ true → ⊥
        split n true true ha hb h = never (record { kind = kind; number = n; in_range = grind (arith, nat_tests) }) refl (sym ((bytes_eq-Decides _ _).0 hb))
        split n true false ha hb h = false≢true h
        split n false b ha hb h = false≢true h

-- a printed id of another kind names no number
pub names_another : (wanted : Kind) (text : List ℕ) (i : Id) → (kind_number i.kind ≡ kind_number wanted → ⊥)
    → ((j : Id) → text ≡ id_text j → Some i ≡ Some j) → None ≡ number_named wanted text
names_another wanted text i other only =
    names_none wanted text (λ j is same. other (ap (λ found. kind_number (unwrap_or found i).kind) (only j same) ∙ ap kind_number is))
