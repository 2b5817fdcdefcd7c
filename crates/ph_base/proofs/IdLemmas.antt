-- Ids are told apart by kind and number, and kinds by their prefixes.
use Rattle.std.proofs.Common.{◌≡◌, ℕ, ◌+◌, ◌-◌, ◌<◌, ◌≤◌, ◌^◌, List, [], ◌∷◌, length, take, drop, get_or, unwrap_or, lit<, refl, sym, ap, ◌∙◌, arith}
use mathlib.Core.HLevel.{is_prop→PathP}
use Rattle.std.proofs.Props.{props}
use Rattle.std.specs.List.{find}
use Rattle.std.specs.Str.{bytes_eq}
use Rattle.std.proofs.lemmas.List.{length-append, take_at, drop_at}
use Rattle.ph_base.specs.declared.ids.Id.{Id}
use Rattle.ph_base.specs.declared.ids.Kind.{Kind}
use Rattle.ph_base.specs.declared.ids.Kind.TheVariants.{Intent, Attempt, Charge, Payment, Refund, Dispute, Transfer, Reversal, Fee, FeeRefund, Txn, Account, Event, Endpoint, Delivery, Payout}
use Rattle.ph_base.specs.Ids.{prefix_of, id_text}
use Rattle.ph_base.specs.Numbers.{padded}
use Rattle.ph_base.proofs.DecimalLemmas.{length-padded}

pub same_id : (a b : Id) → a.kind ≡ b.kind → a.number ≡ b.number → a ≡ b
same_id a b p q = λ i. record {
  kind = p i;
  number = q i;
  in_range = is_prop→PathP (λ j. q j < 10 ^ 16) (λ j. hlevel props) a.in_range b.in_range i;
}

abbrev pub kinds : List Kind
kinds = Intent ∷ Attempt ∷ Charge ∷ Payment ∷ Refund ∷ Dispute ∷ Transfer ∷ Reversal ∷ Fee ∷ FeeRefund ∷ Txn ∷ Account ∷ Event ∷ Endpoint ∷ Delivery ∷ Payout ∷ []

-- what holds of each kind in the list holds of each kind
pub each_kind : (P : Kind → Type 0) → ((j : ℕ) → j < 16 → P (get_or kinds j Intent)) → (k : Kind) → P k
each_kind P h Intent = h 0 (lit< tt)
each_kind P h Attempt = h 1 (lit< tt)
each_kind P h Charge = h 2 (lit< tt)
each_kind P h Payment = h 3 (lit< tt)
each_kind P h Refund = h 4 (lit< tt)
each_kind P h Dispute = h 5 (lit< tt)
each_kind P h Transfer = h 6 (lit< tt)
each_kind P h Reversal = h 7 (lit< tt)
each_kind P h Fee = h 8 (lit< tt)
each_kind P h FeeRefund = h 9 (lit< tt)
each_kind P h Txn = h 10 (lit< tt)
each_kind P h Account = h 11 (lit< tt)
each_kind P h Event = h 12 (lit< tt)
each_kind P h Endpoint = h 13 (lit< tt)
each_kind P h Delivery = h 14 (lit< tt)
each_kind P h Payout = h 15 (lit< tt)

kind_again : List ℕ → Kind
kind_again text = unwrap_or (find (λ k. bytes_eq (prefix_of k) text) kinds) Intent

again : (k : Kind) → kind_again (prefix_of k) ≡ k
unfolding kind_again
again Intent = refl
again Attempt = refl
again Charge = refl
again Payment = refl
again Refund = refl
again Dispute = refl
again Transfer = refl
again Reversal = refl
again Fee = refl
again FeeRefund = refl
again Txn = refl
again Account = refl
again Event = refl
again Endpoint = refl
again Delivery = refl
again Payout = refl

pub same_kind : (a b : Kind) → prefix_of a ≡ prefix_of b → a ≡ b
same_kind a b e = sym (again a) ∙ ap kind_again e ∙ again b

-- the parts of a printed id
pub record Parts (text : List ℕ) (i : Id) : Type 0 where
  pub long : 16 ≤ length text
  pub front : take (length text - 16) text ≡ prefix_of i.kind
  pub back : drop (length text - 16) text ≡ padded 16 i.number

pub parts_of : (text : List ℕ) (i : Id) → text ≡ id_text i → Parts text i
parts_of text i e =
    let n : length text ≡ length (prefix_of i.kind) + 16 = ap length e ∙ length-append (prefix_of i.kind) (padded 16 i.number) ∙ ap (λ k. length (prefix_of i.kind) + k) (length-padded 16 i.number) in
    record {
      long = omega arith;
      front = ap (take (length text - 16)) e ∙ take_at (prefix_of i.kind) (padded 16 i.number) (length text - 16) (omega arith);
      back = ap (drop (length text - 16)) e ∙ drop_at (prefix_of i.kind) (padded 16 i.number) (length text - 16) (omega arith);
    }
