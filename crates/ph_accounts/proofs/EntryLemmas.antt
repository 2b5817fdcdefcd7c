-- What the create of an account adds may be entered after sound rows.
use Rattle.std.proofs.Common.{◌≡◌, ℕ, ◌+◌, ◌^◌, ◌<◌, ◌==◌, true, List, [], ◌∷◌, ◌++◌, Option, None, Some, refl, arith}
use Rattle.std.proofs.lemmas.Bool.{cond_both}
use Rattle.std.specs.Str.{is_utf8}
use Rattle.ph_errors.specs.Table.{PlatformOnly, error_of}
use Rattle.ph_calls.specs.declared.call.CreateAccount.{CreateAccount}
use Rattle.ph_facts.specs.Keeps.{IsReady, KeepsRows, KeepsSound, MayBeAdded, batch_after}
use Rattle.ph_facts.specs.Outcomes.{Adds, Refuses}
use Rattle.ph_facts.specs.Touches.{Untouched}
use Rattle.ph_facts.proofs.DoneLemmas.{of_platform}
use Rattle.ph_facts.proofs.LawLemmas.{laws_beside}
use Rattle.ph_facts.proofs.OrderLemmas.{order_with_all}
use Rattle.ph_facts.proofs.UnderwayLemmas.{IsUnderway, underway_first}
use Rattle.ph_items.specs.declared.items.Item.TheVariants as item
use Rattle.ph_items.specs.Accounts.{platform}
use Rattle.ph_items.specs.Weights.{AreUtf8, texts_of, with_text}
use Rattle.ph_kinds.specs.declared.metadata.Meta.{Meta}
use Rattle.ph_kinds.specs.Kept.{first_metadata, named_texts}
use Rattle.ph_kinds.proofs.KeptLemmas.{and, first_kept, first_text}
use Rattle.ph_rows.specs.Batches.{BatchState, last_place}
use Rattle.ph_rows.specs.Views.{ViewState}
use Rattle.ph_accounts.specs.Create.{create_outcome, new_account, with_account}
use Rattle.ph_accounts.specs.Laws.{create_texts}

-- the texts of a new account are those of its call
new_texts : (call : CreateAccount) → AreUtf8 (create_texts call) → AreUtf8 (texts_of (item.Account (new_account call)))
new_texts call texts = at call.email texts
  where
    at : (email : Option (List ℕ)) → AreUtf8 (with_text email (named_texts call.metadata))
        → AreUtf8 (texts_of (item.Account (record (new_account call) { email = email })))
    at None h = first_kept call.metadata h
    at (Some text) h =
        let parts = first_text text (named_texts call.metadata) h in and parts.0 (first_kept call.metadata parts.1)

-- the batch with it is under way
account_underway : (state : ViewState) (entry : ℕ) (call : CreateAccount) → IsReady state → AreUtf8 (create_texts call)
    → IsUnderway state (with_account call (batch_after state entry))
account_underway state entry call ready texts =
    let room = ready.room in
    underway_first state (batch_after state entry) platform (item.Account (new_account call)) ready.sound.order
    (record { continues = record { began = refl; at = refl; follow = tt }; told = tt }) (omega arith)
    (record { texts = new_texts call texts; within = tt; origins = tt; silent = λ event is. absurd (cc) })

account_added : (state : ViewState) (entry : ℕ) (call : CreateAccount) → IsReady state → AreUtf8 (create_texts call)
    → MayBeAdded state 1 Untouched (with_account call (batch_after state entry))
account_added state entry call ready texts =
    let batch = with_account call (batch_after state entry) in
    let underway = account_underway state entry call ready texts in
    let continues = underway.continues in
    record {
      enters = record {
        began = continues.began;
        at = continues.at;
        follow = continues.follow;
        laws = laws_beside state batch.rows ready.sound.order (order_with_all state batch.rows ready.sound.order continues.follow) refl (tt, tt) ready.sound.laws;
        told = underway.told;
      };
      few = omega arith;
      shown = refl;
    }

pub create_keeps : KeepsSound create_texts 1 create_outcome
create_keeps state entry account call ready texts =
    let batch = batch_after state entry in
    cond_both (account == platform) (Adds Untouched (last_place batch + 1) (with_account call batch)) (Refuses (error_of PlatformOnly))
    (KeepsRows state 1) (λ ours. (account_added state entry call ready texts, tt)) (λ theirs. of_platform)
