-- The rows keep the laws with what an approval, a decline and a capture add.
use Rattle.std.proofs.Common.{◌≡◌, ℕ, ◌+◌, ◌≤◌, ◌<◌, false, cond, eqb, List, [], ◌∷◌, ◌++◌, Option, None, Some, length, sym, refl, ap, ◌∙◌, subst, arith, pos, ◌+ℤ◌}
use Rattle.std.specs.Prelude.{is_some, ◌||◌}
use Rattle.std.specs.List.{filter, list_any}
use Rattle.std.specs.Option.{option_or}
use Rattle.std.proofs.lemmas.Bool.{cond-false, ne_eqb}
use Rattle.std.proofs.lemmas.Int.{ints}
use Rattle.ph_items.specs.declared.items.Item.{Item}
use Rattle.ph_items.specs.declared.items.Item.TheVariants as item
use Rattle.ph_items.specs.declared.charges.Charge.{Charge}
use Rattle.ph_items.specs.declared.charges.ChargeStatus.TheVariants as status
use Rattle.ph_items.specs.declared.event_kinds.EventKind.TheVariants as event
use Rattle.ph_items.specs.declared.intents.CaptureMethod.{CaptureMethod}
use Rattle.ph_items.specs.declared.intents.CaptureMethod.TheVariants as capture_method
use Rattle.ph_items.specs.declared.intents.Intent.{Intent}
use Rattle.ph_items.specs.declared.transactions.TxnSource.TheVariants as source
use Rattle.ph_items.specs.declared.transactions.TxnType.TheVariants as sort
use Rattle.ph_items.specs.declared.transfers.Transfer.{Transfer}
use Rattle.ph_money.specs.Fees.{fee_of}
use Rattle.ph_items.specs.Accounts.{platform}
use Rattle.ph_items.specs.Items.{charge_in}
use Rattle.ph_rows.specs.declared.rows.Row.{Row}
use Rattle.ph_rows.specs.Batches.{BatchState, last_place, with_row, with_announced}
use Rattle.ph_rows.specs.Rows.{row_at, latest_of}
use Rattle.ph_rows.specs.Views.{ViewState}
use Rattle.ph_rows.proofs.RowLemmas.{row_at_within}
use Rattle.ph_facts.specs.Amounts.{captured, captured_of, given_back, given_back_of, moved, refunded, refunded_of, reversed, transferred, transferred_of}
use Rattle.ph_facts.specs.Held.{AreHeld}
use Rattle.ph_facts.specs.Order.{IsWithin}
use Rattle.ph_facts.specs.Sound.{IsSound, KeepLaws}
use Rattle.ph_facts.specs.Tallies.{Addition, given}
use Rattle.ph_facts.proofs.AmountLemmas.{captured_sum, given_back_sum, refunded_sum, reversed_sum, transferred_first, transferred_sum}
use Rattle.ph_facts.proofs.LawLemmas.{AreSpoken, Kept, SaysSums, amounts_kept, charges_none, is_of_amounts, kept_both, kept_none, kept_spoken, laws_by}
use Rattle.ph_facts.proofs.OrderLemmas.{amounts_stand}
use Rattle.ph_facts.proofs.SoundLemmas.{latest_of_sound}
use Rattle.ph_facts.proofs.SpokenLemmas.{Spoken, spoken_adding, spoken_among, spoken_both, spoken_none, spoken_version}
use Rattle.ph_facts.proofs.TallyLemmas.{speaks, sum_append}
use Rattle.ph_charges.specs.Approvals.{approval_of, charge_number, decline_of, with_approved}
use Rattle.ph_charges.specs.Captures.{capture_of, with_capture_in, with_capture_of}
use Rattle.ph_charges.specs.Charges.{captured_charge, drawn_by_capture, new_charge, next_capture, with_captured, with_fee}
use Rattle.ph_charges.specs.Splits.{destination_split, fee_rows, fee_taken, split_fee, split_rows, split_transfer, split_txn}
use Rattle.ph_charges.specs.Transfers.{transfer_rows}
use Rattle.ph_charges.proofs.AmountLemmas.{IsFree, IsUnused, free_with, given_back_beside, later_is_unused, new_is_unused}
use Rattle.ph_charges.proofs.EntryLemmas.{IsNew}
use Rattle.ph_charges.proofs.NewRowLemmas.{row_here, rows_from}
use Rattle.ph_charges.proofs.SplitLemmas.{by_destination, by_fee, fee_pair, captured_is, captured_row, split_behind}
use Rattle.ph_charges.proofs.TransferLemmas.{arriving_row, own_row, payment_captures, payment_refunds, payment_row, payment_transfers}

-- a row of a charge
abbrev charge_row : ℕ → ℕ → ℕ → ℕ → Charge → Row
charge_row place object at account charge = record {
  place = place;
  object = object;
  at = at;
  account = account;
  item = item.Charge charge;
}

-- ---- a new charge of which nothing is captured

-- the laws on amounts are kept with it, behind rows that captured nothing of it
held_kept : (rows : List Row) (n p a k : ℕ) (charge : Charge) → IsFree n rows → IsNew charge
    → Kept rows (charge_row p n a k charge ∷ [])
held_kept rows n p a k charge free new =
    kept_spoken rows (version ∷ []) (record {
      charges = record {
        captured = spoken_version captured rows version (pos charge.amount_captured) captured_sum refl refl
            (ap pos new.captured ∙ sym free.captured);
        refunded = spoken_version refunded rows version charge.amount_refunded refunded_sum refl refl (new.refunded ∙ sym free.refunded);
        transferred = spoken_version transferred rows version charge.amount_transferred transferred_sum refl refl
            (new.transferred ∙ sym free.transferred);
      };
      reversed = spoken_none reversed rows (version ∷ []) refl;
      given_back = spoken_none given_back rows (version ∷ []) refl;
      moved = spoken_none moved rows (version ∷ []) refl;
    })
  where
    version : Row
    version = charge_row p n a k charge

-- ---- a capture

-- an application fee, of which nothing was given back
fees_kept : (rows : List Row) (place account object p a : ℕ) (charge : Charge) (taken now : ℕ) → given_back_of p rows ≡ 0
    → Kept rows (rows_from p a (fee_rows place account object charge taken now))
fees_kept rows place account object p a charge taken now none =
    by_fee (λ fees. Kept rows (rows_from p a fees)) place account object charge taken now (kept_none rows [] refl)
    (kept_spoken rows more (record {
      charges = charges_none rows more refl;
      reversed = spoken_none reversed rows more refl;
      given_back = spoken_among given_back rows more given_back_sum
          (spoken_version given_back rows fee 0 given_back_sum refl refl (sym none));
      moved = spoken_none moved rows more refl;
    }))
  where
    more : List Row
    more = rows_from p a (fee_pair place account object charge taken now)

    fee : Row
    fee = row_here p a (record { account = platform; item = item.Fee (split_fee place account object charge taken now) })

-- the laws on amounts are kept with the version of a charge of which an amount is captured, and its split, behind rows that
-- captured nothing of it and have to do with nothing that is made behind it
split_kept : (rows : List Row) (place account n : ℕ) (version charge : Charge) (amount now at : ℕ) → IsFree n rows
    → ((number : ℕ) → place ≤ number → IsUnused number rows) → n < place → version.amount_captured ≡ amount
    → version.amount_refunded ≡ 0 → version.amount_transferred ≡ drawn_by_capture charge.destination amount → (p : ℕ)
    → Kept rows (charge_row p n at account version ∷ rows_from place at (split_rows place account n charge amount now))
split_kept rows place account n version charge amount now at free later behind all none drawn p =
    by_destination
    (λ destination split. version.amount_transferred ≡ drawn_by_capture destination amount → Kept rows (whole ∷ rows_from place at split))
    place account n charge amount now (λ nothing. plain (fee_of charge.currency amount) nothing) direct to drawn
  where
    whole : Row
    whole = charge_row p n at account version

    -- the transaction that keeps so much of what is captured
    taking : ℕ → Row
    taking kept = row_here place at (record { account = account; item = item.Txn (split_txn charge sort.Charge (pos amount) kept (source.Charge n) now) })

    captures : (kept : ℕ) → Spoken captured rows (whole ∷ taking kept ∷ [])
    captures kept =
        spoken_adding captured rows whole (taking kept) (pos amount) (pos version.amount_captured) captured_sum refl refl refl refl
        (let before : captured_of n rows ≡ pos 0 = free.captured in
        let right : pos version.amount_captured ≡ captured_of n rows +ℤ pos amount = omega (arith, ints) in right)

    refunds : Spoken refunded rows (whole ∷ [])
    refunds = spoken_version refunded rows whole version.amount_refunded refunded_sum refl refl (none ∙ sym free.refunded)

    plain : (kept : ℕ) → version.amount_transferred ≡ 0 → Kept rows (whole ∷ taking kept ∷ [])
    plain kept nothing =
        kept_spoken rows (whole ∷ taking kept ∷ []) (record {
          charges = record {
            captured = captures kept;
            refunded = spoken_among refunded rows (whole ∷ taking kept ∷ []) refunded_sum refunds;
            transferred = spoken_among transferred rows (whole ∷ taking kept ∷ []) transferred_sum
                (spoken_version transferred rows whole version.amount_transferred transferred_sum refl refl (nothing ∙ sym free.transferred));
          };
          reversed = spoken_none reversed rows (whole ∷ taking kept ∷ []) refl;
          given_back = spoken_none given_back rows (whole ∷ taking kept ∷ []) refl;
          moved = spoken_none moved rows (whole ∷ taking kept ∷ []) refl;
        })

    fees : ℕ → ℕ → ℕ → List Row
    fees q number from = rows_from q at (fee_rows number from n charge (fee_taken charge amount) now)

    direct : version.amount_transferred ≡ 0
        → Kept rows (whole ∷ taking (fee_of charge.currency amount + fee_taken charge amount) ∷ fees (place + 1) (place + 1) account)
    direct nothing =
        let kept = fee_of charge.currency amount + fee_taken charge amount in
        let front = whole ∷ taking kept ∷ [] in
        kept_both rows front (fees (place + 1) (place + 1) account) (plain kept nothing)
        (fees_kept (rows ++ front) (place + 1) account n (place + 1) at charge (fee_taken charge amount) now
        (given_back_beside (place + 1) rows front (later (place + 1) (omega arith)) refl))

    to : (destination : ℕ) → version.amount_transferred ≡ amount
        → Kept rows (whole ∷ rows_from place at (destination_split place destination account n charge amount now))
    to destination drawn =
        kept_both rows front (fees (place + 1 + 1 + 1 + 1 + 1) (place + 5) destination) (kept_spoken rows front front_spoken)
        (fees_kept (rows ++ front) (place + 5) destination n (place + 1 + 1 + 1 + 1 + 1) at charge (fee_taken charge amount) now
        (given_back_beside (place + 1 + 1 + 1 + 1 + 1) rows front (later (place + 1 + 1 + 1 + 1 + 1) (omega arith)) refl))
      where
        transfer : Transfer
        transfer = split_transfer (place + 1) destination n charge amount now

        own : Row
        own = row_here (place + 1) at (own_row transfer)

        payment : Row
        payment = row_here (place + 1 + 1 + 1) at (payment_row (place + 1) transfer)

        arriving : Row
        arriving = row_here (place + 1 + 1 + 1 + 1) at (arriving_row (place + 1) transfer (fee_taken charge amount))

        taken : Row
        taken = taking (fee_of charge.currency amount)

        front : List Row
        front = whole ∷ taken ∷ rows_from (place + 1) at (transfer_rows (place + 1) transfer (fee_taken charge amount))

        unused : IsUnused (place + 1 + 1 + 1) rows
        unused = later (place + 1 + 1 + 1) (omega arith)

        -- what the transfer draws on the charge
        draws : transferred.adds own ≡ Some (record { object = n; amount = amount })
        draws = transferred_first own transfer refl refl

        not_captured : captured_of (place + 1 + 1 + 1) (rows ++ whole ∷ taken ∷ []) ≡ pos 0
        not_captured =
            let before : captured_of (place + 1 + 1 + 1) rows ≡ pos 0 = unused.charge.captured in
            let elsewhere : cond (eqb n (place + 1 + 1 + 1)) (pos amount) (pos 0) ≡ pos 0 =
            cond-false (eqb n (place + 1 + 1 + 1)) (pos amount) (pos 0) (ne_eqb n (place + 1 + 1 + 1) (λ same. omega arith)) in
            let both = sum_append captured (place + 1 + 1 + 1) rows (whole ∷ taken ∷ []) captured_sum in
            let right : captured_of (place + 1 + 1 + 1) rows +ℤ (pos 0 +ℤ (cond (eqb n (place + 1 + 1 + 1)) (pos amount) (pos 0) +ℤ pos 0)) ≡ pos 0 =
            omega (arith, ints) in
            both ∙ right

        not_refunded : refunded_of (place + 1 + 1 + 1) (rows ++ whole ∷ []) ≡ 0
        not_refunded =
            let before : refunded_of (place + 1 + 1 + 1) rows ≡ 0 = unused.charge.refunded in
            let both = sum_append refunded (place + 1 + 1 + 1) rows (whole ∷ []) refunded_sum in
            let right : refunded_of (place + 1 + 1 + 1) rows + (0 + 0) ≡ 0 = omega arith in
            both ∙ right

        not_drawn : transferred_of (place + 1 + 1 + 1) (rows ++ whole ∷ own ∷ []) ≡ 0
        not_drawn =
            let before : transferred_of (place + 1 + 1 + 1) rows ≡ 0 = unused.charge.transferred in
            let elsewhere : given 0 (place + 1 + 1 + 1) (transferred.adds own) ≡ 0 =
            ap (given 0 (place + 1 + 1 + 1)) draws
            ∙ cond-false (eqb n (place + 1 + 1 + 1)) amount 0 (ne_eqb n (place + 1 + 1 + 1) (λ same. omega arith)) in
            let both = sum_append transferred (place + 1 + 1 + 1) rows (whole ∷ own ∷ []) transferred_sum in
            let right : transferred_of (place + 1 + 1 + 1) rows + (0 + (given 0 (place + 1 + 1 + 1) (transferred.adds own) + 0)) ≡ 0 = omega arith in
            both ∙ right

        drawn_among : filter (speaks transferred) front ≡ whole ∷ own ∷ payment ∷ []
        drawn_among =
            ap (λ (part : Option (Addition ℕ)). whole ∷ cond (is_some part || false) (own ∷ payment ∷ []) (payment ∷ [])) draws

        transfers : Spoken transferred rows (whole ∷ own ∷ payment ∷ [])
        transfers =
            spoken_both transferred rows (whole ∷ own ∷ []) (payment ∷ []) transferred_sum
            (spoken_adding transferred rows whole own amount version.amount_transferred transferred_sum refl refl draws refl
            (let before : transferred_of n rows ≡ 0 = free.transferred in
            let right : version.amount_transferred ≡ transferred_of n rows + amount = omega arith in right))
            (payment_transfers (rows ++ whole ∷ own ∷ []) (place + 1) (place + 1 + 1 + 1) at transfer not_drawn)

        front_spoken : AreSpoken rows front
        front_spoken = record {
          charges = record {
            captured = spoken_among captured rows front captured_sum
                (spoken_both captured rows (whole ∷ taken ∷ []) (payment ∷ arriving ∷ []) captured_sum (captures (fee_of charge.currency amount))
                (payment_captures (rows ++ whole ∷ taken ∷ []) (place + 1) (place + 1 + 1 + 1) at transfer (fee_taken charge amount) (omega arith) not_captured));
            refunded = spoken_among refunded rows front refunded_sum
                (spoken_both refunded rows (whole ∷ []) (payment ∷ []) refunded_sum refunds
                (payment_refunds (rows ++ whole ∷ []) (place + 1) (place + 1 + 1 + 1) at transfer not_refunded));
            transferred = spoken_among transferred rows front transferred_sum
                (subst (λ (heard : List Row). Spoken transferred rows heard) (sym drawn_among) transfers);
          };
          reversed = spoken_among reversed rows front reversed_sum
              (spoken_version reversed rows own 0 reversed_sum refl refl
              (let unused : IsUnused (place + 1) rows = later (place + 1) (omega arith) in sym unused.reversed));
          given_back = spoken_none given_back rows front refl;
          moved = spoken_none moved rows front refl;
        }

-- ---- whole entries

-- the laws are kept with rows that have to do with no amounts in front of and behind others with which they are
kept_between : (rows front added behind : List Row) → list_any is_of_amounts front ≡ false → Kept (rows ++ front) added
    → list_any is_of_amounts behind ≡ false → KeepLaws rows → AreHeld (rows ++ ((front ++ added) ++ behind))
    → KeepLaws (rows ++ ((front ++ added) ++ behind))
kept_between rows front added behind before kept untouched laws held =
    laws_by (rows ++ ((front ++ added) ++ behind))
    (kept_both rows (front ++ added) behind (kept_both rows front added (kept_none rows front before) kept)
    (kept_none (rows ++ (front ++ added)) behind untouched) (amounts_kept rows laws)) held

-- a capture of a charge of which nothing was captured, refunded or transferred in the view: the rows keep the laws with it
pub captured_keeps : (state : ViewState) (batch : BatchState) (account n : ℕ) (charge : Charge) (amount : ℕ) (behind : List Row)
    → IsSound state → batch.began ≡ length state.rows → list_any is_of_amounts batch.rows ≡ false → IsFree n state.rows
    → n ≤ last_place batch + 1 → charge.amount_refunded ≡ 0 → list_any is_of_amounts behind ≡ false
    → AreHeld (state.rows ++ ((with_captured account n charge amount batch).rows ++ behind))
    → KeepLaws (state.rows ++ ((with_captured account n charge amount batch).rows ++ behind))
captured_keeps state batch account n charge amount behind sound began front free here no_refund untouched =
    subst (λ (rows : List Row). AreHeld (state.rows ++ (rows ++ behind)) → KeepLaws (state.rows ++ (rows ++ behind)))
    (sym (captured_is account n charge amount batch))
    (kept_between state.rows batch.rows (row ∷ split_behind account n charge amount batch) behind front kept untouched sound.laws)
  where
    row : Row
    row = captured_row account n charge amount batch

    kept : Kept (state.rows ++ batch.rows) (row ∷ split_behind account n charge amount batch)
    kept =
        split_kept (state.rows ++ batch.rows) (last_place batch + 2) account n
        (captured_charge amount (next_capture account charge amount batch) charge) charge amount batch.at batch.at
        (free_with n state.rows batch.rows free front)
        (λ number above. later_is_unused state batch.rows number sound (omega arith) front)
        (omega arith) refl no_refund refl (last_place batch + 1)

-- a new charge that is held: the rows keep the laws with it
pub held_keeps : (state : ViewState) (batch : BatchState) (account n : ℕ) (charge : Charge) (behind : List Row)
    → IsSound state → list_any is_of_amounts batch.rows ≡ false → length state.rows < n → IsNew charge
    → list_any is_of_amounts behind ≡ false
    → AreHeld (state.rows ++ ((with_row batch n account (item.Charge charge)).rows ++ behind))
    → KeepLaws (state.rows ++ ((with_row batch n account (item.Charge charge)).rows ++ behind))
held_keeps state batch account n charge behind sound front later new untouched =
    kept_between state.rows batch.rows (charge_row (last_place batch + 1) n batch.at account charge ∷ []) behind front
    (held_kept (state.rows ++ batch.rows) n (last_place batch + 1) batch.at account charge (let unused : IsUnused n (state.rows ++ batch.rows) = later_is_unused state batch.rows n sound later front in unused.charge) new)
    untouched sound.laws

-- a new charge that is approved, captured at once or held
approved_keeps : (capture : CaptureMethod) (state : ViewState) (batch : BatchState) (account n : ℕ) (charge : Charge) (behind : List Row)
    → IsSound state → batch.began ≡ length state.rows → list_any is_of_amounts batch.rows ≡ false → length state.rows < n
    → n ≤ last_place batch + 1 → IsNew charge → list_any is_of_amounts behind ≡ false
    → AreHeld (state.rows ++ ((with_approved capture account n charge batch).rows ++ behind))
    → KeepLaws (state.rows ++ ((with_approved capture account n charge batch).rows ++ behind))
approved_keeps capture_method.Automatic state batch account n charge behind sound began front later here new untouched =
    captured_keeps state batch account n charge charge.amount behind sound began front (let unused : IsUnused n state.rows = new_is_unused state n sound later in unused.charge) here new.refunded untouched
approved_keeps capture_method.AutomaticAsync state batch account n charge behind sound began front later here new untouched =
    captured_keeps state batch account n charge charge.amount behind sound began front (let unused : IsUnused n state.rows = new_is_unused state n sound later in unused.charge) here new.refunded untouched
approved_keeps capture_method.Manual state batch account n charge behind sound began front later here new untouched =
    held_keeps state batch account n charge behind sound front later new untouched

-- the rows keep the laws with an approval, where the rows in front of it and behind it have to do with no amounts
pub approval_keeps : (state : ViewState) (account object : ℕ) (intent : Intent) (batch : BatchState) (behind : List Row)
    → IsSound state → batch.began ≡ length state.rows → list_any is_of_amounts batch.rows ≡ false
    → list_any is_of_amounts behind ≡ false → AreHeld (state.rows ++ ((approval_of account object intent batch).rows ++ behind))
    → KeepLaws (state.rows ++ ((approval_of account object intent batch).rows ++ behind))
approval_keeps state account object intent batch behind sound began front untouched =
    approved_keeps intent.capture_method state batch account (charge_number batch) (new_charge object intent status.Succeeded) behind sound began front
    (omega arith) (omega arith) (record { captured = refl; refunded = refl; transferred = refl }) untouched

-- and with a decline
pub decline_keeps : (state : ViewState) (account object : ℕ) (intent : Intent) (batch : BatchState) (behind : List Row)
    → IsSound state → batch.began ≡ length state.rows → list_any is_of_amounts batch.rows ≡ false
    → list_any is_of_amounts behind ≡ false → AreHeld (state.rows ++ ((decline_of account object intent batch).rows ++ behind))
    → KeepLaws (state.rows ++ ((decline_of account object intent batch).rows ++ behind))
decline_keeps state account object intent batch behind sound began front untouched =
    held_keeps state batch account (charge_number batch) (new_charge object intent status.Failed) behind sound front
    (omega arith) (record { captured = refl; refunded = refl; transferred = refl }) untouched

-- a capture of the charge of a row is that of its version
pub capture_is : (rows : List Row) (n amount : ℕ) (fee : Option ℕ) (batch : BatchState) (row : Row) (charge : Charge)
    → latest_of n batch.rows ≡ None → latest_of n rows ≡ Some row → row.item ≡ item.Charge charge
    → capture_of rows n amount fee batch ≡ with_announced (with_captured row.account n (with_fee fee charge) amount batch) event.ChargeCaptured n
capture_is rows n amount fee batch row charge none latest is =
    ap (λ (found : Option Row). with_capture_in n amount fee batch (option_or found (latest_of n rows))) none
    ∙ ap (λ (found : Option Row). with_capture_in n amount fee batch found) latest
    ∙ ap (λ (o : Item). with_capture_of row.account n amount fee batch (charge_in o)) is

-- and with a capture of a charge of which nothing was captured
pub capture_keeps : (state : ViewState) (n amount : ℕ) (fee : Option ℕ) (batch : BatchState) (behind : List Row) (row : Row) (charge : Charge)
    → IsSound state → batch.began ≡ length state.rows → latest_of n state.rows ≡ Some row
    → row.item ≡ item.Charge charge → charge.amount_captured ≡ 0 → list_any is_of_amounts batch.rows ≡ false
    → list_any is_of_amounts behind ≡ false
    → AreHeld (state.rows ++ ((with_captured row.account n (with_fee fee charge) amount batch).rows ++ behind))
    → KeepLaws (state.rows ++ ((with_captured row.account n (with_fee fee charge) amount batch).rows ++ behind))
capture_keeps state n amount fee batch behind row charge sound began latest is no_capture front untouched =
    captured_keeps state batch row.account n (with_fee fee charge) amount behind sound began front free here no_refund untouched
  where
    found : (row_at row.place state.rows ≡ Some row) × (row.object ≡ n)
    found = latest_of_sound state n row sound latest

    fits : IsWithin charge
    fits = amounts_stand state row (item.Charge charge) sound.order found.0 is

    no_refund : charge.amount_refunded ≡ 0
    no_refund = let within : charge.amount_refunded ≤ charge.amount_captured = fits.refunded in omega arith

    no_transfer : charge.amount_transferred ≡ 0
    no_transfer = let within : charge.amount_transferred ≤ charge.amount_captured = fits.transferred in omega arith

    says : SaysSums n state.rows
    says = record { captured = sound.laws.captured n; refunded = sound.laws.refunded n; transferred = sound.laws.transferred n }

    free : IsFree n state.rows
    free = record {
      captured = sym (says.captured row (pos charge.amount_captured) latest (ap captured.said is)) ∙ ap pos no_capture;
      refunded = sym (says.refunded row charge.amount_refunded latest (ap refunded.said is)) ∙ no_refund;
      transferred = sym (says.transferred row charge.amount_transferred latest (ap transferred.said is)) ∙ no_transfer;
    }

    here : n ≤ last_place batch + 1
    here =
        let object : row.object ≡ n = found.1 in
        let first : row.object ≤ row.place = sound.order.first row.place row found.0 in
        let place : (0 < row.place) × (row.place ≤ length state.rows) = row_at_within row.place state.rows row found.0 in
        let end : row.place ≤ length state.rows = place.1 in
        omega arith
