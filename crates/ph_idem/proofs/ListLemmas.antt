-- The first record that passes a test, changed where it stands.
use Rattle.std.proofs.Common.{◌≡◌, ℕ, suc, Bool, true, false, nat_lt, List, [], ◌∷◌, length, Some, None, slice_index_or, slice_set, refl, sym, ap, ◌∙◌, subst, arith}
use Rattle.std.specs.List.{position, position_or_len}
use Rattle.std.proofs.lemmas.Bool.Decides.{nat_tests}
use Rattle.ph_idem.specs.declared.key_record.KeyRecord.{KeyRecord}
use Rattle.ph_idem.specs.Records.{update_first}

set_there : (test : KeyRecord → Bool) (change : KeyRecord → KeyRecord) (records : List KeyRecord) (now : KeyRecord)
    → nat_lt (position_or_len test records) (length records) ≡ true → now ≡ slice_index_or records (position_or_len test records) now
    → slice_set records (position_or_len test records) (change now) ≡ update_first test change records
set_there test change [] now within is = absurd (cc)
set_there test change (kept ∷ records) now within is = at (test kept) refl (set_there test change records now)
  where
    at : (passes : Bool) → test kept ≡ passes
        → (nat_lt (position_or_len test records) (length records) ≡ true → now ≡ slice_index_or records (position_or_len test records) now
        → slice_set records (position_or_len test records) (change now) ≡ update_first test change records)
        → slice_set (kept ∷ records) (position_or_len test (kept ∷ records)) (change now) ≡ update_first test change (kept ∷ records)
    at true e rest =
        let same : now ≡ kept = rw e at is in
        rw e (ap (λ (k : KeyRecord). change k ∷ records) same)
    at false e rest =
        let place : position_or_len test (kept ∷ records) ≡ suc (position_or_len test records) = rw e (omega arith) in
        let inside : nat_lt (suc (position_or_len test records)) (length (kept ∷ records)) ≡ true =
        subst (λ n. nat_lt n (length (kept ∷ records)) ≡ true) place within in
        let behind : nat_lt (position_or_len test records) (length records) ≡ true = grind (arith, nat_tests, inside) in
        let there : now ≡ slice_index_or records (position_or_len test records) now =
        subst (λ n. now ≡ slice_index_or (kept ∷ records) n now) place is in
        let changed : slice_set (kept ∷ records) (suc (position_or_len test records)) (change now) ≡ update_first test change (kept ∷ records) =
        rw e (ap (λ (more : List KeyRecord). kept ∷ more) (rest behind there)) in
        subst (λ n. slice_set (kept ∷ records) n (change now) ≡ update_first test change (kept ∷ records)) (sym place) changed

-- the record at the first place whose record passes
pub set_first : (test : KeyRecord → Bool) (change : KeyRecord → KeyRecord) (records : List KeyRecord) (i : ℕ) (now new : KeyRecord)
    → Some i ≡ position test records → now ≡ slice_index_or records i now → new ≡ change now
    → slice_set records i new ≡ update_first test change records
set_first test change records i now new found is changed = at (nat_lt (position_or_len test records) (length records)) refl
  where
    at : (within : Bool) → nat_lt (position_or_len test records) (length records) ≡ within
        → slice_set records i new ≡ update_first test change records
    at true e =
        let same : Some i ≡ Some (position_or_len test records) = rw e at found in
        let i_is : i ≡ position_or_len test records = cc in
        ap (λ n. slice_set records n new) i_is ∙ ap (λ (k : KeyRecord). slice_set records (position_or_len test records) k) changed
        ∙ set_there test change records now e (subst (λ n. now ≡ slice_index_or records n now) i_is is)
    at false e = let wrong : Some i ≡ None = rw e at found in absurd (cc)

-- where none passes, nothing is changed
pub update_none : (test : KeyRecord → Bool) (change : KeyRecord → KeyRecord) (records : List KeyRecord) → None ≡ position test records
    → records ≡ update_first test change records
update_none test change records none = nothing records (at (nat_lt (position_or_len test records) (length records)) refl)
  where
    at : (within : Bool) → nat_lt (position_or_len test records) (length records) ≡ within
        → nat_lt (position_or_len test records) (length records) ≡ false
    at true e = let wrong : None ≡ Some (position_or_len test records) = rw e at none in absurd (cc)
    at false e = e

    nothing : (all : List KeyRecord) → nat_lt (position_or_len test all) (length all) ≡ false → all ≡ update_first test change all
    nothing [] over = refl
    nothing (kept ∷ all) over = by (test kept) refl (nothing all)
      where
        by : (passes : Bool) → test kept ≡ passes → (nat_lt (position_or_len test all) (length all) ≡ false → all ≡ update_first test change all)
            → kept ∷ all ≡ update_first test change (kept ∷ all)
        by true e rest = let w : nat_lt 0 (suc (length all)) ≡ false = rw e at over in absurd (grind (arith, nat_tests, w))
        by false e rest =
            let place : position_or_len test (kept ∷ all) ≡ suc (position_or_len test all) = rw e (omega arith) in
            let w : nat_lt (suc (position_or_len test all)) (length (kept ∷ all)) ≡ false =
            subst (λ n. nat_lt n (length (kept ∷ all)) ≡ false) place over in
            let behind : nat_lt (position_or_len test all) (length all) ≡ false = grind (arith, nat_tests, w) in
            rw e (ap (λ (more : List KeyRecord). kept ∷ more) (rest behind))
