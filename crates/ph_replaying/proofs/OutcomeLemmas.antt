-- What an input came to is what its bytes come to.
use Rattle.std.proofs.Common.{◌≡◌, ℕ, ◌⊎◌, inl, inr, List, ◌++◌, Option, Some, None, refl, sym, ap, subst, ◌∙◌}
use Rattle.ph_io.specs.Told.{SourceState, SinkState, preceded_by}
use Rattle.ph_io.specs.Reads.{Moves, EndsAfter}
use Rattle.ph_io.proofs.DeviceLemmas.{ends_after_all}
use Rattle.ph_book.specs.Legal.{IsLegal}
use Rattle.ph_lines.proofs.FieldLemmas.{some_is}
use Rattle.ph_history.specs.Grammar.{IsBadAt, IsCut, IsText}
use Rattle.ph_history.specs.Text.{History}
use Rattle.ph_history.specs.declared.faults.HistoryFault.TheVariants as fault
use Rattle.ph_history.proofs.FaultLemmas.{bad_line_one, cut_not_bad}
use Rattle.ph_history.proofs.OnlyLemmas.{bad_more, text_not_bad, text_not_cut, text_of_one}
use Rattle.ph_replay.specs.Legal.{IsIllegalAt}
use Rattle.ph_replay.proofs.LegalLemmas.{illegal_never, illegal_one}
use Rattle.ph_replaying.specs.Commands.{Answers, AnswersOrFails, Gives, IsOf, IsRead, Outcome, Refuses, Replays}
use Rattle.ph_replaying.specs.Commands.Outcome.{Whole, Faulty}

-- it is that, or a read failed, or there was no memory
abbrev IsSame : Outcome → Outcome → Type 0
IsSame given outcome = (given ≡ outcome) ⊎ (given ≡ Faulty fault.ReadFault) ⊎ (given ≡ Faulty fault.NoMemory)

-- all of the bytes were read as this history's text
read_all : (old new : SourceState) (bytes : List ℕ) (history : History) → old.left ≡ Some bytes → IsRead old new history → IsText bytes history
read_all old new bytes history told read = subst (λ b. IsText b history) (sym (ends_after_all read.ended told)) read.text

-- what was read leaves the form there, and so do all of the bytes
bad_of_all : (old new : SourceState) (bytes read : List ℕ) (at : ℕ) → old.left ≡ Some bytes → Moves old new read ⊎ EndsAfter old new read → IsBadAt read at → IsBadAt bytes at
bad_of_all old new bytes read at told (inr ended) bad = subst (λ b. IsBadAt b at) (sym (ends_after_all ended told)) bad
bad_of_all old new bytes read at told (inl moved) bad = front new.left (sym told ∙ moved.left)
  where
    front : (left : Option (List ℕ)) → Some bytes ≡ preceded_by left read → IsBadAt bytes at
    front None same = absurd (let never : Some bytes ≡ None = same in cc)
    front (Some rest) same =
        let whole : bytes ≡ read ++ rest = some_is bytes (read ++ rest) same in
        subst (λ b. IsBadAt b at) (sym whole) (bad_more read rest at bad)

of_whole : (bytes : List ℕ) (history : History) (outcome : Outcome) → IsText bytes history → IsLegal history.setup history.entries → IsOf bytes outcome → IsSame (Whole history) outcome
of_whole bytes history (Whole other) text legal is = inl (ap Whole (text_of_one bytes history other text is.0))
of_whole bytes history (Faulty (fault.BadLine at)) text legal is = absurd (text_not_bad bytes history at text is)
of_whole bytes history (Faulty (fault.Illegal at)) text legal is =
    absurd (illegal_never is.0.setup is.0.entries at is.2 (subst (λ (h : History). IsLegal h.setup h.entries) (text_of_one bytes history is.0 text is.1) legal))
of_whole bytes history (Faulty fault.Cut) text legal is = absurd (text_not_cut bytes history text is)
of_whole bytes history (Faulty fault.ReadFault) text legal is = absurd is
of_whole bytes history (Faulty fault.NoMemory) text legal is = absurd is

of_bad : (bytes : List ℕ) (at : ℕ) (outcome : Outcome) → IsBadAt bytes at → IsOf bytes outcome → IsSame (Faulty (fault.BadLine at)) outcome
of_bad bytes at (Whole history) bad is = absurd (text_not_bad bytes history at is.0 bad)
of_bad bytes at (Faulty (fault.BadLine other)) bad is = inl (ap (λ n. Faulty (fault.BadLine n)) (bad_line_one bytes at other bad is))
of_bad bytes at (Faulty (fault.Illegal other)) bad is = absurd (text_not_bad bytes is.0 at is.1 bad)
of_bad bytes at (Faulty fault.Cut) bad is = absurd (cut_not_bad bytes at is bad)
of_bad bytes at (Faulty fault.ReadFault) bad is = absurd is
of_bad bytes at (Faulty fault.NoMemory) bad is = absurd is

of_illegal : (bytes : List ℕ) (history : History) (at : ℕ) (outcome : Outcome) → IsText bytes history → IsIllegalAt history.setup history.entries at → IsOf bytes outcome → IsSame (Faulty (fault.Illegal at)) outcome
of_illegal bytes history at (Whole other) text illegal is =
    absurd (illegal_never history.setup history.entries at illegal (subst (λ (h : History). IsLegal h.setup h.entries) (text_of_one bytes other history is.0 text) is.1))
of_illegal bytes history at (Faulty (fault.BadLine other)) text illegal is = absurd (text_not_bad bytes history other text is)
of_illegal bytes history at (Faulty (fault.Illegal other)) text illegal is =
    inl (ap (λ n. Faulty (fault.Illegal n))
    (illegal_one history.setup history.entries at other illegal (subst (λ (h : History). IsIllegalAt h.setup h.entries other) (text_of_one bytes is.0 history is.1 text) is.2)))
of_illegal bytes history at (Faulty fault.Cut) text illegal is = absurd (text_not_cut bytes history text is)
of_illegal bytes history at (Faulty fault.ReadFault) text illegal is = absurd is
of_illegal bytes history at (Faulty fault.NoMemory) text illegal is = absurd is

of_cut : (bytes : List ℕ) (outcome : Outcome) → IsCut bytes → IsOf bytes outcome → IsSame (Faulty fault.Cut) outcome
of_cut bytes (Whole history) cut is = absurd (text_not_cut bytes history is.0 cut)
of_cut bytes (Faulty (fault.BadLine at)) cut is = absurd (cut_not_bad bytes at cut is)
of_cut bytes (Faulty (fault.Illegal at)) cut is = absurd (text_not_cut bytes is.0 is.1 cut)
of_cut bytes (Faulty fault.Cut) cut is = inl refl
of_cut bytes (Faulty fault.ReadFault) cut is = absurd is
of_cut bytes (Faulty fault.NoMemory) cut is = absurd is

same_outcome : (given outcome : Outcome) (old new : SourceState) (bytes : List ℕ) → Gives old new given → old.left ≡ Some bytes → IsOf bytes outcome → IsSame given outcome
same_outcome (Whole history) outcome old new bytes gives told is = of_whole bytes history outcome (read_all old new bytes history told gives.0) gives.1 is
same_outcome (Faulty (fault.BadLine at)) outcome old new bytes (inl reads) told is =
    of_bad bytes at outcome (bad_of_all old new bytes reads.bytes at told reads.says.0 reads.says.1) is
same_outcome (Faulty (fault.BadLine at)) outcome old new bytes (inr unentered) told is = absurd unentered.refused
same_outcome (Faulty (fault.Illegal at)) outcome old new bytes (inl reads) told is = absurd reads.says
same_outcome (Faulty (fault.Illegal at)) outcome old new bytes (inr unentered) told is =
    of_illegal bytes unentered.history at outcome (read_all old new bytes unentered.history told unentered.read) unentered.refused is
same_outcome (Faulty fault.Cut) outcome old new bytes (inl reads) told is =
    of_cut bytes outcome (subst IsCut (sym (ends_after_all reads.says.0 told)) reads.says.1) is
same_outcome (Faulty fault.Cut) outcome old new bytes (inr unentered) told is = absurd unentered.refused
same_outcome (Faulty fault.ReadFault) outcome old new bytes gives told is = inr (inl refl)
same_outcome (Faulty fault.NoMemory) outcome old new bytes gives told is = inr (inr refl)

answered : (given outcome : Outcome) (old new : SinkState) (status : ℕ) → IsSame given outcome → Answers old new given status → AnswersOrFails old new outcome status
answered given outcome old new status (inl same) wrote = inl (subst (λ o. Answers old new o status) same wrote)
answered given outcome old new status (inr (inl failed)) wrote =
    let refuses : Refuses old new fault.ReadFault status = subst (λ o. Answers old new o status) failed wrote in
    inr (refuses.0, inl refuses.1)
answered given outcome old new status (inr (inr none)) wrote =
    let refuses : Refuses old new fault.NoMemory status = subst (λ o. Answers old new o status) none wrote in
    inr (refuses.0, inr refuses.1)

-- what is written is what is written of what the bytes come to
pub exactly : {input0 input1 : SourceState} {output0 output1 : SinkState} {status : ℕ} → Replays input0 input1 output0 output1 status
    → (bytes : List ℕ) (outcome : Outcome) → input0.left ≡ Some bytes → IsOf bytes outcome → AnswersOrFails output0 output1 outcome status
exactly {input0} {input1} {output0} {output1} {status} replays bytes outcome told is =
    answered replays.outcome outcome output0 output1 status (same_outcome replays.outcome outcome input0 input1 bytes replays.given told is) replays.wrote
