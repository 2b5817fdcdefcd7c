-- What the commands `sign` and `verify` do.
use Rattle.std.specs.Prelude.{◌≡◌, ℕ, ◌⊎◌, List, [], ◌∷◌, ◌++◌, codes, Option, Some, None, Result, Ok, Err}
use Rattle.ph_io.specs.Told.{SourceState, SinkState}
use Rattle.ph_io.specs.Writes.{Takes, TakesFront}
use Rattle.ph_sign.specs.Signatures.{signature_header}
use Rattle.ph_sign.specs.Verdicts.{verdict_of}
use Rattle.ph_sign.specs.declared.verdicts.Verdict.{Verdict}
use Rattle.ph_sign.specs.declared.verdicts.Verdict.TheVariants.{Good, Malformed, Mismatch, Old}
use Rattle.ph_signing.specs.Bodies.{Gathers}
use Rattle.ph_signing.specs.declared.body.BodyFault.{BodyFault}
use Rattle.ph_signing.specs.declared.body.BodyFault.TheVariants as fault
use Rattle.ph_signing.specs.Words.{Asked, Sign, Verify, Other}

-- a text on a line of its own
abbrev pub line : List ℕ → List ℕ
line text = text ++ 10 ∷ []

-- the line was written and the status is this; or a write failed behind a front of it, and the status is 4
abbrev pub Prints : SinkState → SinkState → List ℕ → ℕ → ℕ → Type 0
Prints old new text given status =
    (Takes old new text × (status ≡ given)) ⊎ (TakesFront old new text × (status ≡ 4))

-- a body that is too long is said so, with the status 1; a read that failed has the status 3, and want of
-- memory 6, and neither writes anything
abbrev pub Refuses : SinkState → SinkState → BodyFault → ℕ → Type 0
Refuses old new fault.TooLong status = Prints old new (line (codes "too long")) 1 status
Refuses old new fault.ReadFault status = (new ≡ old) × (status ≡ 3)
Refuses old new fault.NoMemory status = (new ≡ old) × (status ≡ 6)

-- the word of a verdict
abbrev pub word_of : Verdict → List ℕ
word_of Good = codes "good"
word_of Malformed = codes "malformed"
word_of Mismatch = codes "mismatch"
word_of Old = codes "old"

-- the status of a verdict
abbrev pub status_of : Verdict → ℕ
status_of Good = 0
status_of Malformed = 1
status_of Mismatch = 1
status_of Old = 1

-- the header of a body is written, or there was no memory for it
abbrev pub SignsBody : SinkState → SinkState → List ℕ → ℕ → Result (List ℕ) BodyFault → ℕ → Type 0
SignsBody old new secret t (Ok body) status =
    Prints old new (line (signature_header (secret ∷ []) t body)) 0 status
    ⊎ ((new ≡ old) × (status ≡ 6))
SignsBody old new secret t (Err fault) status = Refuses old new fault status

-- the verdict on the header for a body is written
abbrev pub VerifiesBody : SinkState → SinkState → List ℕ → List ℕ → ℕ → ℕ → Result (List ℕ) BodyFault → ℕ → Type 0
VerifiesBody old new secret header now tolerance (Ok body) status =
    Prints old new (line (word_of (verdict_of header secret body now tolerance)))
    (status_of (verdict_of header secret body now tolerance)) status
VerifiesBody old new secret header now tolerance (Err fault) status = Refuses old new fault status

-- the body was read, or not, and its header was written
pub record Signs (secret : List ℕ) (t : ℕ) (input0 input1 : SourceState) (output0 output1 : SinkState) (status : ℕ) : Type 0 where
  pub body : Result (List ℕ) BodyFault
  pub gathered : Gathers input0 input1 body
  pub wrote : SignsBody output0 output1 secret t body status

-- the body was read, or not, and the verdict on the header was written
pub record Verifies (secret header : List ℕ) (now tolerance : ℕ) (input0 input1 : SourceState) (output0 output1 : SinkState) (status : ℕ) : Type 0 where
  pub body : Result (List ℕ) BodyFault
  pub gathered : Gathers input0 input1 body
  pub wrote : VerifiesBody output0 output1 secret header now tolerance body status

-- what the words ask for was done with this status, or they ask for something else and nothing was done
abbrev pub Does : Asked → SourceState → SourceState → SinkState → SinkState → Option ℕ → Type 0
Does (Sign secret t) input0 input1 output0 output1 (Some status) =
    Signs secret t input0 input1 output0 output1 status
Does (Sign secret t) input0 input1 output0 output1 None = ⊥
Does (Verify secret header now tolerance) input0 input1 output0 output1 (Some status) =
    Verifies secret header now tolerance input0 input1 output0 output1 status
Does (Verify secret header now tolerance) input0 input1 output0 output1 None = ⊥
Does Other input0 input1 output0 output1 (Some status) = ⊥
Does Other input0 input1 output0 output1 None = (input1 ≡ input0) × (output1 ≡ output0)
