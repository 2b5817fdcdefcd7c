-- The parameters of calls: how the values of a row's parameters are read from a form, and handed to what makes the call of them.
use Rattle.std.specs.Prelude.{ℕ, ◌||◌, not, Bool, List, [], ◌∷◌, Option, Some, None, option_map, Result, Ok, Err, find, codes}
use Rattle.std.specs.List.{list_any}
use Rattle.ph_errors.specs.declared.api_error.ApiError.{ApiError}
use Rattle.ph_errors.specs.Table.{ParameterUnknown, ParameterMissing, ParameterInvalidInteger, AmountTooLarge, InvalidValue, NoSuchPaymentMethod, NoMemory, error_of}
use Rattle.ph_form.specs.declared.leaf.Leaf.{Leaf}
use Rattle.ph_form.specs.Names.{is_within}
use Rattle.ph_kinds.specs.declared.flaw.Flaw.{Flaw}
use Rattle.ph_kinds.specs.declared.flaw.Flaw.TheVariants as flaw
use Rattle.ph_kinds.specs.Kind.{Kind}
use Rattle.ph_kinds.specs.Kinds.{Value}
use Rattle.ph_kinds.specs.Values.{value_at}

-- a parameter by its printed name: of a kind, one that has to be there or one that may be left out; or one that is accepted with anything
-- below it and has no effect
pub data Parameter : Type 0 where
  Must : List ℕ → Kind → Parameter
  May : List ℕ → Kind → Parameter
  Ignored : List ℕ → Parameter

-- its name
abbrev pub name_of : Parameter → List ℕ
name_of (Must name kind) = name
name_of (May name kind) = name
name_of (Ignored name) = name

-- the error of a parameter that isn't of its kind; a definition never wants memory
abbrev pub flaw_error : Flaw → List ℕ → ApiError
flaw_error flaw.InvalidInteger param = error_of (ParameterInvalidInteger param)
flaw_error flaw.AmountTooLarge param = error_of (AmountTooLarge param)
flaw_error flaw.InvalidValue param = error_of (InvalidValue param)
flaw_error flaw.NoSuchPaymentMethod param = error_of (NoSuchPaymentMethod param)
flaw_error flaw.NoMemory param = error_of NoMemory

-- what was read of a parameter, or the error of its flaw
abbrev pub unless_flawed : {X : Type 0} → List ℕ → Result X Flaw → Result X ApiError
unless_flawed name (Ok value) = Ok value
unless_flawed name (Err flaw) = Err (flaw_error flaw name)

-- the value of a parameter, or the error of one that isn't there
abbrev pub unless_missing : {X : Type 0} → List ℕ → Result (Option X) ApiError → Result X ApiError
unless_missing name (Ok (Some value)) = Ok value
unless_missing name (Ok None) = Err (error_of (ParameterMissing name))
unless_missing name (Err error) = Err error

-- the value of a parameter that may be left out, or its error
unfoldable pub may : (k : Kind) → List ℕ → List Leaf → Result (Option (Value k)) ApiError
may k name leaves = unless_flawed name (value_at k name leaves)

-- the value of a parameter that has to be there, or its error
abbrev pub must : (k : Kind) → List ℕ → List Leaf → Result (Value k) ApiError
must k name leaves = unless_missing name (may k name leaves)

-- what is made of a value, or the error in its place
abbrev pub with_value : {X Y : Type 0} → Result X ApiError → (X → Result Y ApiError) → Result Y ApiError
with_value (Ok value) make = make value
with_value (Err error) make = Err error

-- what takes the values of these parameters, one after another, and makes something of them: a value of each that has to be there, and a value or
-- none of each that may be left out
abbrev pub Takes : List Parameter → Type 0 → Type 0
Takes [] X = X
Takes (Must name kind ∷ params) X = Value kind → Takes params X
Takes (May name kind ∷ params) X = Option (Value kind) → Takes params X
Takes (Ignored name ∷ params) X = Takes params X

-- what is made of the values that a form gives to these parameters, or the error of the first that has one
unfoldable pub given : {X : Type 0} → (params : List Parameter) → Takes params X → List Leaf → Result X ApiError
given [] made leaves = Ok made
given (Must name kind ∷ params) make leaves = with_value (must kind name leaves) (λ value. given params (make value) leaves)
given (May name kind ∷ params) make leaves = with_value (may kind name leaves) (λ value. given params (make value) leaves)
given (Ignored name ∷ params) make leaves = given params make leaves

-- the name is one of these or `expand`, or lies below one of them
abbrev pub is_known : List (List ℕ) → List ℕ → Bool
is_known names name = list_any (λ known. is_within known name) names || is_within (codes "expand") name

-- the error of the least unknown name: the leaves stand in byte order of their names
abbrev pub unknown_error : List (List ℕ) → List Leaf → Option ApiError
unknown_error names leaves = option_map (λ leaf. error_of (ParameterUnknown leaf.name)) (find (λ leaf. not (is_known names leaf.name)) leaves)
