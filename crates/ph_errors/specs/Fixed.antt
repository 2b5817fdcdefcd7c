-- The errors whose bodies are fixed bytes.
use Rattle.std.specs.Prelude.{ℕ, Option, Some, None, ◌==◌, if◌then◌else◌}
use Rattle.ph_errors.specs.declared.fixed.Fixed.{Fixed}
use Rattle.ph_errors.specs.declared.fixed.Fixed.TheVariants as fixed
use Rattle.ph_errors.specs.Table.{Problem, AcquirerPending, AcquirerFailed, NoMemory, HistoryFull, Malformed, BodyTooLarge, HeadTooLarge, NotImplemented, VersionNotSupported}

-- which error it is
abbrev pub problem_of : Fixed → Problem
problem_of fixed.AcquirerPending = AcquirerPending
problem_of fixed.AcquirerFailed = AcquirerFailed
problem_of fixed.NoMemory = NoMemory
problem_of fixed.HistoryFull = HistoryFull
problem_of fixed.Malformed = Malformed
problem_of fixed.BodyTooLarge = BodyTooLarge
problem_of fixed.HeadTooLarge = HeadTooLarge
problem_of fixed.NotImplemented = NotImplemented
problem_of fixed.VersionNotSupported = VersionNotSupported

-- the closing reply with this status
abbrev pub closing_of : ℕ → Option Fixed
closing_of status =
    if status == 400 then Some fixed.Malformed else
    (if status == 413 then Some fixed.BodyTooLarge else
    (if status == 431 then Some fixed.HeadTooLarge else
    (if status == 501 then Some fixed.NotImplemented else
    (if status == 505 then Some fixed.VersionNotSupported else None))))
