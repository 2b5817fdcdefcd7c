use Rattle.std.proofs.Common.{sym}
use Rattle.ph_errors.proofs.FixedLemmas.{malformed_body, body_too_large_body, head_too_large_body, not_implemented_body, version_not_supported_body, acquirer_pending_body, acquirer_failed_body, no_memory_body, history_full_body}
use Rattle.ph_errors.proofs.fixed.Fixed.body.Goals as goal

pub returns-in-Malformed : goal.returns-in-Malformed
returns-in-Malformed c = rw c.in-Malformed.is (sym malformed_body)

pub returns-in-BodyTooLarge : goal.returns-in-BodyTooLarge
returns-in-BodyTooLarge c = rw c.in-BodyTooLarge.is (sym body_too_large_body)

pub returns-in-HeadTooLarge : goal.returns-in-HeadTooLarge
returns-in-HeadTooLarge c = rw c.in-HeadTooLarge.is (sym head_too_large_body)

pub returns-in-NotImplemented : goal.returns-in-NotImplemented
returns-in-NotImplemented c = rw c.in-NotImplemented.is (sym not_implemented_body)

pub returns-in-VersionNotSupported : goal.returns-in-VersionNotSupported
returns-in-VersionNotSupported c = rw c.in-VersionNotSupported.is (sym version_not_supported_body)

pub returns-in-AcquirerPending : goal.returns-in-AcquirerPending
returns-in-AcquirerPending c = rw c.in-AcquirerPending.is (sym acquirer_pending_body)

pub returns-in-AcquirerFailed : goal.returns-in-AcquirerFailed
returns-in-AcquirerFailed c = rw c.in-AcquirerFailed.is (sym acquirer_failed_body)

pub returns-in-NoMemory : goal.returns-in-NoMemory
returns-in-NoMemory c = rw c.in-NoMemory.is (sym no_memory_body)

pub returns-in-HistoryFull : goal.returns-in-HistoryFull
returns-in-HistoryFull c = rw c.in-HistoryFull.is (sym history_full_body)
