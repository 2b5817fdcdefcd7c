use Rattle.ph_conn.proofs.TextLemmas.{acquirer_pending_words, acquirer_failed_words, no_memory_words, history_full_words, malformed_words, body_too_large_words, head_too_large_words, not_implemented_words, version_not_supported_words}
use Rattle.ph_conn.proofs.texts.head.Goals as goal

pub returns-in-AcquirerPending : goal.returns-in-AcquirerPending
returns-in-AcquirerPending c = rw c.in-AcquirerPending.is acquirer_pending_words

pub returns-in-AcquirerFailed : goal.returns-in-AcquirerFailed
returns-in-AcquirerFailed c = rw c.in-AcquirerFailed.is acquirer_failed_words

pub returns-in-NoMemory : goal.returns-in-NoMemory
returns-in-NoMemory c = rw c.in-NoMemory.is no_memory_words

pub returns-in-HistoryFull : goal.returns-in-HistoryFull
returns-in-HistoryFull c = rw c.in-HistoryFull.is history_full_words

pub returns-in-Malformed : goal.returns-in-Malformed
returns-in-Malformed c = rw c.in-Malformed.is malformed_words

pub returns-in-BodyTooLarge : goal.returns-in-BodyTooLarge
returns-in-BodyTooLarge c = rw c.in-BodyTooLarge.is body_too_large_words

pub returns-in-HeadTooLarge : goal.returns-in-HeadTooLarge
returns-in-HeadTooLarge c = rw c.in-HeadTooLarge.is head_too_large_words

pub returns-in-NotImplemented : goal.returns-in-NotImplemented
returns-in-NotImplemented c = rw c.in-NotImplemented.is not_implemented_words

pub returns-in-VersionNotSupported : goal.returns-in-VersionNotSupported
returns-in-VersionNotSupported c = rw c.in-VersionNotSupported.is version_not_supported_words
