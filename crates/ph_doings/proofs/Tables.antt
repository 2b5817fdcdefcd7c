-- What the tables of statuses allow.
use Rattle.std.proofs.Common.{◌≡◌, true, false, Option, Some, None, refl}
use Rattle.ph_items.specs.declared.intents.IntentStatus.{IntentStatus}
use Rattle.ph_items.specs.declared.intents.IntentStatus.TheVariants as status
use Rattle.ph_facts.specs.Touches.{Cause, Confirms, Authenticates}
use Rattle.ph_doings.proofs.Sound.{is_over}
use Rattle.ph_facts.specs.Statuses.{may_authenticate, may_begin, may_put}

-- a payment intent that is processing isn't put anywhere
pub not_put_while_processing : (old : Option IntentStatus) (put : IntentStatus) → may_put old put ≡ true → old ≡ Some status.Processing → ⊥
not_put_while_processing old put may is = let no_place : false ≡ true = rw is at may in cc

-- none is put into processing, or into requiring action
pub not_put_processing : (old : Option IntentStatus) (put : IntentStatus) → may_put old put ≡ true → put ≡ status.Processing → ⊥
not_put_processing None put may is = let no_place : false ≡ true = rw is at may in cc
not_put_processing (Some status.RequiresPaymentMethod) put may is = let no_place : false ≡ true = rw is at may in cc
not_put_processing (Some status.RequiresConfirmation) put may is = let no_place : false ≡ true = rw is at may in cc
not_put_processing (Some status.RequiresAction) put may is = let no_place : false ≡ true = rw is at may in cc
not_put_processing (Some status.Processing) put may is = cc
not_put_processing (Some status.RequiresCapture) put may is = let no_place : false ≡ true = rw is at may in cc
not_put_processing (Some status.Succeeded) put may is = cc
not_put_processing (Some status.Canceled) put may is = cc

pub not_put_waiting : (old : Option IntentStatus) (put : IntentStatus) → may_put old put ≡ true → put ≡ status.RequiresAction → ⊥
not_put_waiting None put may is = let no_place : false ≡ true = rw is at may in cc
not_put_waiting (Some status.RequiresPaymentMethod) put may is = let no_place : false ≡ true = rw is at may in cc
not_put_waiting (Some status.RequiresConfirmation) put may is = let no_place : false ≡ true = rw is at may in cc
not_put_waiting (Some status.RequiresAction) put may is = let no_place : false ≡ true = rw is at may in cc
not_put_waiting (Some status.Processing) put may is = cc
not_put_waiting (Some status.RequiresCapture) put may is = let no_place : false ≡ true = rw is at may in cc
not_put_waiting (Some status.Succeeded) put may is = cc
not_put_waiting (Some status.Canceled) put may is = cc

-- no attempt begins of a payment intent that is processing
pub not_begun_while_processing : (cause : Cause) (old : Option IntentStatus) → may_begin cause old ≡ true → old ≡ Some status.Processing → ⊥
not_begun_while_processing Confirms old may is = let no_place : false ≡ true = rw is at may in cc
not_begun_while_processing Authenticates old may is = let no_place : false ≡ true = rw is at may in cc

-- a customer authenticates only where the payment intent waits for that
pub authenticates_waiting : (old : Option IntentStatus) → may_authenticate old ≡ true → old ≡ Some status.RequiresAction
authenticates_waiting None may = absurd (cc)
authenticates_waiting (Some status.RequiresPaymentMethod) may = absurd (cc)
authenticates_waiting (Some status.RequiresConfirmation) may = absurd (cc)
authenticates_waiting (Some status.RequiresAction) may = refl
authenticates_waiting (Some status.Processing) may = absurd (cc)
authenticates_waiting (Some status.RequiresCapture) may = absurd (cc)
authenticates_waiting (Some status.Succeeded) may = absurd (cc)
authenticates_waiting (Some status.Canceled) may = absurd (cc)

-- a payment intent that is over stays so where it is put
pub over_stays : (old : Option IntentStatus) (put : IntentStatus) → may_put old put ≡ true → is_over old ≡ true → is_over (Some put) ≡ true
over_stays None put may over = absurd (cc)
over_stays (Some status.RequiresPaymentMethod) put may over = absurd (cc)
over_stays (Some status.RequiresConfirmation) put may over = absurd (cc)
over_stays (Some status.RequiresAction) put may over = absurd (cc)
over_stays (Some status.Processing) put may over = absurd (cc)
over_stays (Some status.RequiresCapture) status.RequiresPaymentMethod may over = absurd (cc)
over_stays (Some status.RequiresCapture) status.RequiresConfirmation may over = absurd (cc)
over_stays (Some status.RequiresCapture) status.RequiresAction may over = absurd (cc)
over_stays (Some status.RequiresCapture) status.Processing may over = absurd (cc)
over_stays (Some status.RequiresCapture) status.RequiresCapture may over = refl
over_stays (Some status.RequiresCapture) status.Succeeded may over = refl
over_stays (Some status.RequiresCapture) status.Canceled may over = refl
over_stays (Some status.Succeeded) put may over = absurd (cc)
over_stays (Some status.Canceled) put may over = absurd (cc)

-- no attempt begins of a payment intent that is over
pub not_begun_when_over : (cause : Cause) (old : Option IntentStatus) → may_begin cause old ≡ true → is_over old ≡ true → ⊥
not_begun_when_over Confirms None may over = cc
not_begun_when_over Confirms (Some status.RequiresPaymentMethod) may over = cc
not_begun_when_over Confirms (Some status.RequiresConfirmation) may over = cc
not_begun_when_over Confirms (Some status.RequiresAction) may over = cc
not_begun_when_over Confirms (Some status.Processing) may over = cc
not_begun_when_over Confirms (Some status.RequiresCapture) may over = cc
not_begun_when_over Confirms (Some status.Succeeded) may over = cc
not_begun_when_over Confirms (Some status.Canceled) may over = cc
not_begun_when_over Authenticates old may over = let no_place : false ≡ true = rw (authenticates_waiting old may) at over in cc
