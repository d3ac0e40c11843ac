-- Kinds of events within one another.
use Rattle.std.proofs.Common.{◌≡◌, ℕ, Bool, true, false, inl, inr, ap, subst, sym}
use Rattle.interleavings.specs.event_steps.declared.event.Event.{Event}
use Rattle.interleavings.specs.event_steps.declared.event.Event.TheVariants as kinds
use Rattle.interleavings.specs.event_steps.Turns.{whose}
use Rattle.call_driver.specs.EventOwner.{IsOfClient, IsServing, IsDigesting, IsHandingOver}

-- what a client digests is its own
pub digesting_is_own : (client : ℕ) (e : Event) → IsDigesting client e → IsOfClient client e
digesting_is_own client e (inl is) = ap whose is
digesting_is_own client e (inr is) = ap whose is

pub wipe_is_own : (client : ℕ) (e : Event) → e ≡ kinds.WipeStep client → IsOfClient client e
wipe_is_own client e is = ap whose is

pub step_is_own : (client : ℕ) (e : Event) → e ≡ kinds.Step client → IsOfClient client e
step_is_own client e is = ap whose is

-- a call's own events serve it
pub own_serves : (hands : Bool) (client : ℕ) (e : Event) → IsOfClient client e → IsServing hands client e
own_serves true client e is = inl is
own_serves false client e is = is

-- so do those by which others hand over, where they do
pub others_serve : (hands : Bool) (client inode : ℕ) → hands ≡ true → (e : Event) → IsHandingOver inode e → IsServing hands client e
others_serve hands client inode is e over = subst (λ b. IsServing b client e) (sym is) (inr (inode, over))

-- what others digest they hand over
pub digesting_hands_over : (client inode : ℕ) (e : Event) → IsDigesting client e → IsHandingOver inode e
digesting_hands_over client inode e is = (client, inl is)
