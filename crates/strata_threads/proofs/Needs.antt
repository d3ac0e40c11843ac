-- A client whose need is served, or is not, keeps its call and its leases, and is never denied for its turns.
use Rattle.std.proofs.Common.{◌≡◌, ◌≢◌, ℕ, ⊎_elim, Result, Ok, Err, refl, sym, subst}
use Rattle.std.specs.Prelude.{OnOk}
use Rattle.tier_device.specs.declared.media.Media.{Ghosts}
use Rattle.libfs.specs.client_plan.declared.need.Need.{Need}
use Rattle.libfs.specs.client_plan.declared.need.Need.TheVariants as needs
use Rattle.libfs.specs.kernel_fs.KernelView.{KernelView}
use Rattle.libfs.specs.NeedService.{GetsNode, HasServed, HasNotServed, KeepsCopy, MayBeDenied}
use Rattle.libfs.specs.View.{ClientView}
use Rattle.libfs.specs.declared.denial.Denied.{Denied}
use Rattle.libfs.specs.declared.denial.Denied.TheVariants as denied
use Rattle.strata_threads.specs.ClientCalls.{KeepsCall}
use Rattle.strata_threads.specs.LeaseReturn.{KeepsLeases}

-- the same call, and the same leases
abbrev KeepsAll : {M : Type 0} → ClientView M → ClientView M → Type 0
KeepsAll old new = KeepsCall old new × KeepsLeases old new

-- it is another record of the same
keeps : {M : Type 0} → (old new other : ClientView M) → new ≡ other → KeepsAll old other → KeepsAll old new
keeps old new other e k = subst (KeepsAll old) (sym e) k

module _ {M S : Type 0} (device : Ghosts M) (shared : Ghosts S) (k after : KernelView S) (old new : ClientView M) where
  copy_stays : (i : ℕ) → KeepsCopy old i new → KeepsAll old new
  copy_stays i has = keeps old new old has.same ((refl, refl, refl), refl)

  node_comes : (i : ℕ) → GetsNode device shared k old i new → KeepsAll old new
  node_comes i has = keeps old new _ has.rest ((refl, refl, refl), refl)

  pub served_keeps : (need : Need) → HasServed device shared k old need new after → KeepsAll old new
  served_keeps (needs.View i) has = ⊎_elim (copy_stays i) (node_comes i) has
  served_keeps (needs.Blocks i first count) has = keeps old new _ has.0.rest ((refl, refl, refl), refl)
  served_keeps (needs.Inodes n) has = keeps old new _ has.refilled.rest ((refl, refl, refl), refl)
  served_keeps (needs.Units n) has = keeps old new _ has.refilled.rest ((refl, refl, refl), refl)
  served_keeps (needs.Pin i) has = keeps old new _ has.0 ((refl, refl, refl), refl)
  served_keeps (needs.Unpin i) has = keeps old new _ has.0 ((refl, refl, refl), refl)
  served_keeps (needs.Lease i mode) has = absurd has
  served_keeps needs.Room has = absurd has

  pub unserved_keeps : (need : Need) → HasNotServed device shared k old need new → KeepsAll old new
  unserved_keeps (needs.View i) has = keeps old new old has ((refl, refl, refl), refl)
  unserved_keeps (needs.Blocks i first count) has = keeps old new _ has.rest ((refl, refl, refl), refl)
  unserved_keeps (needs.Inodes n) has = keeps old new old has ((refl, refl, refl), refl)
  unserved_keeps (needs.Units n) has = keeps old new old has ((refl, refl, refl), refl)
  unserved_keeps (needs.Pin i) has = keeps old new old has ((refl, refl, refl), refl)
  unserved_keeps (needs.Unpin i) has = keeps old new old has ((refl, refl, refl), refl)
  unserved_keeps (needs.Lease i mode) has = keeps old new old has ((refl, refl, refl), refl)
  unserved_keeps needs.Room has = keeps old new old has ((refl, refl, refl), refl)

failed : (e : Denied) → e ≡ denied.KernelFailed → e ≢ denied.Turns
failed e is t = absurd (cc)

device_failed : (e : Denied) → e ≡ denied.Device → e ≢ denied.Turns
device_failed e is t = absurd (cc)

no_memory : (e : Denied) → e ≡ denied.Memory → e ≢ denied.Turns
no_memory e is t = absurd (cc)

no_units : (e : Denied) → e ≡ denied.NoUnits → e ≢ denied.Turns
no_units e is t = absurd (cc)

no_inode : (e : Denied) → e ≡ denied.NoInode → e ≢ denied.Turns
no_inode e is t = absurd (cc)

pub is_denied_otherwise : (need : Need) (e : Denied) → MayBeDenied need e → e ≢ denied.Turns
is_denied_otherwise (needs.View i) e may = ⊎_elim (failed e) (⊎_elim (device_failed e) (no_memory e)) may
is_denied_otherwise (needs.Blocks i first count) e may = ⊎_elim (failed e) (⊎_elim (device_failed e) (no_memory e)) may
is_denied_otherwise (needs.Inodes n) e may = ⊎_elim (no_memory e) (⊎_elim (failed e) (⊎_elim (no_units e) (no_inode e))) may
is_denied_otherwise (needs.Units n) e may = ⊎_elim (no_memory e) (⊎_elim (failed e) (no_units e)) may
is_denied_otherwise (needs.Pin i) e may = ⊎_elim (failed e) (no_memory e) may
is_denied_otherwise (needs.Unpin i) e may = failed e may
is_denied_otherwise (needs.Lease i mode) e may = absurd may
is_denied_otherwise needs.Room e may = absurd may

-- it is some kernel that served it
pub served_by_one : {M S : Type 0} (device : Ghosts M) (shared : Ghosts S) (k : KernelView S) (old new : ClientView M) (need : Need) (r : Result (Unit {0}) Denied)
    → OnOk r ((after : KernelView S) × HasServed device shared k old need new after) → OnOk r ((kernel : KernelView S) × (after : KernelView S) × HasServed device shared kernel old need new after)
served_by_one device shared k old new need (Ok x) has = (k, has.0, has.1)
served_by_one device shared k old new need (Err e) has = tt
