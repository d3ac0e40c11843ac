-- What the refusals of the area tell of those of a phase.
use Rattle.std.proofs.Common.{◌≡◌, ◌≢◌, ℕ, refl, sym, subst}
use Rattle.recovery_laws.specs.layout.declared.error.What.{What}
use Rattle.recovery_laws.specs.area_reader.declared.error.AreaError.{AreaError}
use Rattle.recovery_laws.specs.area_reader.declared.error.AreaError.TheVariants as area
use Rattle.recovery_laws.specs.area_reader.Damage as areas
use Rattle.recovery_laws.specs.area_reader.Refusals.{IsReadRefusal}
use Rattle.area_recovery.specs.declared.error.RecoveryError.{RecoveryError}
use Rattle.area_recovery.specs.declared.error.RecoveryError.TheVariants as errors
use Rattle.area_recovery.specs.Errors.{OnDamage, IsOfArea, IsAreaFault}
use Rattle.area_recovery.specs.FaultOrMemory.{IsFaultOrMemory}

-- what a reader was refused for
pub of_reader : (e : AreaError) (P : What → ℕ → Type 0) → areas.OnDamage e P → IsReadRefusal e
of_reader area.DeviceFault P p = tt
of_reader (area.Damaged what block) P p = tt
of_reader area.NoBlock P p = p
of_reader area.NotMapped P p = p
of_reader area.Memory P p = tt

pub on_damage : (e : AreaError) (f : RecoveryError) (P : What → ℕ → Type 0) → IsAreaFault e f → areas.OnDamage e P → OnDamage f P
on_damage area.DeviceFault f P is p = subst (λ (x : RecoveryError). OnDamage x P) (sym is) tt
on_damage (area.Damaged what block) f P is p = subst (λ (x : RecoveryError). OnDamage x P) (sym is) p
on_damage area.NoBlock f P is p = absurd is
on_damage area.NotMapped f P is p = absurd is
on_damage area.Memory f P is p = subst (λ (x : RecoveryError). OnDamage x P) (sym is) tt

pub of_area : (e : AreaError) (f : RecoveryError) → IsAreaFault e f → IsOfArea f
of_area area.DeviceFault f is = subst IsOfArea (sym is) tt
of_area (area.Damaged what block) f is = subst IsOfArea (sym is) tt
of_area area.NoBlock f is = absurd is
of_area area.NotMapped f is = absurd is
of_area area.Memory f is = subst IsOfArea (sym is) tt

pub no_damage : (e : AreaError) (f : RecoveryError) (P : Type 0) → IsAreaFault e f → areas.OnDamage e (λ _ _. P) → (P → ⊥) → IsFaultOrMemory f
no_damage area.DeviceFault f P is p none = subst IsFaultOrMemory (sym is) tt
no_damage (area.Damaged what block) f P is p none = absurd (none p)
no_damage area.NoBlock f P is p none = absurd is
no_damage area.NotMapped f P is p none = absurd is
no_damage area.Memory f P is p none = subst IsFaultOrMemory (sym is) tt

pub of_memory : (e : AreaError) (f : RecoveryError) → IsAreaFault e f → f ≡ errors.Memory → e ≡ area.Memory
of_memory area.DeviceFault f is memory = cc
of_memory (area.Damaged what block) f is memory = cc
of_memory area.NoBlock f is memory = absurd is
of_memory area.NotMapped f is memory = absurd is
of_memory area.Memory f is memory = refl

pub of_fault : (e : AreaError) (f : RecoveryError) → IsAreaFault e f → f ≡ errors.DeviceFault → e ≡ area.DeviceFault
of_fault area.DeviceFault f is fault = refl
of_fault (area.Damaged what block) f is fault = cc
of_fault area.NoBlock f is fault = absurd is
of_fault area.NotMapped f is fault = absurd is
of_fault area.Memory f is fault = cc

pub of_other : (e : AreaError) (f : RecoveryError) → IsAreaFault e f → f ≢ errors.DeviceFault → e ≢ area.DeviceFault
of_other area.DeviceFault f is other fault = other is
of_other (area.Damaged what block) f is other fault = cc
of_other area.NoBlock f is other fault = is
of_other area.NotMapped f is other fault = is
of_other area.Memory f is other fault = cc
