-- A client stays sound as the record that is begun is kept, and its call answered.
use Rattle.std.proofs.Common.{◌≡◌, Bool, true, false, [], ◌∷◌, ◌++◌, inl, inr, refl, sym, ◌∙◌, ap, subst}
use Rattle.std.specs.Prelude.{Option, Some, None, IfSome, is_some, not, ◌&&◌}
use Rattle.std.proofs.lemmas.Bool.{cases_Bool, false≢true}
use Rattle.atomic_table.specs.Seated.{TableId}
use Rattle.tier_device.specs.declared.media.Media.{Ghosts}
use Rattle.lease_manager.specs.log_record.declared.format.Record.{Record}
use Rattle.lease_manager.specs.Passes.{PassView}
use Rattle.lease_manager.specs.RecordCounts.{HasUncounted}
use Rattle.client_log.specs.Turns.{Turn, record_appended, record_given_up, turn_of}
use Rattle.client_log.specs.View.{LogView}
use Rattle.client_view.specs.AfterRecord.{knows_logged}
use Rattle.client_view.specs.KnowledgeTables.{Held, knows}
use Rattle.client_view.specs.RecordLists.{Kept}
use Rattle.libfs.specs.declared.begun_record.Begun.{Begun}
use Rattle.libfs.specs.Sound.{IsSound}
use Rattle.libfs.specs.View.{begun_record}
use Rattle.libfs.proofs.Kept.{sound_dropped, sound_replied}

waiting : (o : Option Begun) (a : Bool) → (is_some o && not a) ≡ true → (b : Begun) × (o ≡ Some b) × (a ≡ false)
waiting None a is = absurd (false≢true is)
waiting (Some b) true is = absurd (false≢true is)
waiting (Some b) false is = (b, refl, refl)

if_some : {X : Type 0} (o : Option X) (P : X → Type 0) (x : X) → o ≡ Some x → IfSome o P → P x
if_some None P x is all = absurd (cc)
if_some (Some y) P x is all = let same : y ≡ x = cc in subst P same all

pub sound_kept : {M : Type 0} (device : Ghosts M) (leases : TableId) (pass : PassView) (log : LogView M) (copies : Held) (begun : Option Begun) (answered : Bool) (kept : Kept) → IsSound device leases pass log copies begun answered kept → (new : LogView M) (known : Held) (after : Option Begun) (more : Kept)
    → (is_some begun && not answered) ≡ true → IfSome log.current.begun (λ r. turn_of device new ≡ record_appended (turn_of device log) r) → new.other ≡ log.other → after ≡ None
    → IfSome begun (λ b. knows known ≡ knows_logged (knows copies) b.change.logged.effects b.change.made b.change.descriptor) → IfSome begun (λ b. more.current ≡ kept.current ++ b.change.logged ∷ []) → more.away ≡ kept.away → IsSound device leases pass new known after answered more
sound_kept device leases pass log copies begun answered kept s new known after more waits appended other none logged pushed away =
    let b = waiting begun answered waits in
    let turn = if_some log.current.begun (λ (r : Record). turn_of device new ≡ record_appended (turn_of device log) r) b.0.change.logged (sym s.begins ∙ ap begun_record b.1) appended in
    subst (λ (o : Option Begun). IsSound device leases pass new known o answered more) (sym none)
    (sound_replied device leases pass log copies begun answered kept s new known b.0 more b.1 b.2 (ap (λ (x : Turn). x.current) turn) (ap (λ (x : Turn). x.begun) turn) other
    (if_some begun (λ (b : Begun). knows known ≡ knows_logged (knows copies) b.change.logged.effects b.change.made b.change.descriptor) b.0 b.1 logged)
    (if_some begun (λ (b : Begun). more.current ≡ kept.current ++ b.change.logged ∷ []) b.0 b.1 pushed) away)

-- a client whose log goes on was not answered yet where a record is begun
pub waits_yet : (o : Option Begun) (a f : Bool) → is_some o ≡ true → (a ≡ true → (f ≡ true) × (is_some o ≡ true)) → f ≡ false → (is_some o && not a) ≡ true
waits_yet o a f some failed going = elim (cases_Bool a) [
  | inl is ↦ absurd (false≢true (sym going ∙ (failed is).0))
  | inr is ↦ ap (λ (b : Bool). is_some o && not b) is ∙ ap (λ (b : Bool). b && true) some
]

-- A client stays sound as the record that is begun is given up.
pub sound_given_up : {M : Type 0} (device : Ghosts M) (leases : TableId) (pass : PassView) (log : LogView M) (copies : Held) (begun : Option Begun) (answered : Bool) (kept : Kept) → IsSound device leases pass log copies begun answered kept → (cleaned : PassView) (new : LogView M) (known : Held) (after : Option Begun)
    → (is_some begun && not answered) ≡ true → turn_of device new ≡ record_given_up (turn_of device log) → new.other ≡ log.other → after ≡ None → IfSome begun (λ b. HasUncounted pass b.change.logged.effects cleaned) → known.client ≡ copies.client → known.copies ≡ copies.copies
    → IsSound device leases cleaned new known after answered kept
sound_given_up device leases pass log copies begun answered kept s cleaned new known after waits turn other none uncounted client same =
    let b = waiting begun answered waits in
    subst (λ (o : Option Begun). IsSound device leases cleaned new known o answered kept) (sym none)
    (subst (λ (a : Bool). IsSound device leases cleaned new known None a kept) (sym b.2)
    (sound_dropped device leases pass log copies begun answered kept s cleaned new known b.0 b.1
    (if_some begun (λ (b : Begun). HasUncounted pass b.change.logged.effects cleaned) b.0 b.1 uncounted)
    (ap (λ (x : Turn). x.current) turn) (ap (λ (x : Turn). x.begun) turn) (ap is_some other) client same))
