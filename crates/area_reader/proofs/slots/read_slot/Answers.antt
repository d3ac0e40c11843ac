use Rattle.std.proofs.Common.{◌≡◌, ◌∙◌, Some, None, refl, sym, subst}
use Rattle.batch_journal.specs.layout.declared.error.What.TheVariants as what
use Rattle.batch_journal.specs.layout.Places.{Sizes, slot_block}
use Rattle.batch_journal.specs.layout.Slot.{slot_of}
use Rattle.batch_journal.proofs.Courses.{if_ok, if_err}
use Rattle.area_reader.specs.declared.error.AreaError.{AreaError}
use Rattle.area_reader.specs.Damage.{OnDamage}
use Rattle.area_reader.specs.Store.{disk, slot_read}
use Rattle.area_reader.proofs.Shown.{slot_is}
use Rattle.area_reader.proofs.slots.read_slot.Goals as goal

pub returns-clause-slot : goal.returns-clause-slot
returns-clause-slot g c =
    let old = c.args.journal.now in
    let same : c.geometry.result ≡ old.geometry = c.geometry.ensures ∙ c.read_slot_bytes.ensures.looks.geometry in
    if_ok c.slot_in.result (λ x is. slot_is old.geometry (disk g.M.Media old) c.args.inode c.read_slot_bytes.new.out (Some x) c.requires.low c.requires.high c.in_ok-read_slot_bytes.ensures.bytes
    (subst (λ (s : Sizes). slot_of s c.read_slot_bytes.new.out ≡ Some x) same is)) c.slot_in.ensures.slot

pub returns-clause-damaged : goal.returns-clause-damaged
returns-clause-damaged g c =
    let old = c.args.journal.now in
    let s = disk g.M.Media old in
    let same : c.geometry.result ≡ old.geometry = c.geometry.ensures ∙ c.read_slot_bytes.ensures.looks.geometry in
    if_err c.slot_in.result (λ e is. subst (λ (e : AreaError). OnDamage e (λ w block. (w ≡ what.Slot) × (block ≡ slot_block c.args.inode) × (slot_read old.geometry s c.args.inode ≡ None))) (sym is.0) (
      refl,
      refl,
      slot_is old.geometry s c.args.inode c.read_slot_bytes.new.out None c.requires.low c.requires.high c.in_ok-read_slot_bytes.ensures.bytes
          (subst (λ (s : Sizes). slot_of s c.read_slot_bytes.new.out ≡ None) same is.1),
    )) c.slot_in.ensures.damaged
