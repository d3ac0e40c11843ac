-- The own records behind a mark, as they are kept in memory and as they are told.
use Rattle.std.proofs.Common.{◌≡◌, Bool, cond, List, ◌++◌, drop, ap, ◌∙◌}
use Rattle.std.specs.Prelude.{◌==◌}
use Rattle.tier_device.specs.declared.media.Media.{Ghosts}
use Rattle.kernel_fs.specs.layout.declared.marks.Mark.{Mark}
use Rattle.lease_manager.specs.log_record.declared.format.Record.{Record}
use Rattle.client_log.specs.View.{current_records}
use Rattle.client_view.specs.RecordLists.{Kept, beyond}
use Rattle.libfs.specs.NeedService.{records_behind}
use Rattle.libfs.specs.View.{ClientView}

pub kept_behind : {M : Type 0} (device : Ghosts M) (v : ClientView M) (kept : Kept) (mark : Mark) (is_current : Bool) → kept.current ≡ current_records device v.log → kept.away ≡ v.sealed → is_current ≡ (mark.generation == v.log.generation)
    → beyond kept is_current mark.done ≡ records_behind device v mark
kept_behind device v kept mark is_current current away is =
    ap (λ (b : Bool). beyond kept b mark.done) is
    ∙ ap (λ (rs : List Record). cond (mark.generation == v.log.generation) (drop mark.done rs) (drop mark.done kept.away ++ rs)) current
    ∙ ap (λ (rs : List Record). cond (mark.generation == v.log.generation) (drop mark.done (current_records device v.log)) (drop mark.done rs ++ current_records device v.log)) away
