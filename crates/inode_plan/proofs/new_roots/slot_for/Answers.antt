use Rattle.std.proofs.Common.{◌≡◌, true, sym, subst}
use Rattle.area_commit.specs.layout.Slot.{fits_slot}
use Rattle.area_commit.specs.layout.declared.slot.Slot.{Slot}
use Rattle.area_commit.specs.layout.declared.slot.Slot.TheVariants as slots
use Rattle.inode_plan.specs.Lists.{root_for, SpareFits}
use Rattle.inode_plan.proofs.ListRoots.{file_fits}
use Rattle.inode_plan.proofs.new_roots.slot_for.Goals as goal

pub returns-clause-fits : goal.returns-clause-fits
returns-clause-fits c g was fits =
    let f = c.in-File in
    let x = c.args.found.now in
    let spare = c.args.spare in
    let fit = file_fits g x spare f.names f.size f.touch f.fast f.block f.slow (subst (λ (s : Slot). fits_slot g s ≡ true) f.is was) (subst (λ (s : Slot). SpareFits g s x spare) f.is fits) in
    subst (λ n. fits_slot g (slots.File f.names f.size f.touch n c.root_for-in-File.result c.root_for-in-File-2.result) ≡ true) (sym c.root_for.ensures)
    (subst (λ n. fits_slot g (slots.File f.names f.size f.touch (root_for f.fast x.fast spare) n c.root_for-in-File-2.result) ≡ true) (sym c.root_for-in-File.ensures)
    (subst (λ n. fits_slot g (slots.File f.names f.size f.touch (root_for f.fast x.fast spare) (root_for f.block x.block spare) n) ≡ true) (sym c.root_for-in-File-2.ensures) fit))
