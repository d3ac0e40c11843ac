use Rattle.std.proofs.Common.{◌≡◌, ◌≤◌, inl, inr, ℕ, Some, sym, subst, arith}
use Rattle.std.specs.Prelude.{IsSome}
use Rattle.std.proofs.lemmas.Bool.{cases_lt, false≢true}
use Rattle.inode_plan.specs.layout.Places.{Sizes}
use Rattle.inode_plan.specs.layout.declared.places.TheConstants.{FILE_BLOCKS}
use Rattle.inode_plan.specs.layout.declared.slot.Slot.{Slot}
use Rattle.inode_plan.specs.extent_tree.Map.{TierRuns, LieBelow}
use Rattle.inode_plan.specs.area_reader.Store.{Store, disk, slot_read, length_of}
use Rattle.inode_plan.proofs.area_reader_lemmas.Parts.{slot_as}
use Rattle.inode_plan.proofs.area_reader_lemmas.Shown.{slot_limits}
use Rattle.inode_plan.proofs.area_reader_lemmas.Tails.{place_past}
use Rattle.inode_plan.specs.Lists.{LieAsIn}
use Rattle.change_plan.proofs.Giving.{gives_all}
use Rattle.change_plan.proofs.inode_drop.all_blocks_of.Goals as goal

map_below : (g : Sizes) (s : Store) (i : ℕ) (m : TierRuns) (x : Slot) → LieAsIn g s i m → slot_read g s i ≡ Some x → length_of x ≤ FILE_BLOCKS → LieBelow FILE_BLOCKS m
map_below g s i m x places is few t k at = elim (cases_lt k (length_of x)) [
  | inl lt ↦ omega (arith, lt, few)
  | inr past ↦ absurd (false≢true (subst IsSome (place_past g s i t k (subst (λ (y : Slot). length_of y ≤ k) (sym (slot_as g s i x is)) past)) (subst IsSome (places t k) at)))
]

pub all_blocks-requires : goal.all_blocks-requires
all_blocks-requires g c =
    let old = c.args.journal.now in
    let s : Store = disk g.M.Media old in
    map_below old.geometry s c.args.inode c.in_ok-map.map c.args.slot.now c.in_ok-map.ensures.places c.requires.slot_is (slot_limits old.geometry c.args.slot.now c.requires.fits).few

pub returns-clause-all : goal.returns-clause-all
returns-clause-all g c =
    let old = c.args.journal.now in
    let s : Store = disk g.M.Media old in
    gives_all old.geometry s c.args.inode c.args.slot.now c.in_ok-map.map c.requires.slot_is c.requires.fits c.requires.spelled.apart c.in_ok-map.ensures.places c.in_ok-map.ensures.within c.in_ok-lost.lost c.in_ok-lost.ensures
