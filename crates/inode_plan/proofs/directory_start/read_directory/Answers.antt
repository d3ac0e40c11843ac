use Rattle.std.proofs.Common.{◌≡◌, ◌≢◌, ◌∙◌, ℕ, List, length, Ok, refl, sym, ap, subst}
use Rattle.tier_device.specs.declared.media.Tier.TheVariants.{Fast}
use Rattle.area_commit.specs.layout.Places.{Sizes}
use Rattle.area_commit.specs.area_reader.Store.{Store, disk, length_of}
use Rattle.area_commit.proofs.area_reader_lemmas.Looked.{carried_back}
use Rattle.inode_plan.specs.Blocks.{AreNodeBlocks}
use Rattle.inode_plan.specs.DirectoryStart.{ArePlacesOf, HoldPlaces}
use Rattle.inode_plan.specs.declared.blocks.DirectoryBlocks.{DirectoryBlocks}
use Rattle.inode_plan.proofs.Parts.{nodes}
use Rattle.inode_plan.proofs.Starting.{is_held, is_started, is_sound}
use Rattle.inode_plan.proofs.directory_start.read_directory.Goals as goal

pub read_places-requires-clause-nodes : goal.read_places-requires-clause-nodes
read_places-requires-clause-nodes g c =
    let m = g.M.Media in
    let old = c.args.journal.now in
    let s : Store = disk m old in
    let places = c.in_ok-blocks.blocks.places.items in
    let is : ArePlacesOf c.args.parts.now.extents (length_of c.args.parts.now.slot) places = c.in_ok-blocks.ensures.places in
    let here : AreNodeBlocks old.geometry c.deref.result.now = subst (AreNodeBlocks old.geometry) (sym c.deref.ensures.value) (nodes old.geometry s c.args.inode c.args.parts.now c.requires.parts places is) in
    subst (λ (x : Sizes). AreNodeBlocks x c.deref.result.now) (sym c.in_ok-list.ensures.looks.geometry) here

pub directory_of-requires : goal.directory_of-requires
directory_of-requires g c =
    let m = g.M.Media in
    let old = c.args.journal.now in
    let s : Store = disk m old in
    let places = c.in_ok-blocks.blocks.places.items in
    let is : ArePlacesOf c.args.parts.now.extents (length_of c.args.parts.now.slot) places = c.in_ok-blocks.ensures.places in
    let held = c.in_ok-held.held.items in
    let there : HoldPlaces (s Fast) c.deref.result.now (length c.deref.result.now) held = carried_back m (λ (x : Sizes) (s : Store). HoldPlaces (s Fast) c.deref.result.now (length c.deref.result.now) held) old c.read_root.new.journal (Ok c.in_ok-list.list) c.in_ok-list.ensures.looks c.in_ok-held.ensures.held in
    let holds : HoldPlaces (s Fast) places (length places) held = subst (λ (ps : List ℕ). HoldPlaces (s Fast) ps (length ps) held) c.deref.ensures.value there in
    is_held old.geometry s c.args.inode c.args.parts.now c.requires.parts places is held holds

pub returns-clause-started : goal.returns-clause-started
returns-clause-started g c =
    let m = g.M.Media in
    let old = c.args.journal.now in
    let s : Store = disk m old in
    let places = c.in_ok-blocks.blocks.places.items in
    let is : ArePlacesOf c.args.parts.now.extents (length_of c.args.parts.now.slot) places = c.in_ok-blocks.ensures.places in
    let held = c.in_ok-held.held.items in
    let there : HoldPlaces (s Fast) c.deref.result.now (length c.deref.result.now) held = carried_back m (λ (x : Sizes) (s : Store). HoldPlaces (s Fast) c.deref.result.now (length c.deref.result.now) held) old c.read_root.new.journal (Ok c.in_ok-list.list) c.in_ok-list.ensures.looks c.in_ok-held.ensures.held in
    let holds : HoldPlaces (s Fast) places (length places) held = subst (λ (ps : List ℕ). HoldPlaces (s Fast) ps (length ps) held) c.deref.ensures.value there in
    let start = c.directory_of.result in
    let made = c.directory_of.ensures in
    let list : start.blocks.root ≢ 0 → start.list ≡ s Fast start.blocks.root = λ some.
    made.list ∙ c.in_ok-list.ensures.bytes (λ none. some (ap (λ (b : DirectoryBlocks). b.root) made.blocks ∙ none)) ∙ ap (λ (b : DirectoryBlocks). s Fast b.root) (sym made.blocks) in
    is_started old.geometry s c.args.inode c.args.parts.now c.requires.parts places is held holds c.in_ok-blocks.blocks c.in_ok-blocks.ensures.root refl start made.names made.entries made.blocks list

pub returns-clause-sound : goal.returns-clause-sound
returns-clause-sound g c =
    let m = g.M.Media in
    let old = c.args.journal.now in
    let s : Store = disk m old in
    let places = c.in_ok-blocks.blocks.places.items in
    let is : ArePlacesOf c.args.parts.now.extents (length_of c.args.parts.now.slot) places = c.in_ok-blocks.ensures.places in
    let held = c.in_ok-held.held.items in
    let there : HoldPlaces (s Fast) c.deref.result.now (length c.deref.result.now) held = carried_back m (λ (x : Sizes) (s : Store). HoldPlaces (s Fast) c.deref.result.now (length c.deref.result.now) held) old c.read_root.new.journal (Ok c.in_ok-list.list) c.in_ok-list.ensures.looks c.in_ok-held.ensures.held in
    let holds : HoldPlaces (s Fast) places (length places) held = subst (λ (ps : List ℕ). HoldPlaces (s Fast) ps (length ps) held) c.deref.ensures.value there in
    let start = c.directory_of.result in
    let made = c.directory_of.ensures in
    let list : start.blocks.root ≢ 0 → start.list ≡ s Fast start.blocks.root = λ some.
    made.list ∙ c.in_ok-list.ensures.bytes (λ none. some (ap (λ (b : DirectoryBlocks). b.root) made.blocks ∙ none)) ∙ ap (λ (b : DirectoryBlocks). s Fast b.root) (sym made.blocks) in
    is_sound old.geometry s c.args.inode c.args.parts.now c.requires.parts places is held holds c.in_ok-blocks.blocks c.in_ok-blocks.ensures.root refl start made.names made.entries made.blocks list
