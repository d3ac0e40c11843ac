-- What is read of a journal's medium is what the store has.
use Rattle.std.proofs.Common.{◌≡◌, ◌≢◌, ◌≤◌, ◌<◌, ◌+◌, ◌-◌, ◌*◌, ◌^◌, ◌||◌, ℕ, List, [], Bool, true, false, length, refl, sym, ◌∙◌, ap, arith, Option, Some, None, Ok}
use Rattle.std.specs.Prelude.{◌==◌, nat_le, nat_lt, if◌then◌else◌}
use Rattle.std.proofs.lemmas.Bool.{cond-true, cond-false, and_parts, and_from, leb-true, le-leb, ltb-true, lt-ltb, ne_eqb, eq-eqb}
use Rattle.std.proofs.lemmas.List.{take_all}
use Rattle.tier_device.specs.declared.media.Tier.{Tier}
use Rattle.tier_device.specs.declared.media.Tier.TheVariants.{Fast, Block, Slow}
use Rattle.posix_calls.specs.declared.limits.TheConstants.{MAX_FILE, MAX_ENTRIES}
use Rattle.batch_journal.specs.layout.declared.places.TheConstants.{FILE_BLOCKS}
use Rattle.batch_journal.specs.layout.declared.slot.Slot.{Slot}
use Rattle.batch_journal.specs.layout.declared.slot.Slot.TheVariants as slots
use Rattle.batch_journal.specs.layout.declared.geometry.Space.{Space}
use Rattle.batch_journal.specs.layout.Bytes.{◌>>=◌}
use Rattle.batch_journal.specs.layout.Answers.{or_damaged}
use Rattle.batch_journal.specs.layout.declared.error.What.{What}
use Rattle.batch_journal.specs.layout.Extents.{ExtentList, extents_of}
use Rattle.batch_journal.specs.layout.Places.{Sizes, is_inode, is_node, slot_block, slot_byte, tier_blocks, node_end}
use Rattle.batch_journal.specs.layout.Slot.{slot_of, fits_slot, is_root_block, roots_apart}
use Rattle.batch_journal.specs.Images.{slice}
use Rattle.batch_journal.specs.Blocks.{Blocks, home, is_home, ShowsHome}
use Rattle.area_reader.specs.Store.{Store, slot_bytes, slot_read, root_of, space_of, length_of, is_own, own_extents, extents_by}

pub inode_is : (i : ℕ) → 1 ≤ i → i ≤ 1024 → is_inode i ≡ true
inode_is i low high = and_from (nat_le 1 i) (nat_le i 1024) (le-leb 1 i low) (le-leb i 1024 high)

-- ---- slots

pub slot_shown : (c bytes : List ℕ) (i : ℕ) → length bytes ≡ 128 → 1 ≤ i → i ≤ 1024 → ShowsHome (4096 * slot_block i + slot_byte i) bytes c → bytes ≡ slice (slot_byte i) 128 (home c (slot_block i))
slot_shown c bytes i long low high shows =
    let k = slot_block i in
    let o = slot_byte i in
    let few : k < 34 = omega (arith, high) in
    let within : o + 128 ≤ 4096 = omega arith in
    let is : is_home k ≡ true = ap (λ b. b || nat_le 292 k) (lt-ltb k 34 few) in
    let zero : 4096 * k + o - (4096 * k + o) ≡ 0 = omega arith in
    let whole : slice (4096 * k + o - (4096 * k + o)) 128 bytes ≡ bytes = ap (λ n. slice n 128 bytes) zero ∙ take_all 128 bytes (omega (arith, long)) in
    sym whole ∙ shows k o 128 is within (omega arith) (omega (arith, long))

pub slot_is : (g : Sizes) (s : Store) (i : ℕ) (bytes : List ℕ) (x : Option Slot) → 1 ≤ i → i ≤ 1024 → bytes ≡ slot_bytes s i → slot_of g bytes ≡ x → slot_read g s i ≡ x
unfolding slot_read
slot_is g s i bytes x low high is read = cond-true (is_inode i) _ _ (inode_is i low high) ∙ ap (slot_of g) (sym is) ∙ read

-- ---- limits of a slot

or_right : (a b : Bool) → a ≡ false → (a || b) ≡ true → b ≡ true
or_right a b not is = ap (λ t. t || b) (sym not) ∙ is

root_node : (g : Sizes) (root : ℕ) → is_root_block g root ≡ true → root ≢ 0 → is_node g root ≡ true
root_node g root is some = or_right (root == 0) (is_node g root) (ne_eqb root 0 some) is

pub record SlotLimits (g : Sizes) (x : Slot) : Type 0 where
  pub roots : (t : Tier) → root_of x t ≢ 0 → is_node g (root_of x t) ≡ true
  pub few : length_of x ≤ FILE_BLOCKS

pub slot_limits : (g : Sizes) (x : Slot) → fits_slot g x ≡ true → SlotLimits g x
slot_limits g slots.Free e = record { roots = λ t some. absurd (some refl); few = omega arith }
slot_limits g (slots.File names size touch fast block slow) e =
    let p = and_parts (nat_lt touch (2 ^ 64)) _ e in
    let a = and_parts _ (roots_apart block slow) p.1 in
    let b = and_parts _ (roots_apart fast slow) a.0 in
    let c = and_parts _ (roots_apart fast block) b.0 in
    let d = and_parts _ (is_root_block g slow) c.0 in
    let f = and_parts _ (is_root_block g block) d.0 in
    let h = and_parts _ (is_root_block g fast) f.0 in
    let q = and_parts _ (nat_le size MAX_FILE) h.0 in
    let most : size ≤ MAX_FILE = leb-true size MAX_FILE q.1 in
    record { roots = by_tier h.1 f.1 d.1; few = omega (arith, most) }
  where
    by_tier : is_root_block g fast ≡ true → is_root_block g block ≡ true → is_root_block g slow ≡ true → (t : Tier) → root_of (slots.File names size touch fast block slow) t ≢ 0 → is_node g (root_of (slots.File names size touch fast block slow) t) ≡ true
    by_tier one two three Fast some = root_node g fast one some
    by_tier one two three Block some = root_node g block two some
    by_tier one two three Slow some = root_node g slow three some
slot_limits g (slots.Directory names entries touch root) e =
    let p = and_parts (nat_lt touch (2 ^ 64)) _ e in
    let a = and_parts _ (is_root_block g root) p.1 in
    let q = and_parts _ (nat_le entries MAX_ENTRIES) a.0 in
    let most : entries ≤ MAX_ENTRIES = leb-true entries MAX_ENTRIES q.1 in
    record { roots = by_tier a.1; few = omega (arith, most) }
  where
    by_tier : is_root_block g root ≡ true → (t : Tier) → root_of (slots.Directory names entries touch root) t ≢ 0 → is_node g (root_of (slots.Directory names entries touch root) t) ≡ true
    by_tier one Fast some = root_node g root one some
    by_tier one Block some = absurd (some refl)
    by_tier one Slow some = absurd (some refl)

-- a block of the node pool is none of the journal's, and of the fast tier
pub node_home : (g : Sizes) (k : ℕ) → is_node g k ≡ true → (is_home k ≡ true) × (k < tier_blocks g Fast)
node_home g k is =
    let p = and_parts (nat_le 292 k) (nat_lt k (node_end g)) is in
    let last : k < node_end g = ltb-true k (node_end g) p.1 in
    (either (nat_lt k 34) (nat_le 292 k) p.0, omega (arith, last))
  where
    either : (a b : Bool) → b ≡ true → (a || b) ≡ true
    either true b is = refl
    either false b is = is

-- ---- extents

own_by : (g : Sizes) (p : Space) (i n : ℕ) (bytes : List ℕ) (o : Option ExtentList) → extents_of g p bytes ≡ o → own_extents g p i n bytes ≡ (o >>= λ v. if is_own i n v then Some v.extents else None)
unfolding own_extents
own_by g p i n bytes o read = ap (λ o. o >>= λ v. if is_own i n v then Some v.extents else None) read

pub own_some : (g : Sizes) (p : Space) (i n : ℕ) (bytes : List ℕ) (v : ExtentList) → extents_of g p bytes ≡ Some v → is_own i n v ≡ true → own_extents g p i n bytes ≡ Some v.extents
own_some g p i n bytes v read own = own_by g p i n bytes (Some v) read ∙ cond-true (is_own i n v) (Some v.extents) None own

pub own_other : (g : Sizes) (p : Space) (i n : ℕ) (bytes : List ℕ) (v : ExtentList) → extents_of g p bytes ≡ Some v → is_own i n v ≡ false → own_extents g p i n bytes ≡ None
own_other g p i n bytes v read other = own_by g p i n bytes (Some v) read ∙ cond-false (is_own i n v) (Some v.extents) None other

pub own_none : (g : Sizes) (p : Space) (i n : ℕ) (bytes : List ℕ) → extents_of g p bytes ≡ None → own_extents g p i n bytes ≡ None
own_none g p i n bytes none = own_by g p i n bytes None none

pub extents_none : (g : Sizes) (fast : Blocks) (i : ℕ) (x : Slot) (t : Tier) → root_of x t ≡ 0 → extents_by g fast i x t ≡ Some []
extents_none g fast i x t zero = cond-true (root_of x t == 0) _ _ (eq-eqb (root_of x t) 0 zero)

pub extents_some : (g : Sizes) (fast : Blocks) (i : ℕ) (x : Slot) (t : Tier) → root_of x t ≢ 0 → extents_by g fast i x t ≡ own_extents g (space_of x t) i (length_of x) (fast (root_of x t))
extents_some g fast i x t some = cond-false (root_of x t == 0) _ _ (ne_eqb (root_of x t) 0 some)

-- ---- answers of a decoder

pub answered : {A : Type 0} (what : What) (block : ℕ) (o : Option A) (x : A) → Ok x ≡ or_damaged what block o → o ≡ Some x
answered what block None x is = cc
answered what block (Some y) x is = cc
