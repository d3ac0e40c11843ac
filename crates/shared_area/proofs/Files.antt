-- Bytes of a file, block by block.
use Rattle.std.proofs.Common.{◌≡◌, ◌≤◌, ◌<◌, ◌+◌, ◌-◌, ◌*◌, ◌/◌, ◌%◌, ◌∙◌, ℕ, List, [], ◌++◌, length, take, drop, map, get_or, false, refl, sym, ap, arith, Some, None, inl, inr}
use Rattle.std.specs.Prelude.{min, unwrap_or, replicate}
use Rattle.std.specs.List.{range_with_len}
use Rattle.std.proofs.lemmas.Bool.{cases_lt}
use Rattle.std.proofs.lemmas.List.{ext_get_or, get_or-take, get_or-drop, get_or_append_left, get_or-append_right, get_or-replicate, take_all, length-append, length-drop, length-take-le}
use Rattle.std.proofs.lemmas.List.FromFn.{get_or-map-range_with_len, length-map-range_with_len}
use Rattle.tier_device.specs.declared.media.Tier.{Tier}
use Rattle.tier_device.specs.declared.media.Tier.TheVariants.{Fast, Block, Slow}
use Rattle.record_validation.specs.file_graph.Graph.{file_bytes as bytes_of}
use Rattle.area_reader.specs.layout.Places.{Sizes, is_inode}
use Rattle.area_reader.specs.layout.declared.slot.Slot.{Slot}
use Rattle.area_reader.specs.layout.declared.slot.Slot.TheVariants as slots
use Rattle.area_reader.specs.batch_journal.Images.{slice}
use Rattle.area_reader.specs.batch_journal.Blocks.{ShowsHome}
use Rattle.area_reader.proofs.batch_journal_lemmas.Meaning.{slice_slice}
use Rattle.area_reader.specs.tree_blocks.Inode.{LogicalBlocks, byte_of, bytes_of_blocks, inode_of, node_of}
use Rattle.area_reader.specs.Store.{Store, store_of, slot_read, place, logical_block, graph}
use Rattle.area_reader.specs.Reads.{IsRoom}
use Rattle.area_reader.proofs.Parts.{slot_as}
use Rattle.area_reader.proofs.Twins.{room_home}
use Rattle.area_reader.proofs.Damages.{at_none}
use Rattle.shared_area.specs.FileReads.{bytes_of_inode, ShowsBytes, IsReadUpTo, IsReadFrom}
use Rattle.shared_area.proofs.Sound.{no_slot}

-- what is read of a tier is a part of the block
pub part_shown : (g : Sizes) (seen : Tier → List ℕ) (t : Tier) (k from n : ℕ) (out : List ℕ) → IsRoom g t k → from + n ≤ 4096 → length out ≡ n → out ≡ slice (4096 * k + from) n (seen t) → (t ≡ Fast → ShowsHome (4096 * k + from) out (seen Fast)) → out ≡ slice from n (store_of seen t k)
part_shown g seen Fast k from n out room inside long is shows =
    let at : ℕ = 4096 * k + from in
    let zero : at - at ≡ 0 = omega arith in
    let whole : slice (at - at) n out ≡ out = ap (λ j. slice j n out) zero ∙ take_all n out (omega (arith, long)) in
    sym whole ∙ shows refl k from n (room_home g Fast k room refl) inside (omega arith) (omega (arith, long))
part_shown g seen Block k from n out room inside long is shows = is ∙ sym (slice_slice from n (4096 * k) 4096 (seen Block) inside)
part_shown g seen Slow k from n out room inside long is shows = is ∙ sym (slice_slice from n (4096 * k) 4096 (seen Slow) inside)

-- a byte of one block
byte_here : (blocks : LogicalBlocks) (at k : ℕ) → at % 4096 + k < 4096 → byte_of blocks (at + k) ≡ get_or (blocks (at / 4096)) (at % 4096 + k) 0
unfolding byte_of
byte_here blocks at k lt =
    let block : (at + k) / 4096 ≡ at / 4096 = omega (arith, lt) in
    let place : (at + k) % 4096 ≡ at % 4096 + k = omega (arith, lt) in
    λ p. get_or (blocks (block p)) (place p) 0

pub piece_shows : (blocks : LogicalBlocks) (at n : ℕ) (out block : List ℕ) → at % 4096 + n ≤ 4096 → length out ≡ n → out ≡ slice (at % 4096) n block → blocks (at / 4096) ≡ block → ShowsBytes blocks at out
piece_shows blocks at n out block inside long is there k lt =
    ap (λ l. get_or l k 0) is
    ∙ get_or-take n (drop (at % 4096) block) k 0 (omega (arith, lt, long)) ∙ get_or-drop (at % 4096) block k 0
    ∙ sym (ap (λ b. get_or b (at % 4096 + k) 0) there) ∙ sym (byte_here blocks at k (omega (arith, lt, long, inside)))

pub hole_shows : (blocks : LogicalBlocks) (at n : ℕ) (out : List ℕ) → at % 4096 + n ≤ 4096 → length out ≡ n → out ≡ replicate n 0 → blocks (at / 4096) ≡ [] → ShowsBytes blocks at out
hole_shows blocks at n out inside long is none k lt =
    ap (λ l. get_or l k 0) is ∙ get_or-replicate n k 0 0 (omega (arith, lt, long))
    ∙ sym (ap (λ b. get_or b (at % 4096 + k) 0) none) ∙ sym (byte_here blocks at k (omega (arith, lt, long, inside)))

pub no_block : (g : Sizes) (s : Store) (i k : ℕ) → ((t : Tier) → place g s i t k ≡ None) → logical_block g s i k ≡ []
no_block g s i k none = at_none g s i k (none Fast) (none Block) (none Slow)

-- ---- one piece behind the other

pub up_to_none : (blocks : LogicalBlocks) (at : ℕ) (old : List ℕ) → IsReadUpTo blocks at 0 old old
up_to_none blocks at old = record { long = refl; read = λ k lt. absurd (omega (arith, lt)); rest = λ k ge. refl }

module _ (blocks : LogicalBlocks) (at done n : ℕ) (old now new : List ℕ) (before : IsReadUpTo blocks at done old now) (shows : ShowsBytes blocks (at + done) new) (long : length new ≡ n) (fits : done + n ≤ length now) where
  after : List ℕ
  after = take done now ++ (new ++ drop (done + n) now)

  front_long : length (take done now) ≡ done
  front_long = length-take-le done now (omega (arith, fits))

  all_long : length (take done now ++ (new ++ drop (done + n) now)) ≡ length now
  all_long = omega (arith, length-append (take done now) (new ++ drop (done + n) now), length-append new (drop (done + n) now), length-drop (done + n) now, front_long, long, fits)

  at_front : (k : ℕ) → k < done → get_or (take done now ++ (new ++ drop (done + n) now)) k 0 ≡ get_or now k 0
  at_front k lt = get_or_append_left (take done now) (new ++ drop (done + n) now) 0 k (omega (arith, lt, front_long)) ∙ get_or-take done now k 0 lt

  behind_front : (k : ℕ) → done ≤ k → get_or (take done now ++ (new ++ drop (done + n) now)) k 0 ≡ get_or (new ++ drop (done + n) now) (k - done) 0
  behind_front k ge = get_or-append_right (take done now) (new ++ drop (done + n) now) done k 0 front_long ge

  at_piece : (k : ℕ) → done ≤ k → k < done + n → get_or (take done now ++ (new ++ drop (done + n) now)) k 0 ≡ byte_of blocks (at + k)
  at_piece k ge lt =
      let back : at + done + (k - done) ≡ at + k = omega (arith, ge) in
      behind_front k ge ∙ get_or_append_left new (drop (done + n) now) 0 (k - done) (omega (arith, ge, lt, long)) ∙ shows (k - done) (omega (arith, ge, lt, long)) ∙ ap (byte_of blocks) back

  at_rest : (k : ℕ) → done + n ≤ k → get_or (take done now ++ (new ++ drop (done + n) now)) k 0 ≡ get_or now k 0
  at_rest k ge =
      let back : done + n + (k - done - n) ≡ k = omega (arith, ge) in
      behind_front k (omega (arith, ge)) ∙ get_or-append_right new (drop (done + n) now) n (k - done) 0 long (omega (arith, ge)) ∙ get_or-drop (done + n) now (k - done - n) 0 ∙ ap (λ j. get_or now j 0) back

  pub up_to_more : IsReadUpTo blocks at (done + n) old (take done now ++ (new ++ drop (done + n) now))
  up_to_more = record {
    long = all_long ∙ before.long;
    read = λ k lt. elim (cases_lt k done) [ inl few ↦ at_front k few ∙ before.read k few | inr ge ↦ at_piece k ge lt ];
    rest = λ k ge. at_rest k ge ∙ before.rest k (omega (arith, ge));
  }

-- what was read in the front of a buffer, as the bytes of a file
module _ (blocks : LogicalBlocks) (size at n count : ℕ) (out new : List ℕ) (up_to : IsReadUpTo blocks at n (take count out) new) (few : n ≤ count) (fits : count ≤ length out) (within : at + count ≤ size) where
  bytes : List ℕ
  bytes = map (byte_of blocks) (range_with_len 0 size)

  cut_long : length (take count out) ≡ count
  cut_long = length-take-le count out fits

  taken_long : length (take n (drop at (bytes_of_blocks blocks size))) ≡ n
  taken_long = length-take-le n (drop at (bytes_of_blocks blocks size)) (omega (arith, length-drop at (bytes_of_blocks blocks size), length-map-range_with_len (byte_of blocks) 0 size, few, within))

  out_at : (i : ℕ) → n ≤ i → get_or (take n (drop at (bytes_of_blocks blocks size)) ++ drop n out) i 0 ≡ get_or out i 0
  out_at i ge =
      let back : n + (i - n) ≡ i = omega (arith, ge) in
      get_or-append_right (take n (drop at (bytes_of_blocks blocks size))) (drop n out) n i 0 taken_long ge ∙ get_or-drop n out (i - n) 0 ∙ ap (λ j. get_or out j 0) back

  new_at : (i : ℕ) → count ≤ i → get_or (new ++ drop count out) i 0 ≡ get_or out i 0
  new_at i ge =
      let back : count + (i - count) ≡ i = omega (arith, ge) in
      get_or-append_right new (drop count out) count i 0 (up_to.long ∙ cut_long) ge ∙ get_or-drop count out (i - count) 0 ∙ ap (λ j. get_or out j 0) back

  new_in : (i : ℕ) → i < count → get_or (new ++ drop count out) i 0 ≡ get_or new i 0
  new_in i lt = get_or_append_left new (drop count out) 0 i (omega (arith, lt, up_to.long, cut_long))

  byte_at : (i : ℕ) → i < n → get_or (take n (drop at (bytes_of_blocks blocks size)) ++ drop n out) i 0 ≡ byte_of blocks (at + i)
  byte_at i lt =
      get_or_append_left (take n (drop at (bytes_of_blocks blocks size))) (drop n out) 0 i (omega (arith, lt, taken_long))
      ∙ get_or-take n (drop at (bytes_of_blocks blocks size)) i 0 lt ∙ get_or-drop at (bytes_of_blocks blocks size) i 0
      ∙ get_or-map-range_with_len (byte_of blocks) 0 size (at + i) (at + i) 0 (omega (arith, lt, few, within)) (omega arith)

  each : (i : ℕ) → get_or (new ++ drop count out) i 0 ≡ get_or (take n (drop at (bytes_of_blocks blocks size)) ++ drop n out) i 0
  each i = elim (cases_lt i n) [
    | inl lt ↦ new_in i (omega (arith, lt, few)) ∙ up_to.read i lt ∙ sym (byte_at i lt)
    | inr ge ↦ elim (cases_lt i count) [
      | inl lt ↦ new_in i lt ∙ up_to.rest i ge ∙ get_or-take count out i 0 lt ∙ sym (out_at i ge)
      | inr past ↦ new_at i past ∙ sym (out_at i ge)
    ]
  ]

  pub read_from : IsReadFrom (bytes_of_blocks blocks size) at n out (new ++ drop count out)
  read_from = ext_get_or 0 (new ++ drop count out) (take n (drop at (bytes_of_blocks blocks size)) ++ drop n out)
      (omega (arith, length-append new (drop count out), length-drop count out, up_to.long, cut_long, length-append (take n (drop at (bytes_of_blocks blocks size))) (drop n out), length-drop n out, taken_long, few, fits)) (λ i _. each i)

-- ---- the bytes of what stands at an inode

module _ (g : Sizes) (s : Store) (i : ℕ) where
  bytes_by : (x : Slot) → slot_read g s i ≡ Some x → bytes_of_inode (graph g s) i ≡ unwrap_or (bytes_of (node_of (inode_of x (logical_block g s i)))) []
  bytes_by x read = ap (λ (x : Slot). unwrap_or (bytes_of (node_of (inode_of x (logical_block g s i)))) []) (slot_as g s i x read)

  pub bytes_long : (names size touch fast block slow : ℕ) → slot_read g s i ≡ Some (slots.File names size touch fast block slow) → length (bytes_of_inode (graph g s) i) ≡ size
  bytes_long names size touch fast block slow read = ap length (bytes_by (slots.File names size touch fast block slow) read) ∙ length-map-range_with_len (byte_of (logical_block g s i)) 0 size

  pub no_bytes : is_inode i ≡ false → bytes_of_inode (graph g s) i ≡ []
  no_bytes none = ap (λ (x : Slot). unwrap_or (bytes_of (node_of (inode_of x (logical_block g s i)))) []) (no_slot g s i none)

pub none_of : (n at : ℕ) (bytes : List ℕ) → bytes ≡ [] → 0 ≡ min n (length bytes - at)
none_of n at bytes none = let zero : length bytes ≡ 0 = ap length none in omega (arith, zero)
