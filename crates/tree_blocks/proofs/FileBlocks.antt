-- The bytes of a file, as its blocks are written for a change.
use Rattle.std.proofs.Common.{◌≡◌, ◌≢◌, inl, inr, ℕ, ◌+◌, ◌-◌, ◌*◌, ◌/◌, ◌%◌, ◌≤◌, ◌<◌, Bool, true, false, cond, List, [], ◌++◌, length, take, map, get_or, refl, sym, ◌∙◌, ap, arith, eq-eqb, Option, Some, None}
use Rattle.std.specs.Prelude.{nat_lt, nat_le, replicate, unwrap_or, is_some, IsSome, not, ◌&&◌, ◌||◌}
use Rattle.std.specs.List.{range_with_len}
use Rattle.std.specs.FinMap as fin
use Rattle.std.proofs.lemmas.Bool.{cases_lt, cases_Bool, lt-ltb, le-ltb, le-leb, leb-true, ne_eqb}
use Rattle.std.proofs.lemmas.List.{get_or_append_left, get_or-append_right, get_or-take, get_or-replicate, get_or_past, ext_get_or, length-take, length-append, length-replicate}
use Rattle.std.proofs.lemmas.List.FromFn.{get_or-map-range_with_len, length-map-range_with_len}
use Rattle.graph_change.specs.Bytes.{Length, Grown, Cut, length_after, kept_byte, byte_after, end, IsOrdered, IsTidy}
use Rattle.graph_change.specs.Change.{Change, Patch, blank, patch_at, net_of, patched_bytes, IsWhole, writes_block, ends_within, cuts_within}
use Rattle.graph_change.specs.Tidy.{IsTidyChange}
use Rattle.tree_blocks.specs.Inode.{LogicalBlocks, byte_of, bytes_of_blocks, IsZeroFrom}
use Rattle.tree_blocks.specs.After.{IsFileAfter}
use Rattle.tree_blocks.specs.FileBlock.{kept_length, in_block, block_after, is_cut_off, ReadSame, ReadsAfter, AreWritten}
use Rattle.tree_blocks.proofs.Alike.{mapped_same}
use Rattle.tree_blocks.proofs.Files.{length_file, byte_read}

-- ---- one block

as_long : (n z : ℕ) → length (replicate n z) ≡ n
as_long n z = length-replicate n z

zero_read : (n k z : ℕ) → get_or (replicate n z) k z ≡ z
zero_read n k z = elim (cases_lt k n) [
  | inl lt ↦ get_or-replicate n k z z lt
  | inr ge ↦ get_or_past (replicate n z) k z (omega (arith, as_long n z, ge))
]

-- what is left of a block that is cut
cut_read : (old : List ℕ) (kept m p : ℕ) → kept ≤ length old → get_or (take kept old ++ replicate m 0) p 0 ≡ cond (nat_lt p kept) (get_or old p 0) 0
cut_read old kept m p le =
    let long : length (take kept old) ≡ kept = omega (arith, length-take kept old, le) in
    elim (cases_lt p kept) [
      | inl lt ↦ get_or_append_left (take kept old) (replicate m 0) 0 p (omega (arith, long, lt)) ∙ get_or-take kept old p 0 lt ∙ sym (ap (λ b. cond b (get_or old p 0) 0) (lt-ltb p kept lt))
      | inr ge ↦ get_or-append_right (take kept old) (replicate m 0) kept p 0 long ge ∙ zero_read m (p - kept) 0 ∙ sym (ap (λ b. cond b (get_or old p 0) 0) (le-ltb p kept ge))
    ]

or_left : (o : Option ℕ) (x y : ℕ) → x ≡ y → unwrap_or o x ≡ (elim o [ None ↦ y | Some b ↦ b ])
or_left None x y is = is
or_left (Some b) x y is = refl

pub cut_long : (old : List ℕ) (kept : ℕ) → kept ≤ length old → length (take kept old ++ replicate (length old - kept) 0) ≡ length old
cut_long old kept le =
    omega (arith, length-append (take kept old) (replicate (length old - kept) 0), length-take kept old, as_long (length old - kept) 0, le)

-- bytes put over a block that was cut
pub block_is : (len : Length) (patch : Patch) (k : ℕ) (old : List ℕ) → length old ≡ 4096 → kept_length len k ≤ 4096 → patched_bytes patch (take (kept_length len k) old ++ replicate (length old - kept_length len k) 0) ≡ block_after len patch k old
block_is len patch k old long le =
    let kept : ℕ = kept_length len k in
    let low : kept ≤ length old = omega (arith, long, le) in
    let size : length (take kept old ++ replicate (length old - kept) 0) ≡ 4096 = cut_long old kept low ∙ long in
    ap (λ (n : ℕ). map (λ p. unwrap_or (patch p) (get_or (take kept old ++ replicate (length old - kept) 0) p 0)) (range_with_len 0 n)) size
    ∙ mapped_same (λ p. unwrap_or (patch p) (get_or (take kept old ++ replicate (length old - kept) 0) p 0)) (byte_after (in_block len patch k) old) 0 4096
    (λ p lt. or_left (patch p) (get_or (take kept old ++ replicate (length old - kept) 0) p 0) (kept_byte (Cut kept 4096) old p) (cut_read old kept (length old - kept) p low))

-- no bytes are put
itself : (xs : List ℕ) (n : ℕ) → length xs ≡ n → map (λ p. get_or xs p 0) (range_with_len 0 n) ≡ xs
itself xs n long =
    let f : ℕ → ℕ = λ p. get_or xs p 0 in
    let size : length (map f (range_with_len 0 n)) ≡ n = length-map-range_with_len f 0 n in
    ext_get_or 0 (map f (range_with_len 0 n)) xs (size ∙ sym long) (λ i lt. get_or-map-range_with_len f 0 n i i 0 (omega (arith, lt, size)) (omega arith))

pub block_is_cut : (len : Length) (k : ℕ) (old : List ℕ) → length old ≡ 4096 → kept_length len k ≤ 4096 → take (kept_length len k) old ++ replicate (length old - kept_length len k) 0 ≡ block_after len blank k old
block_is_cut len k old long le =
    let kept : ℕ = kept_length len k in
    let low : kept ≤ length old = omega (arith, long, le) in
    sym (itself (take kept old ++ replicate (length old - kept) 0) (length old) (cut_long old kept low))
    ∙ ap (λ (n : ℕ). map (λ p. get_or (take kept old ++ replicate (length old - kept) 0) p 0) (range_with_len 0 n)) (sym (cut_long old kept low)) ∙ block_is len blank k old long le

-- what a change makes of a buffer, byte by byte
byte_made : (len : Length) (patch : Patch) (k : ℕ) (buffer : List ℕ) (p : ℕ) → p < 4096 → get_or (block_after len patch k buffer) p 0 ≡ byte_after (in_block len patch k) buffer p
byte_made len patch k buffer p lt = get_or-map-range_with_len (byte_after (in_block len patch k) buffer) 0 4096 p p 0 lt (omega arith)

pub made_of_same : (len : Length) (patch : Patch) (k : ℕ) (old buffer : List ℕ) → ReadSame buffer old → ReadsAfter len patch k old (block_after len patch k buffer)
made_of_same len patch k old buffer same p lt =
    byte_made len patch k buffer p lt ∙ ap (λ x. elim (patch p) [ None ↦ cond (nat_lt p (kept_length len k)) x 0 | Some b ↦ b ]) (same p lt)

pub made_whole : (len : Length) (patch : Patch) (k : ℕ) (old buffer : List ℕ) → IsWhole patch → ReadsAfter len patch k old (block_after len patch k buffer)
made_whole len patch k old buffer is p lt = byte_made len patch k buffer p lt ∙ put (patch p) (is p lt) where
  put : (o : Option ℕ) → IsSome o → ◌≡◌ {A = ℕ} (elim o [ None ↦ kept_byte (Cut (kept_length len k) 4096) buffer p | Some b ↦ b ]) (elim o [ None ↦ kept_byte (Cut (kept_length len k) 4096) old p | Some b ↦ b ])
  put (Some b) some = refl
  put None some = absurd cc

-- of a block that begins behind a cut nothing is kept
kept_none : (len : Length) (k : ℕ) → is_cut_off len k ≡ true → kept_length len k ≡ 0
kept_none (Grown to) k off = absurd (cc)
kept_none (Cut least to) k off = let le = leb-true least (4096 * k) off in omega (arith, le)

pub made_behind : (len : Length) (patch : Patch) (k : ℕ) (old buffer : List ℕ) → is_cut_off len k ≡ true → ReadsAfter len patch k old (block_after len patch k buffer)
made_behind len patch k old buffer off p lt =
    byte_made len patch k buffer p lt ∙ ap (λ x. elim (patch p) [ None ↦ x | Some b ↦ b ]) (zero buffer ∙ sym (zero old))
  where
    zero : (bytes : List ℕ) → kept_byte (Cut (kept_length len k) 4096) bytes p ≡ 0
    zero bytes = ap (λ b. cond b (get_or bytes p 0) 0) (le-ltb p (kept_length len k) (omega (arith, kept_none len k off)))

pub zeros_are_none : ReadSame (replicate 4096 0) []
zeros_are_none p lt = get_or-replicate 4096 p 0 0 lt

pub hole_stays : (len : Length) (k : ℕ) → ReadsAfter len blank k [] []
hole_stays len k p lt = zero (nat_lt p (kept_length len k)) where
  zero : (b : Bool) → ◌≡◌ {A = ℕ} 0 (cond b 0 0)
  zero true = refl
  zero false = refl

-- ---- where blocks begin

-- nothing ends behind the end
end_in : (len : Length) (old_size : ℕ) → end len ≤ length_after len old_size
end_in (Grown to) old_size = omega arith
end_in (Cut least to) old_size = omega arith

pub written_inside : (c : Change) (old_size k : ℕ) → IsTidyChange c → writes_block c k ≡ true → 4096 * k < length_after c.length old_size
written_inside c old_size k tidy put = let low = tidy.blocks k put in let e = end_in c.length old_size in omega (arith, low, e)

left_by : (len : Length) (old_size k : ℕ) → IsOrdered len → is_cut_off len k ≡ false → 4096 * k < old_size → 4096 * k < length_after len old_size
left_by (Grown to) old_size k ordered on lt = omega (arith, lt)
left_by (Cut least to) old_size k ordered on lt = elim (cases_lt (4096 * k) least) [
  | inl low ↦ omega (arith, low, ordered)
  | inr le ↦ (let off : nat_le least (4096 * k) ≡ true = le-leb least (4096 * k) le in let bad : true ≡ false = sym off ∙ on in absurd (cc))
]

pub left_inside : (c : Change) (old_size k : ℕ) → IsTidyChange c → is_cut_off c.length k ≡ false → 4096 * k < old_size → 4096 * k < length_after c.length old_size
left_inside c old_size k tidy = left_by c.length old_size k tidy.bytes.ordered

-- ---- a file

module _ (c : Change) (old_size new_size : ℕ) (old new : LogicalBlocks) (tidy : IsTidy (net_of c).bytes) (zeros : IsZeroFrom old_size old) (size : new_size ≡ length_after c.length old_size) (are : AreWritten c old new) where
  -- what is left of a byte, told by its block or by the file
  left_is : (len : Length) (at : ℕ) → kept_byte (Cut (kept_length len (at / 4096)) 4096) (old (at / 4096)) (at % 4096) ≡ kept_byte len (bytes_of_blocks old old_size) at
  unfolding byte_of
  left_is (Grown to) at = ap (λ b. cond b (get_or (old (at / 4096)) (at % 4096) 0) 0) (lt-ltb (at % 4096) 4096 (omega arith)) ∙ sym (byte_read old old_size at zeros)
  left_is (Cut least to) at =
      let kept : ℕ = kept_length (Cut least to) (at / 4096) in
      elim (cases_lt at least) [
        | inl lt ↦
            ap (λ b. cond b (get_or (old (at / 4096)) (at % 4096) 0) 0) (lt-ltb (at % 4096) kept (omega (arith, lt))) ∙ sym (byte_read old old_size at zeros)
            ∙ sym (ap (λ b. cond b (get_or (bytes_of_blocks old old_size) at 0) 0) (lt-ltb at least lt))
        | inr ge ↦
            ap (λ b. cond b (get_or (old (at / 4096)) (at % 4096) 0) 0) (le-ltb (at % 4096) kept (omega (arith, ge)))
            ∙ sym (ap (λ b. cond b (get_or (bytes_of_blocks old old_size) at 0) 0) (le-ltb at least ge))
      ]

  byte_is : (at : ℕ) → byte_after (in_block c.length (patch_at c.patches (at / 4096)) (at / 4096)) (old (at / 4096)) (at % 4096) ≡ byte_after (net_of c).bytes (bytes_of_blocks old old_size) at
  byte_is at = ap (λ x. elim (patch_at c.patches (at / 4096) (at % 4096)) [ None ↦ x | Some b ↦ b ]) (left_is c.length at)

  -- nothing is put into a block that is not written, and it is cut whole or not at all
  neither : (a b : Bool) → (a || b) ≡ false → (a ≡ false) × (b ≡ false)
  neither false b is = (refl, is)
  neither true b is = absurd (cc)

  unput : (o : Option Patch) → is_some o ≡ false → unwrap_or o blank ≡ blank
  unput None is = refl
  unput (Some x) is = absurd (cc)

  kept_whole : (len : Length) (k : ℕ) → cuts_within len k ≡ false → is_cut_off len k ≡ false → kept_length len k ≡ 4096
  kept_whole (Grown to) k within off = refl
  kept_whole (Cut least to) k within off = elim (cases_lt (4096 * k) least) [
    | inr le ↦ (let on : nat_le least (4096 * k) ≡ true = le-leb least (4096 * k) le in let bad : true ≡ false = sym on ∙ off in absurd (cc))
    | inl begun ↦ elim (cases_lt least (4096 * k + 4096)) [
      | inr far ↦ omega (arith, far)
      | inl near ↦
          let block : least / 4096 ≡ k = omega (arith, begun, near) in
          let rest : least % 4096 ≢ 0 = λ none. omega (arith, block, begun, none) in
          let one = ne_eqb (least % 4096) 0 rest in
          let two = eq-eqb (least / 4096) k block in
          let on : ends_within least k ≡ true = λ t. not (one t) && two t in
          let bad : true ≡ false = sym on ∙ within in
          absurd (cc)
    ]
  ]

  block_byte : (k p : ℕ) → p < 4096 → get_or (new k) p 0 ≡ byte_after (in_block c.length (patch_at c.patches k) k) (old k) p
  block_byte k p lt = elim (cases_Bool (writes_block c k)) [
    | inl put ↦ are.written k put p lt
    | inr unset ↦
        let both = neither (fin.contains_key c.patches k) (cuts_within c.length k) unset in
        let none : patch_at c.patches k ≡ blank = unput (fin.get c.patches k) both.0 in
        elim (cases_Bool (is_cut_off c.length k)) [
          | inl off ↦
              are.gone k p unset off lt ∙ sym (ap (λ b. cond b (get_or (old k) p 0) 0) (le-ltb p (kept_length c.length k) (omega (arith, kept_none c.length k off))))
              ∙ sym (ap (λ (q : Patch). byte_after (in_block c.length q k) (old k) p) none)
          | inr on ↦
              are.others k p unset on lt ∙ sym (ap (λ b. cond b (get_or (old k) p 0) 0) (lt-ltb p (kept_length c.length k) (omega (arith, lt, kept_whole c.length k both.1 on))))
              ∙ sym (ap (λ (q : Patch). byte_after (in_block c.length q k) (old k) p) none)
        ]
  ]

  -- nothing is left behind the end
  left_past : (len : Length) (at : ℕ) → IsOrdered len → length_after len old_size ≤ at → kept_byte len (bytes_of_blocks old old_size) at ≡ 0
  left_past (Grown to) at ordered past = let long = length_file old old_size in get_or_past (bytes_of_blocks old old_size) at 0 (omega (arith, long, past))
  left_past (Cut least to) at ordered past = ap (λ b. cond b (get_or (bytes_of_blocks old old_size) at 0) 0) (le-ltb at least (omega (arith, ordered, past)))

  abbrev or_put : Option ℕ → ℕ → ℕ
  or_put o x = elim o [ None ↦ x | Some b ↦ b ]

  nothing : (at : ℕ) → new_size ≤ at → byte_after (net_of c).bytes (bytes_of_blocks old old_size) at ≡ 0
  nothing at ge =
      let e = end_in c.length old_size in
      ap (λ o. or_put o (kept_byte c.length (bytes_of_blocks old old_size) at)) (tidy.inside at (omega (arith, e, ge, size))) ∙ left_past c.length at tidy.ordered (omega (arith, ge, size))

  pub file_law : IsFileAfter (net_of c).bytes old_size old new_size new
  unfolding byte_of
  file_law = record {
    size = size;
    bytes = λ at. elim (cases_lt at new_size) [
      | inl lt ↦ block_byte (at / 4096) (at % 4096) (omega arith) ∙ byte_is at ∙ sym (ap (λ b. cond b (byte_after (net_of c).bytes (bytes_of_blocks old old_size) at) 0) (lt-ltb at new_size lt))
      | inr ge ↦
          block_byte (at / 4096) (at % 4096) (omega arith) ∙ byte_is at ∙ nothing at ge ∙ sym (ap (λ b. cond b (byte_after (net_of c).bytes (bytes_of_blocks old old_size) at) 0) (le-ltb at new_size ge))
    ];
  }
