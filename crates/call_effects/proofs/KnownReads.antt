-- Where bytes are missing, a call reads a range of a file of which its client has a copy, and not all blocks.
use Rattle.std.proofs.Common.{◌≡◌, ℕ, zero, suc, ◌+◌, ◌*◌, ◌<◌, ◌≤◌, arith, refl, Some, None, Option, Ok, ap, sym, ◌∙◌, subst}
use Rattle.std.specs.Prelude.{option_map, ◌/◌}
use Rattle.posix_calls.specs.declared.call.Call.{Call}
use Rattle.posix_calls.specs.declared.descriptor.Descriptor.{Descriptor}
use Rattle.posix_calls.specs.declared.operation.Missing.TheVariants as missing
use Rattle.posix_calls.specs.declared.operation.Operation.{Operation}
use Rattle.posix_calls.specs.Query.{Seen, File, Dir, Query, Gives, Refuses, IsDir, Look, Range, run}
use Rattle.posix_calls.specs.Part.{Part, Found, Known, Unknown, blocks_missing, blocks_touched, run_part}
use Rattle.posix_calls.specs.Walk.{size_seen, size_at}
use Rattle.posix_calls.specs.Decide.{decide}
use Rattle.call_effects.specs.NodeView.{NodeView, FileView, DirView, view_seen}
use Rattle.call_effects.specs.Wholes.{without_kinds}
use Rattle.call_effects.specs.Knowledge.{Knowledge, IsReadNext, AreBlocksMissing, part_of}
use Rattle.call_effects.proofs.JoinedBlocks.{a_block}
use Rattle.call_effects.proofs.KnownAsking.{QueryAll, query_call, read_known}
use Rattle.call_effects.proofs.KnownMissing.{missing_not_joined}

-- an inode may be asked for its kind, or be looked at
abbrev Any : ℕ → Type 0
Any i = Unit {0}

-- ---- where blocks are missing, a range is asked for that passes

record IsReadOf (p : Part) (OnRange : ℕ → ℕ → ℕ → Type 0) (i first count : ℕ) (q : Query Operation) : Type 0 where
  next : IsReadNext p i first count q
  passes : OnRange i (next.at) (next.bytes)

read_of : (p : Part) (OnRange : ℕ → ℕ → ℕ → Type 0) (q : Query Operation) (i first count : ℕ) → QueryAll p Any Any OnRange q → run_part p q ≡ Unknown (missing.Blocks i first count) → IsReadOf p OnRange i first count q
unfolding QueryAll run_part run
read_of p OnRange (Gives x) i first count asks e = absurd (cc)
read_of p OnRange (Refuses x) i first count asks e = absurd (cc)
read_of p OnRange (IsDir j next) i first count (met, asks) e =
    elim (p.is_dir j) as (λ o. p.is_dir j ≡ o → ◌≡◌ {A = Found Operation} (elim o [ None ↦ Unknown (missing.Node j) | Some a ↦ run_part p (next a) ]) (Unknown (missing.Blocks i first count)) → IsReadOf p OnRange i first count (IsDir j next)) [
      | None ↦ λ is lacking. absurd (cc)
      | Some a ↦ λ is lacking.
          let rest = read_of p OnRange (next a) i first count (asks a is) lacking in
          let r = rest.next in
          record { next = record { at = r.at; bytes = r.bytes; touches = r.touches; next = r.next; unknown = r.unknown; same = λ v part. ap (λ x. run v (next x)) (part.is_dir j a is) ∙ r.same v part }; passes = rest.passes }
    ] refl e
read_of p OnRange (Look j next) i first count (met, asks) e =
    elim (p.node j) as (λ o. p.node j ≡ o → ◌≡◌ {A = Found Operation} (elim o [ None ↦ Unknown (missing.Node j) | Some a ↦ run_part p (next a) ]) (Unknown (missing.Blocks i first count)) → IsReadOf p OnRange i first count (Look j next)) [
      | None ↦ λ is lacking. absurd (cc)
      | Some a ↦ λ is lacking.
          let rest = read_of p OnRange (next a) i first count (asks a is) lacking in
          let r = rest.next in
          record { next = record { at = r.at; bytes = r.bytes; touches = r.touches; next = r.next; unknown = r.unknown; same = λ v part. ap (λ x. run v (next x)) (part.node j a is) ∙ r.same v part }; passes = rest.passes }
    ] refl e
read_of p OnRange (Range j at many next) i first count (met, asks) e =
    elim (p.bytes j at many) as (λ o. p.bytes j at many ≡ o → ◌≡◌ {A = Found Operation} (elim o [ None ↦ Unknown (blocks_missing j at many) | Some a ↦ run_part p (next a) ]) (Unknown (missing.Blocks i first count)) → IsReadOf p OnRange i first count (Range j at many next)) [
      | None ↦ λ is lacking.
          let here : blocks_missing j at many ≡ missing.Blocks i first count = cc in
          let same : j ≡ i = cc in
          subst (λ x. IsReadOf p OnRange x first count (Range j at many next)) same (record { next = record { at = at; bytes = many; touches = here ∙ ap (λ x. missing.Blocks x first count) (sym same); next = next; unknown = is; same = λ v part. refl }; passes = met })
      | Some a ↦ λ is lacking.
          let rest = read_of p OnRange (next a) i first count (asks a is) lacking in
          let r = rest.next in
          record { next = record { at = r.at; bytes = r.bytes; touches = r.touches; next = r.next; unknown = r.unknown; same = λ v part. ap (λ x. run v (next x)) (part.bytes j at many a is) ∙ r.same v part }; passes = rest.passes }
    ] refl e

-- ---- of a file of which there is a copy

-- which has bytes to the range's end
record IsInFile (k : Knowledge) (i at count : ℕ) : Type 0 where
  names : ℕ
  size : ℕ
  copy : k.copies i ≡ Some (Some (FileView names size))
  some : 1 ≤ count
  within : at + count ≤ size
  most : count ≤ 65536

-- so the blocks that it touches begin within the file
within_file : (at bytes size b first count : ℕ) → 1 ≤ bytes → at / 4096 ≡ first → blocks_touched at bytes ≡ count → at + bytes ≤ size → b < first + count → 4096 * b < size
within_file at zero size b first count some from many few high = absurd (omega (arith, some))
within_file at (suc bytes) size b first count some from many few high = omega (arith, from, many, few, high)

-- and they are few
few_blocks : (at bytes count : ℕ) → bytes ≤ 65536 → blocks_touched at bytes ≡ count → count ≤ 17
few_blocks at zero count few many = omega (arith, many)
few_blocks at (suc bytes) count few many = omega (arith, few, many)

module _ (k : Knowledge) where
  abbrev p : Part
  p = part_of k

  no_bytes : {A : Type 0} (at count size : ℕ) → 0 ≡ size → at + suc count ≤ size → A
  no_bytes at count size e few = absurd (omega (arith, e, few))

  sized : (i size at count : ℕ) (copy : Option (Option NodeView)) → k.copies i ≡ copy → (o : Option Seen) → option_map (λ c. option_map view_seen c) copy ≡ Some o → size_seen o ≡ size → at + suc count ≤ size → suc count ≤ 65536 → IsInFile k i at (suc count)
  sized i size at count None is o e same few most = absurd (cc)
  sized i size at count (Some None) is o e same few most = let none : None ≡ o = cc in no_bytes at count size (ap size_seen none ∙ same) few
  sized i size at count (Some (Some (DirView names es))) is o e same few most = let dir : Some (Dir (without_kinds es)) ≡ o = cc in no_bytes at count size (ap size_seen dir ∙ same) few
  sized i size at count (Some (Some (FileView names many))) is o e same few most =
      let file : Some (File names many) ≡ o = cc in
      let length : many ≡ size = ap size_seen file ∙ same in
      record { names = names; size = many; copy = is; some = omega arith; within = omega (arith, few, length); most = most }

  in_file : (number : ℕ) (x : Descriptor) (size at count : ℕ) → k.own number ≡ Some x → run_part p (size_at x.inode) ≡ Known (Ok size) → at + suc count ≤ size → suc count ≤ 65536 → IsInFile k x.inode at (suc count)
  in_file number x size at count is seen few most =
      let r = read_known p x.inode size_seen size seen in
      sized x.inode size at count (k.copies x.inode) refl r.0 r.1 r.2 few most

  call_reads : (c : Call) (i first count : ℕ) → run_part p (decide k.own c) ≡ Unknown (missing.Blocks i first count) → IsReadOf p (IsInFile k) i first count (decide k.own c)
  call_reads c i first count e = read_of p (IsInFile k) (decide k.own c) i first count (query_call p Any Any (IsInFile k) k.own (tt, tt) (λ at i name entries e there. (tt, tt)) (λ number x is. tt) in_file c) e

  pub call_reads_next : (c : Call) (i first count : ℕ) → run_part p (decide k.own c) ≡ Unknown (missing.Blocks i first count) → IsReadNext p i first count (decide k.own c)
  call_reads_next c i first count e = (call_reads c i first count e).next

  pub call_blocks : (c : Call) (i first count : ℕ) → run_part p (decide k.own c) ≡ Unknown (missing.Blocks i first count) → AreBlocksMissing k i first count
  call_blocks c i first count e =
      let r = call_reads c i first count e in
      let file = r.passes in
      let touches = r.next.touches in
      let unknown = a_block (k.blocks i) first count (missing_not_joined k (decide k.own c) i first count e) in
      record { names = file.names; size = file.size; copy = file.copy; within = λ b high. within_file r.next.at r.next.bytes file.size b first count file.some (let a : r.next.at / 4096 ≡ first = cc in a) (let n : blocks_touched r.next.at r.next.bytes ≡ count = cc in n) file.within high; block = unknown.block; low = unknown.low; high = unknown.high; unknown = unknown.unknown }

  pub call_blocks_few : (c : Call) (i first count : ℕ) → run_part p (decide k.own c) ≡ Unknown (missing.Blocks i first count) → count ≤ 17
  call_blocks_few c i first count e =
      let r = call_reads c i first count e in
      let touches = r.next.touches in
      few_blocks r.next.at r.next.bytes count r.passes.most (let n : blocks_touched r.next.at r.next.bytes ≡ count = cc in n)
