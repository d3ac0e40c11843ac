-- Blocks that a client fetches, one after the other.
use Rattle.std.proofs.Common.{◌≡◌, ◌⊎◌, inl, inr, ℕ, ◌+◌, ◌-◌, ◌*◌, ◌<◌, ◌≤◌, true, false, List, take, Option, Some, None, refl, ap, sym, ◌∙◌, subst, arith}
use Rattle.std.specs.Prelude.{◌==◌, ◌&&◌, option_map, nat_le, nat_lt, Result, Ok, Err, OnOk, OnErr}
use Rattle.std.proofs.Math.Decide.{dec_le}
use Rattle.std.proofs.lemmas.Bool.{cases_Bool, and_parts, eqb-true, cond-true, cond-false, lt-ltb}
use Rattle.std.proofs.lemmas.Bool.Decides.{nat_tests}
use Rattle.tier_device.specs.declared.media.Media.{Ghosts}
use Rattle.posix_calls.specs.Content.{with_length}
use Rattle.lease_manager.specs.file_graph.Graph.{Graph}
use Rattle.lease_manager.specs.file_graph.Numbers.{in_run}
use Rattle.kernel_fs.specs.layout.declared.marks.Mark.{Mark}
use Rattle.kernel_fs.specs.layout.declared.marks.Marks.{Marks}
use Rattle.kernel_fs.specs.layout.Places.{Sizes}
use Rattle.lease_manager.specs.Passes.{client_of}
use Rattle.kernel_fs.specs.area_reader.Store.{Store, disk, graph, marks}
use Rattle.kernel_fs.specs.KernelView.{KernelView}
use Rattle.kernel_fs.specs.MachineState.{IsMarkIn}
use Rattle.client_log.specs.call_effects.Blocks.{block_of}
use Rattle.block_cache.specs.CacheList.{bytes_at as kept_bytes, put_block}
use Rattle.client_view.specs.After.{block_laid, bytes_at}
use Rattle.client_view.specs.KnowledgeTables.{Held, block_known, copy_at, knows}
use Rattle.client_view.specs.BlockPut.{IsBlockLong}
use Rattle.client_view.proofs.Put.{block_there, by_size, cut_padded, no_more_blocks}
use Rattle.libfs.specs.declared.denial.Denied.{Denied}
use Rattle.libfs.specs.View.{ClientView}
use Rattle.libfs.specs.ClientHoldings.{known_to}
use Rattle.libfs.specs.NeedService.{HasFetchedBlocks, HasPut, HasThem, records_behind, block_behind, shared_by}
use Rattle.libfs.proofs.FirstBlocks.{found_in_all, found_in_more, put_before, put_is_first}

-- ---- the mark of a client

one_marks : (o : Option Marks) (v w : Marks) → o ≡ Some v → o ≡ Some w → v ≡ w
one_marks o v w is also' = let both : Some v ≡ Some w = sym is ∙ also' in cc

-- a client has one mark
pub one_mark : (s : Store) (c : ℕ) (x y : Mark) → IsMarkIn s c x → IsMarkIn s c y → x ≡ y
one_mark s c x y a b =
    let same : a.0 ≡ b.0 = one_marks (marks s) a.0 b.0 a.1 b.1 in
    let one = a.2 in
    let other = b.2 in
    cc

-- ---- what is among the first ones is known

pub found_is_known : (h : Held) (i b n : ℕ) (bytes : List ℕ) → b < 4294967296 → IsBlockLong (knows h) i b bytes → kept_bytes i b (take n h.blocks) ≡ Some (with_length 4096 bytes) → block_known h i b ≡ Some bytes
found_is_known h i b n bytes low long is =
    by_size (copy_at h.copies i) long.names long.size h.blocks i b long.copy
    ∙ ap (option_map (take (long.size - 4096 * b))) (cond-true (nat_lt b 4294967296) (kept_bytes i b h.blocks) None (lt-ltb b 4294967296 low) ∙ found_in_all h.blocks n i b (with_length 4096 bytes) is)
    ∙ ap Some (cut_padded 4096 (long.size - 4096 * b) bytes long.long)

-- ---- a block that is put

-- what is known then was known before, or is the block
put_no_more : (h : Held) (i b : ℕ) (bytes : List ℕ) → b < 4294967296 → IsBlockLong (knows h) i b bytes → (j n : ℕ) (v : List ℕ) → block_known (record h { blocks = put_block i b (with_length 4096 bytes) h.blocks }) j n ≡ Some v
    → (block_known h j n ≡ Some v) ⊎ ((j ≡ i) × (n ≡ b) × (v ≡ bytes))
put_no_more h i b bytes low long j n v is = elim (cases_Bool ((j == i) && in_run b 1 n)) [
  | inl here ↦
      let parts = and_parts (j == i) (in_run b 1 n) here in
      let same : Some bytes ≡ Some v = sym (cond-true ((j == i) && in_run b 1 n) (Some bytes) (block_known h j n) here) ∙ no_more_blocks h i b bytes low long j n v is in
      inr (eqb-true j i parts.0, only_one parts.1, cc same)
  | inr off ↦ inl (sym (cond-false ((j == i) && in_run b 1 n) (Some bytes) (block_known h j n) off) ∙ no_more_blocks h i b bytes low long j n v is)
]
  where
    only_one : in_run b 1 n ≡ true → n ≡ b
    only_one run = let parts = and_parts (nat_le b n) (nat_lt n (b + 1)) run in grind (arith, nat_tests, parts.0, parts.1)

module _ {M S : Type 0} (device : Ghosts M) (shared : Ghosts S) (k : KernelView S) (old : ClientView M) (i : ℕ) where
  -- nothing has come
  pub none_came : (new : ClientView M) (first count : ℕ) → new ≡ old → HasFetchedBlocks device shared k old i first count new
  none_came new first count same = subst (λ (v : ClientView M). HasFetchedBlocks device shared k old i first count v) (sym same)
      (record {
        no_more = λ mark is j b bytes known. inl known;
        others_stay = λ j b n bytes few out is. found_in_more old.copies.blocks n (n + count) j b bytes (omega arith) is;
        rest = refl;
      })

  -- of no block
  pub has_none : (new : ClientView M) (first : ℕ) → HasThem device shared k old i first 0 new
  has_none new first = λ few b bytes mark low high is told long. absurd (omega (arith, low, high))

  -- where no file stands there is none
  pub none_told : (new : ClientView M) (b : ℕ) → ((mark : Mark) → IsMarkIn (disk shared k.area) (client_of old.pass) mark → None ≡ block_behind device shared k old mark i b) → HasThem device shared k old i b 1 new
  none_told new b laid = λ few x bytes mark low high is told long.
      let at : x ≡ b = omega (arith, low, high) in
      let clash : ◌≡◌ {A = Option (List ℕ)} None (Some bytes) = laid mark is ∙ ap (block_behind device shared k old mark i) (sym at) ∙ told in
      absurd (cc clash)

  module _ (b : ℕ) (bytes : List ℕ) (low : b < 4294967296) (laid : (mark : Mark) → IsMarkIn (disk shared k.area) (client_of old.pass) mark → Some bytes ≡ block_behind device shared k old mark i b) where
    told_is : (x : ℕ) (w : List ℕ) (mark : Mark) → b ≤ x → x < b + 1 → IsMarkIn (disk shared k.area) (client_of old.pass) mark → block_behind device shared k old mark i x ≡ Some w → (x ≡ b) × (w ≡ bytes)
    told_is x w mark from' to is told =
        let at : x ≡ b = omega (arith, from', to) in
        let same : Some bytes ≡ Some w = laid mark is ∙ ap (block_behind device shared k old mark i) (sym at) ∙ told in
        (at, cc same)

    abbrev with_it : ClientView M
    with_it = record old { copies = record old.copies { blocks = put_block i b (with_length 4096 bytes) old.copies.blocks } }

    out_of_place : (j x : ℕ) → (j ≡ i → b ≤ x → x < b + 1 → ⊥) → ((j == i) && (x == b)) ≡ false
    out_of_place j x out = elim (cases_Bool ((j == i) && (x == b))) [
      | inl here ↦ let parts = and_parts (j == i) (x == b) here in let at : x ≡ b = eqb-true x b parts.1 in absurd (out (eqb-true j i parts.0) (omega (arith, at)) (omega (arith, at)))
      | inr off ↦ off
    ]

    put_came : IsBlockLong (known_to old) i b bytes → HasFetchedBlocks device shared k old i b 1 with_it
    put_came long = record {
      no_more = λ mark is j x w known. elim (put_no_more old.copies i b bytes low long j x w known) [
        | inl before ↦ inl before
        | inr at ↦ inr (
          at.0,
          omega (arith, at.1),
          omega (arith, at.1),
          ap (block_behind device shared k old mark i) at.1 ∙ sym (laid mark is) ∙ ap Some (sym at.2),
          subst (λ (y : ℕ). IsBlockLong (known_to old) i y w) (sym at.1) (subst (λ (ys : List ℕ). IsBlockLong (known_to old) i b ys) (sym at.2) long),
        )
      ];
      others_stay = λ j x n w few out is. put_before old.copies.blocks i b j x n (n + 1) (with_length 4096 bytes) w (out_of_place j x out) (omega arith) few is;
      rest = refl;
    }

    put_there : IsBlockLong (known_to old) i b bytes → HasThem device shared k old i b 1 with_it
    put_there long = λ few x w mark from' to is told its.
        let at = told_is x w mark from' to is told in
        let first = put_is_first old.copies.blocks i b 1 (with_length 4096 bytes) (omega arith) (omega arith) in
        let known : block_known with_it.copies i b ≡ Some bytes = block_there old.copies i b bytes low long in (
          ap (block_known with_it.copies i) at.0 ∙ known ∙ ap Some (sym at.1),
          ap (λ y. kept_bytes i y (take 1 with_it.copies.blocks)) at.0 ∙ first ∙ ap (λ (ys : List ℕ). Some (with_length 4096 ys)) (sym at.1),
        )

    not_there : (new : ClientView M) → (IsBlockLong (known_to old) i b bytes → ⊥) → HasThem device shared k old i b 1 new
    not_there new short = λ few x w mark from' to is told its.
        let at = told_is x w mark from' to is told in
        absurd (short (subst (λ (y : ℕ). IsBlockLong (known_to old) i y bytes) at.0 (subst (λ (ys : List ℕ). IsBlockLong (known_to old) i x ys) at.1 its)))

    pub one_came : (new : ClientView M) → HasPut old i b bytes new → HasFetchedBlocks device shared k old i b 1 new
    one_came new (inl it) = subst (λ (v : ClientView M). HasFetchedBlocks device shared k old i b 1 v) (sym it.1) (put_came it.0)
    one_came new (inr it) = none_came new b 1 it.1

    pub has_one : (new : ClientView M) → HasPut old i b bytes new → HasThem device shared k old i b 1 new
    has_one new (inl it) = subst (λ (v : ClientView M). HasThem device shared k old i b 1 v) (sym it.1) (put_there it.0)
    has_one new (inr it) = not_there new it.0

    pub put_or_not : (r : Result (Unit {0}) Denied) (new : ClientView M) → OnOk r (HasPut old i b bytes new) → OnErr r (new ≡ old) → HasFetchedBlocks device shared k old i b 1 new
    put_or_not (Ok x) new put' same = one_came new put'
    put_or_not (Err e) new put' same = none_came new b 1 same

  -- fewer came
  pub no_more_than : (first n count : ℕ) (new : ClientView M) → n ≤ count → HasFetchedBlocks device shared k old i first n new → HasFetchedBlocks device shared k old i first count new
  no_more_than first n count new fewer h = record {
    no_more = λ mark is j x w known. elim (h.no_more mark is j x w known) [
      | inl before ↦ inl before
      | inr came ↦ inr (came.0, came.1, omega (arith, came.2, fewer), came.3, came.4)
    ];
    others_stay = λ j x m w few out is. found_in_more new.copies.blocks (m + n) (m + count) j x w (omega (arith, fewer)) (h.others_stay j x m w (omega (arith, few, fewer)) (λ at low high. out at low (omega (arith, high, fewer))) is);
    rest = h.rest;
  }

  -- ---- more of a kernel that was only looked at

  module _ (first n more : ℕ) (then' : KernelView S) (mid new : ClientView M) (a : HasFetchedBlocks device shared k old i first n mid) (b : HasFetchedBlocks device shared then' mid i (first + n) more new) (stores : disk shared then'.area ≡ disk shared k.area) (geometry : then'.area.geometry ≡ k.area.geometry) where
    graphs : shared_by shared then' ≡ shared_by shared k
    graphs = ap (λ (g : Sizes). graph g (disk shared then'.area)) geometry ∙ ap (graph k.area.geometry) stores

    mark_then : (mark : Mark) → IsMarkIn (disk shared k.area) (client_of old.pass) mark → IsMarkIn (disk shared then'.area) (client_of mid.pass) mark
    mark_then mark is =
        subst (λ (c : ℕ). IsMarkIn (disk shared then'.area) c mark) (sym (ap (λ (v : ClientView M). client_of v.pass) a.rest))
        (subst (λ (s : Store). IsMarkIn s (client_of old.pass) mark) (sym stores) is)

    same_block : (mark : Mark) (x : ℕ) → block_behind device shared then' mid mark i x ≡ block_behind device shared k old mark i x
    same_block mark x =
        ap (λ (v : ClientView M). block_laid (records_behind device v mark) i x (Some (block_of x (bytes_at (shared_by shared then') i)))) a.rest
        ∙ ap (λ (g : Graph). block_laid (records_behind device old mark) i x (Some (block_of x (bytes_at g i)))) graphs

    long_before : (x : ℕ) (w : List ℕ) → IsBlockLong (known_to mid) i x w → IsBlockLong (known_to old) i x w
    long_before x w long =
        let l : IsBlockLong (known_to (record old { copies = record old.copies { blocks = mid.copies.blocks } })) i x w = subst (λ (v : ClientView M). IsBlockLong (known_to v) i x w) a.rest long in
        record { names = l.names; size = l.size; copy = l.copy; long = l.long }

    pub more_came : HasFetchedBlocks device shared k old i first (n + more) new
    more_came = record {
      no_more = λ mark is j x w known. elim (b.no_more mark (mark_then mark is) j x w known) [
        | inl before ↦ elim (a.no_more mark is j x w before) [
          | inl already ↦ inl already
          | inr came ↦ inr (came.0, came.1, omega (arith, came.2), came.3, came.4)
        ]
        | inr came ↦ inr (came.0, omega (arith, came.1), omega (arith, came.2), sym (same_block mark x) ∙ came.3, long_before x w came.4)
      ];
      others_stay = λ j x m w few out is.
          let before = a.others_stay j x m w (omega (arith, few)) (λ at low high. out at low (omega (arith, high))) is in
          let then'' = b.others_stay j x (m + n) w (omega (arith, few)) (λ at low high. out at (omega (arith, low)) (omega (arith, high))) before in
          let further : m + n + more ≡ m + (n + more) = omega arith in
          subst (λ c. kept_bytes j x (take c new.copies.blocks) ≡ Some w) further then'';
      rest = b.rest ∙ ap (λ (v : ClientView M). record v { copies = record v.copies { blocks = new.copies.blocks } }) a.rest;
    }

    pub has_more : first + n < 4294967296 → HasThem device shared k old i first n mid → HasThem device shared then' mid i (first + n) more new → HasThem device shared k old i first (n + more) new
    has_more bound had has' = λ few x w mark low high is told its. elim (dec_le (first + n) x) [
      | yes last ↦
          let known_then : IsBlockLong (known_to mid) i x w = long_then x w its in
          let it = has' (omega (arith, few)) x w mark last (omega (arith, high)) (mark_then mark is) (same_block mark x ∙ told) known_then in
          (it.0, found_in_more new.copies.blocks more (n + more) i x (with_length 4096 w) (omega arith) it.1)
      | no earlier ↦
          let it = had (omega (arith, few)) x w mark low (omega (arith, earlier)) is told its in
          let there = b.others_stay i x n (with_length 4096 w) few (λ at from' to. absurd (omega (arith, from', earlier))) it.1 in
          (found_is_known new.copies i x (n + more) w (omega (arith, earlier, bound)) (long_now x w its) there, there)
    ]
      where
        long_then : (x : ℕ) (w : List ℕ) → IsBlockLong (known_to old) i x w → IsBlockLong (known_to mid) i x w
        long_then x w long = subst (λ (v : ClientView M). IsBlockLong (known_to v) i x w) (sym a.rest) (record { names = long.names; size = long.size; copy = long.copy; long = long.long })

        long_now : (x : ℕ) (w : List ℕ) → IsBlockLong (known_to old) i x w → IsBlockLong (known_to new) i x w
        long_now x w long =
            let l = long_then x w long in
            subst (λ (v : ClientView M). IsBlockLong (known_to v) i x w) (sym b.rest) (record { names = l.names; size = l.size; copy = l.copy; long = l.long })
