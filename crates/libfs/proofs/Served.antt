-- What a client that was served lacks no longer.
use Rattle.std.proofs.Common.{◌≡◌, ◌≢◌, inl, inr, ℕ, zero, suc, ◌+◌, ◌-◌, ◌*◌, ◌/◌, ◌<◌, ◌≤◌, Bool, true, false, cond, List, [], ◌∷◌, ◌++◌, Option, Some, None, refl, ap, sym, ◌∙◌, subst, arith}
use Rattle.std.specs.Prelude.{◌==◌, ◌||◌, ◌&&◌, IsSome, is_some, nat_le, not, option_map, Ok}
use Rattle.std.proofs.lemmas.Bool.{and_parts, cases_Bool, cases_eq, true≢false, cond-true, cond-false, eq-eqb, le-leb, ne_eqb}
use Rattle.std.proofs.lemmas.Bool.Decides.{nat_tests}
use Rattle.std.proofs.lemmas.List.Folds.{list_any-append}
use Rattle.tier_device.specs.declared.media.Media.{Ghosts}
use Rattle.posix_calls.specs.Content.{range}
use Rattle.posix_calls.specs.Tree.{sum_up_to}
use Rattle.posix_calls.specs.Part.{Part, Known, blocks_touched, run_part}
use Rattle.posix_calls.specs.Own.{own_of}
use Rattle.posix_calls.specs.Decide.{decide}
use Rattle.posix_calls.specs.declared.call.Call.{Call}
use Rattle.posix_calls.specs.declared.operation.Operation.{Operation}
use Rattle.posix_calls.specs.declared.operation.Missing.TheVariants as missing
use Rattle.posix_calls.specs.declared.limits.TheConstants.{MAX_INODE}
use Rattle.lease_manager.specs.file_graph.Graph.{is_among}
use Rattle.lease_manager.specs.file_graph.Numbers.{is_inode}
use Rattle.client_log.specs.call_effects.Blocks.{blocks_joined, joined_bytes, range_by}
use Rattle.client_log.specs.call_effects.Knowledge.{Knowledge, part_of, with_copy}
use Rattle.client_log.specs.call_effects.NodeView.{NodeView}
use Rattle.client_log.specs.call_effects.Records.{units_asked}
use Rattle.lease_manager.specs.PassLeases.{is_reading, is_writing, reads, writes}
use Rattle.client_view.specs.client_plan.NeedEffects.{AreUnread, IsLacking, IsShort}
use Rattle.client_view.specs.client_plan.declared.need.Mode.{Mode}
use Rattle.client_view.specs.client_plan.declared.need.Mode.TheVariants.{Read, Write}
use Rattle.client_view.specs.client_plan.declared.need.Need.TheVariants as needs
use Rattle.kernel_fs.specs.Free.{count_of}
use Rattle.kernel_fs.specs.KernelView.{KernelView}
use Rattle.lease_manager.specs.Passes.{lease_of}
use Rattle.lease_manager.specs.Words.{HasWord}
use Rattle.lease_manager.specs.declared.view.LeaseMode.{LeaseMode}
use Rattle.lease_manager.specs.declared.view.LeaseMode.TheVariants.{Free}
use Rattle.libfs.specs.LeaseCalls.{mode_of}
use Rattle.libfs.specs.View.{ClientView}
use Rattle.libfs.specs.ClientHoldings.{holdings_of, known_to}
use Rattle.libfs.specs.NeedService.{AreAsLong, HasRefilled, HasThem, with_pin, without_pin}

-- ---- leases

in_range : (i : ℕ) → HasWord i → is_inode i ≡ true
in_range i word = subst (λ b. (b && nat_le i MAX_INODE) ≡ true) (sym (le-leb 1 i word.0)) (le-leb i MAX_INODE word.1)

-- what a client holds it may read, and what it holds for writing it may write
pub is_had : {M : Type 0} (device : Ghosts M) (v : ClientView M) (call : Call) (i : ℕ) (mode : Mode) → HasWord i → lease_of v.pass i ≡ mode_of mode → IsLacking (part_of (known_to v)) (holdings_of device v) call (needs.Lease i mode) → ⊥
is_had device v call i Read word is lacks =
    let inode : is_inode i ≡ true = in_range i word in
    let both : (cond true (is_reading (lease_of v.pass i)) false || writes v.pass i) ≡ false = subst (λ b. ((b && is_reading (lease_of v.pass i)) || writes v.pass i) ≡ false) inode lacks in
    true≢false (subst (λ (m : LeaseMode). (is_reading m || writes v.pass i) ≡ false) is both)
is_had device v call i Write word is lacks =
    let inode : is_inode i ≡ true = in_range i word in
    true≢false (subst (λ (m : LeaseMode). is_writing m ≡ false) is (subst (λ b. (b && is_writing (lease_of v.pass i)) ≡ false) inode lacks))

-- what a client may read it holds
held_by : (inode : Bool) (m : LeaseMode) → ((inode && is_reading m) || (inode && is_writing m)) ≡ true → (inode ≡ true) × (m ≢ Free)
held_by true m may = (refl, λ free. true≢false (sym may ∙ ap (λ (x : LeaseMode). is_reading x || is_writing x) free))
held_by false m may = absurd (cc)

word_of : (i : ℕ) → is_inode i ≡ true → HasWord i
word_of i is = let parts = and_parts (nat_le 1 i) (nat_le i MAX_INODE) is in (grind (arith, nat_tests, parts.0), grind (arith, nat_tests, parts.1))

pub is_held : {M : Type 0} (v : ClientView M) (i : ℕ) → (reads v.pass i || writes v.pass i) ≡ true → HasWord i × (lease_of v.pass i ≢ Free)
is_held v i may = let held = held_by (is_inode i) (lease_of v.pass i) may in (word_of i held.0, held.1)

-- ---- copies

pub is_there : {X : Type 0} (o : Option X) → IsSome o → (x : X) × (o ≡ Some x)
is_there None some = absurd (cc)
is_there (Some x) some = (x, refl)

pub none_there : {X : Type 0} (o : Option X) → is_some o ≡ false → o ≡ None
none_there None none = refl
none_there (Some x) none = absurd (cc)

-- a copy that is there already
pub copied_again : (k : Knowledge) (i : ℕ) (copy : Option NodeView) → k.copies i ≡ Some copy → with_copy k i copy ≡ k
copied_again k i copy is = λ t. record { client = k.client; own = k.own; copies = λ j. same j t; blocks = k.blocks; granted = k.granted }
  where
    same : (j : ℕ) → cond (j == i) (Some copy) (k.copies j) ≡ k.copies j
    same j = elim (cases_eq j i) [
      | inl at ↦ cond-true (j == i) (Some copy) (k.copies j) (eq-eqb j i at) ∙ sym (ap k.copies at ∙ is)
      | inr other ↦ cond-false (j == i) (Some copy) (k.copies j) (ne_eqb j i other)
    ]

-- ---- blocks

joined_more : (first : Option (List ℕ)) (x : List ℕ) (rest : Option (List ℕ)) → first ≡ Some x → (y : List ℕ) × (rest ≡ Some y) → (w : List ℕ) × (joined_bytes first rest ≡ Some w)
joined_more first x rest is more = (x ++ more.0, ap (λ o. joined_bytes o rest) is ∙ ap (option_map (λ ys. x ++ ys)) more.1)

all_joined : (blocks : ℕ → Option (List ℕ)) (first count : ℕ) (block : ℕ → List ℕ) → ((b : ℕ) → first ≤ b → b < first + count → blocks b ≡ Some (block b)) → (w : List ℕ) × (blocks_joined blocks first count ≡ Some w)
all_joined blocks first zero block all = ([], refl)
all_joined blocks first (suc count) block all =
    joined_more (blocks first) (block first) (blocks_joined blocks (first + 1) count) (all first (omega arith) (omega arith))
    (all_joined blocks (first + 1) count block (λ b low high. all b (omega (arith, low)) (omega (arith, high))))

same_blocks : (i j a b n m : ℕ) → missing.Blocks i a n ≡ missing.Blocks j b m → (a ≡ b) × (n ≡ m)
same_blocks i j a b n m same = (cc same, cc same)

-- bytes are unread no longer where all blocks that they touch are known
pub all_read : (k : Knowledge) (i first count : ℕ) (block : ℕ → List ℕ) → ((b : ℕ) → first ≤ b → b < first + count → k.blocks i b ≡ Some (block b)) → AreUnread (part_of k) i first count → ⊥
all_read k i first count block all unread =
    let at : ℕ = unread.at in
    let touched = same_blocks i i (at / 4096) first (blocks_touched at unread.bytes) count unread.touches in
    let joined = all_joined (k.blocks i) first count block all in
    let known : blocks_joined (k.blocks i) (at / 4096) (blocks_touched at unread.bytes) ≡ Some joined.0 = ap (λ a. blocks_joined (k.blocks i) a (blocks_touched at unread.bytes)) touched.0 ∙ ap (blocks_joined (k.blocks i) first) touched.1 ∙ joined.1 in
    let read : range_by (k.blocks i) at unread.bytes ≡ Some (range (at - 4096 * (at / 4096)) unread.bytes joined.0) = ap (option_map (range (at - 4096 * (at / 4096)) unread.bytes)) known in
    none_read (range_by (k.blocks i) at unread.bytes) (range (at - 4096 * (at / 4096)) unread.bytes joined.0) read unread.unknown
  where
    none_read : (o : Option (List ℕ)) (w : List ℕ) → o ≡ Some w → o ≡ None → ⊥
    none_read o w is none = let clash : ◌≡◌ {A = Option (List ℕ)} None (Some w) = sym none ∙ is in absurd (cc clash)

-- ---- numbers

-- of numbers of which none passes there are none
sum_none : (n : ℕ) (p : ℕ → Bool) → ((i : ℕ) → p i ≡ false) → sum_up_to n (λ i. cond (p i) 1 0) ≡ 0
unfolding sum_up_to
sum_none zero p none = refl
sum_none (suc n) p none = let first = cond-false {A = ℕ} (p (suc n)) 1 0 (none (suc n)) in let rest = sum_none n p none in omega (arith, first, rest)

module _ {M S : Type 0} (device : Ghosts M) (shared : Ghosts S) (k : KernelView S) (old new : ClientView M) where
  pub blocks_read : (i first count : ℕ) → count ≤ 256 → AreAsLong device shared k old i first count → HasThem device shared k old i first count new → AreUnread (part_of (known_to new)) i first count → ⊥
  blocks_read i first count few long has =
      all_read (known_to new) i first count long.block (λ b low high. (has few b (long.block b) long.mark low high long.is_mark (long.told b low high) (long.long b low high)).0)

  module _ (units inodes : ℕ) (after : KernelView S) (h : HasRefilled shared k old units inodes new after) where
    is_granted : (i : ℕ) → is_among i new.copies.numbers ≡ (is_among i old.copies.numbers || h.numbers i)
    is_granted i = ap (λ (x : Knowledge). x.granted i) h.knows_then

    pub some_number : 0 < inodes → new.copies.numbers ≡ [] → ⊥
    some_number some none =
        let counted : inodes ≡ 0 = sym h.lowest.count ∙ count_none h.numbers (λ i. or_false (is_among i old.copies.numbers) (h.numbers i) (sym (is_granted i) ∙ ap (is_among i) none)) in
        absurd (omega (arith, some, counted))
      where
        or_false : (a b : Bool) → (a || b) ≡ false → b ≡ false
        or_false true b is = absurd (true≢false is)
        or_false false b is = is

        count_none : (p : ℕ → Bool) → ((i : ℕ) → p i ≡ false) → count_of p ≡ 0
        count_none p none = sum_none 1024 p none

    -- ---- units

    -- units that were short were those that are granted
    pub paid : (call : Call) (n more : ℕ) → units ≡ n → IsShort (part_of (known_to old)) (holdings_of device old) call n → IsShort (part_of (known_to new)) (holdings_of device new) call more → ⊥
    paid call n more all was is = absurd (omega (arith, all, same_units, was.lacks, is.lacks, is.some, h.spare))
      where
        same_part : part_of (known_to new) ≡ part_of (known_to old)
        same_part = ap part_of h.knows_then

        same_own : own_of new.copies.own ≡ own_of old.copies.own
        same_own = ap (λ (v : ClientView M). own_of v.copies.own) h.rest

        same_operation : was.operation ≡ is.operation
        same_operation = let both : Known (Ok was.operation) ≡ Known (Ok is.operation) = sym was.comes ∙ sym (ap (λ (p : Part). run_part p (decide (own_of old.copies.own) call)) same_part) ∙ sym (ap (λ own. run_part (part_of (known_to new)) (decide own call)) same_own) ∙ is.comes in cc

        same_units : was.units ≡ is.units
        same_units = let both : Known (Ok was.units) ≡ Known (Ok is.units) = sym was.grows ∙ ap (λ (o : Operation). run_part (part_of (known_to old)) (units_asked o)) same_operation ∙ sym (ap (λ (p : Part). run_part p (units_asked is.operation)) same_part) ∙ is.grows in cc

-- ---- pins

or_true : (a : Bool) → (a || true) ≡ true
or_true true = refl
or_true false = refl

pub is_pinned : (pins : List ℕ) (i : ℕ) → is_among i (with_pin pins i) ≡ true
is_pinned pins i = elim (cases_Bool (is_among i pins)) [
  | inl there ↦ ap (is_among i) (cond-true (is_among i pins) pins (pins ++ i ∷ []) there) ∙ there
  | inr not' ↦
      ap (is_among i) (cond-false (is_among i pins) pins (pins ++ i ∷ []) not')
      ∙ list_any-append (λ j. j == i) pins (i ∷ [])
      ∙ ap (λ t. is_among i pins || (t || false)) (eq-eqb i i refl)
      ∙ or_true (is_among i pins)
]

pub is_unpinned : (pins : List ℕ) (i : ℕ) → is_among i (without_pin pins i) ≡ false
is_unpinned [] i = refl
is_unpinned (j ∷ pins) i = elim (cases_Bool (j == i)) [
  | inl same ↦ ap (λ t. is_among i (cond (not t) (j ∷ without_pin pins i) (without_pin pins i))) same ∙ is_unpinned pins i
  | inr other ↦ ap (λ t. is_among i (cond (not t) (j ∷ without_pin pins i) (without_pin pins i))) other ∙ ap (λ t. t || is_among i (without_pin pins i)) other ∙ is_unpinned pins i
]
