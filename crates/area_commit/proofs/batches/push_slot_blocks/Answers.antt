use Rattle.std.proofs.Common.{◌≡◌, refl, ◌+◌, ◌-◌, ◌*◌, ◌≤◌, ◌∙◌, ◌++◌, inl, inr, Err, ℕ, List, length, sym, subst, ap, arith, true}
use Rattle.std.proofs.lemmas.Result.{err_from_is_err_and}
use Rattle.std.proofs.lemmas.Bool.{cases_eq}
use Rattle.std.proofs.lemmas.List.{length-append}
use Rattle.tier_device.specs.declared.media.Tier.TheVariants.{Fast}
use Rattle.area_reader.specs.batch_journal.Blocks.{AreJournaled}
use Rattle.area_reader.specs.Store.{Store, disk}
use Rattle.area_reader.specs.Looks.{call_answer}
use Rattle.area_reader.proofs.Looked.{store_same, looks_on, looks_none, looks_answer}
use Rattle.area_commit.specs.declared.slots.ChangedSlot.{ChangedSlot}
use Rattle.area_commit.specs.Slots.{RiseIn, has_slot}
use Rattle.area_commit.specs.Batches.{HasSlotImages, images_for}
use Rattle.area_commit.proofs.Blocks.{TellsFrom, tells_on, one_block, whole_block}
use Rattle.area_commit.proofs.Images.{none_yet, none_whole, next_none, places_none, all_whole, slot_journaled, one_or_none, one_for_some}
use Rattle.area_commit.proofs.ByNumber.{journaled_both}
use Rattle.area_commit.proofs.batches.push_slot_blocks.Goals as goal

pub numbers-init : goal.numbers-init
numbers-init g c =
    let m = g.M.Media in
    let old = c.args.journal.now in
    let slots = c.args.slots.now in
    let images = c.args.batch.now in
    let none = c.requires.none in
    record {
      looks = looks_none m old tt c.requires.going;
      images = none_yet slots (disk m old Fast) images none;
      rises = c.requires.slots;
      tells = λ j le b. refl;
      whole = λ k lt has. absurd (none_whole slots k lt has);
      next = next_none images none;
      few_blocks = omega (arith, ap length none);
      few = omega (arith, ap length none);
      places = places_none images none;
    }

pub push_slot_block-requires-clause-going : goal.push_slot_block-requires-clause-going
push_slot_block-requires-clause-going g c = c.numbers.invariant.looks.going.1

pub push_slot_block-requires-clause-inside : goal.push_slot_block-requires-clause-inside
push_slot_block-requires-clause-inside g c =
    let k = c.numbers.block in
    subst (RiseIn (32 * (k - 1) + 1) (32 * k)) (sym c.split_at.ensures.front) (c.count_up_to.ensures.front (32 * (k - 1) + 1) 1024 c.numbers.invariant.rises)

pub push_slot_block-requires-clause-room : goal.push_slot_block-requires-clause-room
push_slot_block-requires-clause-room g c = omega (arith, c.numbers.invariant.few_blocks, c.numbers-test.true)

pub push_slot_block-requires-clause-rises : goal.push_slot_block-requires-clause-rises
push_slot_block-requires-clause-rises g c = c.numbers.invariant.next

pub numbers-preserved : goal.numbers-preserved
numbers-preserved g c =
    let m = g.M.Media in
    let old = c.args.journal.now in
    let mid = c.numbers.journal in
    let new = c.push_slot_block.new.journal in
    let slots = c.args.slots.now in
    let k = c.numbers.block in
    let one : 1 ≤ k = c.numbers.auto.block in
    let front = c.split_at.result.0.now in
    let back = c.split_at.result.1.now in
    let images = c.numbers.batch in
    let first = c.numbers.invariant.looks in
    let s = disk m old in
    let same : disk m mid ≡ s = store_same m old mid call_answer first in
    let tells : TellsFrom k (front ++ back) slots = subst (λ (l : List ChangedSlot). TellsFrom k l slots) c.split_at.ensures.by_index.0 c.numbers.invariant.tells in
    let here : RiseIn (32 * (k - 1) + 1) (32 * k) front = subst (RiseIn (32 * (k - 1) + 1) (32 * k)) (sym c.split_at.ensures.front) (c.count_up_to.ensures.front (32 * (k - 1) + 1) 1024 c.numbers.invariant.rises) in
    let behind : RiseIn (32 * k + 1) 1024 back = subst (RiseIn (32 * k + 1) 1024) (sym c.split_at.ensures.back) (c.count_up_to.ensures.rest (32 * (k - 1) + 1) 1024 c.numbers.invariant.rises) in
    let pushed : c.push_slot_block.new.batch ≡ images ++ images_for k front (s Fast k) = c.in_ok-push_slot_block.ensures.pushed ∙ ap (λ (t : Store). images ++ images_for k front (t Fast k)) same in
    let long = ap length pushed ∙ length-append images (images_for k front (s Fast k)) in
    record {
      looks = looks_on m old mid new tt call_answer first (looks_answer m mid new c.in_ok-push_slot_block.field-0 tt c.in_ok-push_slot_block.ensures.looks);
      images = subst (HasSlotImages slots (s Fast) (k + 1)) (sym pushed) (one_block k 1024 slots front back one tells here behind (s Fast) images c.numbers.invariant.images);
      rises = subst (λ (n : ℕ). RiseIn (32 * n + 1) 1024 back) (omega arith) behind;
      tells = tells_on k 1024 slots front back one tells here behind;
      whole = λ j lt has. elim (cases_eq j k) [
        | inl is ↦ subst (λ (i : ℕ). length (s Fast i) ≡ 4096) (sym is) (whole_block k 1024 slots front back one tells here behind (s Fast k) (subst (λ (t : Store). 1 ≤ length front → length (t Fast k) ≡ 4096) same c.in_ok-push_slot_block.ensures.whole) (subst (λ (i : ℕ). has_slot i slots ≡ true) is has))
        | inr off ↦ c.numbers.invariant.whole j (omega (arith, lt, off)) has
      ];
      next = c.in_ok-push_slot_block.ensures.next;
      few_blocks = omega (arith, long, one_or_none k front (s Fast k), c.numbers.invariant.few_blocks);
      few = omega (arith, long, one_for_some k front (s Fast k), c.numbers.invariant.few, c.split_at.ensures.front_len, c.split_at.ensures.back_len);
      places = λ geometry. subst (AreJournaled geometry) (sym pushed) (journaled_both geometry images (images_for k front (s Fast k)) (c.numbers.invariant.places geometry) (slot_journaled geometry k front (s Fast k) (omega (arith, c.numbers-test.true))));
    }

pub returns-in_err-push_slot_block-clause-looks : goal.returns-in_err-push_slot_block-clause-looks
returns-in_err-push_slot_block-clause-looks g c =
    let m = g.M.Media in
    let p = err_from_is_err_and c.from_residual.result c.from_residual.ensures.1 in
    rw (p.1, p.2) (looks_on m c.args.journal.now c.numbers.journal c.push_slot_block.new.journal tt (Err c.in_err-push_slot_block.field-0.0) c.numbers.invariant.looks c.in_err-push_slot_block.ensures.looks)

pub returns-clause-images : goal.returns-clause-images
returns-clause-images g c =
    let last = c.numbers.auto.block-end in
    let end : c.numbers.block ≡ 33 = omega (arith, c.numbers-test.false, last (omega arith)) in
    subst (λ (n : ℕ). HasSlotImages c.args.slots.now (disk g.M.Media c.args.journal.now Fast) n c.numbers.batch) end c.numbers.invariant.images

pub returns-clause-whole : goal.returns-clause-whole
returns-clause-whole g c =
    all_whole 1 c.args.slots.now (disk g.M.Media c.args.journal.now Fast) c.requires.slots (λ k lt has. c.numbers.invariant.whole k (omega (arith, lt, c.numbers-test.false)) has)

pub returns-clause-next : goal.returns-clause-next
returns-clause-next g c =
    let last = c.numbers.auto.block-end in
    omega (arith, c.numbers.invariant.next, last (omega arith))

pub returns-clause-few : goal.returns-clause-few
returns-clause-few g c = omega (arith, c.numbers.invariant.few)

pub returns-clause-few_blocks : goal.returns-clause-few_blocks
returns-clause-few_blocks g c =
    let last = c.numbers.auto.block-end in
    omega (arith, c.numbers.invariant.few_blocks, last (omega arith))

pub returns-clause-places : goal.returns-clause-places
returns-clause-places g c = c.numbers.invariant.places

pub returns-clause-looks : goal.returns-clause-looks
returns-clause-looks g c = c.numbers.invariant.looks
