use Rattle.std.proofs.Common.{◌≡◌, ◌∙◌, ◌==◌, ◌≤◌, ℕ, List, Bool, true, false, cond, inl, inr, length, sym, ap, subst, refl, arith}
use Rattle.std.proofs.lemmas.Bool.{false≢true}
use Rattle.std.proofs.lemmas.Result.{err_from_is_err_and}
use Rattle.tier_device.specs.declared.media.Tier.{Tier}
use Rattle.tier_device.specs.declared.media.Tier.TheVariants.{Fast}
use Rattle.batch_journal.specs.Images.{slice, image_count, target_at}
use Rattle.batch_journal.specs.Blocks.{area_of}
use Rattle.batch_journal.specs.Volume.{Spells, HasSizes, IsHead}
use Rattle.batch_journal.specs.Damage.{HasNoSuper, super_block}
use Rattle.batch_journal.proofs.Courses.{unmoved_on, tiers_same, on_damage}
use Rattle.batch_journal.proofs.Opens.{tells_as, tells_on, head_count, head_whole, head_back, super_there, open_volume}
use Rattle.batch_journal.proofs.journal_open.read_volume.Goals as goal

pub returns-in_err-count-clause-named : goal.returns-in_err-count-clause-named
returns-in_err-count-clause-named g c =
    let p = err_from_is_err_and c.from_residual.result c.from_residual.ensures.1 in
    rw (p.1, p.2) (on_damage c.in_err-count.field-0.0 (λ w block is. inr (inl (record { structure = is.0; place = is.1; size = c.requires.size; rest = c.requires.gate; opened = c.requires.opened; head = elim is.2 [ inl few ↦ inl few | inr many ↦ inr (inl many) ] }))) c.in_err-count.ensures.damaged)

at_most : (b : Bool) → cond b 147456 0 ≤ 147456
at_most = elim [ true ↦ omega arith | false ↦ omega arith ]

pub read_geometry-requires : goal.read_geometry-requires
read_geometry-requires g c =
    let low = at_most (target_at c.read_head.new.head 0 == 0) in
    let size = ap length (c.read_head.ensures.unmoved.reads Fast) in
    omega (arith, c.superblock_in.ensures, low, size, c.requires.size)

-- the block that was read
module _ (s t : Tier → List ℕ) (reads : (x : Tier) → t x ≡ s x) (at : ℕ) (super : slice at 4096 (s Fast) ≡ super_block (s Fast)) where
  pub none_there : HasNoSuper (slice at 4096 (t Fast)) t → HasNoSuper (super_block (s Fast)) s
  none_there none =
      let tiers : t ≡ s = tiers_same s t reads in
      subst (λ (x : List ℕ). HasNoSuper x s) super (subst (λ (x : Tier → List ℕ). HasNoSuper (slice at 4096 (x Fast)) x) tiers none)

pub returns-in_err-geometry-clause-named : goal.returns-in_err-geometry-clause-named
returns-in_err-geometry-clause-named g c =
    let m = g.M.Media in
    let s = m.seen c.args.media.now in
    let at = c.superblock_in.result in
    let super : slice at 4096 (s Fast) ≡ super_block (s Fast) = ap (λ k. slice k 4096 (s Fast)) c.superblock_in.ensures ∙ super_there (s Fast) c.read_head.new.head c.requires.size c.in_ok-count.ensures.head c.requires.opened in
    let p = err_from_is_err_and c.from_residual-in_err-geometry.result c.from_residual-in_err-geometry.ensures.1 in
    rw (p.1, p.2) (on_damage c.in_err-geometry.field-0.0 (λ w block is. inr (inr (record {
      structure = is.0;
      place = is.1;
      none = inr (c.requires.gate, λ opened. (omega (arith, c.in_ok-count.ensures.some, c.in_ok-count.ensures.count), omega (arith, c.in_ok-count.ensures.few, c.in_ok-count.ensures.count)), none_there s (m.seen c.read_head.new.media) c.read_head.ensures.unmoved.reads at super is.2);
    }))) c.in_err-geometry.ensures.damaged)

pub returns-in_err-geometry-clause-unmoved : goal.returns-in_err-geometry-clause-unmoved
returns-in_err-geometry-clause-unmoved g c = unmoved_on c.read_head.ensures.unmoved c.read_geometry.ensures.unmoved

pub returns-in_err-geometry-clause-faults : goal.returns-in_err-geometry-clause-faults
returns-in_err-geometry-clause-faults g c =
    let m = g.M.Media in
    let p = err_from_is_err_and c.from_residual-in_err-geometry.result c.from_residual-in_err-geometry.ensures.1 in
    rw (p.1, p.2) (tells_on (m.faults c.args.media.now) (m.faults c.read_head.new.media) (m.faults c.read_geometry.new.media) _ c.in_ok-count.ensures.faults.quiet (tells_as (m.faults c.read_head.new.media) (m.faults c.read_geometry.new.media) c.in_err-geometry.field-0.0 c.in_err-geometry.ensures.faults))

pub is_head-requires-clause-count : goal.is_head-requires-clause-count
is_head-requires-clause-count g c =
    let seen = g.M.Media.seen c.args.media.now Fast in
    c.in_ok-count.ensures.count ∙ sym (head_count seen c.read_head.new.head c.requires.size c.in_ok-count.ensures.head)

pub returns-then-not-is_head-clause-named : goal.returns-then-not-is_head-clause-named
returns-then-not-is_head-clause-named g c =
    let m = g.M.Media in
    let s = m.seen c.args.media.now in
    let t = m.seen c.read_head.new.media in
    let reads = c.read_head.ensures.unmoved.reads in
    let h = c.in_ok-geometry.geometry in
    let at = c.superblock_in.result in
    let super : slice at 4096 (t Fast) ≡ super_block (s Fast) = ap (λ (x : List ℕ). slice at 4096 x) (reads Fast) ∙ ap (λ k. slice k 4096 (s Fast)) c.superblock_in.ensures ∙ super_there (s Fast) c.read_head.new.head c.requires.size c.in_ok-count.ensures.head c.requires.opened in
    let spells : Spells h (super_block (s Fast)) = subst (λ (x : List ℕ). Spells h x) super c.in_ok-geometry.ensures.spells in
    let sizes : HasSizes h s = λ x. sym (ap length (reads x)) ∙ c.in_ok-geometry.ensures.sizes x in
    let few : image_count (area_of (s Fast)) ≤ 256 = omega (arith, c.in_ok-count.ensures.few, c.in_ok-count.ensures.count) in
    let none : IsHead h (area_of (s Fast)) → ⊥ = λ head. false≢true (sym c.if-not-is_head.true ∙ c.is_head.ensures.1 (head_back (s Fast) c.read_head.new.head c.requires.size c.in_ok-count.ensures.head few h head)) in
    inr (inl (record { structure = refl; place = refl; size = c.requires.size; rest = c.requires.gate; opened = c.requires.opened; head = inr (inr (h, spells, sizes, none)) }))

pub returns-then-not-is_head-clause-unmoved : goal.returns-then-not-is_head-clause-unmoved
returns-then-not-is_head-clause-unmoved g c = unmoved_on c.read_head.ensures.unmoved c.read_geometry.ensures.unmoved

pub returns-clause-is : goal.returns-clause-is
returns-clause-is g c =
    let m = g.M.Media in
    let s = m.seen c.args.media.now in
    let t = m.seen c.read_head.new.media in
    let reads = c.read_head.ensures.unmoved.reads in
    let h = c.in_ok-geometry.geometry in
    let at = c.superblock_in.result in
    let super : slice at 4096 (t Fast) ≡ super_block (s Fast) = ap (λ (x : List ℕ). slice at 4096 x) (reads Fast) ∙ ap (λ k. slice k 4096 (s Fast)) c.superblock_in.ensures ∙ super_there (s Fast) c.read_head.new.head c.requires.size c.in_ok-count.ensures.head c.requires.opened in
    let spells : Spells h (super_block (s Fast)) = subst (λ (x : List ℕ). Spells h x) super c.in_ok-geometry.ensures.spells in
    let sizes : HasSizes h s = λ x. sym (ap length (reads x)) ∙ c.in_ok-geometry.ensures.sizes x in
    let few : image_count (area_of (s Fast)) ≤ 256 = omega (arith, c.in_ok-count.ensures.few, c.in_ok-count.ensures.count) in
    let head : IsHead h (area_of (s Fast)) = head_whole (s Fast) c.read_head.new.head c.requires.size c.in_ok-count.ensures.head few h (c.is_head.ensures.0 c.if-not-is_head.false) in
    open_volume h s c.requires.opened c.requires.gate sizes spells head

pub returns-clause-unmoved : goal.returns-clause-unmoved
returns-clause-unmoved g c = unmoved_on c.read_head.ensures.unmoved c.read_geometry.ensures.unmoved
