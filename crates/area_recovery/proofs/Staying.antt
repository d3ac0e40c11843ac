-- What is recovered stays so while media move.
use Rattle.std.proofs.Common.{◌≡◌, ◌≢◌, ◌⊎◌, inl, inr, ℕ, ◌≤◌, true, false, List, ap, sym, ◌∙◌, subst, arith}
use Rattle.std.specs.Prelude.{nat_le, length}
use Rattle.std.proofs.lemmas.Bool.{cases_Bool}
use Rattle.std.proofs.lemmas.Bool.Decides.{nat_tests}
use Rattle.tier_device.specs.declared.media.Media.{Ghosts}
use Rattle.tier_device.specs.declared.media.Tier.{Tier}
use Rattle.tier_device.specs.declared.media.Tier.TheVariants.{Fast, Block, Slow}
use Rattle.tier_device.specs.AfterStop.{AtRest, Left}
use Rattle.recovery_laws.specs.layout.Places.{Sizes}
use Rattle.recovery_laws.specs.batch_journal.Blocks.{home}
use Rattle.recovery_laws.specs.batch_journal.Course.{Since}
use Rattle.recovery_laws.specs.batch_journal.Volume.{IsVolume, SameJournal, HasSizes}
use Rattle.recovery_laws.specs.area_reader.Format.{IsOpenable}
use Rattle.recovery_laws.specs.area_reader.Store.{content_blocks, graph, marks, store_of}
use Rattle.recovery_laws.proofs.batch_journal_lemmas.Openings.{spells_one}
use Rattle.posix_calls.specs.Tree.{State}
use Rattle.area_recovery.specs.Recovers.{Regions, Recovers}
use Rattle.area_recovery.specs.Phases.{StaysRecovered, Whatever}
use Rattle.area_recovery.proofs.Recovering.{recovers_same}

-- what the law of media says: what a read gives is left now, and a tier keeps its length
abbrev pub SeenNow : {M : Type 0} → Ghosts M → Type 0
SeenNow {M} device = (m : M) (t : Tier) → device.left m (device.moment m) t (device.seen m t)

-- one content has one geometry
pub one_geometry : (g h : Sizes) (content : Tier → List ℕ) → IsVolume g content → IsVolume h content → g ≡ h
one_geometry g h content first second = spells_one g h (home (content Fast) 0) first.journal.superblock second.journal.superblock

pub split : (m k : ℕ) → (m ≤ k) ⊎ (k ≤ m)
split m k = elim (cases_Bool (nat_le m k)) [ inl low ↦ inl (below m k low) | inr high ↦ inr (above m k high) ]
  where
    below : (a b : ℕ) → nat_le a b ≡ true → a ≤ b
    below a b e = grind (arith, nat_tests)

    above : (a b : ℕ) → nat_le a b ≡ false → b ≤ a
    above a b e = grind (arith, nat_tests)

module _ {M : Type 0} (device : Ghosts M) where
  -- what is read behind a phase is recovered
  pub recovered_now : SeenNow device → (AreSo : Regions → Type 0) (old new : M) → StaysRecovered device AreSo old new → (g : Sizes) (regions : Regions) (state : State) → AreSo regions → Recovers g regions state (device.seen old) → Recovers g regions state (device.seen new)
  recovered_now seen_now AreSo old new stays g regions state so r = stays.any_moment g regions state so r (device.moment new) (device.seen new) stays.later (omega arith) (seen_now new)

  -- one phase behind another
  pub stays_on : SeenNow device → (First Then : Regions → Type 0) (old mid new : M) → ((regions : Regions) → First regions → Then regions) → StaysRecovered device First old mid → StaysRecovered device Then mid new → StaysRecovered device First old new
  stays_on seen_now First Then old mid new on before behind = record {
    later = (let a = before.later in let b = behind.later in omega (arith, a, b));
    past = λ m t c low l. before.past m t c low (behind.past m t c (let a = before.later in omega (arith, low, a)) l);
    kept = λ m t c low l. behind.kept m t c (let a = before.later in omega (arith, low, a)) (before.kept m t c low l);
    any_moment = λ g regions state so r m content low high left. elim (split m (device.moment mid)) [
      | inl soon ↦ before.any_moment g regions state so r m content low soon (λ t. behind.past m t (content t) soon (left t))
      | inr late ↦ behind.any_moment g regions state (on regions so) (recovered_now seen_now First old mid before g regions state so r) m content late high left
    ];
  }

  -- a medium at rest is opened
  module _ (old new : M) (rest : (t : Tier) → AtRest (device.seen old) (device.left old (device.moment old)) t) (since : Since Fast (SameJournal (device.seen old Fast)) (device.moment old) (device.moment new) (device.left old) (device.left new)) where
    module _ (m : ℕ) (content : Tier → List ℕ) (low : device.moment old ≤ m) (high : m ≤ device.moment new) (left : Left (device.left new) m content) where
      fast_same : SameJournal (device.seen old Fast) (content Fast)
      fast_same = since.all m (content Fast) low high (left Fast)

      other_same : (t : Tier) → t ≢ Fast → content t ≡ device.seen old t
      other_same t other = rest t (content t) (since.others m t (content t) other low high (left t))

      tier_store : (t : Tier) → store_of content t ≡ store_of (device.seen old) t
      tier_store Fast = fast_same.blocks
      tier_store Block = ap (content_blocks Block) (other_same Block (λ e. cc))
      tier_store Slow = ap (content_blocks Slow) (other_same Slow (λ e. cc))

      left_store : store_of content ≡ store_of (device.seen old)
      left_store = λ p t. tier_store t p

      left_volume : (g : Sizes) → IsVolume g (device.seen old) → IsVolume g content
      left_volume g volume = record { sizes = sizes; journal = fast_same.journal g volume.journal }
        where
          sizes : HasSizes g content
          sizes Fast = (fast_same.journal g volume.journal).size
          sizes Block = ap length (other_same Block (λ e. cc)) ∙ volume.sizes Block
          sizes Slow = ap length (other_same Slow (λ e. cc)) ∙ volume.sizes Slow

      left_recovers : (g : Sizes) (regions : Regions) (state : State) → Recovers g regions state (device.seen old) → Recovers g regions state content
      left_recovers g regions state r =
          recovers_same g regions state (device.seen old) content r (left_volume g r.can.volume) (subst (IsOpenable g) (sym left_store) r.can.opens) (ap (graph g) left_store) (ap marks left_store)

    pub opened_volume : SeenNow device → (g : Sizes) → IsVolume g (device.seen old) → IsVolume g (device.seen new)
    opened_volume seen_now g volume = left_volume (device.moment new) (device.seen new) since.later (omega arith) (λ t. seen_now new t) g volume

    pub opened_stays : StaysRecovered device Whatever old new
    opened_stays = record {
      later = since.later;
      past = since.past;
      kept = since.kept;
      any_moment = λ g regions state so r m content low high left. left_recovers m content low high left g regions state r;
    }
