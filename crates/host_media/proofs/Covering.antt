-- What the calls of a file say of it stays covered by what the calls of the medium say.
use Rattle.std.proofs.Common.{◌≡◌, inl, inr, ℕ, ◌+◌, ◌≤◌, List, length, true, false, refl, sym, ◌∙◌, ap, subst, arith}
use Rattle.tier_device.specs.declared.media.Tier.{Tier}
use Rattle.tier_device.specs.declared.media.Tier.TheVariants.{Fast, Block, Slow}
use Rattle.tier_device.specs.DeviceCall.{Write, Fence}
use Rattle.tier_device.specs.Media.{Puts, overwritten}
use Rattle.tier_device.specs.RecordLaws.{length-overwritten, length-replayed}
use Rattle.tier_device.specs.Rows.{Rows, row}
use Rattle.tier_device.proofs.Grow.{cases_Tier}
use Rattle.host_media.specs.History.{History, and_then, after_sync}
use Rattle.host_media.specs.TierHistory.{LeftNow, LeftAt, shown_now}
use Rattle.host_media.specs.HistoryLaws.{at_now, of_now, shown_left}
use Rattle.host_media.specs.Cover.{Covers}
use Rattle.host_media.specs.PendingTiers.{pending_in, SetsPending}
use Rattle.host_media.specs.Place.{begin_of, total}
use Rattle.host_media.specs.declared.pending_tiers.Pending.{Pending}
use Rattle.host_media.proofs.Grow.{write_tears, write_tears_all, fence_shows, fence_leaves, fence_settles}

-- a place of tiers that show a history is that of its first bytes
pub same_place : (h : History) (rows : Rows) → ((t : Tier) → row rows t ≡ shown_now h t) → (t : Tier) → begin_of rows t ≡ begin_of h.first t
same_place h rows shows Fast = refl
same_place h rows shows Block = ap length (shows Fast) ∙ length-replayed Fast h.first.fast h.calls
same_place h rows shows Slow =
    let fast = ap length (shows Fast) ∙ length-replayed Fast h.first.fast h.calls in
    let block = ap length (shows Block) ∙ length-replayed Block h.first.block h.calls in
    omega (arith, fast, block)

module _ (f g h k : History) (tier : Tier) (at : ℕ) (v : List ℕ) (file : g ≡ and_then f (Write tier at v)) (media : k ≡ and_then h (Write tier at v))
    (file_fits : at + length v ≤ length (shown_now f tier)) (media_fits : at + length v ≤ length (shown_now h tier)) where
  pub cover_write : Covers f h → Covers g k
  cover_write covers t c left =
      let tears = write_tears f g tier at v file file_fits in
      let all = write_tears_all h k tier at v media media_fits in
      of_now k t c (elim (cases_Tier t tier) [
        | inl same ↦
            let torn = tears.here c (subst (λ u. LeftAt g (length g.calls) u c) same (at_now g t c left)) in
            let was = at_now h tier torn.0 (covers tier torn.0 (of_now f tier torn.0 torn.1)) in
            subst (λ u. LeftAt k (length k.calls) u c) (sym same) (all.here torn.0 c was torn.2)
        | inr apart ↦ all.others t c apart (at_now h t c (covers t c (of_now f t c (tears.others t c apart (at_now g t c left)))))
      ])

  -- a tier that was not pending and is not written stays settled
  pub settled_write : (old new : Tier → List ℕ) (bytes : List ℕ) → Puts tier bytes old new → (p q : Pending) → SetsPending tier p q
      → ((t : Tier) → pending_in p t ≡ false → (c : List ℕ) → LeftNow f t c → c ≡ old t) → (t : Tier) → pending_in q t ≡ false → (c : List ℕ) → LeftNow g t c → c ≡ new t
  settled_write old new bytes puts p q sets was t clean c left = elim (cases_Tier t tier) [
    | inl same ↦ let set : pending_in q t ≡ true = subst (λ u. pending_in q u ≡ true) (sym same) sets.here in absurd (not_both (sym set ∙ clean))
    | inr apart ↦ was t (sym (sets.others t apart) ∙ clean) c (of_now f t c ((write_tears f g tier at v file file_fits).others t c apart (at_now g t c left))) ∙ sym (puts.others t apart)
  ]
    where
      not_both : true ≡ false → ⊥
      not_both e = cc

-- after a fence of a tier a stop leaves of it what a read gives
fenced_left : (h k : History) (tier : Tier) → k ≡ and_then h (Fence tier) → (c : List ℕ) → LeftNow k tier c → c ≡ shown_now h tier
fenced_left h k tier grown c left = (fence_settles h k tier grown (shown_now h) refl).here c (at_now k tier c left)

-- and of each other what it might before
unfenced_left : (h k : History) (tier : Tier) → k ≡ and_then h (Fence tier) → (t : Tier) (c : List ℕ) → LeftNow k t c → LeftNow h t c
unfenced_left h k tier grown t c left = of_now h t c (fence_leaves h k tier grown t c (at_now k t c left))

module _ (f : History) where
  abbrev one : History
  one = and_then f (Fence Fast)

  abbrev two : History
  two = and_then one (Fence Block)

  three_left : (t : Tier) (c : List ℕ) → LeftNow (after_sync f) t c → c ≡ shown_now f t
  three_left Fast c left = fenced_left f one Fast refl c (unfenced_left one two Block refl Fast c (unfenced_left two (after_sync f) Slow refl Fast c left))
  three_left Block c left = fenced_left one two Block refl c (unfenced_left two (after_sync f) Slow refl Block c left) ∙ fence_shows f one Fast refl Block
  three_left Slow c left = fenced_left two (after_sync f) Slow refl c left ∙ fence_shows one two Block refl Slow ∙ fence_shows f one Fast refl Slow

  three_shows : (t : Tier) → shown_now (after_sync f) t ≡ shown_now f t
  three_shows t = fence_shows two (after_sync f) Slow refl t ∙ fence_shows one two Block refl t ∙ fence_shows f one Fast refl t

-- after a sync a stop leaves what a read gives, of each tier
pub synced_left : (f g : History) → g ≡ after_sync f → (t : Tier) (c : List ℕ) → LeftNow g t c → c ≡ shown_now f t
synced_left f g is t c left = three_left f t c (subst (λ (x : History). LeftNow x t c) is left)

pub synced_shows : (f g : History) → g ≡ after_sync f → (t : Tier) → shown_now g t ≡ shown_now f t
synced_shows f g is t = ap (λ (x : History). shown_now x t) is ∙ three_shows f t

pub cover_sync : (f g h : History) → g ≡ after_sync f → ((t : Tier) → shown_now f t ≡ shown_now h t) → Covers g h
cover_sync f g h is same t c left = subst (λ (d : List ℕ). LeftNow h t d) (sym (synced_left f g is t c left ∙ same t)) (shown_left h t)

-- a fence of a tier that is settled
pub cover_fence : (f h k : History) (tier : Tier) → k ≡ and_then h (Fence tier) → ((c : List ℕ) → LeftNow f tier c → c ≡ shown_now h tier) → Covers f h → Covers f k
cover_fence f h k tier grown settled covers t c left = elim (cases_Tier t tier) [
  | inl same ↦
      let here = settled c (subst (λ u. LeftNow f u c) same left) in
      subst (λ u. LeftNow k u c) (sym same) (subst (λ (d : List ℕ). LeftNow k tier d) (sym (here ∙ sym (fence_shows h k tier grown tier))) (shown_left k tier))
  | inr apart ↦ of_now k t c ((fence_settles h k tier grown (shown_now h) refl).others t c apart (at_now h t c (covers t c left)))
]

-- the same calls of the file
pub same_left : (f g : History) → g ≡ f → (t : Tier) (c : List ℕ) → LeftNow g t c → LeftNow f t c
same_left f g is t c left = subst (λ (x : History). LeftNow x t c) is left

-- a write keeps the lengths, and so their sum
pub same_total : (old new : Rows) (tier : Tier) (at : ℕ) (v : List ℕ) → at + length v ≤ length (row old tier) → Puts tier (overwritten (row old tier) at v) (row old) (row new) → total new ≡ total old
same_total old new tier at v fits puts = let f = kept Fast in let b = kept Block in let s = kept Slow in omega (arith, f, b, s)
  where
    kept : (u : Tier) → length (row new u) ≡ length (row old u)
    kept u = elim (cases_Tier u tier) [
      | inl same ↦ subst (λ w. length (row new w) ≡ length (row old w)) (sym same) (ap length puts.here ∙ length-overwritten (row old tier) at v fits)
      | inr apart ↦ ap length (puts.others u apart)
    ]
