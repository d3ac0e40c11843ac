-- Which blocks the inodes of a plan keep, get and give up, once it is carried out.
use Rattle.std.proofs.Common.{◌≡◌, ◌↔◌, inl, inr, ℕ, Bool, true, false, refl, sym, ap, ◌∙◌, subst, Option, Some, None}
use Rattle.std.specs.Prelude.{◌==◌, option_map}
use Rattle.std.proofs.lemmas.Bool.{true≢false, ne_eqb, cond-false}
use Rattle.tier_device.specs.declared.media.Tier.{Tier}
use Rattle.tier_device.specs.declared.media.Tier.TheVariants.{Fast}
use Rattle.area_reader.specs.layout.declared.slot.Slot.{Slot}
use Rattle.area_reader.specs.layout.Places.{Sizes, is_inode}
use Rattle.area_reader.specs.extent_tree.Map.{TierRuns}
use Rattle.area_reader.specs.Store.{Store, slot, root_of}
use Rattle.area_reader.specs.Reads.{IsRoom, Untouched}
use Rattle.area_reader.specs.Format.{Use, used_block, IsSpelled}
use Rattle.area_reader.proofs.Frames.{block_for-kept}
use Rattle.area_reader.proofs.Lists.{place_placed, slot_here_fits}
use Rattle.area_reader.proofs.Shown.{slot_limits}
use Rattle.area_commit.specs.InodeRewrite.{IsWritten, IsFit, block_by}
use Rattle.area_commit.specs.StoreRewrite.{MayTake, AreWrittenAnew}
use Rattle.area_commit.proofs.TakenPlaces.{LieInPools, use_room}
use Rattle.area_commit.specs.BlockExchange.{BlockIsGivenUp, Exchanges, BlockIsTaken}
use Rattle.area_commit.specs.declared.plan.Rewrite.{Rewrite}
use Rattle.area_commit.specs.Plan.{IsLost, is_rewritten, IsPlanned}
use Rattle.area_commit.proofs.Chosen.{no_use, taken_free}

pub in_pools : (g : Sizes) (s : Store) → LieInPools g s
in_pools g s = record { roots = λ i t some. (slot_limits g (slot g s i) (slot_here_fits g s i)).roots t some; places = place_placed g s }

pub used_room : (g : Sizes) (s : Store) (u : Use) (t : Tier) (k : ℕ) → used_block g s u ≡ Some (t, k) → IsRoom g t k
used_room g s u t k at = use_room g s (in_pools g s) u (t, k) at

module _ (g : Sizes) (rewritten : ℕ → Bool) (x : ℕ → Slot) (m : ℕ → TierRuns) (s new : Store) (spelled : IsSpelled g s) (anew : AreWrittenAnew g rewritten x m s new) where
  not_taken : (v : Use) (b : Tier × ℕ) → rewritten v.inode ≡ false → used_block g s v ≡ Some b → MayTake g rewritten s b → ⊥
  not_taken v b other at (inl free) = no_use g s b.0 b.1 free v at
  not_taken v b other at (inr (u, its, here)) = true≢false (sym its ∙ (ap (λ (w : Use). rewritten w.inode) (spelled.apart u v b here at) ∙ other))

  stays : (v : Use) (t : Tier) (k : ℕ) → rewritten v.inode ≡ false → used_block g s v ≡ Some (t, k) → new t k ≡ s t k
  stays v t k other at = anew.blocks_stay t k (used_room g s v t k at) (not_taken v (t, k) other at)

  untouched : (i : ℕ) → rewritten i ≡ false → Untouched g s new i
  untouched i other = record {
    slot_is = λ number. anew.slots_stay i number other;
    roots = λ u some. stays (record { inode = i; tier = u; logical = None }) Fast (root_of (slot g s i) u) other (cond-false (root_of (slot g s i) u == 0) None (Some (Fast, root_of (slot g s i) u)) (ne_eqb (root_of (slot g s i) u) 0 some));
    mapped = λ t j k at. stays (record { inode = i; tier = t; logical = Some j }) t k other (ap (option_map (λ p. (t, p))) at);
  }

  pub others_use : (u : Use) → rewritten u.inode ≡ false → used_block g new u ≡ used_block g s u
  others_use u other = block_for-kept g s new u.inode (untouched u.inode other) u.tier u.logical

-- What is read of an inode that is written.
abbrev pub UsesAreRead : Sizes → Store → Type 0
UsesAreRead g new = (i : ℕ) (x : Slot) (m : TierRuns) → is_inode i ≡ true → IsFit g x m → IsWritten new i x m → (t : Tier) (k : Option ℕ) → used_block g new (record { inode = i; tier = t; logical = k }) ≡ block_by x m t k

module _ (g : Sizes) (s : Store) (x : ℕ → Slot) (m : ℕ → TierRuns) (plan : Rewrite) (new : Store) (spelled : IsSpelled g s) (planned : IsPlanned g s x m plan)
    (anew : AreWrittenAnew g (is_rewritten plan) x m s new) (read : UsesAreRead g new) where
  uses_now : (u : Use) → is_rewritten plan u.inode ≡ true → used_block g new u ≡ block_by (x u.inode) (m u.inode) u.tier u.logical
  uses_now u its = read u.inode (x u.inode) (m u.inode) (anew.inodes u.inode its) (anew.fit u.inode its) (anew.written u.inode its) u.tier u.logical

  pub exchanged : Exchanges g (is_rewritten plan) s new (BlockIsTaken plan.taken)
  exchanged = record {
    others = others_use g (is_rewritten plan) x m s new spelled anew;
    gets = λ i t k its v. (
        let mine : is_rewritten plan v.0.inode ≡ true = ap (is_rewritten plan) v.1 ∙ its in
        elim ((planned.each v.0.inode mine).uses v.0.tier v.0.logical (t, k) (sym (uses_now v.0 mine) ∙ v.2)) [ inl was ↦ inl (v.0, v.1, was) | inr took ↦ inr took ]
        );
    all = λ t k took. (let u = planned.all t k took in (u.0, uses_now u.0 u.1.0 ∙ u.1.1));
  }

  module _ (t : Tier) (k : ℕ) where
    given_of : IsLost g (is_rewritten plan) s x m t k → BlockIsGivenUp g (is_rewritten plan) s new t k
    given_of (i, its, loses) =
        let one : Use = record { inode = i; tier = loses.tier; logical = loses.logical } in
        record {
          inode = i;
          its = its;
          was = (one, refl, loses.was);
          none = λ v. (
              let mine : is_rewritten plan v.0.inode ≡ true = ap (is_rewritten plan) v.1 ∙ its in
              let takes : block_by (x v.0.inode) (m v.0.inode) v.0.tier v.0.logical ≡ Some (t, k) = sym (uses_now v.0 mine) ∙ v.2 in
              elim ((planned.each v.0.inode mine).uses v.0.tier v.0.logical (t, k) takes) [
                | inl was ↦ loses.none (subst (λ (w : Use). block_by (x w.inode) (m w.inode) w.tier w.logical ≡ Some (t, k)) (spelled.apart v.0 one (t, k) was loses.was) takes)
                | inr took ↦ no_use g s t k (taken_free g s plan.taken planned.free t k took) one loses.was
              ]
              );
        }

    lost_of : BlockIsGivenUp g (is_rewritten plan) s new t k → IsLost g (is_rewritten plan) s x m t k
    lost_of it = (
      it.inode,
      it.its,
      record {
        tier = it.was.0.tier;
        logical = it.was.0.logical;
        was = subst (λ (i : ℕ). used_block g s (record { inode = i; tier = it.was.0.tier; logical = it.was.0.logical }) ≡ Some (t, k)) it.was.1 it.was.2;
        none = λ at. it.none (record { inode = it.inode; tier = it.was.0.tier; logical = it.was.0.logical }, refl, uses_now (record { inode = it.inode; tier = it.was.0.tier; logical = it.was.0.logical }) it.its ∙ at);
      },
    )

    pub lost_given : IsLost g (is_rewritten plan) s x m t k ↔ BlockIsGivenUp g (is_rewritten plan) s new t k
    lost_given = (given_of, lost_of)
