use Rattle.std.proofs.Common.{◌≡◌, ◌∙◌, List, ℕ, false, subst, arith}
use Rattle.tier_device.specs.declared.media.Tier.{Tier}
use Rattle.tier_device.specs.declared.media.Tier.TheVariants.{Fast}
use Rattle.tier_device.specs.AfterStop.{AtRest, Left}
use Rattle.area_reader.specs.batch_journal.View.{JournalView}
use Rattle.area_reader.specs.Store.{disk, store_of}
use Rattle.area_reader.specs.Reads.{Loose}
use Rattle.shared_area.specs.Ready.{OpensAs}
use Rattle.shared_area.proofs.Ready.{left_loose, left_opens}
use Rattle.shared_area.proofs.area.Shared.left_now.Goals as goal

pub returns-clause-rests : goal.returns-clause-rests
returns-clause-rests g c =
    let m = g.M.Media in
    subst (λ (v : JournalView _). v.failed ≡ false → (t : Tier) → AtRest (m.seen v.media) (m.left v.media (m.moment v.media)) t) c.self.view_is (λ going. (c.self.invariant going).rests)

pub returns-clause-loose : goal.returns-clause-loose
returns-clause-loose g c =
    let m = g.M.Media in
    let j = c.self.inside.journal in
    subst (λ (v : JournalView _). v.failed ≡ false → (content : Tier → List ℕ) → Left (m.left v.media) (m.moment v.media) content → Loose v.geometry (disk m v) (store_of content)) c.self.view_is
    (λ going content l. left_loose j.geometry (m.seen j.media) (m.left j.media (m.moment j.media)) c.self.inside.pools c.self.inside.marks c.self.inside.units (c.self.invariant going) content l)

pub returns-clause-same : goal.returns-clause-same
returns-clause-same g c =
    let m = g.M.Media in
    let j = c.self.inside.journal in
    subst (λ (v : JournalView _). v.failed ≡ false → (content : Tier → List ℕ) → Left (m.left v.media) (m.moment v.media) content → OpensAs v.geometry (disk m v) content) c.self.view_is
    (λ going content l. left_opens j.geometry (m.seen j.media) (m.left j.media (m.moment j.media)) c.self.inside.pools c.self.inside.marks c.self.inside.units (c.self.invariant going) content l
    (λ t. g.met.M.Media.sized j.media (m.moment j.media) t (content t) (omega arith) (l t) ∙ c.left_now.ensures.sizes going t)
    (c.left_now.ensures.journal going (content Fast) (l Fast)))
