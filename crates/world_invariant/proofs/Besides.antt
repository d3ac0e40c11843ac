-- What the kernel does beside a begun call, and beside an open file.
use Rattle.std.proofs.Common.{◌≡◌, ℕ, true, List, Some, ap, sym, ◌∙◌}
use Rattle.posix_calls.specs.Operations.{is_client}
use Rattle.posix_calls.specs.declared.descriptor.Descriptor.{Descriptor}
use Rattle.call_effects.specs.file_graph.Graph.{after_effects}
use Rattle.call_effects.specs.log_record.declared.format.Record.{Record}
use Rattle.world_invariant.specs.World.{Begun, Client, World, whole_graph}
use Rattle.world_invariant.specs.Invariant.{IsCoherent}
use Rattle.world_invariant.specs.ClientSteps.{IsBegun, after_reply}
use Rattle.world_invariant.specs.KernelSteps.{CanDigest, records_digested, CanReclaim}
use Rattle.world_invariant.proofs.Records.{both}
use Rattle.world_invariant.proofs.Moved.{at_same}
use Rattle.world_invariant.proofs.Digests.{digest_keeps, digested_holds}
use Rattle.world_invariant.proofs.Replies.{replied_whole}

module _ (w : World) (c d : ℕ) (b : Begun) (first rest : List Record) (h : IsCoherent w) (is : IsBegun w c b) (can : CanDigest w d first rest) where
  pub begun_still : IsBegun (records_digested w d first) c b
  begun_still = record { client = is.client; there = ap (λ (f : ℕ → Client). (f c).begun) (at_same w.clients d) ∙ is.there; known = λ e. is.known (sym (ap (λ (f : ℕ → Client). (f c).status) (at_same w.clients d)) ∙ e) }

  pub replied_beside : whole_graph (after_reply (records_digested w d first) c b) ≡ after_effects (whole_graph w) b.change.effects
  replied_beside = replied_whole (records_digested w d first) c b (digested_holds w d first rest h can) begun_still ∙ ap (λ g. after_effects g b.change.effects) (digest_keeps w d first rest h can)

-- what is open is not reclaimed
pub open_stays : (w : World) (c n : ℕ) (o : Descriptor) → IsCoherent w → is_client c ≡ true → (w.clients c).knows.own n ≡ Some o → CanReclaim w.kernel o.inode → ⊥
open_stays w c n o h is_c there can = both ((w.kernel.accounts c).pins o.inode) ((h.stands c is_c).pinned.booked o.inode ((h.stands c is_c).pinned.opened n o there)) (can.unpinned c is_c)
