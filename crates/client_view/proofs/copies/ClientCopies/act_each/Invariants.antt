use Rattle.std.proofs.Common.{◌≡◌, ◌≤◌, ℕ, None, get_or, take}
use Rattle.client_view.specs.KnowledgeTables.{knows}
use Rattle.client_view.specs.AfterRecord.{with_effects, without_touched}
use Rattle.client_view.proofs.copies.ClientCopies.act_each.Given as goal

abbrev pub invariant-loop-place : goal.invariant-loop-place
invariant-loop-place l = record {
  known : knows l.self ≡ with_effects (knows l.fn.self) (take l.place l.effects);
  order : l.self.blocks ≡ without_touched l.fn.self.blocks (take l.place l.effects);
  rooms : (n : ℕ) → l.place ≤ n → get_or l.rooms.items n None ≡ get_or l.fn.rooms.items n None;
}
