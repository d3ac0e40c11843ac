use Rattle.std.proofs.Common.{◌≡◌, None, ap, sym, ◌∙◌, subst}
use Rattle.std.specs.Prelude.{◌==◌, IsSome}
use Rattle.client_log.specs.call_effects.Knowledge.{Knowledge, with_copy}
use Rattle.client_view.specs.KnowledgeTables.{Held, copy_at}
use Rattle.libfs.specs.ClientHoldings.{known_to}
use Rattle.libfs.specs.View.{ClientView}
use Rattle.libfs.proofs.Kept.{put_some, sound_copies}
use Rattle.libfs.proofs.client.Client.put_copy.Goals as goal

pub invariant_of-self : goal.invariant_of-self
invariant_of-self g c =
    let s = c.self.inside in
    let none : s.begun ≡ None = ap (λ (v : ClientView _). v.begun) c.self.view_is ∙ c.requires.idle in
    sound_copies g.M.Media s.leases s.pass s.log s.copies s.begun s.answered s.records c.self.invariant c.put_view.new.self none (ap (λ (h : Held). h.client) c.put_view.ensures.rest)
    (λ j some copy. subst (λ (k : Knowledge). IsSome (k.copies j)) (sym c.put_view.ensures.known) (put_some (j == c.args.inode) c.args.node (copy_at s.copies.copies j) copy))

pub returns-clause-known : goal.returns-clause-known
returns-clause-known g c =
    c.put_view.ensures.more (ap (λ (v : ClientView _). (known_to v).copies c.args.inode) c.self.view_is ∙ c.requires.none)
    ∙ ap (λ (v : ClientView _). with_copy (known_to v) c.args.inode c.args.node) c.self.view_is
