use Rattle.std.proofs.Common.{◌<◌, sym, subst, arith}
use Rattle.std.proofs.lemmas.Result.{on_ok_weaker}
use Rattle.client_view.specs.KnowledgeTables.{Held, knows}
use Rattle.client_view.specs.BlockPut.{IsBlockLong}
use Rattle.client_view.proofs.Put.{kept_after, there_after, less_after}
use Rattle.client_view.proofs.copies.ClientCopies.put_block.Goals as goal

pub returns-clause-there : goal.returns-clause-there
returns-clause-there c =
    let low : c.args.block < 4294967296 = omega arith in
    let h : Held = record { client = c.self.inside.client; own = c.self.inside.own; copies = c.self.inside.copies.items; blocks = c.self.inside.blocks; numbers = c.self.inside.numbers.items } in
    let long : IsBlockLong (knows h) c.args.inode c.args.block c.args.bytes.now = subst (λ (k : Held). IsBlockLong (knows k) c.args.inode c.args.block c.args.bytes.now) (sym c.self.view_is) c.requires in
    on_ok_weaker c.put_padded.result (λ e. there_after h c.args.inode c.args.block c.args.bytes.now c.put_padded.new.blocks e low long) c.put_padded.ensures.put

pub returns-clause-kept : goal.returns-clause-kept
returns-clause-kept c =
    let h : Held = record { client = c.self.inside.client; own = c.self.inside.own; copies = c.self.inside.copies.items; blocks = c.self.inside.blocks; numbers = c.self.inside.numbers.items } in
    rw (← c.self.view_is) (on_ok_weaker c.put_padded.result (λ e. kept_after h c.args.inode c.args.block c.args.bytes.now c.put_padded.new.blocks e) c.put_padded.ensures.put)

pub returns-clause-no_more : goal.returns-clause-no_more
returns-clause-no_more c =
    let low : c.args.block < 4294967296 = omega arith in
    let h : Held = record { client = c.self.inside.client; own = c.self.inside.own; copies = c.self.inside.copies.items; blocks = c.self.inside.blocks; numbers = c.self.inside.numbers.items } in
    let long : IsBlockLong (knows h) c.args.inode c.args.block c.args.bytes.now = subst (λ (k : Held). IsBlockLong (knows k) c.args.inode c.args.block c.args.bytes.now) (sym c.self.view_is) c.requires in
    rw (← c.self.view_is) (on_ok_weaker c.put_padded.result (λ e. less_after h c.args.inode c.args.block c.args.bytes.now c.put_padded.new.blocks e low long) c.put_padded.ensures.put)
