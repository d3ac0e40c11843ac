use Rattle.std.proofs.Common.{◌∙◌, sym, ap, refl}
use Rattle.std.proofs.lemmas.Bool.{not-false}
use Rattle.posix_calls.specs.Own.{own_of}
use Rattle.posix_calls.specs.Tree.{Own}
use Rattle.client_plan.specs.Holdings.{first_unused}
use Rattle.client_plan.proofs.plain_writes.writable_inode.Goals as goal

pub returns-in-None-clause-writable : goal.returns-in-None-clause-writable
returns-in-None-clause-writable g c =
    let h = g.S.Supplies.holdings c.args.has.now in
    record {
      descriptor = c.in_ok-open.open;
      is = ap (λ (own : Own). own c.args.number) (sym c.own.ensures) ∙ sym c.get.ensures ∙ c.in_ok-open.was;
      writes = not-false _ c.if-not-open.false;
      same = refl;
      inode = sym c.is_inode.ensures ∙ c.if-not-is_inode.false;
      held = sym c.may_write.ensures ∙ c.if-not-may_write.false;
      pins = ap (λ (own : Own). first_unused own h.pins) (sym c.own-2.ensures) ∙ ap (first_unused (own_of c.own-2.result.now)) (sym c.pins.ensures) ∙ sym c.first_unused.ensures ∙ c.in-None.is;
    }
