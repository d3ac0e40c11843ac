use Rattle.std.proofs.Common.{◌≡◌, List, ◌<◌, length, take, Some, sym, ap, ◌∙◌, arith}
use Rattle.std.specs.Prelude.{option_map}
use Rattle.std.proofs.lemmas.List.{length-set, take_all, take_more_set}
use Rattle.layout.specs.Bytes.{items_at}
use Rattle.layout.specs.Marks.{mark_at}
use Rattle.layout.specs.declared.marks.Mark.{Mark}
use Rattle.layout.proofs.Items.{goes_on, ends, is_done}
use Rattle.layout.proofs.marks.clients_of.Goals as goal

pub returns-in_err-mark : goal.returns-in_err-mark
returns-in_err-mark c =
    let i = c.loop-client.client in
    ap (option_map (λ x. (x.0, x.1.now))) c.from_residual.ensures
    ∙ sym (ends mark_at (take i c.loop-client.clients) 8 i c.loop-client.rest.now (items_at mark_at 8 c.args.bytes.now) c.loop-client-test.true (sym c.in_err-mark.ensures) c.loop-client.invariant.1)

pub loop-client-preserved : goal.loop-client-preserved
loop-client-preserved c =
    let i = c.loop-client.client in
    let clients = c.loop-client.clients in
    let within : i < length clients = omega (arith, c.loop-client-test.true, c.loop-client.invariant.0) in (
      rw length-set c.loop-client.invariant.0,
      rw (take_more_set clients i c.in_ok-mark.mark within) (goes_on mark_at (take i clients) 8 i c.loop-client.rest.now c.in_ok-mark.mark c.in_ok-mark.after.now (items_at mark_at 8 c.args.bytes.now) c.loop-client-test.true (sym c.in_ok-mark.ensures) c.loop-client.invariant.1),
    )

pub returns : goal.returns
returns c =
    let i = c.loop-client.client in
    let clients = c.loop-client.clients in
    let all : take i clients ≡ clients = take_all i clients (omega (arith, c.loop-client-test.false, c.loop-client.invariant.0)) in
    ap (λ (ms : List Mark). Some (ms, c.loop-client.rest.now)) (sym all)
    ∙ sym (is_done mark_at (take i clients) 8 i c.loop-client.rest.now (items_at mark_at 8 c.args.bytes.now) c.loop-client-test.false c.loop-client.invariant.1)
