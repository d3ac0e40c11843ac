use Rattle.std.proofs.Common.{◌≡◌, ◌*◌, ◌<◌, List, [], length, take, get_or, refl, ap, ◌∙◌, arith, rules}
use Rattle.std.specs.List.{flat_map}
use Rattle.std.proofs.lemmas.List.{length-take, take_all}
use Rattle.layout.specs.declared.marks.Mark.{Mark}
use Rattle.layout.specs.Bytes.{padded_text}
use Rattle.layout.specs.Marks.{mark_text}
use Rattle.layout.proofs.Blocks.{blank_filled, written_u64}
use Rattle.layout.proofs.Items.{item_on}
use Rattle.layout.proofs.MarksLaws.{mark_text_long, mark_texts_long}
use Rattle.layout.proofs.marks.MarksImage.encode_into.Goals as goal

pub loop-client-init : goal.loop-client-init
loop-client-init c = blank_filled 4096 c.args.slot.now c.requires.long c.requires.blank

pub loop-client-preserved : goal.loop-client-preserved
loop-client-preserved c =
    let i = c.loop-client.client in
    let clients = c.args.self.now.clients in
    let first : Mark = record { generation = 0; done = 0 } in
    let mark : Mark = get_or clients i first in
    let eight : length clients ≡ 8 = search rules in
    let within : i < length clients = omega (arith, c.loop-client-test.true, eight) in
    let long : length (flat_map mark_text (take i clients)) ≡ 16 * i = omega (arith, mark_texts_long (take i clients), length-take i clients, within) in
    c.put_mark.ensures
    ∙ item_on mark_text 4096 (16 * i) i [] clients mark first c.loop-client.slot c.loop-client.invariant long (omega (arith, c.loop-client-test.true, mark_text_long mark)) within refl

pub returns : goal.returns
returns c =
    let clients = c.args.self.now.clients in
    let eight : length clients ≡ 8 = search rules in
    let all = take_all c.loop-client.client clients (omega (arith, c.loop-client-test.false, eight)) in
    let block : c.loop-client.slot ≡ padded_text 4096 (flat_map mark_text clients) = c.loop-client.invariant ∙ ap (λ (ms : List Mark). padded_text 4096 (flat_map mark_text ms)) all in
    let w = written_u64 4096 128 c.args.self.now.digests (flat_map mark_text clients) c.loop-client.slot block (omega (arith, mark_texts_long clients, eight)) (omega arith) in
    c.put_u64.ensures ∙ w.0
