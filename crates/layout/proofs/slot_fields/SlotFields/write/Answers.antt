use Rattle.std.proofs.Common.{◌≡◌, ℕ, List, [], ◌++◌, refl, ap, ◌∙◌, append_assoc, arith}
use Rattle.layout.specs.Bytes.{u32, u64, zeros, padded_text}
use Rattle.layout.proofs.Blocks.{filled_nothing, written_u32, written_u64}
use Rattle.layout.proofs.slot_fields.SlotFields.write.Goals as goal

pub returns : goal.returns
returns c =
    let f = c.args.self.now in
    let b0 : c.clear.new.bytes ≡ padded_text 128 [] = c.clear.ensures.zeros ∙ ap zeros c.requires ∙ filled_nothing 128 in
    let w1 = written_u32 128 0 f.kind [] c.clear.new.bytes b0 refl (omega arith) in
    let w2 = written_u32 128 4 f.names (u32 f.kind) c.put_u32.new.bytes (c.put_u32.ensures ∙ w1.0) w1.1 (omega arith) in
    let t2 : List ℕ = u32 f.kind ++ u32 f.names in
    let w3 = written_u64 128 8 f.size t2 c.put_u32-2.new.bytes (c.put_u32-2.ensures ∙ w2.0) w2.1 (omega arith) in
    let t3 : List ℕ = t2 ++ u64 f.size in
    let w4 = written_u64 128 16 f.touch t3 c.put_u64.new.bytes (c.put_u64.ensures ∙ w3.0) w3.1 (omega arith) in
    let t4 : List ℕ = t3 ++ u64 f.touch in
    let w5 = written_u32 128 24 f.fast t4 c.put_u64-2.new.bytes (c.put_u64-2.ensures ∙ w4.0) w4.1 (omega arith) in
    let t5 : List ℕ = t4 ++ u32 f.fast in
    let w6 = written_u32 128 28 f.block t5 c.put_u32-3.new.bytes (c.put_u32-3.ensures ∙ w5.0) w5.1 (omega arith) in
    let t6 : List ℕ = t5 ++ u32 f.block in
    let w7 = written_u32 128 32 f.slow t6 c.put_u32-4.new.bytes (c.put_u32-4.ensures ∙ w6.0) w6.1 (omega arith) in
    c.put_u32-5.ensures ∙ w7.0 ∙ ap (padded_text 128) (simp append_assoc)
